-- The guideline that a load leaves: its structure without the places of the text (each is 0) and without parentheses, so that two texts which differ
-- in blanks, comments or parentheses alone leave the same. Decided. Definitions only.
use Rattle.std.specs.Prelude.{List, [], ◌∷◌, map}
use Rattle.paper_expressions.specs.Syntax.{bare}
use Rattle.paper_guideline.specs.Structure
use Structure.{Name, Outermost, Placed, Assignment, ComponentAttribute, schedule_constraint, terminal, Generic, caption, description, SourceAttribute, source_generic, mandatory}
use Structure.{Attribute, generic, precondition, wait_condition, terminate, postcondition, trigger, component, source, Task, DataItem, TopLevel, task, data_item}

abbrev pub bare_name : Name → Name
bare_name n = record { spelt = n.spelt; place = 0 }

abbrev pub bare_expression : Outermost → Outermost
bare_expression x = record { start = 0; tree = bare x.tree }

abbrev pub bare_placed : {A : Type 0} → (A → A) → Placed A → Placed A
bare_placed f x = record { word = 0; what = f x.what }

abbrev pub bare_assignment : Assignment → Assignment
bare_assignment a = record { target = bare_name a.target; value = bare_expression a.value }

abbrev pub bare_component : ComponentAttribute → ComponentAttribute
bare_component (schedule_constraint n) = schedule_constraint (bare_name n)
bare_component (terminal b) = terminal b

abbrev pub bare_generic : Generic → Generic
bare_generic (caption x) = caption (bare_expression x)
bare_generic (description x) = description (bare_expression x)

abbrev pub bare_source : SourceAttribute → SourceAttribute
bare_source (source_generic g) = source_generic (bare_generic g)
bare_source (mandatory b) = mandatory b

abbrev pub bare_attribute : Attribute → Attribute
bare_attribute (generic g) = generic (bare_generic g)
bare_attribute (precondition x) = precondition (bare_expression x)
bare_attribute (wait_condition x) = wait_condition (bare_expression x)
bare_attribute (terminate x) = terminate (bare_expression x)
bare_attribute (postcondition xs) = postcondition (map bare_assignment xs)
bare_attribute (trigger n) = trigger (bare_name n)
bare_attribute (component n xs) = component (bare_name n) (map (bare_placed bare_component) xs)
bare_attribute (source n xs) = source (bare_name n) (map (bare_placed bare_source) xs)

abbrev pub bare_task : Task → Task
bare_task t = record { class = t.class; named = bare_name t.named; attributes = map (bare_placed bare_attribute) t.attributes }

abbrev pub bare_item : DataItem → DataItem
bare_item d = record { named = bare_name d.named; declared = d.declared; attributes = map (bare_placed bare_generic) d.attributes }

abbrev pub bare_top : TopLevel → TopLevel
bare_top (task t) = task (bare_task t)
bare_top (data_item d) = data_item (bare_item d)

abbrev pub bare_guideline : List TopLevel → List TopLevel
bare_guideline g = map bare_top g
