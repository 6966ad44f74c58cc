-- Names (refusal 4): section 6 and document 01's list, each rule with the place of its breach. Definitions only.
-- 6.1, 2 to 4 are about result_of, netsupport and param_value, which are left out.
use Rattle.std.specs.Prelude.{ℕ, ◌<◌, ◌≡◌, Bool, ◌⊎◌}
use mathlib.Core.List.{List, [], ◌∷◌, Memᴰ}
use Rattle.paper_expressions.specs.Bytes.{Alike}
use Rattle.paper_expressions.specs.View.{At}
use Rattle.paper_tokens.specs.Tokens
use Tokens.{“caption”, “description”, “precondition”, “wait-condition”, “postcondition”, “trigger”, “terminate”, “component”, “source”}
use Tokens.{“schedule-constraint”, “terminal”, “mandatory”}
use Rattle.paper_guideline.specs.Structure
use Structure.{Name, Placed, Assignment, ComponentAttribute, schedule_constraint, terminal, Generic, caption, description, SourceAttribute, source_generic, mandatory}
use Structure.{Attribute, generic, precondition, wait_condition, terminate, postcondition, trigger, component, source, Task, DataItem, TopLevel, tasks, data_items}
use Rattle.paper_guideline.specs.Parts.{assignments, Component, components_of, components, Source, sources_of, sources}

-- ---- repeated attributes: the words, and those that may stand again

abbrev pub generic_word : Generic → ℕ
generic_word (caption x) = “caption”
generic_word (description x) = “description”

abbrev pub word_of : Attribute → ℕ
word_of (generic g) = generic_word g
word_of (precondition x) = “precondition”
word_of (wait_condition x) = “wait-condition”
word_of (terminate x) = “terminate”
word_of (postcondition xs) = “postcondition”
word_of (trigger n) = “trigger”
word_of (component n xs) = “component”
word_of (source n xs) = “source”

abbrev pub component_word : ComponentAttribute → ℕ
component_word (schedule_constraint n) = “schedule-constraint”
component_word (terminal b) = “terminal”

abbrev pub source_word : SourceAttribute → ℕ
source_word (source_generic g) = generic_word g
source_word (mandatory b) = “mandatory”

-- "no attribute twice but component, schedule_constraint and source"
pub data MayRepeat : ℕ → Type 0 where
  component_may : MayRepeat “component”
  constraint_may : MayRepeat “schedule-constraint”
  source_may : MayRepeat “source”

-- of these attributes of one owner, the later of two with the same word stands at the place
pub record Repeated {A : Type 0} (word : A → ℕ) (attributes : List (Placed A)) (place : ℕ) : Type 0 where
  pub i : ℕ
  pub j : ℕ
  pub earlier : Placed A
  pub later : Placed A
  pub in_order : i < j
  pub at_i : At attributes i earlier
  pub at_j : At attributes j later
  pub same : word earlier.what ≡ word later.what
  pub once : ¬ MayRepeat (word earlier.what)
  pub there : place ≡ later.word

-- ---- tasks and components

-- the component names the task, exactly as it is spelt
abbrev pub Names : Component → Task → Type 0
Names c t = c.named.spelt ≡ t.named.spelt

-- "is reached from the root": the root is, and the tasks that a reached plan's components name
pub data Reached (g : List TopLevel) : ℕ → Type 0 where
  the_root : Reached g 0
  by_component : {i j k : ℕ} {p t : Task} {c : Component}
      → Reached g i → At (tasks g) i p → At (components_of p) k c → At (tasks g) j t → Names c t → Reached g j

-- ---- the breaches, each at its place

pub data NameBreach (g : List TopLevel) : ℕ → Type 0 where
  -- "no name defined twice for the same kind of thing": the later of two
  task_twice : {i j : ℕ} {s t : Task} → i < j → At (tasks g) i s → At (tasks g) j t
      → Alike s.named.spelt t.named.spelt → NameBreach g t.named.place
  data_item_twice : {i j : ℕ} {s t : DataItem} → i < j → At (data_items g) i s → At (data_items g) j t
      → Alike s.named.spelt t.named.spelt → NameBreach g t.named.place
  -- "no attribute twice": of a task, of a component, of a source, of a data item
  task_attribute_twice : {i p : ℕ} {t : Task} → At (tasks g) i t → Repeated word_of t.attributes p → NameBreach g p
  component_attribute_twice : {i p : ℕ} {c : Component} → At (components g) i c → Repeated component_word c.attributes p → NameBreach g p
  source_attribute_twice : {i p : ℕ} {s : Source} → At (sources g) i s → Repeated source_word s.attributes p → NameBreach g p
  data_attribute_twice : {i p : ℕ} {d : DataItem} → At (data_items g) i d → Repeated generic_word d.attributes p → NameBreach g p
  -- 6.1: "1. If a plan definition contains a component definition for a component named T then the guideline must contain exactly one
  -- task definition for a task named T." (its "exactly one": task-twice)
  component_of_no_task : {i : ℕ} {c : Component} → At (components g) i c
      → ((j : ℕ) (t : Task) → At (tasks g) j t → ¬ Names c t) → NameBreach g c.named.place
  -- "the root, which is a component of none"
  component_is_root : {i : ℕ} {c : Component} {root : Task} → At (components g) i c → At (tasks g) 0 root → Names c root → NameBreach g c.named.place
  -- "every task but the root is a component exactly once": not twice
  component_twice : {i j : ℕ} {c d : Component} → i < j → At (components g) i c → At (components g) j d
      → c.named.spelt ≡ d.named.spelt → NameBreach g d.named.place
  -- and once
  no_component : {j : ℕ} {t : Task} → 0 < j → At (tasks g) j t → ((i : ℕ) (c : Component) → At (components g) i c → ¬ Names c t) → NameBreach g t.named.place
  -- "and is reached from the root"
  not_reached : {j : ℕ} {t : Task} → At (tasks g) j t → ¬ Reached g j → NameBreach g t.named.place
  -- "a schedule constraint names another component of its plan": it names its own, or none
  constraint_on_itself : {i j k : ℕ} {p : Task} {c : Component} {n : Name} {w : ℕ} → At (tasks g) i p → At (components_of p) j c
      → At c.attributes k (record { word = w; what = schedule_constraint n }) → n.spelt ≡ c.named.spelt → NameBreach g n.place
  constraint_on_none : {i j k : ℕ} {p : Task} {c : Component} {n : Name} {w : ℕ} → At (tasks g) i p → At (components_of p) j c
      → At c.attributes k (record { word = w; what = schedule_constraint n })
      → ((m : ℕ) (d : Component) → At (components_of p) m d → ¬ (n.spelt ≡ d.named.spelt)) → NameBreach g n.place
  -- "a postcondition assigns to data items only"
  target_no_item : {i : ℕ} {a : Assignment} → At (assignments g) i a
      → ((j : ℕ) (d : DataItem) → At (data_items g) j d → ¬ Alike a.target.spelt d.named.spelt) → NameBreach g a.target.place
  -- "a source names a data item"
  source_no_item : {i : ℕ} {s : Source} → At (sources g) i s
      → ((j : ℕ) (d : DataItem) → At (data_items g) j d → ¬ (s.named.spelt ≡ d.named.spelt)) → NameBreach g s.named.place
