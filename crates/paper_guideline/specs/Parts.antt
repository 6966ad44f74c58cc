-- The expressions, assignments and sources of a guideline, in the order of the text, and what each expression has to be. Definitions only.
use Rattle.std.specs.Prelude.{ℕ, zero, suc, List, [], ◌∷◌, ◌++◌, map}
use Rattle.paper_guideline.specs.Structure
use Structure.{Name, Outermost, Placed, Assignment, ComponentAttribute, Generic, caption, description, SourceAttribute, source_generic, mandatory}
use Structure.{Attribute, generic, precondition, wait_condition, terminate, postcondition, trigger, component, source, Task, DataItem, TopLevel, task, data_item, tasks}

-- what an expression has to be (document 01's three added rules), and the task that it is attached to (section 9)
pub data Role : Type 0 where
  condition wording : Role
  assigned_to : Name → Role

pub record Typed : Type 0 where
  pub expression : Outermost
  pub role : Role
  pub attached : ℕ

-- an item for every element
abbrev pub each : {A B : Type 0} → (A → List B) → List A → List B
each f [] = []
each f (a ∷ l) = f a ++ each f l

-- an expression by itself; those of an attribute
abbrev pub typed : ℕ → Role → Outermost → List Typed
typed t r x = record { expression = x; role = r; attached = t } ∷ []

abbrev pub of_generic : ℕ → Generic → List Typed
of_generic t (caption x) = typed t wording x
of_generic t (description x) = typed t wording x

abbrev pub of_source : ℕ → SourceAttribute → List Typed
of_source t (source_generic g) = of_generic t g
of_source t (mandatory b) = []

abbrev pub of_attribute : ℕ → Attribute → List Typed
of_attribute t (generic g) = of_generic t g
of_attribute t (precondition x) = typed t condition x
of_attribute t (wait_condition x) = typed t condition x
of_attribute t (terminate x) = typed t condition x
of_attribute t (postcondition xs) = each (λ (a : Assignment). typed t (assigned_to a.target) a.value) xs
of_attribute t (trigger n) = []
of_attribute t (component n xs) = []
of_attribute t (source n xs) = each (λ (a : Placed SourceAttribute). of_source t a.what) xs

-- tasks are counted from 0; "Expressions appearing in the definition of data items are attached to the root plan", task 0
abbrev pub expressions_from : ℕ → List TopLevel → List Typed
expressions_from t [] = []
expressions_from t (task k ∷ g) = each (λ (a : Placed Attribute). of_attribute t a.what) k.attributes ++ expressions_from (suc t) g
expressions_from t (data_item d ∷ g) = each (λ (a : Placed Generic). of_generic 0 a.what) d.attributes ++ expressions_from t g

abbrev pub expressions : List TopLevel → List Typed
expressions g = expressions_from 0 g

-- what an attribute has of assignments, components and sources
abbrev pub assigned_in : Attribute → List Assignment
assigned_in (generic g) = []
assigned_in (precondition x) = []
assigned_in (wait_condition x) = []
assigned_in (terminate x) = []
assigned_in (postcondition xs) = xs
assigned_in (trigger n) = []
assigned_in (component n xs) = []
assigned_in (source n xs) = []

-- of one task, and of all
abbrev pub assignments_of : Task → List Assignment
assignments_of t = each (λ (a : Placed Attribute). assigned_in a.what) t.attributes

abbrev pub assignments : List TopLevel → List Assignment
assignments g = each assignments_of (tasks g)

pub record Component : Type 0 where
  pub named : Name
  pub attributes : List (Placed ComponentAttribute)

abbrev pub component_in : Attribute → List Component
component_in (generic g) = []
component_in (precondition x) = []
component_in (wait_condition x) = []
component_in (terminate x) = []
component_in (postcondition xs) = []
component_in (trigger n) = []
component_in (component n xs) = record { named = n; attributes = xs } ∷ []
component_in (source n xs) = []

-- of one plan, and of all
abbrev pub components_of : Task → List Component
components_of t = each (λ (a : Placed Attribute). component_in a.what) t.attributes

abbrev pub components : List TopLevel → List Component
components g = each components_of (tasks g)

pub record Source : Type 0 where
  pub named : Name
  pub attributes : List (Placed SourceAttribute)

abbrev pub source_in : Attribute → List Source
source_in (generic g) = []
source_in (precondition x) = []
source_in (wait_condition x) = []
source_in (terminate x) = []
source_in (postcondition xs) = []
source_in (trigger n) = []
source_in (component n xs) = []
source_in (source n xs) = record { named = n; attributes = xs } ∷ []

abbrev pub sources_of : Task → List Source
sources_of t = each (λ (a : Placed Attribute). source_in a.what) t.attributes

abbrev pub sources : List TopLevel → List Source
sources g = each sources_of (tasks g)
