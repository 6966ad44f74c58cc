-- Section 12: the rows that LoadGuideline adds, operation by operation, and the table that it leaves. Definitions only.
-- Only what the first edition runs has a clause; of the rest a guideline is refused with 10 before it is loaded. "Decided": docs/DECISIONS.md.
use Rattle.std.specs.Prelude.{ℕ, zero, suc, ◌+◌, ◌≡◌, Bool, ◌↔◌, ◌⊎◌, List, [], ◌∷◌, map, length, true, false}
use Rattle.paper_expressions.specs.Values.{dormant}
use Rattle.paper_expressions.specs.View.{At}
use Rattle.paper_guideline.specs.Structure
use Structure.{Name, Outermost, Placed, Assignment, ComponentAttribute, schedule_constraint, SourceAttribute, Attribute, Task, DataItem, TopLevel, tasks, data_items}
use Rattle.paper_guideline.specs.Parts.{components_of, sources_of, Source}
use Rattle.paper_guideline.specs.Parts as Parts
use Rattle.paper_guideline.specs.Names.{Names}
use Rattle.paper_rows.specs.Table
use Table.{task, data_item, source, Component, ◌№◌, Class, a_data_item, a_plan, a_decision, an_enquiry, an_action, a_source, Assigns}
use Table.{Property, class, name, state, antecedent_tasks, precondition, wait_condition, trigger, postcondition, parent_plan, confirmatory, terminal, terminate_condition, sources, type, data_item_of, mandatory}
use Table.{RowValue, state_is, class_is, type_is, expression_is, assertion_is, component_is, components_are, truth_row, text_row, Table, Contains}

-- ---- the operations that LoadGuideline comes to perform, with their parameters; G is g

-- 01: "each kind is counted from 0 in the order of the text, tasks of every class being one kind": a new task identifier is the number of the task's definition
mutual
  -- InstantiateTask(G, T, C)
  pub data InstantiateTask (g : List TopLevel) : Task → ℕ → Type 0 where
    -- 12.1, 5. Perform the operation InstantiateTask(G, Root, C)
    load_5 : {t : Task} → At (tasks g) 0 t → InstantiateTask g t 0
    -- 12.3, 5. Let TA be the task definition for task Name in guideline G      6. Perform the operation InstantiateTask(G, TA, CA)
    component_6 : {i j : ℕ} {a : Parts.Component} {t : Task} → InstantiateComponent g i a j → At (tasks g) j t → InstantiateTask g t j

  -- InstantiateComponent(G, CT, A), where its step 2 finds CA: the task that SetTaskAttribute created for A
  pub data InstantiateComponent (g : List TopLevel) : ℕ → Parts.Component → ℕ → Type 0 where
    -- 12.2, 5. For each Atti having the syntax of <component> perform the operation InstantiateComponent(G, C, Atti)
    task_5 : {i j k : ℕ} {p t : Task} {a : Parts.Component}
        → InstantiateTask g p i → At (components_of p) k a → At (tasks g) j t → Names a t → InstantiateComponent g i a j

-- SetTaskAttribute(C, Att)      (12.2, 4. For each Atti in the attribute list)
pub data SetTaskAttribute (g : List TopLevel) (c : ℕ) (a : Attribute) : Type 0 where
  task_4 : {t : Task} {k w : ℕ} → InstantiateTask g t c → At t.attributes k (record { word = w; what = a }) → SetTaskAttribute g c a

-- SetComponentAttribute(CA, CT, Att)      (12.3, 4. For each Atti)
pub data SetComponentAttribute (g : List TopLevel) (c p : ℕ) (a : ComponentAttribute) : Type 0 where
  component_4 : {b : Parts.Component} {k w : ℕ} → InstantiateComponent g p b c → At b.attributes k (record { word = w; what = a }) → SetComponentAttribute g c p a

-- the sources in the tasks before the task c
abbrev pub sources_before : ℕ → List Task → ℕ
sources_before zero l = 0
sources_before (suc c) [] = 0
sources_before (suc c) (t ∷ l) = length (sources_of t) + sources_before c l

-- InstantiateSource(C, S), where its step 2 creates CS      (12.5, 3)      (decided: sources too are counted over the whole text)
pub data InstantiateSource (g : List TopLevel) (c : ℕ) (s : Source) (n : ℕ) : Type 0 where
  attribute_3 : {t : Task} {k : ℕ} → InstantiateTask g t c → At (sources_of t) k s → n ≡ sources_before c (tasks g) + k → InstantiateSource g c s n

-- InstantiateDataItem(Def), where its step 2 creates C      (12.1, 6. if Defi is a <data_item>)
abbrev pub InstantiateDataItem : List TopLevel → DataItem → ℕ → Type 0
InstantiateDataItem g d c = At (data_items g) c d

-- ---- what their steps name

-- 12.2, 2. ClassConst is either plan, decision, action, or enquiry depending on TaskClass
abbrev pub class_constant : Structure.Class → Class
class_constant Structure.plan = a_plan
class_constant Structure.action = an_action
class_constant Structure.enquiry = an_enquiry

-- the row (C, class, K) that 12.2, 2 adds
pub record ClassRow (g : List TopLevel) (c : ℕ) (k : Class) : Type 0 where
  pub definition : Task
  pub instantiated : InstantiateTask g definition c
  pub constant : class_constant definition.class ≡ k

-- an assertion as the row holds it
abbrev pub assigns : Assignment → Assigns
assigns a = record { target = a.target.spelt; assigned = a.value.tree }

-- 12.4, 1: the sequence to which the schedule constraints of these attributes add, each behind the last, the task CA
-- with the rows (CA, name, Name) and (CA, parent_plan, CP)
pub data Antecedents (g : List TopLevel) (p : ℕ) : List (Placed ComponentAttribute) → List Component → Type 0 where
  antecedents_none : Antecedents g p [] []
  antecedents_more : {c w : ℕ} {n : Name} {b : Parts.Component} {l : List (Placed ComponentAttribute)} {ts : List Component}
      → InstantiateComponent g p b c → b.named.spelt ≡ n.spelt → Antecedents g p l ts
      → Antecedents g p (record { word = w; what = schedule_constraint n } ∷ l) (task № c ∷ ts)
  antecedents_other : {w : ℕ} {b : Bool} {l : List (Placed ComponentAttribute)} {ts : List Component}
      → Antecedents g p l ts → Antecedents g p (record { word = w; what = Structure.terminal b } ∷ l) ts

-- 12.8, 5: the sequence <Cn, Cn+1, ..> of the sources of one task
abbrev pub numbered : ℕ → List Source → List Component
numbered n [] = []
numbered n (s ∷ l) = source № n ∷ numbered (suc n) l

-- ---- the rows (C, P, V) that are added; of a row that is replaced, the last

pub data Adds (g : List TopLevel) : Component → Property → RowValue → Type 0 where
  -- 12.1, 1. RandomNum      (01: no random number)
  -- 12.2, 2. Add (C, class, ClassConst)
  task_2 : {c : ℕ} {k : Class} → ClassRow g c k → Adds g (task № c) class (class_is k)
  -- 12.2, 3. Add (C, state, dormant)
  task_3 : {c : ℕ} {t : Task} → InstantiateTask g t c → Adds g (task № c) state (state_is dormant)
  -- 12.3, 3. If the Properties table contains the row (CA, class, decision) or (CA, class, action) then add the row (CA, confirmatory, true)
  --   (decided: a test asks for rows that load puts there, whenever it puts them there)
  component_3a : {p c : ℕ} {a : Parts.Component} → InstantiateComponent g p a c
      → ClassRow g c a_decision ⊎ ClassRow g c an_action → Adds g (task № c) confirmatory (truth_row true)
  -- otherwise add the row (CA, confirmatory, false)
  component_3b : {p c : ℕ} {a : Parts.Component} → InstantiateComponent g p a c
      → ¬ (ClassRow g c a_decision ⊎ ClassRow g c an_action) → Adds g (task № c) confirmatory (truth_row false)
  -- 12.4, 1. "schedule_constraint": add (C, antecedent_tasks, <CA>), or replace <T1, .., TN> with <T1, .., TN, CA>
  component_attribute_1 : {p c : ℕ} {a : Parts.Component} {t : Component} {ts : List Component}
      → InstantiateComponent g p a c → Antecedents g p a.attributes (t ∷ ts) → Adds g (task № c) antecedent_tasks (components_are (t ∷ ts))
  -- 12.4, 2. "param_value": left out (10); request 8/13      3. "cycle_repeat": left out (10); request 4/13      4. "autonomous": left out (10)
  -- 12.4, 5. Table 1: "terminal" "::" "yes", (C, terminal, true); "no", (C, terminal, false)      ("optional", "ltwh": left out (10); "number_of_cycles", "cycle_until": left out (10), request 4/13)
  component_attribute_5 : {p c : ℕ} {b : Bool} → SetComponentAttribute g c p (Structure.terminal b) → Adds g (task № c) terminal (truth_row b)
  -- 12.5, 1. "component" "::" Name: a. Create a new Task Identifier T   b. Add the row (T, name, Name)
  attribute_1b : {c t : ℕ} {a : Parts.Component} → InstantiateComponent g c a t → Adds g (task № t) name (text_row a.named.spelt)
  --   c. Add (T, parent_plan, C)
  attribute_1c : {c t : ℕ} {a : Parts.Component} → InstantiateComponent g c a t → Adds g (task № t) parent_plan (component_is (task № c))
  -- 12.5, 2. "candidate" (12.6, 12.7): left out (10); request 1/13      3. "source": 12.8 below      4. "parameter": left out (10); request 8/13
  -- 12.5, 5. Table 2      (01: captions and descriptions get no rows; goal, abort, procedure, context: left out (10); choice_mode, support_mode: left out (10), request 1/13)
  attribute_5_precondition : {c : ℕ} {e : Outermost} → SetTaskAttribute g c (Structure.precondition e) → Adds g (task № c) precondition (expression_is e.tree)
  attribute_5_wait_condition : {c : ℕ} {e : Outermost} → SetTaskAttribute g c (Structure.wait_condition e) → Adds g (task № c) wait_condition (expression_is e.tree)
  attribute_5_trigger : {c : ℕ} {n : Name} → SetTaskAttribute g c (Structure.trigger n) → Adds g (task № c) trigger (text_row n.spelt)
  attribute_5_postcondition : {c : ℕ} {l : List Assignment} → SetTaskAttribute g c (Structure.postcondition l)
      → Adds g (task № c) postcondition (assertion_is (map assigns l))
  attribute_5_terminate : {c : ℕ} {e : Outermost} → SetTaskAttribute g c (Structure.terminate e) → Adds g (task № c) terminate_condition (expression_is e.tree)
  -- 12.8, 3. Add (CS, class, source)
  source_3 : {c n : ℕ} {s : Source} → InstantiateSource g c s n → Adds g (source № n) class (class_is a_source)
  -- 12.8, 4. Add (CS, name, Name)
  source_4 : {c n : ℕ} {s : Source} → InstantiateSource g c s n → Adds g (source № n) name (text_row s.named.spelt)
  -- 12.8, 5. add (C, sources, <CS>), or replace <C1, .., CN> with <C1, .., CN, CS>
  source_5 : {c : ℕ} {t : Task} {s : Source} {l : List Source} → InstantiateTask g t c → sources_of t ≡ s ∷ l
      → Adds g (task № c) sources (components_are (numbered (sources_before c (tasks g)) (s ∷ l)))
  -- 12.8, 6. If there is no D with the rows (D, name, Name) and (D, class, data_item) ..: there is one (01, names)
  -- 12.8, 7. Add the row (CS, data_item, D)
  source_7 : {c n d : ℕ} {s : Source} {x : DataItem} → InstantiateSource g c s n → InstantiateDataItem g x d → x.named.spelt ≡ s.named.spelt
      → Adds g (source № n) data_item_of (component_is (data_item № d))
  -- 12.8, 8. Table 4: "mandatory" "::" "yes", (C, mandatory, true); "no", (C, mandatory, false)      (decided: on the source CS, where 8.6.4, 2 asks for it)
  --   (01: captions and descriptions get no rows)
  source_8 : {c n k w : ℕ} {s : Source} {b : Bool} → InstantiateSource g c s n → At s.attributes k (record { word = w; what = Structure.mandatory b })
      → Adds g (source № n) mandatory (truth_row b)
  -- 12.9, 3. Add the row (C, class, data_item)
  data_item_3 : {c : ℕ} {d : DataItem} → InstantiateDataItem g d c → Adds g (data_item № c) class (class_is a_data_item)
  -- 12.9, 4. Add (C, name, Name) and (C, type, Type)
  data_item_4a : {c : ℕ} {d : DataItem} → InstantiateDataItem g d c → Adds g (data_item № c) name (text_row d.named.spelt)
  data_item_4b : {c : ℕ} {d : DataItem} → InstantiateDataItem g d c → Adds g (data_item № c) type (type_is d.declared)
  -- 12.9, 5. a. warning conditions: no production has one (decided)      b. Table 5: left out (10), range: request 9/13      (01: captions and descriptions get no rows)

-- ---- 12.1  LoadGuideline(G): "empty the Properties .. table", and then the rows above
pub record Initial (g : List TopLevel) (t : Table) : Type 0 where
  pub rows : (c : Component) (p : Property) (r : RowValue) → Contains t c p r ↔ Adds g c p r
