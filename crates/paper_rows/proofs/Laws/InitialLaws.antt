-- Law: a lawful guideline has an initial table, and only one: the look into the list of the rows that load adds, which is computed.
use Rattle.std.specs.Prelude.{ℕ, zero, suc, ◌+◌, ◌≡◌, refl, Bool, true, false, not, ◌||◌, ◌⊎◌, ◌↔◌, List, [], ◌∷◌, ◌++◌, map}
use Rattle.std.proofs.Common.{sym, ap, subst, ◌∙◌, inl, inr}
use Rattle.std.proofs.Math.Path.{fun_ext}
use Rattle.std.proofs.Math.Option.{Option, none, some}
use Rattle.paper_expressions.proofs.Laws.Search.{no_clash, same_reflects, sameb, index_f, Looked, found, missing, looked, at_one}
use Rattle.paper_expressions.specs.Values.{dormant}
use Rattle.paper_expressions.specs.View.{At, at_first, at_later}
use Rattle.paper_guideline.specs.Structure
use Structure.{Name, Outermost, Placed, Assignment, Attribute, ComponentAttribute, schedule_constraint, SourceAttribute, Task, DataItem, TopLevel, tasks, data_items}
use Rattle.paper_guideline.specs.Parts as Parts
use Parts.{components_of, Source, sources_of}
use Rattle.paper_guideline.specs.Names.{Names, constraint_on_none, component_of_no_task}
use Rattle.paper_rows.specs.Table as Table
use Table.{task, data_item, source, Component, ◌№◌, Class, a_decision, an_action, a_data_item, a_source, Property, RowValue, state_is, class_is, type_is, expression_is, assertion_is, component_is, components_are, text_row, truth_row}
use Rattle.paper_rows.specs.Load
use Load.{InstantiateTask, component_6, InstantiateComponent, task_5, SetTaskAttribute, task_4, SetComponentAttribute, component_4, InstantiateSource, attribute_3, sources_before, ClassRow, class_constant, assigns, numbered, Antecedents, antecedents_none, antecedents_more, antecedents_other}
use Load.{Adds, task_2, task_3, component_3a, component_3b, component_attribute_1, component_attribute_5, attribute_1b, attribute_1c, attribute_5_precondition, attribute_5_wait_condition, attribute_5_trigger, attribute_5_postcondition, attribute_5_terminate}
use Load.{source_3, source_4, source_5, source_7, source_8, data_item_3, data_item_4a, data_item_4b, Initial}
use Rattle.paper_rows.proofs.Laws.Booleans.{Tests, is_as, is_or, is_not, is_same}
use Rattle.paper_rows.proofs.Laws.Lists.{each_at}
use Rattle.paper_rows.proofs.Laws.Ranks.{same_class, is_same_class}
use Rattle.paper_rows.proofs.Laws.RowLists.{Rows, Row, a_row, Listed, Only, it, listed_only, listed_none, listed_as, ◌or◌, listed_or, only_if, listed_if, Each, each_f, listed_each, what_f, look_f, look_rows}
use Rattle.paper_rows.proofs.Laws.Lawful.{Lawful, defined}
use Rattle.paper_rows.proofs.Laws.SingleLaws.{adds_once, antecedents_once, task_once}

-- ---- the rows of one attribute, and their lists

abbrev None : Rows
None = λ c p r. ⊥

nothing : Listed None []
nothing = listed_none (λ c p r h. h)

abbrev OfAttribute : ℕ → Attribute → Rows
OfAttribute n (Structure.generic x) = None
OfAttribute n (Structure.precondition e) = Only (task № n) Table.precondition (expression_is e.tree)
OfAttribute n (Structure.wait_condition e) = Only (task № n) Table.wait_condition (expression_is e.tree)
OfAttribute n (Structure.terminate e) = Only (task № n) Table.terminate_condition (expression_is e.tree)
OfAttribute n (Structure.postcondition l) = Only (task № n) Table.postcondition (assertion_is (map assigns l))
OfAttribute n (Structure.trigger m) = Only (task № n) Table.trigger (text_row m.spelt)
OfAttribute n (Structure.component m xs) = None
OfAttribute n (Structure.source m xs) = None

abbrev attribute_f : ℕ → Attribute → List Row
attribute_f n (Structure.generic x) = []
attribute_f n (Structure.precondition e) = a_row (task № n) Table.precondition (expression_is e.tree) ∷ []
attribute_f n (Structure.wait_condition e) = a_row (task № n) Table.wait_condition (expression_is e.tree) ∷ []
attribute_f n (Structure.terminate e) = a_row (task № n) Table.terminate_condition (expression_is e.tree) ∷ []
attribute_f n (Structure.postcondition l) = a_row (task № n) Table.postcondition (assertion_is (map assigns l)) ∷ []
attribute_f n (Structure.trigger m) = a_row (task № n) Table.trigger (text_row m.spelt) ∷ []
attribute_f n (Structure.component m xs) = []
attribute_f n (Structure.source m xs) = []

of_attribute : (n : ℕ) (a : Attribute) → Listed (OfAttribute n a) (attribute_f n a)
of_attribute n (Structure.generic x) = nothing
of_attribute n (Structure.precondition e) = listed_only _ _ _
of_attribute n (Structure.wait_condition e) = listed_only _ _ _
of_attribute n (Structure.terminate e) = listed_only _ _ _
of_attribute n (Structure.postcondition l) = listed_only _ _ _
of_attribute n (Structure.trigger m) = listed_only _ _ _
of_attribute n (Structure.component m xs) = nothing
of_attribute n (Structure.source m xs) = nothing

-- of a component's attribute, of a source's, of the sources of a task

abbrev OfTerminal : ℕ → ComponentAttribute → Rows
OfTerminal n (schedule_constraint m) = None
OfTerminal n (Structure.terminal b) = Only (task № n) Table.terminal (truth_row b)

abbrev terminal_f : ℕ → ComponentAttribute → List Row
terminal_f n (schedule_constraint m) = []
terminal_f n (Structure.terminal b) = a_row (task № n) Table.terminal (truth_row b) ∷ []

of_terminal : (n : ℕ) (a : ComponentAttribute) → Listed (OfTerminal n a) (terminal_f n a)
of_terminal n (schedule_constraint m) = nothing
of_terminal n (Structure.terminal b) = listed_only _ _ _

abbrev OfMandatory : ℕ → SourceAttribute → Rows
OfMandatory n (Structure.source_generic x) = None
OfMandatory n (Structure.mandatory b) = Only (source № n) Table.mandatory (truth_row b)

abbrev mandatory_f : ℕ → SourceAttribute → List Row
mandatory_f n (Structure.source_generic x) = []
mandatory_f n (Structure.mandatory b) = a_row (source № n) Table.mandatory (truth_row b) ∷ []

of_mandatory : (n : ℕ) (a : SourceAttribute) → Listed (OfMandatory n a) (mandatory_f n a)
of_mandatory n (Structure.source_generic x) = nothing
of_mandatory n (Structure.mandatory b) = listed_only _ _ _

abbrev OfSequence : ℕ → ℕ → List Source → Rows
OfSequence n m [] = None
OfSequence n m (s ∷ l) = Only (task № n) Table.sources (components_are (numbered m (s ∷ l)))

abbrev sequence_f : ℕ → ℕ → List Source → List Row
sequence_f n m [] = []
sequence_f n m (s ∷ l) = a_row (task № n) Table.sources (components_are (numbered m (s ∷ l))) ∷ []

of_sequence : (n m : ℕ) (l : List Source) → Listed (OfSequence n m l) (sequence_f n m l)
of_sequence n m [] = nothing
of_sequence n m (s ∷ l) = listed_only _ _ _

-- of a sequence of antecedents
abbrev OfTasks : ℕ → List Component → Rows
OfTasks j [] = None
OfTasks j (t ∷ ts) = Only (task № j) Table.antecedent_tasks (components_are (t ∷ ts))

abbrev tasks_f : ℕ → List Component → List Row
tasks_f j [] = []
tasks_f j (t ∷ ts) = a_row (task № j) Table.antecedent_tasks (components_are (t ∷ ts)) ∷ []

of_tasks : (j : ℕ) (l : List Component) → Listed (OfTasks j l) (tasks_f j l)
of_tasks j [] = nothing
of_tasks j (t ∷ ts) = listed_only _ _ _

-- the antecedents: the tasks that the constraints name
abbrev named_f : List TopLevel → List ℕ → Option ℕ
named_f g s = index_f (λ (t : Task). sameb s t.named.spelt) (tasks g)

abbrev add_f : Option ℕ → List Component → List Component
add_f none l = l
add_f (some j) l = task № j ∷ l

abbrev constraint_f : List TopLevel → ComponentAttribute → List Component → List Component
constraint_f g (schedule_constraint n) l = add_f (named_f g n.spelt) l
constraint_f g (Structure.terminal b) l = l

abbrev antecedents_f : List TopLevel → List (Placed ComponentAttribute) → List Component
antecedents_f g [] = []
antecedents_f g (x ∷ l) = constraint_f g x.what (antecedents_f g l)

-- ---- the rows of a component, a task, a source, a data item

abbrev confirms_f : Structure.Class → Bool
confirms_f k = same_class (class_constant k) a_decision || same_class (class_constant k) an_action

abbrev component_f : List TopLevel → ℕ → Parts.Component → ℕ → Task → List Row
component_f g P a j t =
    (a_row (task № j) Table.name (text_row a.named.spelt) ∷ []) ++ ((a_row (task № j) Table.parent_plan (component_is (task № P)) ∷ [])
    ++ (only_if (confirms_f t.class) (a_row (task № j) Table.confirmatory (truth_row true) ∷ []) ++ (only_if (not (confirms_f t.class)) (a_row (task № j) Table.confirmatory (truth_row false) ∷ [])
    ++ (tasks_f j (antecedents_f g a.attributes) ++ each_f (λ i (x : Placed ComponentAttribute). terminal_f j x.what) a.attributes))))

abbrev components_f : List TopLevel → List Row
components_f g =
    each_f (λ P p. each_f (λ k (a : Parts.Component). each_f (λ j (t : Task). only_if (sameb a.named.spelt t.named.spelt) (component_f g P a j t)) (tasks g)) (components_of p)) (tasks g)

abbrev task_f : List TopLevel → ℕ → Task → List Row
task_f g j t =
    (a_row (task № j) Table.class (class_is (class_constant t.class)) ∷ []) ++ ((a_row (task № j) Table.state (state_is dormant) ∷ [])
    ++ (sequence_f j (sources_before j (tasks g)) (sources_of t) ++ each_f (λ i (x : Placed Attribute). attribute_f j x.what) t.attributes))

abbrev source_f : List TopLevel → ℕ → Source → List Row
source_f g n s =
    (a_row (source № n) Table.class (class_is a_source) ∷ []) ++ ((a_row (source № n) Table.name (text_row s.named.spelt) ∷ [])
    ++ (each_f (λ d (x : DataItem). only_if (sameb x.named.spelt s.named.spelt) (a_row (source № n) Table.data_item_of (component_is (data_item № d)) ∷ [])) (data_items g)
    ++ each_f (λ i (x : Placed SourceAttribute). mandatory_f n x.what) s.attributes))

abbrev item_f : ℕ → DataItem → List Row
item_f d x =
    (a_row (data_item № d) Table.class (class_is a_data_item) ∷ []) ++ ((a_row (data_item № d) Table.name (text_row x.named.spelt) ∷ []) ++ (a_row (data_item № d) Table.type (type_is x.declared) ∷ []))

-- the rows that load adds
abbrev pub load_f : List TopLevel → List Row
load_f g = each_f (λ j t. task_f g j t) (tasks g) ++ (components_f g ++ (each_f (λ j t. each_f (λ k s. source_f g (sources_before j (tasks g) + k) s) (sources_of t)) (tasks g) ++ each_f item_f (data_items g)))

-- ---- a lawful guideline

module _ {g : List TopLevel} (lawful : Lawful g) where
  -- the task that a component names
  named_task : {P k : ℕ} {p : Task} {a : Parts.Component} → At (tasks g) P p → At (components_of p) k a → (j : ℕ) × (t : Task) × At (tasks g) j t × Names a t × (named_f g a.named.spelt ≡ some j)
  named_task {a} h q = go (named_f g a.named.spelt) refl (looked (λ (t : Task). Names a t) (λ (t : Task). sameb a.named.spelt t.named.spelt) (λ t. same_reflects a.named.spelt t.named.spelt) (tasks g))
    where
      go : (o : Option ℕ) → named_f g a.named.spelt ≡ o → Looked (λ (t : Task). Names a t) (tasks g) o → (j : ℕ) × (t : Task) × At (tasks g) j t × Names a t × (named_f g a.named.spelt ≡ some j)
      go o e (found {i} {x} u n) = (i, x, u, n, e)
      go o e (missing m) = absurd (lawful.names _ (component_of_no_task (each_at components_of h q).1 m))

  -- the component that a schedule constraint names
  named_component : {P k i w : ℕ} {p : Task} {a : Parts.Component} {n : Name} → At (tasks g) P p → At (components_of p) k a
      → At a.attributes i (record { word = w; what = schedule_constraint n }) → (m : ℕ) × (b : Parts.Component) × At (components_of p) m b × (n.spelt ≡ b.named.spelt)
  named_component {p} {n} h q r = go (looked (λ (b : Parts.Component). n.spelt ≡ b.named.spelt) (λ (b : Parts.Component). sameb n.spelt b.named.spelt) (λ b. same_reflects n.spelt b.named.spelt) (components_of p))
    where
      go : {o : Option ℕ} → Looked (λ (b : Parts.Component). n.spelt ≡ b.named.spelt) (components_of p) o → (m : ℕ) × (b : Parts.Component) × At (components_of p) m b × (n.spelt ≡ b.named.spelt)
      go (found {i} {x} u e) = (i, x, u, e)
      go (missing m) = absurd (lawful.names _ (constraint_on_none h q r m))

  -- its antecedents
  antecedents_from : {P k : ℕ} {p : Task} {a : Parts.Component} → At (tasks g) P p → At (components_of p) k a → (l : List (Placed ComponentAttribute))
      → ((i : ℕ) (x : Placed ComponentAttribute) → At l i x → (j : ℕ) × At a.attributes j x) → Antecedents g P l (antecedents_f g l)
  antecedents_from h q [] f = antecedents_none
  antecedents_from {P} {a} h q (x ∷ l) f = go x.what refl (antecedents_from h q l (λ i y u. f (suc i) y (at_later u)))
    where
      go : (w : ComponentAttribute) → x.what ≡ w → Antecedents g P l (antecedents_f g l) → Antecedents g P (record { word = x.word; what = w } ∷ l) (constraint_f g w (antecedents_f g l))
      go (schedule_constraint n) e r =
          let y = f 0 x at_first in
          let b = named_component h q (subst (λ (z : ComponentAttribute). At a.attributes y.0 (record { word = x.word; what = z })) e y.1) in
          let t = named_task h b.2 in
          let k : named_f g n.spelt ≡ some t.0 = subst (λ (s : List ℕ). named_f g s ≡ some t.0) (sym b.3) t.4 in
          subst (λ (o : Option ℕ). Antecedents g P (record { word = x.word; what = schedule_constraint n } ∷ l) (add_f o (antecedents_f g l))) (sym k)
          (antecedents_more (task_5 (lawful.reached h) b.2 t.2 t.3) (sym b.3) r)
      go (Structure.terminal b) e r = antecedents_other r

  pub its_antecedents : {P k : ℕ} {p : Task} {a : Parts.Component} → At (tasks g) P p → At (components_of p) k a → Antecedents g P a.attributes (antecedents_f g a.attributes)
  its_antecedents {a} h q = antecedents_from h q a.attributes (λ i x u. (i, u))

  abbrev OfAntecedents : ℕ → Parts.Component → ℕ → Rows
  OfAntecedents P a j = λ c p r. (t : Component) × (ts : List Component) × Antecedents g P a.attributes (t ∷ ts) × Only (task № j) Table.antecedent_tasks (components_are (t ∷ ts)) c p r

  of_antecedents : {P : ℕ} (a : Parts.Component) (j : ℕ) → Antecedents g P a.attributes (antecedents_f g a.attributes) → Listed (OfAntecedents P a j) (tasks_f j (antecedents_f g a.attributes))
  of_antecedents {P} a j h = listed_as (to (antecedents_f g a.attributes) h) back (of_tasks j (antecedents_f g a.attributes))
    where
      to : (l : List Component) → Antecedents g P a.attributes l → (c : Component) (p : Property) (r : RowValue) → OfTasks j l c p r → OfAntecedents P a j c p r
      to [] u c p r q = absurd q
      to (t ∷ ts) u c p r q = (t, ts, u, q)

      back : (c : Component) (p : Property) (r : RowValue) → OfAntecedents P a j c p r → OfTasks j (antecedents_f g a.attributes) c p r
      back c p r q = subst (λ (l : List Component). OfTasks j l c p r) (antecedents_once lawful q.2 h) q.3

  -- ---- the rows of one component

  abbrev Confirms : ℕ → Type 0
  Confirms j = ClassRow g j a_decision ⊎ ClassRow g j an_action

  is_class_row : {j : ℕ} {t : Task} → At (tasks g) j t → (k : Class) → Tests (same_class (class_constant t.class) k) (ClassRow g j k)
  is_class_row {t} h k =
      is_as (λ e. record { definition = t; instantiated = lawful.reached h; constant = e }) (λ q. ap (λ (x : Task). class_constant x.class) (at_one h (defined q.instantiated)) ∙ q.constant) (is_same_class (class_constant t.class) k)

  confirms : {j : ℕ} {t : Task} → At (tasks g) j t → Tests (confirms_f t.class) (Confirms j)
  confirms h = is_or (is_class_row h a_decision) (is_class_row h an_action)

  abbrev ComponentRows : ℕ → Parts.Component → ℕ → Rows
  ComponentRows P a j = Only (task № j) Table.name (text_row a.named.spelt) or (Only (task № j) Table.parent_plan (component_is (task № P))
      or ((λ c p r. Confirms j × Only (task № j) Table.confirmatory (truth_row true) c p r) or ((λ c p r. (¬ Confirms j) × Only (task № j) Table.confirmatory (truth_row false) c p r)
      or (OfAntecedents P a j or Each (λ i x. OfTerminal j x.what) a.attributes))))

  of_component_rows : {P k j : ℕ} {p t : Task} {a : Parts.Component} → At (tasks g) P p → At (components_of p) k a → At (tasks g) j t → Listed (ComponentRows P a j) (component_f g P a j t)
  of_component_rows {P} {k} {j} {p} {t} {a} h q u =
      listed_or (listed_only _ _ _) (listed_or (listed_only _ _ _) (listed_or (listed_if (confirms u) (listed_only _ _ _)) (listed_or (listed_if (is_not (confirms u)) (listed_only _ _ _))
      (listed_or (of_antecedents a j (its_antecedents h q)) (listed_each (λ i x. OfTerminal j x.what) (λ i (x : Placed ComponentAttribute). terminal_f j x.what) a.attributes (λ i x v. of_terminal j x.what))))))

  abbrev AllComponents : Rows
  AllComponents = Each (λ P p. Each (λ k a. Each (λ j t c q r. Names a t × ComponentRows P a j c q r) (tasks g)) (components_of p)) (tasks g)

  all_components : Listed AllComponents (components_f g)
  all_components =
      listed_each (λ P p. Each (λ k a. Each (λ j t c q r. Names a t × ComponentRows P a j c q r) (tasks g)) (components_of p))
      (λ P p. each_f (λ k (a : Parts.Component). each_f (λ j (t : Task). only_if (sameb a.named.spelt t.named.spelt) (component_f g P a j t)) (tasks g)) (components_of p)) (tasks g)
      (λ P p h. listed_each (λ k a. Each (λ j t c q r. Names a t × ComponentRows P a j c q r) (tasks g))
      (λ k (a : Parts.Component). each_f (λ j (t : Task). only_if (sameb a.named.spelt t.named.spelt) (component_f g P a j t)) (tasks g)) (components_of p)
      (λ k a q. listed_each (λ j t c q r. Names a t × ComponentRows P a j c q r) (λ j (t : Task). only_if (sameb a.named.spelt t.named.spelt) (component_f g P a j t)) (tasks g)
      (λ j t u. listed_if (is_same a.named.spelt t.named.spelt) (of_component_rows h q u))))

  -- ---- of one task

  abbrev TaskRows : ℕ → Task → Rows
  TaskRows j t = Only (task № j) Table.class (class_is (class_constant t.class)) or (Only (task № j) Table.state (state_is dormant)
      or (OfSequence j (sources_before j (tasks g)) (sources_of t) or Each (λ i x. OfAttribute j x.what) t.attributes))

  of_task_rows : (j : ℕ) (t : Task) → Listed (TaskRows j t) (task_f g j t)
  of_task_rows j t =
      listed_or (listed_only _ _ _) (listed_or (listed_only _ _ _)
      (listed_or (of_sequence j (sources_before j (tasks g)) (sources_of t)) (listed_each (λ i x. OfAttribute j x.what) (λ i (x : Placed Attribute). attribute_f j x.what) t.attributes (λ i x v. of_attribute j x.what))))

  abbrev AllTasks : Rows
  AllTasks = Each (λ j t. TaskRows j t) (tasks g)

  -- ---- of one source

  abbrev SourceRows : ℕ → Source → Rows
  SourceRows n s = Only (source № n) Table.class (class_is a_source) or (Only (source № n) Table.name (text_row s.named.spelt)
      or (Each (λ d x c p r. (x.named.spelt ≡ s.named.spelt) × Only (source № n) Table.data_item_of (component_is (data_item № d)) c p r) (data_items g)
      or Each (λ i x. OfMandatory n x.what) s.attributes))

  of_source_rows : (n : ℕ) (s : Source) → Listed (SourceRows n s) (source_f g n s)
  of_source_rows n s =
      listed_or (listed_only _ _ _) (listed_or (listed_only _ _ _)
      (listed_or (listed_each (λ d x c p r. (x.named.spelt ≡ s.named.spelt) × Only (source № n) Table.data_item_of (component_is (data_item № d)) c p r)
      (λ d (x : DataItem). only_if (sameb x.named.spelt s.named.spelt) (a_row (source № n) Table.data_item_of (component_is (data_item № d)) ∷ [])) (data_items g)
      (λ d x h. listed_if (is_same x.named.spelt s.named.spelt) (listed_only _ _ _)))
      (listed_each (λ i x. OfMandatory n x.what) (λ i (x : Placed SourceAttribute). mandatory_f n x.what) s.attributes (λ i x v. of_mandatory n x.what))))

  abbrev AllSources : Rows
  AllSources = Each (λ j t. Each (λ k s. SourceRows (sources_before j (tasks g) + k) s) (sources_of t)) (tasks g)

  all_sources : Listed AllSources (each_f (λ j t. each_f (λ k s. source_f g (sources_before j (tasks g) + k) s) (sources_of t)) (tasks g))
  all_sources =
      listed_each (λ j t. Each (λ k s. SourceRows (sources_before j (tasks g) + k) s) (sources_of t)) (λ j t. each_f (λ k s. source_f g (sources_before j (tasks g) + k) s) (sources_of t)) (tasks g)
      (λ j t h. listed_each (λ k s. SourceRows (sources_before j (tasks g) + k) s) (λ k s. source_f g (sources_before j (tasks g) + k) s) (sources_of t) (λ k s q. of_source_rows (sources_before j (tasks g) + k) s))

  -- ---- of one data item

  abbrev ItemRows : ℕ → DataItem → Rows
  ItemRows d x = Only (data_item № d) Table.class (class_is a_data_item) or (Only (data_item № d) Table.name (text_row x.named.spelt) or Only (data_item № d) Table.type (type_is x.declared))

  of_item_rows : (d : ℕ) (x : DataItem) → Listed (ItemRows d x) (item_f d x)
  of_item_rows d x = listed_or (listed_only _ _ _) (listed_or (listed_only _ _ _) (listed_only _ _ _))

  abbrev AllItems : Rows
  AllItems = Each (λ d x. ItemRows d x) (data_items g)

  -- ---- all

  abbrev All : Rows
  All = AllTasks or (AllComponents or (AllSources or AllItems))

  all_listed : Listed All (load_f g)
  all_listed =
      listed_or (listed_each (λ j t. TaskRows j t) (λ j t. task_f g j t) (tasks g) (λ j t h. of_task_rows j t))
      (listed_or all_components (listed_or all_sources (listed_each (λ d x. ItemRows d x) item_f (data_items g) (λ d x h. of_item_rows d x))))

  component_here : {P j k : ℕ} {p t : Task} {a : Parts.Component} {c : Component} {q : Property} {r : RowValue}
      → At (tasks g) P p → At (components_of p) k a → At (tasks g) j t → Names a t → ComponentRows P a j c q r → All c q r
  component_here {P} {j} {k} {p} {t} {a} h u v e w = inr (inl (P, p, h, (k, a, u, (j, t, v, (e, w)))))

  of_component : {P j : ℕ} {a : Parts.Component} {c : Component} {q : Property} {r : RowValue} → InstantiateComponent g P a j → ComponentRows P a j c q r → All c q r
  of_component (task_5 i u v e) w = component_here (defined i) u v e w

  source_here : {n : ℕ} {m : ℕ} {s : Source} {c : Component} {q : Property} {r : RowValue} → InstantiateSource g m s n → SourceRows n s c q r → All c q r
  source_here {n} {m} {s} {c} {q} {r} (attribute_3 {t} {k} h u e) w = inr (inr (inl (m, t, defined h, (k, s, u, subst (λ (x : ℕ). SourceRows x s c q r) e w))))

  attribute_here : {m : ℕ} {a : Attribute} {c : Component} {q : Property} {r : RowValue} → SetTaskAttribute g m a → OfAttribute m a c q r → All c q r
  attribute_here {m} (task_4 {t} {k} {w} h u) v = inl (m, t, defined h, inr (inr (inr (k, _, u, v))))

  adds_all : (c : Component) (p : Property) (r : RowValue) → Adds g c p r → All c p r
  adds_all c p r (task_2 {c = j} h) =
      inl (j, h.definition, defined h.instantiated, inl (subst (λ (x : Table.Class). Only (task № j) Table.class (class_is (class_constant h.definition.class)) (task № j) Table.class (class_is x)) h.constant it))
  adds_all c p r (task_3 {c = j} {t} h) = inl (j, t, defined h, inr (inl it))
  adds_all c p r (component_3a h u) = of_component h (inr (inr (inl (u, it))))
  adds_all c p r (component_3b h n) = of_component h (inr (inr (inr (inl (n, it)))))
  adds_all c p r (component_attribute_1 {t} {ts} h u) = of_component h (inr (inr (inr (inr (inl (t, ts, u, it))))))
  adds_all c p r (component_attribute_5 (component_4 {k} h u)) = of_component h (inr (inr (inr (inr (inr (k, _, u, it))))))
  adds_all c p r (attribute_1b h) = of_component h (inl it)
  adds_all c p r (attribute_1c h) = of_component h (inr (inl it))
  adds_all c p r (attribute_5_precondition h) = attribute_here h it
  adds_all c p r (attribute_5_wait_condition h) = attribute_here h it
  adds_all c p r (attribute_5_trigger h) = attribute_here h it
  adds_all c p r (attribute_5_postcondition h) = attribute_here h it
  adds_all c p r (attribute_5_terminate h) = attribute_here h it
  adds_all c p r (source_3 h) = source_here h (inl it)
  adds_all c p r (source_4 h) = source_here h (inr (inl it))
  adds_all c p r (source_5 {c = j} {t} {s} {l} h e) =
      inl (j, t, defined h, inr (inr (inl (subst (λ (x : List Source). OfSequence j (sources_before j (tasks g)) x (task № j) Table.sources (components_are (numbered (sources_before j (tasks g)) (s ∷ l)))) (sym e) it))))
  adds_all c p r (source_7 {d} {x} h u e) = source_here h (inr (inr (inl (d, x, u, (e, it)))))
  adds_all c p r (source_8 {k} h u) = source_here h (inr (inr (inr (k, _, u, it))))
  adds_all c p r (data_item_3 {c = d} {d = x} h) = inr (inr (inr (d, x, h, inl it)))
  adds_all c p r (data_item_4a {c = d} {d = x} h) = inr (inr (inr (d, x, h, inr (inl it))))
  adds_all c p r (data_item_4b {c = d} {d = x} h) = inr (inr (inr (d, x, h, inr (inr it))))

  attribute_adds : {j : ℕ} (a : Attribute) {c : Component} {p : Property} {r : RowValue} → SetTaskAttribute g j a → OfAttribute j a c p r → Adds g c p r
  attribute_adds (Structure.generic x) h u = absurd u
  attribute_adds (Structure.precondition e) h it = attribute_5_precondition h
  attribute_adds (Structure.wait_condition e) h it = attribute_5_wait_condition h
  attribute_adds (Structure.terminate e) h it = attribute_5_terminate h
  attribute_adds (Structure.postcondition l) h it = attribute_5_postcondition h
  attribute_adds (Structure.trigger n) h it = attribute_5_trigger h
  attribute_adds (Structure.component n xs) h u = absurd u
  attribute_adds (Structure.source n xs) h u = absurd u

  sequence_adds : {j : ℕ} {t : Task} (l : List Source) {c : Component} {p : Property} {r : RowValue} → InstantiateTask g t j → sources_of t ≡ l → OfSequence j (sources_before j (tasks g)) l c p r → Adds g c p r
  sequence_adds [] h e u = absurd u
  sequence_adds (s ∷ l) h e it = source_5 h e

  task_adds : {j : ℕ} {t : Task} {c : Component} {p : Property} {r : RowValue} → InstantiateTask g t j → TaskRows j t c p r → Adds g c p r
  task_adds {t} h (inl it) = task_2 (record { definition = t; instantiated = h; constant = refl })
  task_adds h (inr (inl it)) = task_3 h
  task_adds {t} h (inr (inr (inl u))) = sequence_adds (sources_of t) h refl u
  task_adds h (inr (inr (inr (i, x, q, u)))) = attribute_adds x.what (task_4 h q) u

  terminal_adds : {P j : ℕ} (a : ComponentAttribute) {c : Component} {p : Property} {r : RowValue} → SetComponentAttribute g j P a → OfTerminal j a c p r → Adds g c p r
  terminal_adds (schedule_constraint n) h u = absurd u
  terminal_adds (Structure.terminal b) h it = component_attribute_5 h

  component_adds : {P j : ℕ} {a : Parts.Component} {c : Component} {p : Property} {r : RowValue} → InstantiateComponent g P a j → ComponentRows P a j c p r → Adds g c p r
  component_adds h (inl it) = attribute_1b h
  component_adds h (inr (inl it)) = attribute_1c h
  component_adds h (inr (inr (inl (u, it)))) = component_3a h u
  component_adds h (inr (inr (inr (inl (n, it))))) = component_3b h n
  component_adds h (inr (inr (inr (inr (inl (t, ts, u, it)))))) = component_attribute_1 h u
  component_adds h (inr (inr (inr (inr (inr (i, x, q, u)))))) = terminal_adds x.what (component_4 h q) u

  mandatory_adds : {n m i w : ℕ} {s : Source} (a : SourceAttribute) {c : Component} {p : Property} {r : RowValue} → InstantiateSource g m s n → At s.attributes i (record { word = w; what = a }) → OfMandatory n a c p r → Adds g c p r
  mandatory_adds (Structure.source_generic x) h q u = absurd u
  mandatory_adds (Structure.mandatory b) h q it = source_8 h q

  source_adds : {n m : ℕ} {s : Source} {c : Component} {p : Property} {r : RowValue} → InstantiateSource g m s n → SourceRows n s c p r → Adds g c p r
  source_adds h (inl it) = source_3 h
  source_adds h (inr (inl it)) = source_4 h
  source_adds h (inr (inr (inl (d, x, u, (e, it))))) = source_7 h u e
  source_adds h (inr (inr (inr (i, x, q, u)))) = mandatory_adds x.what h q u

  item_adds : {d : ℕ} {x : DataItem} {c : Component} {p : Property} {r : RowValue} → At (data_items g) d x → ItemRows d x c p r → Adds g c p r
  item_adds h (inl it) = data_item_3 h
  item_adds h (inr (inl it)) = data_item_4a h
  item_adds h (inr (inr it)) = data_item_4b h

  all_adds : (c : Component) (p : Property) (r : RowValue) → All c p r → Adds g c p r
  all_adds c p r (inl (j, t, h, u)) = task_adds (lawful.reached h) u
  all_adds c p r (inr (inl (P, q, h, (k, a, u, (j, t, v, (e, w)))))) = component_adds (task_5 (lawful.reached h) u v e) w
  all_adds c p r (inr (inr (inl (j, t, h, (k, s, u, w))))) = source_adds (attribute_3 (lawful.reached h) u refl) w
  all_adds c p r (inr (inr (inr (d, x, h, u)))) = item_adds h u

  -- ---- the table

  pub adds_listed : Listed (Adds g) (load_f g)
  adds_listed = listed_as all_adds adds_all all_listed

  pub initial : Initial g (look_f (load_f g))
  initial = record { rows = look_rows adds_listed (λ c p r q. adds_once lawful) }

-- ---- and no other, lawful or not

same_option : {A : Type 0} (a b : Option A) → ((r : A) → a ≡ some r ↔ b ≡ some r) → a ≡ b
same_option none none f = refl
same_option none (some y) f = (f y).1 refl
same_option (some x) b f = sym ((f x).0 refl)

pub one_initial : {g : List TopLevel} {t u : Table.Table} → Initial g t → Initial g u → t ≡ u
one_initial {t} {u} h k =
    fun_ext (λ c. fun_ext (λ p. same_option (t c p) (u c p) (λ r. (λ e. (k.rows c p r).1 ((h.rows c p r).0 e), λ e. (h.rows c p r).1 ((k.rows c p r).0 e)))))
