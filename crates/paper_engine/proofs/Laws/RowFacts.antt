-- Facts of the rows of a kept table that code asks for: what load set is the same in all, antecedents are tasks, every row is allowed and of a component that is there, and condition rows are within the limits.
use Rattle.std.specs.Prelude.{ℕ, ◌≡◌, refl, ◌↔◌, Bool, List, [], ◌∷◌}
use Rattle.std.proofs.Common.{sym, ap, subst, ◌∙◌}
use Rattle.std.proofs.Math.Option.{Option, none, some}
use Rattle.paper_expressions.specs.View.{At, at_first, at_later}
use Rattle.paper_expressions.proofs.Laws.WithinLimits.{Modest}
use Rattle.paper_expressions.specs.Expressions.{Expr}
use Rattle.paper_guideline.specs.Structure as Structure
use Structure.{TopLevel, Outermost, Placed, Attribute, ComponentAttribute, Task, tasks}
use Rattle.paper_guideline.specs.Parts.{condition, Typed, expressions, Source}
use Rattle.paper_guideline.specs.Parts as Parts
use Rattle.paper_rows.specs.Table
use Table.{Kind, task, data_item, source, Component, ◌№◌, Property, antecedent_tasks, precondition, wait_condition, terminate_condition, RowValue, expression_is, components_are, Table, Contains, TaskId}
use Table.{AllOf, all_of_none, all_of_more, Allowed, allowed_class, allowed_name, allowed_state, allowed_antecedents, allowed_precondition, allowed_wait_condition, allowed_trigger, allowed_postcondition, allowed_parent, allowed_confirmatory, allowed_terminal, allowed_terminate, allowed_sources, allowed_type, allowed_data_item, allowed_mandatory}
use Rattle.paper_rows.specs.Load
use Load.{InstantiateTask, component_6, InstantiateComponent, task_5, SetTaskAttribute, task_4, SetComponentAttribute, component_4, InstantiateSource, numbered, Antecedents, antecedents_none, antecedents_more, antecedents_other}
use Load.{Adds, task_2, task_3, component_3a, component_3b, component_attribute_1, component_attribute_5, attribute_1b, attribute_1c, attribute_5_precondition, attribute_5_wait_condition, attribute_5_trigger, attribute_5_postcondition, attribute_5_terminate}
use Load.{source_3, source_4, source_5, source_7, source_8, data_item_3, data_item_4a, data_item_4b}
use Rattle.paper_rows.proofs.Laws.Lawful.{Lawful, defined}
use Rattle.paper_rows.proofs.Laws.SingleLaws.{source_at}
use Rattle.paper_rows.proofs.Laws.Sized.{Plain, Sized}
use Rattle.paper_guideline.specs.Parts.{of_attribute}
use Rattle.paper_rows.proofs.Laws.Booleans.{decided}
use Rattle.paper_rows.proofs.Laws.Deciding.{as?, some?}
use Rattle.paper_rows.proofs.Laws.Ranks.{is_same_property}
use Rattle.paper_engine.proofs.Laws.Kept.{state_moves, trigger_moves, confirmed_moves, count_moves, cycles_move, start_moves, in_progress_moves, discarded_moves, completed_moves, procedure_moves, value_moves, requested_moves}
use Rattle.paper_engine.proofs.Laws.Kept.{Moving, There, task_there, item_there, source_there, Kept, adds, task_id}
use Rattle.paper_engine.proofs.Laws.Attached.{attached}

-- ---- what load set

same_option : (o q : Option RowValue) → ((r : RowValue) → (o ≡ some r) ↔ (q ≡ some r)) → o ≡ q
same_option none none f = refl
same_option none (some r) f = (f r).1 refl
same_option (some r) q f = sym ((f r).0 refl)

pub fixed_rows : {g : List TopLevel} {t u : Table} {p : Property} (c : Component) → Kept g t → Kept g u → ¬ Moving c p → t c p ≡ u c p
fixed_rows {t} {u} {p} c h k n = same_option (t c p) (u c p) (λ r. (λ e. (k.fixed n).1 ((h.fixed n).0 e), λ e. (h.fixed n).1 ((k.fixed n).0 e)))

-- ---- antecedents

antecedents_tasks : {g : List TopLevel} {p : ℕ} {l : List (Placed ComponentAttribute)} {ts : List Component} → Antecedents g p l ts → AllOf task ts
antecedents_tasks antecedents_none = all_of_none
antecedents_tasks (antecedents_more i e h) = all_of_more (antecedents_tasks h)
antecedents_tasks (antecedents_other h) = antecedents_tasks h

component_task : {g : List TopLevel} {P T : ℕ} {a : Parts.Component} → InstantiateComponent g P a T → (k : Task) × InstantiateTask g k T
component_task (task_5 {t} i q j e) = (t, component_6 (task_5 i q j e) j)

antecedent_in : {g : List TopLevel} {p i : ℕ} {l : List (Placed ComponentAttribute)} {ts : List Component} {c : Component} → Antecedents g p l ts → At ts i c → (A : ℕ) × (c ≡ task № A) × ((k : Task) × InstantiateTask g k A)
antecedent_in (antecedents_more {c = A} i e h) at_first = (A, refl, component_task i)
antecedent_in (antecedents_more i e h) (at_later q) = antecedent_in h q
antecedent_in (antecedents_other h) q = antecedent_in h q
antecedent_in {g = g} {p = p} {i = i} {c = c} antecedents_none q = elim q [ ]

pub antecedent_task : {g : List TopLevel} {t : Table} {T i : ℕ} {l : List Component} {c : Component} → Kept g t → Contains t (task № T) antecedent_tasks (components_are l) → At l i c → (A : ℕ) × (c ≡ task № A) × TaskId t A
antecedent_task {g} {t} {T} kept h q = go (adds kept (λ x. elim x [ ]) h) q
  where
    go : {i : ℕ} {l : List Component} {c : Component} → Adds g (task № T) antecedent_tasks (components_are l) → At l i c → (A : ℕ) × (c ≡ task № A) × TaskId t A
    go (component_attribute_1 a s) q = let k = antecedent_in s q in (k.0, k.1, task_id kept k.2.1)

-- ---- section 10: "a property never gets assigned a value that is not allowed"

numbered_sources : (n : ℕ) (l : List Source) → AllOf source (numbered n l)
numbered_sources n [] = all_of_none
numbered_sources n (s ∷ l) = all_of_more (numbered_sources _ l)

adds_allowed : {g : List TopLevel} {c : Component} {p : Property} {r : RowValue} → Adds g c p r → Allowed p r
adds_allowed (task_2 h) = allowed_class
adds_allowed (task_3 h) = allowed_state
adds_allowed (component_3a h u) = allowed_confirmatory
adds_allowed (component_3b h n) = allowed_confirmatory
adds_allowed (component_attribute_1 h u) = allowed_antecedents (antecedents_tasks u)
adds_allowed (component_attribute_5 h) = allowed_terminal
adds_allowed (attribute_1b h) = allowed_name
adds_allowed (attribute_1c h) = allowed_parent
adds_allowed (attribute_5_precondition h) = allowed_precondition
adds_allowed (attribute_5_wait_condition h) = allowed_wait_condition
adds_allowed (attribute_5_trigger h) = allowed_trigger
adds_allowed (attribute_5_postcondition h) = allowed_postcondition
adds_allowed (attribute_5_terminate h) = allowed_terminate
adds_allowed (source_3 h) = allowed_class
adds_allowed (source_4 h) = allowed_name
adds_allowed (source_5 {s} {l} h e) = allowed_sources (numbered_sources _ (s ∷ l))
adds_allowed (source_7 h x e) = allowed_data_item
adds_allowed (source_8 h q) = allowed_mandatory
adds_allowed (data_item_3 h) = allowed_class
adds_allowed (data_item_4a h) = allowed_name
adds_allowed (data_item_4b h) = allowed_type

component_there : {g : List TopLevel} {P T : ℕ} {a : Parts.Component} → InstantiateComponent g P a T → There g (task № T)
component_there h = task_there (defined (component_task h).1)

set_there : {g : List TopLevel} {T : ℕ} {a : Attribute} → SetTaskAttribute g T a → There g (task № T)
set_there (task_4 h q) = task_there (defined h)

set_component_there : {g : List TopLevel} {T P : ℕ} {a : ComponentAttribute} → SetComponentAttribute g T P a → There g (task № T)
set_component_there (component_4 h q) = component_there h

module _ {g : List TopLevel} (lawful : Lawful g) where
  adds_there : {c : Component} {p : Property} {r : RowValue} → Adds g c p r → There g c
  adds_there (task_2 h) = task_there (defined h.instantiated)
  adds_there (task_3 h) = task_there (defined h)
  adds_there (component_3a h u) = component_there h
  adds_there (component_3b h n) = component_there h
  adds_there (component_attribute_1 h u) = component_there h
  adds_there (component_attribute_5 h) = set_component_there h
  adds_there (attribute_1b h) = component_there h
  adds_there (attribute_1c h) = component_there h
  adds_there (attribute_5_precondition h) = set_there h
  adds_there (attribute_5_wait_condition h) = set_there h
  adds_there (attribute_5_trigger h) = set_there h
  adds_there (attribute_5_postcondition h) = set_there h
  adds_there (attribute_5_terminate h) = set_there h
  adds_there (source_3 h) = source_there (source_at lawful h)
  adds_there (source_4 h) = source_there (source_at lawful h)
  adds_there (source_5 h e) = task_there (defined h)
  adds_there (source_7 h x e) = source_there (source_at lawful h)
  adds_there (source_8 h q) = source_there (source_at lawful h)
  adds_there (data_item_3 h) = item_there h
  adds_there (data_item_4a h) = item_there h
  adds_there (data_item_4b h) = item_there h

-- which rows move is decided
abbrev task_moving : List Property
task_moving = Table.state ∷ Table.trigger_active ∷ Table.confirmed ∷ Table.cycle_count ∷ Table.nbr_cycles_value ∷ Table.start_at ∷ Table.in_progress_time ∷ Table.discarded_time ∷ Table.completed_time ∷ Table.actual_procedure ∷ []

abbrev item_moving : List Property
item_moving = Table.value ∷ Table.requested ∷ []

task_moves : {T i : ℕ} {p : Property} → At task_moving i p → Moving (task № T) p
task_moves at_first = state_moves
task_moves (at_later at_first) = trigger_moves
task_moves (at_later (at_later at_first)) = confirmed_moves
task_moves (at_later (at_later (at_later at_first))) = count_moves
task_moves (at_later (at_later (at_later (at_later at_first)))) = cycles_move
task_moves (at_later (at_later (at_later (at_later (at_later at_first))))) = start_moves
task_moves (at_later (at_later (at_later (at_later (at_later (at_later at_first)))))) = in_progress_moves
task_moves (at_later (at_later (at_later (at_later (at_later (at_later (at_later at_first))))))) = discarded_moves
task_moves (at_later (at_later (at_later (at_later (at_later (at_later (at_later (at_later at_first)))))))) = completed_moves
task_moves (at_later (at_later (at_later (at_later (at_later (at_later (at_later (at_later (at_later at_first))))))))) = procedure_moves
task_moves {T = T} {p = p} (at_later (at_later (at_later (at_later (at_later (at_later (at_later (at_later (at_later (at_later {i = i} x70)))))))))) = elim x70 [ ]

moves_task : {T : ℕ} {p : Property} → Moving (task № T) p → (i : ℕ) × At task_moving i p
moves_task state_moves = (0, at_first)
moves_task trigger_moves = (1, at_later at_first)
moves_task confirmed_moves = (2, at_later (at_later at_first))
moves_task count_moves = (3, at_later (at_later (at_later at_first)))
moves_task cycles_move = (4, at_later (at_later (at_later (at_later at_first))))
moves_task start_moves = (5, at_later (at_later (at_later (at_later (at_later at_first)))))
moves_task in_progress_moves = (6, at_later (at_later (at_later (at_later (at_later (at_later at_first))))))
moves_task discarded_moves = (7, at_later (at_later (at_later (at_later (at_later (at_later (at_later at_first)))))))
moves_task completed_moves = (8, at_later (at_later (at_later (at_later (at_later (at_later (at_later (at_later at_first))))))))
moves_task procedure_moves = (9, at_later (at_later (at_later (at_later (at_later (at_later (at_later (at_later (at_later at_first)))))))))

item_moves : {d i : ℕ} {p : Property} → At item_moving i p → Moving (data_item № d) p
item_moves at_first = value_moves
item_moves (at_later at_first) = requested_moves
item_moves {d = d} {p = p} (at_later (at_later {i = i} x14)) = elim x14 [ ]

moves_item : {d : ℕ} {p : Property} → Moving (data_item № d) p → (i : ℕ) × At item_moving i p
moves_item value_moves = (0, at_first)
moves_item requested_moves = (1, at_later at_first)

pub moving? : (c : Component) (p : Property) → Dec (Moving c p)
moving? (task № n) p = as? (λ h. subst (Moving (task № n)) h.3 (task_moves h.2)) (λ m. let k = moves_task m in (k.0, p, k.1, refl)) (some? (λ x. x ≡ p) (λ x. decided (is_same_property x p)) task_moving)
moving? (data_item № n) p = as? (λ h. subst (Moving (data_item № n)) h.3 (item_moves h.2)) (λ m. let k = moves_item m in (k.0, p, k.1, refl)) (some? (λ x. x ≡ p) (λ x. decided (is_same_property x p)) item_moving)
moving? (Table.candidate № n) p = no (λ h. elim h [ ])
moving? (Table.argument № n) p = no (λ h. elim h [ ])
moving? (Table.parameter № n) p = no (λ h. elim h [ ])
moving? (source № n) p = no (λ h. elim h [ ])
moving? (Table.warning_condition № n) p = no (λ h. elim h [ ])

-- every row, whether it moves or not, holds an allowed value, of a component that is there
pub every_allowed : {g : List TopLevel} {t : Table} {c : Component} {p : Property} {r : RowValue} → Kept g t → Contains t c p r → Allowed p r
every_allowed {c} {p} {r} kept h = go (moving? c p)
  where
    go : Dec (Moving c p) → Allowed p r
    go (yes m) = kept.allowed m h
    go (no n) = adds_allowed (adds kept n h)

pub every_there : {g : List TopLevel} {t : Table} {c : Component} {p : Property} {r : RowValue} → Lawful g → Kept g t → Contains t c p r → There g c
every_there {g} {c} {p} lawful kept h = go (moving? c p)
  where
    go : Dec (Moving c p) → There g c
    go (yes m) = kept.there m h
    go (no n) = adds_there lawful (adds kept n h)

-- ---- the expressions of condition rows are within the limits

module _ {g : List TopLevel} (sized : Sized g) where
  abbrev Fine : Expr → Type 0
  Fine e = Modest e × Plain e

  condition_fine : {T : ℕ} {a : Attribute} {x : Outermost} → SetTaskAttribute g T a → At (of_attribute T a) 0 (record { expression = x; role = condition; attached = T }) → Fine x.tree
  condition_fine h r = let q = attached h r in (sized.modest q.1, sized.plain q.1)

  pub precondition_fine : {T : ℕ} {e : Expr} → Adds g (task № T) precondition (expression_is e) → Fine e
  precondition_fine (attribute_5_precondition h) = condition_fine h at_first

  pub wait_fine : {T : ℕ} {e : Expr} → Adds g (task № T) wait_condition (expression_is e) → Fine e
  wait_fine (attribute_5_wait_condition h) = condition_fine h at_first

  pub terminate_fine : {T : ℕ} {e : Expr} → Adds g (task № T) terminate_condition (expression_is e) → Fine e
  terminate_fine (attribute_5_terminate h) = condition_fine h at_first
