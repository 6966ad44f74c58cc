-- What the rows of a task are that no call changes, by the plan and by who waits for whom. By what the plan says of every kept table.
use Rattle.std.specs.Prelude.{ℕ, zero, suc, ◌+◌, ◌-◌, ◌<◌, ◌≡◌, refl, Bool, true, false, not, cond, List, eqb, get_or}
use Rattle.std.proofs.Common.{arith, sym, ap, subst, ◌∙◌, eqb-true, eq-eqb, ne_eqb}
use Rattle.std.proofs.Math.Option.{Option, none, some}
use Rattle.paper_expressions.proofs.Laws.Search.{no_clash}
use Rattle.paper_expressions.specs.Expressions.{Expr}
use Rattle.paper_expressions.specs.View.{at_first}
use Rattle.paper_guideline.specs.Structure as Structure
use Structure.{TopLevel, Task, tasks}
use Rattle.paper_rows.specs.Table.{task, ◌№◌, Class, Property, class, name, antecedent_tasks, precondition, wait_condition, trigger, postcondition, parent_plan, terminate_condition, sources, RowValue, class_is, component_is, components_are, assertion_is, expression_is, text_row, Table, Contains, TaskId}
use Rattle.paper_rows.specs.Load as Load
use Load.{Adds, class_constant, numbered}
use Rattle.paper_rows.proofs.Laws.Seen.{text_f}
use Rattle.paper_rows.proofs.Laws.Lists.{indexed_at}
use Rattle.paper_rows.proofs.Laws.Lawful.{defined}
use Rattle.paper_engine.proofs.Laws.Kept.{Moving, adds, instantiated, fixed_class, fixed_name, task_view}
use Rattle.paper_calls.specs.Calls.{ShownAs, there, there_expression, there_assertion, there_components}
use Rattle.parts.specs.Part as Parts
use Rattle.parts.specs.Texts.{text_at_fn}
use Rattle.truths.specs.Part.{part_at}
use Rattle.truths.specs.Truth.{Condition}
use Rattle.waits.specs.Booleans.{any_f, is_any, Tests}
use Rattle.waits.specs.Twins.{marked, waiting, parent_at, trigger_f, count_at_fn}
use Rattle.operations.specs.Rows.{assigns_at}
use Rattle.review.specs.Changes.{tasks_in}
use Rattle.planned.specs.Planned.{trigger_text, task_names}
use Rattle.apply.specs.Tasks.{name_of}
use Rattle.holding.specs.Holding.{Holds}
use Rattle.holding.specs.Shown.{worked, kept, planned}
use Rattle.task_rows.specs.Answers.{class_row, text_if, parent_row}

-- v tells whether the row is there, and it is then shown as being there
pub record Tells (v : Bool) (q : Property) (o : Option RowValue) : Type 0 where
  pub yes : v ≡ true → (r : RowValue) × (o ≡ some r) × ShownAs q r there
  pub no : v ≡ false → o ≡ none

abbrev pub someb : ℕ → Bool
someb n = not (eqb n 0)

-- where no row is there, or one is and then v is true
told_by : {v : Bool} {q : Property} {o : Option RowValue} → (v ≡ true → (r : RowValue) × (o ≡ some r) × ShownAs q r there) → ((r : RowValue) → o ≡ some r → v ≡ true) → Tells v q o
told_by {v} {q} {o} f k = record { yes = f; no = λ e. go e o refl }
  where
    go : v ≡ false → (z : Option RowValue) → o ≡ z → o ≡ none
    go e none i = i
    go e (some r) i = absurd (no_clash (let y = sym e ∙ k r i in cc))

not_zero : (n : ℕ) → someb n ≡ true → ¬ (n ≡ 0)
not_zero n e z = no_clash (let y = sym (ap not (eq-eqb n 0 z)) ∙ e in cc)

is_some : (n : ℕ) → ¬ (n ≡ 0) → someb n ≡ true
is_some n f = ap not (ne_eqb n 0 f)

-- an option that holds texts only
abbrev text_row_of : Option (List ℕ) → Option RowValue
text_row_of none = none
text_row_of (some s) = some (text_row s)

text_option : (o : Option RowValue) {z : Option (List ℕ)} → ((r : RowValue) → o ≡ some r → (s : List ℕ) × (r ≡ text_row s)) → text_f o ≡ z → o ≡ text_row_of z
text_option none f e = ap text_row_of e
text_option (some r) f e =
    let k = f r refl in
    ap some k.1 ∙ ap text_row_of (sym (ap (λ (y : RowValue). text_f (some y)) k.1) ∙ e)

module _ {g : List TopLevel} {x b f : List ℕ} {w : List (List Bool)} {s : List ℕ} {t : Table} {flag : Bool} {time : ℕ} (h : Holds g x b f w s t flag time) {T : ℕ} (l : T < tasks_in f) where
  id : TaskId t T
  id = ((worked h).ids T).1 l

  added : {q : Property} {r : RowValue} → ¬ Moving (task № T) q → Contains t (task № T) q r → Adds g (task № T) q r
  added n e = adds (kept h) n e

  -- ---- class

  pub class_told : t (task № T) class ≡ class_row (get_or f (168 + T) 0)
  class_told = go id.row (added fixed_class id.row)
    where
      by : {k : Class} (d : Structure.Class) → class_constant d ≡ k → t (task № T) class ≡ some (class_is k) → t (task № T) class ≡ class_row (get_or f (168 + T) 0)
      by Structure.plan z e =
          let c = e ∙ ap (λ (y : Class). some (class_is y)) (sym z) in
          c ∙ sym (ap class_row (eqb-true (get_or f (168 + T) 0) 1 (((worked h).plans l).1 c)))
      by Structure.action z e =
          let c = e ∙ ap (λ (y : Class). some (class_is y)) (sym z) in
          c ∙ sym (ap class_row (eqb-true (get_or f (168 + T) 0) 2 (((worked h).actions l).1 c)))
      by Structure.enquiry z e =
          let c = e ∙ ap (λ (y : Class). some (class_is y)) (sym z) in
          c ∙ sym (ap class_row (eqb-true (get_or f (168 + T) 0) 3 (((worked h).enquiries l).1 c)))

      go : {r : RowValue} → t (task № T) class ≡ some r → Adds g (task № T) class r → t (task № T) class ≡ class_row (get_or f (168 + T) 0)
      go e (Load.task_2 q) = by q.definition.class q.constant e

  -- ---- name

  name_text : (r : RowValue) → t (task № T) name ≡ some r → (u : List ℕ) × (r ≡ text_row u)
  name_text r e = go (added fixed_name e)
    where
      go : {v : RowValue} → Adds g (task № T) name v → (u : List ℕ) × (v ≡ text_row u)
      go (Load.attribute_1b q) = (_, refl)

  seen_name : text_f (t (task № T) name) ≡ name_of b (task_names f) T
  seen_name = (planned h).task-names t (kept h) (indexed_at (task_view t) (defined (instantiated (kept h) id).1))

  pub name_told : t (task № T) name ≡ text_if b (someb T) (get_or f (1192 + T) 0)
  name_told = go T refl (text_option (t (task № T) name) name_text seen_name)
    where
      go : (U : ℕ) → T ≡ U → t (task № T) name ≡ text_row_of (name_of b (task_names f) U) → t (task № T) name ≡ text_if b (someb U) (get_or f (1192 + U) 0)
      go zero i e = e
      go (suc U) i e = e ∙ ap (λ (y : ℕ). some (text_row (text_at_fn b y))) (part_at f 1192 (tasks_in f) (suc U) (subst (λ (y : ℕ). y < tasks_in f) i l)) ∙ ap (λ (v : Bool). text_if b (not v) (get_or f (1192 + suc U) 0)) (sym (ne_eqb (suc U) 0 (λ z. omega arith)))

  -- ---- trigger

  pub trigger_told : t (task № T) trigger ≡ text_if b (trigger_f f T) (trigger_text f T)
  trigger_told = go (trigger_f f T) refl
    where
      none_there : trigger_f f T ≡ false → (o : Option RowValue) → t (task № T) trigger ≡ o → t (task № T) trigger ≡ none
      none_there e none i = i
      none_there e (some r) i = absurd (no_clash (let y = sym e ∙ ((worked h).triggers l).1 (its (added (λ z. elim z [ ]) i) i) in cc))
        where
          its : {v : RowValue} → Adds g (task № T) trigger v → t (task № T) trigger ≡ some v → (u : List ℕ) × Contains t (task № T) trigger (text_row u)
          its (Load.attribute_5_trigger q) j = (_, j)

      go : (v : Bool) → trigger_f f T ≡ v → t (task № T) trigger ≡ text_if b v (trigger_text f T)
      go true e =
          let a = ((worked h).triggers l).0 e in
          a.1 ∙ ap (λ (y : List ℕ). some (text_row y)) (sym ((planned h).triggers t (kept h) l a.1))
      go false e = none_there e (t (task № T) trigger) refl

  -- ---- parent_plan

  pub parent_told : t (task № T) parent_plan ≡ parent_row (parent_at f T)
  parent_told = go (parent_at f T) refl
    where
      go : (p : ℕ) → parent_at f T ≡ p → t (task № T) parent_plan ≡ parent_row p
      go zero e = ((worked h).parents l).none_there e
      go (suc P) e =
          (((worked h).parents l).there {P = P} (e ∙ (let y : suc P ≡ P + 1 = omega arith in y))).1
          ∙ ap (λ (y : ℕ). some (component_is (task № y))) (let y : P ≡ suc P - 1 = omega arith in y)
          ∙ ap (λ (v : Bool). cond v none (some (component_is (task № (suc P - 1))))) (sym (ne_eqb (suc P) 0 (λ z. omega arith)))

  -- ---- rows that are only there

  condition_told : (q : Property) {k : ℕ} → Condition (Parts.table x b) k (t (task № T) q) → ((r : RowValue) → t (task № T) q ≡ some r → (e : Expr) × (r ≡ expression_is e)) → Tells (someb k) q (t (task № T) q)
  condition_told q {k} c only =
      told_by (λ e. (let z = c.there (not_zero k e) in (expression_is z.0, z.1, there_expression)))
      (λ r i. is_some k (λ z. c.none_there z (only r i).0 (i ∙ ap some (only r i).1)))

  pub precondition_told : Tells (someb (get_or f (520 + T) 0)) precondition (t (task № T) precondition)
  precondition_told = condition_told precondition ((planned h).preconditions t (kept h) T l) (λ r i. its (added (λ z. elim z [ ]) i))
    where
      its : {v : RowValue} → Adds g (task № T) precondition v → (e : Expr) × (v ≡ expression_is e)
      its (Load.attribute_5_precondition q) = (_, refl)

  pub wait_told : Tells (someb (get_or f (552 + T) 0)) wait_condition (t (task № T) wait_condition)
  wait_told = condition_told wait_condition ((planned h).wait_conditions t (kept h) T l) (λ r i. its (added (λ z. elim z [ ]) i))
    where
      its : {v : RowValue} → Adds g (task № T) wait_condition v → (e : Expr) × (v ≡ expression_is e)
      its (Load.attribute_5_wait_condition q) = (_, refl)

  pub terminate_told : Tells (someb (get_or f (584 + T) 0)) terminate_condition (t (task № T) terminate_condition)
  terminate_told = condition_told terminate_condition ((planned h).terminates t (kept h) T l) (λ r i. its (added (λ z. elim z [ ]) i))
    where
      its : {v : RowValue} → Adds g (task № T) terminate_condition v → (e : Expr) × (v ≡ expression_is e)
      its (Load.attribute_5_terminate q) = (_, refl)

  pub antecedents_told : Tells (any_f (marked (waiting w T)) 32) antecedent_tasks (t (task № T) antecedent_tasks)
  antecedents_told =
      told_by (λ e. (let a = any.0 e in let z = ((worked h).waits l).all a.1 a.2 in (components_are z.0, z.2, there_components)))
      (λ r i. its (added (λ z. elim z [ ]) i) i)
    where
      any : Tests (any_f (marked (waiting w T)) 32) ((A : ℕ) × (A < 32) × (marked (waiting w T) A ≡ true))
      any = is_any (marked (waiting w T)) (λ A. marked (waiting w T) A ≡ true) 32 (λ A m. (λ z. z, λ z. z))

      its : {v : RowValue} → Adds g (task № T) antecedent_tasks v → t (task № T) antecedent_tasks ≡ some v → any_f (marked (waiting w T)) 32 ≡ true
      its (Load.component_attribute_1 a q) i = let z = ((worked h).waits l).of i at_first in any.1 (z.0, z.1, z.3)

  pub postcondition_told : Tells (someb (assigns_at f T)) postcondition (t (task № T) postcondition)
  postcondition_told =
      told_by (λ e. (let n = not_zero (assigns_at f T) e in let z = ((planned h).assigned t (kept h) T l).all {i = 0} (omega arith) in (assertion_is z.0, z.2, there_assertion)))
      (λ r i. its (added (λ z. elim z [ ]) i) i)
    where
      its : {v : RowValue} → Adds g (task № T) postcondition v → t (task № T) postcondition ≡ some v → someb (assigns_at f T) ≡ true
      its (Load.attribute_5_postcondition q) i = is_some (assigns_at f T) (let z = (planned h).asserted t (kept h) l i in λ y. omega arith)

  pub sources_told : Tells (someb (count_at_fn f T)) sources (t (task № T) sources)
  sources_told =
      told_by (λ e. (let n = not_zero (count_at_fn f T) e in let z = ((worked h).sourced l).all {i = 0} (omega arith) in (components_are z.0, z.1, there_components)))
      (λ r i. its (added (λ z. elim z [ ]) i) i)
    where
      its : {v : RowValue} → Adds g (task № T) sources v → t (task № T) sources ≡ some v → someb (count_at_fn f T) ≡ true
      its (Load.source_5 q e) i = is_some (count_at_fn f T) (let z = ((worked h).sourced l).of i at_first in let y = z.0 in λ u. omega arith)
