-- The value of an assignment, by its number: there is one, of the type and within the limits, and the evaluator finds it. By the one view of a table that is kept.
use Rattle.std.specs.Prelude.{ℕ, ◌+◌, ◌<◌, ◌≤◌, ◌≡◌, refl, Bool, List}
use Rattle.std.proofs.Common.{arith, sym, ap, subst, ◌∙◌}
use Rattle.std.proofs.Math.Option.{Option, some}
use Rattle.paper_expressions.specs.Values as paper
use Rattle.paper_expressions.specs.View.{View, At}
use Rattle.paper_expressions.specs.Types.{Ty}
use Rattle.paper_expressions.specs.Expressions.{Expr, HasType}
use Rattle.paper_expressions.specs.Evaluation.{Evaluates}
use Rattle.paper_expressions.proofs.Laws.Search.{at_one}
use Rattle.paper_expressions.proofs.Laws.Typing.{type_kept}
use Rattle.paper_expressions.proofs.Laws.WithinLimits.{Modest, Limited}
use Rattle.paper_expressions.proofs.Laws.Promise.{one_value}
use Rattle.paper_expressions.proofs.Laws.Parentheses.{bare, type_to_bare}
use Rattle.paper_guideline.specs.Structure.{TopLevel}
use Rattle.paper_guideline.specs.Limits.{depth_limit}
use Rattle.paper_guideline.specs.Refusals.{declared_items}
use Rattle.paper_rows.specs.Table.{task, ◌№◌, postcondition, RowValue, assertion_is, Assigns, Table, Contains}
use Rattle.paper_rows.proofs.Laws.Sized.{Plain}
use Rattle.paper_engine.specs.Conditions.{Evaluate}
use Rattle.paper_engine.proofs.Laws.Kept.{view_f, view_of, view_sound, same_items, one_view, adds, fixed_postcondition}
use Rattle.paper_engine.proofs.Laws.Attached.{assigned_typed, assigned_at}
use Rattle.paper_engine.proofs.Laws.LimitLaws.{value_within}
use Rattle.parts.specs.Part as Parts
use Rattle.values.specs.declared.value.Value.{Value}
use Rattle.values.specs.Meaning.{meaning_v}
use Rattle.evaluator.specs.Published.{IsValue, Published, written}
use Rattle.operations.specs.Rows.{assign_at, assigns_at}
use Rattle.review.specs.Changes.{tasks_in}
use Rattle.truths.specs.Part.{shown_by}
use Rattle.planned.specs.Planned.{Assignment, assigned_task, assigned_end}
use Rattle.holding.specs.Holding.{Holds}
use Rattle.holding.specs.Shown.{kept, planned, setting}

-- the assignment with the number a is the i-th of the task T, and its value is v
pub record ValueOf (f : List ℕ) (t : Table) (a : ℕ) (v : paper.Value) : Type 0 where
  pub T : ℕ
  pub i : ℕ
  pub assertion : List Assigns
  pub assignment : Assigns
  pub its_task : T < tasks_in f
  pub number : a ≡ assign_at f T + i
  pub row : Contains t (task № T) postcondition (assertion_is assertion)
  pub at : At assertion i assignment
  pub value : Evaluate t assignment.assigned T v

same_assertion : {o : Option RowValue} {l k : List Assigns} → o ≡ some (assertion_is l) → o ≡ some (assertion_is k) → l ≡ k
same_assertion e f = cc

module _ {g : List TopLevel} {x b f : List ℕ} {w : List (List Bool)} {s : List ℕ} {t : Table} {flag : Bool} {time : ℕ} (h : Holds g x b f w s t flag time) where
  -- what the plan tells of it
  pub told : {a : ℕ} {v : paper.Value} (k : ValueOf f t a v) → (k.i < assigns_at f k.T) × Assignment (Parts.table x b) f t k.T (assign_at f k.T + k.i) k.assignment
  told k = ((planned h).assigned t (kept h) k.T k.its_task).of k.row k.at

  pub by_task : {a : ℕ} {v : paper.Value} (k : ValueOf f t a v) → assigned_task f a ≡ k.T
  by_task k = ap (assigned_task f) k.number ∙ (told k).1.by

  -- ---- one value

  evaluate_one : {T : ℕ} {e : Expr} {u v : paper.Value} → Evaluate t e T u → Evaluate t e T v → u ≡ v
  evaluate_one {T} {e} {u} {v} k j =
      (one_value (view_f g t) T (view_sound h.lawful (kept h)).apart
      (subst (λ (y : View). Evaluates y T e k.clauses u) (one_view k.its (view_of h.lawful (kept h))) k.evaluates)
      (subst (λ (y : View). Evaluates y T e j.clauses v) (one_view j.its (view_of h.lawful (kept h))) j.evaluates)).value

  same_place : {T U i j : ℕ} {l m : List Assigns} {y z : Assigns} {u v : paper.Value} → T ≡ U → i ≡ j → Contains t (task № T) postcondition (assertion_is l)
      → Contains t (task № U) postcondition (assertion_is m) → At l i y → At m j z → Evaluate t y.assigned T u → Evaluate t z.assigned U v → u ≡ v
  same_place {T} {U} {i} {j} {l} {m} {y} {z} {u} {v} e d r q c k p n =
      let r' = subst (λ (o : ℕ). Contains t (task № o) postcondition (assertion_is l)) e r in
      let c' = subst (λ (o : List Assigns). At o j y) (same_assertion r' q) (subst (λ (o : ℕ). At l o y) d c) in
      let p' = subst (λ (o : ℕ). Evaluate t y.assigned o u) e p in
      evaluate_one (subst (λ (o : Assigns). Evaluate t o.assigned U u) (at_one c' k) p') n

  pub value_one : {a : ℕ} {u v : paper.Value} → ValueOf f t a u → ValueOf f t a v → u ≡ v
  value_one k j =
      let e : k.T ≡ j.T = sym (by_task k) ∙ by_task j in
      let c = ap (assign_at f) e in
      let d : k.i ≡ j.i = (let n = k.number in let m = j.number in omega arith) in
      same_place e d k.row j.row k.at j.at k.value j.value

  pub value_limited : {a : ℕ} {v : paper.Value} → ValueOf f t a v → Limited v
  value_limited k =
      let q = assigned_at (adds (kept h) fixed_postcondition k.row) k.at in
      (value_within h.sized (kept h) h.good.fits (subst Modest q.2.1 (h.sized.modest q.1.1)) (subst Plain q.2.1 (h.sized.plain q.1.1)) k.value).limited

  -- ---- and the evaluator's is it

  pub value_found : (T i a : ℕ) (v : Value) → T < tasks_in f → i < assigns_at f T → a ≡ assign_at f T + i → Published (Parts.table x b) (shown_by f s) (assigned_task f a) (assigned_end f a) depth_limit v
      → ValueOf f t a (meaning_v b v)
  value_found T i a v l m e p =
      let z = (planned h).assigned t (kept h) T l in
      let q = z.all m in
      record {
        T = T;
        i = i;
        assertion = q.0;
        assignment = q.1;
        its_task = l;
        number = e;
        row = q.2;
        at = q.3;
        value = found q.1 (z.of q.2 q.3).1 (assigned_typed h.lawful (adds (kept h) fixed_postcondition q.2) q.3).has_type;
      }
    where
      found : (y : Assigns) → Assignment (Parts.table x b) f t T (assign_at f T + i) y → {u : Ty} → HasType (declared_items g) T y.assigned u → Evaluate t y.assigned T (meaning_v b v)
      found y n {u} typed =
          let sound = view_sound h.lawful (kept h) in
          let p' : Published (Parts.table x b) (shown_by f s) T (assigned_end f (assign_at f T + i)) depth_limit v =
          subst (λ (o : ℕ). Published (Parts.table x b) (shown_by f s) o (assigned_end f (assign_at f T + i)) depth_limit v) n.by
          (subst (λ (o : ℕ). Published (Parts.table x b) (shown_by f s) (assigned_task f o) (assigned_end f o) depth_limit v) e p) in
          let is : IsValue (view_f g t) T y.assigned u (meaning_v b v) =
          written y.assigned sound
          (p' (view_f g t) (bare y.assigned) u sound (setting h) n.ends n.deep n.modest (type_to_bare (view_f g t) T (type_kept (declared_items g) (view_f g t) T (same_items h.lawful (kept h)) typed))) in
          record { view = view_f g t; its = view_of h.lawful (kept h); clauses = is.clauses; evaluates = is.fits }
