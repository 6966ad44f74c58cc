-- The rows that a cycle asks for are those of the published Changes table: a row of a value by the number a stands for the one value of the assignment a. By the operations' clauses.
use Rattle.std.specs.Prelude.{ℕ, ◌+◌, ◌<◌, ◌≤◌, ◌≡◌, refl, Bool, ◌↔◌, List}
use Rattle.std.proofs.Common.{arith, sym, ap, subst, ◌∙◌}
use Rattle.paper_expressions.specs.Bytes.{folded}
use Rattle.paper_expressions.specs.Values.{Value}
use Rattle.paper_expressions.specs.View.{View, At}
use Rattle.paper_guideline.specs.Structure.{TopLevel, DataItem, data_items}
use Rattle.paper_rows.specs.Table.{task, data_item, Component, ◌№◌, Property, name, postcondition, value, RowValue, value_is, time_is, assertion_is, text_row, Assigns, Table, Contains, ViewOf}
use Rattle.paper_rows.specs.Load.{Adds, data_item_4a}
use Rattle.paper_rows.proofs.Laws.Lists.{indexed_at}
use Rattle.paper_engine.specs.Operations
use Operations.{Review, §8·5·1-4, Start, start_9, ResolveTarget, target_2, as_it_is, assertion_1, EnactAssertion, assertion_2, Complete, complete_1, complete_2, complete_3, complete_4, complete_5, asks_1, asks_2, asks_3, asks_4, Changes, asked_by}
use Rattle.paper_engine.proofs.Laws.CollisionLaws.{Valued, valued}
use Rattle.paper_engine.proofs.Laws.Kept.{view_f, item_view, view_of, view_sound, one_view, adds, fixed_name}
use Rattle.paper_engine.proofs.Laws.KeptLaws.{never_cycles}
use Rattle.parts.specs.Part as Parts
use Rattle.operations.specs.Rows.{target_at, assign_at, assigns_at, CompleteS, symbol_1, symbol_2, symbol_3, symbol_5}
use Rattle.operations.specs.Review.{AskedS, asked_1, asked_2, asked_3, asked_4}
use Rattle.review.specs.Changes.{ChangesS, asked_at, tasks_in}
use Rattle.enacting.specs.Enact.{Spot, of_task, of_item}
use Rattle.planned.specs.Planned.{Assignment, assigned_task}
use Rattle.holding.specs.Holding.{Holds}
use Rattle.holding.specs.Shown.{kept, planned, worked}
use Rattle.asking.specs.Assigned.{ValueOf, told, by_task}

-- a value row has no cell of tag and number
pub no_value_spot : {d p q : ℕ} → ¬ Spot (data_item № d) value p q
no_value_spot h = elim h [ ]

valued_spot : {c : Component} {p : Property} {a e : ℕ} → Valued c p → ¬ Spot c p a e
valued_spot valued h = no_value_spot h

assertion_valued : {t : Table} {T : ℕ} {l : List Assigns} {c : Component} {p : Property} {r : RowValue} → EnactAssertion t T l c p r → Valued c p
assertion_valued (assertion_2 h (assertion_1 v d e s)) = valued

-- the name row of a data item is its own
item_named : {g : List TopLevel} {d : ℕ} {u : List ℕ} → Adds g (data_item № d) name (text_row u) → (y : DataItem) × At (data_items g) d y × (y.named.spelt ≡ u)
item_named (data_item_4a k) = (_, k, refl)

no_start_value : {t : Table} {now T d : ℕ} {r : RowValue} → ¬ Start t now T (data_item № d) value r
no_start_value (start_9 a b i h) = elim h [ ]

module _ {g : List TopLevel} {x b f : List ℕ} {w : List (List Bool)} {s : List ℕ} {t : Table} {flag : Bool} {time : ℕ} (h : Holds g x b f w s t flag time) where
  -- ---- every other row

  complete_to : {T : ℕ} {c : Component} {p : Property} {r : RowValue} {a e : ℕ} → Spot c p a e → CompleteS f time T c p r → Complete t time T c p r
  complete_to z symbol_1 = complete_1
  complete_to z symbol_2 = complete_2
  complete_to z (symbol_3 i l) = absurd (no_value_spot z)
  complete_to z symbol_5 = complete_5 (never_cycles h.lawful (kept h))

  complete_from : {T : ℕ} {c : Component} {p : Property} {r : RowValue} {a e : ℕ} → Spot c p a e → Complete t time T c p r → CompleteS f time T c p r
  complete_from z complete_1 = symbol_1
  complete_from z complete_2 = symbol_2
  complete_from z (complete_3 k q) = absurd (valued_spot (assertion_valued q) z)
  complete_from z (complete_4 k q) = absurd (never_cycles h.lawful (kept h) k)
  complete_from z (complete_5 k) = symbol_5

  pub row_to : {c : Component} {p : Property} {r : RowValue} {a e : ℕ} → Spot c p a e → ChangesS f t time (tasks_in f) c p r → Changes t time c p r
  row_to z (asked_at {T} l (asked_1 v k)) = asked_by (((worked h).ids T).1 l) (asks_1 v k)
  row_to z (asked_at {T} l (asked_2 v k)) = asked_by (((worked h).ids T).1 l) (asks_2 v k)
  row_to z (asked_at {T} l (asked_3 v k)) = asked_by (((worked h).ids T).1 l) (asks_3 v k)
  row_to z (asked_at {T} l (asked_4 v k)) = asked_by (((worked h).ids T).1 l) (asks_4 v (complete_to z k))

  pub row_from : {c : Component} {p : Property} {r : RowValue} {a e : ℕ} → Spot c p a e → Changes t time c p r → ChangesS f t time (tasks_in f) c p r
  row_from z (asked_by {T} i (asks_1 v k)) = asked_at (((worked h).ids T).0 i) (asked_1 v k)
  row_from z (asked_by {T} i (asks_2 v k)) = asked_at (((worked h).ids T).0 i) (asked_2 v k)
  row_from z (asked_by {T} i (asks_3 v k)) = asked_at (((worked h).ids T).0 i) (asked_3 v k)
  row_from z (asked_by {T} i (asks_4 v k)) = asked_at (((worked h).ids T).0 i) (asked_4 v (complete_from z k))

  -- ---- rows of values

  -- a value row by number is that of some task's assignment
  pub value_row : {d a : ℕ} → ChangesS f t time (tasks_in f) (data_item № d) value (time_is a) → (T : ℕ) × (i : ℕ) × (T < tasks_in f) × Review t time T §8·5·1-4 × (i < assigns_at f T) × (a ≡ assign_at f T + i) × (target_at f a ≡ d)
  value_row (asked_at l (asked_1 v k)) = absurd (elim k [ ])
  value_row (asked_at l (asked_2 v k)) = absurd (no_start_value k)
  value_row (asked_at l (asked_3 v k)) = absurd (elim k [ ])
  value_row {d} {a} (asked_at {T} l (asked_4 v k)) = go T d a l v k
    where
      go : (T d a : ℕ) → T < tasks_in f → Review t time T §8·5·1-4 → CompleteS f time T (data_item № d) value (time_is a)
          → (T : ℕ) × (i : ℕ) × (T < tasks_in f) × Review t time T §8·5·1-4 × (i < assigns_at f T) × (a ≡ assign_at f T + i) × (target_at f a ≡ d)
      go T d a l v (symbol_3 i m) = (T, i, l, v, m, refl, refl)

  -- of the item that the target names
  target_is : {T a d : ℕ} {y : Assigns} {v : View} → Assignment (Parts.table x b) f t T a y → ViewOf t v → ResolveTarget v y.target d → target_at f a ≡ d
  target_is {a = a} {d} {y} {v} k o r = go (subst (λ (z : View). ResolveTarget z y.target d) (one_view o (view_of h.lawful (kept h))) r)
    where
      go : ResolveTarget (view_f g t) y.target d → target_at f a ≡ d
      go (target_2 i e) =
          let n = item_named (adds (kept h) fixed_name k.target) in
          (view_sound h.lawful (kept h)).apart.items (indexed_at (item_view t) n.1) i (ap folded n.2 ∙ k.alike ∙ sym e)

  target_to : {T a : ℕ} {y : Assigns} → Assignment (Parts.table x b) f t T a y → ResolveTarget (view_f g t) y.target (target_at f a)
  target_to k =
      let n = item_named (adds (kept h) fixed_name k.target) in
      target_2 (indexed_at (item_view t) n.1) (ap folded n.2 ∙ k.alike)

  pub value_to : {d a : ℕ} {v : Value} → ChangesS f t time (tasks_in f) (data_item № d) value (time_is a) → ValueOf f t a v → Changes t time (data_item № d) value (value_is v)
  value_to {d} {a} {v} c k =
      let z = value_row c in
      let m = (told h k).1 in
      let same : a ≡ assign_at f k.T + k.i = k.number in
      -- the task is the same
      let e : z.0 ≡ k.T = sym (told_task z.0 z.1 z.2 z.4 z.5) ∙ by_task h k in
      let r : Review t time k.T §8·5·1-4 = subst (λ (o : ℕ). Review t time o §8·5·1-4) e z.3 in
      let d' : target_at f (assign_at f k.T + k.i) ≡ d = ap (target_at f) (sym same) ∙ z.6 in
      subst (λ (o : ℕ). Changes t time (data_item № o) value (value_is v)) d'
      (asked_by (((worked h).ids k.T).1 k.its_task) (asks_4 r (complete_3 k.row (assertion_2 k.at (assertion_1 (view_of h.lawful (kept h)) (target_to m) k.value as_it_is)))))
    where
      told_task : (T i : ℕ) → T < tasks_in f → i < assigns_at f T → a ≡ assign_at f T + i → assigned_task f a ≡ T
      told_task T i l m e =
          let q = (planned h).assigned t (kept h) T l in
          let n = q.all m in
          ap (assigned_task f) e ∙ (q.of n.2 n.3).1.by

  pub value_from : {d : ℕ} {v : Value} → Changes t time (data_item № d) value (value_is v) → (a : ℕ) × ChangesS f t time (tasks_in f) (data_item № d) value (time_is a) × ValueOf f t a v
  value_from (asked_by i (asks_1 v k)) = absurd (elim k [ ])
  value_from (asked_by i (asks_2 v k)) = absurd (no_start_value k)
  value_from (asked_by i (asks_3 v k)) = absurd (elim k [ ])
  value_from (asked_by {T} id (asks_4 r (complete_3 {l} row (assertion_2 {i} {a} at (assertion_1 o q e as_it_is))))) =
      let l' = ((worked h).ids T).0 id in
      let m = ((planned h).assigned t (kept h) T l').of row at in (
        assign_at f T + i,
        subst (λ (y : ℕ). ChangesS f t time (tasks_in f) (data_item № y) value (time_is (assign_at f T + i))) (target_is m.1 o q) (asked_at l' (asked_4 r (symbol_3 i m.0))),
        record { T = T; i = i; assertion = l; assignment = a; its_task = l'; number = refl; row = row; at = at; value = e },
      )
  value_from (asked_by i (asks_4 r (complete_4 k q))) = absurd (elim q [ ])
