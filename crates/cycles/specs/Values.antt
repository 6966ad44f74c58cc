-- The values of the data items after a cycle: each as it was, the one that is asked for, or unknown where two differ; and whether two differ anywhere. By what the scratch has for the item.
use Rattle.std.specs.Prelude.{ℕ, ◌+◌, ◌*◌, ◌<◌, ◌≤◌, ◌≡◌, refl, Bool, ◌⊎◌, List, get_or, length}
use Rattle.std.proofs.Common.{arith, sym, ap, subst, ◌∙◌, inl, inr}
use Rattle.std.proofs.Math.Option.{Option, none, some}
use Rattle.paper_expressions.specs.Values.{Value, one, unknown}
use Rattle.paper_guideline.specs.Structure.{TopLevel}
use Rattle.paper_rows.specs.Table.{data_item, Component, ◌№◌, Property, value, RowValue, value_is, time_is, unknown_row, Table}
use Rattle.paper_rows.proofs.Laws.Seen.{value_f}
use Rattle.paper_engine.specs.Operations.{Changes}
use Rattle.paper_engine.specs.Cycle.{Collision, Enacted, not_named, enact_c, enact_d, Cause, collides}
use Rattle.paper_engine.proofs.Laws.CollisionLaws.{Valued, valued, changes_same}
use Rattle.paper_engine.proofs.Laws.KeptLaws.{changes_typed}
use Rattle.state.specs.Items.{holds_as}
use Rattle.changes.specs.Row.{Says}
use Rattle.review.specs.Changes.{ChangesS, tasks_in}
use Rattle.assigning.specs.Gather.{Slot}
use Rattle.assigning.specs.Store.{New, Old, Stored, Collided}
use Rattle.holding.specs.Holding.{Holds, ItemAt}
use Rattle.holding.specs.Shown.{kept}
use Rattle.asking.specs.Asks.{Asked}
use Rattle.asking.specs.Published.{value_to, value_from}
use Rattle.gathering.specs.Gathered.{Given, Takes, none_given, one_given, two_given, Upto, value_column, column_value, a_number, said_item, said_number}
use Rattle.cycles.specs.Places.{few_items, row_few, Few}

-- ---- cells of an item

pub new_item : {news texts s b : List ℕ} {d m : ℕ} {v : Value} → New news texts d s b → Slot news texts d m v → ItemAt s b d (some v)
new_item h k = holds_as k.held h.tags h.numbers h.bytes

pub old_item : {s s' b b' : List ℕ} {d : ℕ} {o : Option Value} → Old d s s' b b' → ItemAt s b d o → ItemAt s' b' d o
old_item h k = holds_as k h.tags h.numbers h.bytes

same_value : {a c : Value} → value_is a ≡ value_is c → a ≡ c
same_value e = cc

item_bound : {d : ℕ} → Few (data_item № d) → d < 64
item_bound (few_items l) = l

one_not_two : {n : ℕ} {A : Type 0} → n ≡ 1 → n ≡ 2 → A
one_not_two e f = absurd (let z : ⊥ = omega arith in z)

none_not_two : {n : ℕ} {A : Type 0} → n ≡ 0 → n ≡ 2 → A
none_not_two e f = absurd (let z : ⊥ = omega arith in z)

module _ {g : List TopLevel} {x b f : List ℕ} {w : List (List Bool)} {s : List ℕ} {t : Table} {flag : Bool} {time : ℕ} (h : Holds g x b f w s t flag time)
    {o : List ℕ} {m : ℕ} (asked : Asked f t time o m) where
  -- ---- a value that some row asks for is one of the published rows

  row_said : {i d a : ℕ} → i < m → Says o i (data_item № d) value (time_is a) → ChangesS f t time (tasks_in f) (data_item № d) value (time_is a)
  row_said {i} {d} {a} l k =
      let z = asked.rows.asked i l in
      let p = value_column z.3.property (column_value k.property) in
      let c : ChangesS f t time (tasks_in f) z.0 value z.2 = subst (λ (y : Property). ChangesS f t time (tasks_in f) z.0 y z.2) p z.4 in
      let y : Says o i z.0 value z.2 = subst (λ (q : Property). Says o i z.0 q z.2) p z.3 in
      let q = a_number c in
      let y' : Says o i (data_item № q.0) value (time_is q.1) = subst (λ (e : RowValue). Says o i (data_item № q.0) value e) q.3 (subst (λ (e : Component). Says o i e value z.2) q.2 y) in
      let c' : ChangesS f t time (tasks_in f) (data_item № q.0) value (time_is q.1) = subst (λ (e : RowValue). ChangesS f t time (tasks_in f) (data_item № q.0) value e) q.3 (subst (λ (e : Component). ChangesS f t time (tasks_in f) e value z.2) q.2 c) in
      subst (λ (e : ℕ). ChangesS f t time (tasks_in f) (data_item № e) value (time_is a)) (said_item y' k)
      (subst (λ (e : ℕ). ChangesS f t time (tasks_in f) (data_item № q.0) value (time_is e)) (said_number y' k) c')

  given_to : {d : ℕ} {v : Value} → Given f t o m d v → Changes t time (data_item № d) value (value_is v)
  given_to z = value_to h (row_said z.1 z.3) z.4

  given_from : {d : ℕ} {v : Value} → Changes t time (data_item № d) value (value_is v) → Given f t o m d v
  given_from {d} k =
      let z = value_from h k in
      let i = asked.rows.all (data_item № d) value (time_is z.0) z.1 in
      (i.0, i.1, z.0, i.2, z.2)

  -- every published row of a value holds one
  held : {d : ℕ} {r : RowValue} → Changes t time (data_item № d) value r → (v : Value) × (r ≡ value_is v) × Given f t o m d v
  held {d} k =
      let z = changes_typed h.lawful (kept h) k in
      (z.held, z.is, given_from (subst (Changes t time (data_item № d) value) z.is k))

  item_below : {d : ℕ} {v : Value} → Given f t o m d v → d < 64
  item_below z = item_bound (row_few h (row_said z.1 z.3))

  -- ---- the value after

  module _ {news texts s' b' : List ℕ} (upto : Upto f t o m news texts) (stored : (d : ℕ) → d < 64 → ¬ (get_or news (36 * d) 0 ≡ 0) → New news texts d s' b')
      (kept-item : (d : ℕ) → d < 64 → get_or news (36 * d) 0 ≡ 0 → Old d s s' b b') where
    value_after : (d : ℕ) → d < 64 → {r : Option RowValue} → Takes (Given f t o m d) news texts d → Enacted (Changes t time) (data_item № d) value (t (data_item № d) value) r → ItemAt s' b' d (value_f r)
    value_after d l (none_given n z) (not_named e) = old_item (kept-item d l z) (h.values d l)
    value_after d l (none_given n z) (enact_c e) = let k = held e.row in absurd (n k.0 k.2)
    value_after d l (none_given n z) (enact_d e) = let k = held e.row in absurd (n k.0 k.2)
    value_after d l (one_given {v} y n z) (not_named e) = absurd (e (value_is v) (given_to y))
    value_after d l (one_given {v} y n z) (enact_c {r} e) =
        let q : value_is v ≡ r = e.only (value_is v) (given_to y) in
        subst (λ (i : RowValue). ItemAt s' b' d (value_f (some i))) q (new_item (stored d l (λ i. (let j = z.mark in omega arith))) z)
    value_after d l (one_given {v} y n z) (enact_d e) =
        let p = held e.row in
        let q = held e.other_row in
        absurd (e.differ (q.1 ∙ ap value_is (n q.0 q.2 ∙ sym (n p.0 p.2)) ∙ sym p.1))
    value_after d l (two_given {u} {v} y i n z) (not_named e) = absurd (e (value_is v) (given_to i))
    value_after d l (two_given {u} {v} y i n z) (enact_c e) = absurd (n (same_value (e.only (value_is u) (given_to y) ∙ sym (e.only (value_is v) (given_to i)))))
    value_after d l (two_given {u} {v} y i n z) (enact_d e) = new_item (stored d l (λ j. (let k = z.mark in omega arith))) z

    pub values_after : (t' : Table) → ((d : ℕ) → Enacted (Changes t time) (data_item № d) value (t (data_item № d) value) (t' (data_item № d) value)) → (d : ℕ) → d < 64 → ItemAt s' b' d (value_f (t' (data_item № d) value))
    values_after t' e d l = value_after d l (upto d l) (e d)

  -- ---- what sets the flag

  module _ {news texts : List ℕ} (upto : Upto f t o m news texts) where
    differs : {d : ℕ} → Takes (Given f t o m d) news texts d → get_or news (36 * d) 0 ≡ 2 → Cause (Changes t time)
    differs (none_given n z) e = none_not_two z e
    differs (one_given y n z) e = one_not_two z.mark e
    differs (two_given {u} {v} y i n z) e = collides (record { one = value_is v; other = value_is u; row = given_to i; other_row = given_to y; differ = λ q. n (same_value q) })

    pub cause_to : Collided news → Cause (Changes t time)
    cause_to z = differs (upto z.0 z.1) z.2

    marked : {d : ℕ} {u v : Value} → Given f t o m d u → Given f t o m d v → ¬ (u ≡ v) → Takes (Given f t o m d) news texts d → get_or news (36 * d) 0 ≡ 2
    marked {u = u} y i n (none_given k z) = absurd (k u y)
    marked {u = u} {v} y i n (one_given k q z) = absurd (n (q u y ∙ sym (q v i)))
    marked y i n (two_given k q e z) = z.mark

    pub cause_from : Cause (Changes t time) → Collided news
    cause_from (collides {c} {p} k) = go k (changes_same k.other_row k.row)
      where
        at : {c : Component} {p : Property} → Valued c p → Collision (Changes t time) c p → Collided news
        at (valued {d}) q =
            let y = held q.row in
            let i = held q.other_row in
            let l = item_below y.2 in
            (d, l, marked i.2 y.2 (λ e. q.differ (i.1 ∙ ap value_is e ∙ sym y.1)) (upto d l))

        go : (q : Collision (Changes t time) c p) → (q.other ≡ q.one) ⊎ Valued c p → Collided news
        go q (inl e) = absurd (q.differ e)
        go q (inr v) = at v q
