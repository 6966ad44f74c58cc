-- The scratch after the first k rows: of each data item no value, the one that is asked for, or unknown where two differ. By the rows passed.
use Rattle.std.specs.Prelude.{ℕ, ◌+◌, ◌*◌, ◌<◌, ◌≤◌, ◌≡◌, refl, Bool, ◌⊎◌, List, get_or, length}
use Rattle.std.proofs.Common.{arith, not-suc-le-zero, sym, ap, subst, ◌∙◌, inl, inr}
use Rattle.std.proofs.Math.Decide.{dec_lt, ℕ_discrete}
use Rattle.paper_expressions.specs.Values as paper
use Rattle.paper_expressions.specs.Values.{one, unknown}
use Rattle.paper_expressions.proofs.Laws.WithinLimits.{Limited}
use Rattle.paper_guideline.specs.Structure.{TopLevel}
use Rattle.paper_guideline.specs.Limits.{depth_limit}
use Rattle.paper_rows.specs.Table.{data_item, Component, ◌№◌, Property, value, RowValue, time_is, Table}
use Rattle.paper_engine.specs.Operations.{Initialise, Start, start_9, Discard}
use Rattle.parts.specs.Part as Parts
use Rattle.values.specs.declared.value.Value.{Value}
use Rattle.values.specs.Meaning.{meaning_v}
use Rattle.evaluator.specs.Published.{Published}
use Rattle.truths.specs.Part.{shown_by}
use Rattle.state.specs.Items.{holds_as}
use Rattle.blocks.specs.Blocks.{Outside}
use Rattle.changes.specs.Row.{component_code, Column, state_at, trigger-at, confirmed_at, count_at, cycles_at, start_at_at, in_progress_at, discarded_at, completed_at, procedure_at, requested_at, value-at, Says}
use Rattle.operations.specs.Rows.{target_at, assign_at, assigns_at, CompleteS, symbol_3}
use Rattle.operations.specs.Review.{asked_1, asked_2, asked_3, asked_4}
use Rattle.review.specs.Changes.{ChangesS, asked_at, tasks_in}
use Rattle.assigning.specs.Gather.{Room, Slot, Elsewhere, Gathers}
use Rattle.planned.specs.Planned.{assigned_task, assigned_end}
use Rattle.holding.specs.Holding.{Holds}
use Rattle.holding.specs.Shown.{planned}
use Rattle.asking.specs.Asks.{Asked}
use Rattle.asking.specs.Assigned.{ValueOf, value_one, value_limited, value_found}
use Rattle.asking.specs.Published.{value_row}
use Rattle.gathering.specs.Rows.{TakesRow}

-- ---- definitions

-- one of the first k rows asks for the value v of the item d
abbrev pub Given : List ℕ → Table → List ℕ → ℕ → ℕ → paper.Value → Type 0
Given f t o k d v = (i : ℕ) × (i < k) × (a : ℕ) × Says o i (data_item № d) value (time_is a) × ValueOf f t a v

-- what the scratch has for the item d, where G are the values that are asked for
pub data Takes (G : paper.Value → Type 0) (news texts : List ℕ) (d : ℕ) : Type 0 where
  none_given : ((v : paper.Value) → ¬ G v) → get_or news (36 * d) 0 ≡ 0 → Takes G news texts d
  one_given : {v : paper.Value} → G v → ((u : paper.Value) → G u → u ≡ v) → Slot news texts d 1 v → Takes G news texts d
  two_given : {u v : paper.Value} → G u → G v → ¬ (u ≡ v) → Slot news texts d 2 (one unknown) → Takes G news texts d

abbrev pub Upto : List ℕ → Table → List ℕ → ℕ → List ℕ → List ℕ → Type 0
Upto f t o k news texts = (d : ℕ) → d < 64 → Takes (Given f t o k d) news texts d

abbrev pub Fresh : List ℕ → Type 0
Fresh news = (d : ℕ) → d < 64 → get_or news (36 * d) 0 ≡ 0

abbrev pub GatheredUpto : List ℕ → List ℕ → List ℕ → List ℕ → List ℕ → ℕ → ℕ → List ℕ → List ℕ → List ℕ → List ℕ → Type 0
GatheredUpto x b f s o m k news news' texts texts' =
    Room news texts → Fresh news → (g : List TopLevel) (w : List (List Bool)) (t : Table) (flag : Bool) (time : ℕ) → Holds g x b f w s t flag time → Asked f t time o m → Upto f t o k news' texts'

-- of every state that the tables hold, where the first m rows are those that it asks for
abbrev pub Gathered : List ℕ → List ℕ → List ℕ → List ℕ → List ℕ → ℕ → List ℕ → List ℕ → List ℕ → List ℕ → Type 0
Gathered x b f s o m news news' texts texts' = GatheredUpto x b f s o m m news news' texts texts'

-- ---- the rows of values

pub value_column : {p : Property} {n : ℕ} → Column p n → n ≡ 776 → p ≡ value
value_column state_at e = absurd (let z : ⊥ = omega arith in z)
value_column trigger-at e = absurd (let z : ⊥ = omega arith in z)
value_column confirmed_at e = absurd (let z : ⊥ = omega arith in z)
value_column count_at e = absurd (let z : ⊥ = omega arith in z)
value_column cycles_at e = absurd (let z : ⊥ = omega arith in z)
value_column start_at_at e = absurd (let z : ⊥ = omega arith in z)
value_column in_progress_at e = absurd (let z : ⊥ = omega arith in z)
value_column discarded_at e = absurd (let z : ⊥ = omega arith in z)
value_column completed_at e = absurd (let z : ⊥ = omega arith in z)
value_column procedure_at e = absurd (let z : ⊥ = omega arith in z)
value_column requested_at e = absurd (let z : ⊥ = omega arith in z)
value_column value-at e = refl

pub column_value : {n : ℕ} → Column value n → n ≡ 776
column_value value-at = refl

no_start_value : {t : Table} {now T : ℕ} {c : Component} {r : RowValue} → ¬ Start t now T c value r
no_start_value (start_9 a b i h) = elim h [ ]

no_initialise_value : {t : Table} {now T : ℕ} {c : Component} {r : RowValue} → ¬ Initialise t now T c value r
no_initialise_value h = elim h [ ]

no_discard_value : {t : Table} {now T : ℕ} {c : Component} {r : RowValue} → ¬ Discard t now T c value r
no_discard_value h = elim h [ ]

complete_number : {f : List ℕ} {now T : ℕ} {c : Component} {r : RowValue} → CompleteS f now T c value r → (d : ℕ) × (a : ℕ) × (c ≡ data_item № d) × (r ≡ time_is a)
complete_number (symbol_3 i m) = (_, _, refl, refl)

pub a_number : {f : List ℕ} {t : Table} {now n : ℕ} {c : Component} {r : RowValue} → ChangesS f t now n c value r → (d : ℕ) × (a : ℕ) × (c ≡ data_item № d) × (r ≡ time_is a)
a_number (asked_at l (asked_1 v k)) = absurd (no_initialise_value k)
a_number (asked_at l (asked_2 v k)) = absurd (no_start_value k)
a_number (asked_at l (asked_3 v k)) = absurd (no_discard_value k)
a_number (asked_at l (asked_4 v k)) = complete_number k

-- a row says one item and one number only
pub said_item : {o : List ℕ} {i d e : ℕ} {p q : Property} {r u : RowValue} → Says o i (data_item № d) p r → Says o i (data_item № e) q u → d ≡ e
said_item {d = d} {e} h k = let z : component_code (data_item № d) ≡ component_code (data_item № e) = sym h.component ∙ k.component in omega arith

pub said_number : {o : List ℕ} {i a c : ℕ} {d e : Component} {p q : Property} → Says o i d p (time_is a) → Says o i e q (time_is c) → a ≡ c
said_number h k = sym h.cell.its_number ∙ k.cell.its_number

-- ---- one row more

-- what is asked for stays
earlier : {f : List ℕ} {t : Table} {o : List ℕ} {k d : ℕ} {v : paper.Value} → Given f t o k d v → Given f t o (k + 1) d v
earlier z = (z.0, (let l = z.1 in omega arith), z.2, z.3, z.4)

-- and where the k-th row is not of the item's value, it is all
no_later : {f : List ℕ} {t : Table} {o : List ℕ} {k d : ℕ} {v : paper.Value} → ((a : ℕ) → ¬ Says o k (data_item № d) value (time_is a)) → Given f t o (k + 1) d v → Given f t o k d v
no_later {f} {t} {o} {k} {d} {v} n z = go (dec_lt z.0 k)
  where
    go : Dec (z.0 < k) → Given f t o k d v
    go (yes l) = (z.0, l, z.2, z.3, z.4)
    go (no l) = let e : z.0 ≡ k = (let m = z.1 in omega arith) in absurd (n z.2 (subst (λ (y : ℕ). Says o y (data_item № d) value (time_is z.2)) e z.3))

-- the scratch of an item stays
takes_as : {G H : paper.Value → Type 0} {news news' texts texts' : List ℕ} {d : ℕ} → ((v : paper.Value) → G v → H v) → ((v : paper.Value) → H v → G v)
    → get_or news' (36 * d) 0 ≡ get_or news (36 * d) 0 → ((m : ℕ) (v : paper.Value) → Slot news texts d m v → Slot news' texts' d m v) → Takes G news texts d → Takes H news' texts' d
takes_as to back e f (none_given n z) = none_given (λ v y. n v (back v y)) (e ∙ z)
takes_as to back e f (one_given {v} g n z) = one_given (to v g) (λ u y. n u (back u y)) (f 1 v z)
takes_as to back e f (two_given {u} {v} g h n z) = two_given (to u g) (to v h) n (f 2 (one unknown) z)

slot_kept : {news news' texts texts' : List ℕ} {d e m : ℕ} {v : paper.Value} → ¬ (d ≡ e) → Elsewhere e news news' texts texts' → Slot news texts d m v → Slot news' texts' d m v
slot_kept {news} {news'} {texts} {texts'} {d} {e} {m} {v} n h k = go (dec_lt d e)
  where
    kept : ((j : ℕ) → j < 36 → Outside (36 * e) 36 (36 * d + j)) → ((i : ℕ) → i < 768 → Outside (768 * e) 768 (768 * d + i)) → Slot news' texts' d m v
    kept p q =
        record {
          mark = (let a : 36 * d + 0 ≡ 36 * d = omega arith in h.cells (36 * d) (subst (Outside (36 * e) 36) a (p 0 (omega arith))) ∙ k.mark);
          held = holds_as k.held
              (λ j i. (let a : 36 * d + (1 + j) ≡ 36 * d + 1 + j = omega arith in h.cells (36 * d + 1 + j) (subst (Outside (36 * e) 36) a (p (1 + j) (omega arith)))))
              (λ j i. (let a : 36 * d + (18 + j) ≡ 36 * d + 18 + j = omega arith in h.cells (36 * d + 18 + j) (subst (Outside (36 * e) 36) a (p (18 + j) (omega arith)))))
              (λ i j. h.bytes (768 * d + i) (q i j));
        }

    go : Dec (d < e) → Slot news' texts' d m v
    go (yes l) = kept (λ j i. inl (omega arith)) (λ j i. inl (omega arith))
    go (no l) = kept (λ j i. inr (omega arith)) (λ j i. inr (omega arith))

mark_kept : {news news' texts texts' : List ℕ} {d e : ℕ} → ¬ (d ≡ e) → Elsewhere e news news' texts texts' → get_or news' (36 * d) 0 ≡ get_or news (36 * d) 0
mark_kept {news} {news'} {d = d} {e} n h = go (dec_lt d e)
  where
    go : Dec (d < e) → get_or news' (36 * d) 0 ≡ get_or news (36 * d) 0
    go (yes l) = h.cells (36 * d) (inl (omega arith))
    go (no l) = h.cells (36 * d) (inr (omega arith))

module _ {g : List TopLevel} {x b f : List ℕ} {w : List (List Bool)} {s : List ℕ} {t : Table} {flag : Bool} {time : ℕ} (h : Holds g x b f w s t flag time)
    {o : List ℕ} {m k : ℕ} (asked : Asked f t time o m) (l : k < m) {news news' texts texts' : List ℕ} (room : Room news texts) (row : TakesRow x b f s o k news news' texts texts') (before : Upto f t o k news texts) where
  -- a row that is none of a value
  other : ¬ (get_or o (4 * k + 1) 0 ≡ 776) → Upto f t o (k + 1) news' texts'
  other n d q =
      let z = row.skips n in
      takes_as (λ v. earlier) (λ v. no_later (λ a y. n (column_value y.property))) (ap (λ (y : List ℕ). get_or y (36 * d) 0) z.0)
      (λ i v y. subst (λ (c : List ℕ). Slot c texts' d i v) (sym z.0) (subst (λ (c : List ℕ). Slot news c d i v) (sym z.1) y)) (before d q)

  -- one of the item e, of the assignment a, whose value is u
  module _ (e a : ℕ) (says : Says o k (data_item № e) value (time_is a)) (u : paper.Value) (its : ValueOf f t a u) (elsewhere : Elsewhere e news news' texts texts')
      (first : get_or news (36 * e) 0 ≡ 0 → Slot news' texts' e 1 u)
      (again : (i : ℕ) → ¬ (i ≡ 0) → (v : paper.Value) → Slot news texts e i v → ((v ≡ u) × Slot news' texts' e i v) ⊎ ((¬ (v ≡ u)) × Slot news' texts' e 2 (one unknown))) where
    now_given : Given f t o (k + 1) e u
    now_given = (k, omega arith, a, says, its)

    -- a value that is asked for is an earlier one, or this
    given : {v : paper.Value} → Given f t o (k + 1) e v → Given f t o k e v ⊎ (v ≡ u)
    given {v} z = go (dec_lt z.0 k)
      where
        go : Dec (z.0 < k) → Given f t o k e v ⊎ (v ≡ u)
        go (yes i) = inl (z.0, i, z.2, z.3, z.4)
        go (no i) =
            let c : z.0 ≡ k = (let n = z.1 in omega arith) in
            let y = subst (λ (j : ℕ). Says o j (data_item № e) value (time_is z.2)) c z.3 in
            inr (value_one h (subst (λ (j : ℕ). ValueOf f t j v) (said_number y says) z.4) its)

    own : Takes (Given f t o k e) news texts e → Takes (Given f t o (k + 1) e) news' texts' e
    own (none_given n z) = one_given now_given (λ v y. only v (given y)) (first z)
      where
        only : (v : paper.Value) → Given f t o k e v ⊎ (v ≡ u) → v ≡ u
        only v (inl y) = absurd (n v y)
        only v (inr y) = y
    own (one_given {v} y n z) = go (again 1 (λ i. omega arith) v z)
      where
        go : ((v ≡ u) × Slot news' texts' e 1 v) ⊎ ((¬ (v ≡ u)) × Slot news' texts' e 2 (one unknown)) → Takes (Given f t o (k + 1) e) news' texts' e
        go (inl c) = one_given (earlier y) (λ p i. only p (given i)) c.1
          where
            only : (p : paper.Value) → Given f t o k e p ⊎ (p ≡ u) → p ≡ v
            only p (inl i) = n p i
            only p (inr i) = i ∙ sym c.0
        go (inr c) = two_given (earlier y) now_given c.0 c.1
    own (two_given y i n z) = go (again 2 (λ j. omega arith) (one unknown) z)
      where
        go : ((one unknown ≡ u) × Slot news' texts' e 2 (one unknown)) ⊎ ((¬ (one unknown ≡ u)) × Slot news' texts' e 2 (one unknown)) → Takes (Given f t o (k + 1) e) news' texts' e
        go (inl c) = two_given (earlier y) (earlier i) n c.1
        go (inr c) = two_given (earlier y) (earlier i) n c.1

    all : Upto f t o (k + 1) news' texts'
    all d q = go (ℕ_discrete d e)
      where
        go : Dec (d ≡ e) → Takes (Given f t o (k + 1) d) news' texts' d
        go (yes c) = subst (λ (i : ℕ). Takes (Given f t o (k + 1) i) news' texts' i) (sym c) (own (subst (λ (i : ℕ). Takes (Given f t o k i) news texts i) c (before d q)))
        go (no c) = takes_as (λ v. earlier) (λ v. no_later (λ i y. c (said_item y says))) (mark_kept c elsewhere) (λ i v. slot_kept c elsewhere) (before d q)

  -- a row of a value
  this : get_or o (4 * k + 1) 0 ≡ 776 → Upto f t o (k + 1) news' texts'
  this n =
      let z = asked.rows.asked k l in
      let p = value_column z.3.property n in
      let c : ChangesS f t time (tasks_in f) z.0 value z.2 = subst (λ (y : Property). ChangesS f t time (tasks_in f) z.0 y z.2) p z.4 in
      let y : Says o k z.0 value z.2 = subst (λ (i : Property). Says o k z.0 i z.2) p z.3 in
      let q = a_number c in
      taken q.0 q.1 (subst (λ (i : RowValue). Says o k (data_item № q.0) value i) q.3 (subst (λ (i : Component). Says o k i value z.2) q.2 y))
      (subst (λ (i : RowValue). ChangesS f t time (tasks_in f) (data_item № q.0) value i) q.3 (subst (λ (i : Component). ChangesS f t time (tasks_in f) i value z.2) q.2 c))
    where
      taken : (d a : ℕ) → Says o k (data_item № d) value (time_is a) → ChangesS f t time (tasks_in f) (data_item № d) value (time_is a) → Upto f t o (k + 1) news' texts'
      taken d a says c =
          let z = value_row h c in
          let most = (planned h).numbers.most_assignments z.2 in
          let i = z.4 in
          let e = z.5 in
          let few : a < 256 = omega arith in
          let item : target_at f a < 64 = (planned h).targets few in
          let p = row.takes a n says.cell.its_number few item in
          let v = value_found h z.0 z.1 a p.0 z.2 z.4 z.5 p.1 in
          let lim = value_limited h v in
          let gathers : Gathers b p.0 d news news' texts texts' = subst (λ (y : ℕ). Gathers b p.0 y news news' texts texts') z.6 p.2 in
          all d a says (meaning_v b p.0) v gathers.elsewhere (gathers.first room lim) (gathers.again room lim)

  pub upto_more : Upto f t o (k + 1) news' texts'
  upto_more = go (ℕ_discrete (get_or o (4 * k + 1) 0) 776)
    where
      go : Dec (get_or o (4 * k + 1) 0 ≡ 776) → Upto f t o (k + 1) news' texts'
      go (yes z) = this z
      go (no z) = other z

-- ---- the loop

pub gathered_none : (x b f s o : List ℕ) (m : ℕ) (news texts : List ℕ) → GatheredUpto x b f s o m 0 news news texts texts
gathered_none x b f s o m news texts room fresh g w t flag time h asked d l = none_given (λ v z. not-suc-le-zero z.1) (fresh d l)

pub gathered_more : (x b f s o : List ℕ) (m k : ℕ) (news v news' texts u texts' : List ℕ) → (m ≤ 1024 → k < m) → length v ≡ length news → length u ≡ length texts → TakesRow x b f s o k v news' u texts'
    → GatheredUpto x b f s o m k news v texts u → GatheredUpto x b f s o m (k + 1) news news' texts texts'
gathered_more x b f s o m k news v news' texts u texts' l e i row before room fresh g w t flag time h asked =
    let c = room.cells in
    let d = room.bytes in
    let n = asked.few in
    upto_more h asked (l (omega arith)) (record { cells = omega arith; bytes = omega arith }) row (before room fresh g w t flag time h asked)

pub gathered_all : (x b f s o : List ℕ) (m k : ℕ) (news news' texts texts' : List ℕ) → (m ≤ 1024 → k ≡ m) → GatheredUpto x b f s o m k news news' texts texts' → Gathered x b f s o m news news' texts texts'
gathered_all x b f s o m k news news' texts texts' e before room fresh g w t flag time h asked =
    let n = asked.few in
    subst (λ (y : ℕ). Upto f t o y news' texts') (e (omega arith)) (before room fresh g w t flag time h asked)
