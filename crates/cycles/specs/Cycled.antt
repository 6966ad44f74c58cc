-- One cycle: the tables after every row is enacted hold the Properties table and the flag that the published EnactChanges gives. By the spots, the values, and the header.
use Rattle.std.specs.Prelude.{ℕ, ◌+◌, ◌*◌, ◌<◌, ◌≤◌, ◌≡◌, refl, Bool, true, false, ◌↔◌, ◌⊎◌, List, get_or, set, length, replicate}
use Rattle.std.proofs.Common.{arith, sym, ap, subst, ◌∙◌, inl, inr, length-set, get_or-set_same, get_or-set_other}
use Rattle.std.proofs.Math.Decide.{dec_lt, ℕ_discrete}
use Rattle.std.proofs.lemmas.List.{length-replicate, get_or-replicate}
use Rattle.paper_expressions.proofs.Laws.Tests.{contra}
use Rattle.paper_guideline.specs.Structure.{TopLevel}
use Rattle.paper_rows.specs.Table.{data_item, Component, ◌№◌, Property, value, RowValue, Table}
use Rattle.paper_rows.proofs.Laws.Seen.{value_f}
use Rattle.paper_engine.specs.Operations.{Changes}
use Rattle.paper_engine.specs.Cycle.{Flagged, raised, as_it_was, Cause, EnactChanges}
use Rattle.paper_engine.proofs.Laws.KeptLaws.{cycle_kept}
use Rattle.paper_engine.proofs.Laws.LimitLaws.{cycle_fits}
use Rattle.paper_engine.proofs.Laws.CountLaws.{cycle_counted}
use Rattle.paper_engine.proofs.Laws.StateLaws.{cycle_dormant}
use Rattle.paper_engine.proofs.Laws.TimeLaws.{cycle_timely}
use Rattle.paper_calls.proofs.Laws.CallLaws.{GoodTable}
use Rattle.state.specs.Cell.{bit}
use Rattle.review.specs.Changes.{ChangesS, tasks_in}
use Rattle.enacting.specs.Enact.{Enacts, Spots, Readable, enacted}
use Rattle.assigning.specs.Gather.{Room}
use Rattle.assigning.specs.Store.{New, Old, Rest, Stored, Collided}
use Rattle.planned.specs.Planned.{Plans}
use Rattle.holding.specs.Holding.{Holds, ItemAt}
use Rattle.holding.specs.Elsewhere.{Elsewhere}
use Rattle.holding.specs.Shown.{kept}
use Rattle.asking.specs.Asks.{Asked}
use Rattle.asking.specs.Published.{row_to, row_from}
use Rattle.gathering.specs.Gathered.{Fresh, Gathered, Upto}
use Rattle.cycles.specs.Places.{few_small, row_few, spots_kept, spots_apart, spots_shown, rows_after}
use Rattle.cycles.specs.Values.{old_item, values_after, cause_to, cause_from}

-- ---- definitions

-- the flag is set if some item was given two values
pub data Flags (news s s' : List ℕ) : Type 0 where
  sets : Collided news → s' ≡ set s 1 1 → Flags news s s'
  leaves : ¬ Collided news → s' ≡ s → Flags news s s'

-- of every state that the tables hold, where the first m rows are those that it asks for
abbrev pub Cycled : List ℕ → List ℕ → List ℕ → List ℕ → List ℕ → List ℕ → List ℕ → ℕ → Type 0
Cycled x b b' f s s' o m =
    (g : List TopLevel) (w : List (List Bool)) (t : Table) (flag : Bool) (time : ℕ) → Holds g x b f w s t flag time → Asked f t time o m
    → (t' : Table) (flag' : Bool) → EnactChanges (Changes t time) t flag t' flag' → Holds g x b' f w s' t' flag' time

-- ---- the flag

pub flags : (news s s' : List ℕ) {r : Bool} → (r ≡ true) ↔ Collided news → r ≡ true → s' ≡ set s 1 1 → Flags news s s'
flags news s s' h e f = sets (h.0 e) f

pub flags_not : (news s : List ℕ) {r : Bool} → (r ≡ true) ↔ Collided news → r ≡ false → Flags news s s
flags_not news s h e = leaves (λ z. contra (sym e ∙ h.1 z)) refl

-- nothing but the cell 1 changes
other_cells : {news s s' : List ℕ} → Flags news s s' → (i : ℕ) → ¬ (i ≡ 1) → get_or s' i 0 ≡ get_or s i 0
other_cells {s = s} (sets z e) i n = ap (λ (y : List ℕ). get_or y i 0) e ∙ get_or-set_other s 1 i 1 0 n
other_cells (leaves z e) i n = ap (λ (y : List ℕ). get_or y i 0) e

same_size : {news s s' : List ℕ} → Flags news s s' → length s' ≡ length s
same_size {s = s} (sets z e) = ap length e ∙ length-set s 1 1
same_size (leaves z e) = ap length e

-- ---- what no state speaks of

pub moved_nothing_else : (b b' s v u s' o : List ℕ) (m : ℕ) (news texts : List ℕ) → Enacts s o m v → Stored news texts 64 v u b b' → Flags news u s' → Elsewhere b s b' s'
moved_nothing_else b b' s v u s' o m news texts enacts stored flagged =
    record {
      cells = same_size flagged ∙ stored.rest.size ∙ enacts.size;
      bytes = stored.rest.room;
      behind = λ i l. other_cells flagged i (λ e. omega arith) ∙ stored.rest.behind i l ∙ enacts.behind i (omega arith);
      own = stored.rest.bytes;
      past = stored.rest.past;
    }

-- ---- the cycle

module _ {g : List TopLevel} {x b f : List ℕ} {w : List (List Bool)} {s : List ℕ} {t : Table} {flag : Bool} {time : ℕ} (h : Holds g x b f w s t flag time)
    {o : List ℕ} {m : ℕ} (asked : Asked f t time o m) {news texts v u s' b' : List ℕ} (upto : Upto f t o m news texts) (enacts : Enacts s o m v)
    (stored : Stored news texts 64 v u b b') (flagged : Flags news u s') {t' : Table} {flag' : Bool} (published : EnactChanges (Changes t time) t flag t' flag') where
  readable : Readable o m
  readable i l = let z = asked.rows.asked i l in (z.0, z.1, z.2, z.3, few_small (row_few h z.4))

  size : length u ≡ length s
  size = stored.rest.size ∙ enacts.size

  -- the spots
  spots : Spots s' t'
  spots =
      spots_kept v s' (λ i a c. other_cells flagged i (λ e. omega arith) ∙ stored.rest.cells i c)
      (enacted s o v m t t' (ChangesS f t time (tasks_in f)) (Changes t time) asked.rows (λ c p r z. few_small (row_few h z))
      (λ c p y z r q. (row_to h q, row_from h q)) asked.room (let n = h.cells in omega arith) (spots_shown h) spots_apart enacts published.rows)

  -- the header
  front : (i : ℕ) → i < 8 → get_or u i 0 ≡ get_or s i 0
  front i l = stored.rest.cells i (omega arith) ∙ enacts.front asked.room readable i l

  head : (i : ℕ) → i < 8 → ¬ (i ≡ 1) → get_or s' i 0 ≡ get_or s i 0
  head i l n = other_cells flagged i n ∙ front i l

  flag_cell : Flags news u s' → {r : Bool} → Flagged (Changes t time) flag r → get_or s' 1 0 ≡ bit r
  flag_cell (sets z e) (raised c) = let n = h.cells in let k = size in ap (λ (y : List ℕ). get_or y 1 0) e ∙ get_or-set_same u 1 1 0 (omega arith)
  flag_cell (sets z e) (as_it_was n) = absurd (n (cause_to h asked upto z))
  flag_cell (leaves z e) (raised c) = absurd (z (cause_from h asked upto c))
  flag_cell (leaves z e) (as_it_was n) = ap (λ (y : List ℕ). get_or y 1 0) e ∙ front 1 (omega arith) ∙ h.flagged

  -- the values
  behind : (i : ℕ) → 776 ≤ i → get_or s' i 0 ≡ get_or u i 0
  behind i l = other_cells flagged i (λ e. omega arith)

  new_there : (d : ℕ) → d < 64 → ¬ (get_or news (36 * d) 0 ≡ 0) → New news texts d s' b'
  new_there d l n =
      let c = h.cells in
      let e = enacts.size in
      let z = stored.given d l n (omega arith) h.bytes in
      record { tags = λ j i. behind (776 + 17 * d + j) (omega arith) ∙ z.tags j i; numbers = λ j i. behind (1864 + 17 * d + j) (omega arith) ∙ z.numbers j i; bytes = z.bytes }

  old_there : (d : ℕ) → d < 64 → get_or news (36 * d) 0 ≡ 0 → Old d s s' b b'
  old_there d l n =
      let z = stored.none d l (inl n) in
      record {
        tags = λ j i. behind (776 + 17 * d + j) (omega arith) ∙ z.tags j i ∙ enacts.behind (776 + 17 * d + j) (omega arith);
        numbers = λ j i. behind (1864 + 17 * d + j) (omega arith) ∙ z.numbers j i ∙ enacts.behind (1864 + 17 * d + j) (omega arith);
        bytes = z.bytes;
      }

  plans : Plans g x b' f w
  plans c k = h.plans c (λ i l. k i l ∙ stored.rest.bytes i l)

  good : GoodTable g t'
  good =
      record {
        kept = cycle_kept h.lawful (kept h) published;
        fits = cycle_fits h.sized (kept h) h.good.fits published;
        counted = cycle_counted h.lawful (kept h) h.good.counted published;
        dormant = cycle_dormant h.lawful (kept h) h.good.dormant published;
        timely = cycle_timely h.timely h.good.timely published;
      }

  pub holds_after : Holds g x b' f w s' t' flag' time
  holds_after =
      record {
        plans = plans;
        lawful = h.lawful;
        sized = h.sized;
        good = good;
        timely = h.timely;
        rows = rows_after h published spots;
        values = values_after h asked upto new_there old_there t' (λ d. published.rows (data_item № d) value);
        loaded = head 0 (omega arith) (λ e. omega arith) ∙ h.loaded;
        flagged = flag_cell flagged published.flag;
        timed = head 2 (omega arith) (λ e. omega arith) ∙ h.timed;
        spare = λ i l k. head i k (λ e. omega arith) ∙ h.spare i l k;
        cells = (let n = h.cells in let k = size in let j = same_size flagged in omega arith);
        bytes = (let n = h.bytes in let k = stored.rest.room in omega arith);
      }

-- ---- the scratch, which begins with zeros

pub scratch_room : (n k : ℕ) → 2304 ≤ n → 49152 ≤ k → Room (replicate n 0) (replicate k 0)
scratch_room n k l m = record { cells = (let z = length-replicate {A = ℕ} n 0 in omega arith); bytes = (let z = length-replicate {A = ℕ} k 0 in omega arith) }

pub scratch_fresh : (n : ℕ) → 2304 ≤ n → Fresh (replicate n 0)
scratch_fresh n l d m = get_or-replicate n (36 * d) 0 0 (omega arith)

pub cycled : (x b b' f s v u s' o : List ℕ) (m : ℕ) (news₀ news texts₀ texts : List ℕ) → Room news₀ texts₀ → Fresh news₀ → Gathered x b f s o m news₀ news texts₀ texts → Enacts s o m v → Stored news texts 64 v u b b'
    → Flags news u s' → Cycled x b b' f s s' o m
cycled x b b' f s v u s' o m news₀ news texts₀ texts room fresh gathered enacts stored flagged g w t flag time h asked t' flag' published =
    holds_after h asked (gathered room fresh g w t flag time h asked) enacts stored flagged published
