-- Where the rows that a cycle asks for stand: of tasks below 32 and of data items below 64; of a spot, its two cells. By the operations' clauses.
use Rattle.std.specs.Prelude.{ℕ, ◌+◌, ◌*◌, ◌<◌, ◌≤◌, ◌≡◌, refl, Bool, ◌⊎◌, List, get_or}
use Rattle.std.proofs.Common.{arith, sym, ap, subst, ◌∙◌, inl, inr}
use Rattle.std.proofs.Math.Option.{Option, none, some}
use Rattle.paper_guideline.specs.Structure.{TopLevel}
use Rattle.paper_rows.specs.Table.{Kind, task, data_item, Component, source, ◌№◌, Property, data_item_of, requested, RowValue, component_is, Table, Contains}
use Rattle.paper_engine.specs.Operations
use Operations.{Initialise, initialise_1, initialise_2, initialise_3, initialise_4, initialise_5, initialise_9a, InitialiseSource, initialise_source, Start, start_1, start_2, start_3, start_4, start_8, start_9, start_12, Discard, discard_1, discard_3, Changes}
use Rattle.paper_engine.specs.Cycle.{Collision, Enacted, not_named, enact_c, enact_d, EnactChanges}
use Rattle.paper_engine.proofs.Laws.CollisionLaws.{Valued, valued, changes_same}
use Rattle.paper_engine.proofs.Laws.StateLaws.{asked_id}
use Rattle.waits.specs.Twins.{first_at, count_at_fn, item_at}
use Rattle.waits.specs.Worked.{Sources}
use Rattle.state.specs.Cell.{Cell}
use Rattle.state.specs.Layout.{Rows, TaskColumn}
use Rattle.changes.specs.Row.{component_code}
use Rattle.operations.specs.Rows.{target_at, assign_at, assigns_at, CompleteS, symbol_1, symbol_2, symbol_3, symbol_5}
use Rattle.operations.specs.Review.{asked_1, asked_2, asked_3, asked_4}
use Rattle.review.specs.Changes.{ChangesS, asked_at, tasks_in}
use Rattle.enacting.specs.Enact.{Spot, of_task, of_item, Spots, Small, Numbered, as_task, as_item, column_of}
use Rattle.holding.specs.Holding.{Holds}
use Rattle.holding.specs.Shown.{planned, worked, in32}
use Rattle.asking.specs.Published.{no_value_spot}

-- ---- the components

pub data Few : Component → Type 0 where
  few_tasks : {T : ℕ} → T < 32 → Few (task № T)
  few_items : {d : ℕ} → d < 64 → Few (data_item № d)

same_number : {k j : Kind} {n m : ℕ} → k № n ≡ j № m → n ≡ m
same_number e = cc

pub few_small : {c : Component} → Few c → Small c
few_small (few_tasks l) = record { few = λ k m e. (let z = same_number e in omega arith) }
few_small (few_items l) = record { few = λ k m e. (let z = same_number e in omega arith) }

initialise_few : {t : Table} {now T : ℕ} {c : Component} {p : Property} {r : RowValue} → T < 32 → Initialise t now T c p r → Few c
initialise_few l initialise_1 = few_tasks l
initialise_few l initialise_2 = few_tasks l
initialise_few l initialise_3 = few_tasks l
initialise_few l initialise_4 = few_tasks l
initialise_few l initialise_5 = few_tasks l
initialise_few l (initialise_9a k) = few_tasks l

same_item : {o : Option RowValue} {a b : ℕ} → o ≡ some (component_is (data_item № a)) → o ≡ some (component_is (data_item № b)) → a ≡ b
same_item e f = cc

source_few : {f : List ℕ} {t : Table} {T i : ℕ} {S c : Component} {p : Property} {r : RowValue} → Sources f T t → i < count_at_fn f T → S ≡ source № (first_at f T + i) → InitialiseSource t S c p r → Few c
source_few {f} {t} {T} {i} k l e (initialise_source {d} h n) =
    let z = k.items i l in
    let q : item_at f (first_at f T + i) ≡ d = same_item z.1 (subst (λ (y : Component). Contains t y data_item_of (component_is (data_item № d))) e h) in
    few_items {d = d} (let y = z.0 in omega arith)

start_few : {f : List ℕ} {t : Table} {now T : ℕ} {c : Component} {p : Property} {r : RowValue} → Sources f T t → T < 32 → Start t now T c p r → Few c
start_few s l start_1 = few_tasks l
start_few s l start_2 = few_tasks l
start_few s l start_3 = few_tasks l
start_few s l (start_4 k) = few_tasks l
start_few s l start_8 = few_tasks l
start_few s l (start_9 a b i k) = let z = s.of b i in source_few s z.0 z.1 k
start_few s l (start_12 k n) = few_tasks l

discard_few : {t : Table} {now T : ℕ} {c : Component} {p : Property} {r : RowValue} → T < 32 → Discard t now T c p r → Few c
discard_few l discard_1 = few_tasks l
discard_few l discard_3 = few_tasks l

complete_few : {f : List ℕ} {now T : ℕ} {c : Component} {p : Property} {r : RowValue} → T < 32 → ((i : ℕ) → i < assigns_at f T → target_at f (assign_at f T + i) < 64) → CompleteS f now T c p r → Few c
complete_few l k symbol_1 = few_tasks l
complete_few l k symbol_2 = few_tasks l
complete_few l k (symbol_3 i m) = few_items (k i m)
complete_few l k symbol_5 = few_tasks l

-- ---- the spots

pub spot_bounds : {c : Component} {p : Property} {x y : ℕ} → Spot c p x y → (8 ≤ x) × (x < 776) × (8 ≤ y) × (y < 776)
spot_bounds s = go (column_of s).2
  where
    go : {a b x y : ℕ} → Numbered a b x y → (8 ≤ x) × (x < 776) × (8 ≤ y) × (y < 776)
    go (as_task j lj eb la ex ey) = (omega arith, omega arith, omega arith, omega arith)
    go (as_item eb d ld ea ex ey) = (omega arith, omega arith, omega arith, omega arith)

pub spots_kept : (s u : List ℕ) {t : Table} → ((i : ℕ) → 8 ≤ i → i < 776 → get_or u i 0 ≡ get_or s i 0) → Spots s t → Spots u t
spots_kept s u k h c p x y z =
    let b = spot_bounds z in
    let d = h c p x y z in
    record { plain = d.plain; its_tag = k x b.0 b.1 ∙ d.its_tag; its_number = k y b.2 b.3 ∙ d.its_number }

valued_spot : {c : Component} {p : Property} {a e : ℕ} → Valued c p → ¬ Spot c p a e
valued_spot valued h = no_value_spot h

pub spots_apart : {t : Table} {now : ℕ} (c : Component) (p : Property) (x y : ℕ) → Spot c p x y → ¬ Collision (Changes t now) c p
spots_apart c p x y z k = go (changes_same k.other_row k.row)
  where
    go : (k.other ≡ k.one) ⊎ Valued c p → ⊥
    go (inl e) = k.differ e
    go (inr v) = valued_spot v z

module _ {g : List TopLevel} {x b f : List ℕ} {w : List (List Bool)} {s : List ℕ} {t : Table} {flag : Bool} {time : ℕ} (h : Holds g x b f w s t flag time) where
  pub row_few : {c : Component} {p : Property} {r : RowValue} → ChangesS f t time (tasks_in f) c p r → Few c
  row_few (asked_at l (asked_1 v k)) = initialise_few (in32 h l) k
  row_few (asked_at l (asked_2 v k)) = start_few ((worked h).sourced l) (in32 h l) k
  row_few (asked_at l (asked_3 v k)) = discard_few (in32 h l) k
  row_few (asked_at {T} l (asked_4 v k)) = complete_few (in32 h l) (λ i m. (let n = (planned h).numbers.most_assignments l in (planned h).targets (omega arith))) k

  pub spots_shown : Spots s t
  spots_shown c p a e (of_task k l) = h.rows.tasks k l
  spots_shown c p a e (of_item l) = h.rows.asked l

  -- the rows after a cycle, from the spots
  pub rows_after : {u : List ℕ} {t' : Table} {flag' : Bool} → EnactChanges (Changes t time) t flag t' flag' → Spots u t' → Rows u t'
  rows_after {u} {t'} enacts k =
      record {
        tasks = λ {c} {p} {T} q l. k (task № T) p (c + T) (c + 32 + T) (of_task q l);
        past = λ {c} {p} T q l. past T q l (enacts.rows (task № T) p);
        asked = λ {d} l. k (data_item № d) requested (648 + d) (712 + d) (of_item l);
      }
    where
      no_task : {T : ℕ} {p : Property} {r : RowValue} {A : Type 0} → 32 < T + 1 → Changes t time (task № T) p r → A
      no_task {T} l q = absurd (let z = in32 h (((worked h).ids T).0 (asked_id q)) in let y : ⊥ = omega arith in y)

      past : {c : ℕ} {p : Property} (T : ℕ) → TaskColumn c p → 32 < T + 1 → {o : Option RowValue} → Enacted (Changes t time) (task № T) p (t (task № T) p) o → o ≡ none
      past T q l (not_named n) = h.rows.past T q l
      past T q l (enact_c z) = no_task l z.row
      past T q l (enact_d z) = no_task l z.row
