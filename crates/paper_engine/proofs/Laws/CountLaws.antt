-- Law: a cycle_count row holds 0 or 1, and 0 while its task is dormant: a task is initialised before each start but its first. So it passes no limit.
use Rattle.std.specs.Prelude.{ℕ, ◌≡◌, refl, Bool, ◌⊎◌, List, ℤ, pos, ◌+ℤ◌}
use Rattle.std.proofs.Common.{sym, ap, subst, ◌∙◌, inl, inr}
use Rattle.std.proofs.Math.Option.{Option, some}
use Rattle.paper_expressions.proofs.Laws.Search.{no_clash}
use Rattle.paper_expressions.specs.Values.{dormant, in_progress}
use Rattle.paper_guideline.specs.Structure.{TopLevel}
use Rattle.paper_rows.specs.Table.{Assigns, task, Component, ◌№◌, Property, state, cycle_count, RowValue, state_is, integer_row, Table, Contains}
use Rattle.paper_rows.specs.Load.{Adds, Initial}
use Rattle.paper_engine.specs.Conditions
use Conditions.{StartCase, start_2a, start_2b, start_2c, StartConditions, InitialiseConditions}
use Rattle.paper_engine.specs.Operations
use Operations.{Review, review_1, review_2, Initialise, initialise_1, initialise_2, Start, start_1, start_4, start_9, Discard, Complete, complete_3, complete_4, EnactAssertion, assertion_2, Asks, asks_1, asks_2, asks_3, asks_4, Changes, asked_by}
use Rattle.paper_engine.specs.Cycle
use Cycle.{OnlyRow, Collision, Enacted, not_named, enact_c, enact_d, EnactChanges, Report, State, Runs, stop_quiet, stop_bounded, stop_exception, repeat}
use Rattle.paper_engine.proofs.Laws.CollisionLaws.{Valued, not_valued, changes_same}
use Rattle.paper_rows.proofs.Laws.Lawful.{Lawful}
use Rattle.paper_engine.proofs.Laws.Kept.{Kept}
use Rattle.paper_engine.proofs.Laws.KeptLaws.{cycle_kept}
use Rattle.paper_engine.proofs.Laws.StateLaws.{asked_own, asked_id, row_becomes, initialised}

pub record Counted (t : Table) : Type 0 where
  pub small : {T : ℕ} {r : RowValue} → Contains t (task № T) cycle_count r → (r ≡ integer_row (pos 0)) ⊎ (r ≡ integer_row (pos 1))
  pub fresh : {T : ℕ} {r : RowValue} → Contains t (task № T) cycle_count r → Contains t (task № T) state (state_is dormant) → r ≡ integer_row (pos 0)

no_count : {g : List TopLevel} {T : ℕ} {r : RowValue} → ¬ Adds g (task № T) cycle_count r
no_count h = elim h [ ]

pub initial_counted : {g : List TopLevel} {t : Table} → Initial g t → Counted t
initial_counted i = record { small = λ {T} {r} h. absurd (no_count ((i.rows (task № T) cycle_count r).0 h)); fresh = λ {T} {r} h k. absurd (no_count ((i.rows (task № T) cycle_count r).0 h)) }

-- which rows of the count are asked for
pub data CountAsked (t : Table) (now T : ℕ) : RowValue → Type 0 where
  by_initialise : CountAsked t now T (integer_row (pos 0))
  by_start : {n : ℤ} → StartConditions t now T → Contains t (task № T) cycle_count (integer_row n) → Asks t now T (task № T) state (state_is in_progress) → CountAsked t now T (integer_row (n +ℤ pos 1))

no_source_count : {t : Table} {S : Component} {T : ℕ} {p : Property} {r : RowValue} → ¬ Operations.InitialiseSource t S (task № T) p r
no_source_count h = elim h [ ]

no_assertion_count : {t : Table} {T U : ℕ} {l : List Assigns} {p : Property} {r : RowValue} → ¬ EnactAssertion t U l (task № T) p r
no_assertion_count (assertion_2 i h) = elim h [ ]

initialise_count : {t : Table} {now U T : ℕ} {r : RowValue} → Initialise t now U (task № T) cycle_count r → CountAsked t now T r
initialise_count initialise_2 = by_initialise

start_count : {t : Table} {now U T : ℕ} {r : RowValue} → Review t now U Operations.§8·5·1-2 → Start t now U (task № T) cycle_count r → CountAsked t now T r
start_count (review_2 n s) (start_4 h) = by_start s h (asks_2 (review_2 n s) start_1)
start_count v (start_9 a b i h) = absurd (no_source_count h)

no_discard_count : {t : Table} {now U T : ℕ} {r : RowValue} → ¬ Discard t now U (task № T) cycle_count r
no_discard_count h = elim h [ ]

no_complete_count : {t : Table} {now U T : ℕ} {r : RowValue} → ¬ Complete t now U (task № T) cycle_count r
no_complete_count (complete_3 a h) = no_assertion_count h
no_complete_count (complete_4 a h) = elim h [ ]

count_asked : {t : Table} {now T : ℕ} {r : RowValue} → Asks t now T (task № T) cycle_count r → CountAsked t now T r
count_asked (asks_1 v h) = initialise_count h
count_asked (asks_2 v h) = start_count v h
count_asked (asks_3 v h) = absurd (no_discard_count h)
count_asked (asks_4 v h) = absurd (no_complete_count h)

module _ {g : List TopLevel} {t t' : Table} {now : ℕ} {f f' : Bool} (lawful : Lawful g) (kept : Kept g t) (counted : Counted t) (enacts : EnactChanges (Changes t now) t f t' f') where
  -- a task that starts is dormant
  was_dormant : {T : ℕ} → StartConditions t now T → Contains t (task № T) state (state_is dormant)
  was_dormant {T} s = go s.clause_2
    where
      go : StartCase t now T → Contains t (task № T) state (state_is dormant)
      go (start_2a h n) = h.clause_1
      go (start_2b h k) = k
      go (start_2c h l) = absurd (kept.no_start h)

  same_number : {n m : ℤ} → integer_row n ≡ integer_row m → n ≡ m
  same_number e = cc

  after_start : {T : ℕ} {n : ℤ} → StartConditions t now T → Contains t (task № T) cycle_count (integer_row n) → integer_row (n +ℤ pos 1) ≡ integer_row (pos 1)
  after_start s h = ap (λ (x : ℤ). integer_row (x +ℤ pos 1)) (same_number (counted.fresh h (was_dormant s)))

  asked_small : {T : ℕ} {r : RowValue} → CountAsked t now T r → (r ≡ integer_row (pos 0)) ⊎ (r ≡ integer_row (pos 1))
  asked_small by_initialise = inl refl
  asked_small (by_start s h a) = inr (after_start s h)

  clash : {o : Option RowValue} → o ≡ some (state_is in_progress) → o ≡ some (state_is dormant) → ⊥
  clash h k = no_clash (cc)

  asked_fresh : {T : ℕ} {r : RowValue} → Changes t now (task № T) cycle_count r → CountAsked t now T r → Contains t' (task № T) state (state_is dormant) → r ≡ integer_row (pos 0)
  asked_fresh c by_initialise d = refl
  asked_fresh c (by_start s h a) d = absurd (clash (row_becomes enacts (asked_by (asked_id c) a)) d)

  same_row : {a b : RowValue} → some a ≡ some b → a ≡ b
  same_row e = cc

  pub cycle_counted : Counted t'
  cycle_counted = record { small = λ {T} h. small_after (enacts.rows (task № T) cycle_count) h; fresh = λ {T} h d. fresh_after (enacts.rows (task № T) cycle_count) h d }
    where
      small_after : {T : ℕ} {o : Option RowValue} {r : RowValue} → Enacted (Changes t now) (task № T) cycle_count (t (task № T) cycle_count) o → o ≡ some r → (r ≡ integer_row (pos 0)) ⊎ (r ≡ integer_row (pos 1))
      small_after (not_named n) e = counted.small e
      small_after (enact_c q) e = subst (λ (x : RowValue). (x ≡ integer_row (pos 0)) ⊎ (x ≡ integer_row (pos 1))) (same_row e) (asked_small (count_asked (asked_own q.row)))
      small_after {T} (enact_d q) e = absurd (only_values (changes_same q.other_row q.row))
        where
          only_values : (q.other ≡ q.one) ⊎ Valued (task № T) cycle_count → ⊥
          only_values (inl z) = q.differ z
          only_values (inr v) = not_valued v

      state_before : {T : ℕ} {o : Option RowValue} → ((r : RowValue) → ¬ Changes t now (task № T) cycle_count r) → Enacted (Changes t now) (task № T) state (t (task № T) state) o → o ≡ some (state_is dormant) → Contains t (task № T) state (state_is dormant)
      state_before n (not_named m) e = e
      state_before {T} n (enact_c q) e = absurd (asked_too (subst (λ (x : RowValue). Changes t now (task № T) state x) (same_row e) q.row))
        where
          asked_too : Changes t now (task № T) state (state_is dormant) → ⊥
          asked_too h = n (integer_row (pos 0)) (asked_by (asked_id h) (asks_1 (review_1 (initialised (asked_own h))) initialise_2))
      state_before n (enact_d q) e = absurd (no_clash (cc))

      fresh_after : {T : ℕ} {o : Option RowValue} {r : RowValue} → Enacted (Changes t now) (task № T) cycle_count (t (task № T) cycle_count) o → o ≡ some r → Contains t' (task № T) state (state_is dormant) → r ≡ integer_row (pos 0)
      fresh_after {T} (not_named n) e d = counted.fresh e (state_before n (enacts.rows (task № T) state) d)
      fresh_after (enact_c q) e d = sym (same_row e) ∙ asked_fresh q.row (count_asked (asked_own q.row)) d
      fresh_after {T} (enact_d q) e d = absurd (only_values (changes_same q.other_row q.row))
        where
          only_values : (q.other ≡ q.one) ⊎ Valued (task № T) cycle_count → ⊥
          only_values (inl z) = q.differ z
          only_values (inr v) = not_valued v

pub run_counted : {g : List TopLevel} {now n k : ℕ} {s s' : State} {r : Report} → Lawful g → Kept g s.table → Counted s.table → Runs now n k s s' r → Counted s'.table
run_counted lawful kept c (stop_quiet h) = c
run_counted lawful kept c (stop_bounded h p) = c
run_counted lawful kept c (stop_exception h p y) = cycle_counted lawful kept c y
run_counted lawful kept c (repeat h p y r) = run_counted lawful (cycle_kept lawful kept y) (cycle_counted lawful kept c y) r
