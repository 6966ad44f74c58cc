-- Law: a row that holds an engine time holds one that was set before; so no such row passes the limit that those have. By the rows asked for.
use Rattle.std.specs.Prelude.{ℕ, ◌≤◌, ◌≡◌, refl, Bool, List}
use Rattle.std.proofs.Common.{sym, ap, subst, ◌∙◌}
use Rattle.std.proofs.Math.Option.{Option, some}
use Rattle.paper_expressions.proofs.Laws.Search.{no_clash}
use Rattle.paper_guideline.specs.Structure.{TopLevel}
use Rattle.paper_rows.specs.Table
use Table.{Component, Property, RowValue, time_is, unknown_row, Table, Contains, Assigns}
use Rattle.paper_rows.specs.Load.{Adds, Initial}
use Rattle.paper_engine.specs.Operations
use Operations.{Initialise, InitialiseSource, Start, start_3, start_9, Discard, discard_3, EnactAssertion, assertion_2, SetStartAt, start_at_2, Complete, complete_2, complete_3, complete_4, Asks, asks_1, asks_2, asks_3, asks_4, Changes, asked_by}
use Rattle.paper_engine.specs.Cycle
use Cycle.{Enacted, not_named, enact_c, enact_d, EnactChanges, Report, State, Runs, stop_quiet, stop_bounded, stop_exception, repeat}

-- no row of the table holds a time beyond m
pub record Timely (m : ℕ) (t : Table) : Type 0 where
  pub times : {c : Component} {p : Property} {n : ℕ} → Contains t c p (time_is n) → n ≤ m

no_time_added : {g : List TopLevel} {c : Component} {p : Property} {n : ℕ} → ¬ Adds g c p (time_is n)
no_time_added h = elim h [ ]

pub initial_timely : {g : List TopLevel} {t : Table} (m : ℕ) → Initial g t → Timely m t
initial_timely m i = record { times = λ {c} {p} {n} h. absurd (no_time_added ((i.rows c p (time_is n)).0 h)) }

no_source_time : {t : Table} {n : ℕ} {S c : Component} {p : Property} → ¬ InitialiseSource t S c p (time_is n)
no_source_time h = elim h [ ]

start_time : {t : Table} {now T n : ℕ} {c : Component} {p : Property} → Start t now T c p (time_is n) → n ≡ now
start_time start_3 = refl
start_time (start_9 a b i h) = absurd (no_source_time h)

discard_time : {t : Table} {now T n : ℕ} {c : Component} {p : Property} → Discard t now T c p (time_is n) → n ≡ now
discard_time discard_3 = refl

no_assertion_time : {t : Table} {T n : ℕ} {l : List Assigns} {c : Component} {p : Property} → ¬ EnactAssertion t T l c p (time_is n)
no_assertion_time (assertion_2 i h) = elim h [ ]

complete_time : {t : Table} {now T n : ℕ} {c : Component} {p : Property} → Complete t now T c p (time_is n) → n ≡ now
complete_time complete_2 = refl
complete_time (complete_3 a h) = absurd (no_assertion_time h)
complete_time (complete_4 a (start_at_2 n)) = refl

no_initialise_time : {t : Table} {now T n : ℕ} {c : Component} {p : Property} → ¬ Initialise t now T c p (time_is n)
no_initialise_time h = elim h [ ]

asked_time : {t : Table} {now n : ℕ} {c : Component} {p : Property} → Changes t now c p (time_is n) → n ≡ now
asked_time (asked_by i (asks_1 v h)) = absurd (no_initialise_time h)
asked_time (asked_by i (asks_2 v h)) = start_time h
asked_time (asked_by i (asks_3 v h)) = discard_time h
asked_time (asked_by i (asks_4 v h)) = complete_time h

pub cycle_timely : {t t' : Table} {now m : ℕ} {f f' : Bool} → now ≤ m → Timely m t → EnactChanges (Changes t now) t f t' f' → Timely m t'
cycle_timely {t} {now = now} {m} l k h = record { times = λ {c} {p} e. go (h.rows c p) e }
  where
    same : {a b : RowValue} → some a ≡ some b → a ≡ b
    same e = cc

    go : {c : Component} {p : Property} {n : ℕ} {o : Option RowValue} → Enacted (Changes t now) c p (t c p) o → o ≡ some (time_is n) → n ≤ m
    go (not_named q) e = k.times e
    go {c} {p} (enact_c q) e = subst (λ (x : ℕ). x ≤ m) (sym (asked_time (subst (Changes t now c p) (same e) q.row))) l
    go (enact_d q) e = absurd (no_clash (cc))

pub run_timely : {now n k m : ℕ} {s s' : State} {r : Report} → now ≤ m → Timely m s.table → Runs now n k s s' r → Timely m s'.table
run_timely l k (stop_quiet h) = k
run_timely l k (stop_bounded h p) = k
run_timely l k (stop_exception h p y) = cycle_timely l k y
run_timely l k (repeat h p y r) = run_timely l (cycle_timely l k y) r
