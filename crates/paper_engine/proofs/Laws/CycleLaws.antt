-- Laws: enacting gives one table and one flag; a run has one report and one state, enacts no more than its bound, and runs compose: the counts add up.
use Rattle.std.specs.Prelude.{ℕ, zero, suc, ◌+◌, ◌≤◌, ◌≡◌, refl, Bool, true, false}
use Rattle.std.proofs.Common.{arith, sym, ap, subst, ◌∙◌}
use Rattle.std.proofs.Math.Path.{fun_ext}
use Rattle.std.proofs.Math.Option.{Option, none, some}
use Rattle.paper_expressions.proofs.Laws.Search.{no_clash}
use Rattle.paper_rows.specs.Table.{Component, Property, RowValue, unknown_row, Table}
use Rattle.paper_engine.specs.Operations.{Changes}
use Rattle.paper_engine.specs.Cycle
use Cycle.{Rows, OnlyRow, Collision, Enacted, not_named, enact_c, enact_d, Cause, Flagged, raised, as_it_was, EnactChanges, Ending, quiet, bounded, exception, Report, ends, SomeRow, State, Runs, stop_quiet, stop_bounded, stop_exception, repeat}

-- ---- 8.4: one table, one flag, whatever the rows asked are

never_both : {changes : Rows} {c : Component} {p : Property} {r : RowValue} → OnlyRow changes c p r → ¬ Collision changes c p
never_both h k = k.differ (h.only k.other k.other_row ∙ sym (h.only k.one k.row))

pub enacted_one : {changes : Rows} {c : Component} {p : Property} {o a b : Option RowValue} → Enacted changes c p o a → Enacted changes c p o b → a ≡ b
enacted_one (not_named n) (not_named m) = refl
enacted_one (not_named n) (enact_c {r} h) = absurd (n r h.row)
enacted_one (not_named n) (enact_d h) = absurd (n h.one h.row)
enacted_one (enact_c {r} h) (not_named n) = absurd (n r h.row)
enacted_one (enact_c {r} h) (enact_c k) = ap some (k.only r h.row)
enacted_one (enact_c h) (enact_d k) = absurd (never_both h k)
enacted_one (enact_d h) (not_named n) = absurd (n h.one h.row)
enacted_one (enact_d h) (enact_c k) = absurd (never_both k h)
enacted_one (enact_d h) (enact_d k) = refl

pub flagged_one : {changes : Rows} {o a b : Bool} → Flagged changes o a → Flagged changes o b → a ≡ b
flagged_one (raised h) (raised k) = refl
flagged_one (raised h) (as_it_was n) = absurd (n h)
flagged_one (as_it_was n) (raised h) = absurd (n h)
flagged_one (as_it_was n) (as_it_was m) = refl

pub one_table : {changes : Rows} {t t' t'' : Table} {f f' f'' : Bool} → EnactChanges changes t f t' f' → EnactChanges changes t f t'' f'' → t' ≡ t''
one_table h k = fun_ext (λ c. fun_ext (λ p. enacted_one (h.rows c p) (k.rows c p)))

pub one_flag : {changes : Rows} {t t' t'' : Table} {f f' f'' : Bool} → EnactChanges changes t f t' f' → EnactChanges changes t f t'' f'' → f' ≡ f''
one_flag h k = flagged_one h.flag k.flag

-- ---- 8.3.2: one state, one report

pub record SameRun (s : State) (r : Report) (s' : State) (r' : Report) : Type 0 where
  pub states : s ≡ s'
  pub reports : r ≡ r'

not_true : ◌≡◌ {A = Bool} true false → ⊥
not_true e = no_clash (cc)

state_of : {t u : Table} {f : Bool} → t ≡ u → ◌≡◌ {A = State} (record { table = t; flag = f }) (record { table = u; flag = f })
state_of {f} e = ap (λ (x : Table). let s : State = record { table = x; flag = f } in s) e

pub one_run : {now n k : ℕ} {s a b : State} {r q : Report} → Runs now n k s a r → Runs now n k s b q → SameRun a r b q
one_run (stop_quiet h) (stop_quiet k) = record { states = refl; reports = refl }
one_run (stop_quiet h) (stop_bounded k q) = absurd (h k)
one_run (stop_quiet h) (stop_exception k q x) = absurd (h k)
one_run (stop_quiet h) (repeat k q x r) = absurd (h k)
one_run (stop_bounded h p) (stop_quiet k) = absurd (k h)
one_run (stop_bounded h p) (stop_bounded k q) = record { states = refl; reports = refl }
one_run (stop_bounded h p) (stop_exception k q x) = absurd (q p)
one_run (stop_bounded h p) (repeat k q x r) = absurd (q p)
one_run (stop_exception h p y) (stop_quiet k) = absurd (k h)
one_run (stop_exception h p y) (stop_bounded k q) = absurd (p q)
one_run (stop_exception h p y) (stop_exception k q x) = record { states = state_of (one_table y x); reports = refl }
one_run (stop_exception h p y) (repeat k q x r) = absurd (not_true (one_flag y x))
one_run (repeat h p y r) (stop_quiet k) = absurd (k h)
one_run (repeat h p y r) (stop_bounded k q) = absurd (p q)
one_run (repeat h p y r) (stop_exception k q x) = absurd (not_true (one_flag x y))
one_run {now} {n} {b} {q = o} (repeat {k = i} h p y r) (repeat k q x r') =
    one_run r (subst (λ (z : Table). Runs now n (suc i) (record { table = z; flag = false }) b o) (one_table x y) r')

-- ---- no run enacts more than its bound

pub never_more : {now n k : ℕ} {s a : State} {r : Report} → k ≤ n → Runs now n k s a r → r.cycles ≤ n
never_more l (stop_quiet h) = l
never_more l (stop_bounded h p) = l
never_more l (stop_exception h p y) = omega arith
never_more {n} {k} l (repeat h p y r) = never_more (let z : suc k ≤ n = omega arith in z) r

-- ---- a run of n that is bounded, and then a run of m, are a run of n + m, and the counts add up

bounded_count : {now n k : ℕ} {s a : State} {r : Report} → Runs now n k s a r → r.ending ≡ bounded → r.cycles ≡ n
bounded_count (stop_quiet h) q = absurd (no_clash (cc))
bounded_count (stop_bounded h p) q = p
bounded_count (stop_exception h p y) q = absurd (no_clash (cc))
bounded_count (repeat h p y r) q = bounded_count r q

abbrev more : ℕ → Report → Report
more i r = ends r.ending (i + r.cycles)

-- with i more cycles enacted and allowed
later : {now n k : ℕ} {s a : State} {r : Report} (i : ℕ) → Runs now n k s a r → Runs now (i + n) (i + k) s a (more i r)
later i (stop_quiet h) = stop_quiet h
later i (stop_bounded h p) = stop_bounded h (ap (λ (x : ℕ). i + x) p)
later {now} {n} i (stop_exception {k} {s} {t} h p y) =
    subst (λ (x : ℕ). Runs now (i + n) (i + k) s (record { table = t; flag = true }) (ends exception x)) (let z : suc (i + k) ≡ i + suc k = omega arith in z)
    (stop_exception h (λ (q : i + k ≡ i + n). p (omega arith)) y)
later {now} {n} i (repeat {k} {s} {s'} {t} {r = o} h p y r) =
    repeat h (λ (q : i + k ≡ i + n). p (omega arith)) y
    (subst (λ (x : ℕ). Runs now (i + n) x (record { table = t; flag = false }) s' (more i o)) (let z : i + suc k ≡ suc (i + k) = omega arith in z) (later i r))

then_more : {now n k : ℕ} {s a b : State} {r q : Report} (j : ℕ) → k ≤ n → Runs now n k s a r → r.ending ≡ bounded → Runs now (n + j) n a b q → Runs now (n + j) k s b q
then_more j l (stop_quiet h) z o = absurd (no_clash (cc))
then_more {now} {n} {b} {q} j l (stop_bounded {s} h p) z o = subst (λ (x : ℕ). Runs now (n + j) x s b q) (sym p) o
then_more j l (stop_exception h p y) z o = absurd (no_clash (cc))
then_more {n} j l (repeat {k = i} h p y r') z o =
    repeat h (λ (q : i ≡ n + j). p (omega arith)) y (then_more j (let w : suc i ≤ n = omega arith in w) r' z o)

pub runs_compose : {now n m q q' : ℕ} {s a b : State} {e : Ending} → Runs now n 0 s a (ends bounded q) → Runs now m 0 a b (ends e q') → Runs now (n + m) 0 s b (ends e (q + q'))
runs_compose {now} {n} {m} {q} {q'} {s} {a} {b} {e} h k =
    subst (λ (x : ℕ). Runs now (n + m) 0 s b (ends e (x + q'))) (sym (bounded_count h refl))
    (then_more m (omega arith) h refl (subst (λ (x : ℕ). Runs now (n + m) x a b (ends e (n + q'))) (let z : n + 0 ≡ n = omega arith in z) (later n k)))
