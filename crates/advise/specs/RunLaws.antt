-- Laws: public runs compose. A run that is bounded and one from there are one run, and their counts add up; a run that is over before its bound is the same with a higher one. By the published runs.
use Rattle.std.specs.Prelude.{ℕ, suc, ◌+◌, ◌<◌, ◌≤◌, ◌≡◌, refl, Bool, true, false, cond, List, eqb}
use Rattle.std.proofs.Common.{arith, sym, ap, subst, ◌∙◌, ⊎_elim, eq-eqb, ne_eqb, eqb-true}
use Rattle.std.proofs.lemmas.Bool.{eqb-false}
use Rattle.paper_expressions.proofs.Laws.Search.{no_clash}
use Rattle.paper_expressions.proofs.Laws.Tests.{two, contra}
use Rattle.paper_engine.specs.Cycle as Cycle
use Cycle.{Ending, quiet, bounded, Report, ends, Runs, stop_quiet, stop_bounded, stop_exception, repeat}
use Rattle.paper_engine.proofs.Laws.CycleLaws.{never_more, runs_compose}
use Rattle.paper_calls.specs.Calls as Calls
use Calls.{State, loaded, run, Calls, run_7, run_6_bound, run_6_lent, run_done, flag_set, cycle_limit, ran, refuses}
use Rattle.holding.specs.Elsewhere.{moved_on}
use Rattle.replying.specs.Replying.{Replies}
use Rattle.runs.specs.Run.{RunsAlone}
use Rattle.runs.specs.declared.Ran.{Ran}
use Rattle.runs.specs.declared.Ran.TheVariants.{Quiet, Bounded, Exception, Refused}
use Rattle.advise.specs.RunTold.{boundedb, least_of, after_of}

-- ---- of the published runs

-- where a run is bounded, the flag is not set
unflagged : {now n k : ℕ} {s a : Cycle.State} {r : Report} → Runs now n k s a r → r.ending ≡ bounded → s.flag ≡ false → a.flag ≡ false
unflagged (stop_quiet h) e f = f
unflagged (stop_bounded h p) e f = f
unflagged (stop_exception h p y) e f = absurd (no_clash (cc))
unflagged (repeat h p y r) e f = unflagged r e refl

-- and it enacted as many cycles as its bound
counted : {now n k : ℕ} {s a : Cycle.State} {r : Report} → Runs now n k s a r → r.ending ≡ bounded → r.cycles ≡ n
counted (stop_quiet h) e = absurd (no_clash (cc))
counted (stop_bounded h p) e = p
counted (stop_exception h p y) e = absurd (no_clash (cc))
counted (repeat h p y r) e = counted r e

-- a run that is over before its bound is the same with a higher one
higher : {now n m k : ℕ} {s a : Cycle.State} {r : Report} → n ≤ m → k ≤ n → ¬ (r.ending ≡ bounded) → Runs now n k s a r → Runs now m k s a r
higher l u e (stop_quiet h) = stop_quiet h
higher l u e (stop_bounded h p) = absurd (e refl)
higher {n} {m} l u e (stop_exception {k} h p y) = stop_exception h (λ (q : k ≡ m). p (omega arith)) y
higher {n} {m} l u e (repeat {k} h p y r) = repeat h (λ (q : k ≡ m). p (omega arith)) y (higher l (let z : suc k ≤ n = omega arith in z) e r)

-- ---- of the calls

not_set : (c : Bool) → ¬ (c ≡ true) → c ≡ false
not_set true n = absurd (n refl)
not_set false n = refl

module _ {n m lent : ℕ} (few : n + m ≤ cycle_limit) where
  both : {st mid after : State} {e : Ending} {i j : ℕ} → Calls (run n lent) st (ran (ends bounded i)) mid → Calls (run m lent) mid (ran (ends e j)) after → Calls (run (n + m) lent) st (ran (ends e (i + j))) after
  both (run_done u l o r) (run_done v k p q) = run_done u few o (runs_compose r q)

  never_refused : {st mid after : State} {i k : ℕ} → Calls (run n lent) st (ran (ends bounded i)) mid → Calls (run m lent) mid (refuses k 0 0) after → ⊥
  never_refused (run_done {g} u l o r) (run_7 (flag_set e)) = let f = unflagged r refl (not_set g.flag (λ z. u (flag_set z))) in no_clash (cc)
  never_refused (run_done u l o r) (run_6_bound v z) = omega arith
  never_refused (run_done u l o r) (run_6_lent v z) = omega arith

module _ {n m lent : ℕ} (more : n ≤ m) (few : m ≤ cycle_limit) where
  over : {st after : State} {e : Ending} {i : ℕ} → ¬ (e ≡ bounded) → Calls (run n lent) st (ran (ends e i)) after → Calls (run m lent) st (ran (ends e i)) after
  over ne (run_done u l o r) = run_done u few o (higher more (omega arith) ne r)

  refused_too : {st after : State} {i : ℕ} → Calls (run n lent) st (refuses i 0 0) after → Calls (run m lent) st (refuses i 0 0) after
  refused_too (run_7 u) = run_7 u
  refused_too (run_6_bound u l) = let z : cycle_limit < m = omega arith in run_6_bound u z
  refused_too (run_6_lent u l) = run_6_lent u l

recount : {n lent : ℕ} {st after : State} {e : Ending} {i j : ℕ} → ((now : ℕ) (s a : Cycle.State) → Runs now n 0 s a (ends e i) → i ≡ j) → Calls (run n lent) st (ran (ends e i)) after → Calls (run n lent) st (ran (ends e j)) after
recount {n} {lent} {e} same (run_done {g} {t} {f} u l o r) =
    subst (λ (y : ℕ). Calls (run n lent) (loaded g) (ran (ends e y)) (loaded (record { structure = g.structure; table = t; flag = f; time = g.time }))) (same _ _ _ r) (run_done u l o r)

-- ---- of the tables that hold a state

module _ {x b f : List ℕ} {w : List (List Bool)} {s b₁ s₁ b' s' : List ℕ} {n m lent : ℕ} (few : n + m ≤ cycle_limit) {i : ℕ} (h : Replies (run n lent) x b f w s b₁ s₁ (ran (ends bounded i))) where
  joined : {e : Ending} {j : ℕ} → Replies (run m lent) x b₁ f w s₁ b' s' (ran (ends e j)) → Replies (run (n + m) lent) x b f w s b' s' (ran (ends e (i + j)))
  joined k =
      record {
        called = λ st z. (let c = h.called st z in let d = k.called c.after c.holds in record { after = d.after; calls = both few c.calls d.calls; holds = d.holds });
        elsewhere = moved_on h.elsewhere k.elsewhere;
        refused = λ e. absurd (no_clash (cc));
      }

  -- whatever is replied then
  joined_refused : {j : ℕ} (r : Report) → Replies (run m lent) x b₁ f w s₁ b' s' (refuses j 0 0) → Replies (run (n + m) lent) x b f w s b' s' (ran r)
  joined_refused r k =
      record {
        called = λ st z. (let c = h.called st z in let d = k.called c.after c.holds in absurd (never_refused few c.calls d.calls));
        elsewhere = moved_on h.elsewhere k.elsewhere;
        refused = λ e. absurd (no_clash (cc));
      }

module _ {x b f : List ℕ} {w : List (List Bool)} {s b' s' : List ℕ} {n lent : ℕ} where
  recounted : {e : Ending} {i j : ℕ} → ((now : ℕ) (s a : Cycle.State) → Runs now n 0 s a (ends e i) → i ≡ j) → Replies (run n lent) x b f w s b' s' (ran (ends e i)) → Replies (run n lent) x b f w s b' s' (ran (ends e j))
  recounted same h =
      record {
        called = λ st z. (let c = h.called st z in record { after = c.after; calls = recount same c.calls; holds = c.holds });
        elsewhere = h.elsewhere;
        refused = λ e. absurd (no_clash (cc));
      }

  -- a run that is over before its bound is the same with a higher one
  pub widened : (m : ℕ) → n ≤ m → m ≤ cycle_limit → (r : Ran) → boundedb r ≡ false → RunsAlone n lent x b f w s b' s' r → RunsAlone m lent x b f w s b' s' r
  widened m l few (Quiet k) e h = record { called = λ st z. (let c = h.called st z in record { after = c.after; calls = over l few (λ q. no_clash (cc)) c.calls; holds = c.holds }); elsewhere = h.elsewhere; refused = h.refused }
  widened m l few (Bounded k) e h = contra (sym e)
  widened m l few (Exception k) e h = record { called = λ st z. (let c = h.called st z in record { after = c.after; calls = over l few (λ q. no_clash (cc)) c.calls; holds = c.holds }); elsewhere = h.elsewhere; refused = h.refused }
  widened m l few (Refused k) e h = record { called = λ st z. (let c = h.called st z in record { after = c.after; calls = refused_too l few c.calls; holds = c.holds }); elsewhere = h.elsewhere; refused = h.refused }

-- ---- cycle by cycle

-- after i cycles, each bounded
pub data Upto (x b f : List ℕ) (w : List (List Bool)) (s : List ℕ) : ℕ → List ℕ → List ℕ → Type 0 where
  none_yet : Upto x b f w s 0 b s
  all_bounded : {i : ℕ} {b' s' : List ℕ} → 0 < i → RunsAlone i 1024 x b f w s b' s' (Bounded i) → Upto x b f w s i b' s'

one_at_most : {e : Ending} {k : ℕ} (now : ℕ) (s a : Cycle.State) → Runs now 1 0 s a (ends e k) → k ≡ least_of k
one_at_most {k} now s a r = let l = never_more (omega arith) r in ⊎_elim
    (λ (e : eqb k 0 ≡ true). let z = eqb-true k 0 e in rw e z)
    (λ (e : eqb k 0 ≡ false). let z = eqb-false k 0 e in rw e (omega arith))
    (two (eqb k 0))

first_at_most : {e : Ending} {k : ℕ} (now : ℕ) (s a : Cycle.State) → Runs now 1 0 s a (ends e k) → k ≡ 0 + least_of k
first_at_most {k} now s a r = let z : least_of k ≡ 0 + least_of k = omega arith in one_at_most now s a r ∙ z

module _ {x b f : List ℕ} {w : List (List Bool)} {s : List ℕ} where
  -- one cycle more
  pub one_more : {i : ℕ} {b₁ s₁ b' s' : List ℕ} (r : Ran) → Upto x b f w s i b₁ s₁ → i < cycle_limit → RunsAlone 1 1024 x b₁ f w s₁ b' s' r → RunsAlone (i + 1) 1024 x b f w s b' s' (after_of i r)
  one_more (Quiet k) none_yet l h = recounted first_at_most h
  one_more (Quiet k) (all_bounded u z) l h = joined (omega arith) z (recounted one_at_most h)
  one_more (Bounded k) none_yet l h = recounted (λ now s a r. counted r refl) h
  one_more (Bounded k) (all_bounded u z) l h = joined (omega arith) z (recounted (λ now s a r. counted r refl) h)
  one_more (Exception k) none_yet l h = recounted first_at_most h
  one_more (Exception k) (all_bounded u z) l h = joined (omega arith) z (recounted one_at_most h)
  one_more (Refused k) none_yet l h = h
  one_more {i} {b' = b'} {s' = s'} (Refused k) (all_bounded u z) l h =
      let e : cond (eqb i 0) (Refused k) (Quiet i) ≡ Quiet i = rw (ne_eqb i 0 (λ q. omega arith)) in
      subst (RunsAlone (i + 1) 1024 x b f w s b' s') (sym e) (joined_refused (omega arith) z (ends quiet i) h)

  -- which goes on
  pub goes_on : (i : ℕ) {b' s' : List ℕ} (r : Ran) → boundedb (after_of i r) ≡ true → RunsAlone (i + 1) 1024 x b f w s b' s' (after_of i r) → Upto x b f w s (i + 1) b' s'
  goes_on i (Quiet k) e h = contra e
  goes_on i (Bounded k) e h = let z : 0 < i + 1 = omega arith in all_bounded z h
  goes_on i (Exception k) e h = contra e
  goes_on i (Refused k) e h = ⊎_elim
      (λ (z : eqb i 0 ≡ true). contra (rw z at e))
      (λ (z : eqb i 0 ≡ false). contra (rw z at e))
      (two (eqb i 0))

  -- the same as the code finds it out: it goes on, or is over
  module _ {i : ℕ} {b₁ s₁ b' s' : List ℕ} (c r : Ran) {a : Bool} (u : Upto x b f w s i b₁ s₁) (l : i < cycle_limit) (h : RunsAlone 1 1024 x b₁ f w s₁ b' s' c) (e : r ≡ after_of i c) (told : a ≡ boundedb r) where
    then_one : RunsAlone (i + 1) 1024 x b f w s b' s' r
    then_one = subst (RunsAlone (i + 1) 1024 x b f w s b' s') (sym e) (one_more c u l h)

    pub still_bounded : a ≡ true → Upto x b f w s (i + 1) b' s'
    still_bounded z = goes_on i c (ap boundedb (sym e) ∙ sym told ∙ z) (one_more c u l h)

    pub over_before : (n : ℕ) → i < n → n ≤ cycle_limit → a ≡ false → RunsAlone n 1024 x b f w s b' s' r
    over_before n k m z = widened n (omega arith) m r (sym told ∙ z) then_one

  -- up to the bound
  pub all_told : {i n : ℕ} {b' s' : List ℕ} → i ≡ n → 0 < n → Upto x b f w s i b' s' → RunsAlone n 1024 x b f w s b' s' (Bounded i)
  all_told e l none_yet = absurd (omega arith)
  all_told {i} {b'} {s'} e l (all_bounded u h) = subst (λ (n : ℕ). RunsAlone n 1024 x b f w s b' s' (Bounded i)) e h

-- ---- what the code finds out

pub after_quiet : (i : ℕ) {n m : ℕ} {r : Ran} → r ≡ Quiet n → m ≡ least_of n → Quiet (i + m) ≡ after_of i r
after_quiet i e f = ap (λ (k : ℕ). Quiet (i + k)) f ∙ sym (ap (after_of i) e)

pub after_exception : (i : ℕ) {n m : ℕ} {r : Ran} → r ≡ Exception n → m ≡ least_of n → Exception (i + m) ≡ after_of i r
after_exception i e f = ap (λ (k : ℕ). Exception (i + k)) f ∙ sym (ap (after_of i) e)

pub after_refused : (i : ℕ) {n : ℕ} {r : Ran} → r ≡ Refused n → i ≡ 0 → Refused n ≡ after_of i r
after_refused i {n} e f = sym (ap (after_of i) e ∙ rw (eq-eqb i 0 f))

pub after_never : (i : ℕ) {n : ℕ} {r : Ran} → r ≡ Refused n → ¬ (i ≡ 0) → Quiet i ≡ after_of i r
after_never i {n} e f = sym (ap (after_of i) e ∙ rw (ne_eqb i 0 f))
