-- All rules in step over the text, and the best match so far: pairs of length and rule are put in order by one number.
use Prim.Native.Nat.{ℕ, zero, suc, ◌+◌, ◌-◌, ◌*◌, ◌≤◌, ◌<◌}
use native.Mathlib.Omega.{arith}
use native.Mathlib.Numerals.{add-one}
use native.Mathlib.Nat.{add-zero}
use mathlib.Core.Path.{◌≡◌, refl, sym, ap, subst, ◌∙◌}
use mathlib.Core.Bool.{Bool, true, false, cond}
use mathlib.Core.Logic.{◌⊎◌, inl, inr, ⊎_elim}
use mathlib.Core.List.{List}
use borrow.Author.Tests.{lt-ltb, le-ltb, ltb-true, ltb-false}
use borrow.Author.Count.{below_more}
use lib.Dec.{ltb, eqb, ltb→lt, eqb→eq}
use lib.ListN.{length, take, drop, get_or, set, length-drop}
use lib.Seq.{take-suc, length-take-le, get_or-take, get_or-drop, get_or-set_same, get_or-set_other}
use Rattle.paper_expressions.proofs.Laws.Tests.{contra, two}
use Rattle.paper_tokens.specs.Lexical.{part}
use Rattle.matches.specs.Kinds.{fine_of}
use Rattle.matches.specs.KindsLaws.{fine_small}
use Rattle.matches.specs.Machine.{starts, accepts, next_of, acc_of, run, Takes}
use Rattle.matches.specs.Walk.{better_of, begin_of, Sofar, Settled}
use Rattle.matches.specs.declared.Best.{Best}
use Rattle.terminals.specs.Every.{at, at_below}
use Rattle.matches.proofs.Cert.{run_small, run_more, run_dead, next_dead}

pub cond_yes : {A : Type 0} (t : Bool) (a b : A) → t ≡ true → cond t a b ≡ a
cond_yes true a b e = refl
cond_yes false a b e = contra e

pub cond_not : {A : Type 0} (t : Bool) (a b : A) → t ≡ false → cond t a b ≡ b
cond_not true a b e = contra (sym e)
cond_not false a b e = refl

pub lt_or_le : (a b : ℕ) → (a < b) ⊎ (b ≤ a)
lt_or_le a b = ⊎_elim (λ e. inl (ltb-true a b e)) (λ e. inr (ltb-false a b e)) (two (ltb a b))

-- where rule j stands after n bytes, from where it started
unfoldable pub After : List ℕ → List ℕ → ℕ → ℕ → ℕ → ℕ
After g t at j n = run (get_or g j 0) (part t at n)

-- each rule starts at its start, or dead where it has no match
pub record Begun (t : List ℕ) (at : ℕ) (g : List ℕ) : Type 0 where
  pub small : (j : ℕ) → j < 7 → get_or g j 0 < 35
  pub same : (j : ℕ) → j < 7 → (get_or g j 0 ≡ get_or starts j 0) ⊎ ((get_or g j 0 ≡ 0) × ((m : ℕ) → ¬ Takes t at j m))

pub begun : (t : List ℕ) (p : ℕ) (shut : Bool) → (shut ≡ true → (m : ℕ) → ¬ Takes t p 6 m) → Begun t p (begin_of shut)
unfolding starts
begun t p false none = record { small = λ j h. ltb→lt _ 35 (at (λ (i d : ℕ). ltb d 35) (begin_of false) 0 tt j h); same = λ j h. inl refl }
begun t p true none =
    let near : (j : ℕ) → j < 6 → get_or (begin_of true) j 0 ≡ get_or starts j 0 = λ j h.
    eqb→eq _ _ (at_below (λ (i : ℕ). eqb (get_or (begin_of true) i 0) (get_or starts i 0)) 6 tt j h) in
    record {
      small = λ j h. ltb→lt _ 35 (at (λ (i d : ℕ). ltb d 35) (begin_of true) 0 tt j h);
      same = λ j h. ⊎_elim (λ (l : j < 6). inl (near j l))
          (λ (l : 6 ≤ j). let e : 6 ≡ j = omega arith in
          subst (λ (i : ℕ). (get_or (begin_of true) i 0 ≡ get_or starts i 0) ⊎ ((get_or (begin_of true) i 0 ≡ 0) × ((m : ℕ) → ¬ Takes t p i m))) e (inr (refl, none refl)))
          (lt_or_le j 6);
    }

module _ (t : List ℕ) (at : ℕ) (g : List ℕ) (ok : Begun t at g) where
  pub after_none : (j : ℕ) → After g t at j 0 ≡ get_or g j 0
  unfolding After run
  after_none j = refl

  pub after_more : (j n : ℕ) → at + n < length t → After g t at j (n + 1) ≡ next_of (After g t at j n) (fine_of (get_or t (at + n) 0))
  unfolding After
  after_more j n h =
      let l : n < length (drop at t) = simp length-drop (omega arith) in
      ap (λ (i : ℕ). run (get_or g j 0) (take i (drop at t))) (add-one n)
      ∙ ap (λ (w : List ℕ). run (get_or g j 0) w) (take-suc (drop at t) n 0 l)
      ∙ run_more (take n (drop at t)) (get_or g j 0) (get_or (drop at t) n 0)
      ∙ ap (λ (b : ℕ). next_of (run (get_or g j 0) (take n (drop at t))) (fine_of b)) (get_or-drop at t n 0)

  pub after_small : (j n : ℕ) → j < 7 → After g t at j n < 35
  unfolding After
  after_small j n h = run_small (part t at n) (get_or g j 0) (ok.small j h)

  after_dead : (j n d : ℕ) → After g t at j n ≡ 0 → at + (n + d) ≤ length t → After g t at j (n + d) ≡ 0
  after_dead j n zero e h = ap (λ (i : ℕ). After g t at j i) (add-zero n) ∙ e
  after_dead j n (suc d) e h =
      ap (λ (i : ℕ). After g t at j i) (let z : n + suc d ≡ n + d + 1 = omega arith in z)
      ∙ after_more j (n + d) (omega arith)
      ∙ ap (λ (q : ℕ). next_of q (fine_of (get_or t (at + (n + d)) 0))) (after_dead j n d e (omega arith))
      ∙ next_dead _ (fine_small (get_or t (at + (n + d)) 0))

  zero_not : acc_of 0 ≡ false
  unfolding acc_of accepts
  zero_not = refl

  takes_acc : {s m : ℕ} → Takes t at s m → acc_of (After g t at s m) ≡ true
  unfolding After
  takes_acc {s} {m} f = ⊎_elim
      (λ (e : get_or g s 0 ≡ get_or starts s 0). ap (λ (q : ℕ). acc_of (run q (part t at m))) e ∙ f.accepts)
      (λ (e : (get_or g s 0 ≡ 0) × ((m : ℕ) → ¬ Takes t at s m)). absurd (e.1 m f))
      (ok.same s f.is_rule)

  -- a rule that accepts started at its start
  acc_start : (s m : ℕ) → s < 7 → acc_of (After g t at s m) ≡ true → After g t at s m ≡ run (get_or starts s 0) (part t at m)
  unfolding After
  acc_start s m h e = ⊎_elim
      (λ (z : get_or g s 0 ≡ get_or starts s 0). ap (λ (q : ℕ). run q (part t at m)) z)
      (λ (z : (get_or g s 0 ≡ 0) × ((m : ℕ) → ¬ Takes t at s m)).
      contra (sym zero_not ∙ ap acc_of (sym (ap (λ (q : ℕ). run q (part t at m)) z.0 ∙ run_dead (part t at m))) ∙ e))
      (ok.same s h)

  dead_not : {s m : ℕ} → After g t at s m ≡ 0 → ¬ Takes t at s m
  dead_not e f = contra (sym zero_not ∙ ap acc_of (sym e) ∙ takes_acc f)

  -- none yet
  pub sofar_none : (best : Best) → best.len ≡ 0 → Sofar t at 7 best
  sofar_none best e =
      record {
        is = λ l. absurd (omega arith);
        seen = λ l. absurd (omega arith);
        top = λ s m f l. let z = f.some_bytes in absurd (omega arith);
      }

  module _ (best : Best) (q r n : ℕ) (h : r < 7) (l : 0 < n) (k : at + n ≤ length t) (e : q ≡ After g t at r n) (b : Sofar t at (n * 7 + r) best) where
    win : acc_of q ≡ true → best.len < n → Sofar t at (n * 7 + (r + 1)) (record { len = n; rule = r })
    win a g' =
        let w = acc_start r n h (ap acc_of (sym e) ∙ a) in
        record {
          is = λ _. record { is_rule = h; some_bytes = l; inside = k; accepts = ap acc_of (sym (e ∙ w)) ∙ a };
          seen = λ _. omega arith;
          top = λ s m f p. ⊎_elim
              (λ (o : m * 7 + s < n * 7 + r). ⊎_elim
              (λ (y : m < best.len). inl (let z : m < n = omega arith in z))
              (λ (y : (m ≡ best.len) × (best.rule ≤ s)). inl (let x = y.0 in let z : m < n = omega arith in z))
              (b.top s m f o))
              (λ (o : n * 7 + r ≤ m * 7 + s). let x = f.is_rule in inr (omega arith, omega arith))
              (lt_or_le (m * 7 + s) (n * 7 + r));
        }

    tie_kept : n ≤ best.len → Sofar t at (n * 7 + (r + 1)) best
    tie_kept g' =
        record {
          is = b.is;
          seen = λ y. let z = b.seen y in omega arith;
          top = λ s m f p. ⊎_elim
              (λ (o : m * 7 + s < n * 7 + r). b.top s m f o)
              (λ (o : n * 7 + r ≤ m * 7 + s).
              let x = f.is_rule in
              let y : best.len * 7 + best.rule < n * 7 + r = b.seen (omega arith) in
              inr (omega arith, omega arith))
              (lt_or_le (m * 7 + s) (n * 7 + r));
        }

    no_match : acc_of q ≡ false → Sofar t at (n * 7 + (r + 1)) best
    no_match a =
        record {
          is = b.is;
          seen = λ y. let z = b.seen y in omega arith;
          top = λ s m f p. ⊎_elim
              (λ (o : m * 7 + s < n * 7 + r). b.top s m f o)
              (λ (o : n * 7 + r ≤ m * 7 + s).
              let x = f.is_rule in
              let y : m ≡ n = omega arith in
              let z : s ≡ r = omega arith in
              contra (sym a ∙ ap acc_of (e ∙ ap (λ (i : ℕ). After g t at i n) (sym z) ∙ ap (λ (i : ℕ). After g t at s i) (sym y)) ∙ takes_acc f))
              (lt_or_le (m * 7 + s) (n * 7 + r));
        }

    -- one rule more
    pub sofar_more : Sofar t at (n * 7 + (r + 1)) (better_of best q r n)
    sofar_more = ⊎_elim
        (λ (a : acc_of q ≡ true). ⊎_elim
        (λ (g : best.len < n). subst (Sofar t at (n * 7 + (r + 1))) (sym (cond_yes (acc_of q) _ _ a ∙ cond_yes (ltb best.len n) _ _ (lt-ltb best.len n g))) (win a g))
        (λ (g : n ≤ best.len). subst (Sofar t at (n * 7 + (r + 1))) (sym (cond_yes (acc_of q) _ _ a ∙ cond_not (ltb best.len n) _ _ (le-ltb best.len n g))) (tie_kept g))
        (lt_or_le best.len n))
        (λ (a : acc_of q ≡ false). subst (Sofar t at (n * 7 + (r + 1))) (sym (cond_not (acc_of q) _ _ a)) (no_match a))
        (two (acc_of q))

  -- the text has ended
  pub settled_end : (best : Best) (n : ℕ) → at + n ≡ length t → Sofar t at ((n + 1) * 7) best → Settled t at best
  settled_end best n h b =
      record {
        is = b.is;
        top = λ s m f. let x = f.is_rule in let y = f.inside in b.top s m f (omega arith);
      }

  -- no rule can take the last byte
  pub settled_dead : (best : Best) (n : ℕ) → ((j : ℕ) → j < 7 → After g t at j (n + 1) ≡ 0) → Sofar t at ((n + 1) * 7 + 7) best → Settled t at best
  settled_dead best n dead b =
      record {
        is = b.is;
        top = λ s m f. ⊎_elim
            (λ (o : n + 1 < m). absurd (dead_not
            (let z : n + 1 + (m - (n + 1)) ≡ m = omega arith in
            ap (λ (i : ℕ). After g t at s i) (sym z)
            ∙ after_dead s (n + 1) (m - (n + 1)) (dead s f.is_rule) (let y = f.inside in omega arith)) f))
            (λ (o : m ≤ n + 1). let x = f.is_rule in b.top s m f (omega arith))
            (lt_or_le (n + 1) m);
      }

-- the states, one set after the other
module _ (states : List ℕ) (r q : ℕ) (f g : ℕ → ℕ) where
  pub set_done : r < length states → q ≡ f r → ((j : ℕ) → j < r → get_or states j 0 ≡ f j) → (j : ℕ) → j < r + 1 → get_or (set states r q) j 0 ≡ f j
  set_done l e d =
      below_more (λ (j : ℕ). get_or (set states r q) j 0 ≡ f j) r
      (λ j h. get_or-set_other states r j q 0 (λ z. omega arith) ∙ d j h) (get_or-set_same states r q 0 l ∙ e)

  pub set_left : ((j : ℕ) → r ≤ j → j < 7 → get_or states j 0 ≡ g j) → (j : ℕ) → r + 1 ≤ j → j < 7 → get_or (set states r q) j 0 ≡ g j
  set_left d j h l = get_or-set_other states r j q 0 (λ z. omega arith) ∙ d j (omega arith) l

-- the byte n behind a place
pub behind : (t : List ℕ) (at n : ℕ) → n < length (take (length t - at) (drop at t)) → at + n < length t
behind t at n h = omega (arith, length-take-le (length t - at) (drop at t), length-drop at t)

pub after_step : (t : List ℕ) (at : ℕ) (g : List ℕ) (ok : Begun t at g) (j n s k q : ℕ) → n < length (take (length t - at) (drop at t))
    → s ≡ After g t at j n → k ≡ fine_of (get_or (take (length t - at) (drop at t)) n 0) → q ≡ next_of s k → q ≡ After g t at j (n + 1)
after_step t at g ok j n s k q h e f d =
    let l = behind t at n h in
    let b = get_or-take (length t - at) (drop at t) n 0 (omega arith) ∙ get_or-drop at t n 0 in
    d ∙ ap (λ (x : ℕ). next_of x k) e ∙ ap (next_of (After g t at j n)) (f ∙ ap fine_of b) ∙ sym (after_more t at g ok j n l)
