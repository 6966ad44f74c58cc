-- One token more; and what a bare name is in words: what a token stands in is told by the last word or semicolon up to it.
use Prim.Native.Nat.{ℕ, zero, suc, ◌+◌, ◌≤◌, ◌<◌}
use Rattle.std.proofs.Common.{arith, add-one, ◌∙◌, eq-eqb, ne_eqb, eqb-true}
use Rattle.std.proofs.Math.Decide.{dec_lt}
use Rattle.std.specs.Prelude.{◌≡◌, refl, Bool, true, false, not, ◌&&◌, List, ltb}
use Rattle.std.proofs.Math.Path.{sym, ap, subst}
use Rattle.std.proofs.Math.Logic.{⊎_elim}
use Rattle.std.proofs.Math.Dec.{eqb}
use Rattle.std.proofs.Math.ListN.{get_or}
use Rattle.std.proofs.lemmas.Bool.{eqb-false, not-true}
use Rattle.paper_expressions.proofs.Laws.Tests.{two, contra, both, and_l, and_r}
use Rattle.paper_expressions.proofs.Laws.Search.{Reflects, of_yes, of_no}
use Rattle.paper_tokens.specs.Tokens.{“semicolon”, “open”, “data”}
use Rattle.paper_guideline.specs.Limits.{bracket_limit}
use Rattle.bare_tokens.specs.declared.within.Within.{Within}
use Rattle.bare_tokens.specs.Listed.{Listed}
use Rattle.bare_tokens.specs.Bare.{none, behind, has_expressions, is_opening, is_closing, before, after, is_around, opened, on, within, is_atom, is_plain, is_target, is_read, is_bare, bare_at, declaring, is_task, item-at, task_at, Collected, Inside, Bare}

-- ---- one token more

pub within_none : (kinds : List ℕ) {w : Within} → w ≡ behind none → w ≡ within kinds 0
unfolding within
within_none kinds e = e

pub within_more : (kinds : List ℕ) (i : ℕ) {w r : Within} {k b : ℕ} → w ≡ within kinds i → k ≡ get_or kinds i 0 → b ≡ before kinds i → r ≡ on w k b → r ≡ within kinds (i + 1)
unfolding within
within_more kinds i {k = k} {b} ew ek eb e =
    e ∙ ap (λ (w : Within). on w k b) ew ∙ ap (λ (k : ℕ). on (within kinds i) k b) ek ∙ ap (on (within kinds i) (get_or kinds i 0)) eb
    ∙ ap (within kinds) (sym (add-one i))

module _ (kinds : List ℕ) (i : ℕ) where
  pub item_is : {k : ℕ} → k ≡ declaring kinds i → eqb k “data” ≡ item-at kinds i
  item_is e = ap (λ (k : ℕ). eqb k “data”) e

  pub task_is : {k : ℕ} {r : Bool} → k ≡ declaring kinds i → r ≡ is_task k → r ≡ task_at kinds i
  task_is e f = f ∙ ap is_task e

pub bare_is : (text kinds places : List ℕ) (i : ℕ) {w : Within} {r : Bool} → w ≡ within kinds (i + 1) → r ≡ is_bare text kinds places i w → r ≡ bare_at text kinds places i
bare_is text kinds places i e f = f ∙ ap (is_bare text kinds places i) (e ∙ ap (within kinds) (add-one i))

-- all tokens are passed
pub collected : {text kinds places : List ℕ} {n i : ℕ} {items tasks names items' tasks' names' : List ℕ} {a b c : ℕ} → i ≡ n
    → Listed (item-at kinds) i items items' a → Listed (task_at kinds) i tasks tasks' b → Listed (bare_at text kinds places) i names names' c
    → Collected text kinds places n items tasks names items' tasks' names' (record { items = a; tasks = b; bare = c })
collected {text} {kinds} {places} {items = items} {tasks} {names} {items'} {tasks'} {names'} {a} {b} {c} e x y z = record {
  of_items = subst (λ (m : ℕ). Listed (item-at kinds) m items items' a) e x;
  of_tasks = subst (λ (m : ℕ). Listed (task_at kinds) m tasks tasks' b) e y;
  of_names = subst (λ (m : ℕ). Listed (bare_at text kinds places) m names names' c) e z;
}

-- ---- the word

opened_word : (w : Within) (last : ℕ) → (opened w last).word ≡ w.word
opened_word w last = ⊎_elim
    (λ (e : ltb bracket_limit w.depth ≡ true). rw e)
    (λ (e : ltb bracket_limit w.depth ≡ false). rw e (⊎_elim (λ (f : is_around w last ≡ true). rw f) (λ (f : is_around w last ≡ false). rw f) (two (is_around w last))))
    (two (ltb bracket_limit w.depth))

on_word : (w : Within) (k last : ℕ) → has_expressions k ≡ true → on w k last ≡ record { word = k; depth = 0; base = 0 }
on_word w k last e = rw e

on_semicolon : (w : Within) (k last : ℕ) → has_expressions k ≡ false → k ≡ “semicolon” → (on w k last).word ≡ none
on_semicolon w k last e f = rw (e, eq-eqb k “semicolon” f)

on_other : (w : Within) (k last : ℕ) → has_expressions k ≡ false → ¬ (k ≡ “semicolon”) → (on w k last).word ≡ w.word
on_other w k last e f = rw (e, ne_eqb k “semicolon” f) (⊎_elim
    (λ (g : is_opening k ≡ true). rw g (opened_word w last))
    (λ (g : is_opening k ≡ false). rw g (⊎_elim (λ (h : is_closing k ≡ true). rw h) (λ (h : is_closing k ≡ false). rw h) (two (is_closing k))))
    (two (is_opening k)))

module _ (kinds : List ℕ) where
  -- the word of an attribute
  here : (i : ℕ) → has_expressions (get_or kinds i 0) ≡ true → Inside kinds i (get_or kinds i 0)
  here i e = record { at = i; there = omega arith; word = refl; has = e; still = λ m a b. absurd (omega arith) }

  further : {i k : ℕ} → has_expressions (get_or kinds (suc i) 0) ≡ false → ¬ (get_or kinds (suc i) 0 ≡ “semicolon”) → Inside kinds i k → Inside kinds (suc i) k
  further {i} e f s = record {
    at = s.at;
    there = let h = s.there in omega arith;
    word = s.word;
    has = s.has;
    still = λ m a b. go m a b (dec_lt i m);
  }
    where
      go : (m : ℕ) → s.at < m → m ≤ suc i → Dec (i < m) → (has_expressions (get_or kinds m 0) ≡ false) × ¬ (get_or kinds m 0 ≡ “semicolon”)
      go m a b (yes h) = let z : suc i ≡ m = omega arith in subst (λ (j : ℕ). (has_expressions (get_or kinds j 0) ≡ false) × ¬ (get_or kinds j 0 ≡ “semicolon”)) z (e, f)
      go m a b (no h) = s.still m a (omega arith)

  -- there is a word, and it is one that the token stands behind
  abbrev Told : ℕ → Type 0
  Told i = ¬ ((within kinds (suc i)).word ≡ none) → Inside kinds i (within kinds (suc i)).word

  at_token : (i : ℕ) → (has_expressions (get_or kinds i 0) ≡ false → ¬ (get_or kinds i 0 ≡ “semicolon”) → Told i) → Told i
  unfolding within
  at_token i f n = ⊎_elim
      (λ (e : has_expressions (get_or kinds i 0) ≡ true). subst (Inside kinds i) (sym (ap (λ (w : Within). w.word) (on_word (within kinds i) (get_or kinds i 0) (before kinds i) e))) (here i e))
      (λ (e : has_expressions (get_or kinds i 0) ≡ false). ⊎_elim
      (λ (g : eqb (get_or kinds i 0) “semicolon” ≡ true). absurd (n (on_semicolon (within kinds i) (get_or kinds i 0) (before kinds i) e (eqb-true (get_or kinds i 0) “semicolon” g))))
      (λ (g : eqb (get_or kinds i 0) “semicolon” ≡ false). f e (eqb-false (get_or kinds i 0) “semicolon” g) n)
      (two (eqb (get_or kinds i 0) “semicolon”)))
      (two (has_expressions (get_or kinds i 0)))

  stands_in : (i : ℕ) → Told i
  unfolding within
  stands_in zero = at_token zero (λ e f n. absurd (n (on_other (within kinds zero) (get_or kinds zero 0) (before kinds zero) e f)))
  stands_in (suc i) = at_token (suc i) (λ e f n.
      let z = on_other (within kinds (suc i)) (get_or kinds (suc i) 0) (before kinds (suc i)) e f in
      subst (Inside kinds (suc i)) (sym z) (further e f (stands_in i (λ q. n (z ∙ q)))))

  -- the word that a token stands behind is told
  at_word : (i : ℕ) {k : ℕ} (s : Inside kinds i k) → s.at ≡ i → (within kinds (suc i)).word ≡ k
  unfolding within
  at_word i {k} s e =
      let z : get_or kinds i 0 ≡ k = sym (ap (λ (j : ℕ). get_or kinds j 0) e) ∙ s.word in
      ap (λ (w : Within). w.word) (on_word (within kinds i) (get_or kinds i 0) (before kinds i) (ap has_expressions z ∙ s.has)) ∙ z

  behind_word : (i : ℕ) {k : ℕ} (s : Inside kinds i k) → s.at < i → (within kinds (suc i)).word ≡ (within kinds i).word
  unfolding within
  behind_word i s l = let h = s.still i l (omega arith) in on_other (within kinds i) (get_or kinds i 0) (before kinds i) h.0 h.1

  less : {i k : ℕ} (s : Inside kinds (suc i) k) → s.at < suc i → Inside kinds i k
  less s l = record { at = s.at; there = omega arith; word = s.word; has = s.has; still = λ m a b. s.still m a (omega arith) }

  word_of : (i : ℕ) {k : ℕ} → Inside kinds i k → (within kinds (suc i)).word ≡ k
  word_of zero s = at_word zero s (let h = s.there in omega arith)
  word_of (suc i) {k} s = go (dec_lt s.at (suc i)) (λ l. word_of i (less s l))
    where
      go : Dec (s.at < suc i) → (s.at < suc i → (within kinds (suc i)).word ≡ k) → (within kinds (suc (suc i))).word ≡ k
      go (yes l) f = behind_word (suc i) s l ∙ f l
      go (no l) f = at_word (suc i) s (let h = s.there in omega arith)

-- ---- a bare name in words

no_word : {k : ℕ} → has_expressions k ≡ true → ¬ (k ≡ none)
no_word e q = contra (sym (ap has_expressions q) ∙ e)

differs : {a b : ℕ} → not (eqb a b) ≡ true → ¬ (a ≡ b)
differs {a} {b} e = eqb-false a b (not-true (eqb a b) e)

differ : {a b : ℕ} → ¬ (a ≡ b) → not (eqb a b) ≡ true
differ {a} {b} n = ap not (ne_eqb a b n)

module _ (text kinds places : List ℕ) (i : ℕ) where
  told_bare : bare_at text kinds places i ≡ true → Bare text kinds places i
  told_bare e =
      let w = within kinds (suc i) in
      let a = and_l (not (eqb w.word none)) (is_plain text kinds places i && is_read kinds i w) e in
      let r = and_r (not (eqb w.word none)) (is_plain text kinds places i && is_read kinds i w) e in
      let p = and_l (is_plain text kinds places i) (is_read kinds i w) r in
      let q = and_r (is_plain text kinds places i) (is_read kinds i w) r in
      record {
        word = w.word;
        inside = stands_in kinds i (differs a);
        atom = and_l (is_atom (get_or kinds i 0)) (not (eqb (get_or text (get_or places i 0) 0) 39)) p;
        unquoted = differs (and_r (is_atom (get_or kinds i 0)) (not (eqb (get_or text (get_or places i 0) 0) 39)) p);
        no_functor = differs (and_l (not (eqb (after kinds i) “open”)) (not (is_target w (before kinds i) (after kinds i))) q);
        unassigned = not-true (is_target w (before kinds i) (after kinds i)) (and_r (not (eqb (after kinds i) “open”)) (not (is_target w (before kinds i) (after kinds i))) q);
      }

  bare_told : Bare text kinds places i → bare_at text kinds places i ≡ true
  bare_told b =
      let w = within kinds (suc i) in
      both (not (eqb w.word none)) (is_plain text kinds places i && is_read kinds i w)
      (differ (λ q. no_word b.inside.has (sym (word_of kinds i b.inside) ∙ q)))
      (both (is_plain text kinds places i) (is_read kinds i w)
      (both (is_atom (get_or kinds i 0)) (not (eqb (get_or text (get_or places i 0) 0) 39)) b.atom (differ b.unquoted))
      (both (not (eqb (after kinds i) “open”)) (not (is_target w (before kinds i) (after kinds i))) (differ b.no_functor) (ap not b.unassigned)))

  -- a token is listed as bare exactly if it is one
  pub bare_exactly : Reflects (Bare text kinds places i) (bare_at text kinds places i)
  bare_exactly = ⊎_elim
      (λ (e : bare_at text kinds places i ≡ true). rw e (of_yes (told_bare e)))
      (λ (e : bare_at text kinds places i ≡ false). rw e (of_no (λ b. contra (sym e ∙ bare_told b))))
      (two (bare_at text kinds places i))
