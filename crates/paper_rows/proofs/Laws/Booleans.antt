-- What a computed test says, composed: of both, either, not, if, of the elements of a list, of the numbers below one. The twins of conditions are made of these.
use Rattle.std.specs.Prelude.{ℕ, zero, suc, ◌+◌, ◌<◌, ◌≤◌, ◌≡◌, refl, Bool, true, false, not, ◌&&◌, ◌||◌, ◌↔◌, ◌⊎◌, List, [], ◌∷◌, eqb, leb, ltb}
use Rattle.std.proofs.Common.{arith, sym, ap, subst, ◌∙◌, inl, inr, eq-eqb, eqb-true, le-leb, leb-true}
use Rattle.paper_expressions.proofs.Laws.Search.{no_clash, last_case, same_reflects, Reflects, reflects_true, true_reflects}
use Rattle.paper_expressions.proofs.Laws.Search as Search
use Rattle.paper_expressions.proofs.Laws.Tests.{contra, two, and_l, and_r, both, or_cases, or_l, or_r, not_both}
use Rattle.paper_expressions.specs.View.{At, at_first, at_later}

abbrev pub Tests : Bool → Type 0 → Type 0
Tests b P = (b ≡ true) ↔ P

pub is_itself : (b : Bool) → Tests b (b ≡ true)
is_itself b = (λ e. e, λ e. e)

pub is_as : {a : Bool} {P Q : Type 0} → (P → Q) → (Q → P) → Tests a P → Tests a Q
is_as f g h = (λ e. f (h.0 e), λ q. h.1 (g q))

pub is_and : {a b : Bool} {P Q : Type 0} → Tests a P → Tests b Q → Tests (a && b) (P × Q)
is_and {a} {b} h k = (λ e. (h.0 (and_l a b e), k.0 (and_r a b e)), λ z. both a b (h.1 z.0) (k.1 z.1))

pub is_or : {a b : Bool} {P Q : Type 0} → Tests a P → Tests b Q → Tests (a || b) (P ⊎ Q)
is_or {a} {b} {P} {Q} h k = (λ e. to (or_cases a b e), back)
  where
    to : (a ≡ true) ⊎ (b ≡ true) → P ⊎ Q
    to (inl e) = inl (h.0 e)
    to (inr e) = inr (k.0 e)

    back : P ⊎ Q → (a || b) ≡ true
    back (inl p) = or_l a b (h.1 p)
    back (inr q) = or_r a b (k.1 q)

pub is_not : {a : Bool} {P : Type 0} → Tests a P → Tests (not a) (¬ P)
is_not {a} {P} h = (λ e p. not_both a e (h.1 p), λ n. back (two a) n)
  where
    off : {b : Bool} → b ≡ false → not b ≡ true
    off e = cc

    back : (a ≡ true) ⊎ (a ≡ false) → ¬ P → not a ≡ true
    back (inl e) n = absurd (n (h.0 e))
    back (inr e) n = off e

pub is_if : {a b : Bool} {P Q : Type 0} → Tests a P → Tests b Q → Tests (not a || b) (P → Q)
is_if {a} {b} {P} {Q} h k = (λ e p. to (or_cases (not a) b e) p, λ f. back (two a) f)
  where
    to : (not a ≡ true) ⊎ (b ≡ true) → P → Q
    to (inl e) p = not_both a e (h.1 p)
    to (inr e) p = k.0 e

    off : {b : Bool} → b ≡ false → not b ≡ true
    off e = cc

    back : (a ≡ true) ⊎ (a ≡ false) → (P → Q) → (not a || b) ≡ true
    back (inl e) f = or_r (not a) b (k.1 (f (h.0 e)))
    back (inr e) f = or_l (not a) b (off e)

pub is_yes : {P : Type 0} → P → Tests true P
is_yes p = (λ e. p, λ q. refl)

pub is_no : {P : Type 0} → ¬ P → Tests false P
is_no n = (λ e. contra e, λ p. absurd (n p))

-- a test decides
pub decided : {b : Bool} {P : Type 0} → Tests b P → Dec P
decided {b} {P} h = go (two b)
  where
    off : b ≡ false → ¬ P
    off e p = contra (sym e ∙ h.1 p)

    go : (b ≡ true) ⊎ (b ≡ false) → Dec P
    go (inl e) = yes (h.0 e)
    go (inr e) = no (off e)

pub is_false : {b : Bool} {P : Type 0} → Tests b P → b ≡ false → ¬ P
is_false h e p = contra (sym e ∙ h.1 p)

-- ---- numbers and texts

pub is_equal : (n m : ℕ) → Tests (eqb n m) (n ≡ m)
is_equal n m = (eqb-true n m, eq-eqb n m)

pub is_most : (n m : ℕ) → Tests (leb n m) (n ≤ m)
is_most n m = (leb-true n m, le-leb n m)

pub is_same : (s t : List ℕ) → Tests (Search.sameb s t) (s ≡ t)
is_same s t = (true_reflects (same_reflects s t), reflects_true (same_reflects s t))

-- ---- the elements of a list

abbrev pub every_f : {A : Type 0} → (A → Bool) → List A → Bool
every_f f [] = true
every_f f (x ∷ l) = f x && every_f f l

abbrev pub any_f : {A : Type 0} → (A → Bool) → List A → Bool
any_f f [] = false
any_f f (x ∷ l) = f x || any_f f l

no_element : {A : Type 0} {i : ℕ} {x : A} → ¬ At [] i x
no_element h = elim h [ ]

module _ {A : Type 0} (P : A → Type 0) (f : A → Bool) (tests : (x : A) → Tests (f x) (P x)) where
  pub is_every : (l : List A) → Tests (every_f f l) ((i : ℕ) (x : A) → At l i x → P x)
  is_every [] = is_yes (λ i x h. absurd (no_element h))
  is_every (a ∷ l) = is_as (λ h. more h.0 h.1) (λ h. (h 0 a at_first, λ i x q. h (suc i) x (at_later q))) (is_and (tests a) (is_every l))
    where
      more : P a → ((i : ℕ) (x : A) → At l i x → P x) → (i : ℕ) (x : A) → At (a ∷ l) i x → P x
      more p g i x at_first = p
      more p g i x (at_later {i = j} h) = g j x h

  pub is_any : (l : List A) → Tests (any_f f l) ((i : ℕ) × (x : A) × At l i x × P x)
  is_any [] = is_no (λ h. no_element h.2)
  is_any (a ∷ l) = is_as to (λ h. back h.2 h.3) (is_or (tests a) (is_any l))
    where
      to : P a ⊎ ((i : ℕ) × (x : A) × At l i x × P x) → (i : ℕ) × (x : A) × At (a ∷ l) i x × P x
      to (inl p) = (0, a, at_first, p)
      to (inr h) = (suc h.0, h.1, at_later h.2, h.3)

      back : {i : ℕ} {x : A} → At (a ∷ l) i x → P x → P a ⊎ ((i : ℕ) × (x : A) × At l i x × P x)
      back at_first p = inl p
      back (at_later {x} {i} h) p = inr (i, x, h, p)

-- ---- the numbers below n

abbrev pub all_f : ℕ → (ℕ → Bool) → Bool
all_f zero f = true
all_f (suc n) f = all_f n f && f n

abbrev pub some_f : ℕ → (ℕ → Bool) → Bool
some_f zero f = false
some_f (suc n) f = some_f n f || f n

module _ (P : ℕ → Type 0) (f : ℕ → Bool) (tests : (i : ℕ) → Tests (f i) (P i)) where
  pub is_all : (n : ℕ) → Tests (all_f n f) ((i : ℕ) → i < n → P i)
  is_all zero = is_yes (λ i h. absurd (let z : ⊥ = omega arith in z))
  is_all (suc n) =
      is_as (λ h. last_case P n h.1 h.0) (λ h. (λ i l. h i (let z : i < suc n = omega arith in z), h n (let z : n < suc n = omega arith in z)))
      (is_and (is_all n) (tests n))

  pub is_some : (n : ℕ) → Tests (some_f n f) ((i : ℕ) × (i < n) × P i)
  is_some zero = is_no (λ h. let l = h.1 in let z : ⊥ = omega arith in z)
  is_some (suc n) = is_as to (λ h. back h.0 h.1 h.2) (is_or (is_some n) (tests n))
    where
      to : ((i : ℕ) × (i < n) × P i) ⊎ P n → (i : ℕ) × (i < suc n) × P i
      to (inl h) = (h.0, (let l = h.1 in let z : h.0 < suc n = omega arith in z), h.2)
      to (inr p) = (n, (let z : n < suc n = omega arith in z), p)

      back : (i : ℕ) → i < suc n → P i → ((i : ℕ) × (i < n) × P i) ⊎ P n
      back i l = last_case (λ (j : ℕ). P j → ((i : ℕ) × (i < n) × P i) ⊎ P n) n (λ p. inr p) (λ j k p. inl (j, k, p)) i l
