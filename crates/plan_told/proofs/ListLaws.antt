-- Lists gathered from lists: how the numbers before each element rise, and numbered lists. By induction on the list.
use Rattle.std.specs.Prelude.{ℕ, zero, suc, ◌+◌, ◌<◌, ◌≤◌, ◌≡◌, refl, ◌⊎◌, List, [], ◌∷◌, ◌++◌, length}
use Rattle.std.proofs.Common.{arith, ap, subst, ◌∙◌, inl, inr, length-append}
use Rattle.paper_expressions.specs.View.{At, at_first, at_later}
use Rattle.paper_guideline.specs.Structure.{Task}
use Rattle.paper_guideline.specs.Parts.{Source, sources_of}
use Rattle.paper_rows.specs.Table.{source, Component, ◌№◌}
use Rattle.paper_rows.specs.Load.{sources_before, numbered}
use Rattle.paper_rows.proofs.Laws.Lists.{no_element, each, before, indexed}

pub before_less : {A B : Type 0} (f : A → List B) {l : List A} {i j : ℕ} {a x : A} → At l i a → At l j x → i < j → before f i l + length (f a) ≤ before f j l
before_less f at_first at_first h = absurd (let z : ⊥ = omega arith in z)
before_less f (at_first {x} {l}) (at_later {i = j} k) h = let z : 0 + length (f x) ≤ length (f x) + before f j l = omega arith in z
before_less f (at_later g) at_first h = absurd (let z : ⊥ = omega arith in z)
before_less f (at_later {y} {i} g) (at_later {i = j} k) h = omega (arith, before_less f g k (let z : i < j = omega arith in z))

pub before_fits : {A B : Type 0} (f : A → List B) {l : List A} {i : ℕ} {a : A} → At l i a → before f i l + length (f a) ≤ length (each f l)
before_fits f (at_first {x} {l}) = let z : 0 + length (f x) ≤ length (f x ++ each f l) = omega (arith, length-append (f x) (each f l)) in z
before_fits f (at_later {y} {l} h) = omega (arith, before_fits f h, length-append (f y) (each f l))

-- the last one's end the whole
pub before_last : {A B : Type 0} (f : A → List B) {l : List A} {i : ℕ} {a : A} → At l i a → suc i ≡ length l → before f i l + length (f a) ≡ length (each f l)
before_last f (at_first {x} {l = []}) e = let z : 0 + length (f x) ≡ length (f x ++ []) = omega (arith, length-append (f x) []) in z
before_last f (at_first {x} {l = y ∷ l}) e = absurd (omega arith)
before_last f (at_later {y} {l} h) e = omega (arith, before_last f h (omega arith), length-append (f y) (each f l))

-- where an element comes from, with its number
at_parts : {A : Type 0} (xs : List A) {ys : List A} {m : ℕ} {x : A} → At (xs ++ ys) m x → At xs m x ⊎ ((j : ℕ) × At ys j x × (m ≡ length xs + j))
at_parts [] {m = m} h = inr (m, h, omega arith)
at_parts (y ∷ xs) at_first = inl at_first
at_parts (y ∷ xs) (at_later h) = go (at_parts xs h)
  where
    go : {A : Type 0} {y : A} {xs ys : List A} {m : ℕ} {x : A} → At xs m x ⊎ ((j : ℕ) × At ys j x × (m ≡ length xs + j)) → At (y ∷ xs) (suc m) x ⊎ ((j : ℕ) × At ys j x × (suc m ≡ suc (length xs) + j))
    go (inl k) = inl (at_later k)
    go (inr k) = inr (k.0, k.1, (let e = k.2 in omega arith))

pub from_each : {A B : Type 0} (f : A → List B) (l : List A) {m : ℕ} {b : B} → At (each f l) m b → (i : ℕ) × (k : ℕ) × (a : A) × At l i a × At (f a) k b × (m ≡ before f i l + k)
from_each f [] h = absurd (no_element h)
from_each {A} {B} f (a ∷ l) {m} {b} h = go (at_parts (f a) h) (λ j q. from_each f l {m = j} q)
  where
    go : At (f a) m b ⊎ ((j : ℕ) × At (each f l) j b × (m ≡ length (f a) + j)) → ((j : ℕ) → At (each f l) j b → (i : ℕ) × (k : ℕ) × (x : A) × At l i x × At (f x) k b × (j ≡ before f i l + k))
        → (i : ℕ) × (k : ℕ) × (x : A) × At (a ∷ l) i x × At (f x) k b × (m ≡ before f i (a ∷ l) + k)
    go (inl k) r = (0, m, a, at_first, k, omega arith)
    go (inr k) r = let q = r k.0 k.1 in
        (suc q.0, q.1, q.2, at_later q.3, q.4, (let e = k.2 in let d = q.5 in let z : m ≡ (length (f a) + before f q.0 l) + q.1 = omega arith in z))

pub counted : (c : ℕ) (l : List Task) → before sources_of c l ≡ sources_before c l
counted zero l = refl
counted (suc c) [] = refl
counted (suc c) (t ∷ l) = ap (λ (x : ℕ). length (sources_of t) + x) (counted c l)

pub indexed_long : {A B : Type 0} (f : ℕ → A → B) (l : List A) → length (indexed f l) ≡ length l
indexed_long f [] = refl
indexed_long f (x ∷ l) = ap suc (indexed_long (λ i. f (suc i)) l)

-- ---- the sequence of the sources of one task

pub numbered_at : (n : ℕ) (l : List Source) {i : ℕ} {c : Component} → At (numbered n l) i c → (i < length l) × (c ≡ source № (n + i))
numbered_at n [] h = absurd (no_element h)
numbered_at n (s ∷ l) at_first = (omega arith, ap (λ (m : ℕ). source № m) {x = n} {y = n + 0} (omega arith))
numbered_at n (s ∷ l) (at_later {i = i} h) = let k = numbered_at (suc n) l h in (let z = k.0 in omega arith, k.1 ∙ ap (λ (m : ℕ). source № m) {x = suc n + i} {y = n + suc i} (omega arith))

pub at_numbered : (n : ℕ) (l : List Source) (i : ℕ) → i < length l → At (numbered n l) i (source № (n + i))
at_numbered n [] i h = absurd (let z : ⊥ = omega arith in z)
at_numbered n (s ∷ l) zero h = subst (λ (m : ℕ). At (source № n ∷ numbered (suc n) l) 0 (source № m)) {x = n} {y = n + 0} (omega arith) at_first
at_numbered n (s ∷ l) (suc i) h =
    subst (λ (m : ℕ). At (source № n ∷ numbered (suc n) l) (suc i) (source № m)) {x = suc n + i} {y = n + suc i} (omega arith)
    (at_later (at_numbered (suc n) l i (omega arith)))
