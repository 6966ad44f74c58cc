-- Lists by number: what stands at a place of joined, mapped and gathered lists.
use Rattle.std.specs.Prelude.{ℕ, zero, suc, ◌+◌, ◌<◌, ◌≤◌, ◌≡◌, refl, ◌↔◌, ◌⊎◌, List, [], ◌∷◌, ◌++◌, map, length}
use Rattle.std.proofs.Common.{arith, sym, ap, subst, ◌∙◌, inl, inr}
use Rattle.paper_expressions.proofs.Laws.Search.{at_one}
use Rattle.paper_expressions.specs.View.{At, at_first, at_later}
pub use Rattle.paper_guideline.specs.Parts.{each}

pub no_element : {A : Type 0} {i : ℕ} {x : A} → ¬ At [] i x
no_element h = elim h [ ]

pub dropped : {A : Type 0} {x y : A} {l : List A} {i : ℕ} → At (y ∷ l) (suc i) x → At l i x
dropped (at_later h) = h

pub at_below : {A : Type 0} {l : List A} {i : ℕ} {x : A} → At l i x → i < length l
at_below at_first = omega arith
at_below (at_later h) = let k = at_below h in omega arith

pub below_at : {A : Type 0} (l : List A) (i : ℕ) → i < length l → (x : A) × At l i x
below_at [] i h = absurd (let z : ⊥ = omega arith in z)
below_at (x ∷ l) zero h = (x, at_first)
below_at (x ∷ l) (suc i) h = let k = below_at l i (let z : i < length l = omega arith in z) in (k.0, at_later k.1)

pub at_most : {i j : ℕ} → ¬ (i < j) → ¬ (j < i) → i ≡ j
at_most n m = omega arith

pub same_lists : {A : Type 0} (a b : List A) → ((i : ℕ) (x : A) → At a i x ↔ At b i x) → a ≡ b
same_lists [] [] f = refl
same_lists [] (y ∷ b) f = absurd (no_element ((f 0 y).1 at_first))
same_lists (x ∷ a) [] f = absurd (no_element ((f 0 x).0 at_first))
same_lists (x ∷ a) (y ∷ b) f =
    let e : x ≡ y = at_one ((f 0 x).0 at_first) at_first in
    let k = same_lists a b (λ i z. (λ h. dropped ((f (suc i) z).0 (at_later h)), λ h. dropped ((f (suc i) z).1 (at_later h)))) in
    cc

-- ---- joined

pub at_left : {A : Type 0} {l : List A} {i : ℕ} {x : A} (m : List A) → At l i x → At (l ++ m) i x
at_left m at_first = at_first
at_left m (at_later h) = at_later (at_left m h)

pub at_right : {A : Type 0} (l : List A) {m : List A} {i : ℕ} {x : A} → At m i x → At (l ++ m) (length l + i) x
at_right {A} [] {m} {i} {x} h = subst (λ (n : ℕ). At m n x) (let z : i ≡ 0 + i = omega arith in z) h
at_right {A} (y ∷ l) {m} {i} {x} h = subst (λ (n : ℕ). At (y ∷ (l ++ m)) n x) (let z : suc (length l + i) ≡ suc (length l) + i = omega arith in z) (at_later (at_right l h))

pub parted : {A : Type 0} (l : List A) {m : List A} {i : ℕ} {x : A} → At (l ++ m) i x → ((j : ℕ) × At l j x) ⊎ ((j : ℕ) × At m j x)
parted [] {i} h = inr (i, h)
parted (y ∷ l) at_first = inl (0, at_first)
parted (y ∷ l) (at_later h) = go (parted l h)
  where
    go : {A : Type 0} {y : A} {l m : List A} {x : A} → ((j : ℕ) × At l j x) ⊎ ((j : ℕ) × At m j x) → ((j : ℕ) × At (y ∷ l) j x) ⊎ ((j : ℕ) × At m j x)
    go (inl k) = inl (suc k.0, at_later k.1)
    go (inr k) = inr k

-- ---- mapped

pub at_map : {A B : Type 0} (f : A → B) {l : List A} {i : ℕ} {x : A} → At l i x → At (map f l) i (f x)
at_map f at_first = at_first
at_map f (at_later h) = at_later (at_map f h)

pub map_at : {A B : Type 0} (f : A → B) (l : List A) {i : ℕ} {y : B} → At (map f l) i y → (x : A) × At l i x × (f x ≡ y)
map_at f [] h = absurd (no_element h)
map_at f (x ∷ l) at_first = (x, at_first, refl)
map_at f (z ∷ l) (at_later h) = let k = map_at f l h in (k.0, at_later k.1, k.2)

-- element by element, by number
abbrev pub indexed : {A B : Type 0} → (ℕ → A → B) → List A → List B
indexed f [] = []
indexed f (x ∷ l) = f 0 x ∷ indexed (λ i. f (suc i)) l

pub indexed_at : {A B : Type 0} (f : ℕ → A → B) {l : List A} {i : ℕ} {x : A} → At l i x → At (indexed f l) i (f i x)
indexed_at f at_first = at_first
indexed_at f (at_later h) = at_later (indexed_at (λ i. f (suc i)) h)

pub at_indexed : {A B : Type 0} (f : ℕ → A → B) (l : List A) {i : ℕ} {y : B} → At (indexed f l) i y → (x : A) × At l i x × (f i x ≡ y)
at_indexed f [] h = absurd (no_element h)
at_indexed f (x ∷ l) at_first = (x, at_first, refl)
at_indexed f (z ∷ l) (at_later h) = let k = at_indexed (λ i. f (suc i)) l h in (k.0, at_later k.1, k.2)

-- ---- gathered: what each element gives

-- where the elements of f of the i-th begin
abbrev pub before : {A B : Type 0} → (A → List B) → ℕ → List A → ℕ
before f zero l = 0
before f (suc i) [] = 0
before f (suc i) (a ∷ l) = length (f a) + before f i l

pub before_at : {A B : Type 0} (f : A → List B) {l : List A} {i k : ℕ} {a : A} {b : B} → At l i a → At (f a) k b → At (each f l) (before f i l + k) b
before_at f {k} {b} (at_first {x} {l}) q = subst (λ (n : ℕ). At (f x ++ each f l) n b) (let z : k ≡ 0 + k = omega arith in z) (at_left (each f l) q)
before_at f {k} {b} (at_later {y} {l} {i} h) q =
    subst (λ (n : ℕ). At (f y ++ each f l) n b) (let z : length (f y) + (before f i l + k) ≡ (length (f y) + before f i l) + k = omega arith in z) (at_right (f y) (before_at f h q))

pub each_at : {A B : Type 0} (f : A → List B) {l : List A} {i j : ℕ} {a : A} {b : B} → At l i a → At (f a) j b → (m : ℕ) × At (each f l) m b
each_at f h k = (_, before_at f h k)

pub at_each : {A B : Type 0} (f : A → List B) (l : List A) {m : ℕ} {b : B} → At (each f l) m b → (i : ℕ) × (j : ℕ) × (a : A) × At l i a × At (f a) j b
at_each f [] h = absurd (no_element h)
at_each {A} {B} f (a ∷ l) {m} {b} h = go (parted (f a) h) (λ j q. at_each f l {m = j} q)
  where
    go : ((j : ℕ) × At (f a) j b) ⊎ ((j : ℕ) × At (each f l) j b) → ((j : ℕ) → At (each f l) j b → (i : ℕ) × (n : ℕ) × (x : A) × At l i x × At (f x) n b)
        → (i : ℕ) × (j : ℕ) × (x : A) × At (a ∷ l) i x × At (f x) j b
    go (inl k) r = (0, k.0, a, at_first, k.1)
    go (inr k) r = let q = r k.0 k.1 in (suc q.0, q.1, q.2, at_later q.3, q.4)
