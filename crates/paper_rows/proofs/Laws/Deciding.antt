-- Decisions put together from decisions, over lists and numbers too.
use Rattle.std.specs.Prelude.{ℕ, zero, suc, ◌<◌, ◌≤◌, ◌⊎◌, List, [], ◌∷◌}
use Rattle.std.proofs.Common.{arith, inl, inr}
use Rattle.paper_expressions.proofs.Laws.Search.{last_case}
use Rattle.paper_expressions.specs.View.{At, at_first, at_later}

-- ---- of two

pub both? : {P Q : Type 0} → Dec P → Dec Q → Dec (P × Q)
both? (yes p) (yes q) = yes (p, q)
both? (yes p) (no n) = no (λ h. n h.1)
both? (no n) q = no (λ h. n h.0)

pub neither : {P Q : Type 0} → ¬ P → ¬ Q → ¬ (P ⊎ Q)
neither n m (inl p) = n p
neither n m (inr q) = m q

pub either? : {P Q : Type 0} → Dec P → Dec Q → Dec (P ⊎ Q)
either? (yes p) q = yes (inl p)
either? (no n) (yes q) = yes (inr q)
either? (no n) (no m) = no (neither n m)

pub if? : {P Q : Type 0} → Dec P → Dec Q → Dec (P → Q)
if? (no n) q = yes (λ p. absurd (n p))
if? (yes p) (yes q) = yes (λ h. q)
if? (yes p) (no n) = no (λ f. n (f p))

pub not? : {P : Type 0} → Dec P → Dec (¬ P)
not? (yes p) = no (λ n. n p)
not? (no n) = yes n

pub as? : {P Q : Type 0} → (P → Q) → (Q → P) → Dec P → Dec Q
as? f g (yes p) = yes (f p)
as? f g (no n) = no (λ q. n (g q))

-- ---- of the elements of a list

module _ {A : Type 0} (P : A → Type 0) where
  abbrev pub Every : List A → Type 0
  Every l = (i : ℕ) (x : A) → At l i x → P x

  abbrev pub Some : List A → Type 0
  Some l = (i : ℕ) × (x : A) × At l i x × P x

  every_more : {a : A} {l : List A} → P a → ((i : ℕ) (x : A) → At l i x → P x) → (i : ℕ) (x : A) → At (a ∷ l) i x → P x
  every_more p f i x at_first = p
  every_more p f i x (at_later {i = j} h) = f j x h

  some_cases : {a : A} {l : List A} → ¬ P a → ¬ ((i : ℕ) × (x : A) × At l i x × P x) → {i : ℕ} {x : A} → At (a ∷ l) i x → ¬ P x
  some_cases n m at_first = n
  some_cases n m (at_later {i = j} h) = λ p. m (j, _, h, p)

  pub every? : ((x : A) → Dec (P x)) → (l : List A) → Dec (Every l)
  every? d [] = yes (λ i x h. absurd (elim h [ ]))
  every? d (a ∷ l) = go (d a) (every? d l)
    where
      go : Dec (P a) → Dec ((i : ℕ) (x : A) → At l i x → P x) → Dec ((i : ℕ) (x : A) → At (a ∷ l) i x → P x)
      go (yes p) (yes f) = yes (every_more p f)
      go (yes p) (no n) = no (λ f. n (λ i x h. f (suc i) x (at_later h)))
      go (no n) f = no (λ g. n (g 0 a at_first))

  pub some? : ((x : A) → Dec (P x)) → (l : List A) → Dec (Some l)
  some? d [] = no (λ h. let k = h.2 in absurd (elim k [ ]))
  some? d (a ∷ l) = go (d a) (some? d l)
    where
      go : Dec (P a) → Dec ((i : ℕ) × (x : A) × At l i x × P x) → Dec ((i : ℕ) × (x : A) × At (a ∷ l) i x × P x)
      go (yes p) f = yes (0, a, at_first, p)
      go (no n) (yes h) = yes (suc h.0, h.1, at_later h.2, h.3)
      go (no n) (no m) = no (λ h. some_cases n m h.2 h.3)

-- ---- of the numbers below n

module _ (P : ℕ → Type 0) where
  pub below-every? : ((i : ℕ) → Dec (P i)) → (n : ℕ) → Dec ((i : ℕ) → i < n → P i)
  below-every? d zero = yes (λ i h. absurd (let z : ⊥ = omega arith in z))
  below-every? d (suc n) = go (d n) (below-every? d n)
    where
      go : Dec (P n) → Dec ((i : ℕ) → i < n → P i) → Dec ((i : ℕ) → i < suc n → P i)
      go (yes p) (yes f) = yes (last_case P n p f)
      go (yes p) (no m) = no (λ f. m (λ i h. f i (let z : i < suc n = omega arith in z)))
      go (no m) f = no (λ g. m (g n (let z : n < suc n = omega arith in z)))

  pub below-some? : ((i : ℕ) → Dec (P i)) → (n : ℕ) → Dec ((i : ℕ) × (i < n) × P i)
  below-some? d n = go (below_every_not n)
    where
      below_every_not : (n : ℕ) → ((i : ℕ) × (i < n) × P i) ⊎ ((i : ℕ) → i < n → ¬ P i)
      below_every_not zero = inr (λ i h. absurd (let z : ⊥ = omega arith in z))
      below_every_not (suc n) = step (d n) (below_every_not n)
        where
          step : Dec (P n) → ((i : ℕ) × (i < n) × P i) ⊎ ((i : ℕ) → i < n → ¬ P i) → ((i : ℕ) × (i < suc n) × P i) ⊎ ((i : ℕ) → i < suc n → ¬ P i)
          step (yes p) f = inl (n, (let z : n < suc n = omega arith in z), p)
          step (no m) (inl h) = inl (h.0, (let k = h.1 in let z : h.0 < suc n = omega arith in z), h.2)
          step (no m) (inr f) = inr (last_case (λ (i : ℕ). ¬ P i) n m f)

      go : ((i : ℕ) × (i < n) × P i) ⊎ ((i : ℕ) → i < n → ¬ P i) → Dec ((i : ℕ) × (i < n) × P i)
      go (inl h) = yes h
      go (inr f) = no (λ h. f h.0 h.1 h.2)
