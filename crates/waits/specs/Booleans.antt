-- Tests over the numbers below n, and what they say.
use Rattle.std.specs.Prelude.{ℕ, zero, suc, ◌+◌, ◌<◌, ◌≡◌, refl, Bool, true, false, ◌&&◌, ◌||◌, ◌⊎◌}
use Rattle.std.proofs.Common.{arith, add-one, not-suc-le-zero, inl, inr, below_more}
use Rattle.paper_expressions.proofs.Laws.Search.{no_clash}
pub use Rattle.paper_rows.proofs.Laws.Booleans.{Tests, is_as, is_and, is_or, is_not, is_if}

unfoldable pub all_f : (ℕ → Bool) → ℕ → Bool
all_f f zero = true
all_f f (suc n) = all_f f n && f n

unfoldable pub any_f : (ℕ → Bool) → ℕ → Bool
any_f f zero = false
any_f f (suc n) = any_f f n || f n

-- shut, or antt would write a test over 32 numbers out
pub all_more : (f : ℕ → Bool) (n : ℕ) → all_f f (n + 1) ≡ (all_f f n && f n)
unfolding all_f
all_more f n = rw (add-one n)

pub any_more : (f : ℕ → Bool) (n : ℕ) → any_f f (n + 1) ≡ (any_f f n || f n)
unfolding any_f
any_more f n = rw (add-one n)

pub all_none : (f : ℕ → Bool) → true ≡ all_f f 0
unfolding all_f
all_none f = refl

pub any_none : (f : ℕ → Bool) → false ≡ any_f f 0
unfolding any_f
any_none f = refl

pub is_all : (f : ℕ → Bool) (P : ℕ → Type 0) (n : ℕ) → ((i : ℕ) → i < n → Tests (f i) (P i)) → Tests (all_f f n) ((i : ℕ) → i < n → P i)
unfolding all_f
is_all f P zero h = (λ e i l. absurd (not-suc-le-zero l), λ k. refl)
is_all f P (suc n) h =
    is_as (λ k. λ i l. last i l k.0 k.1) (λ k. (λ i l. k i (omega arith), k n (omega arith)))
    (is_and (is_all f P n (λ i l. h i (omega arith))) (h n (omega arith)))
  where
    last : (i : ℕ) → i < suc n → ((j : ℕ) → j < n → P j) → P n → P i
    last i l k p = let z : i < n + 1 = omega arith in below_more P n k p i z

pub is_any : (f : ℕ → Bool) (P : ℕ → Type 0) (n : ℕ) → ((i : ℕ) → i < n → Tests (f i) (P i)) → Tests (any_f f n) ((i : ℕ) × (i < n) × P i)
unfolding any_f
is_any f P zero h = (λ e. absurd (no_clash (cc)), λ k. absurd (not-suc-le-zero k.1))
is_any f P (suc n) h = is_as to back (is_or (is_any f P n (λ i l. h i (omega arith))) (h n (omega arith)))
  where
    to : ((i : ℕ) × (i < n) × P i) ⊎ P n → (i : ℕ) × (i < suc n) × P i
    to (inl k) = (k.0, (let l = k.1 in omega arith), k.2)
    to (inr p) = (n, omega arith, p)

    back : (i : ℕ) × (i < suc n) × P i → ((i : ℕ) × (i < n) × P i) ⊎ P n
    back k = let l : k.0 < n + 1 = (let z = k.1 in omega arith) in below_more (λ (i : ℕ). P i → ((i : ℕ) × (i < n) × P i) ⊎ P n) n (λ i m p. inl (i, m, p)) inr k.0 l k.2
