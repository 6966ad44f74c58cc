-- A number of a list: itself where it is one of them, or else the last. Law: a function by cases is that, by a test at each of the numbers and a
-- law for what stands behind them.
use Rattle.std.specs.Prelude.{ℕ, zero, suc, ◌≤◌, ◌<◌, ◌≡◌, refl, Bool, true, false, cond, ◌&&◌, eqb, ltb}
use Rattle.std.proofs.Common.{arith, not-suc-le-zero, sym, subst, ⊎_elim, eqb→eq, eqb-true, ltb-true, ltb-false, ne_eqb}
use Rattle.paper_expressions.proofs.Laws.Tests.{two, and_l, and_r}
use Rattle.paper_calls.specs.Numbers.{state_number, class_number, type_number}
use Rattle.state.specs.Cell.{state_of}
use Rattle.row_shown.specs.Shown.{class_of, type_of, kind-of}
use Rattle.row_numbers.specs.Told.{kind_number}

abbrev pub one_of : ℕ → ℕ → ℕ → ℕ
one_of first last n = cond (ltb last n) last (cond (ltb n first) last n)

-- two functions agree below n
abbrev agree : (ℕ → ℕ) → (ℕ → ℕ) → ℕ → Bool
agree f g zero = true
agree f g (suc n) = eqb (f n) (g n) && agree f g n

agree_at : (f g : ℕ → ℕ) (n i : ℕ) → agree f g n ≡ true → i < n → f i ≡ g i
agree_at f g zero i t h = absurd (not-suc-le-zero h)
agree_at f g (suc n) i t h = ⊎_elim
    (λ (l : ltb i n ≡ true). agree_at f g n i (and_r (eqb (f n) (g n)) (agree f g n) t) (ltb-true i n l))
    (λ (l : ltb i n ≡ false).
    let z = ltb-false i n l in
    let e : n ≡ i = omega arith in
    subst (λ (j : ℕ). f j ≡ g j) e (eqb-true (f n) (g n) (and_l (eqb (f n) (g n)) (agree f g n) t)))
    (two (ltb i n))

by_cases : (f : ℕ → ℕ) (first last : ℕ) → agree (one_of first last) f (suc last) ≡ true → ((n : ℕ) → last < n → f n ≡ last) → (n : ℕ) → one_of first last n ≡ f n
by_cases f first last t beyond n = ⊎_elim
    (λ (e : ltb last n ≡ true). rw e (sym (beyond n (ltb-true last n e))))
    (λ (e : ltb last n ≡ false). let z = ltb-false last n e in agree_at (one_of first last) f (suc last) n t (omega arith))
    (two (ltb last n))

pub state_is : (n : ℕ) → one_of 1 4 n ≡ state_number (state_of n)
state_is = by_cases (λ (n : ℕ). state_number (state_of n)) 1 4 refl
    (λ n h. rw (ne_eqb n 1 (λ e. omega arith), ne_eqb n 2 (λ e. omega arith), ne_eqb n 3 (λ e. omega arith)))

pub class_is : (n : ℕ) → one_of 1 10 n ≡ class_number (class_of n)
class_is = by_cases (λ (n : ℕ). class_number (class_of n)) 1 10 refl
    (λ n h. rw (ne_eqb n 1 (λ e. omega arith), ne_eqb n 2 (λ e. omega arith), ne_eqb n 3 (λ e. omega arith), ne_eqb n 4 (λ e. omega arith), ne_eqb n 5 (λ e. omega arith), ne_eqb n 6 (λ e. omega arith), ne_eqb n 7 (λ e. omega arith), ne_eqb n 8 (λ e. omega arith), ne_eqb n 9 (λ e. omega arith)))

pub type_is : (n : ℕ) → one_of 1 10 n ≡ type_number (type_of n)
type_is = by_cases (λ (n : ℕ). type_number (type_of n)) 1 10 refl
    (λ n h. rw (ne_eqb n 1 (λ e. omega arith), ne_eqb n 2 (λ e. omega arith), ne_eqb n 3 (λ e. omega arith), ne_eqb n 4 (λ e. omega arith), ne_eqb n 5 (λ e. omega arith), ne_eqb n 6 (λ e. omega arith), ne_eqb n 7 (λ e. omega arith), ne_eqb n 8 (λ e. omega arith), ne_eqb n 9 (λ e. omega arith)))

pub kind_is : (n : ℕ) → one_of 0 6 n ≡ kind_number (kind-of n)
kind_is = by_cases (λ (n : ℕ). kind_number (kind-of n)) 0 6 refl
    (λ n h. rw (ne_eqb n 0 (λ e. omega arith), ne_eqb n 1 (λ e. omega arith), ne_eqb n 2 (λ e. omega arith), ne_eqb n 3 (λ e. omega arith), ne_eqb n 4 (λ e. omega arith), ne_eqb n 5 (λ e. omega arith)))
