-- How one number stands for a text or for a literal: a handle into the text bytes, and a number moved up by the limit of reals.
-- With the laws that each text and each literal within the limits has such a number.
use Rattle.std.specs.Prelude.{◌≡◌, refl, List, [], ◌∷◌, ℕ, zero, suc, ◌+◌, ◌*◌, ◌/◌, ◌%◌, ◌≤◌, ◌<◌, ℤ, pos, negsuc, nat_abs, ◌+ℤ◌, ◌-ℤ◌, get_or}
use Rattle.std.proofs.Common.{ap, ◌∙◌, arith, le-ltb}
use Rattle.std.proofs.Math.IntN.{+ℤ-neg_ℤ_cancel}
use Rattle.paper_expressions.specs.Limits.{real_limit}

-- ---- texts

-- n bytes from the place o on; a byte past the end is 0
abbrev pub cells : List ℕ → ℕ → ℕ → List ℕ
cells b o zero = []
cells b o (suc n) = get_or b o 0 ∷ cells b (suc o) n

-- the handle of n bytes from the place o on: a text has fewer than 64
abbrev pub handle : ℕ → ℕ → ℕ
handle o n = o * 64 + n

-- the text with the handle h
abbrev pub text_at_fn : List ℕ → ℕ → List ℕ
text_at_fn b h = cells b (h / 64) (h % 64)

pub handle_place : (o n : ℕ) → n < 64 → handle o n / 64 ≡ o
handle_place o n h = omega arith

pub handle_extent : (o n : ℕ) → n < 64 → handle o n % 64 ≡ n
handle_extent o n h = omega arith

pub text_of : (b : List ℕ) (o n : ℕ) → n < 64 → text_at_fn b (handle o n) ≡ cells b o n
text_of b o n h = rw (handle_place o n h, handle_extent o n h)

-- ---- literals

-- the literal of the number x: an integer, or a float in thousandths
abbrev pub literal : ℕ → ℤ
literal x = pos x -ℤ pos real_limit

-- the number of a literal
abbrev pub moved : ℤ → ℕ
moved z = nat_abs (z +ℤ pos real_limit)

moved_up : (z : ℤ) → nat_abs z ≤ real_limit → pos (moved z) ≡ z +ℤ pos real_limit
moved_up (pos n) h = refl
moved_up (negsuc n) h = rw (le-ltb real_limit (suc n) h)

pub literal_moved : (z : ℤ) → nat_abs z ≤ real_limit → literal (moved z) ≡ z
literal_moved z h = ap (λ (w : ℤ). w -ℤ pos real_limit) (moved_up z h) ∙ +ℤ-neg_ℤ_cancel z (pos real_limit)
