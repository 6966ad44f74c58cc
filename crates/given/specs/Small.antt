-- When a text that a caller gives is within the limits, by its bytes.
use Rattle.std.specs.Prelude.{ℕ, zero, suc, ◌+◌, ◌<◌, ◌≤◌, ◌≡◌, refl, true, false, List, [], ◌∷◌, get_or, length}
use Rattle.std.proofs.Common.{arith, not-suc-le-zero, below_more}
use Rattle.paper_expressions.proofs.Laws.Tests.{contra}
use Rattle.paper_expressions.specs.View.{At, at_first, at_later}
use Rattle.paper_rows.proofs.Laws.Lists.{at_below}
use Rattle.paper_calls.specs.Calls.{SmallText}
use Rattle.parts.specs.Texts.{cells}
use Rattle.blocks.specs.Blocks.{cells_long, cells_at}
use Rattle.waits.specs.Booleans.{Tests}

pub at_is : {s : List ℕ} {i b : ℕ} → At s i b → get_or s i 0 ≡ b
at_is at_first = refl
at_is (at_later h) = at_is h

pub at_place : (s : List ℕ) (i : ℕ) → i < length s → At s i (get_or s i 0)
at_place [] i l = absurd (not-suc-le-zero l)
at_place (b ∷ s) zero l = at_first
at_place (b ∷ s) (suc i) l = at_later (at_place s i (omega arith))

-- the first k bytes from p on are not over 127
abbrev pub Ascii : List ℕ → ℕ → ℕ → Type 0
Ascii b p k = (j : ℕ) → j < k → get_or b (p + j) 0 ≤ 127

pub ascii_more : (b : List ℕ) (p k : ℕ) {x : ℕ} → x ≡ get_or b (p + k) 0 → ¬ (127 < x) → Ascii b p k → Ascii b p (k + 1)
ascii_more b p k e n h = below_more (λ (j : ℕ). get_or b (p + j) 0 ≤ 127) k h (omega arith)

pub long_text : (b : List ℕ) (p n : ℕ) → 48 < n → Tests false (SmallText (cells b p n))
long_text b p n l = (λ z. contra z, λ h. absurd (let a = h.short in let e = cells_long b p n in let z : ⊥ = omega arith in z))

pub odd_text : (b : List ℕ) (p n k : ℕ) {x : ℕ} → k < n → x ≡ get_or b (p + k) 0 → 127 < x → Tests false (SmallText (cells b p n))
odd_text b p n k {x} l e m = (λ z. contra z, λ h. absurd (let i = cells_long b p n in let a = h.ascii (at_place (cells b p n) k (omega arith)) in let c = cells_at b p n k l in let z : ⊥ = omega arith in z))

pub small_text : (b : List ℕ) (p n k : ℕ) → ¬ (48 < n) → n ≤ k → Ascii b p k → Tests true (SmallText (cells b p n))
small_text b p n k l m h =
    (λ z. record { short = (let e = cells_long b p n in omega arith); ascii = λ {i} {b = c} q. (let e = cells_long b p n in let y = at_below q in let u = at_is q in let v = cells_at b p n i (omega arith) in let g = h i (omega arith) in omega arith) }, λ z. refl)
