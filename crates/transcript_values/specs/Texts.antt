-- The hexadecimal digits of a text that are left: all at first, and those of one byte less at each step.
use Rattle.std.specs.Prelude.{ℕ, ◌+◌, ◌-◌, ◌<◌, ◌≡◌, refl, List, [], ◌++◌, get_or}
use Rattle.std.proofs.Common.{ap}
use Rattle.parts.specs.Texts.{cells}
use Rattle.written.specs.Texts.{one_less}
use Rattle.transcript_values.specs.Literals.{in_hex, all_hex}

pub hex_less : (b : List ℕ) (x n i : ℕ) {c : ℕ} → i < n → c ≡ get_or b (x + i) 0 → all_hex (cells b (x + i) (n - i)) ≡ in_hex c ++ all_hex (cells b (x + (i + 1)) (n - (i + 1)))
unfolding all_hex
hex_less b x n i l e = ap all_hex (one_less b x n i l e)

pub hex_none : all_hex [] ≡ []
unfolding all_hex
hex_none = refl
