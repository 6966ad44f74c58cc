-- `past`: from every place passed the answer is the same, whatever test the closure makes.
use Rattle.std.proofs.Common.{◌≡◌, ℕ, ◌<◌, Bool}
use Rattle.typed_value.specs.Lexemes.{past}
use Rattle.typed_value.proofs.lexemes.past.Given as goal

abbrev pub invariant-loop-p : goal.invariant-loop-p
invariant-loop-p g l = (p : ℕ → Bool) → ((b : ℕ) (r : Bool) → b < 256 → goal.F-post g l.passes b r → r ≡ p b) → past p l.s l.at ≡ past p l.s l.p
