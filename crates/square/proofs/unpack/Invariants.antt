-- `unpack`: by the rows passed.
use Rattle.std.specs.Prelude.{ℕ, ◌*◌, ◌≡◌, [], length}
use Rattle.square.specs.Square.{row_of, Upto}
use Rattle.square.proofs.unpack.Given as goal

abbrev pub invariant-loop-i : goal.invariant-loop-i
invariant-loop-i l = record { long : length l.marks-items ≡ 32; passed : Upto (λ (k : ℕ). row_of l.bytes (32 * k)) [] l.i l.marks-items }
