-- The measure of `number` is the number.
use Rattle.digits.proofs.decimal.+number.Given as goal

abbrev pub decreases-number : goal.decreases-number
decreases-number l = l.n
