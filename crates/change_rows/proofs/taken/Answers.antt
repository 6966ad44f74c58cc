-- `taken`: no row at first, then one more each time.
use Rattle.std.proofs.Common.{ℕ, refl, arith}
use Rattle.std.proofs.lemmas.List.{length-replicate}
use Rattle.change_rows.specs.Numbers.{taken_none, taken_more}
use Rattle.change_rows.proofs.taken.Goals as goal

pub loop-i-init : goal.loop-i-init
loop-i-init c = taken_none _ _ (length-replicate {A = ℕ} 2304 0)

pub loop-i-preserved : goal.loop-i-preserved
loop-i-preserved c = taken_more _ _ _ _ _ (omega arith) refl c.write.ensures c.loop-i.invariant
