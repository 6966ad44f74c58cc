-- `pick`: a number of at least 1 counts from 0 one less.
use Rattle.std.proofs.Common.{◌≡◌, false, ◌-◌, ℤ, pos, nat_abs, ap, arith, rules, w32}
use Rattle.std.specs.Int.Signed.{lt_z}
use mir.Val.{SFits}
use mir.Facts.{to_z-of_z}
use Rattle.sequences.proofs.Picks.{picked}
use Rattle.sequences.proofs.counting.pick.Goals as goal

pub returns-then-i-size : goal.returns-then-i-size
returns-then-i-size c = λ bs.
    let z = c.args.n.z in
    let f : SFits w32 z = search rules in
    let e : lt_z z (pos 1) ≡ false = simp (to_z-of_z f) at c.if-n-lt1.false in
    picked bs c.args.l z e (ap (λ (y : ℤ). nat_abs y - 1) (to_z-of_z f)) (omega arith) c.get.ensures
