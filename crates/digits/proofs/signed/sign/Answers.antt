-- `sign`: what is not below zero has none.
use Rattle.std.proofs.Common.{rules, w32}
use mir.Val.{SFits}
use mir.Facts.{to_z-of_z}
use Rattle.digits.specs.AppendsLaws.{append_nothing, appends_as}
use Rattle.digits.proofs.Z.{no_minus}
use Rattle.digits.proofs.signed.sign.Goals as goal

pub returns-else-n-lt0 : goal.returns-else-n-lt0
returns-else-n-lt0 c =
    let z = c.args.n.z in
    let f : SFits w32 z = search rules in
    appends_as (no_minus z (simp (to_z-of_z f) at c.if-n-lt0.false)) (append_nothing _ _)
