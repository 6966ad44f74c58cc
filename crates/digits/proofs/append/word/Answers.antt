-- `word`: one byte more at each turn.
use Rattle.std.proofs.Common.{length, ◌<◌, add-one, arith}
use Rattle.std.proofs.Math.Seq.{take-suc}
use Rattle.digits.specs.AppendsLaws.{append_nothing, append_then}
use Rattle.digits.proofs.append.word.Goals as goal

pub loop-b-init : goal.loop-b-init
loop-b-init c = append_nothing _ _

pub loop-b-preserved : goal.loop-b-preserved
loop-b-preserved c =
    let w = c.args.w.now in
    let i = c.loop-b.b-index in
    let more : i < length w = omega arith in
    rw (add-one, take-suc w i 0) (append_then c.loop-b.invariant c.byte-p.ensures)
