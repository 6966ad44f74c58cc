-- `doubled`: one byte more.
use Rattle.std.proofs.Common.{◌<◌, length, take, get_or, add-one, arith}
use Rattle.std.proofs.Math.Seq.{take-suc, take_all}
use Rattle.digits.specs.AppendsLaws.{append_nothing, append_then, appends_as}
use Rattle.separated.specs.QuotesLaws.{doubled_none, doubled_more}
use Rattle.separated.proofs.quotes.doubled.Goals as goal

pub loop-b-init : goal.loop-b-init
loop-b-init c = appends_as (doubled_none c.args.field.now) (append_nothing _ _)

pub loop-b-preserved : goal.loop-b-preserved
loop-b-preserved c =
    let l = c.loop-b in
    let w = c.args.field.now in
    let more : l.b-index < length w = omega arith in
    rw (add-one, take-suc w l.b-index 0) (appends_as (doubled_more (take l.b-index w) (get_or w l.b-index 0)) (append_then l.invariant c.escaped-p.ensures))

pub returns : goal.returns
returns c = rw (take_all c.loop-b.b-index c.args.field.now (omega arith)) at c.loop-b.invariant
