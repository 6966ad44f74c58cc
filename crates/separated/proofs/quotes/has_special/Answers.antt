-- `has_special`: by the laws of one byte more.
use Rattle.std.proofs.Common.{◌<◌, length, take, get_or, sym, ◌∙◌, add-one, arith}
use Rattle.std.proofs.Math.Seq.{take-suc, take_all}
use Rattle.separated.specs.QuotesLaws.{none_yet, none_more, special_at}
use Rattle.separated.proofs.quotes.has_special.Goals as goal

pub loop-b-init : goal.loop-b-init
loop-b-init c = none_yet c.args.separator c.args.field.now

pub loop-b-preserved : goal.loop-b-preserved
loop-b-preserved c =
    let l = c.loop-b in
    let w = c.args.field.now in
    let more : l.b-index < length w = omega arith in
    rw (add-one, take-suc w l.b-index 0) (none_more c.args.separator (take l.b-index w) (get_or w l.b-index 0) l.invariant (sym c.special.ensures ∙ c.if-special.false))

pub returns-then-special : goal.returns-then-special
returns-then-special c = sym (special_at c.args.separator c.args.field.now c.loop-b.b-index (omega arith) (sym c.special.ensures ∙ c.if-special.true))

pub returns : goal.returns
returns c = sym (rw (take_all c.loop-b.b-index c.args.field.now (omega arith)) at c.loop-b.invariant)
