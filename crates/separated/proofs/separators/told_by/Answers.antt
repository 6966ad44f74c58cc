-- `told_by`: by the laws of a byte that tells the separator, of one that does not, and of no byte more.
use Rattle.std.proofs.Common.{◌≡◌, refl, ◌≤◌, length, drop, sym, ◌∙◌, arith, drop_of_length-le}
use Rattle.separated.specs.Records.{told_from}
use Rattle.separated.specs.RecordsLaws.{told_passed, told_here, told_never}
use Rattle.separated.proofs.separators.told_by.Goals as goal

pub returns-in-Some : goal.returns-in-Some
returns-in-Some c =
    let l = c.loop-b in
    sym (told_here l.inside c.args.chunk.now l.b-index (omega arith) c.turned-inside.ensures c.in-Some.ensures.0 c.in-Some.ensures.1) ∙ l.invariant

pub loop-b-preserved : goal.loop-b-preserved
loop-b-preserved c =
    let l = c.loop-b in
    sym (told_passed l.inside c.args.chunk.now l.b-index (omega arith) c.turned-inside.ensures refl c.in_default.ensures) ∙ l.invariant

pub returns : goal.returns
returns c =
    let past : told_from c.loop-b.inside (drop c.loop-b.b-index c.args.chunk.now) ≡ 44 = let e : length c.args.chunk.now ≤ c.loop-b.b-index = omega arith in rw (drop_of_length-le c.args.chunk.now e) (told_never c.loop-b.inside) in
    sym past ∙ c.loop-b.invariant
