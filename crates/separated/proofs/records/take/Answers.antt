-- `take`: by the laws of one byte more, with which the record ends or goes on, and of no byte more.
use Rattle.std.proofs.Common.{◌≡◌, ℕ, sym, ap, ◌∙◌, arith}
use Rattle.separated.specs.Reading.{read, reached}
use Rattle.separated.specs.ReadingLaws.{all_read, read_ended, read_more}
use Rattle.separated.proofs.records.take.Goals as goal

pub loop-at-preserved : goal.loop-at-preserved
loop-at-preserved c =
    let l = c.loop-at in
    (omega arith, l.invariant.1 ∙ read_more c.args.separator l.at (read l.scan l.kept l.ends) c.args.chunk.now (omega arith) c.advance-scan.ensures c.if-scan.false)

pub returns-then-scan : goal.returns-then-scan
returns-then-scan c =
    let l = c.loop-at in
    sym (l.invariant.1 ∙ read_ended c.args.separator l.at (read l.scan l.kept l.ends) c.args.chunk.now (omega arith) c.advance-scan.ensures c.if-scan.true)

pub returns : goal.returns
returns c =
    let l = c.loop-at in
    let x = read l.scan l.kept l.ends in
    let e : c.max.result ≡ l.at = omega arith in
    ap (λ (k : ℕ). reached k x) e ∙ sym (l.invariant.1 ∙ all_read c.args.separator l.at x c.args.chunk.now c.loop-at-test.false)
