-- `byte`: the four cases of one byte more.
use Rattle.std.proofs.Common.{arith}
use Rattle.spot.specs.SeenLaws.{line_fits, after_high, first_high, plain, new_line}
use Rattle.spot.proofs.seen.Seen.byte.Goals as goal
use Rattle.spot.proofs.seen.Seen.byte.Goals.{then-self-via-then-self, then-self-via-else-self+then-b-gt127}

pub returns-then-self : goal.returns-then-self
returns-then-self c = λ t h d.
    let e = d.total in
    elim c.then-self.branch [
      | then-self-via-then-self w ↦ after_high d c.args.b _ (omega arith) w.if-self.true
      | then-self-via-else-self+then-b-gt127 w ↦ first_high d c.args.b _ (omega arith) w.if-self.false w.if-b-gt127.true
    ]

pub returns-then-b-eq10 : goal.returns-then-b-eq10
returns-then-b-eq10 c = λ t h d.
    let e = d.total in
    let w = d.within in
    let f = line_fits d c.args.b in
    rw c.if-self.false (new_line d c.args.b c.if-self.false c.if-b-gt127.false _ _ _ (omega arith) (omega arith) (omega arith) c.if-b-eq10.true)

pub returns : goal.returns
returns c = λ t h d.
    let e = d.total in
    let w = d.within in
    rw c.if-self.false (plain d c.args.b c.if-self.false c.if-b-gt127.false _ _ (omega arith) (omega arith) c.if-b-eq10.false)
