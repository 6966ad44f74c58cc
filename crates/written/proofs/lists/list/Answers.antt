-- `list`: opened and closed where it is empty, else opened, the first element and more.
use Rattle.std.proofs.Common.{◌<◌, arith}
use Rattle.values.specs.Meaning.{size_of}
use Rattle.digits.specs.AppendsLaws.{append_then, appends_as}
use Rattle.written.specs.Joined.{joined_none, joined_some}
use Rattle.written.proofs.lists.list.Goals as goal

pub returns-then-size-eq0 : goal.returns-then-size-eq0
returns-then-size-eq0 g c =
    let e = c.if-size-eq0.true in
    let k = c.size.ensures.0 in
    let n = g.N.Notation in
    appends_as (joined_none c.args.bytes.now c.args.l n.opening n.between n.closing n.spelt (omega arith)) (append_then c.open-p.ensures c.close.ensures)

pub returns : goal.returns
returns g c =
    let k = c.size.ensures.0 in
    let e = c.if-size-eq0.false in
    let n = g.N.Notation in
    let some : 0 < size_of c.args.l = omega arith in
    appends_as (joined_some c.args.bytes.now c.args.l n.opening n.between n.closing n.spelt some)
    (append_then (append_then c.open-p.ensures (rw c.get.ensures at c.scalar-q.ensures)) c.more.ensures)
