-- `more`: one element less is left at each turn, and what closes the list at the end.
use Rattle.std.proofs.Common.{◌<◌, ◌≤◌, arith, []}
use Rattle.values.specs.Meaning.{size_of}
use Rattle.digits.specs.AppendsLaws.{begun_none, begun_more, begun_all}
use Rattle.written.specs.Joined.{joined_step, joined_end}
use Rattle.written.proofs.lists.more.Goals as goal

pub loop-i-init : goal.loop-i-init
loop-i-init g c = begun_none _ _ _

pub loop-i-preserved : goal.loop-i-preserved
loop-i-preserved g c =
    let a = c.args in
    let l = c.loop-i in
    let n = g.N.Notation in
    let more : l.i < size_of a.l = omega arith in
    begun_more (rw (joined_step a.bytes.now a.l [] n.between n.closing n.spelt l.i more) at l.invariant) c.element-p.ensures

pub returns : goal.returns
returns g c =
    let a = c.args in
    let l = c.loop-i in
    let n = g.N.Notation in
    let done : size_of a.l ≤ l.i = omega arith in
    begun_all (rw (joined_end a.bytes.now a.l [] n.between n.closing n.spelt l.i done) at l.invariant) c.close.ensures
