-- `more`: before turn i the elements from i on are left, and what closes the list.
use Rattle.std.proofs.Common.{drop}
use Rattle.values.specs.Meaning.{meaning_l}
use Rattle.digits.specs.AppendsLaws.{Begun}
use Rattle.written.specs.Joined.{more_joined}
use Rattle.written.proofs.lists.more.Given as goal

abbrev pub invariant-loop-i : goal.invariant-loop-i
invariant-loop-i g l =
    let n = g.N.Notation in
    Begun l.fn.out l.out l.o l.p (more_joined n.between n.closing n.spelt (drop l.i (meaning_l l.bytes l.l))) (more_joined n.between n.closing n.spelt (drop 1 (meaning_l l.bytes l.l)))
