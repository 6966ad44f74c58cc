-- `copy`: each turn writes one byte behind those of the turns before.
use Rattle.std.proofs.Common.{arith}
use Rattle.pool.specs.WrittenLaws.{written_none}
use Rattle.pool.specs.Columns.{copied_more}
use Rattle.pool.proofs.copy.Goals as goal

pub loop-j-init : goal.loop-j-init
loop-j-init c = written_none _ _

pub loop-j-preserved : goal.loop-j-preserved
loop-j-preserved c =
    let a = c.args in
    let l = c.loop-j in
    copied_more a.text.now l.bytes a.bytes.now a.o a.place l.j c.byte.result (omega arith) c.byte.ensures l.invariant
