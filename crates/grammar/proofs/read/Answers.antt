-- `read` replies as the definitions ask: the walk starts with the start symbol alone on the stack.
use Prim.Native.Nat.{ℕ}
use lib.ListN.{replicate, length-replicate}
use Rattle.grammar.proofs.ReadLaws.{reply}
use Rattle.grammar.proofs.read.Goals as goal

pub returns : goal.returns
returns c = reply c.args.start c.args.kinds.now (replicate 32768 0) c.code.result c.walk.result c.if-kinds-gt-LIMIT.false (length-replicate {A = ℕ} 32768 0) c.code.ensures c.walk.ensures
