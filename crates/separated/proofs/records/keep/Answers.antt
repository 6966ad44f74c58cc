-- `keep`: where there is no room, the bytes stay as they are.
use Rattle.std.proofs.Common.{length, sym, arith, le-ltb}
use Rattle.std.proofs.Math.Seq.{set_out}
use Rattle.separated.proofs.records.keep.Goals as goal

pub returns-then-kept-s : goal.returns-then-kept-s
returns-then-kept-s c = (simp (le-ltb c.args.s.n (length c.args.kept.now) c.if-kept-s.true) c.spoilt.ensures, sym (set_out c.args.kept.now c.args.s.n c.args.b (omega arith)))
