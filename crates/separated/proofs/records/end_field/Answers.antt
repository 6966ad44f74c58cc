-- `end_field`: where there is no room, the ends stay as they are.
use Rattle.std.proofs.Common.{length, sym, arith, le-ltb}
use Rattle.std.proofs.Math.Seq.{set_out}
use Rattle.separated.proofs.records.end_field.Goals as goal

pub returns-then-ends-s : goal.returns-then-ends-s
returns-then-ends-s c = (simp (le-ltb c.args.s.fields (length c.args.ends.now) c.if-ends-s.true) c.spoilt.ensures, sym (set_out c.args.ends.now c.args.s.fields c.args.s.n (omega arith)))
