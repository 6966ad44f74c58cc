-- `last_end`: where the bytes from p - 1 on do not begin with **/, no comment ends there.
use Rattle.std.proofs.Common.{◌≡◌, ◌-◌, arith, subst}
use Rattle.matches.specs.Walk.{Closes}
use Rattle.matches.proofs.Ends.{open_at}
use Rattle.matches.proofs.last_end.Goals as goal

pub loop-p-preserved : goal.loop-p-preserved
loop-p-preserved c = λ p x.
    let h = c.loop-p.invariant p x in
    let n : ¬ (p ≡ c.loop-p.p - 1) = λ e. open_at c.args.text.now (c.loop-p.p - 1) _ c.starts_with.ensures.value c.if-starts_with.false (subst (Closes c.args.text.now) e x) in
    omega arith
