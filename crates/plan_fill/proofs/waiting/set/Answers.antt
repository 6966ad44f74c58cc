-- `set`: the one mark.
use Rattle.std.proofs.Common.{◌≤◌, ◌<◌, ⊎_elim}
use Rattle.plan_fill.specs.Waiting.{sets_low, sets_right, sets_in}
use Rattle.plan_fill.proofs.waiting.set.Goals as goal

pub returns-then-t-ge-LIMIT : goal.returns-then-t-ge-LIMIT
returns-then-t-ge-LIMIT c =
    ⊎_elim (sets_low c.args.w c.args.t c.args.a) (λ (x : (c.args.t < 32) × (32 ≤ c.args.a)). sets_right c.args.w c.args.t c.args.a x.1) c.then-t-ge-LIMIT.either

pub returns : goal.returns
returns c = sets_in c.args.w c.args.t c.args.a c.if-t-ge-LIMIT.false c.if-a-ge-LIMIT.false
