-- `keep`: the byte goes behind those that are kept, or so many are kept that it is dropped.
use Rattle.std.proofs.Common.{◌≤◌, ◌<◌, ⊎_elim, length}
use Rattle.lines.proofs.Taking.{full, no_room, behind}
use Rattle.lines.proofs.keep.Goals as goal

pub returns-then-n-kept : goal.returns-then-n-kept
returns-then-n-kept c = behind c.args.b c.if-n-lt-KEPT.true c.if-n-kept.true

pub returns-else-n-lt-KEPT : goal.returns-else-n-lt-KEPT
returns-else-n-lt-KEPT c =
    ⊎_elim (λ (x : (c.args.n < 16385) × (length c.args.kept.now ≤ c.args.n)). no_room c.args.b x.0 x.1) (full c.args.b) c.else-n-lt-KEPT.either
