-- `early`: the first byte over 127, or the length, is the smallest place of refusal 1.
use Rattle.std.proofs.Common.{◌<◌, ◌≤◌, ⊎_elim, length, arith}
use Rattle.tokens.proofs.Endings.{early_high, early_long, early_fine}
use Rattle.tokens.proofs.early.Goals as goal

pub returns-then-text-gt-LIMIT : goal.returns-then-text-gt-LIMIT
returns-then-text-gt-LIMIT c =
    let f = c.high-place.ensures in
    ⊎_elim (early_high f) (λ (x : (length c.args.text.now ≤ c.high-place.result) × (16384 < length c.args.text.now)). let l = x.0 in early_long f (λ h. omega arith) x.1)
    c.if-text-gt-LIMIT.either

pub returns-else-text-gt-LIMIT : goal.returns-else-text-gt-LIMIT
returns-else-text-gt-LIMIT c = early_fine c.high-place.ensures c.if-text-gt-LIMIT.false.0 c.if-text-gt-LIMIT.false.1
