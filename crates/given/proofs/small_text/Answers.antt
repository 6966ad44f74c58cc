-- `small_text`: a text that is too long, one with a byte over 127, and one that is small.
use Rattle.std.proofs.Common.{rules, arith}
use Rattle.given.specs.Small.{long_text, odd_text, small_text}
use Rattle.given.proofs.small_text.Goals as goal

pub returns-then-n-gt-TEXT_LIMIT : goal.returns-then-n-gt-TEXT_LIMIT
returns-then-n-gt-TEXT_LIMIT c = search (rules, long_text)

pub returns-then-at-gt-LAST_BYTE : goal.returns-then-at-gt-LAST_BYTE
returns-then-at-gt-LAST_BYTE c = search (rules, odd_text)

pub returns : goal.returns
returns c = small_text _ _ _ c.loop-k.k (λ z. omega arith) (omega arith) c.loop-k.invariant
