-- `next`: it has a line at once, or it had none.
use Rattle.std.proofs.Common.{◌≡◌, ◌⊎◌}
use Rattle.typed_lines.specs.Lines.{HasLine}
use Rattle.typed_lines.proofs.lines.next.Given as goal

abbrev pub invariant-loop-turn : goal.invariant-loop-turn
invariant-loop-turn l = ((l._turn ≡ 0) × (l.now ≡ l.initial.now) × (l.buffer ≡ l.initial.buffer)) ⊎ ¬ HasLine l.initial.buffer l.initial.now
