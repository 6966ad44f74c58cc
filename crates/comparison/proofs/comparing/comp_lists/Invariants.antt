-- `comp_lists`: up to i the heads leave it to the tails, so that comp is settled from i on.
use Rattle.values.specs.Meaning.{meaning_l}
use Rattle.comparison.proofs.Signs.{From}
use Rattle.comparison.proofs.comparing.comp_lists.Given as goal

abbrev pub invariant-loop-i : goal.invariant-loop-i
invariant-loop-i l = From (meaning_l l.bytes l.l) (meaning_l l.bytes l.m) l.i
