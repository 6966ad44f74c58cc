-- `tasks`: the marks tell of the parts passed.
use Rattle.std.proofs.Common.{◌≡◌, ◌+◌, ◌-◌, ◌*◌, length, get_or}
use Rattle.truths.specs.Part.{part_of}
use Rattle.why.specs.Mentions.{Asks, Mentioned}
use Rattle.why.proofs.mentions.tasks.Given as goal

abbrev pub invariant-loop-p : goal.invariant-loop-p
invariant-loop-p l = record {
  size : length l.m ≡ 33;
  told : Mentioned (Asks l.parts l.texts (part_of l.plan 1256 (get_or l.plan 1 0)) (part_of l.plan 1193 (get_or l.plan 0 0 - 1))) 32 (l.e - get_or l.parts ((l.e - 1) * 4 + 2) 0) l.p l.m;
}
