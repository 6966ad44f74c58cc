-- `items`: the marks tell of the parts passed.
use Rattle.std.proofs.Common.{◌≡◌, ◌+◌, ◌-◌, ◌*◌, length, get_or}
use Rattle.truths.specs.Part.{part_of}
use Rattle.why.specs.Mentions.{Named, Mentioned}
use Rattle.why.proofs.mentions.items.Given as goal

abbrev pub invariant-loop-p : goal.invariant-loop-p
invariant-loop-p l = record {
  size : length l.m ≡ 65;
  told : Mentioned (Named l.parts l.texts (part_of l.plan 1256 (get_or l.plan 1 0))) 64 (l.e - get_or l.parts ((l.e - 1) * 4 + 2) 0) l.p l.m;
}
