-- `list`: before each turn the elements that may follow from p on end where the list does, and fill what it fills.
use Rattle.std.proofs.Common.{◌≡◌, ◌-◌}
use Rattle.script.specs.Places.{behind_elements}
use Rattle.script.specs.Values.{places_from}
use Rattle.script.specs.ValuesLaws.{Filling}
use Rattle.script.proofs.values.list.Given as goal

abbrev pub invariant-loop-n : goal.invariant-loop-n
invariant-loop-n l = record {
  ends : behind_elements l.s (20 - l.n) l.p ≡ behind_elements l.s 20 l.at;
  fills : Filling l.s (places_from l.s 20 l.at) (places_from l.s (20 - l.n) l.p) l.n l.initial.tags l.initial.numbers l.initial.bytes l.tags l.numbers l.bytes;
}
