-- `elements_of`: what is known of the list from the element on that comes next is known from the first on.
use Rattle.std.proofs.Common.{ℕ, ◌-◌, ◌≤◌, List, ℤ, length}
use Rattle.typed_value.specs.Values.{elements_at}
use Rattle.typed_value.specs.Readings.{ListRead}
use Rattle.typed_value.specs.declared.steps.Step.{Step}
use Rattle.typed_value.proofs.lists.elements_of.Given as goal

abbrev pub invariant-loop-i : goal.invariant-loop-i
invariant-loop-i l = record {
  onward : (l.at ≤ l.p) × (l.p - l.at ≤ length l.s - l.at);
  from_here : (t' : List ℕ) (n' : List ℤ) (b' : List ℕ) (r : Step) → ListRead l.i l.tags l.numbers l.bytes t' n' b' r (elements_at (20 - l.i) l.s l.p) → ListRead 0 l.initial.tags l.initial.numbers l.initial.bytes t' n' b' r (elements_at 20 l.s l.at);
}
