-- `walk`: each rule's state is its run over the bytes so far, and the best match is that so far.
use Rattle.std.proofs.Common.{◌≡◌, ℕ, ◌+◌, ◌*◌, ◌<◌, ◌≤◌, get_or}
use Rattle.matches.specs.Walk.{Sofar, begin_of}
use Rattle.matches.proofs.Steps.{After}
use Rattle.matches.proofs.walk.Given as goal

abbrev pub invariant-rules : goal.invariant-rules
invariant-rules l = record {
  done : (j : ℕ) → j < l.r → get_or l.q-items j 0 ≡ After (begin_of l.shut) l.text l.at j (l.i + 1);
  left : (j : ℕ) → l.r ≤ j → j < 7 → get_or l.q-items j 0 ≡ After (begin_of l.shut) l.text l.at j l.i;
  best : Sofar l.text l.at ((l.i + 1) * 7 + l.r) l.best;
  few : l.alive ≤ 35 * l.r;
  dead : l.alive ≡ 0 → (j : ℕ) → j < l.r → get_or l.q-items j 0 ≡ 0;
}

abbrev pub invariant-walk : goal.invariant-walk
invariant-walk l = record {
  states : (j : ℕ) → j < 7 → get_or l.states j 0 ≡ After (begin_of l.shut) l.text l.at j l.i;
  best : Sofar l.text l.at ((l.i + 1) * 7) l.best;
}
