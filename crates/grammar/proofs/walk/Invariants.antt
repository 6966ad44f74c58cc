-- `walk` does as `run` does: the stack has grown by at most seven symbols for each token taken, and what is to come is as `At` says.
use Rattle.std.proofs.Common.{length, ◌≡◌, ◌+◌, ◌≤◌, ◌*◌}
use Rattle.grammar.proofs.MachineLaws.{syms}
use Rattle.grammar.proofs.WalkLaws.{At}
use Rattle.grammar.proofs.walk.Given as goal

abbrev pub invariant-loop-i : goal.invariant-loop-i
invariant-loop-i l = record {
  grown : 32767 ≤ l.top + 7 * l.i;
  within : l.top ≤ 32768;
  cells : length l.stack ≡ 32768;
  at : At (syms 32767 l.fn.stack) l.kinds (syms l.top l.stack) l.i;
}
