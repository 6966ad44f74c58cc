-- `look_up`: p stands at the i-th string of the table, and no string before it is the one looked for.
use Rattle.std.proofs.Common.{◌≡◌, ℕ, ◌<◌, [], get_or}
use Rattle.paper_tokens.specs.Lexical.{part}
use Rattle.words.specs.Entries.{strings}
use Rattle.words.proofs.Table.{From}
use Rattle.words.proofs.look_up.Given as goal

abbrev pub invariant-loop-i : goal.invariant-loop-i
invariant-loop-i l = record {
  stands : From l.p l.i;
  before : (k : ℕ) → k < l.i → get_or strings k [] ≡ part l.text l.at l.n → ⊥;
}
