-- `all_may_be_empty` is `blank`: the symbols passed may be empty.
use Rattle.std.proofs.Common.{◌≡◌}
use Rattle.paper_grammar.proofs.Laws.Ll.{blank}
use Rattle.paper_grammar.proofs.Laws.Form.{G}
use Rattle.grammar.proofs.MachineLaws.{syms}
use Rattle.grammar.proofs.all_may_be_empty.Given as goal

abbrev pub invariant-loop-at : goal.invariant-loop-at
invariant-loop-at l = blank G (syms l.top l.stack) ≡ blank G (syms l.at l.stack)
