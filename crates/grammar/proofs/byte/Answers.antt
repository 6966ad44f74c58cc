-- `byte` reads what the table has of the alternative.
use Rattle.std.proofs.Common.{ℕ, ◌+◌, ◌*◌, List, get_or, ap, ◌∙◌}
use Rattle.grammar.proofs.TableLaws.{alternative_at}
use Rattle.grammar.proofs.byte.Goals as goal

pub returns : goal.returns
returns c =
    let a = c.args in
    ap (λ (l : List ℕ). get_or l (97 + a.a * 10 + a.j) 0) c.requires.t_value ∙ alternative_at a.a a.j c.requires.a_bound.0 c.requires.a_bound.1
