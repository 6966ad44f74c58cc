-- What the reader answers, by the definitions alone: accepted are the sentences, refused is the first token that no sentence can have there. Definitions only.
use Rattle.std.specs.Prelude.{ℕ, ◌≤◌, ◌<◌, List, length}
use Rattle.paper_guideline.specs.Limits.{token_limit}
use Rattle.paper_grammar.specs.Nonterminals.{⟨process⟩, ⟨expression⟩}
use Rattle.paper_grammar.specs.Sentence.{SentenceOf, FirstBad}
use Rattle.paper_grammar.proofs.Laws.Form.{‹Process›, ‹Expr›}
use Rattle.grammar.specs.declared.Start.{Start}
use Rattle.grammar.specs.declared.Start.TheVariants.{Process, Expression}
use Rattle.grammar.specs.declared.Answer.{Answer}
use Rattle.grammar.specs.declared.Answer.TheVariants.{Accepted, Refused, Unread}

-- the start symbol in 3.2, and in Form
abbrev pub symbol_of : Start → ℕ
symbol_of Process = ⟨process⟩
symbol_of Expression = ⟨expression⟩

abbrev pub form_of : Start → ℕ
form_of Process = ‹Process›
form_of Expression = ‹Expr›

abbrev pub Verdict : Start → List ℕ → Answer → Type 0
Verdict s w Accepted = (length w ≤ token_limit) × SentenceOf (symbol_of s) w
Verdict s w (Refused i) = (length w ≤ token_limit) × FirstBad (symbol_of s) w i
Verdict s w Unread = token_limit < length w
