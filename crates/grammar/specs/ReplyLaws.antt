-- What a reply says: accepted exactly the sentences, refused exactly at the first token that no sentence can have; two replies to the same tokens are equal.
use Rattle.std.specs.Prelude.{ℕ, ◌≡◌, refl, List}
use Rattle.std.proofs.Common.{ap, arith}
use Rattle.paper_grammar.proofs.Laws.Same.{Starts, at_process, at_expression, first_bad_one}
use Rattle.grammar.specs.declared.Start.{Start}
use Rattle.grammar.specs.declared.Start.TheVariants.{Process, Expression}
use Rattle.grammar.specs.declared.Answer.{Answer}
use Rattle.grammar.specs.declared.Answer.TheVariants.{Accepted, Refused, Unread}
use Rattle.grammar.specs.Reply.{symbol_of, form_of, Verdict}

pub starts : (s : Start) → Starts (symbol_of s) (form_of s)
starts Process = at_process
starts Expression = at_expression

pub one_reply : (s : Start) (w : List ℕ) (r r' : Answer) → Verdict s w r → Verdict s w r' → r ≡ r'
one_reply s w Accepted Accepted a b = refl
one_reply s w Accepted (Refused j) a b = absurd (b.1.no_sentence a.1)
one_reply s w Accepted Unread a b = let l = a.0 in absurd (omega arith)
one_reply s w (Refused i) Accepted a b = absurd (a.1.no_sentence b.1)
one_reply s w (Refused i) (Refused j) a b = ap Refused (first_bad_one a.1 b.1)
one_reply s w (Refused i) Unread a b = let l = a.0 in absurd (omega arith)
one_reply s w Unread Accepted a b = let l = b.0 in absurd (omega arith)
one_reply s w Unread (Refused j) a b = let l = b.0 in absurd (omega arith)
one_reply s w Unread Unread a b = refl
