-- `begins`: accepted is yes; refused at a token is no.
use Rattle.std.proofs.Common.{◌≡◌, true, false, length, eqb, eqb-true, ⊎_elim, List, ℕ}
use Rattle.std.proofs.lemmas.Bool.{eqb-false}
use Rattle.paper_expressions.proofs.Laws.Tests.{two}
use Rattle.paper_grammar.specs.Nonterminals.{⟨process⟩}
use Rattle.paper_grammar.specs.Sentence.{Begins}
use Rattle.grammar.specs.declared.Start.TheVariants.{Process}
use Rattle.grammar.specs.declared.Answer.TheVariants.{Refused}
use Rattle.grammar.specs.Reply.{Verdict}
use Rattle.explain.specs.Offer.{Tells, whole_begins, end_begins, token_begins_not}
use Rattle.explain.proofs.offer.begins.Goals as goal

told : (w : List ℕ) (i : ℕ) → Verdict Process w (Refused i) → Tells (Begins ⟨process⟩ w) (eqb i (length w))
told w i v = ⊎_elim
    (λ (e : eqb i (length w) ≡ true). rw e (end_begins w i v (eqb-true i (length w) e)))
    (λ (e : eqb i (length w) ≡ false). rw e (token_begins_not w i v (eqb-false i (length w) e)))
    (two (eqb i (length w)))

pub returns-in-Accepted : goal.returns-in-Accepted
returns-in-Accepted c = λ _. whole_begins c.args.kinds.now c.in-Accepted.ensures

pub returns-in-Refused : goal.returns-in-Refused
returns-in-Refused c = λ _. told c.args.kinds.now c.in-Refused.i c.in-Refused.ensures
