-- The list `no-and` has the productions of ⟨expression⟩ but that with “and”, and every nonterminal but ⟨warning-condition⟩ has a production: each by one computed test.
use Rattle.std.specs.Prelude.{ℕ, ◌-◌, ◌≡◌, refl, Bool, true, cond, ◌&&◌, ◌||◌, not, List, [], ◌∷◌, map, eqb, ltb}
use Rattle.paper_expressions.proofs.Laws.Tests.{every, some_one, from}
use Rattle.paper_grammar.specs.Cfg.{Prod, ◌::=◌}
use Rattle.paper_tokens.specs.Tokens.{“and”, terminals}
use Rattle.paper_grammar.specs.Nonterminals.{⟨expression⟩, ⟨expression-no-and⟩, ⟨warning-condition⟩, symbols}
use Rattle.paper_grammar.specs.Grammar.{printed, no_and, atoms, grammar}
use Rattle.paper_grammar.proofs.Laws.Ll.{is_in}

-- with ⟨expression⟩ for ⟨expression-no-and⟩
abbrev plain : ℕ → ℕ
plain s = cond (eqb s ⟨expression-no-and⟩) ⟨expression⟩ s

abbrev plain_prod : Prod → Prod
plain_prod (A ::= α) = plain A ::= map plain α

abbrev kept : Prod → Bool
kept (A ::= α) = eqb A ⟨expression⟩ && not (is_in “and” α)

abbrev keep : List Prod → List Prod
keep [] = []
keep (p ∷ P) = cond (kept p) (p ∷ keep P) (keep P)

pub no_and_whole : map plain_prod no_and ≡ keep printed
unfolding printed no_and
no_and_whole = refl

-- the left side, and whether every symbol has a number that some name has
abbrev defines : ℕ → Prod → Bool
defines B (A ::= α) = eqb B A

abbrev known : Prod → Bool
known (A ::= α) = ltb A symbols && every (λ s. ltb s symbols) α

pub all_known : every known grammar ≡ true
unfolding grammar printed no_and atoms
all_known = refl

pub all_defined : every (λ A. eqb A ⟨warning-condition⟩ || some_one (defines A) grammar) (from terminals (symbols - terminals)) ≡ true
unfolding grammar printed no_and atoms
all_defined = refl
