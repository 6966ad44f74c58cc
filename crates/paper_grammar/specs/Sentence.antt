-- What a sentence is, and the first token that no sentence can have there. Definitions only.
-- The sentences of ⟨process⟩ are the guidelines; those of ⟨expression⟩ are what a line of the small program may hold.
use Rattle.std.specs.Prelude.{ℕ, ◌+◌, ◌≤◌, ◌<◌, List, [], ◌∷◌, ◌++◌, length, take}
use Rattle.paper_grammar.specs.Cfg.{Derives}
use Rattle.paper_tokens.specs.Tokens.{terminals}
use Rattle.paper_grammar.specs.Nonterminals.{⟨process⟩}
use Rattle.paper_grammar.specs.Grammar.{grammar}

-- the tokens w are an A, by the productions of 3.2
unfoldable pub SentenceOf : ℕ → List ℕ → Type 0
SentenceOf A w = Derives terminals grammar (A ∷ []) w

-- 3.1: "The root symbol of the BNF syntax is <process>"
abbrev pub Guideline : List ℕ → Type 0
Guideline w = SentenceOf ⟨process⟩ w

-- some sentence has these tokens first
unfoldable pub Begins : ℕ → List ℕ → Type 0
Begins A u = (v : List ℕ) × SentenceOf A (u ++ v)

-- w is no sentence; the first i of its tokens begin one, and the first i + 1, if it has so many, begin none
pub record FirstBad (A : ℕ) (w : List ℕ) (i : ℕ) : Type 0 where
  pub no_sentence : ¬ SentenceOf A w
  pub within : i ≤ length w
  pub so_far : Begins A (take i w)
  pub no_further : i < length w → ¬ Begins A (take (i + 1) w)
