-- What is promised of a reply: the first place at which the tokens of a text break a stage. Definitions only.
use Rattle.std.specs.Prelude.{ℕ, ◌≤◌, ◌≡◌, List, Option, Some, None}
use Rattle.paper_expressions.specs.View
use Rattle.paper_tokens.specs.Lexical.{Token, Tokens}
use Rattle.paper_guideline.specs.Refusals.{TokenBreach}
use Rattle.leaves.specs.Source.{Source, Stand}

-- of these tokens, one at the place passes a limit on one token
pub record OverLimit (ts : List Token) (p : ℕ) : Type 0 where
  pub index : ℕ
  pub token : Token
  pub there : View.At ts index token
  pub breach : TokenBreach token
  pub place : p ≡ token.place

-- the tokens of the text break P, first at this place; or nowhere
abbrev pub First : (List Token → ℕ → Type 0) → Source → Option ℕ → Type 0
First P c (Some p) = (ts : List Token) → Tokens c.text 0 ts → Stand c 0 ts → P ts p × ((q : ℕ) → P ts q → p ≤ q)
First P c None = (ts : List Token) → Tokens c.text 0 ts → Stand c 0 ts → (q : ℕ) → ¬ P ts q
