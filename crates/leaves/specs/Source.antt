-- How columns of numbers and a text stand for the tokens of document 01. Definitions only.
use Rattle.std.specs.Prelude.{ℕ, suc, ◌+◌, ◌<◌, ◌≤◌, ◌≡◌, List, [], ◌∷◌, length, get_or}
use Rattle.paper_tokens.specs.Lexical.{Token, part}
use Rattle.paper_tokens.specs.Terminals.{Terminal}
use Rattle.paper_guideline.specs.Refusals.{TokenBreach}
use Rattle.leaves.specs.declared.Tokens.{Tokens}

-- a text, and for each of its tokens the terminal, the place and the length
pub record Source : Type 0 where
  pub text : List ℕ
  pub kinds : List ℕ
  pub places : List ℕ
  pub lengths : List ℕ

abbrev pub source : List ℕ → List ℕ → List ℕ → List ℕ → Source
source t k p n = record { text = t; kinds = k; places = p; lengths = n }

-- as the program has it
abbrev pub source_of : Tokens → Source
source_of t = source t.text.now t.kinds.now t.places.now t.lengths.now

-- the token i of the columns is t
pub record Here (c : Source) (i : ℕ) (t : Token) : Type 0 where
  pub inside : i < length c.kinds
  pub terminal : Terminal t (get_or c.kinds i 0)
  pub place : t.place ≡ get_or c.places i 0
  pub bytes : t.bytes ≡ part c.text (get_or c.places i 0) (get_or c.lengths i 0)
  pub within : get_or c.places i 0 + get_or c.lengths i 0 ≤ length c.text

-- the tokens of the columns from i on
pub data Stand (c : Source) : ℕ → List Token → Type 0 where
  at_end : {i : ℕ} → i ≡ length c.kinds → Stand c i []
  at_token : {i : ℕ} {t : Token} {ts : List Token} → Here c i t → Stand c (suc i) ts → Stand c i (t ∷ ts)

-- no token before the last ones, r, passes a limit on one token
abbrev pub Clean : Source → List Token → Type 0
Clean c r = (i : ℕ) (t : Token) → Here c i t → i + length r < length c.kinds → ¬ TokenBreach t
