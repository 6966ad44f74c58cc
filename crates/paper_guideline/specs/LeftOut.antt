-- What the first edition leaves out (refusal 10), at the token that names it. Definitions only.
use Rattle.std.specs.Prelude.{ℕ, ◌≡◌}
use Prim.Native.String.{String}
use mathlib.Core.List.{List, [], ◌∷◌, Memᴰ}
use Rattle.paper_tokens.specs.Tokens
use Tokens.{“directives”, “task”, “decision”, “procedure”, “context”, “goal”, “abort”, “parameters”, “autonomous”, “optional”, “ltwh”}
use Tokens.{“number-of-cycles”, “cycle-until”, “cycle-repeat”, “param-value”, “range”, “default-value”, “true-value”, “false-value”}
use Tokens.{“mandatory-validation”, “derivation”, “unit”, “result-of”, “netsupport”, “Netsupport”, “#”, “++”, “:”, “open”}
use Rattle.paper_tokens.specs.Lexical.{Token, atom, HasExponent}
use Rattle.paper_tokens.specs.Terminals.{OneOf, Terminal, name}

-- "Anything else that the grammar or section 11 has is refused with 10": the reserved words and symbols: a part of a guideline, an attribute, an expression, an operator, a name with a colon
unfoldable pub left_out_words : List ℕ
left_out_words =
    “directives” ∷ “task” ∷ “decision”
    ∷ “procedure” ∷ “context” ∷ “goal” ∷ “abort” ∷ “parameters”
    ∷ “autonomous” ∷ “optional” ∷ “ltwh” ∷ “number-of-cycles” ∷ “cycle-until” ∷ “cycle-repeat” ∷ “param-value”
    ∷ “range” ∷ “default-value” ∷ “true-value” ∷ “false-value” ∷ “mandatory-validation” ∷ “derivation” ∷ “unit”
    ∷ “result-of” ∷ “netsupport” ∷ “Netsupport”
    ∷ “#” ∷ “++”
    ∷ “:”
    ∷ []

-- the functors of 11.2.11 to 11.2.24
unfoldable pub left_out_functors : List String
left_out_functors =
    "in_progress_time" ∷ "discarded_time" ∷ "completed_time"
    ∷ "union" ∷ "diff" ∷ "intersect"
    ∷ "abs" ∷ "exp" ∷ "ln" ∷ "sin" ∷ "cos" ∷ "tan" ∷ "asin" ∷ "acos" ∷ "atan" ∷ "random"
    ∷ []

-- of these tokens of a guideline, one stands at the place that names a thing left out
pub data LeftOut : List Token → ℕ → Type 0 where
  left_out_word : {t : Token} {ts : List Token} {k : ℕ} → Terminal t k → Memᴰ k left_out_words → LeftOut (t ∷ ts) t.place
  -- in a guideline an atom before an opening parenthesis is a functor's name
  left_out_functor : {t o : Token} {ts : List Token} → t.rule ≡ atom → OneOf (name t) left_out_functors → Terminal o “open” → LeftOut (t ∷ o ∷ ts) t.place
  -- "exponents in floats"
  left_out_exponent : {t : Token} {ts : List Token} → HasExponent t → LeftOut (t ∷ ts) t.place
  further_on : {t : Token} {ts : List Token} {p : ℕ} → LeftOut ts p → LeftOut (t ∷ ts) p
