-- A text that loads as a guideline, computed from its bytes: its tokens, its structure, that no stage of load is broken, and the structure without places and parentheses.
use Rattle.std.specs.Prelude.{ℕ, ◌≡◌, true, false, List}
use Rattle.std.proofs.Math.Option.{Option, none, some}
use Rattle.paper_tokens.specs.Lexical.{Token}
use Rattle.paper_guideline.specs.Structure.{TopLevel, Structure}
use Rattle.paper_guideline.specs.Refusals.{Read, Answer, loads, refused, Answers}
use Rattle.paper_guideline.proofs.Laws.AnswerLaws.{answer_f}
use Rattle.paper_rows.specs.Bare.{bare_guideline}
use Rattle.paper_worked.specs.Lexer.{tokens_f}
use Rattle.paper_worked.specs.Reader.{structure_f}

-- the text has this structure, and no stage of load is broken; h is the structure as it is kept
pub record Loads (text : List ℕ) (h : List TopLevel) : Type 0 where
  pub structure : List TopLevel
  pub read : Read text structure
  pub answer : Answers (false ≡ true) text loads
  pub kept : bare_guideline structure ≡ h

abbrev pub if_loads : Answer → List TopLevel → Option (List TopLevel)
if_loads loads g = some (bare_guideline g)
if_loads (refused n p) g = none

abbrev pub from_structure : List ℕ → List Token → Option (List TopLevel) → Option (List TopLevel)
from_structure text ts none = none
from_structure text ts (some g) = if_loads (answer_f false text ts g) g

-- the structure alone
abbrev pub read_only : {w : List Token} → Option ((g : List TopLevel) × Structure w g) → Option (List TopLevel)
read_only none = none
read_only (some x) = some x.0

abbrev pub from_tokens : List ℕ → Option (List Token) → Option (List TopLevel)
from_tokens text none = none
from_tokens text (some ts) = from_structure text ts (read_only (structure_f ts))

abbrev pub loaded_f : List ℕ → Option (List TopLevel)
loaded_f text = from_tokens text (tokens_f text)
