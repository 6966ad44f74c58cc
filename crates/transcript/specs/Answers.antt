-- What replay answers: docs/REPLAY.md, "Answers". Definitions only.
use Rattle.std.specs.Prelude.{List, [], ◌∷◌, ◌++◌, ℕ, get_or}
use Rattle.paper_expressions.specs.Bytes.{bytes}
use Rattle.paper_guideline.specs.Line.{digits_of}
use Rattle.values.specs.Meaning.{meaning_v}
use Rattle.values.specs.declared.value.Value.{Value}
use Rattle.replying.specs.declared.Reply.{Reply}
use Rattle.replying.specs.declared.Reply.TheVariants as Replies
use Rattle.row_shown.specs.declared.Shown.{Shown}
use Rattle.row_shown.specs.declared.Shown.TheVariants.{NoRow, There, OfValue, OfState, OfClass, OfType, OfTime, OfComponent, Refused}
use Rattle.row_shown.specs.declared.Row.{Row}
use Rattle.transcript_values.specs.Literals.{value_literal, next_number}

-- a refusal, with its number and its place
abbrev pub refused_written : ℕ → ℕ → List ℕ
refused_written n place = bytes "refused" ++ next_number n ++ next_number place

abbrev pub refused_lined : ℕ → ℕ → List ℕ
refused_lined n place = refused_written n place ++ (10 ∷ [])

-- the answer to a call that sets something
abbrev pub reply_written : Reply → List ℕ
reply_written Replies.Done = bytes "done" ++ (10 ∷ [])
reply_written (Replies.Refused n) = refused_lined n 0

-- a word and a number: how a run ended and its cycles, the time, the flag
abbrev pub counted_written : List ℕ → ℕ → List ℕ
counted_written word n = word ++ next_number n ++ (10 ∷ [])

-- states, classes and declared types by their numbers; what has no number here is none that a row has, and is written as the last of them
unfoldable pub state_words : List (List ℕ)
state_words = bytes "completed" ∷ bytes "dormant" ∷ bytes "in_progress" ∷ bytes "discarded" ∷ []

abbrev pub state_word : ℕ → List ℕ
state_word n = get_or state_words n (bytes "completed")

unfoldable pub class_words : List (List ℕ)
class_words = bytes "source" ∷ bytes "data_item" ∷ bytes "source" ∷ bytes "plan" ∷ bytes "source" ∷ bytes "enquiry" ∷ bytes "action" ∷ []

abbrev pub class_word : ℕ → List ℕ
class_word n = get_or class_words n (bytes "source")

unfoldable pub type_words : List (List ℕ)
type_words =
    bytes "setof_real" ∷ bytes "text" ∷ bytes "integer" ∷ bytes "boolean" ∷ bytes "datetime" ∷ bytes "date" ∷ bytes "time" ∷ bytes "real"
    ∷ bytes "setof_text" ∷ bytes "setof_integer" ∷ []

abbrev pub type_word : ℕ → List ℕ
type_word n = get_or type_words n (bytes "setof_real")

-- the value of a row, whose texts stand in these bytes
abbrev pub shown_written : List ℕ → Value → Shown → List ℕ
shown_written bs v NoRow = bytes "none"
shown_written bs v There = bytes "*"
shown_written bs v OfValue = value_literal (meaning_v bs v)
shown_written bs v (OfState n) = state_word n
shown_written bs v (OfClass n) = class_word n
shown_written bs v (OfType n) = type_word n
shown_written bs v (OfTime n) = bytes "@" ++ digits_of n
shown_written bs v (OfComponent k n) = bytes "#" ++ digits_of k ++ bytes "." ++ digits_of n
shown_written bs v (Refused n) = refused_written n 0

abbrev pub row_written : List ℕ → Row → List ℕ
row_written bs r = shown_written bs r.value r.shown

-- a line of `rows`: kind, component and property before it
abbrev pub row_lined : List ℕ → ℕ → ℕ → ℕ → Row → List ℕ
row_lined bs kind component property r = digits_of kind ++ next_number component ++ next_number property ++ bytes " " ++ row_written bs r ++ (10 ∷ [])
