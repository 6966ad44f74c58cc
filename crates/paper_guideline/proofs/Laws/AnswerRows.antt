-- Load's answers, worked: a text that loads, one refused for its names and one for its types, with their places. By computing answerF over the text's tokens and structure.
use Rattle.std.specs.Prelude.{ℕ, ◌≡◌, refl, false, List, [], ◌∷◌}
use Prim.Native.String.{String}
use Rattle.std.proofs.Common.{subst}
use Rattle.std.proofs.Math.Option.{some}
use Rattle.paper_expressions.specs.Bytes.{bytes}
use Rattle.paper_expressions.specs.Expressions.{Expr}
use Rattle.paper_expressions.proofs.Laws.Search.{of_no}
use Rattle.paper_tokens.specs.Tokens
use Tokens.{“plan”}
use Rattle.paper_tokens.specs.Kinds.{kind_of}
use Rattle.paper_tokens.specs.Words.{reserved, yes_or_no, data_types}
use Rattle.paper_tokens.specs.Lexical
use Lexical.{Rule, reserved_word, atom, bare_atom, quoted_atom, integer_form, plain_float, exponent, float_form, string_form, white_form, comment_form, Token, Tokens}
use Rattle.paper_tokens.specs.Terminals.{Terminal, a_reserved_word}
use Rattle.paper_tokens.proofs.Laws.FormsLaws.{nul, deriv}
use Rattle.paper_tokens.proofs.Laws.LexicalTwin.{tokens, lex_f, Is, lexed, word_f, word_found}
use Rattle.paper_tokens.proofs.Laws.TerminalLaws.{terminal_f}
use Rattle.paper_guideline.specs.LeftOut.{left_out_words, left_out_functors}
use Rattle.paper_guideline.specs.Tree.{anywhere, Tree, looser, an_integer}
use Rattle.paper_guideline.specs.Structure
use Structure.{TopLevel, says, SaysName, says_name, none, and_more, a_precondition, a_component, a_task, plan, Structure, guideline}
use Rattle.paper_guideline.specs.Refusals.{Answer, loads, refused, Answers}
use Rattle.paper_guideline.proofs.Laws.AnswerLaws.{answer_f, structured_answer}

-- ---- tokens

abbrev tok : Rule → ℕ → String → Token
tok r p s = record { rule = r; place = p; bytes = bytes s }

word : {k : ℕ} (p : ℕ) (s : String) → word_f (bytes s) ≡ some k → Terminal (tok reserved_word p s) k
word p s e = a_reserved_word refl (word_found e)

has_tokens : {text : List ℕ} {ts : List Token} → lex_f text ≡ tokens ts → Tokens text 0 ts
has_tokens {text} e = subst (Is text 0) e (lexed text)

-- ---- plan :: p; .. end plan.

abbrev start : List Token → List Token
start ts = tok reserved_word 0 "plan" ∷ tok reserved_word 4 "::" ∷ tok atom 6 "p" ∷ tok reserved_word 7 ";" ∷ ts

abbrev finish : ℕ → ℕ → ℕ → List Token
finish a b c = tok reserved_word a "end" ∷ tok reserved_word b "plan" ∷ tok reserved_word c "." ∷ []

named : (ts : List Token) → SaysName “plan” (start ts) ts (record { word = 0; what = record { spelt = bytes "p"; place = 6 } })
unfolding reserved
named ts = says_name (word 0 "plan" refl) (word 4 "::" refl) refl (word 7 ";" refl)

abbrev empty_plan : List TopLevel
empty_plan = Structure.task (record { class = plan; named = record { spelt = bytes "p"; place = 6 }; attributes = [] }) ∷ []

empty_structure : Structure (start (finish 8 12 16)) empty_plan
unfolding reserved
empty_structure = guideline (a_task (named (finish 8 12 16)) none none (word 8 "end" refl) (word 12 "plan" refl) (word 16 "." refl)) refl none

-- with a component that is no task
abbrev component_tokens : List Token
component_tokens = start (tok reserved_word 8 "component" ∷ tok reserved_word 17 "::" ∷ tok atom 19 "a" ∷ tok reserved_word 20 ";" ∷ finish 21 25 29)

abbrev with_component : List TopLevel
with_component =
    Structure.task (record {
      class = plan;
      named = record { spelt = bytes "p"; place = 6 };
      attributes = record { word = 8; what = Structure.component (record { spelt = bytes "a"; place = 19 }) [] } ∷ [];
    }) ∷ []

component_structure : Structure component_tokens with_component
unfolding reserved
component_structure =
    guideline
    (a_task (named (tok reserved_word 8 "component" ∷ tok reserved_word 17 "::" ∷ tok atom 19 "a" ∷ tok reserved_word 20 ";" ∷ finish 21 25 29)) none
    (and_more (a_component (says_name (word 8 "component" refl) (word 17 "::" refl) refl (word 20 ";" refl)) none) none)
    (word 21 "end" refl) (word 25 "plan" refl) (word 29 "." refl))
    refl none

-- with a precondition of one token, which begins at 22
abbrev behind : ℕ → ℕ → ℕ → ℕ → List Token
behind s a b c = tok reserved_word s ";" ∷ finish a b c

abbrev condition_tokens : Rule → String → List Token → List Token
condition_tokens r x ts = start (tok reserved_word 8 "precondition" ∷ tok reserved_word 20 "::" ∷ tok r 22 x ∷ ts)

abbrev with_condition : Expr → List TopLevel
with_condition e =
    Structure.task (record {
      class = plan;
      named = record { spelt = bytes "p"; place = 6 };
      attributes = record { word = 8; what = Structure.precondition (record { start = 22; tree = e }) } ∷ [];
    }) ∷ []

condition_structure : {r : Rule} {e : Expr} (x : String) (s a b c : ℕ) → Tree anywhere 8 (tok r 22 x ∷ behind s a b c) (behind s a b c) e
    → Structure (condition_tokens r x (behind s a b c)) (with_condition e)
unfolding reserved
condition_structure {r} x s a b c t =
    guideline
    (a_task (named (tok reserved_word 8 "precondition" ∷ tok reserved_word 20 "::" ∷ tok r 22 x ∷ behind s a b c)) none
    (and_more (a_precondition (says (word 8 "precondition" refl) (word 20 "::" refl) (looser (looser (looser (looser (looser (looser (looser t))))))) (word s ";" refl))) none)
    (word a "end" refl) (word b "plan" refl) (word c "." refl))
    refl none

-- ---- the rows

answered : {text : List ℕ} {ts : List Token} {g : List TopLevel} {a : Answer} → lex_f text ≡ tokens ts → Structure ts g → answer_f false text ts g ≡ a → Answers ⊥ text a
answered {text} h s e = subst (Answers ⊥ text) e (structured_answer (of_no (λ x. x)) (has_tokens h) s)

abbrev pub Rows : Type 0
Rows =
    Answers ⊥ (bytes "plan::p;end plan.") loads
    × Answers ⊥ (bytes "plan::p;component::a;end plan.") (refused 4 19)
    × Answers ⊥ (bytes "plan::p;precondition::1;end plan.") (refused 5 22)

pub worked_answers : Rows
unfolding reserved kind_of nul deriv bare_atom quoted_atom integer_form plain_float exponent float_form string_form white_form comment_form terminal_f yes_or_no data_types left_out_words left_out_functors
worked_answers = (
  answered refl empty_structure refl,
  answered refl component_structure refl,
  answered refl (condition_structure "1" 23 24 28 32 (an_integer refl)) refl,
)
