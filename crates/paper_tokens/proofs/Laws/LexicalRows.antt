-- The corner cases of section 2, worked: one statement over the list of rows, by computing what the laws of LexicalTwin tie to the definitions.
use Rattle.std.specs.Prelude.{ℕ, ◌≡◌, refl, List, [], ◌∷◌, map}
use Prim.Native.String.{String}
use Rattle.std.proofs.Common.{sym, ap, subst, ◌∙◌}
use Rattle.paper_expressions.specs.Bytes.{bytes}
use Rattle.paper_tokens.specs.Kinds.{kind_of}
use Rattle.paper_tokens.proofs.Laws.FormsLaws.{nul, deriv}
use Rattle.paper_tokens.specs.Words.{reserved}
use Rattle.paper_tokens.specs.Lexical.{Rule, reserved_word, atom, integer, float, double_quoted_string, white_space, comment, bare_atom, quoted_atom, integer_form, plain_float, exponent, float_form, string_form, white_form, comment_form, Token, Tokens, Stuck}
use Rattle.paper_tokens.proofs.Laws.LexicalTwin.{Lexed, tokens, stuck, lex_f, Is, lexed}

-- what a row says of its text: these tokens, each by its rule and its text; or stuck at this place
pub data Says : Type 0 where
  reads : List (Rule × String) → Says
  stops : ℕ → Says

pub data Shape : Type 0 where
  tokens_of : List (Rule × List ℕ) → Shape
  stuck_at : ℕ → Shape

abbrev shape : Lexed → Shape
shape (tokens ts) = tokens_of (map (λ (t : Token). (t.rule, t.bytes)) ts)
shape (stuck p) = stuck_at p

abbrev said : Says → Shape
said (reads rs) = tokens_of (map (λ (r : Rule × String). (r.0, bytes r.1)) rs)
said (stops p) = stuck_at p

pub record Row : Type 0 where
  pub text : String
  pub says : Says

infix 2 ◌↝◌
abbrev ◌↝◌ : String → Says → Row
t ↝ s = record { text = t; says = s }

unfoldable pub rows : List Row
rows =
    ("3-2" ↝ reads ((integer, "3") ∷ (integer, "-2") ∷ []))
    ∷ ("3 - 2" ↝ reads ((integer, "3") ∷ (reserved_word, "-") ∷ (integer, "2") ∷ []))
    ∷ ("- 5" ↝ reads ((reserved_word, "-") ∷ (integer, "5") ∷ []))
    ∷ ("--5" ↝ reads ((reserved_word, "-") ∷ (integer, "-5") ∷ []))
    ∷ ("1. .5 -.5 -1." ↝ reads ((float, "1.") ∷ (float, ".5") ∷ (float, "-.5") ∷ (float, "-1.") ∷ []))
    ∷ ("1.5e3 1.e5 1.d5" ↝ reads ((float, "1.5e3") ∷ (float, "1.e5") ∷ (float, "1.d5") ∷ []))
    ∷ ("1e5" ↝ reads ((integer, "1") ∷ (atom, "e5") ∷ []))
    ∷ ("1.5e-3" ↝ reads ((float, "1.5") ∷ (atom, "e") ∷ (integer, "-3") ∷ []))
    ∷ ("12abc" ↝ reads ((integer, "12") ∷ (atom, "abc") ∷ []))
    ∷ ("1.2.3" ↝ reads ((float, "1.2") ∷ (float, ".3") ∷ []))
    ∷ ("end plan.5" ↝ reads ((reserved_word, "end") ∷ (reserved_word, "plan") ∷ (float, ".5") ∷ []))
    ∷ ("-." ↝ reads ((reserved_word, "-") ∷ (reserved_word, ".") ∷ []))
    ∷ ("plan." ↝ reads ((reserved_word, "plan") ∷ (reserved_word, ".") ∷ []))
    ∷ ("planned _P x1" ↝ reads ((atom, "planned") ∷ (atom, "_P") ∷ (atom, "x1") ∷ []))
    ∷ ("'plan' \"plan\"" ↝ reads ((atom, "'plan'") ∷ (double_quoted_string, "\"plan\"") ∷ []))
    ∷ ("And AND and" ↝ reads ((atom, "And") ∷ (reserved_word, "AND") ∷ (reserved_word, "and") ∷ []))
    ∷ (":::" ↝ reads ((reserved_word, "::") ∷ (reserved_word, ":") ∷ []))
    ∷ ("<= =< ++ + !=" ↝ reads ((reserved_word, "<=") ∷ (reserved_word, "=<") ∷ (reserved_word, "++") ∷ (reserved_word, "+") ∷ (reserved_word, "!=") ∷ []))
    ∷ ("/****/" ↝ reads ([]))
    ∷ ("/** a **/b/** c **/" ↝ reads ((atom, "b") ∷ []))
    ∷ ("/**/" ↝ reads ((reserved_word, "/") ∷ (reserved_word, "*") ∷ (reserved_word, "*") ∷ (reserved_word, "/") ∷ []))
    ∷ ("/*** */" ↝ reads ((reserved_word, "/") ∷ (reserved_word, "*") ∷ (reserved_word, "*") ∷ (reserved_word, "*") ∷ (reserved_word, "*") ∷ (reserved_word, "/") ∷ []))
    ∷ ("'' \"\"" ↝ reads ((atom, "''") ∷ (double_quoted_string, "\"\"") ∷ []))
    ∷ ("'a\\'b'" ↝ reads ((atom, "'a\\'b'") ∷ []))
    ∷ ("a '\\\\'" ↝ stops 2)
    ∷ ("x \"unclosed" ↝ stops 2)
    ∷ ("<>" ↝ reads ((reserved_word, "<") ∷ (reserved_word, ">") ∷ []))
    ∷ ("a ! b" ↝ stops 2)
    ∷ ("a\n?" ↝ stops 2)
    ∷ []

-- the row's text has these tokens, or the reader is stuck at this place of it
abbrev pub Holds : Row → Type 0
Holds r = (x : Lexed) × Is (bytes r.text) 0 x × (shape x ≡ said r.says)

abbrev pub Every : List Row → Type 0
Every [] = Unit {0}
Every (r ∷ rs) = Holds r × Every rs

computed : map (λ (r : Row). shape (lex_f (bytes r.text))) rows ≡ map (λ (r : Row). said r.says) rows
unfolding rows reserved kind_of nul deriv bare_atom quoted_atom integer_form plain_float exponent float_form string_form white_form comment_form
computed = refl

each_row : (rs : List Row) → map (λ (r : Row). shape (lex_f (bytes r.text))) rs ≡ map (λ (r : Row). said r.says) rs → Every rs
each_row [] e = tt
each_row (r ∷ rs) e =
    let h : shape (lex_f (bytes r.text)) ≡ said r.says = cc in
    let t : map (λ (r : Row). shape (lex_f (bytes r.text))) rs ≡ map (λ (r : Row). said r.says) rs = cc in
    ((lex_f (bytes r.text), lexed (bytes r.text), h), each_row rs t)

pub worked_corners : Every rows
worked_corners = each_row rows computed
