-- The small program of document 01 ("Sheet of worked examples"): what it answers for a line, and the bytes that it writes. Definitions only.
use Rattle.std.specs.Prelude.{ℕ, zero, suc, ◌+◌, ◌<◌, ◌/◌, ◌%◌, ◌≡◌, Bool, true, false, cond, List, [], ◌∷◌, ◌++◌, eqb, ltb, ℤ, pos, negsuc, length}
use Prim.Native.String.{String}
use Rattle.paper_expressions.specs.Bytes.{bytes}
use Rattle.paper_expressions.specs.Limits.{list_limit}
use Rattle.paper_expressions.specs.Values.{Scalar, unknown, truth, integer, real, text, Value, one, sequence}
use Rattle.paper_expressions.specs.Types.{Ty, Text, Integer, Real, SetofText, SetofReal, SetofInteger, SetofAnything, TruthValue}
use Rattle.paper_expressions.specs.Clauses.{Clause}
use Rattle.paper_expressions.specs.View.{View, At}
use Rattle.paper_expressions.specs.Expressions.{Expr, HasType}
use Rattle.paper_expressions.specs.Evaluation.{Evaluates}
use Rattle.paper_grammar.specs.Nonterminals.{⟨expression⟩}
use Rattle.paper_grammar.specs.Sentence.{SentenceOf}
use Rattle.paper_tokens.specs.Lexical.{Token, Tokens, Stuck}
use Rattle.paper_tokens.specs.Terminals.{Terminals}
use Rattle.paper_guideline.specs.Tree.{anywhere, Tree}
use Rattle.paper_guideline.specs.LeftOut.{LeftOut}
use Rattle.paper_guideline.specs.Limits.{guideline_limit, token_limit, depth_limit, part_limit, parts, depth, longest_list}
use Rattle.paper_guideline.specs.Refusals
use Refusals.{Stage, text_stage, lexical_stage, count_stage, grammar_stage, left_out_stage, limit_stage, type_stage, turn, number, TooManyOpen, TokenBreach}

-- ---- "A small program reads one expression a line, without data items, under the same limits and refusals."

abbrev pub no_items : View
no_items = record { items = []; tasks = [] }

-- the line is one expression, and this is its tree
pub record LineTree (line : List ℕ) (e : Expr) : Type 0 where
  pub tokens : List Token
  pub its : Tokens line 0 tokens
  pub tree : Tree anywhere 1 tokens [] e

pub data LineBreach (line : List ℕ) : Stage → Type 0 where
  line_high_byte : {p b : ℕ} → At line p b → 127 < b → LineBreach line text_stage
  line_long : guideline_limit < length line → LineBreach line text_stage
  line_no_rule : {p : ℕ} → Stuck line p → LineBreach line lexical_stage
  line_many_tokens : {ts : List Token} → Tokens line 0 ts → token_limit < length ts → LineBreach line count_stage
  line_many_open : {ts : List Token} {p : ℕ} → Tokens line 0 ts → TooManyOpen 0 ts p → LineBreach line count_stage
  line_no_expression : {ts : List Token} {ks : List ℕ} → Tokens line 0 ts → Terminals ts ks → ¬ SentenceOf ⟨expression⟩ ks → LineBreach line grammar_stage
  line_left_out : {ts : List Token} {p : ℕ} → Tokens line 0 ts → LeftOut ts p → LineBreach line left_out_stage
  line_token : {ts : List Token} {i : ℕ} {t : Token} → Tokens line 0 ts → At ts i t → TokenBreach t → LineBreach line limit_stage
  line_deep : {e : Expr} → LineTree line e → depth_limit < depth e → LineBreach line limit_stage
  line_long_list : {e : Expr} → LineTree line e → list_limit < longest_list e → LineBreach line limit_stage
  line_many_parts : {e : Expr} → LineTree line e → part_limit < parts e → LineBreach line limit_stage
  line_no_type : {e : Expr} → LineTree line e → ((t : Ty) → ¬ HasType no_items 0 e t) → LineBreach line type_stage

pub data LineAnswer : Type 0 where
  refused : ℕ → LineAnswer
  gives : Ty → Value → LineAnswer

pub data LineAnswers (line : List ℕ) : LineAnswer → Type 0 where
  line_refused : {s : Stage} → LineBreach line s → ((r : Stage) → turn r < turn s → ¬ LineBreach line r) → LineAnswers line (refused (number s))
  line_gives : {e : Expr} {t : Ty} {cs : List Clause} {v : Value} → ((s : Stage) → ¬ LineBreach line s)
      → LineTree line e → HasType no_items 0 e t → Evaluates no_items 0 e cs v → LineAnswers line (gives t v)

-- ---- what it writes

abbrev pub type_name : Ty → String
type_name Text = "text"
type_name Integer = "integer"
type_name Real = "real"
type_name SetofText = "setof_text"
type_name SetofReal = "setof_real"
type_name SetofInteger = "setof_integer"
type_name SetofAnything = "setof_anything"
type_name TruthValue = "truth_value"

-- the last n decimal digits of a number, zeros in front
abbrev pub last_digits : ℕ → ℕ → List ℕ
last_digits zero m = []
last_digits (suc n) m = last_digits n (m / 10) ++ ((48 + m % 10) ∷ [])

-- its decimal digits, of at most n
abbrev pub digits_in : ℕ → ℕ → List ℕ
digits_in zero m = []
digits_in (suc n) m = cond (ltb m 10) ((48 + m) ∷ []) (digits_in n (m / 10) ++ ((48 + m % 10) ∷ []))

abbrev pub digits_of : ℕ → List ℕ
digits_of m = digits_in 20 m

-- with its sign
abbrev pub with_sign : (ℕ → List ℕ) → ℤ → List ℕ
with_sign f (pos n) = f n
with_sign f (negsuc n) = 45 ∷ f (suc n)

-- thousandths: the whole part, a point, three digits
abbrev pub with_point : ℕ → List ℕ
with_point m = digits_of (m / 1000) ++ 46 ∷ last_digits 3 m

-- "Text is written bare, unknown as that word, a list as `[1, unknown]`."
abbrev pub scalar_written : Scalar → List ℕ
scalar_written unknown = bytes "unknown"
scalar_written (truth true) = bytes "true"
scalar_written (truth false) = bytes "false"
scalar_written (integer z) = with_sign digits_of z
scalar_written (real z) = with_sign with_point z
scalar_written (text s) = s

abbrev pub more_written : List Scalar → List ℕ
more_written [] = bytes "]"
more_written (s ∷ l) = bytes ", " ++ scalar_written s ++ more_written l

-- "a list as `[1, unknown]`"
abbrev pub value_written : Value → List ℕ
value_written (one s) = scalar_written s
value_written (sequence []) = bytes "[]"
value_written (sequence (s ∷ l)) = bytes "[" ++ scalar_written s ++ more_written l

-- the answer of a line, behind its number
abbrev pub answer_written : LineAnswer → List ℕ
answer_written (refused n) = bytes "refused " ++ digits_of n
answer_written (gives t v) = bytes (type_name t) ++ 32 ∷ value_written v

-- ---- "it writes exactly": the header, and for each line, counted from 1, its number and its answer

-- what stands before each newline (10), and behind the last one if any byte does
abbrev last_line : List ℕ → List (List ℕ)
last_line [] = []
last_line (b ∷ l) = (b ∷ l) ∷ []

abbrev pub lines_from : List ℕ → List ℕ → List (List ℕ)
lines_from begun [] = last_line begun
lines_from begun (b ∷ w) = cond (eqb b 10) (begun ∷ lines_from [] w) (lines_from (begun ++ (b ∷ [])) w)

abbrev pub lines : List ℕ → List (List ℕ)
lines input = lines_from [] input

pub data Writes : ℕ → List (List ℕ) → List ℕ → Type 0 where
  no_more_lines : {n : ℕ} → Writes n [] []
  next_line : {n : ℕ} {line rest : List ℕ} {more : List (List ℕ)} {a : LineAnswer}
      → LineAnswers line a → Writes (n + 1) more rest → Writes n (line ∷ more) (digits_of n ++ (32 ∷ answer_written a) ++ (10 ∷ rest))

pub data Output (input : List ℕ) : List ℕ → Type 0 where
  output : {rest : List ℕ} → Writes 1 (lines input) rest → Output input (bytes "line type value" ++ (10 ∷ rest))
