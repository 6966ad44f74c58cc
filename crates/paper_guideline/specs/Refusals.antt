-- The refusals of load and their places (document 01, "Refusals and what they leave"): what breaks each stage, and the answer. Definitions only.
use Rattle.std.specs.Prelude.{ℕ, suc, ◌+◌, ◌-◌, ◌≤◌, ◌<◌, ◌≡◌, ◌⊎◌, List, [], ◌∷◌, map, nat_abs, length}
use Rattle.std.proofs.Math.Option.{none, some}
use Rattle.paper_expressions.specs.Limits.{integer_limit, real_limit, list_limit}
use Rattle.paper_expressions.specs.Limits as Values
use Rattle.paper_expressions.specs.Types.{Ty, Text, TruthValue, Promotes, inferred}
use Rattle.paper_expressions.specs.Expressions.{HasType}
use Rattle.paper_expressions.specs.View.{Item, View, At, ResolveData}
use Rattle.paper_expressions.specs.Clauses.{Clause}
use Rattle.paper_tokens.specs.Tokens.{“open”, “close”, “[”, “]”}
use Rattle.paper_grammar.specs.Nonterminals.{⟨process⟩}
use Rattle.paper_grammar.specs.Sentence.{FirstBad}
use Rattle.paper_tokens.specs.Lexical.{atom, integer, float, double_quoted_string, Token, Tokens, Stuck}
use Rattle.paper_tokens.specs.Terminals.{Terminal, Terminals, name}
use Rattle.paper_tokens.specs.Literals.{whole, thousandths, behind_point}
use Rattle.paper_guideline.specs.LeftOut.{LeftOut}
use Rattle.paper_guideline.specs.Structure.{Name, TopLevel, DataItem, Structure, tasks, data_items}
use Rattle.paper_guideline.specs.Parts.{Role, condition, wording, assigned_to, Typed, expressions, assignments, sources}
use Rattle.paper_guideline.specs.Limits
use Limits.{guideline_limit, token_limit, bracket_limit, task_limit, data_item_limit, part_limit, depth_limit, assignment_limit, source_limit, decimal_limit}
use Limits.{parts, depth, longest_list}
use Rattle.paper_guideline.specs.Names.{NameBreach}

-- ---- "Load tests 1, 2, then 6 for the count of tokens and for open brackets, 3, 10, then 6 for all else, 4, 5"

pub data Stage : Type 0 where
  text_stage lexical_stage count_stage grammar_stage left_out_stage limit_stage name_stage type_stage : Stage

abbrev pub turn : Stage → ℕ
turn text_stage = 0
turn lexical_stage = 1
turn count_stage = 2
turn grammar_stage = 3
turn left_out_stage = 4
turn limit_stage = 5
turn name_stage = 6
turn type_stage = 7

abbrev pub number : Stage → ℕ
number text_stage = 1
number lexical_stage = 2
number count_stage = 6
number grammar_stage = 3
number left_out_stage = 10
number limit_stage = 6
number name_stage = 4
number type_stage = 5

-- ---- brackets "open at once (round and square, over the tokens; a closing one takes one off, never below 0)"

pub data Opening (t : Token) : Type 0 where
  opens_round : Terminal t “open” → Opening t
  opens_square : Terminal t “[” → Opening t

pub data Closing (t : Token) : Type 0 where
  closes_round : Terminal t “close” → Closing t
  closes_square : Terminal t “]” → Closing t

-- with n brackets open before these tokens, the bracket at the place opens one too many
pub data TooManyOpen : ℕ → List Token → ℕ → Type 0 where
  one_too_many : {n : ℕ} {t : Token} {ts : List Token} → Opening t → bracket_limit ≤ n → TooManyOpen n (t ∷ ts) t.place
  one_more_open : {n p : ℕ} {t : Token} {ts : List Token} → Opening t → TooManyOpen (n + 1) ts p → TooManyOpen n (t ∷ ts) p
  one_fewer_open : {n p : ℕ} {t : Token} {ts : List Token} → Closing t → TooManyOpen (n - 1) ts p → TooManyOpen n (t ∷ ts) p
  as_many_open : {n p : ℕ} {t : Token} {ts : List Token} → ¬ Opening t → ¬ Closing t → TooManyOpen n ts p → TooManyOpen n (t ∷ ts) p

-- ---- the limits on one token

pub data TokenBreach (t : Token) : Type 0 where
  -- "text or name 48 bytes between its quotes"
  long_name : t.rule ≡ atom → Values.text_limit < length (name t) → TokenBreach t
  long_text : t.rule ≡ double_quoted_string → Values.text_limit < length (name t) → TokenBreach t
  -- "Integers lie within plus or minus 2,000,000. Reals are whole thousandths within plus or minus 2,000,000.000"
  large_integer : t.rule ≡ integer → integer_limit < nat_abs (whole t.bytes) → TokenBreach t
  large_real : t.rule ≡ float → real_limit < nat_abs (thousandths t.bytes) → TokenBreach t
  -- "a literal has at most three digits after the point"
  long_fraction : t.rule ≡ float → decimal_limit < length (behind_point t.bytes) → TokenBreach t

-- ---- the types (document 01, Types: "Three added rules")

-- the data items of the guideline, by name and declared type
abbrev pub declared_items : List TopLevel → View
declared_items g = record {
  items = map (λ (d : DataItem). record { name = d.named.spelt; declared = d.declared; value = none }) (data_items g);
  tasks = [];
}

pub data Fitting (v : View) (x : Typed) : Role → Type 0 where
  -- "a condition has type truth_value"
  fits_condition : HasType v x.attached x.expression.tree TruthValue → Fitting v x condition
  -- "a caption or description has type text"
  fits_wording : HasType v x.attached x.expression.tree Text → Fitting v x wording
  -- "an assigned expression has the item's type or promotes to it"
  fits_assigned : {n : Name} {c : Clause} {d : ℕ} {i : Item} {t : Ty}
      → ResolveData v x.attached n.spelt c (some d) → At v.items d i
      → HasType v x.attached x.expression.tree t → (t ≡ inferred i.declared) ⊎ Promotes t (inferred i.declared)
      → Fitting v x (assigned_to n)

-- ---- what breaks a stage, and at which place

abbrev pub total_parts : List Typed → ℕ
total_parts [] = 0
total_parts (x ∷ xs) = parts x.expression.tree + total_parts xs

-- the text's tokens, and their structure
pub record Read (text : List ℕ) (g : List TopLevel) : Type 0 where
  pub tokens : List Token
  pub its : Tokens text 0 tokens
  pub structure : Structure tokens g

-- Short: some lent table is shorter than its least length
pub data Breach (Short : Type 0) (text : List ℕ) : Stage → ℕ → Type 0 where
  -- 1: "text over 16,384 bytes, or a byte over 127"; "for 1 the byte"; "for 1 by length .. the text's length"
  high_byte : {p b : ℕ} → At text p b → 127 < b → Breach Short text text_stage p
  long : guideline_limit < length text → Breach Short text text_stage (length text)
  -- 2: "no lexical rule of section 2 matches at a place"; "for 2 where no rule matches"
  no_rule : {p : ℕ} → Stuck text p → Breach Short text lexical_stage p
  -- 6: the count of tokens, at the text's length; open brackets, "by one token or bracket, its first byte"
  many_tokens : {ts : List Token} → Tokens text 0 ts → token_limit < length ts → Breach Short text count_stage (length text)
  many_open : {ts : List Token} {p : ℕ} → Tokens text 0 ts → TooManyOpen 0 ts p → Breach Short text count_stage p
  -- 3: "the tokens are not a guideline by section 3.2", at "the first token that no guideline can have there (or the text's length)"
  bad_token : {ts : List Token} {ks : List ℕ} {i : ℕ} {t : Token}
      → Tokens text 0 ts → Terminals ts ks → FirstBad ⟨process⟩ ks i → At ts i t → Breach Short text grammar_stage t.place
  bad_end : {ts : List Token} {ks : List ℕ}
      → Tokens text 0 ts → Terminals ts ks → FirstBad ⟨process⟩ ks (length ts) → Breach Short text grammar_stage (length text)
  -- 10: "the guideline uses something left out above", at "the token that names the thing left out (of a colon name, the colon)"
  uses_left_out : {ts : List Token} {p : ℕ} → Tokens text 0 ts → LeftOut ts p → Breach Short text left_out_stage p
  -- 6: "a limit below is passed": by one token, its first byte
  token_breach : {ts : List Token} {i : ℕ} {t : Token} → Tokens text 0 ts → At ts i t → TokenBreach t → Breach Short text limit_stage t.place
  -- "by depth or list elements, the start of the outermost expression"
  too_deep : {g : List TopLevel} {i : ℕ} {x : Typed} → Read text g → At (expressions g) i x → depth_limit < depth x.expression.tree
      → Breach Short text limit_stage x.expression.start
  long_list : {g : List TopLevel} {i : ℕ} {x : Typed} → Read text g → At (expressions g) i x → list_limit < longest_list x.expression.tree
      → Breach Short text limit_stage x.expression.start
  -- "by a whole count or a short table, the text's length"
  many_tasks : {g : List TopLevel} → Read text g → task_limit < length (tasks g) → Breach Short text limit_stage (length text)
  many_data_items : {g : List TopLevel} → Read text g → data_item_limit < length (data_items g) → Breach Short text limit_stage (length text)
  many_parts : {g : List TopLevel} → Read text g → part_limit < total_parts (expressions g) → Breach Short text limit_stage (length text)
  many_assignments : {g : List TopLevel} → Read text g → assignment_limit < length (assignments g) → Breach Short text limit_stage (length text)
  many_sources : {g : List TopLevel} → Read text g → source_limit < length (sources g) → Breach Short text limit_stage (length text)
  short_table : Short → Breach Short text limit_stage (length text)
  -- 4: "a rule on names is broken", at "the name, the later of two, or the repeated attribute's word"
  name_breach : {g : List TopLevel} {p : ℕ} → Read text g → NameBreach g p → Breach Short text name_stage p
  -- 5: "some expression has no fitting type", at "the start of the outermost expression"
  no_type : {g : List TopLevel} {i : ℕ} {x : Typed} → Read text g → At (expressions g) i x → ¬ Fitting (declared_items g) x x.role
      → Breach Short text type_stage x.expression.start

-- ---- the answer: "each over the whole text before the next"; "The smallest place counts."

pub record Refused (Short : Type 0) (text : List ℕ) (n p : ℕ) : Type 0 where
  pub stage : Stage
  pub broken : Breach Short text stage p
  pub numbered : number stage ≡ n
  pub smallest : {q : ℕ} → Breach Short text stage q → p ≤ q
  pub first : {s : Stage} {q : ℕ} → turn s < turn stage → ¬ Breach Short text s q

pub data Answer : Type 0 where
  loads : Answer
  refused : ℕ → ℕ → Answer

pub data Answers (Short : Type 0) (text : List ℕ) : Answer → Type 0 where
  is_loaded : {g : List TopLevel} → Read text g → ((s : Stage) (q : ℕ) → ¬ Breach Short text s q) → Answers Short text loads
  is_refused : {n p : ℕ} → Refused Short text n p → Answers Short text (refused n p)
