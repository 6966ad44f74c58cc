-- What the tests from the grammar to the limits have to find: each test alone, and all in their order. Definitions only.
use Rattle.std.specs.Prelude.{ℕ, ◌*◌, ◌≤◌, ◌<◌, ◌≡◌, Bool, true, false, ◌||◌, List, ltb, length, get_or, Option, Some, None, Result, Ok, Err}
use Rattle.std.proofs.Math.Option.{Option as Maybe, none, some}
use Rattle.paper_guideline.specs.Limits.{guideline_limit, token_limit, task_limit, data_item_limit, part_limit, assignment_limit, source_limit}
use Rattle.paper_grammar.specs.Nonterminals.{⟨process⟩}
use Rattle.paper_grammar.specs.Sentence.{SentenceOf, FirstBad}
use Rattle.paper_tokens.specs.Lexical as Lexical
use Rattle.paper_guideline.specs.Structure.{TopLevel, Structure}
use Rattle.paper_guideline.specs.Refusals as Refusals
use Rattle.leaves.specs.Source.{source, Stand}
use Rattle.columns.specs.Columns.{Lexed}
use Rattle.limits.specs.Limits.{row_cells}
use Rattle.parts.specs.Part.{Table}
use Rattle.blank.specs.Zeros.{zeros}
use Rattle.guideline_rows.specs.Rows.{flatten}
use Rattle.guideline_rows.specs.Encoded.{Encoded}
use Rattle.guideline_rows.specs.OneEncoding.{AsLong}
use Rattle.guideline_walk.specs.declared.Totals.{Totals}
use Rattle.guideline_walk.specs.Surveyed.{Surveyed}
use Rattle.stages.specs.declared.Refused.{Refused}
use Rattle.stages.specs.Least.{Least}
use Rattle.stages.specs.Stages.{Passed, Turned}
use Rattle.stages.specs.Limits.{Over}

-- a place, or none
abbrev pub spot : Option ℕ → Maybe ℕ
spot (Some p) = some p
spot None = none

-- ---- 3

pub record Places (text kinds places : List ℕ) (i r : ℕ) : Type 0 where
  pub inside : i < length kinds → r ≡ get_or places i 0
  pub behind : length kinds ≤ i → r ≡ length text

-- the i-th token is the first bad one, and stands at p
pub record BadAt (text kinds places : List ℕ) (p : ℕ) : Type 0 where
  pub index : ℕ
  pub bad : FirstBad ⟨process⟩ kinds index
  pub place : Places text kinds places index p

abbrev pub Sentences : List ℕ → List ℕ → List ℕ → Option ℕ → Type 0
Sentences text kinds places (Some p) = length kinds ≤ token_limit → BadAt text kinds places p
Sentences text kinds places None = SentenceOf ⟨process⟩ kinds

-- ---- 6

abbrev pub Large : Totals → Option ℕ → Type 0
Large t (Some p) = (t.large ≡ true) × (p ≡ t.place)
Large t None = t.large ≡ false

pub data SomeOver (t : Totals) (short : Bool) : Type 0 where
  tasks : task_limit < t.tasks → SomeOver t short
  items : data_item_limit < t.items → SomeOver t short
  parts : part_limit < t.parts → SomeOver t short
  assignments : assignment_limit < t.assignments → SomeOver t short
  sources : source_limit < t.sources → SomeOver t short
  tables : short ≡ true → SomeOver t short

pub record NoneOver (t : Totals) (short : Bool) : Type 0 where
  pub tasks : t.tasks ≤ task_limit
  pub items : t.items ≤ data_item_limit
  pub parts : t.parts ≤ part_limit
  pub assignments : t.assignments ≤ assignment_limit
  pub sources : t.sources ≤ source_limit
  pub tables : short ≡ false

abbrev pub AnyOver : Totals → Bool → Bool → Type 0
AnyOver t short true = SomeOver t short
AnyOver t short false = NoneOver t short

abbrev pub Whole : List ℕ → Totals → Bool → Option ℕ → Type 0
Whole text t short (Some p) = SomeOver t short × (p ≡ length text)
Whole text t short None = NoneOver t short

abbrev pub OverLimits : List ℕ → List ℕ → List ℕ → List ℕ → Totals → Bool → Option ℕ → Type 0
OverLimits text kinds places lengths t short r =
    (ts : List Lexical.Token) (g : List TopLevel) (its : Lexical.Tokens text 0 ts) → Stand (source text kinds places lengths) 0 ts → (s : Structure ts g) → Surveyed g t
    → Least (Over (short ≡ true) text its s) (spot r)

-- ---- the whole

-- a lent table, of so many cells, is shorter than its least length
abbrev pub is_short : ℕ → ℕ → ℕ → Bool
is_short rows cells bytes = ltb rows row_cells || (ltb cells (part_limit * 4) || ltb bytes guideline_limit)

abbrev pub Short : List ℕ → Table → Type 0
Short x t = is_short (length x) (length t.cells) (length t.bytes) ≡ true

-- the one empty pattern: all cells of tables as long as x and t are zero
pub record Empty (x : List ℕ) (t : Table) (x' : List ℕ) (t' : Table) : Type 0 where
  pub rows : x' ≡ zeros x
  pub parts : t'.cells ≡ zeros t.cells
  pub bytes : t'.bytes ≡ zeros t.bytes

-- the text has its structure, breaks no stage up to the limits, and the tables hold it, n rows, cell by cell
pub record Accepted (text x : List ℕ) (t : Table) (x' : List ℕ) (t' : Table) (n : ℕ) : Type 0 where
  pub guideline : List TopLevel
  pub read : Refusals.Read text guideline
  pub passed : Passed (Short x t) text 5
  pub count : n ≡ length (flatten guideline)
  pub long : AsLong x' x t' t
  pub encoded : Encoded (flatten guideline) x' t'

-- a refusal by its number and place
abbrev pub refusal : ℕ → ℕ → Refused
refusal n p = record { number = n; place = p }

-- the tables x, t before, and x', t' after
abbrev pub Outcome : List ℕ → List ℕ → Table → List ℕ → Table → Result ℕ Refused → Type 0
Outcome text x t x' t' (Ok n) = Accepted text x t x' t' n
Outcome text x t x' t' (Err r) = Turned (Short x t) text r.number r.place × Empty x t x' t'

-- over blank tables, where the tokens are a guideline of which nothing is left out
pub record Limited (text kinds places lengths x : List ℕ) (t : Table) (x' : List ℕ) (t' : Table) (r : Result ℕ Refused) : Type 0 where
  pub outcome : (l : Lexed text kinds places lengths) (g : List TopLevel) → Structure l.tokens g → Passed (Short x t) text 4 → Empty x t x t → Outcome text x t x' t' r

-- over blank tables
pub record Judges (text kinds places lengths x : List ℕ) (t : Table) (x' : List ℕ) (t' : Table) (r : Result ℕ Refused) : Type 0 where
  pub outcome : Lexed text kinds places lengths → Empty x t x t → Outcome text x t x' t' r
