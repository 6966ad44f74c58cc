-- What is told of a bare name: whether it is told, how often it stands there, and what it may have been meant for. Definitions only.
use Rattle.std.specs.Prelude.{ℕ, zero, suc, ◌+◌, ◌<◌, ◌≡◌, Bool, true, false, cond, not, ◌&&◌, ◌||◌, List, [], ◌++◌, leb, length, get_or, take, drop}
use Rattle.paper_expressions.specs.Bytes.{folded}
use Rattle.paper_expressions.specs.Limits.{text_limit}
use Rattle.paper_tokens.specs.Lexical.{inner}
use Rattle.parts.specs.Texts.{cells}
use Rattle.sentences.specs.Alike.{like}
use Rattle.explain_rows.specs.Firsts.{First}
use Rattle.bare_tokens.specs.declared.Counts.{Counts}
use Rattle.bare_names.specs.declared.told.Meant.{Meant}
use Rattle.bare_names.specs.declared.told.Meant.TheVariants.{Task, Item, Name, Nothing}

-- ---- the name of a token

-- n bytes of the text at a place, without their quotes and A to Z folded, as many as a name may have
abbrev pub spelling : List ℕ → ℕ → ℕ → List ℕ
spelling text at n = cond (leb (at + n) (length text)) (folded (take text_limit (inner (cells text at n)))) []

-- the name that the token i is
abbrev pub token_name : List ℕ → List ℕ → List ℕ → ℕ → List ℕ
token_name text places lengths i = spelling text (get_or places i 0) (get_or lengths i 0)

-- it stands in front, with r bytes, and the cells behind are as they were
pub record Named (text places lengths : List ℕ) (i : ℕ) (out out' : List ℕ) (r : ℕ) : Type 0 where
  pub count : r ≡ length (token_name text places lengths i)
  pub cells : out' ≡ token_name text places lengths i ++ drop r out

-- ---- searches in a list of tokens

-- one of the numbers below `to` passes
abbrev pub among : (ℕ → Bool) → ℕ → Bool
among f zero = false
among f (suc n) = f n || among f n

-- ---- one name, over the tokens of a text

module _ (text places lengths : List ℕ) where
  -- the j-th token of a list has the name w, or is a slip for it
  abbrev pub met_at : Bool → List ℕ → List ℕ → ℕ → Bool
  met_at slip w list j = like slip w (token_name text places lengths (get_or list j 0))

  -- the k-th bare name is told: no data item has the name w, and none of the bare names before it
  abbrev pub is_new : List ℕ → List ℕ → Counts → ℕ → List ℕ → Bool
  is_new items names c k w = not (among (met_at false w items) c.items) && not (among (met_at false w names) k)

  -- whether a name was told by the k-th
  abbrev pub told_by : List ℕ → List ℕ → Counts → ℕ → Bool → Bool
  told_by items names c k told = told || is_new items names c k (token_name text places lengths (get_or names k 0))

  -- what the name w may have been meant for: that of a task; the first data item that is a slip away; the first bare name that is; or nothing
  abbrev pub Means : List ℕ → List ℕ → List ℕ → Counts → List ℕ → Meant → Type 0
  Means items tasks names c w Task = among (met_at false w tasks) c.tasks ≡ true
  Means items tasks names c w (Item j) = (among (met_at false w tasks) c.tasks ≡ false) × (j < c.items) × First (met_at true w items) c.items j
  Means items tasks names c w (Name k) =
      (among (met_at false w tasks) c.tasks ≡ false) × (among (met_at true w items) c.items ≡ false)
      × (k < c.bare) × First (met_at true w names) c.bare k
  Means items tasks names c w Nothing =
      (among (met_at false w tasks) c.tasks ≡ false) × (among (met_at true w items) c.items ≡ false)
      × (among (met_at true w names) c.bare ≡ false)
