-- How the sentences of section 2 are written down, and which parts of a text each form matches. Definitions only.
use Rattle.std.specs.Prelude.{ℕ, ◌≡◌, Bool, true, false, ◌||◌, List, [], ◌∷◌, ◌++◌, ◌⊎◌, eqb}
use Rattle.paper_tokens.specs.Kinds.{kind_of}

infixr 20 ◌then◌
infixr 10 ◌or◌
pub data Form : Type 0 where
  -- no text (what is left of a form behind a byte that it cannot have); the text with no byte; any text; one byte of one of these kinds
  never empty any : Form
  one : List ℕ → Form
  -- one form after the other; either; zero or more times; any text but these
  ◌then◌ ◌or◌ : Form → Form → Form
  many no : Form → Form

abbrev pub is_in : ℕ → List ℕ → Bool
is_in k [] = false
is_in k (j ∷ ks) = eqb k j || is_in k ks

-- w is one byte, of one of these kinds
pub record One (ks w : List ℕ) : Type 0 where
  pub byte : ℕ
  pub is : w ≡ byte ∷ []
  pub of_kind : is_in (kind_of byte) ks ≡ true

-- w is a part in P and then a part in Q
pub record Then (P Q : List ℕ → Type 0) (w : List ℕ) : Type 0 where
  pub first : List ℕ
  pub rest : List ℕ
  pub is : w ≡ first ++ rest
  pub is_first : P first
  pub is_rest : Q rest

-- w is any number of parts in P, one after the other
pub data Many (P : List ℕ → Type 0) : List ℕ → Type 0 where
  stop : Many P []
  more : {w : List ℕ} (u v : List ℕ) → w ≡ u ++ v → P u → Many P v → Many P w

unfoldable pub Match : Form → List ℕ → Type 0
Match never w = ⊥
Match empty w = w ≡ []
Match any w = Unit {0}
Match (one ks) w = One ks w
Match (x then y) w = Then (Match x) (Match y) w
Match (x or y) w = Match x w ⊎ Match y w
Match (many x) w = Many (Match x) w
Match (no x) w = ¬ Match x w

-- "optional", "one or more"
abbrev pub opt : Form → Form
opt x = empty or x

abbrev pub some : Form → Form
some x = x then many x
