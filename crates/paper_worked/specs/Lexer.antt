-- The tokens of a text, computed quickly: a walk over the bytes that keeps what each rule still asks for, and stops where none can go on. What it finds are the text's tokens (proofs/LexerLaws.antt).
use Rattle.std.specs.Prelude.{ℕ, zero, suc, ◌+◌, ◌≤◌, ◌≡◌, Bool, true, false, cond, ◌&&◌, ◌||◌, eqb, length, take, drop}
use Prim.Native.String.{String}
use Rattle.std.proofs.Math.Option.{Option, none, some}
use mathlib.Core.List.{List, [], ◌∷◌}
use Rattle.paper_expressions.specs.Bytes.{bytes}
use Rattle.paper_tokens.specs.Kinds.{kind_of}
use Rattle.paper_tokens.specs.Forms.{Form, never, empty, any, one, ◌then◌, ◌or◌, many, no}
use Rattle.paper_tokens.specs.Words.{reserved}
use Rattle.paper_tokens.specs.Lexical.{Rule, reserved_word, atom, integer, float, double_quoted_string, white_space, comment, order, bare_atom, quoted_atom, integer_form, float_form, string_form, white_form, comment_form}
use Rattle.paper_tokens.specs.Lexical.{Token, Tokens}
use Rattle.paper_tokens.proofs.Laws.FormsLaws.{deriv, match_f}
use Rattle.paper_tokens.proofs.Laws.LexicalTwin.{same, skipped}

-- ---- what the rules still ask for, behind some bytes

pub record Left : Type 0 where
  pub words : List (List ℕ)
  pub atoms : Form
  pub integers : Form
  pub floats : Form
  pub strings : Form
  pub blanks : Form
  pub comments : Form

-- w is one of these words
abbrev pub found : List ℕ → List (List ℕ) → Bool
found w [] = false
found w (v ∷ l) = same w v || found w l

-- the rule matches w
abbrev pub matches : Rule → Left → List ℕ → Bool
matches reserved_word l w = found w l.words
matches atom l w = match_f l.atoms w
matches integer l w = match_f l.integers w
matches float l w = match_f l.floats w
matches double_quoted_string l w = match_f l.strings w
matches white_space l w = match_f l.blanks w
matches comment l w = match_f l.comments w

-- what is left of the words that begin with the byte
abbrev pub words_behind : ℕ → List (List ℕ) → List (List ℕ)
words_behind b [] = []
words_behind b ([] ∷ l) = words_behind b l
words_behind b ((c ∷ v) ∷ l) = cond (eqb b c) (v ∷ words_behind b l) (words_behind b l)

abbrev pub behind : ℕ → Left → Left
behind b l = let k = kind_of b in record {
  words = words_behind b l.words;
  atoms = deriv k l.atoms;
  integers = deriv k l.integers;
  floats = deriv k l.floats;
  strings = deriv k l.strings;
  blanks = deriv k l.blanks;
  comments = deriv k l.comments;
}

-- ---- at the start of a token

abbrev pub whole_words : List (ℕ × String) → List (List ℕ)
whole_words [] = []
whole_words (e ∷ l) = bytes e.1 ∷ whole_words l

abbrev pub start : Left
start = record {
  words = whole_words reserved;
  atoms = bare_atom or quoted_atom;
  integers = integer_form;
  floats = float_form;
  strings = string_form;
  blanks = white_form;
  comments = comment_form;
}

-- ---- no rule can go on

abbrev pub gone : Form → Bool
gone never = true
gone empty = false
gone any = false
gone (one ks) = false
gone (x then y) = false
gone (x or y) = false
gone (many x) = false
gone (no x) = false

abbrev pub no_word : List (List ℕ) → Bool
no_word [] = true
no_word (w ∷ l) = false

abbrev pub dead : Left → Bool
dead l = gone l.atoms && (gone l.integers && (gone l.floats && (gone l.strings && (gone l.blanks && (gone l.comments && no_word l.words)))))

-- ---- the first rule, in their order, that is matched here

abbrev pub or_next : Bool → Rule → Option Rule → Option Rule
or_next true r o = some r
or_next false r o = o

abbrev pub first_f : Left → Option Rule
first_f l =
    or_next (matches reserved_word l []) reserved_word
    (or_next (matches atom l []) atom
    (or_next (matches integer l []) integer
    (or_next (matches float l []) float
    (or_next (matches double_quoted_string l []) double_quoted_string
    (or_next (matches white_space l []) white_space
    (or_next (matches comment l []) comment none))))))

pub data First (p : Rule → Bool) (i : ℕ) : Option Rule → Type 0 where
  is_first : {r : Rule} → p r ≡ true → ((s : Rule) → i ≤ order s → p s ≡ true → order r ≤ order s) → First p i (some r)
  no_first : ((s : Rule) → i ≤ order s → p s ≡ true → ⊥) → First p i none

-- ---- the longest match, of these bytes or more

abbrev pub one_longer : Option (Rule × ℕ) → Option (Rule × ℕ)
one_longer none = none
one_longer (some b) = some (b.0, suc b.1)

abbrev pub or_here : Option (Rule × ℕ) → Option Rule → Option (Rule × ℕ)
or_here (some b) o = some b
or_here none none = none
or_here none (some r) = some (r, 0)

-- of at least one byte
abbrev pub longer : Left → List ℕ → Option (Rule × ℕ)
longer l [] = none
longer l (b ∷ w) = let m = behind b l in cond (dead m) none (one_longer (or_here (longer m w) (first_f m)))

-- of the parts of w with at least so many bytes
pub record Most (l : Left) (w : List ℕ) (least : ℕ) (b : Rule × ℕ) : Type 0 where
  pub fits : matches b.0 l (take b.1 w) ≡ true
  pub enough : least ≤ b.1
  pub inside : b.1 ≤ length w
  pub most : (s : Rule) (k : ℕ) → least ≤ k → k ≤ length w → matches s l (take k w) ≡ true → k ≤ b.1
  pub first : (s : Rule) → matches s l (take b.1 w) ≡ true → order b.0 ≤ order s

pub data LongestOf (l : Left) (w : List ℕ) (least : ℕ) : Option (Rule × ℕ) → Type 0 where
  a_longest : {b : Rule × ℕ} → Most l w least b → LongestOf l w least (some b)
  no_longest : ((s : Rule) (k : ℕ) → least ≤ k → k ≤ length w → matches s l (take k w) ≡ true → ⊥) → LongestOf l w least none

-- ---- the tokens, in at most n steps; none where no rule matches

abbrev pub with_token : Token → Option (List Token) → Option (List Token)
with_token t none = none
with_token t (some ts) = some (t ∷ ts)

abbrev pub goes : ℕ → List ℕ → Option (Rule × ℕ) → (ℕ → Option (List Token)) → Option (List Token)
goes at w none f = none
goes at w (some b) f = cond (skipped b.0) (f b.1) (with_token (record { rule = b.0; place = at; bytes = take b.1 w }) (f b.1))

abbrev pub tokens_from : ℕ → ℕ → List ℕ → Option (List Token)
tokens_from zero at w = none
tokens_from (suc n) at [] = some []
tokens_from (suc n) at (b ∷ w) = goes at (b ∷ w) (longer start (b ∷ w)) (λ m. tokens_from n (at + m) (drop m (b ∷ w)))

abbrev pub tokens_f : List ℕ → Option (List Token)
tokens_f text = tokens_from (suc (length text)) 0 text

abbrev pub Are : List ℕ → ℕ → Option (List Token) → Type 0
Are text at none = Unit {0}
Are text at (some ts) = Tokens text at ts
