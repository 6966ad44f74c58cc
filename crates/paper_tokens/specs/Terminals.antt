-- Which terminal of the grammar a token is (3.1 and the note of 3.3). Definitions only.
use Rattle.std.specs.Prelude.{ℕ, ◌≡◌}
use Prim.Native.String.{String}
use mathlib.Core.List.{List, [], ◌∷◌, Memᴰ}
use Rattle.paper_expressions.specs.Bytes.{bytes}
use Rattle.paper_tokens.specs.Tokens.{‘other-atom’, ‘yes-or-no’, ‘data-type’, ‘integer’, ‘float’, ‘double-quoted-string’}
use Rattle.paper_tokens.specs.Words.{yes_or_no, data_types}
use Rattle.paper_tokens.specs.Lexical.{reserved_word, atom, integer, float, double_quoted_string, Reserved, Token, inner}

-- w is one of these texts
pub record OneOf (w : List ℕ) (texts : List String) : Type 0 where
  pub string : String
  pub listed : Memᴰ string texts
  pub same : w ≡ bytes string

-- the name that an atom is    (01: "A quoted atom and a bare one with the same inner characters are the same name")
abbrev pub name : Token → List ℕ
name t = inner t.bytes

-- 3.1: "Text strings enclosed in double quotes represent reserved words recognized by the lexical analyser"
pub data Terminal (t : Token) : ℕ → Type 0 where
  a_reserved_word : {k : ℕ} → t.rule ≡ reserved_word → Reserved t.bytes k → Terminal t k
  -- 3.3: "<yes_or_no> must be an atom and .. this atom must be one of the strings "yes" or "no""
  yes_no : t.rule ≡ atom → OneOf (name t) yes_or_no → Terminal t ‘yes-or-no’
  -- 3.3: "<data_type> must be one of the atoms "text", "integer", .."
  a_data_type : t.rule ≡ atom → OneOf (name t) data_types → Terminal t ‘data-type’
  -- any other atom; yes, no and the names of types "are not PROforma reserved words" and stand where an atom may
  another_atom : t.rule ≡ atom → ¬ OneOf (name t) yes_or_no → ¬ OneOf (name t) data_types → Terminal t ‘other-atom’
  an_integer : t.rule ≡ integer → Terminal t ‘integer’
  a_float : t.rule ≡ float → Terminal t ‘float’
  a_string : t.rule ≡ double_quoted_string → Terminal t ‘double-quoted-string’

pub data Terminals : List Token → List ℕ → Type 0 where
  none : Terminals [] []
  next : {t : Token} {ts : List Token} {k : ℕ} {ks : List ℕ} → Terminal t k → Terminals ts ks → Terminals (t ∷ ts) (k ∷ ks)
