-- The parts of an expression as a list, its texts one behind the other, the cells that they are, and what it is for them to stand somewhere.
-- Definitions only.
use Rattle.std.specs.Prelude.{◌≡◌, List, [], ◌∷◌, ◌++◌, ℕ, suc, ◌+◌, ◌≤◌, get_or, length}
use Rattle.paper_expressions.specs.Limits.{text_limit}
use Rattle.paper_expressions.specs.Values.{InLimit, InRealLimit}
use Rattle.paper_expressions.specs.Operators.{Op, arithmetic, divide, compare, and, or, includes, oneof, if, negate, isknown, not, count, sum, extreme, nth, is-in, no_such}
use Rattle.paper_expressions.specs.Expressions.{Expr, Exprs, Atom, IntegerLit, FloatLit, StringLit, Paren, Listing, Apply, ε, ◌▸◌}
use Rattle.parts.specs.Codes.{code}
use Rattle.parts.specs.Texts.{handle, moved}
use Rattle.parts.specs.Part.{Table, code_at, count_at, size_at, load_at, sizes, number_of}

pub record Part : Type 0 where
  pub kind : ℕ
  pub count : ℕ
  pub size : ℕ
  pub load : ℕ

abbrev pub part : ℕ → ℕ → ℕ → ℕ → Part
part k n s x = record { kind = k; count = n; size = s; load = x }

-- parts as cells, four each
abbrev pub flat : List Part → List ℕ
flat [] = []
flat (r ∷ rs) = r.kind ∷ r.count ∷ r.size ∷ r.load ∷ flat rs

-- the name of an operator that section 11 doesn't have; no other needs its own
abbrev pub name : Op → List ℕ
name (arithmetic o) = []
name divide = []
name (compare o) = []
name and = []
name or = []
name includes = []
name oneof = []
name if = []
name negate = []
name isknown = []
name not = []
name count = []
name sum = []
name (extreme e) = []
name nth = []
name (is-in s) = []
name (no_such n) = n

-- what an operator loads, where its name stands from o on
abbrev pub name_load : ℕ → Op → ℕ
name_load o (arithmetic k) = 0
name_load o divide = 0
name_load o (compare k) = 0
name_load o and = 0
name_load o or = 0
name_load o includes = 0
name_load o oneof = 0
name_load o if = 0
name_load o negate = 0
name_load o isknown = 0
name_load o not = 0
name_load o count = 0
name_load o sum = 0
name_load o (extreme k) = 0
name_load o nth = 0
name_load o (is-in s) = 0
name_load o (no_such n) = handle o (length n)

-- the texts of an expression, one behind the other
abbrev mutual
  pub spelling : Expr → List ℕ
  spelling (Atom a) = a
  spelling (IntegerLit n) = []
  spelling (FloatLit n) = []
  spelling (StringLit s) = s
  spelling (Paren e) = []
  spelling (Listing es) = spellings es
  spelling (Apply o es) = spellings es ++ name o

  pub spellings : Exprs → List ℕ
  spellings ε = []
  spellings (e ▸ es) = spelling e ++ spellings es

-- the parts of an expression, where its texts stand from o on
abbrev mutual
  pub encode : ℕ → Expr → List Part
  encode o (Atom a) = part 1 0 1 (handle o (length a)) ∷ []
  encode o (IntegerLit n) = part 2 0 1 (moved n) ∷ []
  encode o (FloatLit n) = part 3 0 1 (moved n) ∷ []
  encode o (StringLit s) = part 4 0 1 (handle o (length s)) ∷ []
  encode o (Paren e) = []
  encode o (Listing es) = encodes o es ++ (part 5 (number_of es) (suc (sizes es)) 0 ∷ [])
  encode o (Apply p es) = encodes o es ++ (part (code p) (number_of es) (suc (sizes es)) (name_load (o + length (spellings es)) p) ∷ [])

  pub encodes : ℕ → Exprs → List Part
  encodes o ε = []
  encodes o (e ▸ es) = encode o e ++ encodes (o + length (spelling e)) es

-- no parentheses, and texts and literals within the limits (document 01, How much fits)
abbrev mutual
  pub Fits : Expr → Type 0
  Fits (Atom a) = length a ≤ text_limit
  Fits (IntegerLit n) = InLimit n
  Fits (FloatLit n) = InRealLimit n
  Fits (StringLit s) = length s ≤ text_limit
  Fits (Paren e) = ⊥
  Fits (Listing es) = AllFit es
  Fits (Apply o es) = (length (name o) ≤ text_limit) × AllFit es

  pub AllFit : Exprs → Type 0
  AllFit ε = Unit {0}
  AllFit (e ▸ es) = Fits e × AllFit es

-- ---- what stands from a place on

module _ {A : Type 0} (P : ℕ → A → Type 0) where
  abbrev pub Stands : ℕ → List A → Type 0
  Stands a [] = Unit {0}
  Stands a (x ∷ xs) = P a x × Stands (suc a) xs

-- the bytes s stand in b
abbrev pub Spelt : List ℕ → ℕ → List ℕ → Type 0
Spelt b o s = Stands (λ i c. get_or b i 0 ≡ c) o s

-- the parts stand in the table
abbrev pub Is : Table → ℕ → Part → Type 0
Is t p r = (code_at t p ≡ r.kind) × (count_at t p ≡ r.count) × (size_at t p ≡ r.size) × (load_at t p ≡ r.load)

abbrev pub Laid : Table → ℕ → List Part → Type 0
Laid t a rs = Stands (Is t) a rs
