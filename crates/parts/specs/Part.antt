-- The part table, four cells a part, and when it holds an expression: in postfix order, operands before their operator. Definitions only.
use Rattle.std.specs.Prelude.{◌≡◌, List, ℕ, suc, ◌+◌, ◌*◌, ◌-◌, ◌<◌, get_or}
use Rattle.paper_expressions.specs.Operators.{Op, arithmetic, divide, compare, and, or, includes, oneof, if, negate, isknown, not, count, sum, extreme, nth, is-in, no_such}
use Rattle.paper_expressions.specs.Expressions.{Expr, Exprs, Atom, IntegerLit, FloatLit, StringLit, Paren, Listing, Apply, ε, ◌▸◌}
use Rattle.parts.specs.Codes.{kind}
use Rattle.parts.specs.Texts.{text_at_fn, literal}

-- the cells of all parts, and the bytes of all texts
pub record Table : Type 0 where
  pub cells : List ℕ
  pub bytes : List ℕ

abbrev pub table : List ℕ → List ℕ → Table
table x b = record { cells = x; bytes = b }

-- ---- the four cells of the part p: what it is, its number of operands, the parts of its whole expression, and what it loads

abbrev pub code_at : Table → ℕ → ℕ
code_at t p = get_or t.cells (p * 4) 0

abbrev pub count_at : Table → ℕ → ℕ
count_at t p = get_or t.cells (p * 4 + 1) 0

abbrev pub size_at : Table → ℕ → ℕ
size_at t p = get_or t.cells (p * 4 + 2) 0

abbrev pub load_at : Table → ℕ → ℕ
load_at t p = get_or t.cells (p * 4 + 3) 0

-- ---- the parts of an expression; a parenthesis is none

abbrev mutual
  pub size : Expr → ℕ
  size (Atom a) = 1
  size (IntegerLit n) = 1
  size (FloatLit n) = 1
  size (StringLit s) = 1
  size (Paren e) = size e
  size (Listing es) = suc (sizes es)
  size (Apply o es) = suc (sizes es)

  pub sizes : Exprs → ℕ
  sizes ε = 0
  sizes (e ▸ es) = size e + sizes es

abbrev pub number_of : Exprs → ℕ
number_of ε = 0
number_of (e ▸ es) = suc (number_of es)

-- an operator's operands, a list's elements
abbrev pub operands : Expr → Exprs
operands (Atom a) = ε
operands (IntegerLit n) = ε
operands (FloatLit n) = ε
operands (StringLit s) = ε
operands (Paren e) = ε
operands (Listing es) = es
operands (Apply o es) = es

-- ---- what the last part of an expression loads

abbrev pub OpLoad : List ℕ → Op → ℕ → Type 0
OpLoad b (arithmetic o) x = x ≡ 0
OpLoad b divide x = x ≡ 0
OpLoad b (compare o) x = x ≡ 0
OpLoad b and x = x ≡ 0
OpLoad b or x = x ≡ 0
OpLoad b includes x = x ≡ 0
OpLoad b oneof x = x ≡ 0
OpLoad b if x = x ≡ 0
OpLoad b negate x = x ≡ 0
OpLoad b isknown x = x ≡ 0
OpLoad b not x = x ≡ 0
OpLoad b count x = x ≡ 0
OpLoad b sum x = x ≡ 0
OpLoad b (extreme e) x = x ≡ 0
OpLoad b nth x = x ≡ 0
OpLoad b (is-in s) x = x ≡ 0
-- a functor name that section 11 doesn't have
OpLoad b (no_such n) x = text_at_fn b x ≡ n

abbrev pub Load : List ℕ → Expr → ℕ → Type 0
Load b (Atom a) x = text_at_fn b x ≡ a
Load b (IntegerLit n) x = literal x ≡ n
Load b (FloatLit n) x = literal x ≡ n
Load b (StringLit s) x = text_at_fn b x ≡ s
Load b (Paren e) x = ⊥
Load b (Listing es) x = x ≡ 0
Load b (Apply o es) x = OpLoad b o x

-- the part p of the table is the last of e
pub record Root (t : Table) (p : ℕ) (e : Expr) : Type 0 where
  pub kinds : code_at t p ≡ kind e
  pub counts : count_at t p ≡ number_of (operands e)
  pub sizes : size_at t p ≡ suc (sizes (operands e))
  pub loads : Load t.bytes e (load_at t p)

-- ---- the parts of the table from a on hold the expression

abbrev mutual
  pub Holds : Table → ℕ → Expr → Type 0
  Holds t a (Atom n) = Root t a (Atom n)
  Holds t a (IntegerLit n) = Root t a (IntegerLit n)
  Holds t a (FloatLit n) = Root t a (FloatLit n)
  Holds t a (StringLit s) = Root t a (StringLit s)
  Holds t a (Paren e) = ⊥
  Holds t a (Listing es) = HoldsAll t a es × Root t (a + sizes es) (Listing es)
  Holds t a (Apply o es) = HoldsAll t a es × Root t (a + sizes es) (Apply o es)

  pub HoldsAll : Table → ℕ → Exprs → Type 0
  HoldsAll t a ε = Unit {0}
  HoldsAll t a (e ▸ es) = Holds t a e × HoldsAll t (a + size e) es

-- the parts up to q, and not q itself, end with the expression
pub record Ends (t : Table) (q : ℕ) (e : Expr) : Type 0 where
  pub start : ℕ
  pub spans : start + size e ≡ q
  pub held : Holds t start e

-- ---- document 01, How much fits: "depth (an atom or constant is 1; each operator, call, list or parenthesis adds 1)" is at most d

abbrev mutual
  pub Within : ℕ → Expr → Type 0
  Within d (Atom a) = 0 < d
  Within d (IntegerLit n) = 0 < d
  Within d (FloatLit n) = 0 < d
  Within d (StringLit s) = 0 < d
  Within d (Paren e) = (0 < d) × Within (d - 1) e
  Within d (Listing es) = (0 < d) × Withins (d - 1) es
  Within d (Apply o es) = (0 < d) × Withins (d - 1) es

  pub Withins : ℕ → Exprs → Type 0
  Withins d ε = Unit {0}
  Withins d (e ▸ es) = Within d e × Withins d es
