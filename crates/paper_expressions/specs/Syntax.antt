-- The operators of the first edition, and the trees of expressions. Definitions only.
-- They rest on no Properties table, so that a view of one can come to hold expressions (arguments: request 1/13; parameters: 8/13).
use Rattle.std.specs.Prelude.{List, ℕ, ℤ}
use Rattle.paper_expressions.specs.Values.{TaskState}

-- ---- the operators of section 11: their types and evaluation functions are in Operators

-- 11.1.1  "+", "-", "*"
pub data Arithmetic : Type 0 where
  plus minus times : Arithmetic

-- 11.1.3  ">", "<", ">=" or "=>", "<=" or "=<", "=", "!="      (01: "<> is not in the grammar and is no token.")
pub data Comparison : Type 0 where
  is> is< is>= is<= is= is!= : Comparison

-- 11.2.7  "max"  and  11.2.8  "min"
pub data Extreme : Type 0 where
  max min : Extreme

pub data Op : Type 0 where
  arithmetic : Arithmetic → Op
  divide : Op
  compare : Comparison → Op
  and or includes oneof : Op
  if negate isknown not count sum : Op
  extreme : Extreme → Op
  nth : Op
  is-in : TaskState → Op
  -- 01: "a functor name that section 11 doesn't have has no type (5)"
  no_such : List ℕ → Op

-- ---- <expression>: an atom or a text by its bytes between the quotes, a float in thousandths; E1 Op E2 and Op(E1, .., En) are applied alike

infixr 5 ◌▸◌
mutual
  pub data Expr : Type 0 where
    Atom : List ℕ → Expr
    IntegerLit : ℤ → Expr
    FloatLit : ℤ → Expr
    StringLit : List ℕ → Expr
    Paren : Expr → Expr
    Listing : Exprs → Expr
    Apply : Op → Exprs → Expr

  pub data Exprs : Type 0 where
    ε : Exprs
    ◌▸◌ : Expr → Exprs → Exprs

-- ---- an expression without its parentheses      (decided: the guideline that is kept, and the part table, have none)

abbrev mutual
  pub bare : Expr → Expr
  bare (Atom a) = Atom a
  bare (IntegerLit n) = IntegerLit n
  bare (FloatLit n) = FloatLit n
  bare (StringLit s) = StringLit s
  bare (Paren e) = bare e
  bare (Listing es) = Listing (bares es)
  bare (Apply o es) = Apply o (bares es)

  pub bares : Exprs → Exprs
  bares ε = ε
  bares (e ▸ es) = bare e ▸ bares es
