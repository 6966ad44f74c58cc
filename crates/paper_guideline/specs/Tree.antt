-- The tree of an expression: the productions of <expression> with the grouping of document 01. Definitions only.
-- Left out here, as they are refused with 10 before a tree is asked for: complex atoms, result_of, netsupport, "#" and "++".
use Rattle.std.specs.Prelude.{ℕ, suc, ◌≡◌}
use mathlib.Core.List.{List, [], ◌∷◌, Memᴰ}
use Rattle.paper_expressions.specs.Operators.{Op, arithmetic, plus, minus, times, divide, compare, is>, is<, is>=, is<=, is=, is!=, and, or, includes, oneof, negate, Functor}
use Rattle.paper_expressions.specs.Expressions.{Expr, Exprs, Atom, IntegerLit, FloatLit, StringLit, Paren, Listing, Apply, ε, ◌▸◌}
use Rattle.paper_tokens.specs.Tokens
use Tokens.{“or”, “OR”, “and”, “AND”, “<”, “<=”, “=<”, “>”, “>=”, “=>”, “=”, “!=”, “include”, “includes”, “oneof”, “+”, “-”, “*”, “/”, “open”, “close”, “[”, “]”, “comma”}
use Rattle.paper_tokens.specs.Lexical.{Token, atom, integer, float, double_quoted_string}
use Rattle.paper_tokens.specs.Terminals.{Terminal, name}
use Rattle.paper_tokens.specs.Literals.{whole, thousandths}

-- 01: "loosest to tightest are `or`; `and`; comparison and membership; `#` and `++`; `+ -`; `* /`; unary minus": levels 1 to 7
unfoldable pub infixes : List (ℕ × ℕ × Op)
infixes =
    (1, “or”, or) ∷ (1, “OR”, or)
    ∷ (2, “and”, and) ∷ (2, “AND”, and)
    ∷ (3, “<”, compare is<) ∷ (3, “<=”, compare is<=) ∷ (3, “=<”, compare is<=)
    ∷ (3, “>”, compare is>) ∷ (3, “>=”, compare is>=) ∷ (3, “=>”, compare is>=)
    ∷ (3, “=”, compare is=) ∷ (3, “!=”, compare is!=)
    ∷ (3, “include”, includes) ∷ (3, “includes”, includes) ∷ (3, “oneof”, oneof)
    ∷ (5, “+”, arithmetic plus) ∷ (5, “-”, arithmetic minus)
    ∷ (6, “*”, arithmetic times) ∷ (6, “/”, divide)
    ∷ []

-- 01: "In a postcondition an `and` outside the assigned expression's own brackets ends it."
pub data Where : Type 0 where
  anywhere assigned : Where

pub data MayStand : Where → ℕ → Type 0 where
  any_operator : {k : ℕ} → MayStand anywhere k
  but_and : {k : ℕ} → ¬ (k ≡ “and”) → MayStand assigned k

-- 01: "Parsing is a cycle: a bracketed list holds expressions, and an expression may be a bracketed list."
mutual
  -- Tree a l w r e: of the tokens w, those before r are an expression that holds together at level l or tighter, and e is its tree
  pub data Tree : Where → ℕ → List Token → List Token → Expr → Type 0 where
    -- "Each level groups to the left": an operator's left operand is of its own level, its right one of the next
    infix_operator : {a : Where} {l k : ℕ} {o : Op} {t : Token} {w m r : List Token} {e f : Expr}
        → Memᴰ (l, k, o) infixes → Terminal t k → MayStand a k
        → Tree a l w (t ∷ m) e → Tree a (suc l) m r f
        → Tree a l w r (Apply o (e ▸ f ▸ ε))
    looser : {a : Where} {l : ℕ} {w r : List Token} {e : Expr} → Tree a (suc l) w r e → Tree a l w r e
    -- <expression> ::= "-" <expression>, at level 7
    unary_minus : {a : Where} {t : Token} {w r : List Token} {e : Expr} → Terminal t “-” → Tree a 7 w r e → Tree a 7 (t ∷ w) r (Apply negate (e ▸ ε))
    -- what holds tightest: atoms, numbers, strings, brackets and calls
    an_atom : {a : Where} {t : Token} {r : List Token} → t.rule ≡ atom → Tree a 8 (t ∷ r) r (Atom (name t))
    an_integer : {a : Where} {t : Token} {r : List Token} → t.rule ≡ integer → Tree a 8 (t ∷ r) r (IntegerLit (whole t.bytes))
    a_float : {a : Where} {t : Token} {r : List Token} → t.rule ≡ float → Tree a 8 (t ∷ r) r (FloatLit (thousandths t.bytes))
    a_string : {a : Where} {t : Token} {r : List Token} → t.rule ≡ double_quoted_string → Tree a 8 (t ∷ r) r (StringLit (name t))
    parentheses : {a : Where} {t c : Token} {w r : List Token} {e : Expr}
        → Terminal t “open” → Tree anywhere 1 w (c ∷ r) e → Terminal c “close” → Tree a 8 (t ∷ w) r (Paren e)
    a_list : {a : Where} {t c : Token} {w r : List Token} {es : Exprs}
        → Terminal t “[” → Trees w (c ∷ r) es → Terminal c “]” → Tree a 8 (t ∷ w) r (Listing es)
    a_call : {a : Where} {f t c : Token} {w r : List Token} {o : Op} {es : Exprs}
        → f.rule ≡ atom → Functor (name f) o → Terminal t “open” → Trees w (c ∷ r) es → Terminal c “close” → Tree a 8 (f ∷ t ∷ w) r (Apply o es)

  -- <expression_list>
  pub data Trees : List Token → List Token → Exprs → Type 0 where
    empty : {r : List Token} → Trees r r ε
    nonempty : {w r : List Token} {es : Exprs} → SomeTrees w r es → Trees w r es

  -- <nonempty_expression_list>
  pub data SomeTrees : List Token → List Token → Exprs → Type 0 where
    last : {w r : List Token} {e : Expr} → Tree anywhere 1 w r e → SomeTrees w r (e ▸ ε)
    then_more : {w m r : List Token} {t : Token} {e : Expr} {es : Exprs}
        → Tree anywhere 1 w (t ∷ m) e → Terminal t “comma” → SomeTrees m r es → SomeTrees w r (e ▸ es)
