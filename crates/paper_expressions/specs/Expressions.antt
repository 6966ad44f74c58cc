-- The types of expressions: 4.1. Definitions only.
use Rattle.std.specs.Prelude.{◌≡◌, List, [], ◌∷◌, ℕ, ℤ}
use Rattle.paper_expressions.specs.Bytes.{Alike}
use Rattle.paper_expressions.specs.Types.{Ty, Text, Integer, Real, SetofText, SetofReal, SetofInteger, SetofAnything, Promotes, inferred}
use Rattle.paper_expressions.specs.View.{View, Item, At}
use Rattle.paper_expressions.specs.Operators.{Allowed, ◌⇒◌, Op, allowed}
pub use Rattle.paper_expressions.specs.Syntax.{Expr, Atom, IntegerLit, FloatLit, StringLit, Paren, Listing, Apply, Exprs, ε, ◌▸◌}

-- ---- 4.1, 9: a list, from the types of its elements

pub data Each (P : Ty → Type 0) : List Ty → Type 0 where
  all_none : Each P []
  all_more : {t : Ty} {ts : List Ty} → P t → Each P ts → Each P (t ∷ ts)

pub data TextType : Ty → Type 0 where
  text_type : TextType Text

pub data IntegerType : Ty → Type 0 where
  integer_type : IntegerType Integer

-- 01: "float and setof_float in rule 9c mean real and setof_real"
pub data IntegerOrReal : Ty → Type 0 where
  integer_or : IntegerOrReal Integer
  or_real : IntegerOrReal Real

pub data Listed : List Ty → Ty → Type 0 where
  -- 8. "[" "]": setof_anything      (01: "the expression [] is typed by section 4 alone")
  rule_8 : Listed [] SetofAnything
  -- 9. "[" E1 "," ... "," En "]" where n > 0
  --   a. If for all i the expression Ei has type text then setof_text
  rule_9a : {t : Ty} {ts : List Ty} → Each TextType (t ∷ ts) → Listed (t ∷ ts) SetofText
  --   b. Else if for all i the expression Ei has type integer then setof_integer
  rule_9b : {t : Ty} {ts : List Ty} → ¬ Each TextType (t ∷ ts) → Each IntegerType (t ∷ ts) → Listed (t ∷ ts) SetofInteger
  --   c. Else if for all i the type of Ei is either integer or float then setof_float
  rule_9c : {t : Ty} {ts : List Ty}
      → ¬ Each TextType (t ∷ ts) → ¬ Each IntegerType (t ∷ ts) → Each IntegerOrReal (t ∷ ts) → Listed (t ∷ ts) SetofReal
  --   d. Otherwise untypeable

-- ---- 4.1, 10: an application, from the types of its operands

pub data Among : Allowed → List Allowed → Type 0 where
  here : {a : Allowed} {rest : List Allowed} → Among a (a ∷ rest)
  there : {a b : Allowed} {rest : List Allowed} → Among a rest → Among a (b ∷ rest)

-- "there exists a unique type T such that one of the allowed types for Op is (T1 × ... × Tn) → T"
pub record Unique (ts : List Ty) (list : List Allowed) (t : Ty) : Type 0 where
  pub allows : Among (ts ⇒ t) list
  pub only : (u : Ty) → Among (ts ⇒ u) list → u ≡ t

-- "for all i either T'i = Ti or else Ti can be promoted to T'i"
pub data Reaches : List Ty → List Ty → Type 0 where
  reaches_none : Reaches [] []
  reaches_same : {t : Ty} {ts us : List Ty} → Reaches ts us → Reaches (t ∷ ts) (t ∷ us)
  reaches_by : {t u : Ty} {ts us : List Ty} → Promotes t u → Reaches ts us → Reaches (t ∷ ts) (u ∷ us)

-- "If Op has more than one type that meets this requirement, then use the one that comes first in its list of types"
pub data First (ts : List Ty) : List Allowed → Ty → Type 0 where
  first : {us : List Ty} {t : Ty} {rest : List Allowed} → Reaches ts us → First ts ((us ⇒ t) ∷ rest) t
  next : {us : List Ty} {u t : Ty} {rest : List Allowed} → ¬ Reaches ts us → First ts rest t → First ts ((us ⇒ u) ∷ rest) t

pub data Applied (o : Op) (ts : List Ty) : Ty → Type 0 where
  --   a. If there exists a unique type T .. then T
  rule_10a : {t : Ty} → Unique ts (allowed o) t → Applied o ts t
  --   b. Else if there exist types T'1, .., T'n, T such that one of the allowed types for Op is (T'1 × ... × T'n) → T and .. then T
  rule_10b : {t : Ty} → ((u : Ty) → ¬ Unique ts (allowed o) u) → First ts (allowed o) t → Applied o ts t
  --   c. "Else the type of E is untypeable"

-- ---- 4.1: the type of an expression E of the task T

mutual
  pub data HasType (v : View) (T : ℕ) : Expr → Ty → Type 0 where
    -- 1. <atom>      a. within the scope of a <parameter_declaration>: left out (10); request 8/13
    --   b. "Else if there is a data item whose name is E" (A to Z folded, as in 9.5) then by the type of that data item, as in 4.3
    rule_1b : {a : List ℕ} {d : ℕ} {x : Item} {t : Ty}
        → At v.items d x → Alike x.name a → inferred x.declared ≡ t → HasType v T (Atom a) t
    --   c. "Else the type of E is text."
    rule_1c : {a : List ℕ} → ((d : ℕ) (x : Item) → At v.items d x → ¬ Alike x.name a) → HasType v T (Atom a) Text
    -- 2. <integer>: integer
    rule_2 : {n : ℤ} → HasType v T (IntegerLit n) Integer
    -- 3. <float>: real
    rule_3 : {n : ℤ} → HasType v T (FloatLit n) Real
    -- 4. <double_quoted_string>: text
    rule_4 : {s : List ℕ} → HasType v T (StringLit s) Text
    -- 5. "(" E' ")": the type of E'
    rule_5 : {e : Expr} {t : Ty} → HasType v T e t → HasType v T (Paren e) t
    -- 6, 7. "result_of" and "netsupport": left out (10); request 1/13
    -- 8, 9. a list
    rule_8_9 : {es : Exprs} {ts : List Ty} {t : Ty} → HaveTypes v T es ts → Listed ts t → HasType v T (Listing es) t
    -- 10. E1 Op E2 or Op "(" E1 "," ... "," En ")"      (01: unary minus is typed as the functor of 11.2.2)
    rule_10 : {o : Op} {es : Exprs} {ts : List Ty} {t : Ty} → HaveTypes v T es ts → Applied o ts t → HasType v T (Apply o es) t

  -- T1 ... Tn are the types of the expressions E1 ... En
  pub data HaveTypes (v : View) (T : ℕ) : Exprs → List Ty → Type 0 where
    types_none : HaveTypes v T ε []
    types_more : {e : Expr} {es : Exprs} {t : Ty} {ts : List Ty} → HasType v T e t → HaveTypes v T es ts → HaveTypes v T (e ▸ es) (t ∷ ts)
