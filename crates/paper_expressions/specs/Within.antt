-- Values, expressions and views within the limits (document 01, How much fits): what contracts ask of them, and promise. Definitions only.
use Rattle.std.specs.Prelude.{◌≡◌, Bool, List, [], ◌∷◌, ℕ, suc, ◌≤◌, ℤ, length}
use Rattle.std.proofs.Math.Option.{some}
use Rattle.paper_expressions.specs.Limits.{text_limit, list_limit}
use Rattle.paper_expressions.specs.Values.{Scalar, unknown, truth, integer, real, text, Value, one, sequence, InLimit, InRealLimit}
use Rattle.paper_expressions.specs.View.{View, Item, At}
use Rattle.paper_expressions.specs.Operators.{Op}
use Rattle.paper_expressions.specs.Expressions.{Expr, Exprs, Atom, IntegerLit, FloatLit, StringLit, Paren, Listing, Apply, ε, ◌▸◌}

-- a value within the limits
pub data Small : Scalar → Type 0 where
  unknown_small : Small unknown
  truth_small : {b : Bool} → Small (truth b)
  integer_small : {n : ℤ} → InLimit n → Small (integer n)
  real_small : {n : ℤ} → InRealLimit n → Small (real n)
  text_small : {s : List ℕ} → length s ≤ text_limit → Small (text s)

pub data EachSmall : List Scalar → Type 0 where
  none_small : EachSmall []
  more_small : {s : Scalar} {l : List Scalar} → Small s → EachSmall l → EachSmall (s ∷ l)

pub data Limited : Value → Type 0 where
  one_limited : {s : Scalar} → Small s → Limited (one s)
  list_limited : {l : List Scalar} → length l ≤ list_limit → EachSmall l → Limited (sequence l)

-- how many expressions
abbrev pub size : Exprs → ℕ
size ε = 0
size (e ▸ es) = suc (size es)

-- an expression whose literals, names, texts and lists are within the limits
mutual
  pub data Modest : Expr → Type 0 where
    atom_modest : {a : List ℕ} → length a ≤ text_limit → Modest (Atom a)
    integer_modest : {n : ℤ} → InLimit n → Modest (IntegerLit n)
    float_modest : {n : ℤ} → InRealLimit n → Modest (FloatLit n)
    string_modest : {s : List ℕ} → length s ≤ text_limit → Modest (StringLit s)
    paren_modest : {e : Expr} → Modest e → Modest (Paren e)
    listing_modest : {es : Exprs} → size es ≤ list_limit → AllModest es → Modest (Listing es)
    apply_modest : {o : Op} {es : Exprs} → AllModest es → Modest (Apply o es)

  pub data AllModest : Exprs → Type 0 where
    none_modest : AllModest ε
    more_modest : {e : Expr} {es : Exprs} → Modest e → AllModest es → AllModest (e ▸ es)

-- a view whose items hold such values
pub record Held (τ : View) : Type 0 where
  pub held : {i : ℕ} {x : Item} {w : Value} → At τ.items i x → x.value ≡ some w → Limited w
