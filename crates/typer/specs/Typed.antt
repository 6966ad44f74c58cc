-- What the typer has to find in a table: the type of an expression, and what is gathered of its operands. Definitions only.
use Rattle.std.specs.Prelude.{◌≡◌, List, Option, ℕ, ◌+◌, ◌-◌}
use Rattle.paper_expressions.specs.View.{View, Apart}
use Rattle.paper_expressions.specs.Expressions.{Expr, Exprs, HasType}
use Rattle.parts.specs.Part.{Table, sizes, number_of, HoldsAll, Ends, Within, Withins}
use Rattle.parts.specs.Items.{Items}
use Rattle.typer.specs.declared.lists.Summary.{Summary}
use Rattle.resolution.specs.Letters.{Outcome}
use Rattle.typer.specs.Summary.{Summed}

-- r is the letter of the type of the expression of the task T that ends at q, or 0 if it has none:
-- for every view whose items the columns hold, and every expression that the table holds there, at most d deep
abbrev pub Typed : Table → List ℕ → List ℕ → ℕ → ℕ → ℕ → ℕ → Type 0
Typed t names types T q d r =
    (v : View) (e : Expr) → Apart v → Items t.bytes names types v → Ends t q e → Within d e → Outcome (HasType v T e) r

-- s is what is gathered of the n operands that end at p
abbrev pub Gathered : Table → List ℕ → List ℕ → ℕ → ℕ → ℕ → ℕ → Option Summary → Type 0
Gathered t names types T p n d s =
    (v : View) (a : ℕ) (es : Exprs) → Apart v → Items t.bytes names types v
    → a + sizes es ≡ p → HoldsAll t a es → number_of es ≡ n → Withins (d - 1) es → Summed v T es s
