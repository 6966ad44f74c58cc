-- What the rows of a guideline amount to: how many there are of a kind, and their expressions. Definitions only.
use Rattle.std.specs.Prelude.{ℕ, suc, ◌+◌, ◌<◌, cond, ◌⊎◌, List, [], ◌∷◌, eqb}
use Rattle.std.proofs.Math.Option.{Option, none, some}
use Rattle.paper_expressions.specs.Limits.{list_limit}
use Rattle.paper_expressions.specs.Expressions.{Expr}
use Rattle.paper_guideline.specs.Limits.{depth_limit, parts, depth, longest_list}
use Rattle.paper_guideline.specs.Structure.{Outermost}
use Rattle.guideline_rows.specs.Rows.{Row, kind-of, expression_of}

abbrev pub of_kind : ℕ → List Row → ℕ
of_kind k [] = 0
of_kind k (r ∷ rows) = cond (eqb (kind-of r) k) (suc (of_kind k rows)) (of_kind k rows)

abbrev pub with : Option Outermost → List Outermost → List Outermost
with none l = l
with (some x) l = x ∷ l

abbrev pub row_expressions : List Row → List Outermost
row_expressions [] = []
row_expressions (r ∷ rows) = with (expression_of r) (row_expressions rows)

abbrev pub parts_in : List Outermost → ℕ
parts_in [] = 0
parts_in (x ∷ l) = parts x.tree + parts_in l

-- past a limit on one expression
abbrev pub Large : Expr → Type 0
Large e = (depth_limit < depth e) ⊎ (list_limit < longest_list e)

-- one of the expressions that starts there is
pub data LargeAt : List Outermost → ℕ → Type 0 where
  here : {x : Outermost} {l : List Outermost} → Large x.tree → LargeAt (x ∷ l) x.start
  later : {x : Outermost} {l : List Outermost} {p : ℕ} → LargeAt l p → LargeAt (x ∷ l) p
