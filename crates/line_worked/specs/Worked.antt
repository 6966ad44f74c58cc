-- Worked lines of document 01, as printed: what the small program answers, and the ten rows of the sheet marked P. Definitions only; the laws are in proofs/WorkedLaws.antt.
use Rattle.std.specs.Prelude.{ℕ, false, List, [], ◌∷◌, pos, negsuc}
use Prim.Native.String.{String}
use Rattle.paper_expressions.specs.Bytes.{bytes}
use Rattle.paper_expressions.specs.Values.{Value, unknown, truth, integer, real, text, one}
use Rattle.paper_expressions.specs.Types.{Text, Integer, Real, TruthValue}
use Rattle.paper_expressions.specs.Types.{Ty}
use Rattle.paper_expressions.specs.Expressions.{Expr}
use Rattle.paper_expressions.proofs.Laws.Sheet.{Holds, row, sheet}
use Rattle.paper_expressions.proofs.Laws.Sheet as Sheet
use Rattle.paper_guideline.specs.Line.{LineTree, LineAnswer, refused, gives, LineAnswers}

-- ---- the small program

-- a line, and the answer that is written for it
pub record Row : Type 0 where
  pub line : String
  pub answer : LineAnswer

infix 2 ◌↝◌
abbrev ◌↝◌ : String → LineAnswer → Row
l ↝ a = record { line = l; answer = a }

unfoldable pub rows : List Row
rows =
    -- the four lines of the small program
    ("min([12, 3, 15])" ↝ gives Integer (one (integer (pos 3))))
    ∷ ("sum([12, 3, 15]) / count([12, 3, 15])" ↝ gives Real (one (real (pos 10000))))
    ∷ ("3-2" ↝ refused 3)
    ∷ ("true and true" ↝ refused 5)
    -- the rows marked P that name no item
    ∷ ("min([])" ↝ gives Integer (one unknown))
    ∷ ("max([\"b\", \"B\"])" ↝ gives Text (one (text (bytes "b"))))
    ∷ ("-1 / 3" ↝ gives Real (one (real (negsuc 332))))
    ∷ ("2000000 + 1" ↝ gives Integer (one unknown))
    -- those that name d, which is a text where there are no items
    ∷ ("min([d, 7])" ↝ refused 5)
    ∷ ("sum([d, 7])" ↝ refused 5)
    ∷ ("d != d" ↝ gives TruthValue (one (truth false)))
    ∷ ("[d, 1] < [5, 2]" ↝ refused 5)
    ∷ ("if(d = 1, 2, 3)" ↝ refused 5)
    -- the edges: literals, digits behind the point, list elements
    ∷ ("2000000" ↝ gives Integer (one (integer (pos 2000000))))
    ∷ ("2000001" ↝ refused 6)
    ∷ ("0.125" ↝ gives Real (one (real (pos 125))))
    ∷ ("0.1250" ↝ refused 6)
    ∷ ("count([1,2,3,4,5,6,7,8,9,10,11,12,13,14,15,16])" ↝ gives Integer (one (integer (pos 16))))
    ∷ ("count([1,2,3,4,5,6,7,8,9,10,11,12,13,14,15,16,17])" ↝ refused 6)
    ∷ []

-- each line has its answer, and no other
abbrev pub Every : List Row → Type 0
Every [] = Unit {0}
Every (r ∷ rs) = LineAnswers (bytes r.line) r.answer × Every rs

-- ---- the sheet, with its item d: what is printed has the tree of the row, and so its type and value

abbrev pub printed : List String
printed =
    "min([12, 3, 15])" ∷ "min([d, 7])" ∷ "sum([d, 7])" ∷ "min([])" ∷ "d != d" ∷ "[d, 1] < [5, 2]" ∷ "if(d = 1, 2, 3)" ∷ "max([\"b\", \"B\"])" ∷ "-1 / 3" ∷ "2000000 + 1" ∷ []

pub data Printed : List String → List Sheet.Row → Type 0 where
  no_row : Printed [] []
  next_row : {s : String} {e : Expr} {t : Ty} {w : Value} {ss : List String} {rs : List Sheet.Row}
      → LineTree (bytes s) e → Holds sheet e t w → Printed ss rs → Printed (s ∷ ss) (row e t w ∷ rs)
