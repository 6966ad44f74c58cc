-- `walk`: the rows passed are added up and written, and the tokens from `p` on give the others. What is left of the tokens falls.
use Rattle.std.proofs.Common.{◌-◌, List, length}
use Rattle.paper_tokens.specs.Lexical.{Token}
use Rattle.paper_guideline.specs.Structure.{TopLevel}
use Rattle.leaves.specs.Source.{source}
use Rattle.guideline_rows.specs.Rows.{flatten}
use Rattle.guideline_walk.specs.Made.{Given, Bound}
use Rattle.guideline_walk.specs.LoopLaws.{Upto}
use Rattle.guideline_walk.proofs.walk.Given as goal

abbrev pub invariant-loop-p : goal.invariant-loop-p
invariant-loop-p l =
    Bound l.w l.p
    × ((ts : List Token) (g : List TopLevel) → Given (source l.text l.kinds l.places l.lengths) ts g → Upto (source l.text l.kinds l.places l.lengths) l.fn.rows l.rows l.fn.cells l.cells l.fn.bytes l.bytes l.p l.mode l.w (flatten g))

abbrev pub decreases-loop-p : goal.decreases-loop-p
decreases-loop-p l = length l.kinds - l.p
