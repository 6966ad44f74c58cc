-- `has_value`: by the cell that it reads.
use mathlib.Core.Path.{ap}
use Prim.Native.Nat.{ℕ}
use lib.Dec.{eqb}
use Rattle.item_rows.proofs.has_value.Goals as goal

pub returns : goal.returns
returns c = ap (λ (x : ℕ). eqb x 1) c.cell.ensures
