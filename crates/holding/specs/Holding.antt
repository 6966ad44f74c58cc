-- When the lent tables hold the state of a guideline that is loaded: what load worked out, and the Properties table, the Exception flag and the engine time, cell by cell and byte by byte. Definitions only.
use Rattle.std.specs.Prelude.{ℕ, ◌+◌, ◌*◌, ◌<◌, ◌≤◌, ◌≡◌, Bool, List, get_or, length}
use Rattle.std.proofs.Math.Option.{Option}
use Rattle.paper_expressions.specs.Values.{Value}
use Rattle.paper_guideline.specs.Structure.{TopLevel}
use Rattle.paper_rows.specs.Table.{data_item, ◌№◌, value, Table}
use Rattle.paper_rows.proofs.Laws.Seen.{value_f}
use Rattle.paper_rows.proofs.Laws.Lawful.{Lawful}
use Rattle.paper_rows.proofs.Laws.Sized.{Sized}
use Rattle.paper_calls.specs.Calls.{time_limit}
use Rattle.paper_calls.proofs.Laws.CallLaws.{GoodTable}
use Rattle.state.specs.Cell.{bit}
use Rattle.state.specs.Layout.{Rows}
use Rattle.state.specs.Items as Items
use Rattle.planned.specs.Planned.{Plans}

-- the value of the data item d in the state s and the text bytes b
abbrev pub ItemAt : List ℕ → List ℕ → ℕ → Option Value → Type 0
ItemAt s b d o = Items.Holds s (776 + 17 * d) (1864 + 17 * d) b (16384 + 768 * d) (16384 + 768 * d) o

-- x the parts, b the text bytes, f the plan, w who waits for whom, s the state; g the guideline, t its Properties table
pub record Holds (g : List TopLevel) (x b f : List ℕ) (w : List (List Bool)) (s : List ℕ) (t : Table) (flag : Bool) (time : ℕ) : Type 0 where
  pub plans : Plans g x b f w
  -- what every state has that calls reach (`Good`)
  pub lawful : Lawful g
  pub sized : Sized g
  pub good : GoodTable g t
  pub timely : time ≤ time_limit
  -- the rows that move
  pub rows : Rows s t
  pub values : (d : ℕ) → d < 64 → ItemAt s b d (value_f (t (data_item № d) value))
  -- the header
  pub loaded : get_or s 0 0 ≡ 1
  pub flagged : get_or s 1 0 ≡ bit flag
  pub timed : get_or s 2 0 ≡ time
  pub spare : (i : ℕ) → 3 ≤ i → i < 8 → get_or s i 0 ≡ 0
  -- the least lengths
  pub cells : 2952 ≤ length s
  pub bytes : 65536 ≤ length b
