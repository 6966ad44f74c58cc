-- `listed`: the rows, and the last lines behind each other.
use Prim.Native.Nat.{ℕ}
use mathlib.Core.Path.{sym, ap}
use Rattle.paper_expressions.specs.Bytes.{bytes}
use Rattle.digits.specs.AppendsLaws.{append_then, appends_as}
use Rattle.transcript.specs.Answers.{counted_written}
use Rattle.replay.specs.RowsLaws.{from_room}
use Rattle.replay.proofs.listing.View.listed.Goals as goal

pub returns : goal.returns
returns c =
    let k = c.of_kinds-p in
    let time = appends_as (ap (λ (n : ℕ). counted_written (bytes "time") n) (sym c.cell.ensures)) c.counted-q.ensures in
    let flag = appends_as (ap (λ (n : ℕ). counted_written (bytes "flag") n) (sym c.cell-2.ensures)) c.counted-r.ensures in
    record { rows = _; kinds = k.ensures; last = from_room k.result c.room-from.ensures (append_then (append_then time flag) c.word.ensures) }
