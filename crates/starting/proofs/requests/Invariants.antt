-- `requests`: the rows of the sources passed.
use Rattle.std.proofs.Common.{◌≡◌, ◌+◌, ◌≤◌}
use Rattle.starting.specs.StartRows.{EachUpto}
use Rattle.starting.proofs.requests.Given as goal

abbrev pub invariant-loop-i : goal.invariant-loop-i
invariant-loop-i l = record { few : l.rows.count ≤ l.fn.rows.count + l.i; rows : EachUpto l.s l.f l.first l.count l.i l.fn.rows.cells.now l.fn.rows.count l.rows.cells.now l.rows.count; same : l.rows.cells.ghost_name ≡ l.fn.rows.cells.ghost_name }
