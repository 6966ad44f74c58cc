-- `read`: before each turn the columns from the index on are left.
use Rattle.std.proofs.Common.{◌≡◌, ◌-◌, ◌&&◌}
use Rattle.season_answer.specs.Columns.{columns_from, all_may, of_field}
use Rattle.season_answer.proofs.places.read.Given as goal

abbrev pub invariant-loop-i : goal.invariant-loop-i
invariant-loop-i l =
    (columns_from (of_field l.plan l.texts l.kept l.ends) l.columns l.i (l.fields - l.i) ≡ columns_from (of_field l.plan l.texts l.kept l.ends) l.initial.columns 0 l.fields)
    × ((l.well && all_may (of_field l.plan l.texts l.kept l.ends) l.columns l.i (l.fields - l.i)) ≡ all_may (of_field l.plan l.texts l.kept l.ends) l.initial.columns 0 l.fields)
