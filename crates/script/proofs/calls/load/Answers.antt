-- `load`: by the tests whether the script has so many bytes.
use Rattle.std.proofs.Common.{arith, ◌∙◌}
use Rattle.script.specs.PlacesLaws.{load_long, load_past, load_is}
use Rattle.script.proofs.calls.load.Goals as goal
use Rattle.script.proofs.calls.load.Goals.{then-s-many-via-then-s-many, then-s-many-via-else-s-many+then-s-many-2}

pub returns-then-s-many : goal.returns-then-s-many
returns-then-s-many c =
    elim c.then-s-many.branch [
      | then-s-many-via-then-s-many w ↦ c.nothing.ensures ∙ load_long c.args.s.now c.number_at-n.ensures (omega arith)
      | then-s-many-via-else-s-many+then-s-many-2 w ↦ c.nothing.ensures ∙ load_past c.args.s.now c.number_at-n.ensures (omega arith) (omega arith)
    ]

pub returns : goal.returns
returns c = load_is c.args.s.now c.number_at-n.ensures (omega arith) (omega arith) c.behind.ensures
