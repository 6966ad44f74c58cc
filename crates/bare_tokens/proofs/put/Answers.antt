-- `put`: each branch is a case of the definition.
use Rattle.bare_tokens.specs.ListedLaws.{put_passed, put_full, put_here}
use Rattle.bare_tokens.proofs.put.Goals as goal
use Rattle.bare_tokens.proofs.put.Goals.{then-not-one-via-then-not-one, then-not-one-via-else-not-one+then-list-n}

pub returns-then-not-one : goal.returns-then-not-one
returns-then-not-one c =
    elim c.then-not-one.branch [
      | then-not-one-via-then-not-one w ↦ put_passed w.if-not-one.true
      | then-not-one-via-else-not-one+then-list-n w ↦ put_full w.if-not-one.false w.if-list-n.true
    ]

pub returns : goal.returns
returns c = put_here c.if-not-one.false c.if-list-n.false
