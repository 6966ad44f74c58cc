-- `add`: each total, and what the row has of it.
use Rattle.std.proofs.Common.{refl, arith, ◌∙◌}
use Rattle.guideline_walk.proofs.adding.add.Goals as goal
use Rattle.guideline_walk.proofs.adding.add.Goals.{then-w, else-w}

pub returns : goal.returns
returns c =
    let one = c.one.ensures.0 in
    let two = c.one-2.ensures.0 in
    let three = c.one-3.ensures.0 in
    let four = c.one-4.ensures.0 in
    let five = c.one-5.ensures.0 in
    let six = c.one-6.ensures.0 in
    record {
      ok = refl;
      rows = refl;
      parts = c.parts_then.ensures;
      bytes = refl;
      tasks = omega arith;
      items = omega arith;
      assignments = omega arith;
      sources = omega arith;
      large = elim c.if-w.branch [ then-w w ↦ w.result-is ∙ rw w.if-w.true | else-w w ↦ w.result-is ∙ rw w.if-w.false w.large.ensures ];
      place = c.place.ensures;
    }
