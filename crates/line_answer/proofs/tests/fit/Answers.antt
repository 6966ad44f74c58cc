-- `line::fit` meets its contract: each exit is one of the laws of Tests, and the parts are those of the tree.
use Rattle.std.proofs.Common.{⊎_elim}
use Rattle.line_answer.specs.Tests.{over, none_over, too_deep, too_long, too_many, fitting}
use Rattle.line_answer.specs.Table.{held}
use Rattle.line_answer.proofs.tests.fit.Goals as goal

pub returns-in-Some : goal.returns-in-Some
returns-in-Some c = record { fitted = over c.requires.parsed c.past_limit.ensures c.in-Some.is }

pub returns-then-m-gt-DEPTH : goal.returns-then-m-gt-DEPTH
returns-then-m-gt-DEPTH c =
    let p = c.requires.parsed in
    let r = c.read-m.ensures in
    record { fitted = ⊎_elim (too_deep p r) (⊎_elim (λ h. too_long p r h.1) (λ h. too_many p r h.2)) c.then-m-gt-DEPTH.either }

pub returns : goal.returns
returns c =
    record {
      fitted =
          held
          (fitting c.requires.parsed c.read-m.ensures (none_over c.requires.parsed c.past_limit.ensures c.in_default.is) c.if-m-gt-DEPTH.false c.if-m-gt-LIST_LIMIT.false c.if-m-gt-PARTS.false)
          c.read-m.ensures
          c.requires.cells_len;
    }
