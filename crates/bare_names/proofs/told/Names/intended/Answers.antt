-- `intended`: each branch is a case of the definition; a search that found nothing says so.
use Rattle.std.proofs.Common.{sym, ◌∙◌, arith}
use Rattle.bare_names.specs.ToldLaws.{among_found, among_no}
use Rattle.bare_names.proofs.told.Names.intended.Goals as goal

pub returns-then-is_some : goal.returns-then-is_some
returns-then-is_some c = among_found _ _ _ c.find.ensures ∙ sym c.if-is_some.ensures

pub returns-in-Some : goal.returns-in-Some
returns-in-Some c = (among_found _ _ _ c.find.ensures ∙ sym c.if-is_some.ensures, c.in-Some.ensures.0, c.in-Some.ensures.1)

pub returns-in-Some-find : goal.returns-in-Some-find
returns-in-Some-find c =
    (among_found _ _ _ c.find.ensures ∙ sym c.if-is_some.ensures, among_no c.in_default.ensures (omega arith), c.in-Some-find.ensures.0, c.in-Some-find.ensures.1)

pub returns-in_default-find : goal.returns-in_default-find
returns-in_default-find c =
    (among_found _ _ _ c.find.ensures ∙ sym c.if-is_some.ensures, among_no c.in_default.ensures (omega arith), among_no c.in_default-find.ensures (omega arith))
