-- `is_new`: by the two searches.
use Rattle.std.proofs.Common.{◌≡◌, ◌∙◌, Bool, true, false, not, ◌&&◌}
use Rattle.bare_names.specs.ToldLaws.{among_found}
use Rattle.bare_names.proofs.told.Names.is_new.Goals as goal

second : (x y r : Bool) → x ≡ false → y ≡ not r → r ≡ (not x && not y)
second x y true e f = rw (e, f)
second x y false e f = rw (e, f)

first : (x y r : Bool) → x ≡ true → r ≡ false → r ≡ (not x && not y)
first x y r e f = rw (e, f)

pub returns-then-is_none : goal.returns-then-is_none
returns-then-is_none c = second _ _ _ (among_found _ _ _ c.find.ensures ∙ c.if-is_none.ensures) (among_found _ _ _ c.find-then-is_none.ensures ∙ c.is_none-then-is_none.ensures)

pub returns-else-is_none : goal.returns-else-is_none
returns-else-is_none c = first _ _ _ (among_found _ _ _ c.find.ensures ∙ c.if-is_none.ensures) c.if-is_none.false
