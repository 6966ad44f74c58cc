-- `is_small`: by the tag.
use Rattle.std.proofs.Common.{rules}
use Rattle.value_given.specs.Bounds.{integer_by, real_by, text_by_tag, other_by}
use Rattle.value_given.proofs.bounds.is_small.Goals as goal

pub returns-in-2 : goal.returns-in-2
returns-in-2 c = let a = c.args in integer_by a.bytes.now a.tag a.w.z c.in-2.is c.integer_fits.ensures

pub returns-in-3 : goal.returns-in-3
returns-in-3 c = let a = c.args in real_by a.bytes.now a.tag a.w.z c.in-3.is c.real_fits.ensures

pub returns-in-4 : goal.returns-in-4
returns-in-4 c = let a = c.args in text_by_tag a.bytes.now a.tag a.w.z c.in-4.is c.small_text.ensures

pub returns-in_default : goal.returns-in_default
returns-in_default c = let a = c.args in other_by a.bytes.now a.tag a.w.z (search rules) (search rules) (search rules)
