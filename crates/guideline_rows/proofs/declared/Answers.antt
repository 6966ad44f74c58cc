-- `declared`: by the law on the names of types.
use Rattle.std.proofs.Common.{◌∙◌}
use Rattle.guideline_rows.specs.Flags.{declared_law}
use Rattle.guideline_rows.proofs.declared.Goals as goal

pub returns : goal.returns
returns c = λ t d s y. c.type_of.ensures ∙ declared_law c.spelt-s.ensures s y
