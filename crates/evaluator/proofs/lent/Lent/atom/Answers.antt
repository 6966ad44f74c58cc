-- `atom`: the item that is found, or the text itself.
use Rattle.std.proofs.Common.{ap, arith, ◌∙◌}
use Rattle.values.specs.declared.scalar.Scalar.TheVariants.{Text}
use Rattle.evaluator.specs.Leaves.{atom_item, atom_itself}
use Rattle.evaluator.proofs.lent.Lent.atom.Goals as goal

pub returns-in-Some : goal.returns-in-Some
returns-in-Some c = let f = c.in-Some.ensures in atom_item _ _ _ _ _ _ _ f.1 f.0 c.value.ensures

pub returns-in-None : goal.returns-in-None
returns-in-None c = atom_itself _ _ _ _ _ _ _ c.in-None.ensures (omega arith) (c.single.ensures.0, c.single.ensures.1 ∙ ap Text c.handle_of.ensures)
