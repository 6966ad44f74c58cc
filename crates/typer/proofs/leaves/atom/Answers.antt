-- `atom`: the item that is found, or text.
use Rattle.std.proofs.Common.{ap, ◌∙◌, arith}
use Rattle.typer.specs.Leaves.{inferred_of}
use Rattle.typer.proofs.LeavesLaws.{atom_item, atom_text}
use Rattle.typer.proofs.leaves.atom.Goals as goal

pub returns-in-Some : goal.returns-in-Some
returns-in-Some c = let f = c.in-Some.ensures in atom_item _ _ _ _ _ _ _ f.1 f.0 (c.inferred.ensures ∙ ap inferred_of c.byte.ensures)

pub returns-in-None : goal.returns-in-None
returns-in-None c = atom_text _ _ _ _ _ _ c.in-None.ensures (omega arith)
