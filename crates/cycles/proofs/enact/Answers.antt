-- `enact`: gathered against the old state, enacted, stored, and the flag.
use Rattle.std.proofs.Common.{replicate, arith}
use Rattle.cycles.specs.Cycled.{cycled, scratch_room, scratch_fresh, moved_nothing_else}
use Rattle.cycles.proofs.enact.Goals as goal

pub returns-clause-cycled : goal.returns-clause-cycled
returns-clause-cycled c =
    cycled _ _ _ _ _ _ _ _ _ _ (replicate 2304 0) _ (replicate 49152 0) _ (scratch_room 2304 49152 (omega arith) (omega arith)) (scratch_fresh 2304 (omega arith)) c.gather.ensures c.enact.ensures c.store.ensures c.raise.ensures

pub returns-clause-elsewhere : goal.returns-clause-elsewhere
returns-clause-elsewhere c = moved_nothing_else _ _ _ _ _ _ _ _ _ _ c.enact.ensures c.store.ensures c.raise.ensures
