-- `functor`: the number in the row where the name stands.
use Rattle.leaves.specs.Names.{rows_fit}
use Rattle.leaves.proofs.names.functor.Goals as goal

pub place_in-i-requires : goal.place_in-i-requires
place_in-i-requires c = (c.requires, rw (c.names-names.ensures, c.lengths-lengths.ensures) rows_fit)
