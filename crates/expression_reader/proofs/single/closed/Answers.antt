-- `closed`: the row behind those of the elements, and their measures with one part more.
use Rattle.std.proofs.Common.{refl}
use Rattle.expression_reader.specs.Laws.{closed_done}
use Rattle.expression_reader.proofs.single.closed.Goals as goal

pub returns : goal.returns
returns c = record {
  next = λ e. refl;
  used = λ e. refl;
  beside = c.put.ensures.beside;
  done = λ text places lengths z b r t es e s o h g hd lg l k. closed_done _ _ s o h g hd lg l k c.deeper.ensures c.elements.ensures.0 c.elements.ensures.1 c.put.ensures;
}
