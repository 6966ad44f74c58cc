-- `write`: no row, or its name, its texts, its cells and its totals, one after the other.
use Rattle.std.proofs.Common.{refl}
use Rattle.guideline_walk.specs.TotalLaws.{adds_own}
use Rattle.guideline_walk.specs.TextLaws.{row_laid}
use Rattle.guideline_walk.proofs.write.Goals as goal

pub returns-in_default : goal.returns-in_default
returns-in_default c = rw c.in_default.is (record { none = (refl, refl, refl, refl); some = tt })

pub returns : goal.returns
returns c = rw c.in-Some.is (record {
  none = tt;
  some = record {
    adds = adds_own c.add.ensures;
    laid = λ kinds j u row told sd lx lj few room ft. row_laid told sd lx lj few room ft c.move_name-m.ensures c.move_texts-o.ensures c.put.ensures c.add.ensures.bytes;
  };
})
