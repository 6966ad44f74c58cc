-- `store`: the form of the value, and then its cells and bytes.
use Rattle.adding.specs.Put.{stores}
use Rattle.std.proofs.Common.{rules}
use Rattle.adding.proofs.store.Goals as goal

pub put-requires : goal.put-requires
put-requires c = c.requires

pub returns : goal.returns
returns c =
    let a = c.args in
    stores a.bytes.now a.v a.d a.s.now a.texts.now c.encode.new.cells c.encode.new.out (search rules) (search rules) c.encode.ensures c.put.ensures
