-- Load's reply, the bytes of who waits for whom, and the numbers of the reply.
use Rattle.exports.specs.Loading.{loads_told}
use Rattle.exports.proofs.schotterei_load.Goals as goal

pub returns : goal.returns
returns c =
    let left = c.load-reply.new in
    loads_told left.rows left.parts left.plan left.texts left.state left.waits c.load-reply.result c.loaded.result c.load-reply.ensures c.pack.ensures c.loaded.ensures
