-- `schotterei_read`: the square table, the row that is read, and what is told of it.
use Rattle.square.specs.Square.{square_of}
use Rattle.exports.specs.Reading.{reads_told}
use borrow.Author.Rules.{rules}
use Rattle.exports.proofs.schotterei_read.Statement.{statement}
use Rattle.exports.proofs.schotterei_read.Tie as tie

returns : tie.Need-returns
returns c =
    let a = c.before.before.before.before.before.before.before.before.before.args in
    let read = c.before.before.before.read-row in
    reads_told (square_of a.waits.now) read.result c.before.before.before.before.unpack-w.ensures read.ensures c.tell.ensures

pub schotterei_read_spec : {M : Type 1} → statement M
schotterei_read_spec = tie.close (tie.spec (λ c κs. search rules) (λ c κs. search rules) (λ c κs. search rules) returns)
