-- `see`: one byte more of the chunk.
use Rattle.std.proofs.Common.{◌++◌, ℕ, take, subst, List, arith, length-append, length-take}
use Rattle.spot.specs.Seen.{Describes}
use Rattle.spot.specs.SeenLaws.{chunk_more}
use Rattle.spot.proofs.seen.Seen.see.Goals as goal

pub loop-b-preserved : goal.loop-b-preserved
loop-b-preserved c = λ t h d.
    let i = c.loop-b.b-index in
    let chunk = c.args.chunk.now in
    subst (λ (x : List ℕ). Describes x c.byte-seen.result) (chunk_more t chunk i c.loop-b-test.true)
    (c.byte-seen.ensures (t ++ take i chunk) (simp (length-append, length-take) (omega arith)) (c.loop-b.invariant t h d))
