-- `walk`: each turn passes a token at least, and its row is written behind those before.
use Rattle.std.proofs.Common.{refl, arith}
use Rattle.guideline_walk.specs.TotalLaws.{tallied_none, bound_small, bound_next}
use Rattle.guideline_walk.specs.LoopLaws.{upto_begin, step_ok, next_turn, upto_end}
use Rattle.guideline_walk.proofs.walk.Goals as goal

pub loop-p-init : goal.loop-p-init
loop-p-init c = (
  record { rows = omega arith; parts = omega arith; tasks = omega arith; items = omega arith; assignments = omega arith; sources = omega arith },
  λ ts g h. upto_begin refl refl (tallied_none refl refl refl refl refl refl refl refl) h,
)

pub returns-in_default : goal.returns-in_default
returns-in_default c = record { done = λ ts g h. absurd (step_ok (c.loop-p.invariant.1 ts g h) c.loop-p-test.true c.in_default.ensures) }

pub write-w-requires : goal.write-w-requires
write-w-requires c = bound_small c.in-Some.ensures.onward.near c.loop-p.invariant.0

pub loop-p-smaller : goal.loop-p-smaller
loop-p-smaller c = let o = c.in-Some.ensures.onward.on in let i = c.loop-p-test.true in omega arith

pub loop-p-preserved : goal.loop-p-preserved
loop-p-preserved c =
    let l = c.loop-p.invariant in (
      bound_next c.in-Some.ensures.onward c.write-w.ensures l.0,
      λ ts g h. next_turn (l.1 ts g h) c.loop-p-test.true c.in-Some.ensures c.write-w.ensures,
    )

pub returns : goal.returns
returns c = record { done = λ ts g h. upto_end (c.loop-p.invariant.1 ts g h) c.loop-p-test.false }
