-- `load`: there is a text, or not; each arm writes the line of its reply.
use mathlib.Core.Path.{refl, ap}
use mathlib.Core.Logic.{inl, inr}
use native.Mathlib.Omega.{arith}
use Rattle.digits.specs.AppendsLaws.{appends_as}
use Rattle.replay.specs.Calls.{load_written, no_text, a_text}
use Rattle.replay.proofs.calls.load.Goals as goal
use Rattle.replay.proofs.calls.load.Goals.{then-from-to-via-then-from-to, then-from-to-via-else-from-to+then-to-s}

pub returns-then-from-to : goal.returns-then-from-to
returns-then-from-to c =
    elim c.then-from-to.branch [ then-from-to-via-then-from-to w ↦ no_text (inl (omega arith)) refl refl | then-from-to-via-else-from-to+then-to-s w ↦ no_text (inr (omega arith)) refl refl ]

pub returns-in-Done : goal.returns-in-Done
returns-in-Done c = a_text (omega arith) (omega arith) _ c.load.result c.load.ensures (appends_as (ap load_written c.in-Done.is) c.word.ensures)

pub returns-in-Refused : goal.returns-in-Refused
returns-in-Refused c = a_text (omega arith) (omega arith) _ c.load.result c.load.ensures (appends_as (ap load_written c.in-Refused.is) c.refused_line.ensures)
