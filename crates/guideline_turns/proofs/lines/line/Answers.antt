-- `line`: the letter of its first token tells what it is.
use Rattle.std.proofs.Common.{ap, arith}
use Rattle.guideline_turns.specs.TurnLaws.{by_kind, told, of_letter, line_end, end_passes}
use Rattle.guideline_turns.proofs.lines.line.Goals as goal

pub returns-in-116 : goal.returns-in-116
returns-in-116 c = by_kind c.kind_at.result c.kind_at.ensures (told c.kind_at.result c.shape.ensures (ap of_letter c.in-116.is)) (c.task.ensures _ _ c.requires.1)

pub returns-in-100 : goal.returns-in-100
returns-in-100 c = by_kind c.kind_at.result c.kind_at.ensures (told c.kind_at.result c.shape.ensures (ap of_letter c.in-100.is)) (c.data_item.ensures _ _ c.requires.1)

pub returns-in-101 : goal.returns-in-101
returns-in-101 c = by_kind c.kind_at.result c.kind_at.ensures (told c.kind_at.result c.shape.ensures (ap of_letter c.in-101.is)) c.expression.ensures

pub returns-in-110 : goal.returns-in-110
returns-in-110 c = by_kind c.kind_at.result c.kind_at.ensures (told c.kind_at.result c.shape.ensures (ap of_letter c.in-110.is)) (c.name.ensures _ _ c.requires.1)

pub returns-in-121 : goal.returns-in-121
returns-in-121 c = by_kind c.kind_at.result c.kind_at.ensures (told c.kind_at.result c.shape.ensures (ap of_letter c.in-121.is)) (c.answer.ensures _ _ c.requires.1)

pub returns-in-99 : goal.returns-in-99
returns-in-99 c = by_kind c.kind_at.result c.kind_at.ensures (told c.kind_at.result c.shape.ensures (ap of_letter c.in-99.is)) (c.constraint.ensures _ _ c.requires.1)

pub returns-in-112 : goal.returns-in-112
returns-in-112 c = by_kind c.kind_at.result c.kind_at.ensures (told c.kind_at.result c.shape.ensures (ap of_letter c.in-112.is)) (c.postcondition.ensures _ _ c.requires.1)

pub returns-in_default : goal.returns-in_default
returns-in_default c =
    rw c.on.ensures (by_kind c.kind_at.result c.kind_at.ensures (told c.kind_at.result c.shape.ensures (line_end c.shape.result (λ z. omega arith) (λ z. omega arith) (λ z. omega arith) (λ z. omega arith) (λ z. omega arith) (λ z. omega arith) (λ z. omega arith)))
    (end_passes c.requires.0 _ _ c.requires.1))
