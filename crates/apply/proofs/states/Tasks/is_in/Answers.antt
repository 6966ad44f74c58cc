-- `is_in`: by the variant of the operand; only a text names a task.
use Rattle.std.proofs.Common.{sym, ◌∙◌}
use Rattle.apply.specs.IsIn.{asked_text}
use Rattle.apply.proofs.states.Tasks.is_in.Goals as goal

pub returns-in-Text : goal.returns-in-Text
returns-in-Text c =
    let a = c.args in
    let s = a.self in
    asked_text s.bytes.now s.names.now s.states.now a.state a.a c.single.result (sym c.scalar_of-s.ensures ∙ c.in-Text.is) c.in_state.ensures c.single.ensures
