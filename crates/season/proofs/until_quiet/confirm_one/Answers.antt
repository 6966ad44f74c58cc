-- `confirm_one`: a call, if the task waits for it.
use Rattle.std.proofs.Common.{sym, ◌∙◌}
use Rattle.season.specs.UntilQuiet.{not_waiting, by_call}
use Rattle.season.proofs.until_quiet.confirm_one.Goals as goal

pub returns-then-is_waiting : goal.returns-then-is_waiting
returns-then-is_waiting c = by_call c.confirm.result (sym c.is_waiting.ensures ∙ c.if-is_waiting.true) c.confirm.ensures

pub returns : goal.returns
returns c = not_waiting (sym c.is_waiting.ensures ∙ c.if-is_waiting.false)
