-- The columns that the tokens are put into stand for the tokens of a line, and no stage of the tokens is broken.
use Rattle.std.specs.Prelude.{List, take, ℕ}
use Rattle.tokens.specs.Reply.{Accepted}
use Rattle.columns.specs.Columns as Columns
use Rattle.line_answer.specs.Steps.{Lexed}
use Rattle.line_answer.specs.Stages.{early_sound}

pub lexed : {line : List ℕ} {n k p l : ℕ} {kinds places lengths : List ℕ} → Accepted line n k p l kinds places lengths → Lexed line (take n kinds) places lengths
lexed a = let h = Columns.lexed a in record { tokens = h.tokens; its = h.its; are = h.are; stand = h.stand; before = early_sound h.passed }
