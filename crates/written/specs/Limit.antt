-- How many bytes an answer has at most. Definitions only; Longest shows it.
use Rattle.std.specs.Prelude.{ℕ}

-- bytes that hold every answer
abbrev pub answer_limit : ℕ
answer_limit = 1024
