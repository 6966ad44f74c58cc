-- What is promised of the answer to a line. Definitions only.
use Rattle.std.specs.Prelude.{ℕ, ◌≤◌, ◌<◌, ◌≡◌, List, length}
use Rattle.paper_guideline.specs.Line.{LineAnswer, LineAnswers, answer_written}
use Rattle.tokens.specs.Reply.{filled, blank}
use Rattle.written.specs.Limit.{answer_limit}

-- n cells hold the answer of the line, of r bytes, and zeros behind it
pub record Answered (line : List ℕ) (n : ℕ) (cells : List ℕ) (r : ℕ) : Type 0 where
  pub answer : LineAnswer
  pub answers : LineAnswers line answer
  pub bytes : r ≡ length (answer_written answer)
  pub written : cells ≡ filled n (answer_written answer)

-- of n lent cells: the answer, where every answer has room; else nothing
pub record Reply (line : List ℕ) (n : ℕ) (cells : List ℕ) (r : ℕ) : Type 0 where
  pub answered : answer_limit ≤ n → Answered line n cells r
  pub short : n < answer_limit → (r ≡ 0) × (cells ≡ blank n)
