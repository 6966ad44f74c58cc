-- What one step of the program writes, and that it is a step of `Run`. Definitions only.
use Rattle.std.specs.Prelude.{ℕ, ◌+◌, ◌≤◌, ◌<◌, ◌≡◌, cond, List, [], ◌++◌, ltb, length}
use Rattle.paper_guideline.specs.Line.{LineAnswer, LineAnswers}
use Rattle.digits.specs.Appends.{placed}
use Rattle.lines.specs.Kept.{Takes}
use Rattle.lines.specs.Run.{header, line_written, Run}
use Rattle.lines.specs.declared.Taken.{Taken}
use Rattle.written.specs.Limit.{answer_limit}
use Rattle.sheet.specs.declared.output.State.{State}

-- no line takes more bytes: twenty digits, a blank, the answer, a newline
abbrev pub line_limit : ℕ
line_limit = 20 + 1 + answer_limit + 1

-- so many lines can be counted
abbrev pub number_limit : ℕ
number_limit = 18_446_744_073_709_551_615

-- the number behind this one; the last has none
abbrev pub following : ℕ → ℕ
following n = cond (ltb n number_limit) (n + 1) n

-- these bytes stand behind the first o of the buffer, up to r, and all else is as it was
pub record Put (out out' : List ℕ) (o r : ℕ) (writes : List ℕ) : Type 0 where
  pub up-to : r ≡ o + length writes
  pub cells : out' ≡ placed out o writes

-- the buffer has room for one line more
abbrev pub Room : List ℕ → ℕ → Type 0
Room out o = o + line_limit ≤ length out

-- the header is written, and the first line is to be read
pub record Starts (out out' : List ℕ) (s : State) : Type 0 where
  pub at : s.at ≡ 0
  pub kept : s.n ≡ 0
  pub first : s.number ≡ 1
  pub put : Put out out' 0 s.o header

-- the line of this number is answered, behind the first o bytes of the buffer
pub record LineWritten (line : List ℕ) (number : ℕ) (out out' : List ℕ) (o r : ℕ) : Type 0 where
  pub answer : LineAnswer
  pub answers : LineAnswers line answer
  pub put : Put out out' o r (line_written number answer)

-- what a step puts into the buffer comes before what the program writes from there on
pub record Steps (chunk kept kept' out out' : List ℕ) (s s' : State) : Type 0 where
  pub writes : List ℕ
  pub put : Put out out' s.o s'.o writes
  pub run : s.number < number_limit → (chunks : List (List ℕ)) (more : List ℕ)
      → Run kept' s'.n s'.number chunk s'.at chunks more → Run kept s.n s.number chunk s.at chunks (writes ++ more)
  pub onward : s.at < length chunk → s.at < s'.at
  -- what the call of `take` gave, and the number of the line that is to come
  pub taken : Taken
  pub took : Takes chunk s.at kept s.n kept' taken
  pub place : s'.at ≡ taken.at
  pub count : s'.n ≡ cond taken.ended 0 taken.n
  pub number : s'.number ≡ cond taken.ended (following s.number) s.number

-- at the end of the input this is all that it writes
pub record Ends (kept out out' : List ℕ) (s : State) (r : ℕ) : Type 0 where
  pub writes : List ℕ
  pub put : Put out out' s.o r writes
  pub run : (chunk : List ℕ) (from : ℕ) → length chunk ≤ from → Run kept s.n s.number chunk from [] writes
