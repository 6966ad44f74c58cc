-- What the small program does with its input, step by step: it calls `take`, writes a line where one ended, and the last one at the end. Definitions only.
use Rattle.std.specs.Prelude.{ℕ, ◌+◌, ◌≤◌, ◌<◌, ◌≡◌, true, false, List, [], ◌∷◌, ◌++◌, length, take}
use Rattle.paper_expressions.specs.Bytes.{bytes}
use Rattle.paper_guideline.specs.Line.{LineAnswer, LineAnswers, digits_of, answer_written}
use Rattle.lines.specs.Kept.{Takes}
use Rattle.lines.specs.declared.Taken.{Taken}

abbrev pub header : List ℕ
header = bytes "line type value" ++ (10 ∷ [])

-- the number of a line, a blank, its answer, a newline
abbrev pub line_written : ℕ → LineAnswer → List ℕ
line_written number a = digits_of number ++ (32 ∷ answer_written a) ++ (10 ∷ [])

abbrev pub joined : List (List ℕ) → List ℕ
joined [] = []
joined (chunk ∷ chunks) = chunk ++ joined chunks

-- The program keeps n bytes of the line of this number, and has come to a place in a chunk; these chunks are still to be read. This is what it writes from here on.
pub data Run : (kept : List ℕ) (n number : ℕ) (chunk : List ℕ) (from : ℕ) (chunks : List (List ℕ)) (writes : List ℕ) → Type 0 where
  -- `take` met a newline: the line is written, and the next one begins with no byte kept
  line_ends : {kept kept' chunk w : List ℕ} {n number from : ℕ} {chunks : List (List ℕ)} {r : Taken} {a : LineAnswer}
      → Takes chunk from kept n kept' r → r.ended ≡ true → LineAnswers (take r.n kept') a
      → Run kept' 0 (number + 1) chunk r.at chunks w → Run kept n number chunk from chunks (line_written number a ++ w)
  -- `take` came to the chunk's end: the line goes on
  line_goes_on : {kept kept' chunk w : List ℕ} {n number from : ℕ} {chunks : List (List ℕ)} {r : Taken}
      → Takes chunk from kept n kept' r → r.ended ≡ false
      → Run kept' r.n number chunk r.at chunks w → Run kept n number chunk from chunks w
  -- the chunk is used up, and the next one is read
  next_chunk : {kept chunk next w : List ℕ} {n number from : ℕ} {chunks : List (List ℕ)}
      → length chunk ≤ from → Run kept n number next 0 chunks w → Run kept n number chunk from (next ∷ chunks) w
  -- the input ends: a last line without a newline is written, if it has any byte
  last_line : {kept chunk : List ℕ} {n number from : ℕ} {a : LineAnswer}
      → length chunk ≤ from → 0 < n → LineAnswers (take n kept) a → Run kept n number chunk from [] (line_written number a)
  no_last_line : {kept chunk : List ℕ} {number from : ℕ} → length chunk ≤ from → Run kept 0 number chunk from [] []
