-- A script that is answered: docs/REPLAY.md. Line behind line, from blank tables on, and `--` behind the last answer. Definitions only.
use Rattle.std.specs.Prelude.{◌≡◌, false, List, [], ◌∷◌, ℕ, ◌≤◌, ◌<◌, length, replicate}
use Rattle.replay.specs.Rows.{Buffer, buffer, Writes}
use Rattle.replay.specs.declared.calls.Answered.{Answered}
use Rattle.replay.specs.Calls.{Tables, tables, LineAnswered}

-- the lines of s up to a place, each behind the one before: they made of the tables t those, and of the buffer x that
pub data LinesAnswered (s : List ℕ) (t : Tables) (x : Buffer) : ℕ → Tables → Buffer → Type 0 where
  start : LinesAnswered s t x 0 t x
  further : {at : ℕ} {u v : Tables} {y : Buffer} {out : List ℕ} (r : Answered) → LinesAnswered s t x at u y → at < length s → LineAnswered s at u v y.out out y.place r → at < r.next
      → LinesAnswered s t x r.next v (buffer out r.o)

-- all of them; the last one that is answered is the first that is no call, where there is such a line
pub data ScriptAnswered (s : List ℕ) (t t' : Tables) (x y : Buffer) : Type 0 where
  ended : {at : ℕ} → LinesAnswered s t x at t' y → length s ≤ at → ScriptAnswered s t t' x y
  stopped : {at : ℕ} {u : Tables} {z : Buffer} {out : List ℕ} (r : Answered) → LinesAnswered s t x at u z → at < length s → LineAnswered s at u t' z.out out z.place r → r.next ≤ at
      → y ≡ buffer out r.o → ScriptAnswered s t t' x y

-- with nothing loaded
abbrev pub blank_tables : Tables
blank_tables = tables (replicate 4096 0) (replicate 1640 0) (replicate 32 (replicate 32 false)) (replicate 65536 0) (replicate 2952 0)

pub record Begun (s : List ℕ) (x y : Buffer) : Type 0 where
  pub after : Tables
  pub answered : ScriptAnswered s blank_tables after x y

-- what is in the buffer when it is written out at last
pub record Replayed (s out out' : List ℕ) : Type 0 where
  pub answers : Buffer
  pub begun : Begun s (buffer out 0) answers
  pub size : ℕ
  pub closed : Writes answers (buffer out' size) (45 ∷ 45 ∷ 10 ∷ [])
