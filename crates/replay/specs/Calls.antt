-- What each call of a script does to the tables, and what is answered to it: docs/REPLAY.md, "Answers". Definitions only.
use Rattle.std.specs.Prelude.{◌≡◌, Bool, List, [], ◌∷◌, ◌++◌, ◌⊎◌, ℕ, ◌-◌, ◌≤◌, ◌<◌, ℤ, pos, length, take, drop, replicate}
use Rattle.paper_expressions.specs.Bytes.{bytes}
use Rattle.replying.specs.declared.Reply.{Reply}
use Rattle.load.specs.declared.Reply.{Reply as LoadReply}
use Rattle.load.specs.declared.Reply.TheVariants as Loads
use Rattle.load.specs.Loads.{lent, Replied}
use Rattle.runs.specs.declared.Ran.{Ran}
use Rattle.runs.specs.declared.Ran.TheVariants as Runs
use Rattle.runs.specs.Run.{RunsAlone}
use Rattle.clock.specs.Time.{SetsTime}
use Rattle.confirming.specs.Confirm.{Confirms}
use Rattle.adding.specs.Add.{Adds}
use Rattle.triggering.specs.Trigger.{Triggers}
use Rattle.row_read.specs.Read.{ReadsRow}
use Rattle.row_shown.specs.declared.Row.{Row}
use Rattle.script.specs.declared.calls.Call.{Call}
use Rattle.script.specs.declared.calls.Call.TheVariants as Calls
use Rattle.script.specs.Places.{line_of}
use Rattle.script.specs.Values.{line_tags, line_numbers, line_bytes}
use Rattle.transcript.specs.Answers.{refused_lined, reply_written, counted_written, row_written}
use Rattle.replay.specs.declared.calls.Answered.{Answered}
use Rattle.replay.specs.Rows.{Buffer, buffer, Writes, with_room, RowsAnswered}

-- the tables that are lent to the calls
pub record Tables : Type 0 where
  pub parts : List ℕ
  pub plan : List ℕ
  pub waits : List (List Bool)
  pub texts : List ℕ
  pub state : List ℕ

abbrev pub tables : List ℕ → List ℕ → List (List Bool) → List ℕ → List ℕ → Tables
tables x f w b s = record { parts = x; plan = f; waits = w; texts = b; state = s }

-- ---- the lines of answers

abbrev pub load_written : LoadReply → List ℕ
load_written Loads.Done = bytes "loaded" ++ (10 ∷ [])
load_written (Loads.Refused n place) = refused_lined n place

abbrev pub ran_written : Ran → List ℕ
ran_written (Runs.Quiet n) = counted_written (bytes "quiet") n
ran_written (Runs.Bounded n) = counted_written (bytes "bounded") n
ran_written (Runs.Exception n) = counted_written (bytes "exception") n
ran_written (Runs.Refused n) = refused_lined n 0

-- ---- load: the text from one place to another; no script has a line without it

pub data LoadAnswered (s : List ℕ) (from to : ℕ) (t t' : Tables) (x y : Buffer) : Type 0 where
  no_text : (to < from) ⊎ (length s < to) → t' ≡ t → y ≡ x → LoadAnswered s from to t t' x y
  a_text : from ≤ to → to ≤ length s → (rows : List ℕ) (r : LoadReply)
      → Replied (take (to - from) (drop from s)) (lent (replicate 10920 0) t.parts t.plan t.waits t.texts t.state) (lent rows t'.parts t'.plan t'.waits t'.texts t'.state) r
      → Writes x y (load_written r) → LoadAnswered s from to t t' x y

-- ---- run, with so many rows lent: 8,192 at most

pub data RunsLent (bound lent : ℕ) (x b f : List ℕ) (w : List (List Bool)) (s b' s' : List ℕ) (r : Ran) : Type 0 where
  too_many : 8192 < lent → r ≡ Runs.Refused 6 → b' ≡ b → s' ≡ s → RunsLent bound lent x b f w s b' s' r
  runs : lent ≤ 8192 → RunsAlone bound lent x b f w s b' s' r → RunsLent bound lent x b f w s b' s' r

-- ---- trigger, with the first n of the bytes

pub data TriggerAnswered (g : List ℕ) (n : ℕ) (b f s s' : List ℕ) (x y : Buffer) : Type 0 where
  too_few : length g < n → s' ≡ s → y ≡ x → TriggerAnswered g n b f s s' x y
  sent : n ≤ length g → (r : Reply) → Triggers (take n g) b f s s' r → Writes x y (reply_written r) → TriggerAnswered g n b f s s' x y

-- ---- row: its value, or that there is none

pub record RowAnswered (kind component property : ℕ) (b f : List ℕ) (w : List (List Bool)) (s : List ℕ) (x y : Buffer) : Type 0 where
  pub row : Row
  pub reads : ReadsRow kind component property f w s row
  pub written : Writes x y (row_written b row ++ (10 ∷ []))

-- ---- a call of the script s, to which these tags, numbers and bytes are given

pub data CallAnswered (s tags : List ℕ) (numbers : List ℤ) (given : List ℕ) : Call → Tables → Tables → Buffer → Buffer → Type 0 where
  load : {from to : ℕ} {t t' : Tables} {x y : Buffer} → LoadAnswered s from to t t' x y → CallAnswered s tags numbers given (Calls.Load from to) t t' x y
  run : {bound lent : ℕ} {p f : List ℕ} {w : List (List Bool)} {b st b' st' : List ℕ} {x y : Buffer} (r : Ran) → RunsLent bound lent p b f w st b' st' r → Writes x y (ran_written r)
      → CallAnswered s tags numbers given (Calls.Run bound lent) (tables p f w b st) (tables p f w b' st') x y
  time : {n : ℕ} {p f : List ℕ} {w : List (List Bool)} {b st st' : List ℕ} {x y : Buffer} (r : Reply) → SetsTime n st st' r → Writes x y (reply_written r)
      → CallAnswered s tags numbers given (Calls.Time n) (tables p f w b st) (tables p f w b st') x y
  confirm : {task : ℕ} {p f : List ℕ} {w : List (List Bool)} {b st st' : List ℕ} {x y : Buffer} (r : Reply) → Confirms task f st st' r → Writes x y (reply_written r)
      → CallAnswered s tags numbers given (Calls.Confirm task) (tables p f w b st) (tables p f w b st') x y
  add : {item : ℕ} {p f : List ℕ} {w : List (List Bool)} {b st b' st' : List ℕ} {x y : Buffer} (r : Reply) → Adds item tags numbers given b f st b' st' r → Writes x y (reply_written r)
      → CallAnswered s tags numbers given (Calls.Add item) (tables p f w b st) (tables p f w b' st') x y
  trigger : {n : ℕ} {p f : List ℕ} {w : List (List Bool)} {b st st' : List ℕ} {x y : Buffer} → TriggerAnswered given n b f st st' x y
      → CallAnswered s tags numbers given (Calls.Trigger n) (tables p f w b st) (tables p f w b st') x y
  row : {kind component property : ℕ} {t : Tables} {x y : Buffer} → RowAnswered kind component property t.texts t.plan t.waits t.state x y
      → CallAnswered s tags numbers given (Calls.Row kind component property) t t x y
  rows : {t : Tables} {x y : Buffer} → RowsAnswered t.texts t.plan t.waits t.state x y → CallAnswered s tags numbers given Calls.Rows t t x y

-- ---- the line at a place: its call, with what it gives over blank cells, and the place behind it

pub record LineAnswered (s : List ℕ) (at : ℕ) (t t' : Tables) (out out' : List ℕ) (o : ℕ) (r : Answered) : Type 0 where
  pub behind : r.next ≡ (line_of s at).next
  pub answered : CallAnswered s (line_tags s at (replicate 21 0)) (line_numbers s at (replicate 21 (pos 0))) (line_bytes s at (replicate 1280 0)) (line_of s at).call t t' (with_room (buffer out o)) (buffer out' r.o)
