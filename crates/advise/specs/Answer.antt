-- What the lines that a person types do to the text bytes and the state: README's table of lines, over the public calls. Definitions only.
use Rattle.std.specs.Prelude.{ℕ, ◌-◌, ◌≤◌, ◌<◌, ◌≡◌, Bool, true, false, cond, not, ◌&&◌, List, [], eqb, ltb, length, get_or, take, drop}
use Rattle.commands.specs.Commands.{command_of}
use Rattle.commands.specs.declared.Command.{Command}
use Rattle.commands.specs.declared.Command.TheVariants.{Nothing, Give, Run, RunFor, Confirm, Trigger, Time, Later, Earlier, Tree, Asked, Rows, Why, Help, Quit, Unclear}
use Rattle.typed_lines.specs.declared.lines.Held.{Held}
use Rattle.advise.specs.CallsTold.{later_of, earlier_of, TimeSet, TaskConfirmed, TriggerSent, ValueGiven}
use Rattle.advise.specs.RunTold.{RunTold}

-- the bytes of a line from one place up to another: none, if they are not there
abbrev pub between : List ℕ → ℕ → ℕ → List ℕ
between line from to = cond (ltb (length line) to) [] (cond (ltb to from) [] (take (to - from) (drop from line)))

-- a command that leaves all as it is: it shows something, can't be read, or is the end
abbrev pub showsb : Command → Bool
showsb Nothing = true
showsb (Give from to at) = false
showsb Run = false
showsb (RunFor n) = false
showsb (Confirm from to) = false
showsb (Trigger from to) = false
showsb (Time n) = false
showsb (Later n) = false
showsb (Earlier n) = false
showsb Tree = true
showsb Asked = true
showsb (Rows from to) = true
showsb (Why from to) = true
showsb Help = true
showsb Quit = true
showsb (Unclear at) = true

abbrev pub quitb : Command → Bool
quitb Nothing = false
quitb (Give from to at) = false
quitb Run = false
quitb (RunFor n) = false
quitb (Confirm from to) = false
quitb (Trigger from to) = false
quitb (Time n) = false
quitb (Later n) = false
quitb (Earlier n) = false
quitb Tree = false
quitb Asked = false
quitb (Rows from to) = false
quitb (Why from to) = false
quitb Help = false
quitb Quit = true
quitb (Unclear at) = false

-- z the rows, x the parts, f the plan, w who waits for whom: a command of a line leads from the text bytes b and the state s to others
pub data Obeys (z x f : List ℕ) (w : List (List Bool)) (line b s : List ℕ) : Command → List ℕ → List ℕ → Type 0 where
  gives : {from to at : ℕ} {b' s' : List ℕ} → ValueGiven line at z f (between line from to) b s b' s' → Obeys z x f w line b s (Give from to at) b' s'
  runs : {b' s' : List ℕ} → RunTold 256 x b f w s b' s' → Obeys z x f w line b s Run b' s'
  runs_for : {n : ℕ} {b' s' : List ℕ} → RunTold n x b f w s b' s' → Obeys z x f w line b s (RunFor n) b' s'
  confirms : {from to : ℕ} {s' : List ℕ} → TaskConfirmed z b f (between line from to) s s' → Obeys z x f w line b s (Confirm from to) b s'
  triggers : {from to : ℕ} {s' : List ℕ} → TriggerSent (between line from to) b f s s' → Obeys z x f w line b s (Trigger from to) b s'
  sets : {n : ℕ} {s' : List ℕ} → TimeSet n s s' → Obeys z x f w line b s (Time n) b s'
  goes_on : {n : ℕ} {s' : List ℕ} → TimeSet (later_of (get_or s 2 0) n) s s' → Obeys z x f w line b s (Later n) b s'
  goes_back : {n : ℕ} {s' : List ℕ} → TimeSet (earlier_of (get_or s 2 0) n) s s' → Obeys z x f w line b s (Earlier n) b s'
  shows : {c : Command} → showsb c ≡ true → Obeys z x f w line b s c b s

-- a line is answered by what it asks for; there may be another, unless it is the end
pub record Answers (z x f : List ℕ) (w : List (List Bool)) (line b s b' s' : List ℕ) (more : Bool) : Type 0 where
  pub obeys : Obeys z x f w line b s (command_of line) b' s'
  pub goes_on : more ≡ not (quitb (command_of line))

-- nothing is left to be read, or to be told of a line that was too long
abbrev pub overb : Held → Bool
overb h = not h.long && (h.ended && eqb h.bytes 0)

-- the line that ends at a place of a buffer is answered; of one that was too long nothing is; past the buffer is none
pub data Turned (z x f : List ℕ) (w : List (List Bool)) (buffer : List ℕ) (end : ℕ) (long : Bool) (b s : List ℕ) : List ℕ → List ℕ → Bool → Type 0 where
  past : length buffer < end → Turned z x f w buffer end long b s b s false
  too_long : end ≤ length buffer → long ≡ true → Turned z x f w buffer end long b s b s true
  answered : {b' s' : List ℕ} {more : Bool} → end ≤ length buffer → long ≡ false → Answers z x f w (take end buffer) b s b' s' more → Turned z x f w buffer end long b s b' s' more

-- lines, whichever were read, one after the other, as long as there may be another
pub data Talks (z x f : List ℕ) (w : List (List Bool)) (b s : List ℕ) : List ℕ → List ℕ → Bool → Type 0 where
  no_line : Talks z x f w b s b s true
  one_more : {line b₁ s₁ b' s' : List ℕ} {more : Bool} → Talks z x f w b s b₁ s₁ true → Answers z x f w line b₁ s₁ b' s' more → Talks z x f w b s b' s' more

pub record Talked (z x f : List ℕ) (w : List (List Bool)) (b s b' s' : List ℕ) : Type 0 where
  pub more : Bool
  pub talks : Talks z x f w b s b' s' more
