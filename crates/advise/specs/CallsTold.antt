-- What a line that was typed does to the state: by which public call. Definitions only.
use Rattle.std.specs.Prelude.{ℕ, ◌+◌, ◌-◌, ◌<◌, ◌≡◌, cond, List, eqb, ltb, ℤ, length}
use Rattle.paper_expressions.specs.Values.{Value}
use Rattle.typed_value.specs.Elements.{Found, found, wrong}
use Rattle.typed_value.specs.Values.{typed}
use Rattle.typed_value.specs.Cells.{tags_of, numbers_of_fn, bytes_of}
use Rattle.typed_value.specs.declared.steps.Slip.{Slip}
use Rattle.explain_rows.specs.Firsts.{First}
use Rattle.known_names.specs.declared.lookup.Sort.TheVariants.{Task, Item}
use Rattle.known_names.specs.Names.{count_of, named_at}
use Rattle.replying.specs.declared.Reply.{Reply}
use Rattle.adding.specs.Add.{Adds}
use Rattle.clock.specs.Time.{SetsTime}
use Rattle.confirming.specs.Confirm.{Confirms}
use Rattle.triggering.specs.Trigger.{Triggers}

-- one beyond the limit stands for every time that is none
abbrev pub beyond : ℕ
beyond = 4294967296

abbrev pub later_of : ℕ → ℕ → ℕ
later_of time seconds = cond (ltb beyond seconds) beyond (time + seconds)

abbrev pub earlier_of : ℕ → ℕ → ℕ
earlier_of time seconds = cond (ltb time seconds) beyond (time - seconds)

-- the state s' is left by setting the time, with some reply
pub record TimeSet (time : ℕ) (s s' : List ℕ) : Type 0 where
  pub reply : Reply
  pub call : SetsTime time s s' reply

-- the state is left by confirming the first task with the name; where none has it, it stays
pub record TaskConfirmed (x b f name s s' : List ℕ) : Type 0 where
  pub task : ℕ
  pub named : First (named_at x b f Task name) (count_of f Task) task
  pub none : task ≡ count_of f Task → s' ≡ s
  pub reply : task < count_of f Task → Reply
  pub call : (l : task < count_of f Task) → Confirms task f s s' (reply l)

-- the state is left by sending the trigger
pub record TriggerSent (name b f s s' : List ℕ) : Type 0 where
  pub reply : Reply
  pub call : Triggers name b f s s' reply

-- the state and the text bytes are left by adding the value in these cells to the data item, with some reply
abbrev pub CellsGiven : ℕ → List ℕ → List ℤ → List ℕ → List ℕ → List ℕ → List ℕ → List ℕ → List ℕ → Type 0
CellsGiven item tags numbers bytes b f s b' s' = (r : Reply) × Adds item tags numbers bytes b f s b' s' r

-- they are left by adding the value that was read; where something was wrong instead, they stay
pub data GivenBy (item : ℕ) (b f s : List ℕ) : Found Value → List ℕ → List ℕ → Type 0 where
  unread : {k : Slip} {p : ℕ} → GivenBy item b f s (wrong k p) b s
  added : {v : Value} {p : ℕ} {b' s' : List ℕ} → CellsGiven item (tags_of v) (numbers_of_fn v) (bytes_of v) b f s b' s' → GivenBy item b f s (found v p) b' s'

-- the first data item with the name is given the value that stands in the line from a place on; where none has the name, all stays
pub record ValueGiven (line : List ℕ) (from : ℕ) (x f name b s b' s' : List ℕ) : Type 0 where
  pub item : ℕ
  pub named : First (named_at x b f Item name) (count_of f Item) item
  pub none : item ≡ count_of f Item → (b' ≡ b) × (s' ≡ s)
  pub given : item < count_of f Item → GivenBy item b f s (typed line from (length line)) b' s'

-- how many elements a value of a shape has: it is one, or a list
abbrev pub elements_of : ℕ → ℕ
elements_of shape = cond (eqb shape 0) 1 (cond (ltb 21 shape) 0 (shape - 1))
