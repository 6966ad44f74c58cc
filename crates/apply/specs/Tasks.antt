-- The lent names and states of the tasks, and the task that a text names. Definitions only.
use Rattle.std.specs.Prelude.{◌≡◌, Bool, true, false, cond, List, ℕ, zero, suc, ◌<◌, eqb, ltb, get_or, length}
use Rattle.std.proofs.Math.Option.{Option, none, some}
use Rattle.paper_expressions.specs.Values.{TaskState, dormant, in_progress, discarded, completed}
use Rattle.paper_expressions.specs.View.{View, Task, At}
use Rattle.paper_expressions.proofs.Laws.Search.{alikeb}
use Rattle.values.specs.declared.text.Handle.{Handle}
use Rattle.values.specs.declared.scalar.Scalar.{Scalar}
use Rattle.values.specs.declared.scalar.Scalar.TheVariants.{Unknown, Truth}
use Rattle.values.specs.Meaning.{bytes_of, handle_of}

-- ---- the columns

-- the name of a task; task 0 is the root, which has none
abbrev pub name_of : List ℕ → List ℕ → ℕ → Option (List ℕ)
name_of b names zero = none
name_of b names (suc i) = some (bytes_of b (handle_of (get_or names (suc i) 0)))

-- the state of a task; 0 if a collision has made it unknown
abbrev pub state_code : TaskState → ℕ
state_code dormant = 1
state_code in_progress = 2
state_code discarded = 3
state_code completed = 4

abbrev pub state_number : Option TaskState → ℕ
state_number none = 0
state_number (some s) = state_code s

-- the columns hold the tasks of the view, and none over
pub record Tasks (b names states : List ℕ) (v : View) : Type 0 where
  pub number : length v.tasks ≡ length names
  pub named : {i : ℕ} {x : Task} → At v.tasks i x → x.name ≡ name_of b names i
  pub stated : {i : ℕ} {x : Task} → At v.tasks i x → get_or states i 0 ≡ state_number x.state

-- ---- the search

-- whether the name of the task i is alike to the text
abbrev pub namedb : List ℕ → List ℕ → Handle → ℕ → Bool
namedb b names h zero = false
namedb b names h (suc i) = alikeb (bytes_of b (handle_of (get_or names (suc i) 0))) (bytes_of b h)

-- r is the first task whose name is alike to the text, or no task
pub record FoundTask (b names : List ℕ) (h : Handle) (r : ℕ) : Type 0 where
  pub before : (k : ℕ) → k < r → ¬ (namedb b names h k ≡ true)
  pub found : r < length names → namedb b names h r ≡ true

-- r says whether the task that the text names is in the state with the number k
abbrev pub StateOf : List ℕ → List ℕ → List ℕ → ℕ → Handle → Scalar → Type 0
StateOf b names states k h r = (i : ℕ) × FoundTask b names h i × (r ≡ cond (ltb i (length names)) (Truth (eqb (get_or states i 0) k)) Unknown)
