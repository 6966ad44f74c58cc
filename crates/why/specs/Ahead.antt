-- What the next cycle does with a task: the marks that the review asks for, and the first of the four that holds. Definitions only.
use Rattle.std.specs.Prelude.{ℕ, Bool, true, false, List, get_or}
use Rattle.parts.specs.Part.{table}
use Rattle.truths.specs.Part.{shown_by}
use Rattle.truths.specs.Truth.{AllAllowed, AllEnded}
use Rattle.passes.specs.Passes.{Starts, Initialises}
use Rattle.passes.specs.Ends.{Terminated, Discarded, Completed}
use Rattle.why.specs.declared.ahead.Review.{Review}
use Rattle.why.specs.declared.ahead.Move.{Move}
use Rattle.why.specs.declared.ahead.Move.TheVariants.{Initialise, Start, Discard, Complete, Nothing}

-- 8.5.1: "If InitialiseConditions(T) is true then perform Initialise(T), else if StartConditions(T) .."
abbrev pub move_f : Bool → Bool → Bool → Bool → Move
move_f true s d c = Initialise
move_f false true d c = Start
move_f false false true c = Discard
move_f false false false true = Complete
move_f false false false false = Nothing

-- the marks are those by which the review of `review` decides, over the same tables
pub record Ahead (x b f : List ℕ) (w : List (List Bool)) (s : List ℕ) (n : Review) : Type 0 where
  pub preconditions : AllAllowed (table x b) (shown_by f s) f 520 n.pre
  pub wait_conditions : AllAllowed (table x b) (shown_by f s) f 552 n.wait
  pub terminate_conditions : AllEnded (table x b) (shown_by f s) f 584 n.ends
  pub start : Starts s f w n.pre n.wait (get_or s 2 0) n.starts
  pub initialise : Initialises s f n.starts n.initialises
  pub terminate : Terminated s f n.ends n.ended
  pub discard : Discarded s f w n.pre n.wait n.ended n.discards
  pub complete : Completed s f n.starts n.discards n.initialises n.completes
