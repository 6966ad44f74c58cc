-- The conditions of 8.6 and the clause of Review as computed tests over a table: the twins that worked runs compute and that code is held to.
use Rattle.std.specs.Prelude.{ℕ, zero, suc, Bool, true, false, not, ◌&&◌, ◌||◌, List, [], ◌∷◌, eqb, leb, ℤ, length}
use Rattle.std.proofs.Math.Option.{Option, none, some}
use Rattle.std.specs.Int.Signed.{lt_z}
use Rattle.paper_expressions.specs.Values.{Scalar, unknown, truth, integer, real, text, Value, one, sequence, TaskState, dormant, in_progress, discarded, completed}
use Rattle.paper_expressions.specs.Expressions.{Expr}
use Rattle.paper_expressions.specs.Clauses as Evaluation
use Rattle.paper_expressions.proofs.Laws.Only.{Answer, gives, fails}
use Rattle.paper_expressions.proofs.Laws.Promise.{eval_f}
use Rattle.paper_guideline.specs.Structure.{TopLevel, tasks}
use Rattle.paper_rows.specs.Table
use Table.{task, data_item, candidate, argument, parameter, source, warning_condition, Component, ◌№◌, a_plan}
use Table.{class, state, antecedent_tasks, precondition, wait_condition, trigger, trigger_active, parent_plan, confirmatory, confirmed, cycle_count, nbr_cycles_value, cycle_until, start_at, optional, terminal, terminate_condition, sources, data_item_of, mandatory, requested}
use Table.{RowValue, Table}
use Rattle.paper_engine.specs.Operations.{Clause, §8·5·1-1, §8·5·1-2, §8·5·1-3, §8·5·1-4, §8·5·1-5}
use Rattle.paper_rows.proofs.Laws.Booleans.{every_f, any_f, all_f, some_f}
use Rattle.paper_rows.proofs.Laws.Seen.{when_f, there_f, absent_f, state_f, class_f, time_f, expression_f, components_f, truth_f, text_f, integer_f, task_f, item_f}
use Rattle.paper_rows.proofs.Laws.Ranks.{same_state, same_class, same_truth}
use Rattle.paper_rows.proofs.Laws.RowLists
use Rattle.paper_engine.proofs.Laws.Kept.{view_f}

-- ---- rows

abbrev pub in_f : Table → ℕ → TaskState → Bool
in_f t T s = there_f (state_f (t (task № T) state)) (λ x. same_state x s)

-- a row that holds true, or false
abbrev pub says_f : Option RowValue → Bool → Bool
says_f o b = there_f (truth_f o) (λ x. same_truth x b)

abbrev pub on_task_f : (ℕ → Bool) → Component → Bool
on_task_f f (task № n) = f n
on_task_f f (data_item № n) = true
on_task_f f (candidate № n) = true
on_task_f f (argument № n) = true
on_task_f f (parameter № n) = true
on_task_f f (source № n) = true
on_task_f f (warning_condition № n) = true

abbrev pub a_task_f : (ℕ → Bool) → Component → Bool
a_task_f f (task № n) = f n
a_task_f f (data_item № n) = false
a_task_f f (candidate № n) = false
a_task_f f (argument № n) = false
a_task_f f (parameter № n) = false
a_task_f f (source № n) = false
a_task_f f (warning_condition № n) = false

-- ---- 9.1: Evaluate(E, T), unknown where no clause fits; and whether it is true

abbrev pub given_f : Answer (List Evaluation.Clause) → Value
given_f (gives cs w) = w
given_f fails = one unknown

abbrev pub is_true_f : Value → Bool
is_true_f (one unknown) = false
is_true_f (one (truth b)) = b
is_true_f (one (integer n)) = false
is_true_f (one (real n)) = false
is_true_f (one (text s)) = false
is_true_f (sequence l) = false

unfoldable pub evaluate_f : List TopLevel → Table → Expr → ℕ → Value
evaluate_f g t e T = given_f (eval_f (view_f g t) T e)

module _ (g : List TopLevel) (t : Table) where
  abbrev pub true_f : ℕ → Expr → Bool
  true_f T e = is_true_f (evaluate_f g t e T)

  -- ---- 8.6.6, 8.6.5

  abbrev pub over_f : ℕ → Bool
  over_f A = (in_f t A completed || in_f t A discarded) && absent_f (time_f (t (task № A) start_at))

  unfoldable pub schedule_f : ℕ → Bool
  schedule_f T = when_f (components_f (t (task № T) antecedent_tasks)) (every_f (on_task_f over_f)) && when_f (expression_f (t (task № T) wait_condition)) (true_f T)

  abbrev pub one_completed_f : List Component → Bool
  one_completed_f [] = true
  one_completed_f (c ∷ l) = any_f (a_task_f (λ A. in_f t A completed)) (c ∷ l)

  unfoldable pub scheduled_f : ℕ → Bool
  scheduled_f T = in_f t T dormant && (schedule_f T && (when_f (components_f (t (task № T) antecedent_tasks)) one_completed_f && when_f (expression_f (t (task № T) precondition)) (true_f T)))

  -- ---- 8.6.2, 8.6.1

  unfoldable pub start_f : ℕ → ℕ → Bool
  start_f now T =
      when_f (task_f (t (task № T) parent_plan)) (λ P. in_f t P in_progress)
      && ((scheduled_f T && absent_f (text_f (t (task № T) trigger)))
      || ((says_f (t (task № T) trigger_active) true && in_f t T dormant) || there_f (time_f (t (task № T) start_at)) (λ r. leb r now)))

  abbrev pub retriggered_f : ℕ → Bool
  retriggered_f T = in_f t T completed && (says_f (t (task № T) trigger_active) true && not (says_f (t (task № T) terminal) true))

  -- up to n plans up
  unfoldable pub initialise_up_f : ℕ → ℕ → ℕ → Bool
  initialise_up_f now zero T = retriggered_f T
  initialise_up_f now (suc n) T = retriggered_f T || there_f (task_f (t (task № T) parent_plan)) (λ P. start_f now P || initialise_up_f now n P)

  abbrev pub initialise_f : ℕ → ℕ → Bool
  initialise_f now T = initialise_up_f now (length (tasks g)) T

  -- ---- 8.6.8, 8.6.3

  abbrev pub child_f : ℕ → ℕ → Bool
  child_f C T = there_f (task_f (t (task № C) parent_plan)) (λ P. eqb P T)

  unfoldable pub termination_f : ℕ → Bool
  termination_f T =
      there_f (expression_f (t (task № T) terminate_condition)) (true_f T)
      || some_f (length (tasks g)) (λ C. child_f C T && (in_f t C completed && says_f (t (task № C) terminal) true))

  abbrev pub discardable_f : ℕ → Bool
  discardable_f T = in_f t T in_progress || (in_f t T dormant || (in_f t T completed && not (absent_f (time_f (t (task № T) start_at)))))

  abbrev pub parent_allows_f : ℕ → Bool
  parent_allows_f T = absent_f (task_f (t (task № T) parent_plan)) || there_f (task_f (t (task № T) parent_plan)) (λ P. in_f t P in_progress)

  abbrev pub all_discarded_f : List Component → Bool
  all_discarded_f [] = false
  all_discarded_f (c ∷ l) = every_f (on_task_f (λ A. in_f t A discarded)) (c ∷ l)

  abbrev pub unwanted_f : ℕ → Bool
  unwanted_f T = there_f (components_f (t (task № T) antecedent_tasks)) all_discarded_f || there_f (expression_f (t (task № T) precondition)) (λ e. not (true_f T e))

  unfoldable pub discard_2_f : ℕ → Bool
  discard_2_f T = parent_allows_f T && (in_f t T dormant && (schedule_f T && unwanted_f T))

  unfoldable pub discard_up_f : ℕ → ℕ → Bool
  discard_up_f zero T = discard_2_f T
  discard_up_f (suc n) T = there_f (task_f (t (task № T) parent_plan)) (λ P. in_f t P in_progress && (discardable_f T && (discard_up_f n P || termination_f P))) || discard_2_f T

  abbrev pub discard_f : ℕ → Bool
  discard_f T = discard_up_f (length (tasks g)) T

  -- ---- 8.6.4

  unfoldable pub settled_f : ℕ → ℕ → Bool
  settled_f now C =
      (says_f (t (task № C) optional) true || (in_f t C completed || in_f t C discarded))
      && (not (in_f t C in_progress) && (not (start_f now C) && (not (discard_f C) && (not (initialise_f now C) && absent_f (time_f (t (task № C) start_at))))))

  abbrev pub answered_f : Component → Bool
  answered_f S = when_f (item_f (t S data_item_of)) (λ d. not (says_f (t S mandatory) true) || says_f (t (data_item № d) requested) false)

  unfoldable pub complete_f : ℕ → ℕ → Bool
  complete_f now T =
      in_f t T in_progress
      && (when_f (components_f (t (task № T) sources)) (every_f answered_f)
      && ((not (says_f (t (task № T) confirmatory) true) || says_f (t (task № T) confirmed) true)
      && (not (there_f (class_f (t (task № T) class)) (λ k. same_class k a_plan)) || all_f (length (tasks g)) (λ C. not (child_f C T) || settled_f now C))))

  -- ---- 8.6.7

  unfoldable pub cycle_f : ℕ → Bool
  cycle_f T =
      there_f (integer_f (t (task № T) cycle_count)) (λ n. there_f (integer_f (t (task № T) nbr_cycles_value)) (λ m. lt_z n m))
      && when_f (expression_f (t (task № T) cycle_until)) (λ e. not (true_f T e))

  -- ---- 8.5.1

  abbrev pub pick_f : Bool → Bool → Bool → Bool → Clause
  pick_f true s d c = §8·5·1-1
  pick_f false true d c = §8·5·1-2
  pick_f false false true c = §8·5·1-3
  pick_f false false false true = §8·5·1-4
  pick_f false false false false = §8·5·1-5

  unfoldable pub review_f : ℕ → ℕ → Clause
  review_f now T = pick_f (initialise_f now T) (start_f now T) (discard_f T) (complete_f now T)
