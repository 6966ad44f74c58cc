-- What the tables show while they hold the state of a guideline: to the evaluator its one view, to the review every row that it asks about. By the fields of `Holds`.
use Rattle.std.specs.Prelude.{ℕ, ◌+◌, ◌*◌, ◌<◌, ◌≤◌, ◌≡◌, refl, Bool, ◌⊎◌, List, pos, get_or, length}
use Rattle.std.proofs.Common.{arith, sym, ap, subst, ◌∙◌, inl, inr}
use Rattle.std.proofs.Math.Option.{Option, some}
use Rattle.paper_expressions.specs.Values.{TaskState, dormant, in_progress, discarded, completed}
use Rattle.paper_expressions.specs.Types.{TruthValue}
use Rattle.paper_expressions.specs.Expressions.{Expr, HasType}
use Rattle.paper_expressions.specs.View.{Item, At}
use Rattle.paper_expressions.specs.View as Views
use Rattle.paper_guideline.specs.Structure.{TopLevel, DataItem, Task, data_items, tasks}
use Rattle.paper_guideline.specs.Refusals.{declared_items}
use Rattle.paper_rows.specs.Table.{task, data_item, ◌№◌, Property, class, state, precondition, wait_condition, terminate_condition, procedure, cycle_count, value, RowValue, state_is, expression_is, integer_row, Table, Contains, TaskId}
use Rattle.paper_rows.specs.Load.{Adds}
use Rattle.paper_rows.proofs.Laws.Lists.{at_below, at_indexed}
use Rattle.paper_rows.proofs.Laws.Seen.{value_f, state_f}
use Rattle.paper_engine.proofs.Laws.Kept.{Kept, Moving, view_f, view_of, view_sound, item_view, task_view, task_id, adds}
use Rattle.paper_engine.proofs.Laws.LimitLaws.{view_held}
use Rattle.paper_engine.proofs.Laws.Attached.{precondition_typed, wait_typed, terminate_typed}
use Rattle.parts.specs.Part as Parts
use Rattle.apply.specs.Tasks.{state_code, state_number}
use Rattle.evaluator.specs.Columns.{Setting, shown_at, shown}
use Rattle.state.specs.Cell.{one_row}
use Rattle.state.specs.Cell as Cells
use Rattle.state.specs.Layout.{Rows, state_column}
use Rattle.waits.specs.Worked.{Worked, Allowed, Marks}
use Rattle.discards.specs.DiscardLaws.{Ends}
use Rattle.starting.specs.StartRows.{Startable, Countable}
use Rattle.operations.specs.Rows.{Targets, assign_at, assigns_at}
use Rattle.review.specs.Changes.{tasks_in, Shown}
use Rattle.truths.specs.Part.{part_of, part_at, shown_by}
use Rattle.truths.specs.Truth.{AllAllowed, AllEnded}
use Rattle.planned.specs.Planned.{Planned, item_types}
use Rattle.holding.specs.Holding.{Holds}
use Rattle.holding.specs.Values.{item_shown}

same_code : (x : TaskState) → Cells.state_code x ≡ state_code x
same_code dormant = refl
same_code in_progress = refl
same_code discarded = refl
same_code completed = refl

procedure_added : {g : List TopLevel} {T : ℕ} {r : RowValue} → ¬ Adds g (task № T) procedure r
procedure_added h = elim h [ ]

module _ {g : List TopLevel} {x b f : List ℕ} {w : List (List Bool)} {s : List ℕ} {t : Table} {flag : Bool} {time : ℕ} (h : Holds g x b f w s t flag time) where
  pub kept : Kept g t
  kept = h.good.kept

  pub planned : Planned g (Parts.table x b) f w
  planned = h.plans b (λ i l. refl)

  pub worked : Worked f w (tasks_in f) t
  worked = planned.worked t kept

  pub in32 : {T : ℕ} → T < tasks_in f → T < 32
  in32 l = let z = worked.number in omega arith

  -- ---- the evaluator's view

  few_items : {i : ℕ} {y : DataItem} → At (data_items g) i y → i < 64
  few_items k = let z = at_below k in let n = h.sized.few_items in omega arith

  values_shown : {i : ℕ} {y : Item} → At (view_f g t).items i y → shown_at b (part_of s 776 1088) (part_of s 1864 1088) i ≡ shown y.value
  values_shown {i} k =
      let z = at_indexed (item_view t) (data_items g) k in
      let l = few_items z.1 in
      item_shown (part_of s 776 1088) (part_of s 1864 1088) i l (h.values i l) (λ j m. part_at s 776 1088 j m) (λ j m. part_at s 1864 1088 j m)
      ∙ ap (λ (q : Item). shown q.value) z.2

  states_shown : {i : ℕ} {y : Views.Task} → At (view_f g t).tasks i y → get_or (part_of s 40 32) i 0 ≡ state_number y.state
  states_shown {i} k =
      let z = at_indexed (task_view t) (tasks g) k in
      let id = task_id kept (h.lawful.reached z.1) in
      let l = in32 ((worked.ids i).0 id) in
      let r = kept.states id in
      part_at s 40 32 i l ∙ (h.rows.tasks state_column l).its_number ∙ ap Cells.number r.1 ∙ same_code r.0
      ∙ sym (ap (λ (q : Option RowValue). state_number (state_f q)) r.1) ∙ ap (λ (q : Views.Task). state_number q.state) z.2

  pub setting : Setting (Parts.table x b) (shown_by f s) (view_f g t)
  setting =
      record {
        apart = (view_sound h.lawful kept).apart;
        held = view_held h.good.fits (view_of h.lawful kept);
        items = record { types = item_types f; items = planned.items t kept; values = values_shown };
        tasks = record { number = planned.named_tasks t kept; named = planned.task-names t kept; stated = states_shown };
      }

  -- ---- the marks that the review asks for

  pub preconditions : (m : List Bool) → AllAllowed (Parts.table x b) (shown_by f s) f 520 m → Marks (tasks_in f) (Allowed t precondition) m
  preconditions m k = k g t precondition (tasks_in f) worked.number h.lawful kept setting (planned.preconditions t kept) (λ T e z. precondition_typed h.lawful (adds kept (λ q. elim q [ ]) z))

  pub wait_conditions : (m : List Bool) → AllAllowed (Parts.table x b) (shown_by f s) f 552 m → Marks (tasks_in f) (Allowed t wait_condition) m
  wait_conditions m k = k g t wait_condition (tasks_in f) worked.number h.lawful kept setting (planned.wait_conditions t kept) (λ T e z. wait_typed h.lawful (adds kept (λ q. elim q [ ]) z))

  pub terminates : (m : List Bool) → AllEnded (Parts.table x b) (shown_by f s) f 584 m → Marks (tasks_in f) (Ends t) m
  terminates m k = k g t terminate_condition (tasks_in f) worked.number h.lawful kept setting (planned.terminates t kept) (λ T e z. terminate_typed h.lawful (adds kept (λ q. elim q [ ]) z))

  -- ---- the rows that the review asks about

  countable : (T : ℕ) → Countable t T
  countable T k z = go (h.good.counted.small z)
    where
      same : {a b : ℕ} → integer_row (pos a) ≡ integer_row (pos b) → a ≡ b
      same e = cc

      go : (integer_row (pos k) ≡ integer_row (pos 0)) ⊎ (integer_row (pos k) ≡ integer_row (pos 1)) → k < 4294967295
      go (inl e) = let y = same e in omega arith
      go (inr e) = let y = same e in omega arith

  startable : (T : ℕ) → T < tasks_in f → Startable s f T t
  startable T l =
      let z = worked.sourced l in
      record {
        rows = h.rows;
        within = in32 l;
        countable = countable T;
        action = worked.actions l;
        sourced = record { enquiry = worked.enquiries l; of = z.of; all = z.all; items = z.items };
        no_procedure = λ e q. procedure_added (adds kept (λ y. elim y [ ]) q);
      }

  targets : (T : ℕ) → T < tasks_in f → Targets f (assign_at f T) (assigns_at f T)
  targets T l i m =
      let n = planned.numbers.most_assignments l in
      let z : assign_at f T + i < 256 = omega arith in
      (z, planned.targets z)

  pub reviewed : Shown s f w t
  reviewed = record { rows = h.rows; worked = worked; numbers = planned.numbers; startable = startable; targets = targets }
