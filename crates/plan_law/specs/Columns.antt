-- Each column of the plan, row by row: the kind of row that writes it, the cell and the value. By cases on the kind.
use Rattle.std.specs.Prelude.{ℕ, suc, ◌+◌, ◌-◌, ◌≡◌, refl, Bool, true, false, cond, ◌&&◌, ◌⊎◌, [], ◌∷◌, eqb}
use Rattle.std.proofs.Common.{sym, ap, subst, ◌∙◌, inl, inr, eqb-true}
use Rattle.paper_expressions.proofs.Laws.Tests.{contra, two}
use Rattle.paper_tokens.specs.Tokens
use Tokens.{“plan”, “action”, “enquiry”, “data”, “=”, “precondition”, “wait-condition”, “terminate”, “trigger”, “component”, “terminal”, “source”, “mandatory”}
use Rattle.paper_grammar.proofs.Laws.Ll.{is_in}
use Rattle.row_names.specs.Sheet.{task_kind}
use Rattle.plan.specs.Writes
use Writes.{Outline, store, Sort, a_task, a_data_item, a_precondition, a_wait_condition, a_terminate, a_trigger, a_component, a_terminal, a_source, a_mandatory, an_assignment, another, sort_of, entries_of, plan_f}
use Writes.{is_source, is_assignment, tasks_before, items_before, sources_before, assignments_before, at_task, task_row, task_named, item_named, item_alike, child, answer}

-- ---- the kinds that write

abbrev writing : ℕ → Bool
writing x = is_in x (“plan” ∷ “action” ∷ “enquiry” ∷ “data” ∷ “precondition” ∷ “wait-condition” ∷ “terminate” ∷ “trigger” ∷ “component” ∷ “terminal” ∷ “source” ∷ “mandatory” ∷ “=” ∷ [])

module _ (P : ℕ → Sort → Type 0) (x : ℕ) where
  choose : (w : ℕ) (a b : Sort) → P w a → (eqb x w ≡ false → P x b) → P x (cond (eqb x w) a b)
  choose w a b h k = go (two (eqb x w))
    where
      go : (eqb x w ≡ true) ⊎ (eqb x w ≡ false) → P x (cond (eqb x w) a b)
      go (inl q) = rw q (subst (λ (z : ℕ). P z a) (sym (eqb-true x w q)) h)
      go (inr q) = rw q (k q)

  by_sort : P “plan” (a_task 1) → P “action” (a_task 2) → P “enquiry” (a_task 3) → P “data” a_data_item → P “precondition” a_precondition → P “wait-condition” a_wait_condition → P “terminate” a_terminate → P “trigger” a_trigger → P “component” a_component → P “terminal” a_terminal → P “source” a_source → P “mandatory” a_mandatory → P “=” an_assignment
      → (writing x ≡ false → P x another) → P x (sort_of x)
  by_sort h1 h2 h3 h4 h5 h6 h7 h8 h9 h10 h11 h12 h13 h =
      choose “plan” (a_task 1) _ h1 (λ e1.
      choose “action” (a_task 2) _ h2 (λ e2.
      choose “enquiry” (a_task 3) _ h3 (λ e3.
      choose “data” a_data_item _ h4 (λ e4.
      choose “precondition” a_precondition _ h5 (λ e5.
      choose “wait-condition” a_wait_condition _ h6 (λ e6.
      choose “terminate” a_terminate _ h7 (λ e7.
      choose “trigger” a_trigger _ h8 (λ e8.
      choose “component” a_component _ h9 (λ e9.
      choose “terminal” a_terminal _ h10 (λ e10.
      choose “source” a_source _ h11 (λ e11.
      choose “mandatory” a_mandatory _ h12 (λ e12.
      choose “=” an_assignment _ h13 (λ e13.
      h (rw (e1, e2, e3, e4, e5, e6, e7, e8, e9, e10, e11, e12, e13)))))))))))))))

-- another kind is none of them
other : (w x : ℕ) → writing w ≡ true → writing x ≡ false → eqb x w ≡ false
other w x h e = go (two (eqb x w))
  where
    go : (eqb x w ≡ true) ⊎ (eqb x w ≡ false) → eqb x w ≡ false
    go (inl q) = contra (sym e ∙ ap writing (eqb-true x w q) ∙ h)
    go (inr q) = q

other_task : (x : ℕ) → writing x ≡ false → task_kind x ≡ false
other_task x e = rw (other “plan” x refl e, other “action” x refl e, other “enquiry” x refl e)

-- ---- the columns

-- 1 plan, 2 action, 3 enquiry
abbrev pub class_number : ℕ → ℕ
class_number x = cond (eqb x “plan”) 1 (cond (eqb x “action”) 2 3)

module _ (s : Outline) where
  pub write_task_count : (i k : ℕ) → plan_f s (suc k) Writes.task_count i ≡ cond (task_kind (s.kind k) && eqb (0) i) (tasks_before s k + 1) (plan_f s k Writes.task_count i)
  write_task_count i k =
      by_sort (λ x a. store (entries_of s k a) (plan_f s k) Writes.task_count i ≡ cond (task_kind x && eqb (0) i) (tasks_before s k + 1) (plan_f s k Writes.task_count i)) (s.kind k)
      refl refl refl refl refl refl refl refl refl refl refl refl refl (λ e. rw (other_task (s.kind k) e))

  pub write_class : (i k : ℕ) → plan_f s (suc k) Writes.class i ≡ cond (task_kind (s.kind k) && eqb (tasks_before s k) i) (class_number (s.kind k)) (plan_f s k Writes.class i)
  write_class i k =
      by_sort (λ x a. store (entries_of s k a) (plan_f s k) Writes.class i ≡ cond (task_kind x && eqb (tasks_before s k) i) (class_number x) (plan_f s k Writes.class i)) (s.kind k)
      refl refl refl refl refl refl refl refl refl refl refl refl refl (λ e. rw (other_task (s.kind k) e))

  pub write_first_source : (i k : ℕ) → plan_f s (suc k) Writes.first_source i ≡ cond (task_kind (s.kind k) && eqb (tasks_before s k) i) (sources_before s k) (plan_f s k Writes.first_source i)
  write_first_source i k =
      by_sort (λ x a. store (entries_of s k a) (plan_f s k) Writes.first_source i ≡ cond (task_kind x && eqb (tasks_before s k) i) (sources_before s k) (plan_f s k Writes.first_source i)) (s.kind k)
      refl refl refl refl refl refl refl refl refl refl refl refl refl (λ e. rw (other_task (s.kind k) e))

  pub write_first_assignment : (i k : ℕ) → plan_f s (suc k) Writes.first_assignment i ≡ cond (task_kind (s.kind k) && eqb (tasks_before s k) i) (assignments_before s k) (plan_f s k Writes.first_assignment i)
  write_first_assignment i k =
      by_sort (λ x a. store (entries_of s k a) (plan_f s k) Writes.first_assignment i ≡ cond (task_kind x && eqb (tasks_before s k) i) (assignments_before s k) (plan_f s k Writes.first_assignment i)) (s.kind k)
      refl refl refl refl refl refl refl refl refl refl refl refl refl (λ e. rw (other_task (s.kind k) e))

  pub write_name : (i k : ℕ) → plan_f s (suc k) Writes.name i ≡ cond (task_kind (s.kind k) && eqb (tasks_before s k) i) (cond (eqb (tasks_before s k) 0) 0 (s.handle k)) (plan_f s k Writes.name i)
  write_name i k =
      by_sort (λ x a. store (entries_of s k a) (plan_f s k) Writes.name i ≡ cond (task_kind x && eqb (tasks_before s k) i) (cond (eqb (tasks_before s k) 0) 0 (s.handle k)) (plan_f s k Writes.name i)) (s.kind k)
      refl refl refl refl refl refl refl refl refl refl refl refl refl (λ e. rw (other_task (s.kind k) e))

  pub write_item_count : (i k : ℕ) → plan_f s (suc k) Writes.item_count i ≡ cond (eqb (s.kind k) “data” && eqb (0) i) (items_before s k + 1) (plan_f s k Writes.item_count i)
  write_item_count i k =
      by_sort (λ x a. store (entries_of s k a) (plan_f s k) Writes.item_count i ≡ cond (eqb x “data” && eqb (0) i) (items_before s k + 1) (plan_f s k Writes.item_count i)) (s.kind k)
      refl refl refl refl refl refl refl refl refl refl refl refl refl (λ e. rw (other “data” (s.kind k) refl e))

  pub write_item_name : (i k : ℕ) → plan_f s (suc k) Writes.item_name i ≡ cond (eqb (s.kind k) “data” && eqb (items_before s k) i) (s.handle k) (plan_f s k Writes.item_name i)
  write_item_name i k =
      by_sort (λ x a. store (entries_of s k a) (plan_f s k) Writes.item_name i ≡ cond (eqb x “data” && eqb (items_before s k) i) (s.handle k) (plan_f s k Writes.item_name i)) (s.kind k)
      refl refl refl refl refl refl refl refl refl refl refl refl refl (λ e. rw (other “data” (s.kind k) refl e))

  pub write_item_type : (i k : ℕ) → plan_f s (suc k) Writes.item_type i ≡ cond (eqb (s.kind k) “data” && eqb (items_before s k) i) (s.flag k) (plan_f s k Writes.item_type i)
  write_item_type i k =
      by_sort (λ x a. store (entries_of s k a) (plan_f s k) Writes.item_type i ≡ cond (eqb x “data” && eqb (items_before s k) i) (s.flag k) (plan_f s k Writes.item_type i)) (s.kind k)
      refl refl refl refl refl refl refl refl refl refl refl refl refl (λ e. rw (other “data” (s.kind k) refl e))

  pub write_precondition : (i k : ℕ) → plan_f s (suc k) Writes.precondition i ≡ cond (eqb (s.kind k) “precondition” && eqb (tasks_before s k - 1) i) (s.ends k) (plan_f s k Writes.precondition i)
  write_precondition i k =
      by_sort (λ x a. store (entries_of s k a) (plan_f s k) Writes.precondition i ≡ cond (eqb x “precondition” && eqb (tasks_before s k - 1) i) (s.ends k) (plan_f s k Writes.precondition i)) (s.kind k)
      refl refl refl refl refl refl refl refl refl refl refl refl refl (λ e. rw (other “precondition” (s.kind k) refl e))

  pub write_wait_condition : (i k : ℕ) → plan_f s (suc k) Writes.wait_condition i ≡ cond (eqb (s.kind k) “wait-condition” && eqb (tasks_before s k - 1) i) (s.ends k) (plan_f s k Writes.wait_condition i)
  write_wait_condition i k =
      by_sort (λ x a. store (entries_of s k a) (plan_f s k) Writes.wait_condition i ≡ cond (eqb x “wait-condition” && eqb (tasks_before s k - 1) i) (s.ends k) (plan_f s k Writes.wait_condition i)) (s.kind k)
      refl refl refl refl refl refl refl refl refl refl refl refl refl (λ e. rw (other “wait-condition” (s.kind k) refl e))

  pub write_terminate : (i k : ℕ) → plan_f s (suc k) Writes.terminate i ≡ cond (eqb (s.kind k) “terminate” && eqb (tasks_before s k - 1) i) (s.ends k) (plan_f s k Writes.terminate i)
  write_terminate i k =
      by_sort (λ x a. store (entries_of s k a) (plan_f s k) Writes.terminate i ≡ cond (eqb x “terminate” && eqb (tasks_before s k - 1) i) (s.ends k) (plan_f s k Writes.terminate i)) (s.kind k)
      refl refl refl refl refl refl refl refl refl refl refl refl refl (λ e. rw (other “terminate” (s.kind k) refl e))

  pub write_triggered : (i k : ℕ) → plan_f s (suc k) Writes.triggered i ≡ cond (eqb (s.kind k) “trigger” && eqb (tasks_before s k - 1) i) (1) (plan_f s k Writes.triggered i)
  write_triggered i k =
      by_sort (λ x a. store (entries_of s k a) (plan_f s k) Writes.triggered i ≡ cond (eqb x “trigger” && eqb (tasks_before s k - 1) i) (1) (plan_f s k Writes.triggered i)) (s.kind k)
      refl refl refl refl refl refl refl refl refl refl refl refl refl (λ e. rw (other “trigger” (s.kind k) refl e))

  pub write_trigger : (i k : ℕ) → plan_f s (suc k) Writes.trigger i ≡ cond (eqb (s.kind k) “trigger” && eqb (tasks_before s k - 1) i) (s.handle k) (plan_f s k Writes.trigger i)
  write_trigger i k =
      by_sort (λ x a. store (entries_of s k a) (plan_f s k) Writes.trigger i ≡ cond (eqb x “trigger” && eqb (tasks_before s k - 1) i) (s.handle k) (plan_f s k Writes.trigger i)) (s.kind k)
      refl refl refl refl refl refl refl refl refl refl refl refl refl (λ e. rw (other “trigger” (s.kind k) refl e))

  pub write_parent : (i k : ℕ) → plan_f s (suc k) Writes.parent i ≡ cond (eqb (s.kind k) “component” && eqb (task_named s (s.spelt k)) i) (tasks_before s k) (plan_f s k Writes.parent i)
  write_parent i k =
      by_sort (λ x a. store (entries_of s k a) (plan_f s k) Writes.parent i ≡ cond (eqb x “component” && eqb (task_named s (s.spelt k)) i) (tasks_before s k) (plan_f s k Writes.parent i)) (s.kind k)
      refl refl refl refl refl refl refl refl refl refl refl refl refl (λ e. rw (other “component” (s.kind k) refl e))

  pub write_confirms : (i k : ℕ) → plan_f s (suc k) Writes.confirms i ≡ cond (eqb (s.kind k) “component” && eqb (task_named s (s.spelt k)) i) (answer (eqb (s.kind (task_row s (s.spelt k))) “action”)) (plan_f s k Writes.confirms i)
  write_confirms i k =
      by_sort (λ x a. store (entries_of s k a) (plan_f s k) Writes.confirms i ≡ cond (eqb x “component” && eqb (task_named s (s.spelt k)) i) (answer (eqb (s.kind (task_row s (s.spelt k))) “action”)) (plan_f s k Writes.confirms i)) (s.kind k)
      refl refl refl refl refl refl refl refl refl refl refl refl refl (λ e. rw (other “component” (s.kind k) refl e))

  pub write_terminal : (i k : ℕ) → plan_f s (suc k) Writes.terminal i ≡ cond (eqb (s.kind k) “terminal” && eqb (child s k) i) (s.flag k) (plan_f s k Writes.terminal i)
  write_terminal i k =
      by_sort (λ x a. store (entries_of s k a) (plan_f s k) Writes.terminal i ≡ cond (eqb x “terminal” && eqb (child s k) i) (s.flag k) (plan_f s k Writes.terminal i)) (s.kind k)
      refl refl refl refl refl refl refl refl refl refl refl refl refl (λ e. rw (other “terminal” (s.kind k) refl e))

  pub write_source_item : (i k : ℕ) → plan_f s (suc k) Writes.source_item i ≡ cond (eqb (s.kind k) “source” && eqb (sources_before s k) i) (item_named s (s.spelt k)) (plan_f s k Writes.source_item i)
  write_source_item i k =
      by_sort (λ x a. store (entries_of s k a) (plan_f s k) Writes.source_item i ≡ cond (eqb x “source” && eqb (sources_before s k) i) (item_named s (s.spelt k)) (plan_f s k Writes.source_item i)) (s.kind k)
      refl refl refl refl refl refl refl refl refl refl refl refl refl (λ e. rw (other “source” (s.kind k) refl e))

  pub write_source_count : (i k : ℕ) → plan_f s (suc k) Writes.source_count i ≡ cond (eqb (s.kind k) “source” && eqb (tasks_before s k - 1) i) (sources_before s k + 1 - at_task s is_source k) (plan_f s k Writes.source_count i)
  write_source_count i k =
      by_sort (λ x a. store (entries_of s k a) (plan_f s k) Writes.source_count i ≡ cond (eqb x “source” && eqb (tasks_before s k - 1) i) (sources_before s k + 1 - at_task s is_source k) (plan_f s k Writes.source_count i)) (s.kind k)
      refl refl refl refl refl refl refl refl refl refl refl refl refl (λ e. rw (other “source” (s.kind k) refl e))

  pub write_mandatory : (i k : ℕ) → plan_f s (suc k) Writes.mandatory i ≡ cond (eqb (s.kind k) “mandatory” && eqb (sources_before s k - 1) i) (s.flag k) (plan_f s k Writes.mandatory i)
  write_mandatory i k =
      by_sort (λ x a. store (entries_of s k a) (plan_f s k) Writes.mandatory i ≡ cond (eqb x “mandatory” && eqb (sources_before s k - 1) i) (s.flag k) (plan_f s k Writes.mandatory i)) (s.kind k)
      refl refl refl refl refl refl refl refl refl refl refl refl refl (λ e. rw (other “mandatory” (s.kind k) refl e))

  pub write_target : (i k : ℕ) → plan_f s (suc k) Writes.target i ≡ cond (eqb (s.kind k) “=” && eqb (assignments_before s k) i) (item_alike s (s.spelt k)) (plan_f s k Writes.target i)
  write_target i k =
      by_sort (λ x a. store (entries_of s k a) (plan_f s k) Writes.target i ≡ cond (eqb x “=” && eqb (assignments_before s k) i) (item_alike s (s.spelt k)) (plan_f s k Writes.target i)) (s.kind k)
      refl refl refl refl refl refl refl refl refl refl refl refl refl (λ e. rw (other “=” (s.kind k) refl e))

  pub write_assigned_end : (i k : ℕ) → plan_f s (suc k) Writes.assigned-end i ≡ cond (eqb (s.kind k) “=” && eqb (assignments_before s k) i) (s.ends k) (plan_f s k Writes.assigned-end i)
  write_assigned_end i k =
      by_sort (λ x a. store (entries_of s k a) (plan_f s k) Writes.assigned-end i ≡ cond (eqb x “=” && eqb (assignments_before s k) i) (s.ends k) (plan_f s k Writes.assigned-end i)) (s.kind k)
      refl refl refl refl refl refl refl refl refl refl refl refl refl (λ e. rw (other “=” (s.kind k) refl e))

  pub write_assigned_by : (i k : ℕ) → plan_f s (suc k) Writes.assigned_by i ≡ cond (eqb (s.kind k) “=” && eqb (assignments_before s k) i) (tasks_before s k - 1) (plan_f s k Writes.assigned_by i)
  write_assigned_by i k =
      by_sort (λ x a. store (entries_of s k a) (plan_f s k) Writes.assigned_by i ≡ cond (eqb x “=” && eqb (assignments_before s k) i) (tasks_before s k - 1) (plan_f s k Writes.assigned_by i)) (s.kind k)
      refl refl refl refl refl refl refl refl refl refl refl refl refl (λ e. rw (other “=” (s.kind k) refl e))

  pub write_assignment_count : (i k : ℕ) → plan_f s (suc k) Writes.assignment_count i ≡ cond (eqb (s.kind k) “=” && eqb (tasks_before s k - 1) i) (assignments_before s k + 1 - at_task s is_assignment k) (plan_f s k Writes.assignment_count i)
  write_assignment_count i k =
      by_sort (λ x a. store (entries_of s k a) (plan_f s k) Writes.assignment_count i ≡ cond (eqb x “=” && eqb (tasks_before s k - 1) i) (assignments_before s k + 1 - at_task s is_assignment k) (plan_f s k Writes.assignment_count i)) (s.kind k)
      refl refl refl refl refl refl refl refl refl refl refl refl refl (λ e. rw (other “=” (s.kind k) refl e))
