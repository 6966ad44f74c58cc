-- The whole of filling: the lists, the rows, the order and who waits, one behind the other.
use Rattle.std.specs.Prelude.{ℕ, ◌+◌, ◌≤◌, ◌<◌, ◌≡◌, Bool, true, false, List, length, replicate}
use Rattle.std.proofs.Common.{sym, subst, ◌∙◌, arith}
use Rattle.std.proofs.lemmas.List.{length-replicate}
use Rattle.row_names.specs.Sheet.{task_kind}
use Rattle.row_names.specs.Flat.{is_data}
use Rattle.name_tests.specs.Lists.{Gathers, Lists}
use Rattle.names.proofs.VerdictLaws.{blank_all}
use Rattle.plan.specs.Writes.{outline, tasks_before, parent, plan_f, first}
use Rattle.plan.specs.Filled.{plan_cells, Held, Fit, Fills}
use Rattle.plan_cells.specs.Finds.{tally_counted}
use Rattle.plan_fill.specs.Rounds.{AllRows, Orders, with_order}
use Rattle.plan_fill.specs.Waiting.{AllWaits}

module _ (x : List ℕ) (n : ℕ) (b f g : List ℕ) (w : List (List Bool)) (long : length g ≡ length f) where
  pub fills_long : 65536 < n → Fills x n b f g w
  fills_long u = (long, λ h. absurd (let z = h.rows in omega arith))

  pub fills_tasks : {l k : List ℕ} {m : ℕ} → Gathers true x n l k m → 32 < m → Fills x n b f g w
  fills_tasks p u = (long, λ h. absurd (let z = h.tasks in let y = p.count in let v = tally_counted task_kind x n in omega arith))

  pub fills_items : {l k : List ℕ} {d : ℕ} → Gathers false x n l k d → 64 < d → Fills x n b f g w
  fills_items p u = (long, λ h. absurd (let z = h.items in let y = p.count in let v = tally_counted is_data x n in omega arith))

  pub fills_all : {l tasks i items : List ℕ} {m d : ℕ} {g0 g1 : List ℕ}
      → Gathers true x n l tasks m → length l ≡ 32 → m ≤ 32 → Gathers false x n i items d → length i ≡ 64 → d ≤ 64
      → g0 ≡ replicate (length f) 0 → AllRows x n b tasks m items d g0 g1 → Orders m g1 g → AllWaits x n b tasks m w → Fills x n b f g w
  fills_all {l} {tasks} {i} {items} {m} {d} {g0} {g1} p el um q ei ud e0 rows orders waits = (long, λ h u. record { held = held h u; marked = waits task_list })
    where
      task_list : Lists task_kind x n tasks m
      task_list = record { count = p.count; room = let z = p.long in omega arith; entered = p.entered }

      item_list : Lists is_data x n items d
      item_list = record { count = q.count; room = let z = q.long in omega arith; entered = q.entered }

      clear : plan_cells ≤ length f → Held (plan_f (outline x n b) 0) (replicate (length f) 0)
      clear u = record {
        long = let z = length-replicate {A = ℕ} (length f) 0 in omega arith;
        cells = λ c j v. blank_all (length f) (first c + j);
        spare = λ c v z. blank_all (length f) c;
        beyond = λ c v. blank_all (length f) c;
      }

      held : Fit (outline x n b) → plan_cells ≤ length f → Held (with_order (plan_f (outline x n b) n parent) (tasks_before (outline x n b) n) (plan_f (outline x n b) n)) g
      held h u =
          let r = rows h.rows task_list item_list (subst (Held (plan_f (outline x n b) 0)) (sym e0) (clear u)) in
          subst (λ (j : ℕ). Held (with_order (plan_f (outline x n b) n parent) j (plan_f (outline x n b) n)) g) (p.count ∙ tally_counted task_kind x n) (orders (plan_f (outline x n b) n) r)
