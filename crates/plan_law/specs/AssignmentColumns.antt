-- Law: the plan that the rows write says of the assignments what the structure has. By the row of each assignment.
use Rattle.std.specs.Prelude.{ℕ, zero, suc, ◌+◌, ◌-◌, ◌≤◌, ◌<◌, ◌≡◌, refl, true, List, eqb, length}
use Rattle.std.proofs.Common.{arith, sym, ap, subst, ◌∙◌}
use Rattle.std.proofs.Math.Decide.{dec_lt}
use Rattle.paper_expressions.specs.Bytes.{folded, Alike}
use Rattle.paper_expressions.specs.View.{At}
use Rattle.paper_expressions.proofs.Laws.Search.{at_one}
use Rattle.paper_expressions.proofs.Laws.Parentheses.{bare}
use Rattle.paper_tokens.specs.Tokens.{“=”}
use Rattle.paper_guideline.specs.Structure
use Structure.{Assignment, Task, DataItem, TopLevel, tasks, data_items}
use Rattle.paper_guideline.specs.Parts.{assignments}
use Rattle.paper_guideline.specs.Parts.{assignments_of}
use Rattle.paper_rows.proofs.Laws.Lists.{at_below, below_at, before, before_at}
use Rattle.paper_rows.proofs.Laws.Lawful.{Lawful}
use Rattle.parts.specs.Part.{Table, Ends}
use Rattle.row_names.specs.Pieces.{locate, piece_at}
use Rattle.row_names.specs.Sheet.{task_kind}
use Rattle.operations.specs.Rows.{target_at, assign_at, assigns_at}
use Rattle.planned.specs.Planned.{assigned_end, assigned_task}
use Rattle.plan.specs.Writes as Writes
use Writes.{Outline, plan_f, plan, is_assignment, tasks_before, assignments_before, at_task, item_alike}
use Rattle.plan.specs.Filled.{Held}
use Rattle.plan_told.specs.Told.{AssignmentsTold}
use Rattle.plan_told.proofs.ListLaws.{before_less}
use Rattle.plan_rows.specs.Counting.{piece_begins}
use Rattle.plan_rows.specs.Stands.{stands_of}
use Rattle.plan_rows.specs.Reads.{Reads}
use Rattle.plan_rows.specs.ReadLaws.{below, head_row_of, tasks_at, assignments_at, is_head, alike_found}
use Rattle.plan_rows.specs.SourceRows.{AnAssignment, assignment_seen, assignment_row_of}
use Rattle.plan_law.specs.Written.{unwritten, written, last_written, counted_past}
use Rattle.plan_law.specs.Columns.{write_first_assignment, write_assignment_count, write_target, write_assigned_end, write_assigned_by}
use Rattle.plan_law.specs.TaskColumns.{task_at, in_room}

module _ {g : List TopLevel} {s : Outline} {p : Table} {f : List ℕ} (lawful : Lawful g) (few : length (tasks g) ≤ 32) (few-assigned : length (assignments g) ≤ 256) (reads : Reads s p g) (held : Held (plan s) f) where
  -- ---- of each task

  first : {T : ℕ} {t : Task} → At (tasks g) T t → assign_at f T ≡ before assignments_of T (tasks g)
  first {T} {t} h =
      let x = stands_of g h in
      let w = written (λ k. plan_f s k Writes.first_assignment T) (λ k. task_kind (s.kind k)) (λ k. tasks_before s k) (λ k. assignments_before s k) T refl (λ k. write_first_assignment s T k) s.count
      (below reads (head_row_of reads x.2)) (is_head reads x.2) (tasks_at reads x.2) in
      let y = task_at lawful few reads held h w.k w.below w.of w.there in
      held.cells Writes.first_assignment T (in_room lawful few reads held h) ∙ w.cell ∙ assignments_at reads y.1

  -- a row that counts for the task T
  its : {T : ℕ} {t : Task} → At (tasks g) T t → (k : ℕ) → k < s.count → eqb (s.kind k) “=” ≡ true → tasks_before s k - 1 ≡ T
      → (i : ℕ) × (i < length (assignments_of t)) × (assignments_before s k ≡ before assignments_of T (tasks g) + i)
  its {T} {t} h k l e z =
      let y = assignment_seen reads k l e in
      let a = y.tasks in
      let v : y.T ≡ T = omega arith in
      let w : y.t ≡ t = at_one (subst (λ (n : ℕ). At (tasks g) n y.t) v y.at) h in
      (y.k, at_below (subst (λ (u : Task). At (assignments_of u) y.k y.x) w y.of), y.number ∙ ap (λ (n : ℕ). before assignments_of n (tasks g) + y.k) v)

  count : {T : ℕ} {t : Task} → At (tasks g) T t → assigns_at f T ≡ length (assignments_of t)
  count {T} {t} h = held.cells Writes.assignment_count T (in_room lawful few reads held h) ∙ go (length (assignments_of t)) refl
    where
      go : (n : ℕ) → length (assignments_of t) ≡ n → plan_f s s.count Writes.assignment_count T ≡ n
      go zero e =
          unwritten (λ k. plan_f s k Writes.assignment_count T) (λ k. eqb (s.kind k) “=”) (λ k. tasks_before s k - 1) (λ k. assignments_before s k + 1 - at_task s is_assignment k) T refl
          (λ k. write_assignment_count s T k) s.count (λ k l q z. let y = its h k l q z in let i = y.1 in omega arith)
      go (suc n) e =
          let u = below_at (assignments_of t) n (omega arith) in
          let r = assignment_row_of reads h u.1 in
          last_written (λ k. plan_f s k Writes.assignment_count T) (λ k. eqb (s.kind k) “=”) (λ k. tasks_before s k - 1) (λ k. assignments_before s k + 1 - at_task s is_assignment k) T refl
          (λ k. write_assignment_count s T k) s.count r.below r.word (let a = r.tasks in omega arith)
          (λ k l m q z. let y = its h k m q z in let i = y.1 in let j = y.2 in let a = r.number in let b = counted_past is_assignment s.kind r.q k l r.word in omega arith)
          ∙ (let a = r.number in let b = r.from in let z : assignments_before s r.q + 1 - at_task s is_assignment r.q ≡ suc n = omega arith in z)

  -- ---- of each assignment

  room : {a : ℕ} {x : Assignment} → At (assignments g) a x → a < 256
  room h = let l = at_below h in omega arith

  -- the row of the assignment a
  row : {a : ℕ} {x : Assignment} → At (assignments g) a x → (q : ℕ) × (q < s.count) × (eqb (s.kind q) “=” ≡ true) × (assignments_before s q ≡ a)
  row {a} h =
      let f = locate assignments_of (tasks g) a h in
      let r = assignment_row_of reads (piece_at f.piece) f.at in
      let b = piece_begins f.piece in
      let c = f.index in
      let d = r.number in
      (r.q, r.below, r.word, omega arith)

  -- what is written to its cells is its own
  seen : {a : ℕ} (k : ℕ) → k < s.count → eqb (s.kind k) “=” ≡ true → assignments_before s k ≡ a → (y : AnAssignment reads k) × At (assignments g) a y.x
  seen {a} k l e z =
      let y = assignment_seen reads k l e in
      (y, subst (λ (n : ℕ). At (assignments g) n y.x) (sym y.number ∙ z) (before_at assignments_of y.at y.of))

  target : {a d : ℕ} {x : Assignment} {y : DataItem} → At (assignments g) a x → At (data_items g) d y → Alike x.target.spelt y.named.spelt → target_at f a ≡ d
  target {a} h i z =
      let r = row h in
      let w = written (λ k. plan_f s k Writes.target a) (λ k. eqb (s.kind k) “=”) (λ k. assignments_before s k) (λ k. item_alike s (s.spelt k)) a refl (λ k. write_target s a k) s.count r.1 r.2 r.3 in
      let y = seen w.k w.below w.of w.there in
      let e = at_one y.1 h in
      held.cells Writes.target a (room h) ∙ w.cell
      ∙ alike_found reads lawful (s.spelt w.k) i (ap folded (reads.spelt y.0.row refl ∙ ap (λ (v : Assignment). v.target.spelt) e) ∙ z)

  no_target : {a : ℕ} → a < 256 → length (assignments g) ≤ a → target_at f a ≡ 0
  no_target {a} l m =
      held.cells Writes.target a l
      ∙ unwritten (λ k. plan_f s k Writes.target a) (λ k. eqb (s.kind k) “=”) (λ k. assignments_before s k) (λ k. item_alike s (s.spelt k)) a refl (λ k. write_target s a k) s.count
      (λ k u e z. let y = seen k u e z in let i = at_below y.1 in omega arith)

  ends : {a : ℕ} {x : Assignment} → At (assignments g) a x → Ends p (assigned_end f a) (bare x.value.tree)
  ends {a} {x} h =
      let r = row h in
      let w = written (λ k. plan_f s k Writes.assigned-end a) (λ k. eqb (s.kind k) “=”) (λ k. assignments_before s k) (λ k. s.ends k) a refl (λ k. write_assigned_end s a k) s.count r.1 r.2 r.3 in
      let y = seen w.k w.below w.of w.there in
      subst (λ (n : ℕ). Ends p n (bare x.value.tree)) (sym (held.cells Writes.assigned-end a (room h) ∙ w.cell))
      (subst (λ (v : Assignment). Ends p (s.ends w.k) (bare v.value.tree)) (at_one y.1 h) (reads.ends y.0.row refl))

  by : {T i : ℕ} {t : Task} {x : Assignment} → At (tasks g) T t → At (assignments_of t) i x → assigned_task f (before assignments_of T (tasks g) + i) ≡ T
  by {T} {i} h q =
      let a = before_at assignments_of h q in
      let r = row a in
      let n = before assignments_of T (tasks g) + i in
      let w = written (λ k. plan_f s k Writes.assigned_by n) (λ k. eqb (s.kind k) “=”) (λ k. assignments_before s k) (λ k. tasks_before s k - 1) n refl (λ k. write_assigned_by s n k) s.count r.1 r.2 r.3 in
      let y = assignment_seen reads w.k w.below w.of in
      let z = same_task h q y.at y.of (sym w.there ∙ y.number) in
      let b = y.tasks in
      held.cells Writes.assigned_by n (room a) ∙ w.cell ∙ (let c : tasks_before s w.k - 1 ≡ T = omega arith in c)
    where
      same_task : {T U i k : ℕ} {t u : Task} {x y : Assignment} → At (tasks g) T t → At (assignments_of t) i x → At (tasks g) U u → At (assignments_of u) k y
          → before assignments_of T (tasks g) + i ≡ before assignments_of U (tasks g) + k → T ≡ U
      same_task {T} {U} h q h' q' e = go (dec_lt T U) (dec_lt U T)
        where
          go : Dec (T < U) → Dec (U < T) → T ≡ U
          go (yes l) d = absurd (let a = before_less assignments_of h h' l in let b = at_below q in omega arith)
          go (no l) (yes m) = absurd (let a = before_less assignments_of h' h m in let b = at_below q' in omega arith)
          go (no l) (no m) = omega arith

  pub assignments_told : AssignmentsTold g p f
  assignments_told = record { first = first; count = count; target = target; no_target = no_target; ends = ends; by = by }
