-- Law: the order that the plan holds has every task, parents first. Each round places one task more, and where none is ready all are placed: by their parents, from the root.
use Rattle.std.specs.Prelude.{ℕ, zero, suc, ◌+◌, ◌-◌, ◌≤◌, ◌<◌, ◌≡◌, refl, Bool, true, false, not, ◌&&◌, ◌||◌, ◌⊎◌, List, eqb, length}
use Rattle.std.proofs.Common.{arith, sym, ap, subst, ◌∙◌, inl, inr, eqb-true, eq-eqb, lt-ltb, le-ltb}
use Rattle.std.proofs.Math.Decide.{dec_lt}
use Rattle.std.proofs.lemmas.Bool.{not-true}
use Rattle.paper_expressions.specs.View.{At}
use Rattle.paper_expressions.proofs.Laws.Tests.{contra, two, and_l, and_r, both, or_cases, or_l, or_r}
use Rattle.paper_guideline.specs.Structure
use Structure.{Task, TopLevel, tasks}
use Rattle.paper_guideline.specs.Parts as Parts
use Rattle.paper_rows.specs.Load.{InstantiateTask, load_5, component_6, InstantiateComponent, task_5}
use Rattle.paper_rows.proofs.Laws.Lists.{at_below, below_at}
use Rattle.paper_rows.proofs.Laws.Lawful.{Lawful}
use Rattle.paper_rows.proofs.Laws.ReachLaws.{tally, tally_most, tally_new}
use Rattle.parts.specs.Part.{Table}
use Rattle.waits.specs.Twins.{parent_at, order_at}
use Rattle.plan.specs.Writes as Writes
use Writes.{Outline, placed, next, order_f, plan_f, plan, tasks_before}
use Rattle.plan.specs.Filled.{Held}
use Rattle.plan_told.specs.Told.{TasksTold, OrderTold}
use Rattle.plan_told.proofs.RowLaws.{no_root}
use Rattle.plan_rows.specs.Reads.{Reads}
use Rattle.plan_rows.specs.ReadLaws.{first_found, first_there, tasks_in_all}
use Rattle.plan_law.specs.Written.{marked_by}

module _ (parents : ℕ → ℕ) (n : ℕ) where
  -- a chain of parents leads to a task that has none
  pub data Rooted : ℕ → Type 0 where
    at_root : {T : ℕ} → T < n → parents T ≡ 0 → Rooted T
    under : {T P : ℕ} → T < n → parents T ≡ P + 1 → Rooted P → Rooted T

  abbrev ready_at : ℕ → ℕ → Bool
  ready_at k T = not (placed parents n k T) && (eqb (parents T) 0 || placed parents n k (parents T - 1))

  next_ready : (k : ℕ) → next parents n k < n → ready_at k (next parents n k) ≡ true
  next_ready k l = first_found (ready_at k) n l

  rooted_below : {T : ℕ} → Rooted T → T < n
  rooted_below (at_root l e) = l
  rooted_below (under l e r) = l

  parent_below : {T P : ℕ} → Rooted T → parents T ≡ P + 1 → P < n
  parent_below (at_root l e) q = absurd (omega arith)
  parent_below {P = P} (under {P = Q} l e r) q = let z = rooted_below r in let w : Q ≡ P = omega arith in subst (λ (i : ℕ). i < n) w z

  -- ---- where none is ready all are placed

  must : (k T : ℕ) → ¬ (next parents n k < n) → T < n → (eqb (parents T) 0 || placed parents n k (parents T - 1)) ≡ true → placed parents n k T ≡ true
  must k T m l e = go (two (placed parents n k T))
    where
      go : (placed parents n k T ≡ true) ⊎ (placed parents n k T ≡ false) → placed parents n k T ≡ true
      go (inl q) = q
      go (inr q) = absurd (m (first_there (ready_at k) n l (both (not (placed parents n k T)) (eqb (parents T) 0 || placed parents n k (parents T - 1)) (ap not q) e)))

  all_placed : (k : ℕ) → ¬ (next parents n k < n) → {T : ℕ} → Rooted T → placed parents n k T ≡ true
  all_placed k m (at_root {T} l e) = must k T m l (or_l (eqb (parents T) 0) (placed parents n k (parents T - 1)) (eq-eqb (parents T) 0 e))
  all_placed k m (under {T} {P} l e r) =
      must k T m l (or_r (eqb (parents T) 0) (placed parents n k (parents T - 1))
      (subst (λ (i : ℕ). placed parents n k i ≡ true) (let z : P ≡ parents T - 1 = omega arith in z) (all_placed k m r)))

  -- ---- each round places one more

  placed? : (k T : ℕ) → Dec (placed parents n k T ≡ true)
  placed? k T = go (two (placed parents n k T))
    where
      go : (placed parents n k T ≡ true) ⊎ (placed parents n k T ≡ false) → Dec (placed parents n k T ≡ true)
      go (inl q) = yes q
      go (inr q) = no (λ e. contra (sym q ∙ e))

  grows : (k : ℕ) → next parents n k < n → tally (placed? k) n < tally (placed? (suc k)) n
  grows k l =
      let r = next_ready k l in
      let f = not-true (placed parents n k (next parents n k)) (and_l (not (placed parents n k (next parents n k))) (eqb (parents (next parents n k)) 0 || placed parents n k (parents (next parents n k) - 1)) r) in
      tally_new (placed? k) (placed? (suc k)) (λ i h. or_r (eqb (next parents n k) i) (placed parents n k i) h) n l (λ h. contra (sym f ∙ h))
      (or_l (eqb (next parents n k) (next parents n k)) (placed parents n k (next parents n k)) (eq-eqb (next parents n k) (next parents n k) refl))

  module _ (rooted : (T : ℕ) → T < n → Rooted T) where
    abbrev AllBefore : ℕ → Type 0
    AllBefore k = (j : ℕ) × (j < k) × ((T : ℕ) → T < n → placed parents n j T ≡ true)

    rounds : (k : ℕ) → (k ≤ tally (placed? k) n) ⊎ AllBefore k
    rounds zero = inl (omega arith)
    rounds (suc k) = go (rounds k) (dec_lt (next parents n k) n)
      where
        go : (k ≤ tally (placed? k) n) ⊎ AllBefore k → Dec (next parents n k < n) → (suc k ≤ tally (placed? (suc k)) n) ⊎ AllBefore (suc k)
        go (inr a) d = inr (a.0, (let l = a.1 in omega arith), a.2)
        go (inl h) (yes l) = inl (let g = grows k l in omega arith)
        go (inl h) (no m) = inr (k, omega arith, λ T l. all_placed k m (rooted T l))

    all_in_time : AllBefore (suc n)
    all_in_time = go (rounds (suc n))
      where
        go : (suc n ≤ tally (placed? (suc n)) n) ⊎ AllBefore (suc n) → AllBefore (suc n)
        go (inl h) = absurd (let m = tally_most (placed? (suc n)) n in omega arith)
        go (inr a) = a

    -- ---- what is placed is in the order

    placed_by : (k T : ℕ) → T < n → placed parents n k T ≡ true → (j : ℕ) × (j < k) × (order_f parents n j ≡ T)
    placed_by k T l e =
        let r = marked_by (λ i. placed parents n i T) (λ i. eqb (next parents n i) T) refl (λ i. refl) k e in
        let q : next parents n r.0 ≡ T = eqb-true (next parents n r.0) T r.2 in
        let u : next parents n r.0 < n = subst (λ (i : ℕ). i < n) (sym q) l in
        let v : order_f parents n r.0 ≡ next parents n r.0 = rw (lt-ltb (next parents n r.0) n u) in
        (r.0, r.1, v ∙ q)

    pub every_task : (T : ℕ) → T < n → (k : ℕ) × (k < n) × (order_f parents n k ≡ T)
    every_task T l =
        let a = all_in_time in
        let r = placed_by a.0 T l (a.2 T l) in
        let b = a.1 in
        let c = r.1 in
        (r.0, omega arith, r.2)

    pub a_task : 0 < n → (k : ℕ) → order_f parents n k < n
    a_task z k = go (dec_lt (next parents n k) n)
      where
        go : Dec (next parents n k < n) → order_f parents n k < n
        go (yes l) = let v : order_f parents n k ≡ next parents n k = rw (lt-ltb (next parents n k) n l) in omega arith
        go (no l) = let v : order_f parents n k ≡ 0 = rw (le-ltb (next parents n k) n (omega arith)) in omega arith

    pub parents_first : parents 0 ≡ 0 → (k P : ℕ) → parents (order_f parents n k) ≡ P + 1 → (j : ℕ) × (j < k) × (order_f parents n j ≡ P)
    parents_first z k P e = go (dec_lt (next parents n k) n)
      where
        ready_one : next parents n k < n → parents (next parents n k) ≡ P + 1 → (j : ℕ) × (j < k) × (order_f parents n j ≡ P)
        ready_one l q = by (or_cases (eqb (parents (next parents n k)) 0) (placed parents n k (parents (next parents n k) - 1))
            (and_r (not (placed parents n k (next parents n k))) (eqb (parents (next parents n k)) 0 || placed parents n k (parents (next parents n k) - 1)) (next_ready k l)))
          where
            by : (eqb (parents (next parents n k)) 0 ≡ true) ⊎ (placed parents n k (parents (next parents n k) - 1) ≡ true) → (j : ℕ) × (j < k) × (order_f parents n j ≡ P)
            by (inl h) = absurd (let w = eqb-true (parents (next parents n k)) 0 h in omega arith)
            by (inr h) = placed_by k P (parent_below (rooted (next parents n k) l) q) (subst (λ (i : ℕ). placed parents n k i ≡ true) (let w : parents (next parents n k) - 1 ≡ P = omega arith in w) h)

        go : Dec (next parents n k < n) → (j : ℕ) × (j < k) × (order_f parents n j ≡ P)
        go (yes l) = let v : order_f parents n k ≡ next parents n k = rw (lt-ltb (next parents n k) n l) in ready_one l (sym (ap parents v) ∙ e)
        go (no l) = let v : order_f parents n k ≡ 0 = rw (le-ltb (next parents n k) n (omega arith)) in absurd (let w = sym (ap parents v) ∙ e in omega arith)

-- ---- of a guideline

module _ {g : List TopLevel} {s : Outline} {p : Table} {f : List ℕ} (lawful : Lawful g) (few : length (tasks g) ≤ 32) (root : 0 < length (tasks g)) (reads : Reads s p g) (held : Held (plan s) f) (told : TasksTold g f) where
  abbrev parents_of : ℕ → ℕ
  parents_of T = plan_f s s.count Writes.parent T

  number : tasks_before s s.count ≡ length (tasks g)
  number = tasks_in_all reads

  parent_cell : (T : ℕ) → T < 32 → parent_at f T ≡ parents_of T
  parent_cell T l = held.cells Writes.parent T l

  order_cell : (k : ℕ) → k < 32 → order_at f k ≡ order_f parents_of (tasks_before s s.count) k
  order_cell k l = held.cells Writes.order k l

  root_parent : parents_of 0 ≡ 0
  root_parent = sym (parent_cell 0 (omega arith)) ∙ told.no_parent {T = 0} (omega arith) (λ P a h. no_root lawful h)

  inside : {T : ℕ} {t : Task} → At (tasks g) T t → T < tasks_before s s.count
  inside h = let l = at_below h in let e = number in omega arith

  mutual
    rooted_task : {T : ℕ} {t : Task} → InstantiateTask g t T → Rooted parents_of (tasks_before s s.count) T
    rooted_task (load_5 h) = at_root (inside h) root_parent
    rooted_task (component_6 h k) = rooted_component h

    rooted_component : {P T : ℕ} {a : Parts.Component} → InstantiateComponent g P a T → Rooted parents_of (tasks_before s s.count) T
    rooted_component (task_5 {j = T} i q j e) = under (inside j) (sym (parent_cell T (let l = at_below j in omega arith)) ∙ told.parent (task_5 i q j e)) (rooted_task i)

  rooted : (T : ℕ) → T < tasks_before s s.count → Rooted parents_of (tasks_before s s.count) T
  rooted T l = let e = number in rooted_task (lawful.reached (below_at (tasks g) T (omega arith)).1)

  pub order_told : OrderTold g f
  order_told = record { every = every; a_task = a_task_of; first = first }
    where
      every : {T : ℕ} → T < length (tasks g) → (k : ℕ) × (k < 32) × (order_at f k ≡ T)
      every {T} l =
          let e = number in
          let r = every_task parents_of (tasks_before s s.count) rooted T (omega arith) in
          let u : r.0 < 32 = (let z = r.1 in omega arith) in
          (r.0, u, order_cell r.0 u ∙ r.2)

      a_task_of : {k : ℕ} → k < 32 → order_at f k < length (tasks g)
      a_task_of {k} l =
          let e = number in
          let r = a_task parents_of (tasks_before s s.count) rooted (omega arith) k in
          let c = order_cell k l in
          omega arith

      first : {k P : ℕ} → k < 32 → parent_at f (order_at f k) ≡ P + 1 → (j : ℕ) × (j < k) × (order_at f j ≡ P)
      first {k} {P} l e =
          let z = a_task_of {k = k} l in
          let c = order_cell k l in
          let q : parents_of (order_f parents_of (tasks_before s s.count) k) ≡ P + 1 = sym (ap parents_of c) ∙ sym (parent_cell (order_at f k) (omega arith)) ∙ e in
          let r = parents_first parents_of (tasks_before s s.count) rooted root_parent k P q in
          (r.0, r.1, order_cell r.0 (let w = r.1 in omega arith) ∙ r.2)
