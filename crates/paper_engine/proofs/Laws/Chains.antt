-- Law: the parent plans of a task lead up to the root in fewer steps than there are tasks: no two of them are as deep.
use Rattle.std.specs.Prelude.{ℕ, zero, suc, ◌+◌, ◌<◌, ◌≤◌, ◌≡◌, refl, ◌⊎◌, List, length}
use Rattle.std.proofs.Common.{arith, sym, ap, subst, ◌∙◌, inl, inr}
use Rattle.std.proofs.Math.Decide.{dec_le}
use Rattle.std.proofs.Math.Option.{Option, some}
use Rattle.paper_expressions.specs.View.{At}
use Rattle.paper_guideline.specs.Structure.{TopLevel, Task, tasks}
use Rattle.paper_guideline.specs.Parts as Parts
use Rattle.paper_guideline.specs.Names.{component_is_root}
use Rattle.paper_rows.specs.Table
use Table.{task, Component, ◌№◌, parent_plan, RowValue, component_is, Table, Contains, TaskId}
use Rattle.paper_rows.specs.Load
use Load.{InstantiateTask, load_5, component_6, InstantiateComponent, task_5, Adds, attribute_1c}
use Rattle.paper_rows.proofs.Laws.Lawful.{Lawful, defined}
use Rattle.paper_rows.proofs.Laws.Lists.{at_below, below_at, each_at}
use Rattle.paper_rows.proofs.Laws.ReachLaws.{tally, tally_most, tally_new, tally_more}
use Rattle.paper_rows.proofs.Laws.Seen.{seen_one, sees_task}
use Rattle.paper_engine.proofs.Laws.Kept.{Kept, adds, has, instantiated, task_id, fixed_parent}

-- the chain of parent plans, up to the root
pub data Chain (t : Table) : ℕ → Type 0 where
  top : {T : ℕ} → ((P : ℕ) → ¬ Contains t (task № T) parent_plan (component_is (task № P))) → Chain t T
  under : {T P : ℕ} → Contains t (task № T) parent_plan (component_is (task № P)) → Chain t P → Chain t T

-- and how long it is
pub data Up (t : Table) : ℕ → ℕ → Type 0 where
  at_top : {T n : ℕ} → ((P : ℕ) → ¬ Contains t (task № T) parent_plan (component_is (task № P))) → Up t n T
  up : {T P n : ℕ} → Contains t (task № T) parent_plan (component_is (task № P)) → Up t n P → Up t (suc n) T

abbrev steps : {t : Table} {T : ℕ} → Chain t T → ℕ
steps (top n) = 0
steps (under h c) = suc (steps c)

pub parent_component : {g : List TopLevel} {T P : ℕ} → Adds g (task № T) parent_plan (component_is (task № P)) → (a : Parts.Component) × InstantiateComponent g P a T
parent_component (attribute_1c h) = (_, h)

pub one_parent : {o : Option RowValue} {P Q : ℕ} → o ≡ some (component_is (task № P)) → o ≡ some (component_is (task № Q)) → P ≡ Q
one_parent h k = seen_one sees_task h k

steps_one : {t : Table} {T U : ℕ} (c : Chain t T) (d : Chain t U) → T ≡ U → steps c ≡ steps d
steps_one (top n) (top m) e = refl
steps_one {t} (top n) (under {P} h d) e = absurd (n P (subst (λ (x : ℕ). Contains t (task № x) parent_plan (component_is (task № P))) (sym e) h))
steps_one {t} (under {P} h c) (top n) e = absurd (n P (subst (λ (x : ℕ). Contains t (task № x) parent_plan (component_is (task № P))) e h))
steps_one {t} (under {P} h c) (under {P = Q} k d) e = ap suc (steps_one c d (one_parent (subst (λ (x : ℕ). Contains t (task № x) parent_plan (component_is (task № P))) e h) k))

module _ {g : List TopLevel} {t : Table} (lawful : Lawful g) (kept : Kept g t) where
  no_root_component : {P : ℕ} {a : Parts.Component} → ¬ InstantiateComponent g P a 0
  no_root_component (task_5 i h j e) = lawful.names _ (component_is_root (each_at Parts.components_of (defined i) h).1 j e)

  mutual
    chain_task : {k : Task} {T : ℕ} → InstantiateTask g k T → Chain t T
    chain_task (load_5 h) = top (λ P e. no_root_component (parent_component (adds kept fixed_parent e)).1)
    chain_task (component_6 c h) = chain_component c

    chain_component : {P T : ℕ} {a : Parts.Component} → InstantiateComponent g P a T → Chain t T
    chain_component (task_5 i h j e) = under (has kept fixed_parent (attribute_1c (task_5 i h j e))) (chain_task i)

  chain : {T : ℕ} → T < length (tasks g) → Chain t T
  chain {T} l = chain_task (lawful.reached (below_at (tasks g) T l).1)

  -- a task with a parent plan is a task, and so is the plan
  pub child_id : {C P : ℕ} → Contains t (task № C) parent_plan (component_is (task № P)) → TaskId t C
  child_id h = go (parent_component (adds kept fixed_parent h)).1
    where
      go : {C P : ℕ} {a : Parts.Component} → InstantiateComponent g P a C → TaskId t C
      go (task_5 i q j e) = task_id kept (component_6 (task_5 i q j e) j)

  pub parent_id : {C P : ℕ} → Contains t (task № C) parent_plan (component_is (task № P)) → TaskId t P
  parent_id h = go (parent_component (adds kept fixed_parent h)).1
    where
      go : {C P : ℕ} {a : Parts.Component} → InstantiateComponent g P a C → TaskId t P
      go (task_5 i q j e) = task_id kept i

  pub task_below : {C : ℕ} → TaskId t C → C < length (tasks g)
  task_below h = at_below (defined (instantiated kept h).1)

  pub below_task : {C : ℕ} → C < length (tasks g) → TaskId t C
  below_task {C} l = task_id kept (lawful.reached (below_at (tasks g) C l).1)

  -- those no deeper than k
  abbrev Shallow : ℕ → ℕ → Type 0
  Shallow k i = (l : i < length (tasks g)) × (steps (chain l) ≤ k)

  shallow? : (k i : ℕ) → Dec (Shallow k i)
  shallow? k i = go (dec_le (suc i) (length (tasks g)))
    where
      go : Dec (i < length (tasks g)) → Dec (Shallow k i)
      go (no n) = no (λ h. n h.0)
      go (yes l) = depth (dec_le (steps (chain l)) k)
        where
          depth : Dec (steps (chain l) ≤ k) → Dec (Shallow k i)
          depth (yes h) = yes (l, h)
          depth (no n) = no (λ h. n (let e = steps_one (chain l) (chain h.0) refl in let q = h.1 in let z : steps (chain l) ≤ k = omega arith in z))

  abbrev Nothing : ℕ → Type 0
  Nothing i = ⊥

  nothing? : (i : ℕ) → Dec (Nothing i)
  nothing? i = no (λ h. h)

  -- of a chain of k steps there are more than k tasks
  as_many : {T : ℕ} (c : Chain t T) → T < length (tasks g) → steps c < tally (shallow? (steps c)) (length (tasks g))
  as_many {T} (top n) l =
      let h = tally_new nothing? (shallow? 0) (λ i q. absurd q) (length (tasks g)) l (λ q. q) (l, (let e = steps_one (chain l) (top n) refl in let z : steps (chain l) ≤ 0 = omega arith in z)) in
      omega arith
  as_many {T} (under h c) l =
      let q = as_many c (task_below (parent_id h)) in
      let e = steps_one (chain l) (under h c) refl in
      let r = tally_new (shallow? (steps c)) (shallow? (suc (steps c))) (λ i (z : Shallow (steps c) i). (z.0, (let y = z.1 in let w : steps (chain z.0) ≤ suc (steps c) = omega arith in w))) (length (tasks g)) l
      (λ (z : Shallow (steps c) T). let y = z.1 in let f = steps_one (chain l) (chain z.0) refl in let w : ⊥ = omega arith in w)
      (l, (let w : steps (chain l) ≤ suc (steps c) = omega arith in w)) in
      omega arith

  up_chain : {T n : ℕ} (c : Chain t T) → steps c ≤ n → Up t n T
  up_chain (top m) l = at_top m
  up_chain {n = zero} (under h c) l = absurd (let z : ⊥ = omega arith in z)
  up_chain {n = suc n} (under h c) l = up h (up_chain c (let z : steps c ≤ n = omega arith in z))

  pub few_steps : {T : ℕ} → TaskId t T → Up t (length (tasks g)) T
  few_steps i =
      let l = task_below i in
      let h = as_many (chain l) l in
      let m = tally_most (shallow? (steps (chain l))) (length (tasks g)) in
      up_chain (chain l) (let z : steps (chain l) ≤ length (tasks g) = omega arith in z)
