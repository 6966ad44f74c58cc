-- The Properties table as far as expressions read it, and the references into it: 9.5, 9.6, 9.7. Definitions only.
-- A component is given by its index in its list, and T is the task that the expression belongs to.
use Rattle.std.specs.Prelude.{◌≡◌, Bool, true, false, List, [], ◌∷◌, ℕ, zero, suc}
use Rattle.std.proofs.Math.Option.{Option, none, some}
use Rattle.paper_expressions.specs.Bytes.{Alike}
use Rattle.paper_expressions.specs.Values.{Value, TaskState}
use Rattle.paper_expressions.specs.Types.{Declared, inferred, Of}
use Rattle.paper_expressions.specs.Clauses.{Clause, §9·5-2, §9·5-3, §9·6-1, §9·6-2, §9·6-3, §9·7-1, §9·7-2, §9·7-3}

-- the rows of a data item D: (D, class, data_item), (D, name, A), (D, type, ..) and, if there, (D, value, V)
pub record Item : Type 0 where
  pub name : List ℕ
  pub declared : Declared
  pub value : Option Value

-- the rows of a task C: (C, name, A), (C, parent_plan, P), (C, state, ..)
-- The root has no name row and no parent_plan row. A state that a collision has made unknown is none (01).
pub record Task : Type 0 where
  pub name : Option (List ℕ)
  pub parent : Option ℕ
  pub state : Option TaskState

pub record View : Type 0 where
  pub items : List Item
  pub tasks : List Task

-- the i-th of the list is x, counted from 0
pub data At {A : Type 0} : List A → ℕ → A → Type 0 where
  at_first : {x : A} {l : List A} → At (x ∷ l) zero x
  at_later : {x y : A} {l : List A} {i : ℕ} → At l i x → At (y ∷ l) (suc i) x

-- ---- 9.5  ResolveDataReference(A, T): none is the constant unknown

pub data ResolveData (v : View) (T : ℕ) (a : List ℕ) : Clause → Option ℕ → Type 0 where
  -- 1. If the properties table contains rows (T, parameters, ..) ..: left out (10); request 8/13
  -- 2. Else if there is an A' such A' and A are equal if case is ignored and a component identifier D such that
  --    the Properties table contains the rows (D, class, data_item) and (D, name, A') then D
  resolve_data_2 : {d : ℕ} {x : Item} → At v.items d x → Alike x.name a → ResolveData v T a §9·5-2 (some d)
  -- 3. Else unknown
  resolve_data_3 : ((d : ℕ) (x : Item) → At v.items d x → ¬ Alike x.name a) → ResolveData v T a §9·5-3 none

-- ---- 9.7  IsAncestor(T1, T2)

-- the Properties table contains the row (C, parent_plan, P)
pub record ParentPlan (v : View) (c p : ℕ) : Type 0 where
  pub task : Task
  pub at : At v.tasks c task
  pub row : task.parent ≡ some p

pub data IsAncestor (v : View) (t1 : ℕ) : ℕ → Clause → Type 0 where
  -- 1. If the Properties table contains the row (T2, parent_plan, T1) then IsAncestor(T1, T2) is true
  ancestor_1 : {t2 : ℕ} → ParentPlan v t2 t1 → IsAncestor v t1 t2 §9·7-1
  -- 2. Else if there exists a task identifier T3 such that IsAncestor(T1, T3) is true and
  --    the Properties table contains the row (T2, parent_plan, T3) then IsAncestor(T1, T2) is true
  ancestor_2 : {t2 t3 : ℕ} {c : Clause} → ¬ ParentPlan v t2 t1 → IsAncestor v t1 t3 c → ParentPlan v t2 t3 → IsAncestor v t1 t2 §9·7-2

-- IsAncestor(T1, T2) is true or false
pub data Ancestry (v : View) (t1 t2 : ℕ) : Clause → Bool → Type 0 where
  is_ancestor : {c : Clause} → IsAncestor v t1 t2 c → Ancestry v t1 t2 c true
  -- 3. Else IsAncestor(T1, T2) is false
  ancestor_3 : ((c : Clause) → ¬ IsAncestor v t1 t2 c) → Ancestry v t1 t2 §9·7-3 false

-- ---- 9.6  ResolveTaskReference(A, T): none is the constant unknown

-- "there exists an A' such that A' and A are equal if case is ignored and .. the row (C, name, A')"
pub record Named (v : View) (a : List ℕ) (c : ℕ) : Type 0 where
  pub task : Task
  pub name : List ℕ
  pub at : At v.tasks c task
  pub row : task.name ≡ some name
  pub alike : Alike name a

-- "a unique task identifier C such that .."
pub record Sole (v : View) (a : List ℕ) (c : ℕ) : Type 0 where
  pub named : Named v a c
  pub only : (d : ℕ) → Named v a d → d ≡ c

-- "unique task identifiers P and C such that: a. the Properties table contains the rows (P, parent_plan, T) and (C, name, A'), and
-- b. IsAncestor(P, C) is true"
pub record Below (v : View) (a : List ℕ) (T p c : ℕ) : Type 0 where
  pub parent : ParentPlan v p T
  pub named : Named v a c
  pub clause : Clause
  pub ancestor : IsAncestor v p c clause

pub record SoleBelow (v : View) (a : List ℕ) (T p c : ℕ) : Type 0 where
  pub below : Below v a T p c
  pub only : (q d : ℕ) → Below v a T q d → (q ≡ p) × (d ≡ c)

pub data ResolveTask (v : View) (T : ℕ) (a : List ℕ) : Clause → Option ℕ → Type 0 where
  -- 1. If there exists an A' .. and a unique task identifier C such that .. the row (C, name, A') then C
  resolve_task_1 : {c : ℕ} → Sole v a c → ResolveTask v T a §9·6-1 (some c)
  -- 2. Else if there exist an A' .. and unique task identifiers P and C such that .. then C
  resolve_task_2 : {p c : ℕ} → ((d : ℕ) → ¬ Sole v a d) → SoleBelow v a T p c → ResolveTask v T a §9·6-2 (some c)
  -- 3. Else unknown
  resolve_task_3 : ((d : ℕ) → ¬ Sole v a d) → ((p c : ℕ) → ¬ SoleBelow v a T p c) → ResolveTask v T a §9·6-3 none

-- ---- what the laws ask of a view; that every view of a loaded guideline has it is shown with load

-- no two names of one kind are equal if case is ignored (refusal 4)
pub record Apart (v : View) : Type 0 where
  pub items : {i j : ℕ} {x y : Item} → At v.items i x → At v.items j y → Alike x.name y.name → i ≡ j
  pub tasks : {i j : ℕ} {x y : Task} {a b : List ℕ}
      → At v.tasks i x → At v.tasks j y → x.name ≡ some a → y.name ≡ some b → Alike a b → i ≡ j

-- and the value of each item is unknown or of its type (refusals 5 and 9)
pub record Sound (v : View) : Type 0 where
  pub apart : Apart v
  pub typed : {i : ℕ} {x : Item} {w : Value} → At v.items i x → x.value ≡ some w → Of w (inferred x.declared)
