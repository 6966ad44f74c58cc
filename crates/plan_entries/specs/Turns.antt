-- The entries of one row, one by one: each is written to a table that holds a plan.
use Rattle.std.specs.Prelude.{ℕ, suc, ◌-◌, ◌≤◌, ◌<◌, ◌≡◌, Bool, cond, List}
use Rattle.std.proofs.Common.{sym, ap, subst, ◌∙◌, arith, eq-eqb, ne_eqb}
use Rattle.paper_tokens.specs.Tokens
use Tokens.{“plan”, “action”, “enquiry”, “data”, “precondition”, “wait-condition”, “terminate”, “trigger”, “component”, “terminal”, “source”, “mandatory”, “=”}
use Rattle.parts.specs.Texts.{text_at_fn}
use Rattle.row_names.specs.Sheet.{task_kind}
use Rattle.row_names.specs.Flat.{is_data}
use Rattle.row_tests.specs.Table.{cell_of}
use Rattle.name_tests.specs.Lists.{Lists}
use Rattle.plan_cells.specs.declared.spot.Spot.{Spot}
use Rattle.plan.specs.Writes
use Writes.{Outline, outline, counted, is_source, is_assignment, tasks_before, first_that, task_named, child, Column, first, room, Cells, enter, write, store, Sort, a_component, another, sort_of, entries_of, entries}
use Rattle.plan.specs.Filled.{Held}
use Rattle.plan.specs.Puts.{Puts}
use Rattle.plan_cells.specs.Finds.{counted_few, first_is}
use Rattle.plan_cells.specs.Spots.{Stands}

-- ---- at the row k

pub record Here (x : List ℕ) (n : ℕ) (b : List ℕ) (k : ℕ) (at : Spot) : Type 0 where
  pub few : n ≤ 65536
  pub below : k < n
  pub stands : Stands (outline x n b) k at

-- an entry, by an index and a value that are equal to those written
pub putting : {a z i v : ℕ} {f g : List ℕ} → Puts a z i v f g → (p : Column) → first p ≡ a → room p ≡ z → {j w : ℕ} → i ≡ j → v ≡ w
    → {m : Cells} → Held m f → Held (write (enter p j w) m) g
putting {i = i} {v = v} {g = g} h p ea ez {j} {w} ei ev {m} q =
    subst (λ (y : ℕ). Held (write (enter p y w) m) g) ei (subst (λ (y : ℕ). Held (write (enter p i y) m) g) ev (h p m ea ez q))

-- the entries of a row of a sort
abbrev pub Turn : List ℕ → ℕ → Spot → Sort → List ℕ → List ℕ → Type 0
Turn x k at z before after = (n : ℕ) (b : List ℕ) → Here x n b k at → (m : Cells) → Held m before → Held (store (entries_of (outline x n b) k z) m) after

-- the one entry of a row for its task
abbrev pub EndTurn : List ℕ → ℕ → Spot → ℕ → List ℕ → List ℕ → Type 0
EndTurn x k at a before after =
    (n : ℕ) (b : List ℕ) → Here x n b k at → (p : Column) → first p ≡ a → room p ≡ 32 → (m : Cells) → Held m before
    → Held (write (enter p (tasks_before (outline x n b) k - 1) (cell_of x k 6)) m) after

-- the entries of a component that names the task c
abbrev pub ComponentTurn : List ℕ → ℕ → List ℕ → ℕ → ℕ → Spot → ℕ → List ℕ → List ℕ → Type 0
ComponentTurn x n tasks m k at c before after =
    (b : List ℕ) → Here x n b k at → Lists task_kind x n tasks m → c ≡ task_named (outline x n b) (text_at_fn b (cell_of x k 2)) → (q : Cells) → Held q before
    → Held (store (entries_of (outline x n b) k a_component) q) after

-- the entries of a row that names a data item
abbrev pub ItemTurn : List ℕ → List ℕ → List ℕ → ℕ → ℕ → Spot → Sort → List ℕ → List ℕ → Type 0
ItemTurn x b items d k at z before after =
    (n : ℕ) → Here x n b k at → Lists is_data x n items d → (q : Cells) → Held q before → Held (store (entries_of (outline x n b) k z) q) after

-- the entries of any row
abbrev pub RowTurn : List ℕ → ℕ → List ℕ → List ℕ → ℕ → List ℕ → ℕ → ℕ → Spot → ℕ → List ℕ → List ℕ → Type 0
RowTurn x n b tasks m items d k at c before after =
    Here x n b k at → Lists task_kind x n tasks m → Lists is_data x n items d → c ≡ child (outline x n b) (suc k) → (q : Cells) → Held q before
    → Held (store (entries (outline x n b) k) q) after

-- by the sort of its kind
pub of_sort : (s : Outline) (k : ℕ) {z : Sort} {j : ℕ} → j ≡ s.kind k → sort_of j ≡ z → (q : Cells) {f : List ℕ} → Held (store (entries_of s k z) q) f → Held (store (entries s k) q) f
of_sort s k {z} {j} e h q {f} p = subst (λ (y : Sort). Held (store (entries_of s k y) q) f) (sym h ∙ ap sort_of e) p

-- a row of another kind
pub no_sort : (k : ℕ) → ¬ (k ≡ “plan”) → ¬ (k ≡ “action”) → ¬ (k ≡ “enquiry”) → ¬ (k ≡ “data”) → ¬ (k ≡ “precondition”) → ¬ (k ≡ “wait-condition”) → ¬ (k ≡ “terminate”) → ¬ (k ≡ “trigger”) → ¬ (k ≡ “component”) → ¬ (k ≡ “terminal”) → ¬ (k ≡ “source”) → ¬ (k ≡ “mandatory”) → ¬ (k ≡ “=”) → sort_of k ≡ another
no_sort k n0 n1 n2 n3 n4 n5 n6 n7 n8 n9 n10 n11 n12 =
    simp (ne_eqb k “plan” n0, ne_eqb k “action” n1, ne_eqb k “enquiry” n2, ne_eqb k “data” n3, ne_eqb k “precondition” n4, ne_eqb k “wait-condition” n5, ne_eqb k “terminate” n6, ne_eqb k “trigger” n7, ne_eqb k “component” n8, ne_eqb k “terminal” n9, ne_eqb k “source” n10, ne_eqb k “mandatory” n11, ne_eqb k “=” n12)

-- the component's own task
pub child_here : (s : Outline) (k : ℕ) {j c : ℕ} → j ≡ s.kind k → j ≡ “component” → c ≡ child s (suc k) → c ≡ task_named s (s.spelt k)
child_here s k {j} {c} e h p = p ∙ ap (λ (b : Bool). cond b (task_named s (s.spelt k)) (child s k)) (eq-eqb (s.kind k) “component” (sym e ∙ h))

-- ---- numbers that fit a cell

module _ {x : List ℕ} {n : ℕ} {b : List ℕ} {k : ℕ} {at : Spot} (h : Here x n b k at) where
  pub few_tasks : at.tasks < 65536
  few_tasks = let z = counted_few task_kind (outline x n b).kind k in let e = h.stands.tasks in let l = h.few in let u = h.below in omega arith

  pub few_items : at.items < 65536
  few_items = let z = counted_few is_data (outline x n b).kind k in let e = h.stands.items in let l = h.few in let u = h.below in omega arith

  pub few_sources : at.sources < 65536
  few_sources = let z = counted_few is_source (outline x n b).kind k in let e = h.stands.sources in let l = h.few in let u = h.below in omega arith

  pub few_assignments : at.assignments < 65536
  few_assignments = let z = counted_few is_assignment (outline x n b).kind k in let e = h.stands.assignments in let l = h.few in let u = h.below in omega arith

  -- a number that a search found
  pub few_found : (c p : ℕ → Bool) → {r : ℕ} → r ≡ counted c (outline x n b).kind (first_that p n) → r < 131072
  few_found c p e =
      let z = counted_few c (outline x n b).kind (first_that p n) in
      let w = (first_is p n).within in
      let l = h.few in
      omega arith
