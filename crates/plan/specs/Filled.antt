-- A table of numbers holds the cells of a plan, and a table of marks who waits for whom. Definitions only.
use Rattle.std.specs.Prelude.{ℕ, ◌+◌, ◌≤◌, ◌<◌, ◌≡◌, Bool, false, List, [], get_or, length}
use Rattle.plan.specs.Writes.{Column, Cells, first, room, Outline, outline, tasks_before, items_before, plan, waits}

-- the least length of a plan
abbrev pub plan_cells : ℕ
plan_cells = 1640

-- every cell of every column; what is in no column is 0
pub record Held (m : Cells) (f : List ℕ) : Type 0 where
  pub long : plan_cells ≤ length f
  pub cells : (p : Column) (i : ℕ) → i < room p → get_or f (first p + i) 0 ≡ m p i
  pub spare : (c : ℕ) → 2 ≤ c → c < 8 → get_or f c 0 ≡ 0
  pub beyond : (c : ℕ) → plan_cells ≤ c → get_or f c 0 ≡ 0

-- the row of T marks the tasks for which it waits
pub record Marked (m : ℕ → ℕ → Bool) (w : List (List Bool)) : Type 0 where
  pub long : length w ≡ 32
  pub wide : (T : ℕ) → T < 32 → length (get_or w T []) ≡ 32
  pub marks : (T A : ℕ) → T < 32 → A < 32 → get_or (get_or w T []) A false ≡ m T A

-- the first n rows are those of at most 32 tasks and 64 data items
pub record Fit (s : Outline) : Type 0 where
  pub rows : s.count ≤ 65536
  pub tasks : tasks_before s s.count ≤ 32
  pub items : items_before s s.count ≤ 64

-- what filling leaves: the plan, and who waits for whom
pub record Filled (x : List ℕ) (n : ℕ) (b f : List ℕ) (w : List (List Bool)) : Type 0 where
  pub held : Held (plan (outline x n b)) f
  pub marked : Marked (waits (outline x n b)) w

-- what is promised of the tables, whatever they hold
abbrev pub Fills : List ℕ → ℕ → List ℕ → List ℕ → List ℕ → List (List Bool) → Type 0
Fills x n b before after w = (length after ≡ length before) × (Fit (outline x n b) → plan_cells ≤ length before → Filled x n b after w)
