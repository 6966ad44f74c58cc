-- The order in which the tasks are shown: the first component of a plan, what is behind a task, and how deep it lies. Definitions only.
use Rattle.std.specs.Prelude.{ℕ, zero, suc, ◌+◌, ◌-◌, ◌≤◌, ◌<◌, ◌≡◌, cond, List, eqb, ltb}
use Rattle.waits.specs.Twins.{parent_at}

-- r is the first task from `from` on whose parent and one is x, or 32
pub record Child (f : List ℕ) (x from r : ℕ) : Type 0 where
  pub within : r ≤ 32
  pub here : r < 32 → (from ≤ r) × (parent_at f r ≡ x)
  pub earlier : (m : ℕ) → from ≤ m → m < r → ¬ (parent_at f m ≡ x)

-- the task after u, by number; none is after the last
abbrev pub more_of_fn : ℕ → ℕ
more_of_fn u = cond (ltb u 32) (u + 1) u

-- r is the task behind u and all that is below it, or 32: the next component of its plan, or of a plan above, looking at most n plans up
pub data Behind (f : List ℕ) : ℕ → ℕ → ℕ → Type 0 where
  no_more : {u : ℕ} → Behind f 0 u 32
  at_root : {n u : ℕ} → parent_at f u ≡ 0 → Behind f (suc n) u 32
  beside : {n u c : ℕ} → ¬ (parent_at f u ≡ 0) → Child f (parent_at f u) (more_of_fn u) c → c < 32 → Behind f (suc n) u c
  above : {n u r : ℕ} → ¬ (parent_at f u ≡ 0) → Child f (parent_at f u) (more_of_fn u) 32 → Behind f n (parent_at f u - 1) r → Behind f (suc n) u r

-- r is shown after t, or 32: its first component, or what is behind it
pub data Next (f : List ℕ) (t : ℕ) : ℕ → Type 0 where
  no_task : 32 ≤ t → Next f t 32
  component : {c : ℕ} → t < 32 → Child f (t + 1) 0 c → c < 32 → Next f t c
  behind : {r : ℕ} → t < 32 → Child f (t + 1) 0 32 → Behind f 32 t r → Next f t r

-- how many plans are above u, at most n
abbrev pub depth_of : List ℕ → ℕ → ℕ → ℕ
depth_of f zero u = 0
depth_of f (suc n) u = cond (eqb (parent_at f u) 0) 0 (suc (depth_of f n (parent_at f u - 1)))
