-- The types of the parts of an expression as they are told: the letter of each, and the first that has none. Definitions only.
use Rattle.std.specs.Prelude.{ℕ, ◌+◌, ◌≤◌, ◌<◌, ◌≡◌, ◌⊎◌, List, length, get_or}
use Rattle.paper_guideline.specs.Structure.{TopLevel}
use Rattle.paper_guideline.specs.Limits.{depth_limit}
use Rattle.paper_guideline.specs.Refusals.{declared_items}
use Rattle.parts.specs.Part.{Table}
use Rattle.parts.specs.Items.{Items}
use Rattle.typer.specs.Typed.{Typed}
use Rattle.types.specs.Judged.{Given}
use Rattle.explain_rows.specs.Types.{root, Untyped}

-- the letters l before, and l' after: that of each part from `from` up to `to`, as far as there is room, and the others as they were
pub record Spelt (t : Table) (names types : List ℕ) (from to : ℕ) (l l' : List ℕ) : Type 0 where
  pub long : length l' ≡ length l
  pub spelt : (p : ℕ) → from ≤ p → p < to → p < length l → Typed t names types root (p + 1) depth_limit (get_or l' p 0)
  pub others : (p : ℕ) → (p < from) ⊎ (to ≤ p) → get_or l' p 0 ≡ get_or l p 0

-- columns of the data items of the guideline g
pub record Columns (t : Table) (g : List TopLevel) : Type 0 where
  pub names : List ℕ
  pub types : List ℕ
  pub hold : Items t.bytes names types (declared_items g)

-- of every guideline that the tables hold and that breaks no rule on names: r is the first part from `from` on that has no type by its data items, or `to`
abbrev pub FirstUntyped : List ℕ → ℕ → Table → ℕ → ℕ → ℕ → Type 0
FirstUntyped x n t from to r = (g : List TopLevel) → Given x n t g → (c : Columns t g) × Untyped t c.names c.types from to r

-- .. and the letters are those of the parts
abbrev pub Settled : List ℕ → ℕ → Table → ℕ → ℕ → List ℕ → List ℕ → ℕ → Type 0
Settled x n t from to l l' r =
    (g : List TopLevel) → Given x n t g → (c : Columns t g) × Untyped t c.names c.types from to r × Spelt t c.names c.types from to l l'
