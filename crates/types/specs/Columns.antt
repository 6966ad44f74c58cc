-- The columns of the data items' names and types as they are filled, row by row. Definitions only.
use Rattle.std.specs.Prelude.{ℕ, ◌+◌, ◌*◌, ◌%◌, ◌≤◌, ◌<◌, ◌≡◌, ◌⊎◌, List, length, get_or, set}
use Rattle.paper_expressions.specs.View.{Item, At}
use Rattle.paper_tokens.specs.Tokens.{“data”}
use Rattle.paper_guideline.specs.Structure.{TopLevel}
use Rattle.paper_guideline.specs.Refusals.{declared_items}
use Rattle.parts.specs.Codes.{declared_code}
use Rattle.parts.specs.Texts.{text_at_fn}
use Rattle.parts.specs.Part.{Table}
use Rattle.guideline_rows.specs.Rows.{flatten}
use Rattle.guideline_rows.specs.Encoded.{Encoded}
use Rattle.guideline_rows.specs.InLimits.{InLimits}
use Rattle.row_tests.specs.Table.{cell_of}

-- the columns l and k have the names and types of the m items, as far as there is room
pub record Holding (b l k : List ℕ) (items : List Item) (m : ℕ) : Type 0 where
  pub count : m ≡ length items
  pub named : {d : ℕ} {y : Item} → At items d y → d < length l → d < length k → text_at_fn b (get_or l d 0) ≡ y.name
  pub typed : {d : ℕ} {y : Item} → At items d y → d < length l → d < length k → get_or k d 0 ≡ declared_code y.declared

-- what the row i of the table x adds to the columns l and k, which have m items
pub data Puts (x l k : List ℕ) (m i : ℕ) : List ℕ → List ℕ → ℕ → Type 0 where
  passed : ¬ (cell_of x i 0 ≡ “data”) → Puts x l k m i l k m
  full : cell_of x i 0 ≡ “data” → (length l ≤ m) ⊎ (length k ≤ m) → Puts x l k m i l k (m + 1)
  put : cell_of x i 0 ≡ “data” → m < length l → m < length k
      → Puts x l k m i (set l m (get_or x (i * 8 + 2) 0)) (set k m (get_or x (i * 8 + 7) 0 % 256)) (m + 1)

-- the columns l, k before, and l', k' after all rows: m items
pub record Gathers (x : List ℕ) (n : ℕ) (l k l' k' : List ℕ) (m : ℕ) : Type 0 where
  pub names_long : length l' ≡ length l
  pub types_long : length k' ≡ length k
  pub held : (g : List TopLevel) (t : Table) → Encoded (flatten g) x t → InLimits (flatten g) → n ≡ length (flatten g) → Holding t.bytes l' k' (declared_items g).items m
