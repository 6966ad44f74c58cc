-- The columns of the data items' names and declared types, and where a name is found in them. Definitions only.
use Rattle.std.specs.Prelude.{◌≡◌, true, List, ℕ, ◌≤◌, ◌<◌, get_or, length}
use Rattle.paper_expressions.specs.View.{View, Item, At}
use Rattle.paper_expressions.proofs.Laws.Search.{alikeb}
use Rattle.parts.specs.Codes.{declared_code}
use Rattle.parts.specs.Texts.{text_at_fn}

-- the columns hold the items of the view: a handle and a number for each, and none over
pub record Items (b names types : List ℕ) (v : View) : Type 0 where
  pub number : length v.items ≡ length names
  pub named : {i : ℕ} {x : Item} → At v.items i x → text_at_fn b (get_or names i 0) ≡ x.name
  pub typed : {i : ℕ} {x : Item} → At v.items i x → get_or types i 0 ≡ declared_code x.declared

-- r is the first index whose name is alike to the text with the handle h, or how many there are
pub record Found (b names : List ℕ) (h r : ℕ) : Type 0 where
  pub within : r ≤ length names
  pub before : (k : ℕ) → k < r → ¬ (alikeb (text_at_fn b (get_or names k 0)) (text_at_fn b h) ≡ true)
  pub found : r < length names → alikeb (text_at_fn b (get_or names r 0)) (text_at_fn b h) ≡ true
