-- The lent columns of data items and tasks, and the view of the Properties table that they stand for. Definitions only.
use Rattle.std.specs.Prelude.{◌≡◌, cond, List, [], ◌∷◌, ℕ, zero, suc, ◌+◌, ◌*◌, ◌-◌, eqb, ltb, get_or}
use Rattle.std.proofs.Math.Option.{Option, none, some}
use Rattle.paper_expressions.specs.Values as paper
use Rattle.paper_expressions.specs.Values.{one, sequence}
use Rattle.paper_expressions.specs.View.{View, Item, At, Apart}
use Rattle.paper_expressions.proofs.Laws.WithinLimits.{Held}
use Rattle.parts.specs.Texts.{literal}
use Rattle.parts.specs.Part.{Table}
use Rattle.parts.specs.Items.{Items}
use Rattle.values.specs.declared.scalar.Scalar.{Scalar}
use Rattle.values.specs.declared.scalar.Scalar.TheVariants.{Unknown, Truth, Text}
use Rattle.values.specs.declared.list.List as Code
use Rattle.values.specs.declared.value.Value.{Value}
use Rattle.values.specs.Meaning.{meaning, meaning_l, meaning_v, handle_of, integer_of, real_of_fn}
use Rattle.apply.specs.Tasks.{Tasks}

pub record Columns : Type 0 where
  pub names : List ℕ
  pub tags : List ℕ
  pub nums : List ℕ
  pub tasks : List ℕ
  pub states : List ℕ

abbrev pub columns : List ℕ → List ℕ → List ℕ → List ℕ → List ℕ → Columns
columns names tags nums tasks states = record { names = names; tags = tags; nums = nums; tasks = tasks; states = states }

-- ---- the values of the data items

-- the value with the tag k and the number x
abbrev pub scalar_at : ℕ → ℕ → Scalar
scalar_at k x =
    cond (eqb k 1) (Truth (eqb x 1))
    (cond (eqb k 2) (integer_of (literal x))
    (cond (eqb k 3) (real_of_fn (literal x))
    (cond (eqb k 4) (Text (handle_of x))
    Unknown)))

abbrev pub cell_at : List ℕ → List ℕ → ℕ → Scalar
cell_at tags nums p = scalar_at (get_or tags p 0) (get_or nums p 0)

-- the n cells from p on, where b are the lent bytes
abbrev pub cells_at_fn : List ℕ → List ℕ → List ℕ → ℕ → ℕ → List paper.Scalar
cells_at_fn b tags nums p zero = []
cells_at_fn b tags nums p (suc n) = meaning b (cell_at tags nums p) ∷ cells_at_fn b tags nums (suc p) n

-- an item's cells from p on, of the shape k: one value, or a list of k - 1, at most 16
abbrev pub shaped_at : List ℕ → List ℕ → List ℕ → ℕ → ℕ → paper.Value
shaped_at b tags nums p k =
    cond (eqb k 0) (one (meaning b (cell_at tags nums (p + 1))))
    (cond (ltb 17 k) (one paper.unknown)
    (sequence (cells_at_fn b tags nums (p + 1) (k - 1))))

-- the value of the i-th item
abbrev pub shown_at : List ℕ → List ℕ → List ℕ → ℕ → paper.Value
shown_at b tags nums i = cond (ltb i 65536) (shaped_at b tags nums (17 * i) (get_or tags (17 * i) 0)) (one paper.unknown)

-- no value row, and the value unknown, are shown alike
abbrev pub shown : Option paper.Value → paper.Value
shown none = one paper.unknown
shown (some w) = w

-- the columns hold the names, for some column of declared types, and the values of the view's items
pub record ShowsItems (b names tags nums : List ℕ) (v : View) : Type 0 where
  pub types : List ℕ
  pub items : Items b names types v
  pub values : {i : ℕ} {x : Item} → At v.items i x → shown_at b tags nums i ≡ shown x.value

-- ---- what the code reads of them

abbrev pub ElementsOf : List ℕ → List ℕ → ℕ → ℕ → Code.List → Type 0
ElementsOf tags nums p n l = (b : List ℕ) → meaning_l b l ≡ cells_at_fn b tags nums p n

abbrev pub ItemOf : List ℕ → List ℕ → ℕ → Value → Type 0
ItemOf tags nums i r = (b : List ℕ) → meaning_v b r ≡ shown_at b tags nums i

-- ---- all that is asked of the tables and the view, whatever the expression

pub record Setting (t : Table) (c : Columns) (v : View) : Type 0 where
  pub apart : Apart v
  pub held : Held v
  pub items : ShowsItems t.bytes c.names c.tags c.nums v
  pub tasks : Tasks t.bytes c.tasks c.states v
