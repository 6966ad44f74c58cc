-- What a test of document 01's three added rules on types has to tell: whether an expression, whose type is found or which the tables hold, is Fitting. Definitions only.
use Rattle.std.specs.Prelude.{◌≡◌, Bool, List, ℕ}
use Rattle.paper_expressions.specs.View.{View, Apart}
use Rattle.paper_expressions.specs.Expressions.{HasType}
use Rattle.paper_expressions.proofs.Laws.Parentheses.{bare}
use Rattle.paper_expressions.proofs.Laws.Search.{Reflects}
use Rattle.paper_guideline.specs.Structure.{Name}
use Rattle.paper_guideline.specs.Parts as Paper
use Paper.{Typed, condition, wording, assigned_to}
use Rattle.paper_guideline.specs.Refusals.{Fitting}
use Rattle.parts.specs.Texts.{text_at_fn}
use Rattle.parts.specs.Part.{Table, Ends, Within}
use Rattle.parts.specs.Items.{Items}
use Rattle.resolution.specs.Letters.{Outcome}
use Rattle.typer.specs.declared.fitting.Role.{Role}
use Rattle.typer.specs.declared.fitting.Role.TheVariants.{Condition, Wording, Assigned}

-- the code's role is the published one; the name that an expression is assigned to stands in the text bytes
pub data Asked (b : List ℕ) : Role → Paper.Role → Type 0 where
  asks_condition : Asked b Condition condition
  asks_wording : Asked b Wording wording
  asks_assigned : {h : ℕ} {n : Name} → text_at_fn b h ≡ n.spelt → Asked b (Assigned h) (assigned_to n)

-- r tells whether an expression whose type is f fits the role
abbrev pub Suits : List ℕ → List ℕ → List ℕ → Role → ℕ → Bool → Type 0
Suits b names types role f r =
    (v : View) (x : Typed) (asked : Paper.Role) → Apart v → Items b names types v → Asked b role asked
    → Outcome (HasType v x.attached x.expression.tree) f → Reflects (Fitting v x asked) r

abbrev pub Assignable : List ℕ → List ℕ → List ℕ → ℕ → ℕ → Bool → Type 0
Assignable b names types h f r = Suits b names types (Assigned h) f r

-- the table holds the expression x of the task T, without its parentheses, up to q and at most d deep;
-- the columns hold the items of the view, with names apart; and the role is that of x
pub record Given (t : Table) (names types : List ℕ) (T q d : ℕ) (role : Role) (v : View) (x : Typed) : Type 0 where
  pub apart : Apart v
  pub items : Items t.bytes names types v
  pub attached : x.attached ≡ T
  pub ends : Ends t q (bare x.expression.tree)
  pub within : Within d (bare x.expression.tree)
  pub asked : Asked t.bytes role x.role

-- r tells whether the expression that ends at q fits its role, for all that the tables hold
abbrev pub Fits : Table → List ℕ → List ℕ → ℕ → ℕ → ℕ → Role → Bool → Type 0
Fits t names types T q d role r = (v : View) (x : Typed) → Given t names types T q d role v x → Reflects (Fitting v x x.role) r
