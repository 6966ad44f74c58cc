-- The three added rules on types, worked: for each role expressions that fit and expressions that don't. One statement over the list of rows, by computing the twin.
use Prim.Native.String.{String}
use Rattle.std.specs.Prelude.{◌≡◌, refl, Bool, true, false, List, [], ◌∷◌, map, pos}
use Rattle.std.proofs.Common.{subst}
use Rattle.std.proofs.Math.Option.{none}
use Rattle.paper_expressions.specs.Bytes.{bytes}
use Rattle.paper_expressions.specs.Types.{Declared, a_text, an_integer, a_boolean, a_real, a_setof_text, a_setof_integer, a_setof_real}
use Rattle.paper_expressions.specs.View.{View, Item, Apart}
use Rattle.paper_expressions.specs.Operators.{compare, is<}
use Rattle.paper_expressions.specs.Expressions.{Expr, Atom, IntegerLit, FloatLit, StringLit, Listing, Apply, ε, ◌▸◌}
use Rattle.paper_expressions.proofs.Laws.Search.{Reflects}
use Rattle.paper_expressions.proofs.Laws.Soundness.{sound_if}
use Rattle.paper_guideline.specs.Parts.{Role, condition, wording, assigned_to, Typed}
use Rattle.paper_guideline.specs.Refusals.{Fitting}
use Rattle.paper_guideline.proofs.Laws.FittingTwin.{fits_f, fits_reflects}

-- ---- the data items

abbrev item : String → Declared → Item
item n d = record { name = bytes n; declared = d; value = none }

abbrev items : View
items = record {
  items = item "word" a_text ∷ item "wet" a_boolean ∷ item "count" an_integer ∷ item "pH" a_real ∷ item "words" a_setof_text ∷ item "counts" a_setof_integer ∷ item "levels" a_setof_real ∷ [];
  tasks = [];
}

apart : Apart items
apart = (sound_if items refl).apart

-- ---- the rows

pub record Row : Type 0 where
  pub expression : Expr
  pub role : Role
  pub fits : Bool

abbrev a : String → Role
a n = assigned_to (record { spelt = bytes n; place = 0 })

abbrev one : Expr
one = IntegerLit (pos 1)

abbrev half : Expr
half = FloatLit (pos 500)

abbrev less : Expr
less = Apply (compare is<) (one ▸ half ▸ ε)

abbrev text : Expr
text = StringLit (bytes "b")

abbrev of : Expr → Expr
of e = Listing (e ▸ ε)

infix 2 ◌for◌tells◌
abbrev ◌for◌tells◌ : Expr → Role → Bool → Row
e for r tells b = record { expression = e; role = r; fits = b }

unfoldable pub rows : List Row
rows =
    -- a condition has type truth_value
    (less for condition tells true)
    ∷ (one for condition tells false)
    ∷ (text for condition tells false)
    -- true is a text
    ∷ (Atom (bytes "true") for condition tells false)
    -- a caption or description has type text
    ∷ (text for wording tells true)
    ∷ (Atom (bytes "free") for wording tells true)
    ∷ (Atom (bytes "wet") for wording tells true)
    ∷ (less for wording tells false)
    ∷ (Atom (bytes "count") for wording tells false)
    -- an assigned expression has the item's type
    ∷ (text for a "word" tells true)
    ∷ (text for a "wet" tells true)
    ∷ (one for a "count" tells true)
    ∷ (half for a "PH" tells true)
    ∷ (of text for a "words" tells true)
    ∷ (of one for a "counts" tells true)
    ∷ (of half for a "levels" tells true)
    -- or promotes to it, and not the other way round
    ∷ (one for a "pH" tells true)
    ∷ (half for a "count" tells false)
    ∷ (of one for a "levels" tells true)
    ∷ (of half for a "counts" tells false)
    ∷ (Listing ε for a "words" tells true)
    ∷ (Listing ε for a "counts" tells true)
    ∷ (Listing ε for a "count" tells false)
    -- and no other type
    ∷ (one for a "word" tells false)
    ∷ (text for a "count" tells false)
    ∷ (less for a "wet" tells false)
    ∷ (of text for a "counts" tells false)
    -- an expression without a type, and a name that is no item's
    ∷ (Listing (one ▸ text ▸ ε) for a "words" tells false)
    ∷ (one for a "nothing" tells false)
    ∷ []

abbrev typed : Row → Typed
typed r = record { expression = record { start = 0; tree = r.expression }; role = r.role; attached = 0 }

-- the row tells whether its expression fits
abbrev pub Every : List Row → Type 0
Every [] = Unit {0}
Every (r ∷ rs) = Reflects (Fitting items (typed r) r.role) r.fits × Every rs

-- ---- the proof

computed : map (λ (r : Row). fits_f items (typed r) r.role) rows ≡ map (λ (r : Row). r.fits) rows
unfolding rows
computed = refl

each_row : (rs : List Row) → map (λ (r : Row). fits_f items (typed r) r.role) rs ≡ map (λ (r : Row). r.fits) rs → Every rs
each_row [] e = tt
each_row (r ∷ rs) e =
    let h : fits_f items (typed r) r.role ≡ r.fits = cc in
    let t : map (λ (r : Row). fits_f items (typed r) r.role) rs ≡ map (λ (r : Row). r.fits) rs = cc in
    (subst (Reflects (Fitting items (typed r) r.role)) h (fits_reflects items apart (typed r) r.role), each_row rs t)

pub worked_fitting : Every rows
worked_fitting = each_row rows computed
