-- Without data items and tasks: what the typer and the evaluator promise of the parts of a line's tree, said of the tree. By the view that has nothing in it.
use Rattle.std.specs.Prelude.{ℕ, suc, ◌≡◌, refl, List, [], length}
use Rattle.std.proofs.Common.{arith, sym, ap}
use Rattle.paper_expressions.specs.Values as paper
use Rattle.paper_expressions.specs.Types.{Ty}
use Rattle.paper_expressions.specs.View.{Apart, Sound}
use Rattle.paper_expressions.specs.Expressions.{Expr, Exprs, ε, ◌▸◌, HasType}
use Rattle.paper_expressions.proofs.Laws.Parentheses.{bare, bares, type_to_bare}
use Rattle.paper_expressions.proofs.Laws.WithinLimits as Within
use Within.{Limited, Modest, AllModest, atom_modest, integer_modest, float_modest, string_modest, paren_modest, listing_modest, apply_modest, none_modest, more_modest, Held, limited}
use Rattle.paper_guideline.specs.Line.{no_items}
use Rattle.parts.specs.Part.{Table, Ends}
use Rattle.parts.specs.Part as Part
use Rattle.parts.specs.Items.{Items}
use Rattle.resolution.specs.Letters.{Outcome}
use Rattle.typer.specs.Typed.{Typed}
use Rattle.typer.proofs.TypedLaws.{typed_written}
use Rattle.values.specs.declared.value.Value.{Value}
use Rattle.values.specs.Meaning.{meaning_v}
use Rattle.apply.specs.Tasks.{Tasks}
use Rattle.evaluator.specs.Columns.{columns, Setting}
use Rattle.evaluator.specs.Published.{IsValue, Published, written}

-- ---- the view

pub apart : Apart no_items
apart = record { items = λ h. elim h [ ]; tasks = λ h. elim h [ ] }

pub sound : Sound no_items
sound = record { apart = apart; typed = λ h. elim h [ ] }

pub held : Held no_items
held = record { held = λ h. elim h [ ] }

-- a column with no cells holds its items, and one its tasks
items : (b : List ℕ) {names types : List ℕ} → length names ≡ 0 → Items b names types no_items
items b e = record { number = sym e; named = λ h. elim h [ ]; typed = λ h. elim h [ ] }

tasks : (b : List ℕ) {names states : List ℕ} → length names ≡ 0 → Tasks b names states no_items
tasks b e = record { number = sym e; named = λ h. elim h [ ]; stated = λ h. elim h [ ] }

setting : {t : Table} {names tags cells ts states : List ℕ} → length names ≡ 0 → length ts ≡ 0
    → Setting t (columns names tags cells ts states) no_items
setting {t} e f = record {
  apart = apart;
  held = held;
  items = record { types = []; items = items t.bytes e; values = λ h. elim h [ ] };
  tasks = tasks t.bytes f;
}

-- ---- without its parentheses a tree is as modest as with them

bares_size : (es : Exprs) → Within.size (bares es) ≡ Within.size es
bares_size ε = refl
bares_size (e ▸ es) = ap suc (bares_size es)

mutual
  bare_modest : {e : Expr} → Modest e → Modest (bare e)
  bare_modest (atom_modest h) = atom_modest h
  bare_modest (integer_modest h) = integer_modest h
  bare_modest (float_modest h) = float_modest h
  bare_modest (string_modest h) = string_modest h
  bare_modest (paren_modest h) = bare_modest h
  bare_modest (listing_modest {es} h k) = listing_modest {es = bares es} (let z = bares_size es in omega arith) (bares_modest k)
  bare_modest (apply_modest k) = apply_modest (bares_modest k)

  bares_modest : {es : Exprs} → AllModest es → AllModest (bares es)
  bares_modest none_modest = none_modest
  bares_modest (more_modest h k) = more_modest (bare_modest h) (bares_modest k)

-- ---- the parts before q are those of the tree

module _ {t : Table} {names : List ℕ} {q d : ℕ} (e : Expr) (none : length names ≡ 0) (ends : Ends t q (bare e)) (deep : Part.Within d (bare e)) where
  pub type_is : {types : List ℕ} {r : ℕ} → Typed t names types 0 q d r → Outcome (HasType no_items 0 e) r
  type_is f = typed_written e (f no_items (bare e) apart (items t.bytes none) ends deep)

  pub value_is : {tags cells ts states : List ℕ} {ty : Ty} (v : Value) → length ts ≡ 0 → Modest e → HasType no_items 0 e ty
      → Published t (columns names tags cells ts states) 0 q d v → IsValue no_items 0 e ty (meaning_v t.bytes v)
  value_is {ty} v no-tasks m h f =
      written e sound (f no_items (bare e) ty sound (setting none no-tasks) ends deep (bare_modest m) (type_to_bare no_items 0 h))

-- the value is within the limits
pub value_limited : {e : Expr} {ty : Ty} {v : paper.Value} → IsValue no_items 0 e ty v → Modest e → Limited v
value_limited h m = limited no_items 0 h.fits held m
