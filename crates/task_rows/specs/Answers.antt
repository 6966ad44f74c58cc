-- The answers to the rows of a task: those that move, those that are only there, classes, texts, a parent. By the cases of the code.
use Rattle.std.specs.Prelude.{ℕ, ◌+◌, ◌-◌, ◌≡◌, refl, Bool, true, false, cond, List, eqb, get_or}
use Rattle.std.proofs.Common.{sym, ap, subst, ◌∙◌, ne_eqb}
use Rattle.std.proofs.Math.Option.{Option, none, some}
use Rattle.paper_expressions.proofs.Laws.Search.{no_clash}
use Rattle.paper_expressions.specs.Values.{one, text}
use Rattle.paper_rows.specs.Table.{task, ◌№◌, a_plan, an_action, an_enquiry, Property, RowValue, class_is, component_is, text_row}
use Rattle.paper_calls.specs.Calls as Calls
use Calls.{no_row, there, shows_value, shows_class, shows_component, ShownAs, shown_value, shown_class, shown_component, row}
use Rattle.parts.specs.Texts.{text_at_fn}
use Rattle.state.specs.Cell.{Cell}
use Rattle.waits.specs.Booleans.{any_f}
use Rattle.values.specs.declared.scalar.Scalar.{Scalar}
use Rattle.values.specs.declared.scalar.Scalar.TheVariants.{Text}
use Rattle.values.specs.Meaning.{meaning, handle_of}
use Rattle.row_shown.specs.declared.Shown.TheVariants.{NoRow, There, OfClass, OfComponent}
use Rattle.row_shown.specs.declared.Row.{Row}
use Rattle.row_shown.specs.Shown.{Plain, OfScalar, absent, present, Shows}
use Rattle.row_shown.specs.Cells.{Few, ByCells, plain_published, scalar_published}

pub shows_none : (b : List ℕ) (q : Property) (r : Row) → Plain NoRow r → Shows b q none r
shows_none b q r h = record { shown = no_row; its = absent; published = plain_published b r {s = NoRow} h }

pub shows_there : (b : List ℕ) (q : Property) (r : Row) {v : RowValue} → ShownAs q v there → Plain There r → Shows b q (some v) r
shows_there b q r a h = record { shown = there; its = present a; published = plain_published b r {s = There} h }

-- ---- rows that move

abbrev pub Moving : List ℕ → ℕ → ℕ → Row → Type 0
Moving s c T r = (b : List ℕ) (q : Property) (o : Option RowValue) → Cell (get_or s (c + T) 0) (get_or s (c + 32 + T) 0) o → Few o → Shows b q o r

pub moving_by : (s : List ℕ) (c T : ℕ) {k x : ℕ} {r : Row} → k ≡ get_or s (c + T) 0 → x ≡ get_or s (c + 32 + T) 0 → ByCells k x r → Moving s c T r
moving_by s c T {k} {x} e f h b q o z = h b q o (subst (λ (y : ℕ). Cell k y o) (sym f) (subst (λ (y : ℕ). Cell y (get_or s (c + 32 + T) 0) o) (sym e) z))

-- ---- rows that are only there

pub record ThereIf (v : Bool) (r : Row) : Type 0 where
  pub yes : v ≡ true → Plain There r
  pub no : v ≡ false → Plain NoRow r

pub there_yes : {v : Bool} (r : Row) → v ≡ true → Plain There r → ThereIf v r
there_yes r e h = record { yes = λ z. h; no = λ z. absurd (no_clash (cc)) }

pub there_no : {v : Bool} (r : Row) → v ≡ false → Plain NoRow r → ThereIf v r
there_no r e h = record { yes = λ z. absurd (no_clash (cc)); no = λ z. h }

-- ---- classes

-- the class with the number k of the plan
abbrev pub class_row : ℕ → Option RowValue
class_row k = cond (eqb k 1) (some (class_is a_plan)) (cond (eqb k 2) (some (class_is an_action)) (cond (eqb k 3) (some (class_is an_enquiry)) none))

abbrev pub ClassRow : ℕ → Row → Type 0
ClassRow k r = (b : List ℕ) (q : Property) → Shows b q (class_row k) r

module _ (k : ℕ) (r : Row) where
  pub class_one : k ≡ 1 → Plain (OfClass 3) r → ClassRow k r
  class_one e h b q = subst (λ (y : ℕ). Shows b q (class_row y) r) (sym e) (record { shown = shows_class a_plan; its = present shown_class; published = plain_published b r {s = OfClass 3} h })

  pub class_two : k ≡ 2 → Plain (OfClass 6) r → ClassRow k r
  class_two e h b q = subst (λ (y : ℕ). Shows b q (class_row y) r) (sym e) (record { shown = shows_class an_action; its = present shown_class; published = plain_published b r {s = OfClass 6} h })

  pub class_three : k ≡ 3 → Plain (OfClass 5) r → ClassRow k r
  class_three e h b q = subst (λ (y : ℕ). Shows b q (class_row y) r) (sym e) (record { shown = shows_class an_enquiry; its = present shown_class; published = plain_published b r {s = OfClass 5} h })

  pub class_other : ¬ (k ≡ 1) → ¬ (k ≡ 2) → ¬ (k ≡ 3) → Plain NoRow r → ClassRow k r
  class_other n m l h b q = subst (λ (o : Option RowValue). Shows b q o r) (sym (rw (ne_eqb k 1 n, ne_eqb k 2 m, ne_eqb k 3 l) refl)) (shows_none b q r h)

-- ---- texts

abbrev pub text_if : List ℕ → Bool → ℕ → Option RowValue
text_if b v h = cond v (some (text_row (text_at_fn b h))) none

abbrev pub TextIf : Bool → ℕ → Row → Type 0
TextIf v h r = (b : List ℕ) (q : Property) → Shows b q (text_if b v h) r

pub text_yes : {v : Bool} (h : ℕ) (r : Row) {s : Scalar} → v ≡ true → s ≡ Text (handle_of h) → OfScalar s r → TextIf v h r
text_yes h r e d k b q =
    subst (λ (y : Bool). Shows b q (text_if b y h) r) (sym e)
    (record { shown = shows_value (one (text (text_at_fn b h))); its = present shown_value; published = scalar_published b r k ∙ ap (λ (y : Scalar). row (shows_value (one (meaning b y)))) d })

pub text_no : {v : Bool} (h : ℕ) (r : Row) → v ≡ false → Plain NoRow r → TextIf v h r
text_no h r e k b q = subst (λ (y : Bool). Shows b q (text_if b y h) r) (sym e) (shows_none b q r k)

-- ---- a parent

abbrev pub parent_row : ℕ → Option RowValue
parent_row p = cond (eqb p 0) none (some (component_is (task № (p - 1))))

abbrev pub ParentRow : ℕ → Row → Type 0
ParentRow p r = (b : List ℕ) (q : Property) → Shows b q (parent_row p) r

pub parent_none : (p : ℕ) (r : Row) → p ≡ 0 → Plain NoRow r → ParentRow p r
parent_none p r e h b q = subst (λ (y : ℕ). Shows b q (parent_row y) r) (sym e) (shows_none b q r h)

pub parent_some : (p : ℕ) (r : Row) → ¬ (p ≡ 0) → Plain (OfComponent 0 (p - 1)) r → ParentRow p r
parent_some p r n h b q =
    subst (λ (o : Option RowValue). Shows b q o r) (sym (rw (ne_eqb p 0 n) refl))
    (record { shown = shows_component (task № (p - 1)); its = present shown_component; published = plain_published b r {s = OfComponent 0 (p - 1)} h })

-- ---- one of the marks

pub any_all : (f : ℕ → Bool) (k : ℕ) {r : Bool} → k ≡ 32 → r ≡ any_f f k → r ≡ any_f f 32
any_all f k e h = h ∙ ap (any_f f) e
