-- The answers to rows that two cells of the state tell, or one of the plan. By the tags.
use Rattle.std.specs.Prelude.{ℕ, ◌≤◌, ◌≡◌, refl, Bool, true, false, cond, List, eqb, pos}
use Rattle.std.proofs.Common.{arith, sym, ap, ap₂, subst, ◌∙◌, ne_eqb}
use Rattle.std.proofs.Math.Option.{Option, none, some}
use Rattle.paper_expressions.specs.Values.{one, unknown, truth, integer}
use Rattle.paper_expressions.specs.Values as paper
use Rattle.paper_rows.specs.Table.{Property, RowValue, integer_row}
use Rattle.paper_calls.specs.Calls as Calls
use Calls.{no_row, there, shows_value, shows_state, shows_time, shown_value, shown_state, shown_time, row}
use Rattle.state.specs.Cell.{Cell, tag, row_of, row_back, state_of, Plain, absent, plain_unknown, plain_truth, plain_count, plain_time, plain_state}
use Rattle.planned.specs.Planned.{answered}
use Rattle.values.specs.declared.text.Handle.{Handle}
use Rattle.values.specs.declared.scalar.Scalar.{Scalar}
use Rattle.values.specs.declared.scalar.Scalar.TheVariants.{Unknown, Truth, Int, Text}
use Rattle.values.specs.declared.value.Value.{Value}
use Rattle.values.specs.Meaning.{meaning, meaning_l, valued, meaning_v, handle_of}
use Rattle.row_shown.specs.declared.Shown as Code
use Rattle.row_shown.specs.declared.Shown.TheVariants.{NoRow, OfValue, OfState, OfTime}
use Rattle.row_shown.specs.declared.Row.{Row}
use Rattle.row_shown.specs.Shown as Defined
use Defined.{reply_of, published_row, RowShown, present, Shows, OfScalar}

-- ---- an answer, published

pub plain_published : (b : List ℕ) (r : Row) {s : Code.Shown} → Defined.Plain s r → published_row b r ≡ reply_of b s r.value
plain_published b r e = ap (λ (y : Code.Shown). reply_of b y r.value) e

pub scalar_published : (b : List ℕ) (r : Row) {s : Scalar} → OfScalar s r → published_row b r ≡ row (shows_value (one (meaning b s)))
scalar_published b r e =
    plain_published b r {s = OfValue} e.0 ∙ ap (λ (y : paper.Value). row (shows_value y)) (ap₂ (λ (m : Bool) (z : Scalar). valued m (meaning b z) (meaning_l b r.value.list)) e.1 e.2)

pub name_is : (h : ℕ) (r : Row) {v : Handle} → v ≡ handle_of h → OfScalar (Text v) r → Defined.NameOf h r
name_is h r e k = (k.0, k.1, k.2 ∙ ap Text e)

-- ---- counts

abbrev pub CountOf : ℕ → Row → Type 0
CountOf x r = x ≤ 1 → (b : List ℕ) → published_row b r ≡ row (shows_value (one (integer (pos x))))

pub count_one : (x : ℕ) (r : Row) {s : Scalar} → x ≡ 1 → ((b : List ℕ) → meaning b s ≡ integer (pos 1)) → OfScalar s r → CountOf x r
count_one x r e k h l b = scalar_published b r h ∙ ap (λ (y : paper.Scalar). row (shows_value (one y))) (k b ∙ ap (λ (y : ℕ). integer (pos y)) (sym e))

pub count_none : (x : ℕ) (r : Row) {s : Scalar} → ¬ (x ≡ 1) → ((b : List ℕ) → meaning b s ≡ integer (pos 0)) → OfScalar s r → CountOf x r
count_none x r n k h l b = let e : 0 ≡ x = omega arith in scalar_published b r h ∙ ap (λ (y : paper.Scalar). row (shows_value (one y))) (k b ∙ ap (λ (y : ℕ). integer (pos y)) e)

-- ---- two cells

-- what counts is 0 or 1
abbrev pub Few : Option RowValue → Type 0
Few o = (n : ℕ) → o ≡ some (integer_row (pos n)) → n ≤ 1

abbrev pub ByCells : ℕ → ℕ → Row → Type 0
ByCells k x r = (b : List ℕ) (q : Property) (o : Option RowValue) → Cell k x o → Few o → Shows b q o r

told : {k x : ℕ} {o : Option RowValue} → Cell k x o → row_of k x ≡ o
told h = ap₂ row_of h.its_tag h.its_number ∙ row_back h.plain

-- the row that the cells stand for, where the tag is known
at_tag : (k n x : ℕ) {o : Option RowValue} → k ≡ n → Cell k x o → row_of n x ≡ o
at_tag k n x e h = ap (λ (y : ℕ). row_of y x) (sym e) ∙ told h

none_left : {k : ℕ} {o : Option RowValue} → Plain o → k ≡ tag o → ¬ (k ≡ 1) → ¬ (k ≡ 2) → ¬ (k ≡ 3) → ¬ (k ≡ 4) → ¬ (k ≡ 5) → o ≡ none
none_left absent e n1 n2 n3 n4 n5 = refl
none_left plain_unknown e n1 n2 n3 n4 n5 = absurd (n1 e)
none_left (plain_truth b) e n1 n2 n3 n4 n5 = absurd (n2 e)
none_left (plain_count b) e n1 n2 n3 n4 n5 = absurd (n3 e)
none_left (plain_time b) e n1 n2 n3 n4 n5 = absurd (n4 e)
none_left (plain_state b) e n1 n2 n3 n4 n5 = absurd (n5 e)

module _ (k x : ℕ) (r : Row) where
  pub cells_unknown : {s : Scalar} → k ≡ 1 → s ≡ Unknown → OfScalar s r → ByCells k x r
  cells_unknown e d h b q o c l =
      subst (λ (y : Option RowValue). Shows b q y r) (at_tag k 1 x e c)
      (record { shown = shows_value (one unknown); its = present shown_value; published = scalar_published b r h ∙ ap (λ (y : Scalar). row (shows_value (one (meaning b y)))) d })

  pub cells_truth : {s : Scalar} → k ≡ 2 → s ≡ Truth (eqb x 1) → OfScalar s r → ByCells k x r
  cells_truth e d h b q o c l =
      subst (λ (y : Option RowValue). Shows b q y r) (at_tag k 2 x e c)
      (record { shown = shows_value (one (truth (eqb x 1))); its = present shown_value; published = scalar_published b r h ∙ ap (λ (y : Scalar). row (shows_value (one (meaning b y)))) d })

  pub cells_count : k ≡ 3 → CountOf x r → ByCells k x r
  cells_count e h b q o c l =
      let z = at_tag k 3 x e c in
      subst (λ (y : Option RowValue). Shows b q y r) z (record { shown = shows_value (one (integer (pos x))); its = present shown_value; published = h (l x (sym z)) b })

  pub cells_time : k ≡ 4 → Defined.Plain (OfTime x) r → ByCells k x r
  cells_time e h b q o c l = subst (λ (y : Option RowValue). Shows b q y r) (at_tag k 4 x e c) (record { shown = shows_time x; its = present shown_time; published = plain_published b r {s = OfTime x} h })

  pub cells_state : k ≡ 5 → Defined.Plain (OfState x) r → ByCells k x r
  cells_state e h b q o c l = subst (λ (y : Option RowValue). Shows b q y r) (at_tag k 5 x e c) (record { shown = shows_state (state_of x); its = present shown_state; published = plain_published b r {s = OfState x} h })

  pub cells_none : ¬ (k ≡ 1) → ¬ (k ≡ 2) → ¬ (k ≡ 3) → ¬ (k ≡ 4) → ¬ (k ≡ 5) → Defined.Plain NoRow r → ByCells k x r
  cells_none n1 n2 n3 n4 n5 h b q o c l =
      subst (λ (y : Option RowValue). Shows b q y r) (sym (none_left c.plain c.its_tag n1 n2 n3 n4 n5))
      (record { shown = no_row; its = Defined.absent; published = plain_published b r {s = NoRow} h })

-- ---- one cell

abbrev pub ByAnswer : ℕ → Row → Type 0
ByAnswer x r = (b : List ℕ) (q : Property) → Shows b q (answered x) r

module _ (x : ℕ) (r : Row) where
  pub answer_yes : {s : Scalar} → x ≡ 1 → s ≡ Truth true → OfScalar s r → ByAnswer x r
  answer_yes e d h b q =
      subst (λ (y : ℕ). Shows b q (answered y) r) (sym e)
      (record { shown = shows_value (one (truth true)); its = present shown_value; published = scalar_published b r h ∙ ap (λ (y : Scalar). row (shows_value (one (meaning b y)))) d })

  pub answer_no : {s : Scalar} → x ≡ 2 → s ≡ Truth false → OfScalar s r → ByAnswer x r
  answer_no e d h b q =
      subst (λ (y : ℕ). Shows b q (answered y) r) (sym e)
      (record { shown = shows_value (one (truth false)); its = present shown_value; published = scalar_published b r h ∙ ap (λ (y : Scalar). row (shows_value (one (meaning b y)))) d })

  pub answer_none : ¬ (x ≡ 1) → ¬ (x ≡ 2) → Defined.Plain NoRow r → ByAnswer x r
  answer_none n m h b q =
      subst (λ (o : Option RowValue). Shows b q o r) (sym (rw (ne_eqb x 1 n, ne_eqb x 2 m) refl))
      (record { shown = no_row; its = Defined.absent; published = plain_published b r {s = NoRow} h })
