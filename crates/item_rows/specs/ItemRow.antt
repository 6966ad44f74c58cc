-- The answer to reading a row of a data item, by the number of the property: of every state that the tables hold. By the five properties that a data item has.
use Rattle.std.specs.Prelude.{ℕ, ◌+◌, ◌*◌, ◌<◌, ◌≡◌, refl, Bool, true, false, cond, List, eqb, get_or}
use Rattle.std.proofs.Common.{arith, sym, ap, subst, ◌∙◌, eq-eqb, ne_eqb}
use Rattle.std.proofs.Math.Option.{Option, none, some}
use Rattle.paper_expressions.specs.Values.{one, text}
use Rattle.paper_expressions.specs.Values as paper
use Rattle.paper_expressions.specs.View.{At}
use Rattle.paper_guideline.specs.Structure.{TopLevel}
use Rattle.paper_rows.specs.Table.{data_item, ◌№◌, a_data_item, Property, properties, class, name, type, value, requested, RowValue, value_is, type_is, text_row, Table}
use Rattle.paper_rows.specs.Load as Load
use Load.{Adds}
use Rattle.paper_rows.proofs.Laws.Ranks.{property_rank}
use Rattle.paper_rows.proofs.Laws.Seen.{value_f}
use Rattle.paper_engine.proofs.Laws.Kept as Kept
use Kept.{Moving, adds}
use Rattle.paper_calls.specs.Calls as Calls
use Calls.{no_row, shows_value, shows_class, shows_type, shown_value, shown_class, shown_type, row}
use Rattle.parts.specs.Texts.{text_at_fn}
use Rattle.truths.specs.Part.{part_of, part_at}
use Rattle.state.specs.Cell.{Cell}
use Rattle.holding.specs.Holding.{Holds, ItemAt}
use Rattle.holding.specs.Values.{item_shown}
use Rattle.holding.specs.Shown.{kept}
use Rattle.row_shown.specs.declared.Row.{Row}
use Rattle.row_shown.specs.declared.Shown.TheVariants.{NoRow, OfValue, OfClass, OfType}
use Rattle.row_shown.specs.Shown.{Plain, NameOf, type_of, published_row, absent, present, Shows}
use Rattle.row_shown.specs.Cells.{ByCells, plain_published, scalar_published}
use Rattle.task_rows.specs.Answers.{shows_none}
use Rattle.task_rows.specs.Listed.{is_property, place_of}
use Rattle.item_rows.specs.ItemValue.{cells_show, item_value, CellsShow, value_shown, ValueRow}
use Rattle.item_rows.specs.ItemLaws.{class_told, name_told, type_told}

-- ---- the value

pub value_there : (s : List ℕ) (D : ℕ) (r : Row) {t : Bool} → t ≡ eqb (get_or s (1864 + 17 * D) 0) 1 → t ≡ true → CellsShow s D r.value → Plain OfValue r → ValueRow s D r
value_there s D r e k z i b =
    plain_published b r {s = OfValue} i ∙ ap (λ (u : paper.Value). row (shows_value u)) (z b)
    ∙ ap (λ (u : Bool). row (value_shown (cond u (some (cells_show b s D)) none))) (sym k ∙ e)

pub value_none : (s : List ℕ) (D : ℕ) (r : Row) {t : Bool} → t ≡ eqb (get_or s (1864 + 17 * D) 0) 1 → t ≡ false → Plain NoRow r → ValueRow s D r
value_none s D r e k i b =
    plain_published b r {s = NoRow} i ∙ ap (λ (u : Bool). row (value_shown (cond u (some (cells_show b s D)) none))) (sym k ∙ e)

-- of every state that the tables hold it is the value of the data item
pub value_held : (s b : List ℕ) (D : ℕ) {o : Option paper.Value} → D < 64 → ItemAt s b D o → item_value b s D ≡ o
value_held s b D {o = none} l h = let z = h.there in rw (ne_eqb (get_or s (1864 + 17 * D) 0) 1 (λ e. omega arith)) refl
value_held s b D {o = some v} l h =
    rw (eq-eqb (get_or s (1864 + 17 * D) 0) 1 h.there)
    (ap some (item_shown (part_of s 776 1088) (part_of s 1864 1088) D l h (part_at s 776 1088) (part_at s 1864 1088)))

-- ---- the rows

abbrev pub OfItem : List ℕ → List ℕ → ℕ → Property → Row → Type 0
OfItem f s D q r = (g : List TopLevel) (x b : List ℕ) (w : List (List Bool)) (t : Table) (flag : Bool) (time : ℕ) → Holds g x b f w s t flag time → D < get_or f 1 0 → Shows b q (t (data_item № D) q) r

abbrev pub ItemRow : List ℕ → List ℕ → ℕ → ℕ → Row → Type 0
ItemRow f s D p r = (q : Property) → At properties p q → OfItem f s D q r

pub data Listed : ℕ → Type 0 where
  is_0 : Listed 0
  is_1 : Listed 1
  is_41 : Listed 41
  is_42 : Listed 42
  is_50 : Listed 50

pub not_listed : {p : ℕ} → ¬ (p ≡ 0) → ¬ (p ≡ 1) → ¬ (p ≡ 41) → ¬ (p ≡ 42) → ¬ (p ≡ 50) → ¬ Listed p
not_listed a b c d e is_0 = a refl
not_listed a b c d e is_1 = b refl
not_listed a b c d e is_41 = c refl
not_listed a b c d e is_42 = d refl
not_listed a b c d e is_50 = e refl

adds_listed : {g : List TopLevel} {n : ℕ} {q : Property} {r : RowValue} → Adds g (data_item № n) q r → Listed (property_rank q)
adds_listed (Load.data_item_3 h) = is_0
adds_listed (Load.data_item_4a h) = is_1
adds_listed (Load.data_item_4b h) = is_41

moving_listed : {n : ℕ} {q : Property} → Moving (data_item № n) q → Listed (property_rank q)
moving_listed Kept.value_moves = is_42
moving_listed Kept.requested_moves = is_50

module _ (f s : List ℕ) (D : ℕ) (r : Row) where
  pub arm : (p : ℕ) (x : Property) → p ≡ property_rank x → OfItem f s D x r → ItemRow f s D p r
  arm p x e h q a = subst (λ (y : Property). OfItem f s D y r) (sym (is_property x e a)) h

  pub of_class : D < 64 → Plain (OfClass 1) r → OfItem f s D class r
  of_class m k g x b w t flag time h l =
      subst (λ (o : Option RowValue). Shows b class o r) (sym (class_told h m l)) (record { shown = shows_class a_data_item; its = present shown_class; published = plain_published b r {s = OfClass 1} k })

  pub of_name : {c : ℕ} → D < 64 → c ≡ get_or f (1256 + D) 0 → NameOf c r → OfItem f s D name r
  of_name {c} m e k g x b w t flag time h l =
      subst (λ (o : Option RowValue). Shows b name o r) (ap (λ (y : ℕ). some (text_row (text_at_fn b y))) e ∙ sym (name_told h m l))
      (record { shown = shows_value (one (text (text_at_fn b c))); its = present shown_value; published = scalar_published b r k })

  pub of_type : {c : ℕ} → D < 64 → c ≡ get_or f (1320 + D) 0 → Plain (OfType c) r → OfItem f s D type r
  of_type {c} m e k g x b w t flag time h l =
      subst (λ (o : Option RowValue). Shows b type o r) (ap (λ (y : ℕ). some (type_is (type_of y))) e ∙ sym (type_told h m l))
      (record { shown = shows_type (type_of c); its = present shown_type; published = plain_published b r {s = OfType c} k })

  pub of_value : D < 64 → ValueRow s D r → OfItem f s D value r
  of_value m k g x b w t flag time h l = go (t (data_item № D) value) refl (k b ∙ ap (λ (o : Option paper.Value). row (value_shown o)) (value_held s b D m (h.values D m)))
    where
      go : (o : Option RowValue) → t (data_item № D) value ≡ o → published_row b r ≡ row (value_shown (value_f (t (data_item № D) value))) → Shows b value (t (data_item № D) value) r
      go none e z = subst (λ (y : Option RowValue). Shows b value y r) (sym e) (record { shown = no_row; its = absent; published = z ∙ ap (λ (y : Option RowValue). row (value_shown (value_f y))) e })
      go (some v) e z =
          let u = (kept h).values e in
          let i : t (data_item № D) value ≡ some (value_is u.held) = e ∙ ap some u.is in
          subst (λ (y : Option RowValue). Shows b value y r) (sym i) (record { shown = shows_value u.held; its = present shown_value; published = z ∙ ap (λ (y : Option RowValue). row (value_shown (value_f y))) i })

  pub of_requested : {k c : ℕ} → D < 64 → k ≡ get_or s (648 + D) 0 → c ≡ get_or s (712 + D) 0 → ByCells k c r → OfItem f s D requested r
  of_requested {k} {c} m d e z g x b w t flag time h l =
      z b requested (t (data_item № D) requested) (subst (λ (y : ℕ). Cell k y (t (data_item № D) requested)) (sym e) (subst (λ (y : ℕ). Cell y (get_or s (712 + D) 0) (t (data_item № D) requested)) (sym d) (h.rows.asked m)))
      (λ n i. absurd (let u = (kept h).allowed Kept.requested_moves i in elim u [ ]))

  pub of_none : (p : ℕ) → ¬ Listed p → Plain NoRow r → ItemRow f s D p r
  of_none p m k q a g x b w t flag time h l = subst (λ (o : Option RowValue). Shows b q o r) (sym (go (t (data_item № D) q) refl)) (shows_none b q r k)
    where
      stays : ¬ Moving (data_item № D) q
      stays z = m (subst Listed (place_of a) (moving_listed z))

      go : (o : Option RowValue) → t (data_item № D) q ≡ o → t (data_item № D) q ≡ none
      go none e = e
      go (some v) e = absurd (m (subst Listed (place_of a) (adds_listed (adds (kept h) stays e))))
