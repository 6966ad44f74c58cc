-- What the rows of a data item are, by the plan and the state. By its definition in the guideline.
use Rattle.std.specs.Prelude.{ℕ, ◌+◌, ◌<◌, ◌≡◌, refl, Bool, List, get_or, length}
use Rattle.std.proofs.Common.{arith, sym, ap, ◌∙◌, length-take, length-drop}
use Rattle.std.proofs.Math.Option.{some}
use Rattle.paper_expressions.specs.Types.{Declared, a_text, an_integer, a_boolean, a_datetime, a_date, a_time, a_real, a_setof_text, a_setof_integer, a_setof_real}
use Rattle.paper_expressions.specs.View.{At}
use Rattle.paper_guideline.specs.Structure.{TopLevel, DataItem, data_items}
use Rattle.paper_rows.specs.Table.{data_item, ◌№◌, a_data_item, class, name, type, class_is, type_is, text_row, Table}
use Rattle.paper_rows.specs.Load.{data_item_3, data_item_4a, data_item_4b}
use Rattle.paper_rows.proofs.Laws.Lists.{below_at, at_indexed, indexed_at}
use Rattle.paper_engine.proofs.Laws.Kept.{has, fixed_class, fixed_name, fixed_type, item_view, view_f}
use Rattle.parts.specs.Codes.{declared_code}
use Rattle.parts.specs.Texts.{text_at_fn}
use Rattle.truths.specs.Part.{part_of, part_at}
use Rattle.holding.specs.Holding.{Holds}
use Rattle.holding.specs.Shown.{kept, planned}
use Rattle.row_shown.specs.Shown.{type_of}

part_least : (s : List ℕ) (a n d : ℕ) → d < n → a + d < length s → d < length (part_of s a n)
unfolding part_of
part_least s a n d l m = simp (length-take, length-drop) (omega arith)

pub coded : (d : Declared) → type_of (declared_code d) ≡ d
coded a_text = refl
coded an_integer = refl
coded a_boolean = refl
coded a_datetime = refl
coded a_date = refl
coded a_time = refl
coded a_real = refl
coded a_setof_text = refl
coded a_setof_integer = refl
coded a_setof_real = refl

module _ {g : List TopLevel} {x b f : List ℕ} {w : List (List Bool)} {s : List ℕ} {t : Table} {flag : Bool} {time : ℕ} (h : Holds g x b f w s t flag time) {D : ℕ} (small : D < 64) (l : D < get_or f 1 0) where
  pub defined : (y : DataItem) × At (data_items g) D y
  defined =
      let m = ((planned h).items t (kept h)).number in
      let n = (planned h).long in
      let i = part_least f 1256 (get_or f 1 0) D l (omega arith) in
      let z = below_at (view_f g t).items D (omega arith) in
      let u = at_indexed (item_view t) (data_items g) z.1 in
      (u.0, u.1)

  pub class_told : t (data_item № D) class ≡ some (class_is a_data_item)
  class_told = has (kept h) fixed_class (data_item_3 defined.1)

  pub name_told : t (data_item № D) name ≡ some (text_row (text_at_fn b (get_or f (1256 + D) 0)))
  name_told =
      has (kept h) fixed_name (data_item_4a defined.1)
      ∙ ap (λ (y : List ℕ). some (text_row y)) (sym (((planned h).items t (kept h)).named (indexed_at (item_view t) defined.1)) ∙ ap (text_at_fn b) (part_at f 1256 (get_or f 1 0) D l))

  pub type_told : t (data_item № D) type ≡ some (type_is (type_of (get_or f (1320 + D) 0)))
  type_told =
      has (kept h) fixed_type (data_item_4b defined.1)
      ∙ ap (λ (y : Declared). some (type_is y)) (sym (coded defined.0.declared) ∙ ap type_of (sym (((planned h).items t (kept h)).typed (indexed_at (item_view t) defined.1)) ∙ part_at f 1320 (get_or f 1 0) D l))
