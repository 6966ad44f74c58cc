-- Which data items there are, and their declared types, by the plan. By the view that the plan's columns show.
use Rattle.std.specs.Prelude.{ℕ, ◌+◌, ◌<◌, ◌≤◌, ◌≡◌, Bool, List, get_or, length}
use Rattle.std.proofs.Common.{arith, sym, ◌∙◌, length-take}
use Rattle.paper_expressions.specs.Types.{Declared}
use Rattle.paper_expressions.specs.View.{At}
use Rattle.paper_guideline.specs.Structure.{TopLevel, DataItem, data_items}
use Rattle.paper_rows.specs.Table.{data_item, ◌№◌, class, type, type_is, RowValue, Table, Contains, DataItemId}
use Rattle.paper_rows.specs.Load.{Adds, data_item_3, data_item_4b}
use Rattle.paper_rows.proofs.Laws.Lists.{at_below, indexed_at}
use Rattle.paper_engine.proofs.Laws.Kept.{adds, has, fixed_class, fixed_type, item_view}
use Rattle.parts.specs.Codes.{declared_code}
use Rattle.truths.specs.Part.{part_of, part_at}
use Rattle.holding.specs.Holding.{Holds}
use Rattle.holding.specs.Shown.{kept, planned}
use Rattle.item_rows.specs.ItemLaws.{defined}

part_most : (s : List ℕ) (a n : ℕ) → length (part_of s a n) ≤ n
unfolding part_of
part_most s a n = simp length-take (omega arith)

-- a declared type, with its row and its number in the plan
pub record OfType (f : List ℕ) (t : Table) (D : ℕ) : Type 0 where
  pub declared : Declared
  pub row : Contains t (data_item № D) type (type_is declared)
  pub told : get_or f (1320 + D) 0 ≡ declared_code declared

module _ {g : List TopLevel} {x b f : List ℕ} {w : List (List Bool)} {s : List ℕ} {t : Table} {flag : Bool} {time : ℕ} (h : Holds g x b f w s t flag time) {D : ℕ} where
  item-at : {r : RowValue} → Adds g (data_item № D) class r → (y : DataItem) × At (data_items g) D y
  item-at (data_item_3 {d = y} k) = (y, k)

  -- every data item is below the plan's number of them
  pub item_below : DataItemId t D → (D < get_or f 1 0) × (D < 64)
  item_below i =
      let k = (item-at (adds (kept h) fixed_class i)).1 in
      let a = at_below (indexed_at (item_view t) k) in
      let m = ((planned h).items t (kept h)).number in
      let c = part_most f 1256 (get_or f 1 0) in
      let e = at_below k in
      let n = h.sized.few_items in
      (omega arith, omega arith)

  pub item_type : D < 64 → D < get_or f 1 0 → OfType f t D
  item_type small l =
      let k = defined h small l in
      record {
        declared = k.0.declared;
        row = has (kept h) fixed_type (data_item_4b k.1);
        told = sym (part_at f 1320 (get_or f 1 0) D l) ∙ ((planned h).items t (kept h)).typed (indexed_at (item_view t) k.1);
      }
