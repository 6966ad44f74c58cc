-- What the rows of a source are, by the plan. By the task whose source it is, and by its data item.
use Rattle.std.specs.Prelude.{ℕ, suc, ◌+◌, ◌<◌, ◌≤◌, ◌≡◌, refl, Bool, List, [], ◌∷◌, get_or, length}
use Rattle.std.proofs.Common.{arith, sym, ap, subst, ◌∙◌, length-take, length-drop}
use Rattle.std.proofs.Math.Option.{some}
use Rattle.paper_expressions.specs.View.{At, at_first, at_later}
use Rattle.paper_guideline.specs.Structure as Structure
use Structure.{TopLevel, DataItem, Task, data_items}
use Rattle.paper_guideline.specs.Parts.{Source, sources_of}
use Rattle.paper_rows.specs.Table.{task, data_item, source, Component, ◌№◌, a_source, class, name, sources, data_item_of, RowValue, class_is, component_is, components_are, text_row, Table, Contains}
use Rattle.paper_rows.specs.Load as Load
use Load.{Adds, InstantiateTask, InstantiateSource, attribute_3, numbered}
use Rattle.paper_rows.proofs.Laws.Lists.{indexed_at, at_below}
use Rattle.paper_engine.proofs.Laws.Kept.{adds, has, fixed_class, fixed_name, fixed_sources, item_view, task_id}
use Rattle.parts.specs.Texts.{text_at_fn}
use Rattle.truths.specs.Part.{part_of, part_at}
use Rattle.waits.specs.Twins.{first_at, item_at}
use Rattle.planned.specs.Planned.{sources_in}
use Rattle.holding.specs.Holding.{Holds}
use Rattle.holding.specs.Shown.{worked, kept, planned}

part_most : (s : List ℕ) (a n : ℕ) → length (part_of s a n) ≤ n
unfolding part_of
part_most s a n = simp (length-take, length-drop) (omega arith)

numbered_at : (m : ℕ) {i : ℕ} {l : List Source} {s : Source} → At l i s → At (numbered m l) i (source № (m + i))
numbered_at m {l = v ∷ l} at_first = let e : m ≡ m + 0 = omega arith in subst (λ (y : ℕ). At (numbered m (v ∷ l)) 0 (source № y)) e at_first
numbered_at m {i = suc i} {l = v ∷ l} (at_later h) = let e : suc m + i ≡ m + suc i = omega arith in at_later (subst (λ (y : ℕ). At (numbered (suc m) l) i (source № y)) e (numbered_at (suc m) h))
numbered_at m {i = y} {l = []} x'' = elim x'' [ ]

same_source : {n m : ℕ} → source № n ≡ source № m → n ≡ m
same_source e = cc

module _ {g : List TopLevel} {x b f : List ℕ} {w : List (List Bool)} {s : List ℕ} {t : Table} {flag : Bool} {time : ℕ} (h : Holds g x b f w s t flag time) {n : ℕ} (l : n < sources_in f) where
  pub class_told : t (source № n) class ≡ some (class_is a_source)
  class_told = ((planned h).source_ids t (kept h) n).1 l

  -- the sources row of its task
  listed : {c i : ℕ} {k : Task} {u : Source} (all : List Source) → InstantiateTask g k c → sources_of k ≡ all → At all i u
      → (z : List Component) × Contains t (task № c) sources (components_are z) × At z i (source № (Load.sources_before c (Structure.tasks g) + i))
  listed {c} (v ∷ rest) q e a = (numbered (Load.sources_before c (Structure.tasks g)) (v ∷ rest), has (kept h) fixed_sources (Load.source_5 q e), numbered_at (Load.sources_before c (Structure.tasks g)) a)
  listed {c = c} {i = i} {k = k} {u = u} [] q e a = elim a [ ]

  its_item : {c i : ℕ} {k : Task} {u : Source} → InstantiateTask g k c → At (sources_of k) i u → n ≡ Load.sources_before c (Structure.tasks g) + i
      → Contains t (source № n) data_item_of (component_is (data_item № item_at f n))
  its_item {c} {i} {k} q a e =
      let z = listed (sources_of k) q refl a in
      let m = ((worked h).ids c).0 (task_id (kept h) q) in
      let y = ((worked h).sourced m).of z.1 z.2 in
      let o : first_at f c + i ≡ n = sym (same_source y.1) ∙ sym e in
      subst (λ (v : ℕ). Contains t (source № v) data_item_of (component_is (data_item № item_at f v))) o (((worked h).sourced m).items i y.0).1

  pub item_told : t (source № n) data_item_of ≡ some (component_is (data_item № item_at f n))
  item_told = go (adds (kept h) fixed_class class_told)
    where
      go : {r : RowValue} → Adds g (source № n) class r → Contains t (source № n) data_item_of (component_is (data_item № item_at f n))
      go (Load.source_3 (attribute_3 q a e)) = its_item q a e

  -- a data item's name, by its handle
  item_name : {d : ℕ} {y : DataItem} → At (data_items g) d y → text_at_fn b (get_or f (1256 + d) 0) ≡ y.named.spelt
  item_name {d} {y} a =
      let z = indexed_at (item_view t) a in
      let p = (planned h).items t (kept h) in
      let i : d < get_or f 1 0 = (let u = at_below z in let v = p.number in let m = part_most f 1256 (get_or f 1 0) in omega arith) in
      ap (text_at_fn b) (sym (part_at f 1256 (get_or f 1 0) d i)) ∙ p.named z

  pub name_told : t (source № n) name ≡ some (text_row (text_at_fn b (get_or f (1256 + item_at f n) 0)))
  name_told = go (adds (kept h) (λ z. elim z [ ]) item_told) refl
    where
      go : {r : RowValue} → Adds g (source № n) data_item_of r → r ≡ component_is (data_item № item_at f n) → t (source № n) name ≡ some (text_row (text_at_fn b (get_or f (1256 + item_at f n) 0)))
      go (Load.source_7 {d} q a e) i =
          let o : d ≡ item_at f n = same_item i in
          has (kept h) fixed_name (Load.source_4 q) ∙ ap (λ (y : List ℕ). some (text_row y)) (sym e ∙ sym (item_name a) ∙ ap (λ (y : ℕ). text_at_fn b (get_or f (1256 + y) 0)) o)
        where
          same_item : {p q : ℕ} → component_is (data_item № p) ≡ component_is (data_item № q) → p ≡ q
          same_item z = cc
