-- Which components have rows: the tasks, data items and sources that the plan counts, and no other. By the rows that every table has.
use Rattle.std.specs.Prelude.{ℕ, ◌<◌, ◌≤◌, ◌≡◌, refl, Bool, List, get_or, length}
use Rattle.std.proofs.Common.{arith, sym, subst, length-take, length-drop}
use Rattle.std.proofs.Math.Option.{Option, none, some}
use Rattle.paper_expressions.specs.View.{At}
use Rattle.paper_guideline.specs.Structure.{TopLevel, DataItem, data_items}
use Rattle.paper_rows.specs.Table.{Kind, task, data_item, candidate, argument, parameter, source, warning_condition, ◌№◌, Property, properties, RowValue, Table}
use Rattle.paper_rows.specs.Load as Load
use Load.{Adds, InstantiateSource}
use Rattle.paper_rows.proofs.Laws.Lists.{indexed_at, at_below}
use Rattle.paper_engine.proofs.Laws.Kept.{There, task_there, item_there, source_there, adds, has, fixed_class, item_view, task_id}
use Rattle.paper_engine.proofs.Laws.RowFacts.{every_there}
use Rattle.truths.specs.Part.{part_of}
use Rattle.review.specs.Changes.{tasks_in}
use Rattle.planned.specs.Planned.{sources_in}
use Rattle.holding.specs.Holding.{Holds}
use Rattle.holding.specs.Shown.{worked, kept, planned}
use Rattle.row_shown.specs.declared.Row.{Row}
use Rattle.row_shown.specs.declared.Shown.TheVariants.{NoRow}
use Rattle.row_shown.specs.Shown.{Plain, Shows}
use Rattle.task_rows.specs.Answers.{shows_none}
use Rattle.task_rows.specs.TaskRow.{TaskRow}
use Rattle.item_rows.specs.ItemRow.{ItemRow}
use Rattle.source_rows.specs.SourceRow.{SourceRow}

-- no row, where one is impossible
nothing : (o : Option RowValue) → ((r : RowValue) → ¬ (o ≡ some r)) → o ≡ none
nothing none n = refl
nothing (some r) n = absurd (n r refl)

part_most : (s : List ℕ) (a n : ℕ) → length (part_of s a n) ≤ n
unfolding part_of
part_most s a n = simp (length-take, length-drop) (omega arith)

module _ {g : List TopLevel} {x b f : List ℕ} {w : List (List Bool)} {s : List ℕ} {t : Table} {flag : Bool} {time : ℕ} (h : Holds g x b f w s t flag time) {n : ℕ} where
  there : {k : Kind} {q : Property} {r : RowValue} → t (k № n) q ≡ some r → There g (k № n)
  there {k} {q} {r} e = every_there {t = t} {c = k № n} {p = q} {r = r} h.lawful (kept h) e

  pub a_task : {q : Property} {r : RowValue} → t (task № n) q ≡ some r → (n < tasks_in f) × (n < 32)
  a_task e = go (there e)
    where
      go : There g (task № n) → (n < tasks_in f) × (n < 32)
      go (task_there a) = let l = ((worked h).ids n).0 (task_id (kept h) (h.lawful.reached a)) in let z = (worked h).number in (l, omega arith)

  counted : {y : DataItem} → At (data_items g) n y → n < get_or f 1 0
  counted a =
      let u = at_below (indexed_at (item_view t) a) in
      let v = ((planned h).items t (kept h)).number in
      let m = part_most f 1256 (get_or f 1 0) in
      omega arith

  pub an_item : {q : Property} {r : RowValue} → t (data_item № n) q ≡ some r → (n < get_or f 1 0) × (n < 64)
  an_item e = go (there e)
    where
      go : There g (data_item № n) → (n < get_or f 1 0) × (n < 64)
      go (item_there a) = let u = at_below a in let v = h.sized.few_items in (counted a, omega arith)

  classed : {c : ℕ} {u : _} → InstantiateSource g c u n → n < sources_in f
  classed a = ((planned h).source_ids t (kept h) n).0 (has (kept h) fixed_class (Load.source_3 a))

  added : {p : Property} {v : RowValue} → Adds g (source № n) p v → n < sources_in f
  added (Load.source_3 a) = classed a
  added (Load.source_4 a) = classed a
  added (Load.source_7 a i e) = classed a
  added (Load.source_8 a i) = classed a

  pub a_source : {q : Property} {r : RowValue} → t (source № n) q ≡ some r → (n < sources_in f) × (n < 128)
  a_source e = go (there e)
    where
      go : There g (source № n) → (n < sources_in f) × (n < 128)
      go (source_there a) = let u = at_below a in let v = h.sized.few_sources in (added (adds (kept h) (λ m. elim m [ ]) e), omega arith)

  -- the kinds of document 02
  pub no_candidate : {q : Property} {r : RowValue} → ¬ (t (candidate № n) q ≡ some r)
  no_candidate e = let z = there e in elim z [ ]

  pub no_argument : {q : Property} {r : RowValue} → ¬ (t (argument № n) q ≡ some r)
  no_argument e = let z = there e in elim z [ ]

  pub no_parameter : {q : Property} {r : RowValue} → ¬ (t (parameter № n) q ≡ some r)
  no_parameter e = let z = there e in elim z [ ]

  pub no_warning : {q : Property} {r : RowValue} → ¬ (t (warning_condition № n) q ≡ some r)
  no_warning e = let z = there e in elim z [ ]

-- ---- the code's three cases: r answers the row of the property p of the component n of this kind

abbrev pub OfKind : Kind → List ℕ → List (List Bool) → List ℕ → ℕ → ℕ → Row → Type 0
OfKind k f w s n p r =
    (q : Property) → At properties p q → (g : List TopLevel) (x b : List ℕ) (t : Table) (flag : Bool) (time : ℕ) → Holds g x b f w s t flag time → Shows b q (t (k № n) q) r

module _ (f : List ℕ) (w : List (List Bool)) (s : List ℕ) (n p : ℕ) (r : Row) where
  pub of_task : {m : ℕ} → m ≡ tasks_in f → n < m → TaskRow f w s n p r → OfKind task f w s n p r
  of_task e l k q a g x b t flag time h = k q a g x b t flag time h (subst (λ (y : ℕ). n < y) e l)

  pub of_item : {m : ℕ} → m ≡ get_or f 1 0 → n < m → ItemRow f s n p r → OfKind data_item f w s n p r
  of_item e l k q a g x b t flag time h = k q a g x b w t flag time h (subst (λ (y : ℕ). n < y) e l)

  pub of_source : {m : ℕ} → m ≡ sources_in f → n < m → SourceRow f n p r → OfKind source f w s n p r
  of_source e l k q a g x b t flag time h = k q a g x b w s t flag time h (subst (λ (y : ℕ). n < y) e l)

  absent : (k : Kind) → ((g : List TopLevel) (x b : List ℕ) (t : Table) (flag : Bool) (time : ℕ) → Holds g x b f w s t flag time → (q : Property) (v : RowValue) → ¬ (t (k № n) q ≡ some v)) → Plain NoRow r → OfKind k f w s n p r
  absent k none_there i q a g x b t flag time h = subst (λ (o : Option RowValue). Shows b q o r) (sym (nothing (t (k № n) q) (none_there g x b t flag time h q))) (shows_none b q r i)

  pub no_task : {m : ℕ} → m ≡ tasks_in f → m ≤ n → Plain NoRow r → OfKind task f w s n p r
  no_task {m} e l = absent task (λ g x b t flag time h q v z. (let u = (a_task h z).0 in let i : ⊥ = omega arith in i))

  pub far_task : 32 ≤ n → Plain NoRow r → OfKind task f w s n p r
  far_task l = absent task (λ g x b t flag time h q v z. (let u = (a_task h z).1 in let i : ⊥ = omega arith in i))

  pub no_item : {m : ℕ} → m ≡ get_or f 1 0 → m ≤ n → Plain NoRow r → OfKind data_item f w s n p r
  no_item {m} e l = absent data_item (λ g x b t flag time h q v z. (let u = (an_item h z).0 in let i : ⊥ = omega arith in i))

  pub far_item : 64 ≤ n → Plain NoRow r → OfKind data_item f w s n p r
  far_item l = absent data_item (λ g x b t flag time h q v z. (let u = (an_item h z).1 in let i : ⊥ = omega arith in i))

  pub no_source : {m : ℕ} → m ≡ sources_in f → m ≤ n → Plain NoRow r → OfKind source f w s n p r
  no_source {m} e l = absent source (λ g x b t flag time h q v z. (let u = (a_source h z).0 in let i : ⊥ = omega arith in i))

  pub far_source : 128 ≤ n → Plain NoRow r → OfKind source f w s n p r
  far_source l = absent source (λ g x b t flag time h q v z. (let u = (a_source h z).1 in let i : ⊥ = omega arith in i))
