-- Law: what the plan says of the sources is what their rows hold, and they are numbered one task after the other. By the sources of each task.
use Rattle.std.specs.Prelude.{ℕ, ◌+◌, ◌-◌, ◌<◌, ◌≤◌, ◌≡◌, refl, Bool, true, ◌↔◌, List, [], ◌∷◌, get_or, length}
use Rattle.std.proofs.Common.{arith, sym, ap, subst, ◌∙◌, eqb-true, eq-eqb}
use Rattle.std.proofs.Math.Option.{Option, some}
use Rattle.paper_expressions.specs.View.{At}
use Rattle.paper_expressions.proofs.Laws.Search.{at_one, sameb, same_reflects, Looked, found, missing, looked}
use Rattle.paper_guideline.specs.Structure
use Structure.{Task, DataItem, TopLevel, tasks, data_items}
use Rattle.paper_guideline.specs.Parts.{Source, sources_of, sources}
use Rattle.paper_guideline.specs.Names.{source_no_item}
use Rattle.paper_rows.specs.Table
use Table.{task, data_item, source, Component, ◌№◌, a_source, RowValue, class_is, component_is, components_are, truth_row, Table, Contains}
use Rattle.paper_rows.specs.Load
use Load.{InstantiateTask, InstantiateSource, attribute_3, sources_before, numbered, Adds, source_3, source_5, source_7, source_8}
use Rattle.paper_rows.proofs.Laws.Lists.{at_below, below_at}
use Rattle.paper_rows.proofs.Laws.Lawful.{Lawful, defined}
use Rattle.paper_rows.proofs.Laws.SingleLaws.{source_at}
use Rattle.paper_engine.proofs.Laws.Kept.{Kept, fixed_class, fixed_sources, adds, has}
use Rattle.waits.specs.Booleans.{Tests}
use Rattle.waits.specs.Twins.{first_at, count_at_fn, item_at, mandatory_f}
use Rattle.waits.specs.Worked.{Sources}
use Rattle.review.specs.Changes.{tasks_in}
use Rattle.planned.specs.Planned.{sources_in, answered}
use Rattle.plan_told.specs.Told.{SourcesTold, answer}
use Rattle.plan_told.proofs.RowLaws.{by_cases, same_truth, answer_yes, answered_as, not_added}
use Rattle.plan_told.proofs.ListLaws.{before_less, before_fits, before_last, from_each, counted, numbered_at, at_numbered}

sources_by : {g : List TopLevel} {T : ℕ} {l : List Component} → Adds g (task № T) Table.sources (components_are l) → (k : Task) × InstantiateTask g k T × (l ≡ numbered (sources_before T (tasks g)) (sources_of k))
sources_by {g} {T} (source_5 {t} h e) = (t, h, ap (numbered (sources_before T (tasks g))) (sym e))

mandatory_by : {g : List TopLevel} {n : ℕ} {r : RowValue} → Adds g (source № n) Table.mandatory r
    → (c : ℕ) × (s : Source) × (k : ℕ) × (w : ℕ) × (b : Bool) × InstantiateSource g c s n × At s.attributes k (record { word = w; what = Structure.mandatory b }) × (r ≡ truth_row b)
mandatory_by (source_8 {c} {k} {w} {s} {b} h q) = (c, s, k, w, b, h, q, refl)

module _ {g : List TopLevel} {f : List ℕ} (told : SourcesTold g f) where
  -- ---- their numbers

  pub sources_rise : {T U : ℕ} {k j : Task} → At (tasks g) T k → At (tasks g) U j → T < U → first_at f T + count_at_fn f T ≤ first_at f U
  sources_rise {T} {U} h q l =
      let a = told.first h in
      let b = told.count h in
      let c = told.first q in
      let d = counted T (tasks g) in
      let e = counted U (tasks g) in
      let z = before_less sources_of h q l in
      omega arith

  pub sources_most : {T : ℕ} {k : Task} → At (tasks g) T k → first_at f T + count_at_fn f T ≤ length (sources g)
  sources_most {T} h =
      let a = told.first h in
      let b = told.count h in
      let d = counted T (tasks g) in
      let z = before_fits sources_of h in
      omega arith

-- ---- all of them

source_by : {g : List TopLevel} {n : ℕ} {r : RowValue} → Adds g (source № n) Table.class r → (c : ℕ) × (s : Source) × InstantiateSource g c s n
source_by (source_3 {c} {s} h) = (c, s, h)

module _ {g : List TopLevel} {f : List ℕ} {t : Table} (lawful : Lawful g) (told : SourcesTold g f) (kept : Kept g t) (number : tasks_in f ≡ length (tasks g)) (rooted : 0 < length (tasks g)) where
  in_all : sources_in f ≡ length (sources g)
  in_all =
      let k = below_at (tasks g) (tasks_in f - 1) (omega arith) in
      let a = told.first k.1 in
      let b = told.count k.1 in
      let c = counted (tasks_in f - 1) (tasks g) in
      let z = before_last sources_of k.1 (omega arith) in
      omega arith

  numbered_source : (n : ℕ) → n < sources_in f → (c : ℕ) × (s : Source) × InstantiateSource g c s n
  numbered_source n l =
      let e = in_all in
      let s = below_at (sources g) n (omega arith) in
      let k = from_each sources_of (tasks g) s.1 in
      let z = counted k.0 (tasks g) in
      let w = k.5 in
      (k.0, s.0, attribute_3 (lawful.reached k.3) k.4 (omega arith))

  pub source_ids : (n : ℕ) → Contains t (source № n) Table.class (class_is a_source) ↔ (n < sources_in f)
  source_ids n = (
    λ h. (let e = in_all in let k = at_below (source_at lawful (source_by (adds kept fixed_class h)).2) in omega arith),
    λ l. has kept fixed_class (source_3 (numbered_source n l).2),
  )

  pub mandatory_rows : {n : ℕ} → n < sources_in f → t (source № n) Table.mandatory ≡ answered (get_or f (392 + n) 0)
  mandatory_rows {n} l =
      let s = numbered_source n l in
      by_cases (t (source № n) Table.mandatory)
      (λ z. z ∙ sym (ap answered (told.no_mandatory s.2 (λ k w b u. not_added kept (λ x. elim x [ ]) z (source_8 s.2 u)))))
      (λ r h. let a = mandatory_by (adds kept (λ x. elim x [ ]) h) in h ∙ ap some a.7 ∙ sym (ap answered (told.mandatory a.5 a.6) ∙ answered_as a.4))

module _ {g : List TopLevel} {f : List ℕ} {t : Table} (lawful : Lawful g) (few : length (data_items g) ≤ 64) (told : SourcesTold g f) (kept : Kept g t) {T : ℕ} {k : Task} (h : At (tasks g) T k) where
  -- the i-th source of the task
  its : (i : ℕ) → i < count_at_fn f T → (s : Source) × InstantiateSource g T s (first_at f T + i)
  its i l =
      let b = told.count h in
      let s = below_at (sources_of k) i (omega arith) in
      (s.0, attribute_3 (lawful.reached h) s.1 (ap (λ (z : ℕ). z + i) (told.first h)))

  of : {l : List Component} {i : ℕ} {c : Component} → Contains t (task № T) Table.sources (components_are l) → At l i c → (i < count_at_fn f T) × (c ≡ source № (first_at f T + i))
  of {l} {i} {c} r q =
      let a = sources_by (adds kept fixed_sources r) in
      let w = at_one (defined a.1) h in
      let e : l ≡ numbered (sources_before T (tasks g)) (sources_of k) = a.2 ∙ ap (λ (z : Task). numbered (sources_before T (tasks g)) (sources_of z)) w in
      let n = numbered_at (sources_before T (tasks g)) (sources_of k) (subst (λ (z : List Component). At z i c) e q) in
      let b = told.count h in
      let d = n.0 in
      (omega arith, n.1 ∙ ap (λ (z : ℕ). source № (z + i)) (sym (told.first h)))

  row : (l : List Source) → sources_of k ≡ l → (i : ℕ) → i < length l → Contains t (task № T) Table.sources (components_are (numbered (sources_before T (tasks g)) l))
  row [] e i q = absurd (let z : ⊥ = omega arith in z)
  row (s ∷ l) e i q = has kept fixed_sources (source_5 (lawful.reached h) e)

  all : {i : ℕ} → i < count_at_fn f T → (l : List Component) × Contains t (task № T) Table.sources (components_are l) × At l i (source № (first_at f T + i))
  all {i} l =
      let b = told.count h in
      let q : i < length (sources_of k) = omega arith in (
        numbered (sources_before T (tasks g)) (sources_of k),
        row (sources_of k) refl i q,
        subst (λ (z : ℕ). At (numbered (sources_before T (tasks g)) (sources_of k)) i (source № (z + i))) (sym (told.first h)) (at_numbered (sources_before T (tasks g)) (sources_of k) i q),
      )

  -- the data item that a source names
  named_item : {n : ℕ} {s : Source} → At (sources g) n s → (d : ℕ) × (x : DataItem) × At (data_items g) d x × (x.named.spelt ≡ s.named.spelt)
  named_item {s = s} q = go (looked (λ (x : DataItem). s.named.spelt ≡ x.named.spelt) (λ (x : DataItem). sameb s.named.spelt x.named.spelt) (λ x. same_reflects s.named.spelt x.named.spelt) (data_items g))
    where
      go : {o : Option ℕ} → Looked (λ (x : DataItem). s.named.spelt ≡ x.named.spelt) (data_items g) o → (d : ℕ) × (x : DataItem) × At (data_items g) d x × (x.named.spelt ≡ s.named.spelt)
      go (found {i} {x} u e) = (i, x, u, sym e)
      go (missing m) = absurd (lawful.names _ (source_no_item q m))

  items : (i : ℕ) → i < count_at_fn f T → (item_at f (first_at f T + i) < 64) × Contains t (source № (first_at f T + i)) Table.data_item_of (component_is (data_item № (item_at f (first_at f T + i))))
  items i l =
      let s = its i l in
      let d = named_item (source_at lawful s.1) in
      let e = told.item s.1 d.2 d.3 in
      let b = at_below d.2 in
      (omega arith, has kept (λ x. elim x [ ]) (source_7 s.1 d.2 d.3) ∙ ap (λ (z : ℕ). some (component_is (data_item № z))) (sym e))

  required : (i : ℕ) → i < count_at_fn f T → Tests (mandatory_f f (first_at f T + i)) (Contains t (source № (first_at f T + i)) Table.mandatory (truth_row true))
  required i l = (to, back)
    where
      to : mandatory_f f (first_at f T + i) ≡ true → Contains t (source № (first_at f T + i)) Table.mandatory (truth_row true)
      to q =
          let d = eqb-true (get_or f (392 + (first_at f T + i)) 0) 1 q in
          let s = its i l in
          by_cases (t (source № (first_at f T + i)) Table.mandatory)
          (λ z. absurd (let e = told.no_mandatory s.1 (λ k w b u. not_added kept (λ x. elim x [ ]) z (source_8 s.1 u)) in omega arith))
          (λ r u. let a = mandatory_by (adds kept (λ x. elim x [ ]) u) in
          u ∙ ap some a.7 ∙ ap (λ (b : Bool). some (truth_row b)) (answer_yes a.4 (sym (told.mandatory a.5 a.6) ∙ d)))

      back : Contains t (source № (first_at f T + i)) Table.mandatory (truth_row true) → mandatory_f f (first_at f T + i) ≡ true
      back u =
          let a = mandatory_by (adds kept (λ x. elim x [ ]) u) in
          eq-eqb (get_or f (392 + (first_at f T + i)) 0) 1 (told.mandatory a.5 a.6 ∙ ap answer (sym (same_truth a.7)))

  pub sourced : Sources f T t
  sourced = record { of = of; all = all; items = items; required = required }
