-- Law: the plan that the rows write says of the sources what the structure has. By the row of each source, and of its attributes.
use Rattle.std.specs.Prelude.{ℕ, zero, suc, ◌+◌, ◌-◌, ◌≤◌, ◌<◌, ◌≡◌, refl, Bool, true, List, eqb, get_or, length}
use Rattle.std.proofs.Common.{arith, sym, ap, subst, ◌∙◌, eqb-true, eq-eqb}
use Rattle.paper_expressions.specs.View.{At}
use Rattle.paper_expressions.proofs.Laws.Search.{at_one}
use Rattle.paper_tokens.specs.Tokens.{“source”, “mandatory”}
use Rattle.paper_guideline.specs.Structure
use Structure.{SourceAttribute, Task, DataItem, TopLevel, tasks}
use Rattle.paper_guideline.specs.Parts.{Source, sources, sources_of}
use Rattle.paper_rows.specs.Load
use Load.{InstantiateSource, attribute_3, InstantiateDataItem, source_8}
use Rattle.paper_rows.proofs.Laws.Lists.{at_below, below_at, before}
use Rattle.paper_rows.proofs.Laws.Lawful.{Lawful, defined}
use Rattle.paper_rows.proofs.Laws.SingleLaws.{source_at, adds_once}
use Rattle.parts.specs.Part.{Table}
use Rattle.guideline_rows.specs.Rows.{source_row, kind-of, flag_of}
use Rattle.row_names.specs.Sheet.{task_kind}
use Rattle.waits.specs.Twins.{first_at, count_at_fn, item_at}
use Rattle.plan.specs.Writes as Writes
use Writes.{Outline, plan_f, plan, is_source, tasks_before, sources_before, at_task, item_named}
use Rattle.plan.specs.Filled.{Held}
use Rattle.plan_told.specs.Told.{answer, SourcesTold}
use Rattle.plan_told.proofs.RowLaws.{same_truth}
use Rattle.plan_told.proofs.ListLaws.{counted}
use Rattle.plan_rows.specs.Stands.{stands_of}
use Rattle.plan_rows.specs.Reads.{Reads}
use Rattle.plan_rows.specs.ReadLaws.{below, head_row_of, tasks_at, sources_at, is_head, item_found}
use Rattle.plan_rows.specs.SourceRows.{source_seen, source_row_of, mandatory_seen, in_source_of}
use Rattle.plan_law.specs.Written.{unwritten, written, last_written, counted_past}
use Rattle.plan_law.specs.Columns.{write_first_source, write_source_count, write_source_item, write_mandatory}
use Rattle.plan_law.specs.TaskColumns.{code_answer, task_at, in_room}

only_mandatory : (p : ℕ) (c : SourceAttribute) → kind-of (source_row p c) ≡ “mandatory” → (b : Bool) × (c ≡ Structure.mandatory b)
only_mandatory p (Structure.source_generic (Structure.caption x)) e = absurd (omega arith)
only_mandatory p (Structure.source_generic (Structure.description x)) e = absurd (omega arith)
only_mandatory p (Structure.mandatory b) e = (b, refl)

module _ {g : List TopLevel} {s : Outline} {p : Table} {f : List ℕ} (lawful : Lawful g) (few : length (tasks g) ≤ 32) (few_sources : length (sources g) ≤ 128) (reads : Reads s p g) (held : Held (plan s) f) where
  -- ---- of each task

  first : {T : ℕ} {t : Task} → At (tasks g) T t → first_at f T ≡ Load.sources_before T (tasks g)
  first {T} {t} h =
      let x = stands_of g h in
      let w = written (λ k. plan_f s k Writes.first_source T) (λ k. task_kind (s.kind k)) (λ k. tasks_before s k) (λ k. sources_before s k) T refl (λ k. write_first_source s T k) s.count
      (below reads (head_row_of reads x.2)) (is_head reads x.2) (tasks_at reads x.2) in
      let y = task_at lawful few reads held h w.k w.below w.of w.there in
      held.cells Writes.first_source T (in_room lawful few reads held h) ∙ w.cell ∙ sources_at reads y.1 ∙ counted T (tasks g)

  -- a row that counts for the task T
  its : {T : ℕ} {t : Task} → At (tasks g) T t → (k : ℕ) → k < s.count → eqb (s.kind k) “source” ≡ true → tasks_before s k - 1 ≡ T
      → (i : ℕ) × (i < length (sources_of t)) × (sources_before s k ≡ before sources_of T (tasks g) + i)
  its {T} {t} h k l e z =
      let y = source_seen reads k l e in
      let a = y.tasks in
      let v : y.T ≡ T = omega arith in
      let w : y.t ≡ t = at_one (subst (λ (n : ℕ). At (tasks g) n y.t) v y.at) h in
      (y.k, at_below (subst (λ (u : Task). At (sources_of u) y.k y.u) w y.of), y.number ∙ ap (λ (n : ℕ). before sources_of n (tasks g) + y.k) v)

  count : {T : ℕ} {t : Task} → At (tasks g) T t → count_at_fn f T ≡ length (sources_of t)
  count {T} {t} h = held.cells Writes.source_count T (in_room lawful few reads held h) ∙ go (length (sources_of t)) refl
    where
      go : (n : ℕ) → length (sources_of t) ≡ n → plan_f s s.count Writes.source_count T ≡ n
      go zero e =
          unwritten (λ k. plan_f s k Writes.source_count T) (λ k. eqb (s.kind k) “source”) (λ k. tasks_before s k - 1) (λ k. sources_before s k + 1 - at_task s is_source k) T refl (λ k. write_source_count s T k) s.count
          (λ k l q z. let y = its h k l q z in let i = y.1 in omega arith)
      go (suc n) e =
          let u = below_at (sources_of t) n (omega arith) in
          let r = source_row_of reads h u.1 in
          last_written (λ k. plan_f s k Writes.source_count T) (λ k. eqb (s.kind k) “source”) (λ k. tasks_before s k - 1) (λ k. sources_before s k + 1 - at_task s is_source k) T refl (λ k. write_source_count s T k) s.count
          r.below r.word (let a = r.tasks in omega arith)
          (λ k l m q z. let y = its h k m q z in let i = y.1 in let j = y.2 in let a = r.number in let b = counted_past is_source s.kind r.q k l r.word in omega arith)
          ∙ (let a = r.number in let b = r.from in let z : sources_before s r.q + 1 - at_task s is_source r.q ≡ suc n = omega arith in z)

  -- ---- of each source

  numbered : (c k : ℕ) {n : ℕ} → n ≡ Load.sources_before c (tasks g) + k → n ≡ before sources_of c (tasks g) + k
  numbered c k e = let z = counted c (tasks g) in omega arith

  instantiates : {T n k : ℕ} {t : Task} {u : Source} → At (tasks g) T t → At (sources_of t) k u → n ≡ before sources_of T (tasks g) + k → InstantiateSource g T u n
  instantiates {T} h q e = attribute_3 (lawful.reached h) q (let z = counted T (tasks g) in omega arith)

  room : {c n : ℕ} {u : Source} → InstantiateSource g c u n → n < 128
  room h = let l = at_below (source_at lawful h) in omega arith

  same_source : {c d n : ℕ} {u v : Source} → InstantiateSource g c u n → InstantiateSource g d v n → u ≡ v
  same_source h k = at_one (source_at lawful h) (source_at lawful k)

  item : {c n d : ℕ} {u : Source} {x : DataItem} → InstantiateSource g c u n → InstantiateDataItem g x d → x.named.spelt ≡ u.named.spelt → item_at f n ≡ d
  item {c} {n = n} {u = u} (attribute_3 {k = m} i q e) j z =
      let r = source_row_of reads (defined i) q in
      let w = written (λ k. plan_f s k Writes.source_item n) (λ k. eqb (s.kind k) “source”) (λ k. sources_before s k) (λ k. item_named s (s.spelt k)) n refl (λ k. write_source_item s n k) s.count
      r.below r.word (r.number ∙ sym (numbered c m e)) in
      let y = source_seen reads w.k w.below w.of in
      let v = same_source (instantiates y.at y.of (sym w.there ∙ y.number)) (attribute_3 i q e) in
      held.cells Writes.source_item n (room (attribute_3 i q e)) ∙ w.cell
      ∙ item_found reads lawful (s.spelt w.k) j (y.spelt ∙ ap (λ (a : Source). a.named.spelt) v ∙ sym z)

  -- a row mandatory that is written to the cell n
  mandatory_of : {n : ℕ} (k : ℕ) → k < s.count → eqb (s.kind k) “mandatory” ≡ true → sources_before s k - 1 ≡ n
      → (c : ℕ) × (u : Source) × (i : ℕ) × (v : ℕ) × (b : Bool) × InstantiateSource g c u n × At u.attributes i (record { word = v; what = Structure.mandatory b }) × (s.flag k ≡ answer b)
  mandatory_of {n} k l e z =
      let y = mandatory_seen reads k l e in
      let o = only_mandatory y.x.word y.x.what (sym (reads.kind y.row) ∙ eqb-true (s.kind k) “mandatory” e) in
      let a = y.number in (
        y.T,
        y.u,
        y.i,
        y.x.word,
        o.0,
        instantiates y.at y.of (omega arith),
        subst (λ (c : SourceAttribute). At y.u.attributes y.i (record { word = y.x.word; what = c })) o.1 y.there,
        reads.flag y.row ∙ ap (λ (c : SourceAttribute). flag_of (source_row y.x.word c)) o.1 ∙ code_answer o.0,
      )

  mandatory : {c n k w : ℕ} {u : Source} {b : Bool} → InstantiateSource g c u n → At u.attributes k (record { word = w; what = Structure.mandatory b }) → get_or f (392 + n) 0 ≡ answer b
  mandatory {c} {n = n} {w = v} {b = b} (attribute_3 {k = m} i q e) h =
      let r = in_source_of reads {x = record { word = v; what = Structure.mandatory b }} (defined i) q h in
      let z = numbered c m e in
      let a = r.2 in
      let w = written (λ k. plan_f s k Writes.mandatory n) (λ k. eqb (s.kind k) “mandatory”) (λ k. sources_before s k - 1) (λ k. s.flag k) n refl (λ k. write_mandatory s n k) s.count
      (below reads r.1) (eq-eqb (s.kind r.0) “mandatory” (reads.kind r.1)) (omega arith) in
      let y = mandatory_of w.k w.below w.of w.there in
      let t = same_truth (adds_once lawful (source_8 y.5 y.6) (source_8 (attribute_3 i q e) h)) in
      held.cells Writes.mandatory n (room (attribute_3 i q e)) ∙ w.cell ∙ y.7 ∙ ap answer t

  no_mandatory : {c n : ℕ} {u : Source} → InstantiateSource g c u n → ((k w : ℕ) (b : Bool) → ¬ At u.attributes k (record { word = w; what = Structure.mandatory b })) → get_or f (392 + n) 0 ≡ 0
  no_mandatory {n = n} h m =
      held.cells Writes.mandatory n (room h)
      ∙ unwritten (λ k. plan_f s k Writes.mandatory n) (λ k. eqb (s.kind k) “mandatory”) (λ k. sources_before s k - 1) (λ k. s.flag k) n refl (λ k. write_mandatory s n k) s.count
      (λ k l e z. let y = mandatory_of k l e z in
      m y.2 y.3 y.4 (subst (λ (a : Source). At a.attributes y.2 (record { word = y.3; what = Structure.mandatory y.4 })) (same_source y.5 h) y.6))

  pub sources_told : SourcesTold g f
  sources_told = record { first = first; count = count; item = item; mandatory = mandatory; no_mandatory = no_mandatory }
