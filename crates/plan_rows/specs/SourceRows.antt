-- Rows of sources and of their attributes, and of assignments: from the structure to the row, and back, with their numbers. By what the rows before count.
use Rattle.std.specs.Prelude.{ℕ, zero, suc, ◌+◌, ◌-◌, ◌≤◌, ◌<◌, ◌≡◌, refl, true, false, List, [], ◌∷◌, map, eqb, length}
use Rattle.std.proofs.Common.{arith, sym, ap, subst, ◌∙◌, eqb-true, eq-eqb}
use Rattle.paper_expressions.specs.View.{At, at_first, at_later}
use Rattle.paper_expressions.proofs.Laws.Tests.{contra}
use Rattle.paper_tokens.specs.Tokens.{“=”, “source”, “mandatory”}
use Rattle.paper_guideline.specs.Structure
use Structure.{Name, Placed, Assignment, ComponentAttribute, SourceAttribute, Attribute, Task, TopLevel, tasks}
use Rattle.paper_guideline.specs.Parts.{Source, sources_of}
use Rattle.paper_guideline.specs.Parts.{assigned_in, assignments_of, source_in}
use Rattle.paper_rows.proofs.Laws.Lists.{before}
use Rattle.parts.specs.Part.{Table}
use Rattle.parts.specs.ItemLaws.{index_of}
use Rattle.guideline_rows.specs.Rows
use Rows.{Row, an_assignment, component_row, source_row, placed_rows, attribute_rows, flatten, kind-of, name_of}
use Rattle.row_names.specs.Pieces.{at_piece, piece_at, in_whole, locate, at_map}
use Rattle.row_names.specs.Sheet.{head_kind}
use Rattle.row_names.specs.Flat.{own_rows, placed_at, placed_sub, source_sub}
use Rattle.plan.specs.Writes.{Outline, is_source, is_assignment, tasks_before, sources_before, assignments_before, at_task}
use Rattle.plan_rows.specs.Counting.{tally_to, tally_start, none_before, piece_begins}
use Rattle.plan_rows.specs.Stands.{by_kind, of_source, of_assigned, sub_not}
use Rattle.plan_rows.specs.Owned.{first_row, rows_first, owned_of, owned_row}
use Rattle.plan_rows.specs.Seen.{Inner, component_inner, source_inner, assigned_inner, OfSource, OfAssigned, inner_kind, inner_seen}
use Rattle.plan_rows.specs.Reads.{Reads}
use Rattle.plan_rows.specs.ReadLaws.{row_of, below, tasks_owned, sources_owned, assignments_owned, at_task_sources, at_task_assignments}
use Rattle.plan_rows.specs.Words.{only_source, word_at, word_row}

-- ---- the source of an attribute, by its number in the task

source_of : (t : Task) {l : ℕ} {b : Placed Attribute} {n : Name} {xs : List (Placed SourceAttribute)} → At t.attributes l b → b.what ≡ Structure.source n xs
    → At (sources_of t) (before of_source l t.attributes) (record { named = n; attributes = xs })
source_of t {l} {n = n} {xs} h e =
    let p = at_piece of_source h in
    let q = piece_begins p.1 in
    in_whole p.1 (subst (λ (a : Attribute). At (source_in a) 0 (record { named = n; attributes = xs })) (sym e) at_first) (before of_source l t.attributes) (omega arith)

record HasSource (t : Task) (k : ℕ) (u : Source) : Type 0 where
  pub l : ℕ
  pub b : Placed Attribute
  pub at : At t.attributes l b
  pub is : b.what ≡ Structure.source u.named u.attributes
  pub number : k ≡ before of_source l t.attributes

of_sources : (t : Task) {k : ℕ} {u : Source} → At (sources_of t) k u → HasSource t k u
of_sources t {k} {u} h =
    let f = locate of_source t.attributes k h in
    let o = only f.element.what f.at in
    let i = f.index in
    let q = piece_begins f.piece in
    let z = o.1 in
    record { l = f.k; b = f.element; at = piece_at f.piece; is = o.0; number = omega arith }
  where
    only : (a : Attribute) {m : ℕ} → At (source_in a) m u → (a ≡ Structure.source u.named u.attributes) × (m ≡ 0)
    only (Structure.source n xs) at_first = (refl, refl)
    only (Structure.generic _) {m = m} x'' = elim x'' [ ]
    only (Structure.precondition _) {m = m} x3 = elim x3 [ ]
    only (Structure.wait_condition _) {m = m} x4 = elim x4 [ ]
    only (Structure.terminate _) {m = m} x5 = elim x5 [ ]
    only (Structure.postcondition _) {m = m} x6 = elim x6 [ ]
    only (Structure.trigger _) {m = m} x7 = elim x7 [ ]
    only (Structure.component _ _) {m = m} x9 = elim x9 [ ]
    only (Structure.source n xs) (at_later {i = i} x15) = elim x15 [ ]

-- ---- the assignments of an attribute

assignment_of : (t : Task) {l i : ℕ} {b : Placed Attribute} {xs : List Assignment} {x : Assignment} → At t.attributes l b → b.what ≡ Structure.postcondition xs → At xs i x
    → At (assignments_of t) (before of_assigned l t.attributes + i) x
assignment_of t {l} {i} {x = x} h e k =
    let p = at_piece of_assigned h in
    let q = piece_begins p.1 in
    in_whole p.1 (subst (λ (a : Attribute). At (assigned_in a) i x) (sym e) k) (before of_assigned l t.attributes + i) (omega arith)

record HasAssignment (t : Task) (k : ℕ) (x : Assignment) : Type 0 where
  pub l : ℕ
  pub i : ℕ
  pub b : Placed Attribute
  pub xs : List Assignment
  pub at : At t.attributes l b
  pub is : b.what ≡ Structure.postcondition xs
  pub there : At xs i x
  pub number : k ≡ before of_assigned l t.attributes + i

of_assignments : (t : Task) {k : ℕ} {x : Assignment} → At (assignments_of t) k x → HasAssignment t k x
of_assignments t {k} {x} h =
    let f = locate of_assigned t.attributes k h in
    let o = only f.element.what f.at in
    let i = f.index in
    let q = piece_begins f.piece in
    record { l = f.k; i = f.m; b = f.element; xs = o.0; at = piece_at f.piece; is = o.1; there = o.2; number = omega arith }
  where
    only : (a : Attribute) {m : ℕ} → At (assigned_in a) m x → (xs : List Assignment) × (a ≡ Structure.postcondition xs) × At xs m x
    only (Structure.postcondition xs) k = (xs, refl, k)
    only (Structure.generic _) {m = m} k = elim k [ ]
    only (Structure.precondition _) {m = m} k = elim k [ ]
    only (Structure.wait_condition _) {m = m} k = elim k [ ]
    only (Structure.terminate _) {m = m} k = elim k [ ]
    only (Structure.trigger _) {m = m} k = elim k [ ]
    only (Structure.component _ _) {m = m} k = elim k [ ]
    only (Structure.source _ _) {m = m} k = elim k [ ]

-- how many stand before in the rows of one attribute
no_source_before : {n : Name} {xs : List (Placed SourceAttribute)} (b : Placed Attribute) (i : ℕ) → b.what ≡ Structure.source n xs → tally_to (by_kind is_source) (own_rows b) (suc i) ≡ 1
no_source_before {n} {xs} b i e =
    ap (λ (a : Attribute). tally_to (by_kind is_source) (attribute_rows b.word a) (suc i)) e
    ∙ (let z : 1 + tally_to (by_kind is_source) (placed_rows source_row xs) i ≡ 1 = omega (arith, none_before (by_kind is_source) (placed_rows source_row xs) i (λ j r h. sub_not “source” refl (placed_sub source_row source_sub xs h))) in z)

assigned_before : {xs : List Assignment} (b : Placed Attribute) (i : ℕ) → i ≤ length xs → b.what ≡ Structure.postcondition xs → tally_to (by_kind is_assignment) (own_rows b) (suc i) ≡ i
assigned_before {xs} b i l e =
    ap (λ (a : Attribute). tally_to (by_kind is_assignment) (attribute_rows b.word a) (suc i)) e
    ∙ (let z : 0 + tally_to (by_kind is_assignment) (map an_assignment xs) i ≡ i = omega (arith, go xs i l) in z)
  where
    go : (xs : List Assignment) (i : ℕ) → i ≤ length xs → tally_to (by_kind is_assignment) (map an_assignment xs) i ≡ i
    go [] i l = let z : 0 ≡ i = omega arith in z
    go (x ∷ xs) zero l = refl
    go (x ∷ xs) (suc i) l = let z : 1 + tally_to (by_kind is_assignment) (map an_assignment xs) i ≡ suc i = omega (arith, go xs i (omega arith)) in z

module _ {g : List TopLevel} {s : Outline} {p : Table} (reads : Reads s p g) where
  -- ---- the row of a source

  pub record ASource (q : ℕ) : Type 0 where
    pub T : ℕ
    pub k : ℕ
    pub t : Task
    pub u : Source
    pub at : At (tasks g) T t
    pub of : At (sources_of t) k u
    pub spelt : s.spelt q ≡ u.named.spelt
    pub tasks : tasks_before s q ≡ suc T
    pub number : sources_before s q ≡ before sources_of T (Structure.tasks g) + k
    pub from : at_task s is_source q ≡ before sources_of T (Structure.tasks g)

  pub source_seen : (q : ℕ) → q < s.count → eqb (s.kind q) “source” ≡ true → ASource q
  source_seen q l e =
      let x = (word_at reads “source” q l e refl refl refl).1 in
      let o = only_source x.b.what x.word in
      let a = sources_owned reads x.owned in
      let b = tally_start (by_kind is_source) (own_rows x.b) in
      record {
        T = x.T;
        k = before of_source x.l x.t.attributes;
        t = x.t;
        u = record { named = o.0; attributes = o.1 };
        at = x.owned.stands.at;
        of = source_of x.t (piece_at x.owned.piece) o.2;
        spelt = reads.spelt (word_row reads x) (ap (λ (z : Attribute). name_of (first_row x.b.word z)) o.2);
        tasks = tasks_owned reads x.owned;
        number = omega arith;
        from = at_task_sources reads x.owned;
      }

  pub record SourceRow (T k : ℕ) : Type 0 where
    pub q : ℕ
    pub below : q < s.count
    pub word : eqb (s.kind q) “source” ≡ true
    pub tasks : tasks_before s q ≡ suc T
    pub number : sources_before s q ≡ before sources_of T (Structure.tasks g) + k
    pub from : at_task s is_source q ≡ before sources_of T (Structure.tasks g)

  pub source_row_of : {T k : ℕ} {t : Task} {u : Source} → At (tasks g) T t → At (sources_of t) k u → SourceRow T k
  source_row_of {t = t} h i =
      let f = of_sources t i in
      let o = owned_of g h f.at (rows_first f.b.word f.b.what) in
      let r = owned_row o.1 in
      let a = sources_owned reads o.1 in
      let b = tally_start (by_kind is_source) (own_rows f.b) in
      let c = f.number in
      record {
        q = o.0;
        below = below reads r;
        word = eq-eqb (s.kind o.0) “source” (reads.kind r ∙ ap (λ (z : Attribute). kind-of (first_row f.b.word z)) f.is);
        tasks = tasks_owned reads o.1;
        number = omega arith;
        from = at_task_sources reads o.1;
      }

  -- ---- the row of an attribute of a source

  pub record InSource (q : ℕ) : Type 0 where
    pub T : ℕ
    pub k : ℕ
    pub t : Task
    pub u : Source
    pub at : At (tasks g) T t
    pub of : At (sources_of t) k u
    pub i : ℕ
    pub x : Placed SourceAttribute
    pub there : At u.attributes i x
    pub row : At (flatten g) q (source_row x.word x.what)
    pub number : sources_before s q ≡ suc (before sources_of T (Structure.tasks g) + k)

  of_source_attribute : {q : ℕ} {r : Row} → OfSource g q r → InSource q
  of_source_attribute {q} c =
      let a = sources_owned reads c.owned in
      let b = no_source_before c.b c.i c.is in
      record {
        T = c.T;
        k = before of_source c.l c.t.attributes;
        t = c.t;
        u = record { named = c.n; attributes = c.xs };
        at = c.owned.stands.at;
        of = source_of c.t (piece_at c.owned.piece) c.is;
        i = c.i;
        x = c.x;
        there = c.at;
        row = subst (λ (z : Row). At (flatten g) q z) c.row (owned_row c.owned);
        number = omega arith;
      }

  pub mandatory_seen : (q : ℕ) → q < s.count → eqb (s.kind q) “mandatory” ≡ true → InSource q
  mandatory_seen q l e =
      let r = row_of reads q l in
      let k = sym (reads.kind r.1) ∙ eqb-true (s.kind q) “mandatory” e in
      go k (inner_seen g r.1 (ap inner_kind k) (ap head_kind k))
    where
      component_no : (p : ℕ) (x : ComponentAttribute) → eqb (kind-of (component_row p x)) “mandatory” ≡ false
      component_no p (Structure.schedule_constraint n) = refl
      component_no p (Structure.terminal b) = refl

      go : {r : Row} → kind-of r ≡ “mandatory” → Inner g q r → InSource q
      go k (component_inner x) = contra (sym (component_no x.x.word x.x.what) ∙ ap (λ (z : ℕ). eqb z “mandatory”) (sym (ap kind-of x.row) ∙ k))
      go k (source_inner x) = of_source_attribute x
      go k (assigned_inner x) = contra (ap (λ (z : ℕ). eqb z “mandatory”) (sym (ap kind-of x.row) ∙ k))

  pub in_source_of : {T k i : ℕ} {t : Task} {u : Source} {x : Placed SourceAttribute} → At (tasks g) T t → At (sources_of t) k u → At u.attributes i x
      → (q : ℕ) × At (flatten g) q (source_row x.word x.what) × (sources_before s q ≡ suc (before sources_of T (Structure.tasks g) + k))
  in_source_of {i = i} {t} {u} {x} h j z =
      let f = of_sources t j in
      let r : At (own_rows f.b) (suc i) (source_row x.word x.what) =
      subst (λ (a : Attribute). At (attribute_rows f.b.word a) (suc i) (source_row x.word x.what)) (sym f.is) (at_later (placed_at source_row z)) in
      let o = owned_of g h f.at r in
      let a = sources_owned reads o.1 in
      let b = no_source_before f.b i f.is in
      let c = f.number in
      (o.0, owned_row o.1, omega arith)

  -- ---- the row of an assignment

  pub record AnAssignment (q : ℕ) : Type 0 where
    pub T : ℕ
    pub k : ℕ
    pub t : Task
    pub x : Assignment
    pub at : At (tasks g) T t
    pub of : At (assignments_of t) k x
    pub row : At (flatten g) q (an_assignment x)
    pub tasks : tasks_before s q ≡ suc T
    pub number : assignments_before s q ≡ before assignments_of T (Structure.tasks g) + k
    pub from : at_task s is_assignment q ≡ before assignments_of T (Structure.tasks g)

  of_assignment : {q : ℕ} {r : Row} → OfAssigned g q r → AnAssignment q
  of_assignment {q} c =
      let a = assignments_owned reads c.owned in
      let l = index_of c.at in
      let b = assigned_before c.b c.i (omega arith) c.is in
      record {
        T = c.T;
        k = before of_assigned c.l c.t.attributes + c.i;
        t = c.t;
        x = c.x;
        at = c.owned.stands.at;
        of = assignment_of c.t (piece_at c.owned.piece) c.is c.at;
        row = subst (λ (z : Row). At (flatten g) q z) c.row (owned_row c.owned);
        tasks = tasks_owned reads c.owned;
        number = omega arith;
        from = at_task_assignments reads c.owned;
      }

  pub assignment_seen : (q : ℕ) → q < s.count → eqb (s.kind q) “=” ≡ true → AnAssignment q
  assignment_seen q l e =
      let r = row_of reads q l in
      let k = sym (reads.kind r.1) ∙ eqb-true (s.kind q) “=” e in
      go k (inner_seen g r.1 (ap inner_kind k) (ap head_kind k))
    where
      component_no : (p : ℕ) (x : ComponentAttribute) → eqb (kind-of (component_row p x)) “=” ≡ false
      component_no p (Structure.schedule_constraint n) = refl
      component_no p (Structure.terminal b) = refl

      source_no : (p : ℕ) (x : SourceAttribute) → eqb (kind-of (source_row p x)) “=” ≡ false
      source_no p (Structure.source_generic (Structure.caption x)) = refl
      source_no p (Structure.source_generic (Structure.description x)) = refl
      source_no p (Structure.mandatory b) = refl

      go : {r : Row} → kind-of r ≡ “=” → Inner g q r → AnAssignment q
      go k (component_inner x) = contra (sym (component_no x.x.word x.x.what) ∙ ap (λ (z : ℕ). eqb z “=”) (sym (ap kind-of x.row) ∙ k))
      go k (source_inner x) = contra (sym (source_no x.x.word x.x.what) ∙ ap (λ (z : ℕ). eqb z “=”) (sym (ap kind-of x.row) ∙ k))
      go k (assigned_inner x) = of_assignment x

  pub record AssignmentRow (T k : ℕ) : Type 0 where
    pub q : ℕ
    pub below : q < s.count
    pub word : eqb (s.kind q) “=” ≡ true
    pub tasks : tasks_before s q ≡ suc T
    pub number : assignments_before s q ≡ before assignments_of T (Structure.tasks g) + k
    pub from : at_task s is_assignment q ≡ before assignments_of T (Structure.tasks g)

  pub assignment_row_of : {T k : ℕ} {t : Task} {x : Assignment} → At (tasks g) T t → At (assignments_of t) k x → AssignmentRow T k
  assignment_row_of {t = t} {x} h i =
      let f = of_assignments t i in
      let r : At (own_rows f.b) (suc f.i) (an_assignment x) =
      subst (λ (a : Attribute). At (attribute_rows f.b.word a) (suc f.i) (an_assignment x)) (sym f.is) (at_later (at_map an_assignment f.there)) in
      let o = owned_of g h f.at r in
      let z = owned_row o.1 in
      let a = assignments_owned reads o.1 in
      let l = index_of f.there in
      let b = assigned_before f.b f.i (omega arith) f.is in
      let c = f.number in
      record {
        q = o.0;
        below = below reads z;
        word = eq-eqb (s.kind o.0) “=” (reads.kind z);
        tasks = tasks_owned reads o.1;
        number = omega arith;
        from = at_task_assignments reads o.1;
      }
