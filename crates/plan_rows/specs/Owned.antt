-- The rows of a task's attributes: where they stand, and what the rows before them count. By the pieces of the rows.
use Rattle.std.specs.Prelude.{ℕ, suc, ◌+◌, ◌-◌, ◌<◌, ◌≡◌, refl, Bool, false, List, length}
use Rattle.std.proofs.Common.{arith, sym, ap, subst}
use Rattle.paper_expressions.specs.View.{At, at_first, at_later}
use Rattle.parts.specs.ItemLaws.{at_index, index_of}
use Rattle.paper_tokens.specs.Tokens.{“component”, “precondition”, “wait-condition”, “terminate”, “trigger”, “source”}
use Rattle.paper_guideline.specs.Structure
use Structure.{Placed, Attribute, Task, TopLevel, task, tasks}
use Rattle.paper_guideline.specs.Parts.{sources_of}
use Rattle.paper_guideline.specs.Parts.{assignments_of}
use Rattle.paper_rows.proofs.Laws.Lists.{before}
use Rattle.guideline_rows.specs.Rows
use Rows.{Row, generic_row, with_expression, with_name, a_postcondition, attribute_rows, attributes_rows, flatten, kind-of}
use Rattle.row_names.specs.Pieces.{Piece, at_piece, in_whole}
use Rattle.row_names.specs.Sheet.{task_kind}
use Rattle.row_names.specs.Flat.{head_row, body, top_rows, own_rows, attributes_each, class_task}
use Rattle.row_names.specs.Agreement.{in_flat}
use Rattle.plan.specs.Writes.{one_if, is_source, is_assignment}
use Rattle.plan_rows.specs.Counting.{tally, tally_to, none_before, in_piece, before_piece}
use Rattle.plan_rows.specs.Stands
use Stands.{by_kind, count_to, Stands, stands_of, of_source, of_assigned, own_sources, own_assigned, no_task_in}

-- the row q is the m-th of the attribute b, which is the l-th of the task T
pub record Owned (g : List TopLevel) (q T : ℕ) (t : Task) (l : ℕ) (b : Placed Attribute) (m : ℕ) (r : Row) : Type 0 where
  pub k : ℕ
  pub j : ℕ
  pub o : ℕ
  pub stands : Stands g k j T t
  pub piece : Piece own_rows t.attributes l o b
  pub at : At (own_rows b) m r
  pub index : q ≡ suc (j + (o + m))

-- the first row of an attribute
abbrev pub first_row : ℕ → Attribute → Row
first_row p (Structure.generic x) = generic_row p x
first_row p (Structure.precondition x) = with_expression “precondition” p x
first_row p (Structure.wait_condition x) = with_expression “wait-condition” p x
first_row p (Structure.terminate x) = with_expression “terminate” p x
first_row p (Structure.postcondition xs) = a_postcondition p
first_row p (Structure.trigger n) = with_name “trigger” p n
first_row p (Structure.component n xs) = with_name “component” p n
first_row p (Structure.source n xs) = with_name “source” p n

pub rows_first : (p : ℕ) (a : Attribute) → At (attribute_rows p a) 0 (first_row p a)
rows_first p (Structure.generic x) = at_first
rows_first p (Structure.precondition x) = at_first
rows_first p (Structure.wait_condition x) = at_first
rows_first p (Structure.terminate x) = at_first
rows_first p (Structure.postcondition xs) = at_first
rows_first p (Structure.trigger n) = at_first
rows_first p (Structure.component n xs) = at_first
rows_first p (Structure.source n xs) = at_first

-- every attribute has its rows
pub owned_of : (g : List TopLevel) {T l m : ℕ} {t : Task} {b : Placed Attribute} {r : Row} → At (tasks g) T t → At t.attributes l b → At (own_rows b) m r → (q : ℕ) × Owned g q T t l b m r
owned_of g {m = m} h i a =
    let s = stands_of g h in
    let p = at_piece own_rows i in
    (suc (s.1 + (p.0 + m)), record { k = s.0; j = s.1; o = p.0; stands = s.2; piece = p.1; at = a; index = refl })

module _ {g : List TopLevel} {q T l m : ℕ} {t : Task} {b : Placed Attribute} {r : Row} (w : Owned g q T t l b m r) where
  pub in_body : At (body (task t)) (w.o + m) r
  in_body = subst (λ (z : List Row). At z (w.o + m) r) (sym (attributes_each t.attributes)) (in_whole w.piece w.at (w.o + m) refl)

  -- it is a row of the guideline
  pub owned_row : At (flatten g) q r
  owned_row = let e = w.index in in_flat {g = g} w.stands.piece (at_later in_body) q (omega arith)

  -- the first row of its attribute, and of its task
  pub first_owned : Owned g (suc (w.j + (w.o + 0))) T t l b 0 (first_row b.word b.what)
  first_owned = record { k = w.k; j = w.j; o = w.o; stands = w.stands; piece = w.piece; at = rows_first b.word b.what; index = refl }

  pub head_owned : At (flatten g) w.j (head_row (task t))
  head_owned = in_flat {g = g} w.stands.piece at_first w.j (omega arith)

  -- between the row of the task and this one no task begins
  pub no_task_between : (i : ℕ) → w.j < i → i < q → (s : Row) × At (flatten g) i s × (task_kind (kind-of s) ≡ false)
  no_task_between i l u =
      let e = w.index in
      let n = index_of in_body in
      let s = at_index (body (task t)) (i - suc w.j) (omega arith) in
      (s.0, in_flat {g = g} w.stands.piece (at_later s.1) i (omega arith), no_task_in (task t) (i - suc w.j) s.0 s.1)

  -- ---- what the rows before it count

  counted_here : (c : ℕ → Bool) → count_to c g q ≡ count_to c g w.j + (one_if (c (Structure.class_word t.class)) + tally_to (by_kind c) (attributes_rows t.attributes) (w.o + m))
  counted_here c =
      let e = w.index in
      let n = index_of in_body in
      in_piece (by_kind c) top_rows w.stands.piece (suc (w.o + m)) (omega arith) q (omega arith)

  pub tasks_here : count_to task_kind g q ≡ suc T
  tasks_here =
      let a = counted_here task_kind in
      let z = none_before (by_kind task_kind) (attributes_rows t.attributes) (w.o + m) (no_task_in (task t)) in
      let h = w.stands.tasks in
      let k = ap one_if (class_task t.class) in
      omega arith

  in_attributes : {C : Type 0} (c : ℕ → Bool) (f : Placed Attribute → List C) → ((x : Placed Attribute) → tally (by_kind c) (own_rows x) ≡ length (f x))
      → tally_to (by_kind c) (attributes_rows t.attributes) (w.o + m) ≡ before f l t.attributes + tally_to (by_kind c) (own_rows b) m
  in_attributes c f e =
      let n = index_of w.at in
      let x = ap (λ (z : List Row). tally_to (by_kind c) z (w.o + m)) (attributes_each t.attributes) in
      let y = in_piece (by_kind c) own_rows w.piece m (omega arith) (w.o + m) refl in
      let z = before_piece (by_kind c) own_rows f e w.piece in
      omega arith

  class_none : (c : ℕ → Bool) → ((k : Structure.Class) → c (Structure.class_word k) ≡ false) → one_if (c (Structure.class_word t.class)) ≡ 0
  class_none c h = ap one_if (h t.class)

  pub sources_here : count_to is_source g q ≡ before sources_of T (tasks g) + (before of_source l t.attributes + tally_to (by_kind is_source) (own_rows b) m)
  sources_here =
      let a = counted_here is_source in
      let i = in_attributes is_source of_source own_sources in
      let h = w.stands.sources in
      let k = class_none is_source none in
      omega arith
    where
      none : (k : Structure.Class) → is_source (Structure.class_word k) ≡ false
      none Structure.plan = refl
      none Structure.action = refl
      none Structure.enquiry = refl

  pub assignments_here : count_to is_assignment g q ≡ before assignments_of T (tasks g) + (before of_assigned l t.attributes + tally_to (by_kind is_assignment) (own_rows b) m)
  assignments_here =
      let a = counted_here is_assignment in
      let i = in_attributes is_assignment of_assigned own_assigned in
      let h = w.stands.assignments in
      let k = class_none is_assignment none in
      omega arith
    where
      none : (k : Structure.Class) → is_assignment (Structure.class_word k) ≡ false
      none Structure.plan = refl
      none Structure.action = refl
      none Structure.enquiry = refl
