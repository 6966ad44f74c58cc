-- Where each task and data item stands among the rows, and what the rows before it count: tasks, data items, sources, assignments. By induction on the guideline.
use Rattle.std.specs.Prelude.{ℕ, suc, ◌+◌, ◌≡◌, refl, Bool, true, false, ◌⊎◌, List, [], ◌∷◌, ◌++◌, map, eqb, length}
use Rattle.std.proofs.Common.{arith, sym, ap, subst, ◌∙◌, inl, inr, eqb-true}
use Rattle.paper_expressions.specs.View.{At, at_first, at_later}
use Rattle.paper_expressions.proofs.Laws.Tests.{contra, two}
use Rattle.paper_tokens.specs.Tokens.{“plan”, “action”, “enquiry”, “data”, “=”, “source”}
use Rattle.paper_guideline.specs.Structure
use Structure.{Placed, Assignment, Attribute, Class, class_word, Task, DataItem, TopLevel, task, data_item, tasks, data_items}
use Rattle.paper_guideline.specs.Parts.{Source, sources_of}
use Rattle.paper_guideline.specs.Parts.{assigned_in, assignments_of, source_in}
use Rattle.paper_rows.proofs.Laws.Lists.{before}
use Rattle.guideline_rows.specs.Rows
use Rows.{Row, generic_row, component_row, source_row, placed_rows, an_assignment, attribute_rows, kind-of}
use Rattle.row_names.specs.Pieces.{each, Piece, piece_first, piece_later}
use Rattle.row_names.specs.Sheet.{task_kind, head_kind}
use Rattle.row_names.specs.Flat
use Flat.{head_row, body, top_rows, own_rows, attributes_each, sub_kind, Sub, generic_sub, component_sub, source_sub, placed_sub, body_inside, task_head, class_task, is_data}
use Rattle.plan.specs.Writes.{one_if, is_source, is_assignment}
use Rattle.plan_rows.specs.Counting.{tally, tally_to, none_tallied, tally_both, tally_behind, tally_each}

-- ---- rows by kind

abbrev pub by_kind : (ℕ → Bool) → Row → Bool
by_kind c r = c (kind-of r)

-- a kind that is no attribute of a component or source
pub sub_not : (w : ℕ) → sub_kind w ≡ false → {r : Row} → Sub r → eqb (kind-of r) w ≡ false
sub_not w e {r} h = go (two (eqb (kind-of r) w))
  where
    go : (eqb (kind-of r) w ≡ true) ⊎ (eqb (kind-of r) w ≡ false) → eqb (kind-of r) w ≡ false
    go (inl q) = contra (sym e ∙ subst (λ (k : ℕ). sub_kind k ≡ true) (eqb-true (kind-of r) w q) h.kind)
    go (inr q) = q

-- no head is there
pub head_not : (w k : ℕ) → head_kind w ≡ true → head_kind k ≡ false → eqb k w ≡ false
head_not w k e h = go (two (eqb k w))
  where
    go : (eqb k w ≡ true) ⊎ (eqb k w ≡ false) → eqb k w ≡ false
    go (inl q) = contra (sym h ∙ subst (λ (z : ℕ). head_kind z ≡ true) (sym (eqb-true k w q)) e)
    go (inr q) = q

-- ---- how many there are in the rows of an attribute

none_placed : {A : Type 0} (f : ℕ → A → Row) → ((p : ℕ) (a : A) → Sub (f p a)) → (w : ℕ) → sub_kind w ≡ false → (xs : List (Placed A)) → tally (by_kind (λ k. eqb k w)) (placed_rows f xs) ≡ 0
none_placed f h w e xs = none_tallied (by_kind (λ k. eqb k w)) (placed_rows f xs) (λ i r q. sub_not w e (placed_sub f h xs q))

assigned_not : (w : ℕ) → eqb “=” w ≡ false → (xs : List Assignment) → tally (by_kind (λ k. eqb k w)) (map an_assignment xs) ≡ 0
assigned_not w e [] = refl
assigned_not w e (x ∷ xs) = let q : one_if (eqb “=” w) ≡ 0 = ap one_if e in let z : one_if (eqb “=” w) + tally (by_kind (λ k. eqb k w)) (map an_assignment xs) ≡ 0 = omega (arith, assigned_not w e xs) in z

assigned_all : (xs : List Assignment) → tally (by_kind is_assignment) (map an_assignment xs) ≡ length xs
assigned_all [] = refl
assigned_all (x ∷ xs) = let z : 1 + tally (by_kind is_assignment) (map an_assignment xs) ≡ suc (length xs) = omega (arith, assigned_all xs) in z

pub own_sources : (b : Placed Attribute) → tally (by_kind is_source) (own_rows b) ≡ length (source_in b.what)
own_sources b = go b.what
  where
    go : (a : Attribute) → tally (by_kind is_source) (attribute_rows b.word a) ≡ length (source_in a)
    go (Structure.generic (Structure.caption x)) = refl
    go (Structure.generic (Structure.description x)) = refl
    go (Structure.precondition x) = refl
    go (Structure.wait_condition x) = refl
    go (Structure.terminate x) = refl
    go (Structure.postcondition xs) = let z : 0 + tally (by_kind is_source) (map an_assignment xs) ≡ 0 = omega (arith, assigned_not “source” refl xs) in z
    go (Structure.trigger n) = refl
    go (Structure.component n xs) = let z : 0 + tally (by_kind is_source) (placed_rows component_row xs) ≡ 0 = omega (arith, none_placed component_row component_sub “source” refl xs) in z
    go (Structure.source n xs) = let z : 1 + tally (by_kind is_source) (placed_rows source_row xs) ≡ 1 = omega (arith, none_placed source_row source_sub “source” refl xs) in z

pub own_assigned : (b : Placed Attribute) → tally (by_kind is_assignment) (own_rows b) ≡ length (assigned_in b.what)
own_assigned b = go b.what
  where
    go : (a : Attribute) → tally (by_kind is_assignment) (attribute_rows b.word a) ≡ length (assigned_in a)
    go (Structure.generic (Structure.caption x)) = refl
    go (Structure.generic (Structure.description x)) = refl
    go (Structure.precondition x) = refl
    go (Structure.wait_condition x) = refl
    go (Structure.terminate x) = refl
    go (Structure.postcondition xs) = let z : 0 + tally (by_kind is_assignment) (map an_assignment xs) ≡ length xs = omega (arith, assigned_all xs) in z
    go (Structure.trigger n) = refl
    go (Structure.component n xs) = let z : 0 + tally (by_kind is_assignment) (placed_rows component_row xs) ≡ 0 = omega (arith, none_placed component_row component_sub “=” refl xs) in z
    go (Structure.source n xs) = let z : 0 + tally (by_kind is_assignment) (placed_rows source_row xs) ≡ 0 = omega (arith, none_placed source_row source_sub “=” refl xs) in z

-- ---- in the rows of a task or a data item

abbrev pub of_source : Placed Attribute → List Source
of_source b = source_in b.what

abbrev pub of_assigned : Placed Attribute → List Assignment
of_assigned b = assigned_in b.what

class_not : (w : ℕ) → eqb “plan” w ≡ false → eqb “action” w ≡ false → eqb “enquiry” w ≡ false → (k : Class) → eqb (class_word k) w ≡ false
class_not w a b c Structure.plan = a
class_not w a b c Structure.action = b
class_not w a b c Structure.enquiry = c

pub no_task_in : (x : TopLevel) (i : ℕ) (r : Row) → At (body x) i r → task_kind (kind-of r) ≡ false
no_task_in x i r h = task_head (kind-of r) (body_inside x h).plain

pub no_item_in : (x : TopLevel) (i : ℕ) (r : Row) → At (body x) i r → is_data (kind-of r) ≡ false
no_item_in x i r h = head_not “data” (kind-of r) refl (body_inside x h).plain

head_counts : (c : ℕ → Bool) (x : TopLevel) {b : Bool} {n m : ℕ} → c (kind-of (head_row x)) ≡ b → tally (by_kind c) (body x) ≡ n → one_if b + n ≡ m → tally (by_kind c) (top_rows x) ≡ m
head_counts c x e f h = let q = ap one_if e in omega arith

top_tasks : (t : Task) → tally (by_kind task_kind) (top_rows (task t)) ≡ 1
top_tasks t = head_counts task_kind (task t) (class_task t.class) (none_tallied (by_kind task_kind) (body (task t)) (no_task_in (task t))) refl

top_sources : (t : Task) → tally (by_kind is_source) (top_rows (task t)) ≡ length (sources_of t)
top_sources t =
    head_counts is_source (task t) (class_not “source” refl refl refl t.class)
    (ap (tally (by_kind is_source)) (attributes_each t.attributes) ∙ tally_each (by_kind is_source) own_rows of_source own_sources t.attributes) (omega arith)

top_assigned : (t : Task) → tally (by_kind is_assignment) (top_rows (task t)) ≡ length (assignments_of t)
top_assigned t =
    head_counts is_assignment (task t) (class_not “=” refl refl refl t.class)
    (ap (tally (by_kind is_assignment)) (attributes_each t.attributes) ∙ tally_each (by_kind is_assignment) own_rows of_assigned own_assigned t.attributes) (omega arith)

top_no_items : (t : Task) → tally (by_kind is_data) (top_rows (task t)) ≡ 0
top_no_items t = head_counts is_data (task t) (class_not “data” refl refl refl t.class) (none_tallied (by_kind is_data) (body (task t)) (no_item_in (task t))) refl

item_tasks : (d : DataItem) → tally (by_kind task_kind) (top_rows (data_item d)) ≡ 0
item_tasks d = head_counts task_kind (data_item d) refl (none_tallied (by_kind task_kind) (body (data_item d)) (no_task_in (data_item d))) refl

item_items : (d : DataItem) → tally (by_kind is_data) (top_rows (data_item d)) ≡ 1
item_items d = head_counts is_data (data_item d) refl (none_tallied (by_kind is_data) (body (data_item d)) (no_item_in (data_item d))) refl

item_sources : (d : DataItem) → tally (by_kind is_source) (top_rows (data_item d)) ≡ 0
item_sources d = head_counts is_source (data_item d) refl (none_placed generic_row generic_sub “source” refl d.attributes) refl

item_assigned : (d : DataItem) → tally (by_kind is_assignment) (top_rows (data_item d)) ≡ 0
item_assigned d = head_counts is_assignment (data_item d) refl (none_placed generic_row generic_sub “=” refl d.attributes) refl

-- ---- the rows before the rows of a task

abbrev pub count_to : (ℕ → Bool) → List TopLevel → ℕ → ℕ
count_to c g k = tally_to (by_kind c) (each top_rows g) k

-- the task T is the k-th definition, and its rows begin at j
pub record Stands (g : List TopLevel) (k j T : ℕ) (t : Task) : Type 0 where
  pub piece : Piece top_rows g k j (task t)
  pub at : At (tasks g) T t
  pub tasks : count_to task_kind g j ≡ T
  pub sources : count_to is_source g j ≡ before sources_of T (Structure.tasks g)
  pub assignments : count_to is_assignment g j ≡ before assignments_of T (Structure.tasks g)

over : (c : ℕ → Bool) (x : TopLevel) (g : List TopLevel) (j : ℕ) → count_to c (x ∷ g) (length (top_rows x) + j) ≡ tally (by_kind c) (top_rows x) + count_to c g j
over c x g j = tally_behind (by_kind c) (top_rows x) (each top_rows g) j (length (top_rows x) + j) refl

stands_first : (t : Task) (g : List TopLevel) → Stands (task t ∷ g) 0 0 0 t
stands_first t g = record { piece = piece_first; at = at_first; tasks = refl; sources = refl; assignments = refl }

stands_task : (u : Task) {g : List TopLevel} {k j T : ℕ} {t : Task} → Stands g k j T t → Stands (task u ∷ g) (suc k) (length (top_rows (task u)) + j) (suc T) t
stands_task u {g} {k} {j} {T} h = record {
  piece = piece_later h.piece;
  at = at_later h.at;
  tasks = (let a = over task_kind (task u) g j in let b = top_tasks u in let c = h.tasks in omega arith);
  sources = (let a = over is_source (task u) g j in let b = top_sources u in let c = h.sources in let z : count_to is_source (task u ∷ g) (length (top_rows (task u)) + j) ≡ length (sources_of u) + before sources_of T (Structure.tasks g) = omega arith in z);
  assignments = (let a = over is_assignment (task u) g j in let b = top_assigned u in let c = h.assignments in
      let z : count_to is_assignment (task u ∷ g) (length (top_rows (task u)) + j) ≡ length (assignments_of u) + before assignments_of T (Structure.tasks g) = omega arith in z);
}

stands_item : (d : DataItem) {g : List TopLevel} {k j T : ℕ} {t : Task} → Stands g k j T t → Stands (data_item d ∷ g) (suc k) (length (top_rows (data_item d)) + j) T t
stands_item d {g} {k} {j} {T} h = record {
  piece = piece_later h.piece;
  at = h.at;
  tasks = (let a = over task_kind (data_item d) g j in let b = item_tasks d in let c = h.tasks in omega arith);
  sources = (let a = over is_source (data_item d) g j in let b = item_sources d in let c = h.sources in omega arith);
  assignments = (let a = over is_assignment (data_item d) g j in let b = item_assigned d in let c = h.assignments in omega arith);
}

-- every task stands somewhere
pub stands_of : (g : List TopLevel) {T : ℕ} {t : Task} → At (tasks g) T t → (k : ℕ) × (j : ℕ) × Stands g k j T t
stands_of [] h = elim h [ ]
stands_of (task u ∷ g) h = next u g h (λ m q. stands_of g q)
  where
    next : (u : Task) (g : List TopLevel) {T : ℕ} {t : Task} → At (u ∷ tasks g) T t → ((m : ℕ) → At (tasks g) m t → (k : ℕ) × (j : ℕ) × Stands g k j m t) → (k : ℕ) × (j : ℕ) × Stands (task u ∷ g) k j T t
    next u g at_first f = (0, 0, stands_first u g)
    next u g (at_later {i = m} q) f = let r = f m q in (suc r.0, length (top_rows (task u)) + r.1, stands_task u r.2)
stands_of (data_item d ∷ g) h = let r = stands_of g h in (suc r.0, length (top_rows (data_item d)) + r.1, stands_item d r.2)

-- and what stands there is a task
pub stands_at : {g : List TopLevel} {k j : ℕ} {t : Task} → Piece top_rows g k j (task t) → (T : ℕ) × Stands g k j T t
stands_at (piece_first {l = g}) = (0, stands_first _ g)
stands_at (piece_later {b = task u} p) = let r = stands_at p in (suc r.0, stands_task u r.1)
stands_at (piece_later {b = data_item d} p) = let r = stands_at p in (r.0, stands_item d r.1)

-- ---- of a data item

pub record ItemStands (g : List TopLevel) (k j i : ℕ) (d : DataItem) : Type 0 where
  pub piece : Piece top_rows g k j (data_item d)
  pub at : At (data_items g) i d
  pub items : count_to is_data g j ≡ i

item_first : (d : DataItem) (g : List TopLevel) → ItemStands (data_item d ∷ g) 0 0 0 d
item_first d g = record { piece = piece_first; at = at_first; items = refl }

item_task : (u : Task) {g : List TopLevel} {k j i : ℕ} {d : DataItem} → ItemStands g k j i d → ItemStands (task u ∷ g) (suc k) (length (top_rows (task u)) + j) i d
item_task u {g} {k} {j} h = record { piece = piece_later h.piece; at = h.at; items = (let a = over is_data (task u) g j in let b = top_no_items u in let c = h.items in omega arith) }

item_item : (e : DataItem) {g : List TopLevel} {k j i : ℕ} {d : DataItem} → ItemStands g k j i d → ItemStands (data_item e ∷ g) (suc k) (length (top_rows (data_item e)) + j) (suc i) d
item_item e {g} {k} {j} h = record { piece = piece_later h.piece; at = at_later h.at; items = (let a = over is_data (data_item e) g j in let b = item_items e in let c = h.items in omega arith) }

pub item_of : (g : List TopLevel) {i : ℕ} {d : DataItem} → At (data_items g) i d → (k : ℕ) × (j : ℕ) × ItemStands g k j i d
item_of [] h = elim h [ ]
item_of (task u ∷ g) h = let r = item_of g h in (suc r.0, length (top_rows (task u)) + r.1, item_task u r.2)
item_of (data_item e ∷ g) h = next e g h (λ m q. item_of g q)
  where
    next : (e : DataItem) (g : List TopLevel) {i : ℕ} {d : DataItem} → At (e ∷ data_items g) i d → ((m : ℕ) → At (data_items g) m d → (k : ℕ) × (j : ℕ) × ItemStands g k j m d) → (k : ℕ) × (j : ℕ) × ItemStands (data_item e ∷ g) k j i d
    next e g at_first f = (0, 0, item_first e g)
    next e g (at_later {i = m} q) f = let r = f m q in (suc r.0, length (top_rows (data_item e)) + r.1, item_item e r.2)

pub item-at : {g : List TopLevel} {k j : ℕ} {d : DataItem} → Piece top_rows g k j (data_item d) → (i : ℕ) × ItemStands g k j i d
item-at (piece_first {l = g}) = (0, item_first _ g)
item-at (piece_later {b = task u} p) = let r = item-at p in (r.0, item_task u r.1)
item-at (piece_later {b = data_item e} p) = let r = item-at p in (suc r.0, item_item e r.1)

-- ---- how many there are in all

pub all_tasks : (g : List TopLevel) → tally (by_kind task_kind) (each top_rows g) ≡ length (tasks g)
all_tasks [] = refl
all_tasks (task t ∷ g) = let a = tally_both (by_kind task_kind) (top_rows (task t)) (each top_rows g) in let b = top_tasks t in let c = all_tasks g in let z : tally (by_kind task_kind) (top_rows (task t) ++ each top_rows g) ≡ suc (length (tasks g)) = omega arith in z
all_tasks (data_item d ∷ g) = let a = tally_both (by_kind task_kind) (top_rows (data_item d)) (each top_rows g) in let b = item_tasks d in let c = all_tasks g in let z : tally (by_kind task_kind) (top_rows (data_item d) ++ each top_rows g) ≡ length (tasks g) = omega arith in z

pub all_items : (g : List TopLevel) → tally (by_kind is_data) (each top_rows g) ≡ length (data_items g)
all_items [] = refl
all_items (task t ∷ g) = let a = tally_both (by_kind is_data) (top_rows (task t)) (each top_rows g) in let b = top_no_items t in let c = all_items g in let z : tally (by_kind is_data) (top_rows (task t) ++ each top_rows g) ≡ length (data_items g) = omega arith in z
all_items (data_item d ∷ g) = let a = tally_both (by_kind is_data) (top_rows (data_item d)) (each top_rows g) in let b = item_items d in let c = all_items g in let z : tally (by_kind is_data) (top_rows (data_item d) ++ each top_rows g) ≡ suc (length (data_items g)) = omega arith in z
