-- The rows of a guideline amount to what its parts do. By recursion over the structure.
use Rattle.std.specs.Prelude.{ℕ, suc, ◌+◌, ◌<◌, ◌≡◌, refl, true, false, cond, List, [], ◌∷◌, ◌++◌, map, eqb, length}
use Rattle.std.proofs.Common.{sym, ap, subst, ◌∙◌, ⊎_elim, arith, length-append}
use Rattle.std.proofs.Math.Option.{Option, none, some}
use Rattle.paper_expressions.proofs.Laws.Tests.{two}
use Rattle.paper_expressions.specs.Limits.{list_limit}
use Rattle.paper_expressions.specs.View.{At, at_first, at_later}
use Rattle.paper_tokens.specs.Tokens
use Tokens.{“plan”, “action”, “enquiry”, “data”, “=”, “caption”, “description”, “precondition”, “wait-condition”, “postcondition”, “trigger”, “terminate”, “component”, “source”, “schedule-constraint”, “terminal”, “mandatory”}
use Rattle.paper_guideline.specs.Structure
use Structure.{Outermost, Placed, Assignment, ComponentAttribute, schedule_constraint, terminal, Generic, caption, description, SourceAttribute, source_generic, mandatory}
use Structure.{Attribute, generic, precondition, wait_condition, terminate, postcondition, trigger, component, source, Class, plan, action, enquiry, class_word, TopLevel, task, data_item, tasks, data_items}
use Rattle.paper_guideline.specs.Limits.{part_limit, depth_limit, parts, depth, longest_list}
use Rattle.paper_guideline.specs.Refusals.{Read, Breach, limit_stage, total_parts, too_deep, long_list, many_parts}
use Rattle.paper_guideline.specs.Parts.{assigned_to, Typed, each, typed, of_generic, of_source, of_attribute, expressions, expressions_from, assigned_in, assignments, source_in, Source, sources}
use Rattle.guideline_rows.specs.Rows
use Rows.{Row, kind-of, expression_of, an_assignment, generic_row, component_row, source_row, placed_rows, attribute_rows, attributes_rows, flatten}
use Rattle.guideline_rows.specs.Tally.{of_kind, with, row_expressions, parts_in, Large, LargeAt, here, later}

-- ---- rows of a kind

kind_append : (k : ℕ) (a b : List Row) → of_kind k (a ++ b) ≡ of_kind k a + of_kind k b
kind_append k [] b = omega arith
kind_append k (r ∷ a) b =
    let e = kind_append k a b in
    ⊎_elim (λ (h : eqb (kind-of r) k ≡ true). rw h (omega arith)) (λ (h : eqb (kind-of r) k ≡ false). rw h (omega arith)) (two (eqb (kind-of r) k))

-- no row for a placed thing is of the kind
placed_none : {A : Type 0} (k : ℕ) (row : ℕ → A → Row) → ((p : ℕ) (a : A) → eqb (kind-of (row p a)) k ≡ false) → (xs : List (Placed A)) → of_kind k (placed_rows row xs) ≡ 0
placed_none k row f [] = refl
placed_none k row f (x ∷ xs) = rw (f x.word x.what) (placed_none k row f xs)

-- k is no kind of an attribute's row
record Foreign (k : ℕ) : Type 0 where
  pub caption : eqb “caption” k ≡ false
  pub description : eqb “description” k ≡ false
  pub precondition : eqb “precondition” k ≡ false
  pub wait_condition : eqb “wait-condition” k ≡ false
  pub terminate : eqb “terminate” k ≡ false
  pub postcondition : eqb “postcondition” k ≡ false
  pub assignment : eqb “=” k ≡ false
  pub trigger : eqb “trigger” k ≡ false
  pub component : eqb “component” k ≡ false
  pub constraint : eqb “schedule-constraint” k ≡ false
  pub terminal : eqb “terminal” k ≡ false
  pub source : eqb “source” k ≡ false
  pub mandatory : eqb “mandatory” k ≡ false

generic_foreign : (k : ℕ) → eqb “caption” k ≡ false → eqb “description” k ≡ false → (p : ℕ) (g : Generic) → eqb (kind-of (generic_row p g)) k ≡ false
generic_foreign k a b p (caption x) = a
generic_foreign k a b p (description x) = b

component_foreign : (k : ℕ) → eqb “schedule-constraint” k ≡ false → eqb “terminal” k ≡ false → (p : ℕ) (g : ComponentAttribute) → eqb (kind-of (component_row p g)) k ≡ false
component_foreign k a b p (schedule_constraint n) = a
component_foreign k a b p (terminal x) = b

source_foreign : (k : ℕ) → eqb “caption” k ≡ false → eqb “description” k ≡ false → eqb “mandatory” k ≡ false → (p : ℕ) (g : SourceAttribute) → eqb (kind-of (source_row p g)) k ≡ false
source_foreign k a b c p (source_generic g) = generic_foreign k a b p g
source_foreign k a b c p (mandatory x) = c

module _ (k : ℕ) (n : Foreign k) where
  assigned_none : (xs : List Assignment) → of_kind k (map an_assignment xs) ≡ 0
  assigned_none [] = refl
  assigned_none (x ∷ xs) = rw n.assignment (assigned_none xs)

  attribute_none : (p : ℕ) (a : Attribute) → of_kind k (attribute_rows p a) ≡ 0
  attribute_none p (generic g) = rw (generic_foreign k n.caption n.description p g)
  attribute_none p (precondition x) = rw n.precondition
  attribute_none p (wait_condition x) = rw n.wait_condition
  attribute_none p (terminate x) = rw n.terminate
  attribute_none p (postcondition xs) = rw n.postcondition (assigned_none xs)
  attribute_none p (trigger m) = rw n.trigger
  attribute_none p (component m xs) = rw n.component (placed_none k component_row (component_foreign k n.constraint n.terminal) xs)
  attribute_none p (source m xs) = rw n.source (placed_none k source_row (source_foreign k n.caption n.description n.mandatory) xs)

  attributes_none : (xs : List (Placed Attribute)) → of_kind k (attributes_rows xs) ≡ 0
  attributes_none [] = refl
  attributes_none (x ∷ xs) =
      let a = kind_append k (attribute_rows x.word x.what) (attributes_rows xs) in
      let b = attribute_none x.word x.what in
      let c = attributes_none xs in
      omega arith

foreign_plan : Foreign “plan”
foreign_plan = record { caption = refl; description = refl; precondition = refl; wait_condition = refl; terminate = refl; postcondition = refl; assignment = refl; trigger = refl; component = refl; constraint = refl; terminal = refl; source = refl; mandatory = refl }

foreign_action : Foreign “action”
foreign_action = record { caption = refl; description = refl; precondition = refl; wait_condition = refl; terminate = refl; postcondition = refl; assignment = refl; trigger = refl; component = refl; constraint = refl; terminal = refl; source = refl; mandatory = refl }

foreign_enquiry : Foreign “enquiry”
foreign_enquiry = record { caption = refl; description = refl; precondition = refl; wait_condition = refl; terminate = refl; postcondition = refl; assignment = refl; trigger = refl; component = refl; constraint = refl; terminal = refl; source = refl; mandatory = refl }

foreign_data : Foreign “data”
foreign_data = record { caption = refl; description = refl; precondition = refl; wait_condition = refl; terminate = refl; postcondition = refl; assignment = refl; trigger = refl; component = refl; constraint = refl; terminal = refl; source = refl; mandatory = refl }

-- a data item has captions and descriptions only
item_none : (k : ℕ) → eqb “caption” k ≡ false → eqb “description” k ≡ false → (xs : List (Placed Generic)) (rows : List Row) → of_kind k (placed_rows generic_row xs ++ rows) ≡ of_kind k rows
item_none k a b xs rows = kind_append k (placed_rows generic_row xs) rows ∙ (let e = placed_none k generic_row (generic_foreign k a b) xs in omega arith)

task_none : (k : ℕ) → Foreign k → (xs : List (Placed Attribute)) (rows : List Row) → of_kind k (attributes_rows xs ++ rows) ≡ of_kind k rows
task_none k n xs rows = kind_append k (attributes_rows xs) rows ∙ (let e = attributes_none k n xs in omega arith)

-- a task is of one class
one_class : (k : Class) (a b c : ℕ)
    → cond (eqb (class_word k) “plan”) (suc a) a + cond (eqb (class_word k) “action”) (suc b) b + cond (eqb (class_word k) “enquiry”) (suc c) c ≡ suc (a + b + c)
one_class plan a b c = omega arith
one_class action a b c = omega arith
one_class enquiry a b c = omega arith

pub tasks_law : (g : List TopLevel) → of_kind “plan” (flatten g) + of_kind “action” (flatten g) + of_kind “enquiry” (flatten g) ≡ length (tasks g)
tasks_law [] = refl
tasks_law (task t ∷ g) =
    let i = tasks_law g in
    let l = attributes_rows t.attributes ++ flatten g in
    let o = one_class t.class (of_kind “plan” l) (of_kind “action” l) (of_kind “enquiry” l) in
    let a = task_none “plan” foreign_plan t.attributes (flatten g) in
    let b = task_none “action” foreign_action t.attributes (flatten g) in
    let c = task_none “enquiry” foreign_enquiry t.attributes (flatten g) in
    omega arith
tasks_law (data_item d ∷ g) =
    let i = tasks_law g in
    let a = item_none “plan” refl refl d.attributes (flatten g) in
    let b = item_none “action” refl refl d.attributes (flatten g) in
    let c = item_none “enquiry” refl refl d.attributes (flatten g) in
    omega arith

not_data : (k : Class) → eqb (class_word k) “data” ≡ false
not_data plan = refl
not_data action = refl
not_data enquiry = refl

pub data_items_law : (g : List TopLevel) → of_kind “data” (flatten g) ≡ length (data_items g)
data_items_law [] = refl
data_items_law (task t ∷ g) = rw (not_data t.class) (task_none “data” foreign_data t.attributes (flatten g) ∙ data_items_law g)
data_items_law (data_item d ∷ g) = ap suc (item_none “data” refl refl d.attributes (flatten g) ∙ data_items_law g)

-- ---- assignments

assigned_rows : (xs : List Assignment) → of_kind “=” (map an_assignment xs) ≡ length xs
assigned_rows [] = refl
assigned_rows (x ∷ xs) = ap suc (assigned_rows xs)

attribute_assigned : (p : ℕ) (a : Attribute) → of_kind “=” (attribute_rows p a) ≡ length (assigned_in a)
attribute_assigned p (generic g) = rw (generic_foreign “=” refl refl p g)
attribute_assigned p (precondition x) = refl
attribute_assigned p (wait_condition x) = refl
attribute_assigned p (terminate x) = refl
attribute_assigned p (postcondition xs) = assigned_rows xs
attribute_assigned p (trigger m) = refl
attribute_assigned p (component m xs) = placed_none “=” component_row (component_foreign “=” refl refl) xs
attribute_assigned p (source m xs) = placed_none “=” source_row (source_foreign “=” refl refl refl) xs

abbrev assigned_by : List (Placed Attribute) → List Assignment
assigned_by xs = each (λ (a : Placed Attribute). assigned_in a.what) xs

attributes_assigned : (xs : List (Placed Attribute)) → of_kind “=” (attributes_rows xs) ≡ length (assigned_by xs)
attributes_assigned [] = refl
attributes_assigned (x ∷ xs) =
    let a = kind_append “=” (attribute_rows x.word x.what) (attributes_rows xs) in
    let b = attribute_assigned x.word x.what in
    let c = attributes_assigned xs in
    let d = length-append (assigned_in x.what) (assigned_by xs) in
    omega arith

not_assigned : (k : Class) → eqb (class_word k) “=” ≡ false
not_assigned plan = refl
not_assigned action = refl
not_assigned enquiry = refl

pub assignments_law : (g : List TopLevel) → of_kind “=” (flatten g) ≡ length (assignments g)
assignments_law [] = refl
assignments_law (task t ∷ g) =
    let i = assignments_law g in
    let a = kind_append “=” (attributes_rows t.attributes) (flatten g) in
    let b = attributes_assigned t.attributes in
    let d = length-append (assigned_by t.attributes) (assignments g) in
    rw (not_assigned t.class) (omega arith)
assignments_law (data_item d ∷ g) = item_none “=” refl refl d.attributes (flatten g) ∙ assignments_law g

-- ---- sources

attribute_sources : (p : ℕ) (a : Attribute) → of_kind “source” (attribute_rows p a) ≡ length (source_in a)
attribute_sources p (generic g) = rw (generic_foreign “source” refl refl p g)
attribute_sources p (precondition x) = refl
attribute_sources p (wait_condition x) = refl
attribute_sources p (terminate x) = refl
attribute_sources p (postcondition xs) = no_source xs where
  no_source : (xs : List Assignment) → of_kind “source” (map an_assignment xs) ≡ 0
  no_source [] = refl
  no_source (x ∷ xs) = no_source xs
attribute_sources p (trigger m) = refl
attribute_sources p (component m xs) = placed_none “source” component_row (component_foreign “source” refl refl) xs
attribute_sources p (source m xs) = ap suc (placed_none “source” source_row (source_foreign “source” refl refl refl) xs)

abbrev sources_by : List (Placed Attribute) → List Source
sources_by xs = each (λ (a : Placed Attribute). source_in a.what) xs

attributes_sources : (xs : List (Placed Attribute)) → of_kind “source” (attributes_rows xs) ≡ length (sources_by xs)
attributes_sources [] = refl
attributes_sources (x ∷ xs) =
    let a = kind_append “source” (attribute_rows x.word x.what) (attributes_rows xs) in
    let b = attribute_sources x.word x.what in
    let c = attributes_sources xs in
    let d = length-append (source_in x.what) (sources_by xs) in
    omega arith

not_source : (k : Class) → eqb (class_word k) “source” ≡ false
not_source plan = refl
not_source action = refl
not_source enquiry = refl

pub sources_law : (g : List TopLevel) → of_kind “source” (flatten g) ≡ length (sources g)
sources_law [] = refl
sources_law (task t ∷ g) =
    let i = sources_law g in
    let a = kind_append “source” (attributes_rows t.attributes) (flatten g) in
    let b = attributes_sources t.attributes in
    let d = length-append (sources_by t.attributes) (sources g) in
    rw (not_source t.class) (omega arith)
sources_law (data_item d ∷ g) = item_none “source” refl refl d.attributes (flatten g) ∙ sources_law g

-- ---- expressions

abbrev outer : List Typed → List Outermost
outer [] = []
outer (x ∷ l) = x.expression ∷ outer l

outer_append : (a b : List Typed) → outer (a ++ b) ≡ outer a ++ outer b
outer_append [] b = refl
outer_append (x ∷ a) b = ap (λ (l : List Outermost). x.expression ∷ l) (outer_append a b)

rows_append : (a b : List Row) → row_expressions (a ++ b) ≡ row_expressions a ++ row_expressions b
rows_append [] b = refl
rows_append (r ∷ a) b = ap (with (expression_of r)) (rows_append a b) ∙ with_append (expression_of r) (row_expressions a) (row_expressions b) where
  with_append : (o : Option Outermost) (x y : List Outermost) → with o (x ++ y) ≡ with o x ++ y
  with_append none x y = refl
  with_append (some z) x y = refl

generic_outer : (t p : ℕ) (g : Generic) (l : List Typed) → outer (of_generic t g ++ l) ≡ with (expression_of (generic_row p g)) (outer l)
generic_outer t p (caption x) l = refl
generic_outer t p (description x) l = refl

generics_outer : (t : ℕ) (xs : List (Placed Generic)) → outer (each (λ (a : Placed Generic). of_generic t a.what) xs) ≡ row_expressions (placed_rows generic_row xs)
generics_outer t [] = refl
generics_outer t (x ∷ xs) = generic_outer t x.word x.what (each (λ (a : Placed Generic). of_generic t a.what) xs) ∙ ap (with (expression_of (generic_row x.word x.what))) (generics_outer t xs)

source_outer : (t p : ℕ) (a : SourceAttribute) (l : List Typed) → outer (of_source t a ++ l) ≡ with (expression_of (source_row p a)) (outer l)
source_outer t p (source_generic g) l = generic_outer t p g l
source_outer t p (mandatory b) l = refl

sources_outer : (t : ℕ) (xs : List (Placed SourceAttribute)) → outer (each (λ (a : Placed SourceAttribute). of_source t a.what) xs) ≡ row_expressions (placed_rows source_row xs)
sources_outer t [] = refl
sources_outer t (x ∷ xs) = source_outer t x.word x.what (each (λ (a : Placed SourceAttribute). of_source t a.what) xs) ∙ ap (with (expression_of (source_row x.word x.what))) (sources_outer t xs)

assigned_outer : (t : ℕ) (xs : List Assignment) → outer (each (λ (a : Assignment). typed t (assigned_to a.target) a.value) xs) ≡ row_expressions (map an_assignment xs)
assigned_outer t [] = refl
assigned_outer t (x ∷ xs) = ap (λ (l : List Outermost). x.value ∷ l) (assigned_outer t xs)

component_outer : (p : ℕ) (a : ComponentAttribute) (l : List Outermost) → l ≡ with (expression_of (component_row p a)) l
component_outer p (schedule_constraint n) l = refl
component_outer p (terminal b) l = refl

components_outer : (xs : List (Placed ComponentAttribute)) → [] ≡ row_expressions (placed_rows component_row xs)
components_outer [] = refl
components_outer (x ∷ xs) = components_outer xs ∙ component_outer x.word x.what (row_expressions (placed_rows component_row xs))

attribute_outer : (t p : ℕ) (a : Attribute) → outer (of_attribute t a) ≡ row_expressions (attribute_rows p a)
attribute_outer t p (generic (caption x)) = refl
attribute_outer t p (generic (description x)) = refl
attribute_outer t p (precondition x) = refl
attribute_outer t p (wait_condition x) = refl
attribute_outer t p (terminate x) = refl
attribute_outer t p (postcondition xs) = assigned_outer t xs
attribute_outer t p (trigger n) = refl
attribute_outer t p (component n xs) = components_outer xs
attribute_outer t p (source n xs) = sources_outer t xs

attributes_outer : (t : ℕ) (xs : List (Placed Attribute)) → outer (each (λ (a : Placed Attribute). of_attribute t a.what) xs) ≡ row_expressions (attributes_rows xs)
attributes_outer t [] = refl
attributes_outer t (x ∷ xs) =
    outer_append (of_attribute t x.what) (each (λ (a : Placed Attribute). of_attribute t a.what) xs)
    ∙ ap (λ (l : List Outermost). l ++ outer (each (λ (a : Placed Attribute). of_attribute t a.what) xs)) (attribute_outer t x.word x.what)
    ∙ ap (λ (l : List Outermost). row_expressions (attribute_rows x.word x.what) ++ l) (attributes_outer t xs)
    ∙ sym (rows_append (attribute_rows x.word x.what) (attributes_rows xs))

-- two lists, one behind the other
joined : (a : List Typed) (b : List Typed) (u v : List Row) → outer a ≡ row_expressions u → outer b ≡ row_expressions v → outer (a ++ b) ≡ row_expressions (u ++ v)
joined a b u v e f = outer_append a b ∙ ap (λ (l : List Outermost). l ++ outer b) e ∙ ap (λ (l : List Outermost). row_expressions u ++ l) f ∙ sym (rows_append u v)

expressions_law : (t : ℕ) (g : List TopLevel) → outer (expressions_from t g) ≡ row_expressions (flatten g)
expressions_law t [] = refl
expressions_law t (task k ∷ g) = joined (each (λ (a : Placed Attribute). of_attribute t a.what) k.attributes) (expressions_from (suc t) g) (attributes_rows k.attributes) (flatten g) (attributes_outer t k.attributes) (expressions_law (suc t) g)
expressions_law t (data_item d ∷ g) = joined (each (λ (a : Placed Generic). of_generic 0 a.what) d.attributes) (expressions_from t g) (placed_rows generic_row d.attributes) (flatten g) (generics_outer 0 d.attributes) (expressions_law t g)

-- ---- their measures

outer_parts : (l : List Typed) → total_parts l ≡ parts_in (outer l)
outer_parts [] = refl
outer_parts (x ∷ l) = ap (λ (n : ℕ). parts x.expression.tree + n) (outer_parts l)

pub parts_law : (g : List TopLevel) → total_parts (expressions g) ≡ parts_in (row_expressions (flatten g))
parts_law g = outer_parts (expressions g) ∙ ap parts_in (expressions_law 0 g)

-- an expression past a limit, and where it starts
pub record TooLarge (g : List TopLevel) (p : ℕ) : Type 0 where
  pub i : ℕ
  pub x : Typed
  pub at : At (expressions g) i x
  pub large : Large x.expression.tree
  pub start : x.expression.start ≡ p

record LargeIn (l : List Typed) (p : ℕ) : Type 0 where
  pub i : ℕ
  pub x : Typed
  pub at : At l i x
  pub large : Large x.expression.tree
  pub start : x.expression.start ≡ p

large_at : (l : List Typed) {p : ℕ} → LargeAt (outer l) p → LargeIn l p
large_at (x ∷ l) (here h) = record { i = 0; x = x; at = at_first; large = h; start = refl }
large_at (x ∷ l) (later h) = let r = large_at l h in record { i = suc r.i; x = r.x; at = at_later r.at; large = r.large; start = r.start }
large_at [] {p = p} x' = elim x' [ ]

at_large : {l : List Typed} {i : ℕ} {x : Typed} → At l i x → Large x.expression.tree → LargeAt (outer l) x.expression.start
at_large at_first h = here h
at_large (at_later a) h = later (at_large a h)

pub large_law : (g : List TopLevel) {p : ℕ} → LargeAt (row_expressions (flatten g)) p → TooLarge g p
large_law g {p} h =
    let r = large_at (expressions g) (subst (λ (l : List Outermost). LargeAt l p) (sym (expressions_law 0 g)) h) in
    record { i = r.i; x = r.x; at = r.at; large = r.large; start = r.start }

pub large_back : (g : List TopLevel) {i : ℕ} {x : Typed} → At (expressions g) i x → Large x.expression.tree → LargeAt (row_expressions (flatten g)) x.expression.start
large_back g {x = x} a h = subst (λ (l : List Outermost). LargeAt l x.expression.start) (expressions_law 0 g) (at_large a h)

-- the measures break the stage of limits as they should
pub breaks_parts : {Short : Type 0} {text : List ℕ} {g : List TopLevel} → Read text g → part_limit < total_parts (expressions g) → Breach Short text limit_stage (length text)
breaks_parts r h = many_parts r h

pub breaks_large : {Short : Type 0} {text : List ℕ} {g : List TopLevel} {p : ℕ} → Read text g → TooLarge g p → Breach Short text limit_stage p
breaks_large {Short} {text} r h = subst (Breach Short text limit_stage) h.start
    (⊎_elim (λ (e : depth_limit < depth h.x.expression.tree). too_deep r h.at e) (λ (e : list_limit < longest_list h.x.expression.tree). long_list r h.at e) h.large)
