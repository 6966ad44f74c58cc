-- Whose a row is: the rows of one task or data item, of one attribute of a task, of one component or source.
-- By the pieces of the rows; that a row begins a task or data item is told by its kind.
use Rattle.std.specs.Prelude.{ℕ, zero, suc, ◌+◌, ◌-◌, ◌≤◌, ◌<◌, ◌≡◌, refl, Bool, true, false, cond, ◌||◌, not, ◌⊎◌, List, [], ◌∷◌, ◌++◌, map, eqb, length}
use Rattle.std.proofs.Common.{sym, ap, subst, ◌∙◌, inl, inr, ⊎_elim, arith, eqb-true, eq-eqb}
use Rattle.std.proofs.Math.Option.{Option, none, some}
use Rattle.std.proofs.Math.Decide.{dec_lt}
use Rattle.paper_expressions.specs.View.{At, at_first, at_later}
use Rattle.paper_expressions.proofs.Laws.Tests.{contra, two}
use Rattle.paper_expressions.proofs.Laws.Search.{no_clash, at_one}
use Rattle.parts.specs.ItemLaws.{at_index, index_of}
use Rattle.paper_tokens.specs.Tokens
use Tokens.{“data”, “=”, “caption”, “description”, “precondition”, “wait-condition”, “postcondition”, “trigger”, “terminate”, “component”, “source”, “schedule-constraint”, “terminal”, “mandatory”}
use Rattle.paper_guideline.specs.Structure
use Structure.{Name, Placed, Assignment, ComponentAttribute, schedule_constraint, terminal, Generic, caption, description, SourceAttribute, source_generic, mandatory}
use Structure.{Attribute, generic, precondition, wait_condition, terminate, postcondition, trigger, component, source, Task, DataItem, TopLevel, task, data_item, tasks}
use Rattle.paper_guideline.specs.Parts.{Component, components_of, components, Source, sources_of, sources}
use Rattle.guideline_rows.specs.Rows
use Rows.{Row, an_assignment, generic_row, component_row, source_row, placed_rows, attribute_rows, attributes_rows, flatten, kind-of, name_of}
pub use Rattle.paper_guideline.specs.Names.{generic_word, word_of, component_word, source_word}
use Rattle.row_names.specs.Pieces
use Pieces.{Piece, at_piece, piece_at, in_whole, Located, locate, in_order, one_piece, within, Mapped, map_at}
use Rattle.row_names.specs.Sheet
use Sheet.{Sheet, head_kind}
use Rattle.row_names.specs.Flat
use Flat.{head_row, body, top_rows, own_rows, attributes_each, flat_each, PlacedIn, at_placed, body_inside, head_is_head}
use Rattle.row_names.specs.Agreement.{Agrees, top_of, in_flat, row_at, inside_sheet}

pub generic_kind : (p : ℕ) (g : Generic) → kind-of (generic_row p g) ≡ generic_word g
generic_kind p (caption x) = refl
generic_kind p (description x) = refl

pub generic_place : (p : ℕ) (g : Generic) → Rows.word_of (generic_row p g) ≡ p
generic_place p (caption x) = refl
generic_place p (description x) = refl

pub component_kind : (p : ℕ) (a : ComponentAttribute) → kind-of (component_row p a) ≡ component_word a
component_kind p (schedule_constraint n) = refl
component_kind p (terminal b) = refl

pub component_place : (p : ℕ) (a : ComponentAttribute) → Rows.word_of (component_row p a) ≡ p
component_place p (schedule_constraint n) = refl
component_place p (terminal b) = refl

pub source_kind : (p : ℕ) (a : SourceAttribute) → kind-of (source_row p a) ≡ source_word a
source_kind p (source_generic g) = generic_kind p g
source_kind p (mandatory b) = refl

pub source_place : (p : ℕ) (a : SourceAttribute) → Rows.word_of (source_row p a) ≡ p
source_place p (source_generic g) = generic_place p g
source_place p (mandatory b) = refl

-- ---- the rows of one attribute

-- the first, with its word; or one of a component, of a source, of a postcondition
pub data Own (p : ℕ) : Attribute → ℕ → Row → Type 0 where
  the_word : {a : Attribute} {r : Row} → kind-of r ≡ word_of a → Rows.word_of r ≡ p → Own p a zero r
  of_component : {n : Name} {xs : List (Placed ComponentAttribute)} {l : ℕ} {x : Placed ComponentAttribute} {r : Row}
      → At xs l x → r ≡ component_row x.word x.what → Own p (component n xs) (suc l) r
  of_source : {n : Name} {xs : List (Placed SourceAttribute)} {l : ℕ} {x : Placed SourceAttribute} {r : Row}
      → At xs l x → r ≡ source_row x.word x.what → Own p (source n xs) (suc l) r
  of_assigned : {xs : List Assignment} {l : ℕ} {x : Assignment} {r : Row}
      → At xs l x → r ≡ an_assignment x → Own p (postcondition xs) (suc l) r

pub own_view : (p : ℕ) (a : Attribute) {m : ℕ} {r : Row} → At (attribute_rows p a) m r → Own p a m r
own_view p (generic g) at_first = the_word (generic_kind p g) (generic_place p g)
own_view p (precondition x) at_first = the_word refl refl
own_view p (wait_condition x) at_first = the_word refl refl
own_view p (terminate x) at_first = the_word refl refl
own_view p (postcondition xs) at_first = the_word refl refl
own_view p (postcondition xs) (at_later h) = let r = map_at an_assignment xs h in of_assigned r.at r.is
own_view p (trigger n) at_first = the_word refl refl
own_view p (component n xs) at_first = the_word refl refl
own_view p (component n xs) (at_later h) = let r = at_placed component_row xs h in of_component r.at r.is
own_view p (source n xs) at_first = the_word refl refl
own_view p (source n xs) (at_later h) = let r = at_placed source_row xs h in of_source r.at r.is
own_view p (generic g) {r = r} (at_later {i = i} h) = elim h [ ]
own_view p (precondition x) {r = r} (at_later {i = i} h) = elim h [ ]
own_view p (wait_condition x) {r = r} (at_later {i = i} h) = elim h [ ]
own_view p (terminate x) {r = r} (at_later {i = i} h) = elim h [ ]
own_view p (trigger n) {r = r} (at_later {i = i} h) = elim h [ ]

-- the first row is there
pub word_row : (p : ℕ) (a : Attribute) → (r : Row) × At (attribute_rows p a) 0 r × (kind-of r ≡ word_of a) × (Rows.word_of r ≡ p)
word_row p (generic g) = (generic_row p g, at_first, generic_kind p g, generic_place p g)
word_row p (precondition x) = (_, at_first, refl, refl)
word_row p (wait_condition x) = (_, at_first, refl, refl)
word_row p (terminate x) = (_, at_first, refl, refl)
word_row p (postcondition xs) = (_, at_first, refl, refl)
word_row p (trigger n) = (_, at_first, refl, refl)
word_row p (component n xs) = (_, at_first, refl, refl)
word_row p (source n xs) = (_, at_first, refl, refl)

pub own_of : (t : Task) {m : ℕ} {r : Row} → At (attributes_rows t.attributes) m r → Located own_rows t.attributes m r
own_of t {m} {r} h = locate own_rows t.attributes m (subst (λ (l : List Row). At l m r) (attributes_each t.attributes) h)

-- ---- components and sources of a task

abbrev component_in : Attribute → List Component
component_in (generic g) = []
component_in (precondition x) = []
component_in (wait_condition x) = []
component_in (terminate x) = []
component_in (postcondition xs) = []
component_in (trigger n) = []
component_in (component n xs) = record { named = n; attributes = xs } ∷ []
component_in (source n xs) = []

abbrev source_in : Attribute → List Source
source_in (generic g) = []
source_in (precondition x) = []
source_in (wait_condition x) = []
source_in (terminate x) = []
source_in (postcondition xs) = []
source_in (trigger n) = []
source_in (component n xs) = []
source_in (source n xs) = record { named = n; attributes = xs } ∷ []

only_component : (a : Attribute) {m : ℕ} {c : Component} → At (component_in a) m c → a ≡ component c.named c.attributes
only_component (component n xs) at_first = refl
only_component (generic _) {m = m} {c = c} x'' = elim x'' [ ]
only_component (precondition _) {m = m} {c = c} x3 = elim x3 [ ]
only_component (wait_condition _) {m = m} {c = c} x4 = elim x4 [ ]
only_component (terminate _) {m = m} {c = c} x5 = elim x5 [ ]
only_component (postcondition _) {m = m} {c = c} x6 = elim x6 [ ]
only_component (trigger _) {m = m} {c = c} x7 = elim x7 [ ]
only_component (component n xs) {c = c} (at_later {i = i} x14) = elim x14 [ ]
only_component (source _ _) {m = m} {c = c} x10 = elim x10 [ ]

only_source : (a : Attribute) {m : ℕ} {c : Source} → At (source_in a) m c → a ≡ source c.named c.attributes
only_source (source n xs) at_first = refl
only_source (generic _) {m = m} {c = c} x'' = elim x'' [ ]
only_source (precondition _) {m = m} {c = c} x3 = elim x3 [ ]
only_source (wait_condition _) {m = m} {c = c} x4 = elim x4 [ ]
only_source (terminate _) {m = m} {c = c} x5 = elim x5 [ ]
only_source (postcondition _) {m = m} {c = c} x6 = elim x6 [ ]
only_source (trigger _) {m = m} {c = c} x7 = elim x7 [ ]
only_source (component _ _) {m = m} {c = c} x9 = elim x9 [ ]
only_source (source n xs) {c = c} (at_later {i = i} x15) = elim x15 [ ]

-- the attribute that it is, and where its rows begin
pub record In (t : Task) (what : Attribute) : Type 0 where
  pub k : ℕ
  pub o : ℕ
  pub element : Placed Attribute
  pub piece : Piece own_rows t.attributes k o element
  pub is : element.what ≡ what

pub component_is : (t : Task) {m : ℕ} {c : Component} → At (components_of t) m c → In t (component c.named c.attributes)
component_is t {m} h =
    let p = locate (λ (a : Placed Attribute). component_in a.what) t.attributes m h in
    let q = at_piece own_rows (piece_at p.piece) in
    record { k = p.k; o = q.0; element = p.element; piece = q.1; is = only_component p.element.what p.at }

pub source_is : (t : Task) {m : ℕ} {c : Source} → At (sources_of t) m c → In t (source c.named c.attributes)
source_is t {m} h =
    let p = locate (λ (a : Placed Attribute). source_in a.what) t.attributes m h in
    let q = at_piece own_rows (piece_at p.piece) in
    record { k = p.k; o = q.0; element = p.element; piece = q.1; is = only_source p.element.what p.at }

pub is_component : (t : Task) {k : ℕ} {b : Placed Attribute} (n : Name) (xs : List (Placed ComponentAttribute)) → At t.attributes k b → b.what ≡ component n xs
    → (m : ℕ) × At (components_of t) m (record { named = n; attributes = xs })
is_component t n xs h e =
    let p = at_piece (λ (a : Placed Attribute). component_in a.what) h in
    (p.0 + 0, in_whole p.1 (subst (λ (z : Attribute). At (component_in z) 0 (record { named = n; attributes = xs })) (sym e) at_first) (p.0 + 0) refl)

pub is_source : (t : Task) {k : ℕ} {b : Placed Attribute} (n : Name) (xs : List (Placed SourceAttribute)) → At t.attributes k b → b.what ≡ source n xs
    → (m : ℕ) × At (sources_of t) m (record { named = n; attributes = xs })
is_source t n xs h e =
    let p = at_piece (λ (a : Placed Attribute). source_in a.what) h in
    (p.0 + 0, in_whole p.1 (subst (λ (z : Attribute). At (source_in z) 0 (record { named = n; attributes = xs })) (sym e) at_first) (p.0 + 0) refl)

-- of some task, and of all
pub component_task : (g : List TopLevel) (i : ℕ) {c : Component} → At (components g) i c → Located components_of (tasks g) i c
component_task g i h = locate components_of (tasks g) i h

pub source_task : (g : List TopLevel) (i : ℕ) {c : Source} → At (sources g) i c → Located sources_of (tasks g) i c
source_task g i h = locate sources_of (tasks g) i h

pub component_all : (g : List TopLevel) {i m : ℕ} {t : Task} {c : Component} → At (tasks g) i t → At (components_of t) m c → (k : ℕ) × At (components g) k c
component_all g {m = m} h e = let p = at_piece components_of h in (p.0 + m, in_whole p.1 e (p.0 + m) refl)

pub source_all : (g : List TopLevel) {i m : ℕ} {t : Task} {c : Source} → At (tasks g) i t → At (sources_of t) m c → (k : ℕ) × At (sources g) k c
source_all g {m = m} h e = let p = at_piece sources_of h in (p.0 + m, in_whole p.1 e (p.0 + m) refl)

-- ---- rows in a sheet

module _ (g : List TopLevel) (s : Sheet) (a : Agrees s (flatten g)) where
  module _ {k j : ℕ} {x : TopLevel} (p : Piece top_rows g k j x) where
    pub head_at : At (flatten g) j (head_row x)
    head_at = in_flat {g = g} p at_first j (omega arith)

    pub head_there : head_kind (s.kind j) ≡ true
    head_there = ap head_kind (a.kind head_at) ∙ head_is_head x

    pub body_at : {m : ℕ} {r : Row} → At (body x) m r → (q : ℕ) → q ≡ suc (j + m) → At (flatten g) q r
    body_at h q e = in_flat {g = g} p (at_later h) q (omega arith)

    -- the rows behind the head, up to the next
    pub plain : (q : ℕ) → j < q → q < j + length (top_rows x) → head_kind (s.kind q) ≡ false
    plain q l u =
        let r = at_index (body x) (q - suc j) (omega arith) in
        ap head_kind (a.kind (body_at r.1 q (omega arith))) ∙ (body_inside x r.1).plain

    pub record InBody (q : ℕ) : Type 0 where
      pub m : ℕ
      pub row : Row
      pub at : At (body x) m row
      pub index : q ≡ suc (j + m)

    -- a row before which no other head stands is one of them
    pub in_body : (q : ℕ) → j < q → q < s.count → ((m : ℕ) → j < m → m ≤ q → head_kind (s.kind m) ≡ false) → InBody q
    in_body q l u clear = let r = row_at g s a q u in let f = top_of g r.1 in go f (dec_lt f.k k) (dec_lt k f.k)
      where
        behind : {i : ℕ} {y : TopLevel} {r : Row} → At (top_rows y) i r → j ≡ q - i → q ≡ j + i → y ≡ x → InBody q
        behind at_first e h w = absurd (omega arith)
        behind {r = r} (at_later {i = i} b) e h w = record { m = i; row = r; at = subst (λ (z : TopLevel). At (body z) i r) w b; index = omega arith }

        go : {r : Row} (f : Located top_rows g q r) → Dec (f.k < k) → Dec (k < f.k) → InBody q
        go f (yes d) e = absurd (let z = in_order f.piece p d in let n = f.index in let w = index_of f.at in omega arith)
        go f (no d) (yes e) =
            let z = in_order p f.piece e in
            let n = f.index in
            contra (sym (clear f.o (omega arith) (omega arith)) ∙ ap head_kind (a.kind (in_flat {g = g} f.piece at_first f.o (omega arith))) ∙ head_is_head f.element)
        go f (no d) (no e) =
            let n = f.index in
            let w : f.k ≡ k = omega arith in
            let o = one_piece (subst (λ (z : ℕ). Piece top_rows g z f.o f.element) w f.piece) p in
            let v = o.0 in
            behind f.at (omega arith) (omega arith) o.1

  -- a row of an attribute of a task
  pub own_at : {k j l o m : ℕ} {t : Task} {b : Placed Attribute} {r : Row} → Piece top_rows g k j (task t) → Piece own_rows t.attributes l o b → At (own_rows b) m r
      → (q : ℕ) → q ≡ suc (j + (o + m)) → At (flatten g) q r
  own_at {o = o} {m = m} {t = t} {r = r} p c h q e =
      body_at p (subst (λ (z : List Row). At z (o + m) r) (sym (attributes_each t.attributes)) (in_whole c h (o + m) refl)) q e
