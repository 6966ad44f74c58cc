-- What a row is, told by its kind: a task's, a data item's, one of an attribute. By the pieces in which it stands.
use Rattle.std.specs.Prelude.{ℕ, suc, ◌+◌, ◌≡◌, refl, Bool, true, false, List, [], ◌∷◌, eqb}
use Rattle.std.proofs.Common.{arith, sym, ap, subst, ◌∙◌}
use Rattle.paper_expressions.specs.View.{At, at_first, at_later}
use Rattle.paper_expressions.proofs.Laws.Tests.{contra}
use Rattle.paper_tokens.specs.Tokens.{“=”, “schedule-constraint”, “terminal”, “mandatory”}
use Rattle.paper_guideline.specs.Structure
use Structure.{Name, Placed, Assignment, ComponentAttribute, SourceAttribute, Attribute, Task, DataItem, TopLevel, task, data_item}
use Rattle.paper_grammar.proofs.Laws.Ll.{is_in}
use Rattle.guideline_rows.specs.Rows
use Rows.{Row, generic_row, component_row, source_row, an_assignment, flatten, kind-of}
use Rattle.row_names.specs.Pieces.{Piece}
use Rattle.row_names.specs.Sheet.{head_kind}
use Rattle.row_names.specs.Flat
use Flat.{head_row, body, top_rows, sub_kind, Sub, generic_sub, component_sub, source_sub, placed_sub, head_is_head}
use Rattle.row_names.specs.Agreement.{top_of}
use Rattle.row_names.specs.Owners as Owners
use Rattle.paper_guideline.specs.Names.{word_of as attribute-word}
use Owners.{own_view, own_of, the_word, of_component, of_source, of_assigned}
use Rattle.plan_rows.specs.Stands.{Stands, stands_at, ItemStands, item-at}
use Rattle.plan_rows.specs.Owned.{Owned}

pub data Seen (g : List TopLevel) (q : ℕ) (r : Row) : Type 0 where
  a_task_head : {k T : ℕ} {t : Task} → Stands g k q T t → r ≡ head_row (task t) → Seen g q r
  an_item_head : {k i : ℕ} {d : DataItem} → ItemStands g k q i d → r ≡ head_row (data_item d) → Seen g q r
  in_a_task : {T l m : ℕ} {t : Task} {b : Placed Attribute} → Owned g q T t l b m r → Seen g q r
  in_an_item : (d : DataItem) {m : ℕ} → At (body (data_item d)) m r → Seen g q r

pub seen : (g : List TopLevel) {q : ℕ} {r : Row} → At (flatten g) q r → Seen g q r
seen g {q} {r} h = let f = top_of g h in go f.element f.piece f.at f.index
  where
    go : (x : TopLevel) {k o m : ℕ} {z : Row} → Piece top_rows g k o x → At (top_rows x) m z → q ≡ o + m → Seen g q z
    go (task t) {k} {o} p at_first e = let s = stands_at p in a_task_head (subst (λ (z : ℕ). Stands g k z s.0 t) {x = o} {y = q} (omega arith) s.1) refl
    go (task t) p (at_later a) e =
        let f = own_of t a in
        let i = f.index in
        in_a_task (record { k = _; j = _; o = f.o; stands = (stands_at p).1; piece = f.piece; at = f.at; index = omega arith })
    go (data_item d) {k} {o} p at_first e = let s = item-at p in an_item_head (subst (λ (z : ℕ). ItemStands g k z s.0 d) {x = o} {y = q} (omega arith) s.1) refl
    go (data_item d) p (at_later a) e = in_an_item d a

-- ---- the row of an attribute's word

pub record Word (g : List TopLevel) (q : ℕ) (r : Row) (w : ℕ) : Type 0 where
  pub T : ℕ
  pub l : ℕ
  pub t : Task
  pub b : Placed Attribute
  pub owned : Owned g q T t l b 0 r
  pub word : attribute-word b.what ≡ w

item_sub : (d : DataItem) {m : ℕ} {r : Row} → At (body (data_item d)) m r → Sub r
item_sub d h = placed_sub generic_row generic_sub d.attributes h

module _ (g : List TopLevel) {q w : ℕ} {r : Row} (h : At (flatten g) q r) (e : kind-of r ≡ w) where
  no_head : {A : Type 0} (x : TopLevel) → head_kind w ≡ false → r ≡ head_row x → A
  no_head x f p = contra (sym f ∙ ap head_kind (sym e ∙ ap kind-of p) ∙ head_is_head x)

  no_sub : {A : Type 0} → sub_kind w ≡ false → Sub r → A
  no_sub f s = contra (sym f ∙ ap sub_kind (sym e) ∙ s.kind)

  pub word_seen : head_kind w ≡ false → sub_kind w ≡ false → eqb w “=” ≡ false → Word g q r w
  word_seen a c d = go (seen g h)
    where
      no_sub_kind : {A : Type 0} {z : Row} → kind-of z ≡ w → Sub z → A
      no_sub_kind k s = contra (sym c ∙ ap sub_kind (sym k) ∙ s.kind)

      first : {p m : ℕ} {z : Row} (x : Attribute) → kind-of z ≡ w → Owners.Own p x m z → (m ≡ 0) × (attribute-word x ≡ w)
      first x u (the_word k i) = (refl, sym k ∙ u)
      first x u (of_component {x = y} k i) = no_sub_kind u (subst Sub (sym i) (component_sub y.word y.what))
      first x u (of_source {x = y} k i) = no_sub_kind u (subst Sub (sym i) (source_sub y.word y.what))
      first x u (of_assigned k i) = contra (sym d ∙ ap (λ (n : ℕ). eqb n “=”) (sym u ∙ ap kind-of i))

      go : Seen g q r → Word g q r w
      go (a_task_head {t = t} s p) = no_head (task t) a p
      go (an_item_head {d = d} s p) = no_head (data_item d) a p
      go (in_a_task {T} {l} {m} {t} {b} o) =
          let f = first b.what e (own_view b.word b.what o.at) in
          record { T = T; l = l; t = t; b = b; owned = subst (λ (z : ℕ). Owned g q T t l b z r) f.0 o; word = f.1 }
      go (in_an_item d i) = no_sub c (item_sub d i)

-- ---- the row of an attribute of a component, of a source; of an assignment

abbrev pub inner_kind : ℕ → Bool
inner_kind k = is_in k (“schedule-constraint” ∷ “terminal” ∷ “mandatory” ∷ “=” ∷ [])

no_inner_word : (a : Attribute) → inner_kind (attribute-word a) ≡ false
no_inner_word (Structure.generic (Structure.caption x)) = refl
no_inner_word (Structure.generic (Structure.description x)) = refl
no_inner_word (Structure.precondition x) = refl
no_inner_word (Structure.wait_condition x) = refl
no_inner_word (Structure.terminate x) = refl
no_inner_word (Structure.postcondition xs) = refl
no_inner_word (Structure.trigger n) = refl
no_inner_word (Structure.component n xs) = refl
no_inner_word (Structure.source n xs) = refl

no_inner_generic : (p : ℕ) (x : Structure.Generic) → inner_kind (kind-of (generic_row p x)) ≡ false
no_inner_generic p (Structure.caption x) = refl
no_inner_generic p (Structure.description x) = refl

pub record OfComponent (g : List TopLevel) (q : ℕ) (r : Row) : Type 0 where
  pub T : ℕ
  pub l : ℕ
  pub i : ℕ
  pub t : Task
  pub b : Placed Attribute
  pub owned : Owned g q T t l b (suc i) r
  pub n : Name
  pub xs : List (Placed ComponentAttribute)
  pub is : b.what ≡ Structure.component n xs
  pub x : Placed ComponentAttribute
  pub at : At xs i x
  pub row : r ≡ component_row x.word x.what

pub record OfSource (g : List TopLevel) (q : ℕ) (r : Row) : Type 0 where
  pub T : ℕ
  pub l : ℕ
  pub i : ℕ
  pub t : Task
  pub b : Placed Attribute
  pub owned : Owned g q T t l b (suc i) r
  pub n : Name
  pub xs : List (Placed SourceAttribute)
  pub is : b.what ≡ Structure.source n xs
  pub x : Placed SourceAttribute
  pub at : At xs i x
  pub row : r ≡ source_row x.word x.what

pub record OfAssigned (g : List TopLevel) (q : ℕ) (r : Row) : Type 0 where
  pub T : ℕ
  pub l : ℕ
  pub i : ℕ
  pub t : Task
  pub b : Placed Attribute
  pub owned : Owned g q T t l b (suc i) r
  pub xs : List Assignment
  pub is : b.what ≡ Structure.postcondition xs
  pub x : Assignment
  pub at : At xs i x
  pub row : r ≡ an_assignment x

-- one of these three
pub data Inner (g : List TopLevel) (q : ℕ) (r : Row) : Type 0 where
  component_inner : OfComponent g q r → Inner g q r
  source_inner : OfSource g q r → Inner g q r
  assigned_inner : OfAssigned g q r → Inner g q r

module _ (g : List TopLevel) {q : ℕ} {r : Row} (h : At (flatten g) q r) (e : inner_kind (kind-of r) ≡ true) where
  pub inner_seen : head_kind (kind-of r) ≡ false → Inner g q r
  inner_seen a = go (seen g h)
    where
      no_generic : {A : Type 0} (p : ℕ) (x : Structure.Generic) → r ≡ generic_row p x → A
      no_generic p x i = contra (sym (ap (λ (z : Row). inner_kind (kind-of z)) i ∙ no_inner_generic p x) ∙ e)

      by : {T l m : ℕ} {t : Task} {b : Placed Attribute} {p : ℕ} {v : Row} (x : Attribute) → b.what ≡ x → inner_kind (kind-of v) ≡ true → Owned g q T t l b m v → Owners.Own p x m v → Inner g q v
      by x z u o (the_word k i) = contra (sym (ap inner_kind k ∙ no_inner_word x) ∙ u)
      by x z u o (of_component {n} {xs} {l} {x = y} k i) = component_inner (record { T = _; l = _; i = l; t = _; b = _; owned = o; n = n; xs = xs; is = z; x = y; at = k; row = i })
      by x z u o (of_source {n} {xs} {l} {x = y} k i) = source_inner (record { T = _; l = _; i = l; t = _; b = _; owned = o; n = n; xs = xs; is = z; x = y; at = k; row = i })
      by x z u o (of_assigned {xs} {l} {x = y} k i) = assigned_inner (record { T = _; l = _; i = l; t = _; b = _; owned = o; xs = xs; is = z; x = y; at = k; row = i })

      go : Seen g q r → Inner g q r
      go (a_task_head {t = t} s p) = contra (sym a ∙ ap (λ (z : Row). head_kind (kind-of z)) p ∙ head_is_head (task t))
      go (an_item_head {d = d} s p) = contra (sym a ∙ ap (λ (z : Row). head_kind (kind-of z)) p ∙ head_is_head (data_item d))
      go (in_a_task {b = b} o) = by b.what refl e o (own_view b.word b.what o.at)
      go (in_an_item d i) = let s = Flat.at_placed generic_row d.attributes i in no_generic s.from.word s.from.what s.is
