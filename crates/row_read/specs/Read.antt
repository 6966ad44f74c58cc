-- Reading a row: its contract, and that the code's cases meet it. By the kind, which is one, and the property, which is one.
use Rattle.std.specs.Prelude.{ℕ, ◌<◌, ◌≡◌, refl, Bool, true, false, List, get_or, length}
use Rattle.std.proofs.Common.{sym, ap, subst, ◌∙◌, eq-eqb}
use Rattle.std.proofs.Math.Option.{Option, some}
use Rattle.paper_expressions.proofs.Laws.Search.{no_clash, at_one}
use Rattle.paper_expressions.specs.View.{At, at_first, at_later}
use Rattle.paper_guideline.specs.Structure.{TopLevel}
use Rattle.paper_rows.specs.Table.{Kind, kinds, task, data_item, source, ◌№◌, Property, properties, RowValue, Table}
use Rattle.paper_rows.proofs.Laws.Lists.{at_below, below_at}
use Rattle.paper_calls.specs.Calls as Calls
use Calls.{State, loaded, RowAt, Reads, a_row, without_row, Calls, read_row, read_7, read_done, row, refuses}
use Rattle.paper_calls.proofs.Laws.TotalLaws.{is_read}
use Rattle.holding.specs.Holding.{Holds}
use Rattle.replying.specs.Replying.{Holding, holds_none, holds_loaded, Called, Replies}
use Rattle.replying.specs.Ready.{loaded_f, not_empty, nothing_moves}
use Rattle.replying.specs.OneReply.{one_reply}
use Rattle.row_shown.specs.declared.Row.{Row}
use Rattle.row_shown.specs.declared.Shown.TheVariants.{NoRow, Refused}
use Rattle.row_shown.specs.Shown.{Plain, published_row, RowShown, absent, present, Shows}
use Rattle.row_shown.specs.Cells.{plain_published}
use Rattle.row_read.specs.Found.{OfKind, no_candidate, no_argument, no_parameter, no_warning}

-- x the parts, b the text bytes, f the plan, w who waits for whom, s the state: no cell and no byte is changed
abbrev pub ReadsRow : ℕ → ℕ → ℕ → List ℕ → List (List Bool) → List ℕ → Row → Type 0
ReadsRow k n p f w s r = (x b : List ℕ) → Replies (read_row k n p) x b f w s b s (published_row b r)

-- for tables that hold some state
pub one_row : {k n p : ℕ} {x b f : List ℕ} {w : List (List Bool)} {s : List ℕ} {st : State} (r q : Row) → Holding x b f w s st → ReadsRow k n p f w s r → ReadsRow k n p f w s q → published_row b r ≡ published_row b q
one_row {x = x} {b = b} r q held h i = (one_reply is_read (h x b) (i x b) held).reply

-- ---- what is read of a table

-- r answers what reading the row answers
pub record Answered (t : Table) (k n p : ℕ) (b : List ℕ) (r : Row) : Type 0 where
  pub shown : Calls.Shown
  pub reads : Reads t k n p shown
  pub published : published_row b r ≡ row shown

abbrev pub RowOf : ℕ → ℕ → ℕ → List ℕ → List (List Bool) → List ℕ → Row → Type 0
RowOf k n p f w s r = p < 59 → (g : List TopLevel) (x b : List ℕ) (t : Table) (flag : Bool) (time : ℕ) → Holds g x b f w s t flag time → Answered t k n p b r

all_properties : length properties ≡ 59
unfolding properties
all_properties = refl

-- the row of the one property with this number
answered : {t : Table} {k n p : ℕ} {b : List ℕ} {r : Row} (kind : Kind) (q : Property) → At kinds k kind → At properties p q → Shows b q (t (kind № n) q) r → Answered t k n p b r
answered {t} {k} {n} {p} {b} {r} kind q i j h = go h.its refl h.published
  where
    go : {o : Option RowValue} {c : Calls.Shown} → RowShown q o c → t (kind № n) q ≡ o → published_row b r ≡ row c → Answered t k n p b r
    go absent e u = record { shown = Calls.no_row; reads = without_row none_at; published = u }
      where
        none_at : (z : Property) (v : RowValue) → ¬ RowAt t k n p z v
        none_at z v a =
            let d : z ≡ q = at_one a.property_at j in
            let c : a.kind ≡ kind = at_one a.kind_at i in
            no_clash (let y = sym e ∙ ap (λ (m : Property). t (kind № n) m) (sym d) ∙ ap (λ (m : Kind). t (m № n) z) (sym c) ∙ a.row in cc)
    go (present {r = v} a) e u = record { shown = _; reads = a_row (record { kind = kind; kind_at = i; property_at = j; row = e }) a; published = u }

-- the other kinds have none
bare : {g : List TopLevel} {x b f : List ℕ} {w : List (List Bool)} {s : List ℕ} {t : Table} {flag : Bool} {time k n : ℕ} {kind : Kind} {q : Property} {v : RowValue} → Holds g x b f w s t flag time → ¬ (k ≡ 0) → ¬ (k ≡ 1) → ¬ (k ≡ 5) → At kinds k kind
    → ¬ (t (kind № n) q ≡ some v)
unfolding kinds
bare h n0 n1 n5 at_first = absurd (n0 refl)
bare h n0 n1 n5 (at_later at_first) = absurd (n1 refl)
bare h n0 n1 n5 (at_later (at_later at_first)) = no_candidate h
bare h n0 n1 n5 (at_later (at_later (at_later at_first))) = no_argument h
bare h n0 n1 n5 (at_later (at_later (at_later (at_later at_first)))) = no_parameter h
bare h n0 n1 n5 (at_later (at_later (at_later (at_later (at_later at_first))))) = absurd (n5 refl)
bare h n0 n1 n5 (at_later (at_later (at_later (at_later (at_later (at_later at_first)))))) = no_warning h
bare {g = g} {b = b} {f = f} {w = w} {s = s} {t = t} {flag = flag} {time = time} {n = n} {kind = kind} {q = q} {v = v} h n0 n1 n5 (at_later (at_later (at_later (at_later (at_later (at_later (at_later {i = i} x54))))))) = elim x54 [ ]

module _ (k n p : ℕ) (f : List ℕ) (w : List (List Bool)) (s : List ℕ) (r : Row) where
  of_kind : (kind : Kind) → At kinds k kind → OfKind kind f w s n p r → RowOf k n p f w s r
  of_kind kind i h l g x b t flag time z =
      let j = below_at properties p (subst (λ (y : ℕ). p < y) (sym all_properties) l) in
      answered kind j.0 i j.1 (h j.0 j.1 g x b t flag time z)

  pub tasks : k ≡ 0 → OfKind task f w s n p r → RowOf k n p f w s r
  unfolding kinds
  tasks e = of_kind task (subst (λ (y : ℕ). At kinds y task) (sym e) at_first)

  pub items : k ≡ 1 → OfKind data_item f w s n p r → RowOf k n p f w s r
  unfolding kinds
  items e = of_kind data_item (subst (λ (y : ℕ). At kinds y data_item) (sym e) (at_later at_first))

  pub sources : k ≡ 5 → OfKind source f w s n p r → RowOf k n p f w s r
  unfolding kinds
  sources e = of_kind source (subst (λ (y : ℕ). At kinds y source) (sym e) (at_later (at_later (at_later (at_later (at_later at_first))))))

  pub others : ¬ (k ≡ 0) → ¬ (k ≡ 1) → ¬ (k ≡ 5) → Plain NoRow r → RowOf k n p f w s r
  others n0 n1 n5 i l g x b t flag time h =
      record { shown = Calls.no_row; reads = without_row (λ q v a. bare h n0 n1 n5 a.kind_at a.row); published = plain_published b r {s = NoRow} i }

-- ---- the call's cases

module _ (k n p : ℕ) (f : List ℕ) (w : List (List Bool)) (s : List ℕ) (r : Row) where
  -- nothing is loaded
  pub read_refused : {v : Bool} → v ≡ loaded_f s → v ≡ false → Plain (Refused 7) r → ReadsRow k n p f w s r
  read_refused e i j x b = subst (Replies (read_row k n p) x b f w s b s) (sym (plain_published b r {s = Refused 7} j)) (record { called = λ st h. called h; elsewhere = nothing_moves; refused = λ z. (refl, refl) })
    where
      called : {st : State} → Holding x b f w s st → Called (read_row k n p) x b f w s (refuses 7 0 0) st
      called (holds_none h) = record { after = _; calls = read_7; holds = holds_none h }
      called (holds_loaded {g} h) = absurd (no_clash (let z = sym (eq-eqb (get_or s 0 0) 1 h.loaded) ∙ sym e ∙ i in cc))

  done : {v : Bool} → v ≡ loaded_f s → v ≡ true → ((g : List TopLevel) (x b : List ℕ) (t : Table) (flag : Bool) (time : ℕ) → Holds g x b f w s t flag time → Answered t k n p b r) → ReadsRow k n p f w s r
  done e i a x b = record { called = λ st h. called h; elsewhere = nothing_moves; refused = λ z. (refl, refl) }
    where
      called : {st : State} → Holding x b f w s st → Called (read_row k n p) x b f w s (published_row b r) st
      called (holds_none h) = not_empty s (sym e ∙ i) h
      called (holds_loaded {g} h) =
          let z = a g.structure x b g.table g.flag g.time h in
          record { after = loaded g; calls = subst (λ (y : Calls.Reply). Calls (read_row k n p) (loaded g) y (loaded g)) (sym z.published) (read_done z.reads); holds = holds_loaded h }

  pub read_row_of : {v : Bool} → v ≡ loaded_f s → v ≡ true → p < 59 → RowOf k n p f w s r → ReadsRow k n p f w s r
  read_row_of e i l h = done e i (h l)

  -- no such property
  pub read_none : {v : Bool} → v ≡ loaded_f s → v ≡ true → ¬ (p < 59) → Plain NoRow r → ReadsRow k n p f w s r
  read_none e i l j = done e i (λ g x b t flag time h. record { shown = Calls.no_row; reads = without_row (λ q v a. l (subst (λ (y : ℕ). p < y) all_properties (at_below a.property_at))); published = plain_published b r {s = NoRow} j })
