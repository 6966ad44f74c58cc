-- Laws: one row more in the columns; and that they hold the items of a guideline. By the first rows of the table, one more at a time.
use Rattle.std.specs.Prelude.{ℕ, suc, ◌+◌, ◌*◌, ◌%◌, ◌≤◌, ◌<◌, ◌≡◌, refl, ◌⊎◌, List, [], ◌∷◌, ◌++◌, length, get_or, set, take}
use Rattle.std.proofs.Common.{sym, ap, subst, ◌∙◌, inl, inr, ⊎_elim, arith, add-one, length-set, length-append, get_or-set_same, get_or-set_other}
use Rattle.std.proofs.Math.Option.{Option, none, some}
use Rattle.paper_expressions.specs.Types.{Declared, a_text, an_integer, a_boolean, a_datetime, a_date, a_time, a_real, a_setof_text, a_setof_integer, a_setof_real}
use Rattle.paper_expressions.specs.View.{Item, At, at_first, at_later}
use Rattle.paper_tokens.specs.Tokens.{“data”}
use Rattle.paper_guideline.specs.Structure.{TopLevel}
use Rattle.parts.specs.Codes.{declared_code}
use Rattle.parts.specs.Texts.{text_at_fn}
use Rattle.parts.specs.Part.{Table}
use Rattle.parts.specs.ItemLaws.{at_index, index_of}
use Rattle.guideline_rows.specs.Rows.{Row, flatten}
use Rattle.guideline_rows.specs.Encoded.{Encoded}
use Rattle.guideline_rows.specs.InLimits.{InLimits}
use Rattle.guideline_rows.specs.RowLaws.{stands, kind_cell, flag_cell, name_spelt}
use Rattle.row_names.specs.Pieces.{at_either}
use Rattle.row_names.specs.Selected.{keep, select, select_append}
use Rattle.row_tests.specs.Table.{row_limit, cell_of}
use Rattle.row_tests.specs.EncodedSheet.{cell_is}
use Rattle.types.specs.Roles.{item_of}
use Rattle.types.specs.RoleLaws.{declared_rows, data_row, declares}
use Rattle.types.specs.Columns.{Holding, Puts, passed, full, put, Gathers}

-- ---- one item more

small_code : (d : Declared) → declared_code d % 256 ≡ declared_code d
small_code a_text = refl
small_code an_integer = refl
small_code a_boolean = refl
small_code a_datetime = refl
small_code a_date = refl
small_code a_time = refl
small_code a_real = refl
small_code a_setof_text = refl
small_code a_setof_integer = refl
small_code a_setof_real = refl

last_of : {A : Type 0} (items : List A) {y z : A} {d : ℕ} → At (items ++ (y ∷ [])) d z → At items d z ⊎ ((d ≡ length items) × (y ≡ z))
last_of {A} items h = ⊎_elim (λ p. inl p) (λ p. inr (let o = only p.at in let q = p.index in let z = o.0 in (omega arith, o.1))) (at_either items h)
  where
    only : {y z : A} {m : ℕ} → At (y ∷ []) m z → (m ≡ 0) × (y ≡ z)
    only at_first = (refl, refl)
    only (at_later k) = elim k [ ]

module _ {b l k : List ℕ} {items : List Item} {m : ℕ} (h : Holding b l k items m) where
  hold_full : (y : Item) → (length l ≤ m) ⊎ (length k ≤ m) → Holding b l k (items ++ (y ∷ [])) (m + 1)
  hold_full y f = record {
    count = let c = h.count in let a = length-append items (y ∷ []) in omega arith;
    named = λ q u v. ⊎_elim (λ p. h.named p u v) (λ p. absurd (beyond p.0 u v f)) (last_of items q);
    typed = λ q u v. ⊎_elim (λ p. h.typed p u v) (λ p. absurd (beyond p.0 u v f)) (last_of items q);
  }
    where
      beyond : {d : ℕ} → d ≡ length items → d < length l → d < length k → (length l ≤ m) ⊎ (length k ≤ m) → ⊥
      beyond e u v (inl w) = let c = h.count in omega arith
      beyond e u v (inr w) = let c = h.count in omega arith

  hold_put : (y : Item) (n f : ℕ) → text_at_fn b n ≡ y.name → f ≡ declared_code y.declared → m < length l → m < length k → Holding b (set l m n) (set k m f) (items ++ (y ∷ [])) (m + 1)
  hold_put y n f en ef u v = record {
    count = let c = h.count in let a = length-append items (y ∷ []) in omega arith;
    named = λ {d} {y = z} q a c. ⊎_elim
        (λ p. ap (text_at_fn b) (get_or-set_other l m d n 0 (apart p)) ∙ h.named p (subst (λ (w : ℕ). d < w) (length-set l m n) a) (subst (λ (w : ℕ). d < w) (length-set k m f) c))
        (λ p. ap (λ (w : ℕ). text_at_fn b (get_or (set l m n) w 0)) (p.0 ∙ sym h.count) ∙ ap (text_at_fn b) (get_or-set_same l m n 0 u) ∙ en ∙ ap (λ (w : Item). w.name) p.1)
        (last_of items q);
    typed = λ {d} {y = z} q a c. ⊎_elim
        (λ p. get_or-set_other k m d f 0 (apart p) ∙ h.typed p (subst (λ (w : ℕ). d < w) (length-set l m n) a) (subst (λ (w : ℕ). d < w) (length-set k m f) c))
        (λ p. ap (λ (w : ℕ). get_or (set k m f) w 0) (p.0 ∙ sym h.count) ∙ get_or-set_same k m f 0 v ∙ ef ∙ ap (λ (w : Item). declared_code w.declared) p.1)
        (last_of items q);
  }
    where
      apart : {d : ℕ} {z : Item} → At items d z → d ≡ m → ⊥
      apart p e = let c = h.count in omega (arith, index_of p)

-- ---- one row more

take_more : {A : Type 0} {l : List A} {i : ℕ} {x : A} → At l i x → take (suc i) l ≡ take i l ++ (x ∷ [])
take_more at_first = refl
take_more (at_later {y = y} h) = ap (λ z. y ∷ z) (take_more h)

take_all : {A : Type 0} (l : List A) → take (length l) l ≡ l
take_all [] = refl
take_all (x ∷ l) = ap (λ z. x ∷ z) (take_all l)

module _ {x : List ℕ} {t : Table} (g : List TopLevel) (e : Encoded (flatten g) x t) (lim : InLimits (flatten g)) where
  -- the items of the first rows
  abbrev items_to : ℕ → List Item
  items_to i = select item_of (take i (flatten g))

  items_more : {i : ℕ} {r : Row} → At (flatten g) i r → items_to (suc i) ≡ items_to i ++ keep (item_of r) []
  items_more {i} {r} h = ap (select item_of) (take_more h) ∙ select_append item_of (take i (flatten g)) (r ∷ [])

  abbrev Holds : List ℕ → List ℕ → ℕ → ℕ → Type 0
  Holds l k i m = Holding t.bytes l k (items_to i) m

  as_before : {l k : List ℕ} {i m : ℕ} {r : Row} → At (flatten g) i r → item_of r ≡ none → Holds l k i m → Holds l k (suc i) m
  as_before {l} {k} {i} {m} {r} h q s = subst (λ (z : List Item). Holding t.bytes l k z m) (sym (items_more h ∙ ap (λ (o : Option Item). items_to i ++ keep o []) q ∙ append_none (items_to i))) s
    where
      append_none : (z : List Item) → z ++ [] ≡ z
      append_none [] = refl
      append_none (y ∷ z) = ap (λ w. y ∷ w) (append_none z)

  and_more : {l k : List ℕ} {i m : ℕ} {r : Row} {y : Item} → At (flatten g) i r → item_of r ≡ some y → Holding t.bytes l k (items_to i ++ (y ∷ [])) m → Holds l k (suc i) m
  and_more {l} {k} {i} {m} h q s = subst (λ (z : List Item). Holding t.bytes l k z m) (sym (items_more h ∙ ap (λ (o : Option Item). items_to i ++ keep o []) q)) s

  hold_more : {l k : List ℕ} {m i : ℕ} {l' k' : List ℕ} {m' : ℕ} {r : Row} → At (flatten g) i r → i < row_limit → Puts x l k m i l' k' m' → Holds l k i m → Holds l' k' (suc i) m'
  hold_more {l} {k} {m = m} {i} {r = r} h u (passed n) s = go (item_of r) refl
    where
      go : (o : Option Item) → item_of r ≡ o → Holds l k (suc i) m
      go none q = as_before h q s
      go (some y) q = absurd (n (cell_is x i 0 u ∙ kind_cell (stands e h) ∙ (declares r q).kind))
  hold_more {i = i} {r = r} h u (full c f) s =
      let y = data_row g h (sym (cell_is x i 0 u ∙ kind_cell (stands e h)) ∙ c) in
      and_more h y.1 (hold_full s y.0 f)
  hold_more {i = i} {r = r} h u (put c a b) s =
      let y = data_row g h (sym (cell_is x i 0 u ∙ kind_cell (stands e h)) ∙ c) in
      let d = declares r y.1 in
      and_more h y.1
      (hold_put s y.0 (get_or x (i * 8 + 2) 0) (get_or x (i * 8 + 7) 0 % 256)
      (name_spelt (stands e h) d.name (lim.names h d.name) ∙ d.spelt)
      (ap (λ (w : ℕ). w % 256) (flag_cell (stands e h) ∙ d.flag) ∙ small_code y.0.declared) a b)

-- ---- the loop

-- the first i rows are done
abbrev pub Going : List ℕ → ℕ → List ℕ → List ℕ → ℕ → ℕ → Type 0
Going x n l k m i =
    (g : List TopLevel) (t : Table) → Encoded (flatten g) x t → InLimits (flatten g) → n ≡ length (flatten g) → Holding t.bytes l k (select item_of (take i (flatten g))) m

pub going_first : (x : List ℕ) (n : ℕ) (l k : List ℕ) → Going x n l k 0 0
going_first x n l k g t e lim c = record { count = refl; named = λ h. elim h [ ]; typed = λ h. elim h [ ] }

pub going_more : {x l k l' k' : List ℕ} {n m i m' : ℕ} → i < n → n ≤ row_limit → Puts x l k m i l' k' m' → Going x n l k m i → Going x n l' k' m' (i + 1)
going_more {l' = l'} {k'} {i = i} {m'} u w p s g t e lim c =
    let r = at_index (flatten g) i (omega arith) in
    subst (λ (j : ℕ). Holding t.bytes l' k' (select item_of (take j (flatten g))) m') (sym (add-one i)) (hold_more g e lim r.1 (omega arith) p (s g t e lim c))

pub puts_few : {x l k : List ℕ} {m i : ℕ} {l' k' : List ℕ} {m' : ℕ} → Puts x l k m i l' k' m' → m' ≤ m + 1
puts_few (passed n) = omega arith
puts_few (full c f) = omega arith
puts_few (put c a b) = omega arith

pub puts_long : {x l k : List ℕ} {m i : ℕ} {l' k' : List ℕ} {m' : ℕ} → Puts x l k m i l' k' m' → (length l' ≡ length l) × (length k' ≡ length k)
puts_long (passed n) = (refl, refl)
puts_long (full c f) = (refl, refl)
puts_long {x} {l} {k} {m = m} {i} (put c a b) = (length-set l m (get_or x (i * 8 + 2) 0), length-set k m (get_or x (i * 8 + 7) 0 % 256))

pub gathered : (x : List ℕ) (n : ℕ) (l k l' k' : List ℕ) (m i : ℕ) → i ≡ n → length l' ≡ length l → length k' ≡ length k → Going x n l' k' m i → Gathers x n l k l' k' m
gathered x n l k l' k' m i q a b s = record {
  names_long = a;
  types_long = b;
  held = λ g t e lim c.
      subst (λ (z : List Item). Holding t.bytes l' k' z m)
      (ap (λ (j : ℕ). select item_of (take j (flatten g))) (q ∙ c) ∙ ap (select item_of) (take_all (flatten g)) ∙ declared_rows g) (s g t e lim c);
}

-- what the code writes
pub puts_both : (x l k : List ℕ) (m i : ℕ) → cell_of x i 0 ≡ “data” → m < length l → m < length k → (a f : ℕ) → a ≡ get_or x (i * 8 + 2) 0 → f ≡ get_or x (i * 8 + 7) 0
    → Puts x l k m i (set l m a) (set k m (f % 256)) (m + 1)
puts_both x l k m i c u w a f ea ef =
    subst (λ (z : ℕ). Puts x l k m i (set l m z) (set k m (f % 256)) (m + 1)) (sym ea)
    (subst (λ (z : ℕ). Puts x l k m i (set l m (get_or x (i * 8 + 2) 0)) (set k m (z % 256)) (m + 1)) (sym ef) (put c u w))
