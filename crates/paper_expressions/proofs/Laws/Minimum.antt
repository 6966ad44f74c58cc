-- Law: the minimum of a list of numbers and unknowns, or of texts and unknowns, is one of them, no known one lies below it, and it is
-- unknown only if none is known. By the least of the list, found from its end, for any order that comp goes by.
use Rattle.std.specs.Prelude.{◌≡◌, refl, ◌⊎◌, List, [], ◌∷◌, ℕ, zero, suc, ◌<◌, ℤ, ◌<ℤ◌, ◌≤ℤ◌, length}
use Rattle.std.proofs.Common.{sym, subst, inl, inr, arith}
use Rattle.std.specs.Int.Signed.{lt_z, lt_z_yes, lt_z_no, <ℤ-≤ℤ_trans}
use Rattle.std.proofs.Math.Dec.{not_T}
use Rattle.paper_expressions.specs.Bytes.{folded}
use Rattle.paper_expressions.specs.Values.{Scalar, unknown, Value, one, sequence, IsUnknown, is-unknown, Number, integer_is, real_is, IsText, is_text, is_sequence}
use Rattle.paper_expressions.specs.Clauses.{Clause}
use Rattle.paper_expressions.specs.Operators.{min, Before, prefix, at_byte, later, TextLess, Else2, comp_1, comp_2a, comp_2b, comp_2c, comp_3a, comp_3b, comp_3c, element, Fine, min_down, min_level, min_unknown, Unbeaten, unbeaten, Best, Extremal, extremal_1, extremal_2}
use Rattle.paper_expressions.proofs.Laws.Search.{no_clash}
use Rattle.paper_expressions.proofs.Laws.Compare.{OrderZ, ordered, OrderT, spelled, less_t, greater_t, same_t, one_sign, unknown_no_number, unknown_no_text, number_no_text, numbers_known, texts_known, not_greater, not_less_same}
pub use Rattle.paper_expressions.specs.Promises.{NumbersAndUnknowns, numeric_none, numeric_unknown, numeric_number, TextsAndUnknowns, textual_none, textual_unknown, textual_text, Minimum}

-- ---- an order that comp goes by: a known value reads as a key, and keys are compared

record Ordering (K : Type 0) (Reads : Value → K → Type 0) (Below : K → K → Type 0) : Type 0 where
  pub known : (w : Value) (x : K) → Reads w x → ¬ IsUnknown w
  pub one_key : (w : Value) (x y : K) → Reads w x → Reads w y → x ≡ y
  pub irreflexive : (x : K) → ¬ Below x x
  pub decided : (x y : K) → Below x y ⊎ ¬ Below x y
  pub asymmetric : (x y : K) → Below x y → ¬ Below y x
  pub between : (x y z : K) → Below y x → ¬ Below z x → Below y z
  pub stands : (u w : Value) (x y : K) → Reads u x → Reads w y → ¬ Below y x → Unbeaten min u w
  pub falls : (u w : Value) (x y : K) → Unbeaten min u w → Reads u x → Reads w y → ¬ Below y x

data AllRead {K : Type 0} (Reads : Value → K → Type 0) : List Scalar → Type 0 where
  read_none : AllRead Reads []
  read_unknown : {l : List Scalar} → AllRead Reads l → AllRead Reads (unknown ∷ l)
  read_one : {s : Scalar} {x : K} {l : List Scalar} → Reads (one s) x → AllRead Reads l → AllRead Reads (s ∷ l)

data Least {K : Type 0} (Reads : Value → K → Type 0) (Below : K → K → Type 0) (l : List Scalar) : Type 0 where
  all_unknown : ((i : ℕ) → i < length l → IsUnknown (element l i)) → Least Reads Below l
  least_is : (i : ℕ) (x : K) → i < length l → Reads (element l i) x → ((j : ℕ) (y : K) → j < length l → Reads (element l j) y → ¬ Below y x) → Least Reads Below l

-- what is promised of the minimum, by this order
record Lowest {K : Type 0} (Reads : Value → K → Type 0) (Below : K → K → Type 0) (l : List Scalar) (r : Value) : Type 0 where
  pub member : IsUnknown r ⊎ ((i : ℕ) × (i < length l) × (element l i ≡ r))
  pub least : (x y : K) (i : ℕ) → Reads r x → i < length l → Reads (element l i) y → ¬ Below y x
  pub unknown_if : IsUnknown r → (i : ℕ) → i < length l → IsUnknown (element l i)

-- what holds of the first and of the rest holds of all
cons_unknown : (l : List Scalar) → ((i : ℕ) → i < length l → IsUnknown (element l i)) → (i : ℕ) → i < length (unknown ∷ l) → IsUnknown (element (unknown ∷ l) i)
cons_unknown l f zero h = is-unknown
cons_unknown l f (suc i) h = f i (omega arith)

module _ {K : Type 0} {Reads : Value → K → Type 0} {Below : K → K → Type 0} (order : Ordering K Reads Below) where
  cons_above : (s : Scalar) (l : List Scalar) (x : K) → ((y : K) → Reads (one s) y → ¬ Below y x) → ((j : ℕ) (y : K) → j < length l → Reads (element l j) y → ¬ Below y x)
      → (j : ℕ) (y : K) → j < length (s ∷ l) → Reads (element (s ∷ l) j) y → ¬ Below y x
  cons_above s l x f g zero y h = f y
  cons_above s l x f g (suc j) y h = g j y (omega arith)

  step_unknown : {l : List Scalar} → Least Reads Below l → Least Reads Below (unknown ∷ l)
  step_unknown {l} (all_unknown f) = all_unknown (cons_unknown l f)
  step_unknown {l} (least_is i x b n g) = least_is (suc i) x (omega arith) n (cons_above unknown l x (λ y m. absurd (order.known (one unknown) y m is-unknown)) g)

  -- the first is not below itself
  not_itself : {s : Scalar} {x y : K} → Reads (one s) x → Reads (one s) y → ¬ Below y x
  not_itself {s} {x} {y} n m = subst (λ (z : K). ¬ Below z x) (order.one_key (one s) x y n m) (order.irreflexive x)

  step_one : {s : Scalar} {x : K} {l : List Scalar} → Reads (one s) x → Least Reads Below l → Least Reads Below (s ∷ l)
  step_one {s} {x} {l} n (all_unknown f) = least_is 0 x (omega arith) n (cons_above s l x (λ y m. not_itself n m) (λ j y b m. absurd (order.known (element l j) y m (f j b))))
  step_one {s} {x} {l} n (least_is i z b k g) = go (order.decided z x)
    where
      go : Below z x ⊎ ¬ Below z x → Least Reads Below (s ∷ l)
      go (inl o) = least_is (suc i) z (omega arith) k (cons_above s l z (λ y m. subst (λ (a : K). ¬ Below a z) (order.one_key (one s) x y n m) (order.asymmetric z x o)) g)
      go (inr o) = least_is 0 x (omega arith) n (cons_above s l x (λ y m. not_itself n m) (λ j y c p q. g j y c p (order.between x y z q o)))

  least-of : {l : List Scalar} → AllRead Reads l → Least Reads Below l
  least-of read_none = all_unknown (λ i h. absurd (let z : ⊥ = omega arith in z))
  least-of (read_unknown h) = step_unknown (least-of h)
  least-of (read_one n h) = step_one n (least-of h)

  each_read : {l : List Scalar} → AllRead Reads l → (j : ℕ) → j < length l → IsUnknown (element l j) ⊎ ((y : K) × Reads (element l j) y)
  each_read read_none j b = absurd (let z : ⊥ = omega arith in z)
  each_read (read_unknown h) zero b = inl is-unknown
  each_read (read_unknown h) (suc j) b = each_read h j (omega arith)
  each_read (read_one {x} n h) zero b = inr (x, n)
  each_read (read_one n h) (suc j) b = each_read h j (omega arith)

  best_of : {l : List Scalar} {i : ℕ} {x : K} → AllRead Reads l → i < length l → Reads (element l i) x → ((j : ℕ) (y : K) → j < length l → Reads (element l j) y → ¬ Below y x) → Best min l i
  best_of {l} {i} {x} h b n g = record { inside = b; known = λ u. order.known (element l i) x n u; best = λ j c. go j c (each_read h j c) }
    where
      go : (j : ℕ) → j < length l → IsUnknown (element l j) ⊎ ((y : K) × Reads (element l j) y) → Unbeaten min (element l i) (element l j)
      go j c (inl u) = unbeaten (comp_1 (inr u)) min_unknown
      go j c (inr m) = order.stands (element l i) (element l j) x m.0 n m.1 (g j m.0 c m.1)

  lowest : {l : List Scalar} {c : Clause} {r : Value} → AllRead Reads l → Extremal min (sequence l) c r → Lowest Reads Below l r
  lowest {l} h (extremal_1 {i} is_sequence b n) =
      record { member = inr (i, b.inside, refl); least = λ x y j p q m. order.falls (element l i) (element l j) x y (b.best j q) p m; unknown_if = λ u. absurd (b.known u) }
  lowest {l} h (extremal_2 n) = go (least-of h)
    where
      go : Least Reads Below l → Lowest Reads Below l (one unknown)
      go (all_unknown f) = record { member = inl is-unknown; least = λ x y i p. absurd (order.known (one unknown) x p is-unknown); unknown_if = λ u. f }
      go (least_is i x b m g) = absurd (n l i is_sequence (best_of h b m g))

-- ---- numbers

number_same : (w : Value) (x y : ℤ) → Number w x → Number w y → x ≡ y
number_same w x y integer_is integer_is = refl
number_same w x y real_is real_is = refl

at_most : {x z : ℤ} → ¬ (z <ℤ x) → x ≤ℤ z
at_most {x} {z} n = lt_z_no (not_T (lt_z z x) (λ t. n (lt_z_yes t)))

decided_number : (x y : ℤ) → (x <ℤ y) ⊎ ¬ (x <ℤ y)
decided_number x y = go (ordered x y)
  where
    go : OrderZ x y → (x <ℤ y) ⊎ ¬ (x <ℤ y)
    go (OrderZ.greater o) = inr (not_greater o)
    go (OrderZ.less o) = inl o
    go (OrderZ.equal o) = inr (not_less_same o)

not_beaten : (u w : Value) (x y : ℤ) → Number u x → Number w y → ¬ (y <ℤ x) → Unbeaten min u w
not_beaten u w x y n m k = go (ordered x y)
  where
    go : OrderZ x y → Unbeaten min u w
    go (OrderZ.greater o) = absurd (k o)
    go (OrderZ.less o) = unbeaten (comp_2b (numbers_known n m) n m k o) min_down
    go (OrderZ.equal o) = unbeaten (comp_2c (numbers_known n m) n m k (not_less_same o) o) min_level

beaten : (u w : Value) (x y : ℤ) → Unbeaten min u w → Number u x → Number w y → ¬ (y <ℤ x)
beaten u w x y (unbeaten g f) n m k = elim (subst (Fine min) (one_sign g (comp_2a (numbers_known n m) n m k)) f) [ ]

numbers : Ordering ℤ Number ◌<ℤ◌
numbers = record {
  known = λ w x n u. unknown_no_number u n;
  one_key = number_same;
  irreflexive = λ x. not_less_same refl;
  decided = decided_number;
  asymmetric = λ x y. not_greater;
  between = λ x y z q n. <ℤ-≤ℤ_trans q (at_most n);
  stands = not_beaten;
  falls = beaten;
}

-- ---- texts

text_same : (w : Value) (s t : List ℕ) → IsText w s → IsText w t → s ≡ t
text_same w s t is_text is_text = refl

before_trans : {a b c : List ℕ} → Before a b → Before b c → Before a c
before_trans prefix (at_byte h) = prefix
before_trans prefix (later h) = prefix
before_trans (at_byte {a} h) (at_byte {b = c} k) = at_byte (let z : a < c = omega arith in z)
before_trans (at_byte h) (later k) = at_byte h
before_trans (later h) (at_byte k) = at_byte k
before_trans (later h) (later k) = later (before_trans h k)

not_before_same : {s t : List ℕ} → s ≡ t → ¬ Before s t
not_before_same e k = no_clash (cc (same_t e, less_t k))

not_before : {s t : List ℕ} → Before s t → ¬ Before t s
not_before h k = no_clash (cc (less_t h, greater_t k))

decided_text : (s t : List ℕ) → TextLess s t ⊎ ¬ TextLess s t
decided_text s t = go (spelled (folded s) (folded t))
  where
    go : OrderT (folded s) (folded t) → TextLess s t ⊎ ¬ TextLess s t
    go (OrderT.greater o) = inr (not_before o)
    go (OrderT.less o) = inl o
    go (OrderT.equal o) = inr (not_before_same o)

between_texts : (x y z : List ℕ) → TextLess y x → ¬ TextLess z x → TextLess y z
between_texts x y z q n = go (spelled (folded z) (folded x))
  where
    go : OrderT (folded z) (folded x) → TextLess y z
    go (OrderT.greater o) = before_trans q o
    go (OrderT.less o) = absurd (n o)
    go (OrderT.equal o) = subst (Before (folded y)) (sym o) q

past : {u w : Value} {s t : List ℕ} → IsText u s → IsText w t → Else2 u w
past h k = (texts_known h k, λ b. number_no_text b.2 h)

text_stands : (u w : Value) (s t : List ℕ) → IsText u s → IsText w t → ¬ TextLess t s → Unbeaten min u w
text_stands u w s t n m k = go (spelled (folded s) (folded t))
  where
    go : OrderT (folded s) (folded t) → Unbeaten min u w
    go (OrderT.greater o) = absurd (k o)
    go (OrderT.less o) = unbeaten (comp_3b (past n m) n m k o) min_down
    go (OrderT.equal o) = unbeaten (comp_3c (past n m) n m k (not_before_same o) o) min_level

text_falls : (u w : Value) (s t : List ℕ) → Unbeaten min u w → IsText u s → IsText w t → ¬ TextLess t s
text_falls u w s t (unbeaten g f) n m k = elim (subst (Fine min) (one_sign g (comp_3a (past n m) n m k)) f) [ ]

texts : Ordering (List ℕ) IsText TextLess
texts = record {
  known = λ w s n u. unknown_no_text u n;
  one_key = text_same;
  irreflexive = λ s. not_before_same refl;
  decided = decided_text;
  asymmetric = λ s t. not_before;
  between = between_texts;
  stands = text_stands;
  falls = text_falls;
}

-- ---- the minimum

as_numbers : {l : List Scalar} → NumbersAndUnknowns l → AllRead Number l
as_numbers numeric_none = read_none
as_numbers (numeric_unknown h) = read_unknown (as_numbers h)
as_numbers (numeric_number n h) = read_one n (as_numbers h)

as_texts : {l : List Scalar} → TextsAndUnknowns l → AllRead IsText l
as_texts textual_none = read_none
as_texts (textual_unknown h) = read_unknown (as_texts h)
as_texts (textual_text n h) = read_one n (as_texts h)

-- no element of the other kind
no_text_in : {l : List Scalar} {t : List ℕ} → AllRead Number l → (i : ℕ) → i < length l → ¬ IsText (element l i) t
no_text_in {l} h i b k = go (each_read numbers h i b)
  where
    go : IsUnknown (element l i) ⊎ ((y : ℤ) × Number (element l i) y) → ⊥
    go (inl u) = unknown_no_text u k
    go (inr m) = number_no_text m.1 k

no_number_in : {l : List Scalar} {x : ℤ} → AllRead IsText l → (i : ℕ) → i < length l → ¬ Number (element l i) x
no_number_in {l} h i b k = go (each_read texts h i b)
  where
    go : IsUnknown (element l i) ⊎ ((y : List ℕ) × IsText (element l i) y) → ⊥
    go (inl u) = unknown_no_number u k
    go (inr m) = number_no_text k m.1

pub minimum : {l : List Scalar} {c : Clause} {r : Value} → NumbersAndUnknowns l → Extremal min (sequence l) c r → Minimum l r
minimum h x =
    let m = lowest numbers (as_numbers h) x in
    record { member = m.member; least = m.least; least_text = λ s t i p b k. absurd (no_text_in (as_numbers h) i b k); unknown_if = m.unknown_if }

pub minimum_text : {l : List Scalar} {c : Clause} {r : Value} → TextsAndUnknowns l → Extremal min (sequence l) c r → Minimum l r
minimum_text h x =
    let m = lowest texts (as_texts h) x in
    record { member = m.member; least = λ y z i p b k. absurd (no_number_in (as_texts h) i b k); least_text = m.least; unknown_if = m.unknown_if }
