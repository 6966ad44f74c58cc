-- When the value that is given is within the limits, by its tags, numbers and bytes. By the cells, one by one.
use Rattle.std.specs.Prelude.{ℕ, zero, suc, ◌+◌, ◌-◌, ◌<◌, ◌≤◌, ◌/◌, ◌%◌, ◌≡◌, refl, Bool, true, false, cond, List, [], ◌∷◌, eqb, leb, ℤ, pos, negsuc, nat_abs, get_or, length}
use Rattle.std.proofs.Common.{arith, not-suc-le-zero, sym, ap, subst, ◌∙◌, ne_eqb, le-leb, leb-true}
use Rattle.std.proofs.Math.Decide.{dec_lt}
use Rattle.std.proofs.Math.Option.{none, some}
use Rattle.paper_expressions.specs.Limits.{integer_limit, real_limit}
use Rattle.paper_expressions.proofs.Laws.Search.{no_clash}
use Rattle.paper_expressions.specs.Values.{Scalar, unknown, truth, integer, real, text, Value, one, sequence}
use Rattle.paper_expressions.specs.View.{At, at_first, at_later}
use Rattle.paper_rows.proofs.Laws.Lists.{at_below}
use Rattle.paper_rows.proofs.Laws.Booleans.{is_yes, is_no, is_false}
use Rattle.paper_calls.specs.Calls.{SmallText, SmallScalar, small_unknown, small_truth, small_integer, small_real, small_text, Small, small_one, small_list}
use Rattle.parts.specs.Texts.{cells, text_at_fn}
use Rattle.waits.specs.Booleans.{Tests, is_as}
use Rattle.value_given.specs.Given.{is_one, handle_given, text_given, element_given, elements, given}
use Rattle.value_given.specs.Cells.{at_given, listed, same_scalar, one_told, list_told}

abbrev pub WithinBy : List ℕ → List ℤ → List ℕ → Bool → Type 0
WithinBy t n b r = (w : Value) → given t n b ≡ some w → Tests r (Small w)

-- ---- one element, with the tag k and the number z

abbrev pub SmallBy : List ℕ → ℕ → ℤ → Bool → Type 0
SmallBy b k z r = (s : Scalar) → element_given b k z ≡ some s → Tests r (SmallScalar s)

-- the text with this handle
abbrev pub TextBy : List ℕ → ℤ → Bool → Type 0
TextBy b z r = (n : ℕ) → z ≡ pos n → Tests r (SmallText (text_at_fn b n))

pub text_by : (b : List ℕ) (z : ℤ) {h : ℕ} {r : Bool} → h ≡ handle_given z → Tests r (SmallText (cells b (h / 64) (h % 64))) → TextBy b z r
text_by b z {h} {r} e f n g = subst (λ (y : ℕ). Tests r (SmallText (text_at_fn b y))) (e ∙ ap handle_given g) f

-- the tag is known, and so the element
by_tag : (b : List ℕ) (z : ℤ) {k m : ℕ} {r : Bool} {x : Scalar} → k ≡ m → element_given b m z ≡ some x → Tests r (SmallScalar x) → SmallBy b k z r
by_tag b z {r = r} e f h s g = subst (λ (y : Scalar). Tests r (SmallScalar y)) (same_scalar (sym (ap (λ (y : ℕ). element_given b y z) e ∙ f) ∙ g)) h

at_most : (a m : ℕ) {r : Bool} → r ≡ leb a m → Tests r (a ≤ m)
at_most a m e = (λ f. leb-true a m (sym e ∙ f), λ l. e ∙ le-leb a m l)

pub integer_by : (b : List ℕ) (k : ℕ) (z : ℤ) {r : Bool} → k ≡ 2 → r ≡ leb (nat_abs z) integer_limit → SmallBy b k z r
integer_by b k z e f = by_tag b z e refl (is_as small_integer of (at_most (nat_abs z) integer_limit f))
  where
    of : SmallScalar (integer z) → nat_abs z ≤ integer_limit
    of (small_integer h) = h

pub real_by : (b : List ℕ) (k : ℕ) (z : ℤ) {r : Bool} → k ≡ 3 → r ≡ leb (nat_abs z) real_limit → SmallBy b k z r
real_by b k z e f = by_tag b z e refl (is_as small_real of (at_most (nat_abs z) real_limit f))
  where
    of : SmallScalar (real z) → nat_abs z ≤ real_limit
    of (small_real h) = h

small_text_of : {s : List ℕ} → SmallScalar (text s) → SmallText s
small_text_of (small_text h) = h

pub text_by_tag : (b : List ℕ) (k : ℕ) (z : ℤ) {r : Bool} → k ≡ 4 → TextBy b z r → SmallBy b k z r
text_by_tag b k (pos n) e f s g = by_tag b (pos n) e refl (is_as small_text small_text_of (f n refl)) s g
text_by_tag b k (negsuc n) e f s g = absurd (no_clash (let h = sym (ap (λ (y : ℕ). element_given b y (negsuc n)) e) ∙ g in cc))

-- unknown, or true or false
pub other_by : (b : List ℕ) (k : ℕ) (z : ℤ) → ¬ (k ≡ 2) → ¬ (k ≡ 3) → ¬ (k ≡ 4) → SmallBy b k z true
other_by b k z p q r s g = is_yes (go (eqb k 0) (eqb k 1) (eqb k 2) (eqb k 3) (eqb k 4) (ne_eqb k 2 p) (ne_eqb k 3 q) (ne_eqb k 4 r) g)
  where
    go : (k0 k1 k2 k3 k4 : Bool) → k2 ≡ false → k3 ≡ false → k4 ≡ false
        → cond k0 (some unknown) (cond k1 (some (truth (is_one z))) (cond k2 (some (integer z)) (cond k3 (some (real z)) (cond k4 (text_given b z) none)))) ≡ some s → SmallScalar s
    go true k1 k2 k3 k4 a c d e = subst SmallScalar (same_scalar e) small_unknown
    go false true k2 k3 k4 a c d e = subst SmallScalar (same_scalar e) small_truth
    go false false true k3 k4 a c d e = absurd (no_clash (cc))
    go false false false true k4 a c d e = absurd (no_clash (cc))
    go false false false false true a c d e = absurd (no_clash (cc))
    go false false false false false a c d e = absurd (no_clash (cc))

-- ---- a list

abbrev pub EachSmall : ℕ → List Scalar → Type 0
EachSmall m l = (j : ℕ) → j < m → SmallScalar (get_or l j unknown)

-- of the shape x
abbrev pub AllSmall : List ℕ → List ℤ → List ℕ → ℕ → Bool → Type 0
AllSmall t n b x r = (l : List Scalar) → elements t n b 1 (x - 1) ≡ some l → Tests r (EachSmall (x - 1) l)

-- the cells below i are small
abbrev pub Upto : List ℕ → List ℤ → List ℕ → ℕ → ℕ → Type 0
Upto t n b x i = (l : List Scalar) → elements t n b 1 (x - 1) ≡ some l → (j : ℕ) → 1 + j < i → SmallScalar (get_or l j unknown)

pub upto_none : (t : List ℕ) (n : List ℤ) (b : List ℕ) (x : ℕ) → Upto t n b x 1
upto_none t n b x l e j m = absurd (let z : ⊥ = omega arith in z)

module _ (t : List ℕ) (n : List ℤ) (b : List ℕ) (x i : ℕ) {k : ℕ} {z : ℤ} {r : Bool} (low : 1 ≤ i) (high : i < x) (tag : k ≡ get_or t i 0) (number : z ≡ get_or n i (pos 0)) (s : SmallBy b k z r) where
  -- the cell i
  cell_small : (l : List Scalar) → elements t n b 1 (x - 1) ≡ some l → Tests r (SmallScalar (get_or l (i - 1) unknown))
  cell_small l e =
      let a : 1 + (i - 1) ≡ i = omega arith in
      let g = at_given t n b (1 + (i - 1)) ((listed t n b 1 (x - 1) e).each (i - 1) (omega arith)) in
      s (get_or l (i - 1) unknown)
      (ap (λ (y : ℕ). element_given b y z) (tag ∙ ap (λ (y : ℕ). get_or t y 0) (sym a)) ∙ ap (element_given b (get_or t (1 + (i - 1)) 0)) (number ∙ ap (λ (y : ℕ). get_or n y (pos 0)) (sym a)) ∙ g)

  pub upto_more : r ≡ true → Upto t n b x i → Upto t n b x (i + 1)
  upto_more q h l e j m = go (dec_lt (1 + j) i)
    where
      go : Dec (1 + j < i) → SmallScalar (get_or l j unknown)
      go (yes o) = h l e j o
      go (no o) = let a : i - 1 ≡ j = omega arith in subst (λ (y : ℕ). SmallScalar (get_or l y unknown)) a ((cell_small l e).0 q)

  pub all_small_not : r ≡ false → AllSmall t n b x false
  all_small_not q l e = is_no (λ h. is_false (cell_small l e) q (h (i - 1) (omega arith)))

pub all_small : (t : List ℕ) (n : List ℤ) (b : List ℕ) (x i : ℕ) → x ≤ i → Upto t n b x i → AllSmall t n b x true
all_small t n b x i m h l e = is_yes (λ j o. h l e j (omega arith))

-- ---- the value

pub one_small : {s : Scalar} → Small (one s) → SmallScalar s
one_small (small_one h) = h

at_is : {l : List Scalar} {i : ℕ} {s : Scalar} → At l i s → get_or l i unknown ≡ s
at_is at_first = refl
at_is (at_later h) = at_is h

at_place : (l : List Scalar) (i : ℕ) → i < length l → At l i (get_or l i unknown)
at_place [] i h = absurd (not-suc-le-zero h)
at_place (s ∷ l) zero h = at_first
at_place (s ∷ l) (suc i) h = at_later (at_place l i (omega arith))

pub list_small : {l : List Scalar} → Small (sequence l) → (length l ≤ 16) × EachSmall (length l) l
list_small (small_list {l} h f) = (h, λ j i. f j (get_or l j unknown) (at_place l j i))

module _ (t : List ℕ) (n : List ℤ) (b : List ℕ) {x : ℕ} (read : x ≡ get_or t 0 0) where
  pub within_one : {k : ℕ} {z : ℤ} {r : Bool} → x ≡ 0 → k ≡ get_or t 1 0 → z ≡ get_or n 1 (pos 0) → SmallBy b k z r → WithinBy t n b r
  within_one {k} {z} {r} e f g h w i =
      let u = one_told t n b read e i in
      subst (λ (y : Value). Tests r (Small y)) (sym u.2)
      (is_as small_one one_small (h u.0 (ap (λ (y : ℕ). element_given b y z) f ∙ ap (element_given b (get_or t 1 0)) g ∙ at_given t n b 1 u.1)))

  pub within_long : 17 < x → WithinBy t n b false
  within_long l w i =
      let u = list_told t n b read (λ e. omega arith) i in
      let v = (listed t n b 1 (x - 1) u.1).size in
      is_no (λ h. (let m = (list_small (subst Small u.2 h)).0 in omega arith))

  pub within_list : {r : Bool} → ¬ (x ≡ 0) → x ≤ 17 → AllSmall t n b x r → WithinBy t n b r
  within_list {r} e l h w i =
      let u = list_told t n b read e i in
      let v = (listed t n b 1 (x - 1) u.1).size in
      subst (λ (y : Value). Tests r (Small y)) (sym u.2)
      (is_as (λ f. small_list (omega arith) (λ j s a. (let o = at_below a in subst SmallScalar (at_is a) (f j (omega arith))))) (λ f j o. (list_small f).1 j (omega arith)) (h u.0 u.1))
