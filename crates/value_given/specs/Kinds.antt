-- When what is given is a value of a declared type, by its tags and numbers. By the cells, one by one.
use Rattle.std.specs.Prelude.{ℕ, zero, suc, ◌+◌, ◌-◌, ◌<◌, ◌≤◌, ◌≡◌, refl, Bool, true, false, cond, ◌&&◌, ◌||◌, ◌⊎◌, List, [], ◌∷◌, eqb, ℤ, pos, negsuc, get_or, length}
use Rattle.std.proofs.Common.{arith, not-suc-le-zero, sym, ap, subst, ◌∙◌, inl, inr, eq-eqb, ne_eqb}
use Rattle.std.proofs.Math.Decide.{dec_lt}
use Rattle.std.proofs.Math.Option.{Option, none, some}
use Rattle.std.specs.Int.Signed.{non_neg}
use Rattle.paper_expressions.proofs.Laws.Search.{no_clash}
use Rattle.paper_expressions.proofs.Laws.Tests.{contra}
use Rattle.paper_expressions.proofs.Laws.Soundness.{of_one, of_texts, of_integers, of_reals, no_text_list, no_integer_list, no_real_list}
use Rattle.paper_expressions.specs.Values.{Scalar, unknown, truth, integer, real, text, Value, one, sequence}
use Rattle.paper_expressions.specs.Types.{Ty, Text, Integer, Real, SetofText, SetofInteger, SetofReal, Declared, a_text, an_integer, a_boolean, a_datetime, a_date, a_time, a_real, a_setof_text, a_setof_integer, a_setof_real, inferred, OfScalar, unknown_of_any, integer-of, integer_counts_as_real, real_of, text_of, Element, element_text, element_integer, element_real, EachOf, each_none, each_more, Of, of_scalar, of_list}
use Rattle.parts.specs.Codes.{declared_code}
use Rattle.parts.specs.Texts.{text_at_fn}
use Rattle.waits.specs.Booleans.{Tests, is_as}
use Rattle.paper_rows.proofs.Laws.Booleans.{is_yes, is_no}
use Rattle.value_given.specs.Given.{is_one, text_given, element_given, lent_f, element-at, as_one, as-list, given}
use Rattle.value_given.specs.Cells.{listed, elements_if, same_scalar, given_one, given_list, one_told, list_told}

-- what is given is unknown or a value of the declared type d
abbrev pub Typed : List ℕ → List ℤ → List ℕ → Declared → Type 0
Typed t n b d = (w : Value) × (given t n b ≡ some w) × Of w (inferred d)

-- k the number of the declared type
abbrev pub TypedBy : List ℕ → List ℤ → ℕ → Bool → Type 0
TypedBy t n k r = (d : Declared) → k ≡ declared_code d → (b : List ℕ) → Tests r (Typed t n b d)

-- ---- kinds: what one value, and what each element of a list has to be

abbrev pub one_kind : ℕ → ℕ
one_kind k =
    cond (eqb k 1) 1 (cond (eqb k 2) 2 (cond (eqb k 3) 1 (cond (eqb k 4) 7 (cond (eqb k 5) 7 (cond (eqb k 6) 7 (cond (eqb k 7) 7 0))))))

abbrev pub each_kind : ℕ → ℕ
each_kind k = cond (eqb k 8) 1 (cond (eqb k 9) 2 (cond (eqb k 10) 7 0))

-- the kinds of the types that a data item can have: of a set, that of nothing but unknown
pub data IsKind : ℕ → Ty → Type 0 where
  text_kind : IsKind 1 Text
  integer_kind : IsKind 2 Integer
  real_kind : IsKind 7 Real
  texts_kind : IsKind 0 SetofText
  integers_kind : IsKind 0 SetofInteger
  reals_kind : IsKind 0 SetofReal

its_kind : (d : Declared) → IsKind (one_kind (declared_code d)) (inferred d)
its_kind a_text = text_kind
its_kind an_integer = integer_kind
its_kind a_boolean = text_kind
its_kind a_datetime = real_kind
its_kind a_date = real_kind
its_kind a_time = real_kind
its_kind a_real = real_kind
its_kind a_setof_text = texts_kind
its_kind a_setof_integer = integers_kind
its_kind a_setof_real = reals_kind

-- a set, and what its elements have to be
pub record OfSet (t : Ty) (e : ℕ) : Type 0 where
  pub type : Ty
  pub element : Element t type
  pub kind : IsKind e type

-- no list is of the type, or it is a set
its_elements : (d : Declared) → ((each_kind (declared_code d) ≡ 0) × ((l : List Scalar) → ¬ Of (sequence l) (inferred d))) ⊎ OfSet (inferred d) (each_kind (declared_code d))
its_elements a_text = inl (refl, λ l. no_text_list)
its_elements an_integer = inl (refl, λ l. no_integer_list)
its_elements a_boolean = inl (refl, λ l. no_text_list)
its_elements a_datetime = inl (refl, λ l. no_real_list)
its_elements a_date = inl (refl, λ l. no_real_list)
its_elements a_time = inl (refl, λ l. no_real_list)
its_elements a_real = inl (refl, λ l. no_real_list)
its_elements a_setof_text = inr (record { type = Text; element = element_text; kind = text_kind })
its_elements a_setof_integer = inr (record { type = Integer; element = element_integer; kind = integer_kind })
its_elements a_setof_real = inr (record { type = Real; element = element_real; kind = real_kind })

-- ---- one element

abbrev fits : ℕ → Scalar → Bool
fits e unknown = true
fits e (truth x) = false
fits e (integer z) = eqb e 2 || eqb e 7
fits e (real z) = eqb e 7
fits e (text s) = eqb e 1

fits_is : {e : ℕ} {T : Ty} → IsKind e T → (s : Scalar) → Tests (fits e s) (OfScalar s T)
fits_is k unknown = is_yes unknown_of_any
fits_is text_kind (truth x) = is_no (λ h. elim h [ ])
fits_is text_kind (integer z) = is_no (λ h. elim h [ ])
fits_is text_kind (real z) = is_no (λ h. elim h [ ])
fits_is text_kind (text s) = is_yes text_of
fits_is integer_kind (truth x) = is_no (λ h. elim h [ ])
fits_is integer_kind (integer z) = is_yes integer-of
fits_is integer_kind (real z) = is_no (λ h. elim h [ ])
fits_is integer_kind (text s) = is_no (λ h. elim h [ ])
fits_is real_kind (truth x) = is_no (λ h. elim h [ ])
fits_is real_kind (integer z) = is_yes integer_counts_as_real
fits_is real_kind (real z) = is_yes real_of
fits_is real_kind (text s) = is_no (λ h. elim h [ ])
fits_is texts_kind (truth x) = is_no (λ h. elim h [ ])
fits_is texts_kind (integer z) = is_no (λ h. elim h [ ])
fits_is texts_kind (real z) = is_no (λ h. elim h [ ])
fits_is texts_kind (text s) = is_no (λ h. elim h [ ])
fits_is integers_kind (truth x) = is_no (λ h. elim h [ ])
fits_is integers_kind (integer z) = is_no (λ h. elim h [ ])
fits_is integers_kind (real z) = is_no (λ h. elim h [ ])
fits_is integers_kind (text s) = is_no (λ h. elim h [ ])
fits_is reals_kind (truth x) = is_no (λ h. elim h [ ])
fits_is reals_kind (integer z) = is_no (λ h. elim h [ ])
fits_is reals_kind (real z) = is_no (λ h. elim h [ ])
fits_is reals_kind (text s) = is_no (λ h. elim h [ ])

-- an element of the kind e, by its tag and number
abbrev pub kind_f : ℕ → ℕ → ℤ → Bool
kind_f e k z =
    cond (eqb k 0) true
    (cond (eqb k 1) false
    (cond (eqb k 2) (eqb e 2 || eqb e 7)
    (cond (eqb k 3) (eqb e 7)
    (cond (eqb k 4) (eqb e 1 && non_neg z)
    false))))

-- the element is there, and of the type
abbrev Fitting : Option Scalar → Ty → Type 0
Fitting o T = (s : Scalar) × (o ≡ some s) × OfScalar s T

of_given : {e : ℕ} {T : Ty} → IsKind e T → (s : Scalar) → Tests (fits e s) (Fitting (some s) T)
of_given {T = T} i s = is_as (λ h. (s, refl, h)) (λ h. subst (λ (x : Scalar). OfScalar x T) (sym (same_scalar h.1)) h.2) (fits_is i s)

of_none : {T : Ty} → Tests false (Fitting none T)
of_none = is_no (λ h. (let e = h.1 in no_clash (cc)))

of_text : {e : ℕ} {T : Ty} (b : List ℕ) (z : ℤ) → IsKind e T → Tests (eqb e 1 && non_neg z) (Fitting (text_given b z) T)
of_text {e} {T} b (pos n) i = go (eqb e 1) refl
  where
    go : (a : Bool) → eqb e 1 ≡ a → Tests (a && true) (Fitting (some (text (text_at_fn b n))) T)
    go true q = is_as (λ h. h) (λ h. h) (subst (λ (a : Bool). Tests a (Fitting (some (text (text_at_fn b n))) T)) q (of_given i (text (text_at_fn b n))))
    go false q = subst (λ (a : Bool). Tests a (Fitting (some (text (text_at_fn b n))) T)) q (of_given i (text (text_at_fn b n)))
of_text {e} {T} b (negsuc n) i = go (eqb e 1)
  where
    go : (a : Bool) → Tests (a && false) (Fitting none T)
    go true = of_none
    go false = of_none

kind_by : {e : ℕ} {T : Ty} (b : List ℕ) (z : ℤ) → IsKind e T → (k0 k1 k2 k3 k4 : Bool)
    → Tests (cond k0 true (cond k1 false (cond k2 (eqb e 2 || eqb e 7) (cond k3 (eqb e 7) (cond k4 (eqb e 1 && non_neg z) false)))))
    (Fitting (cond k0 (some unknown) (cond k1 (some (truth (is_one z))) (cond k2 (some (integer z)) (cond k3 (some (real z)) (cond k4 (text_given b z) none))))) T)
kind_by b z i true k1 k2 k3 k4 = of_given i unknown
kind_by b z i false true k2 k3 k4 = of_given i (truth (is_one z))
kind_by b z i false false true k3 k4 = of_given i (integer z)
kind_by b z i false false false true k4 = of_given i (real z)
kind_by b z i false false false false true = of_text b z i
kind_by b z i false false false false false = of_none

-- what the code finds
pub takes_yes : (e : ℕ) → e ≡ 2 → true ≡ (eqb e 2 || eqb e 7)
takes_yes e q = sym (rw (eq-eqb e 2 q) refl)

pub takes_no : (e : ℕ) → ¬ (e ≡ 2) → eqb e 7 ≡ (eqb e 2 || eqb e 7)
takes_no e q = sym (rw (ne_eqb e 2 q) refl)

pub text_yes : (e : ℕ) (z : ℤ) {r : Bool} → e ≡ 1 → r ≡ non_neg z → r ≡ (eqb e 1 && non_neg z)
text_yes e z q f = f ∙ sym (rw (eq-eqb e 1 q) refl)

pub text_no : (e : ℕ) (z : ℤ) → ¬ (e ≡ 1) → false ≡ (eqb e 1 && non_neg z)
text_no e z q = sym (rw (ne_eqb e 1 q) refl)

-- an element of the kind e, by its cell
abbrev pub of_f : List ℕ → List ℤ → ℕ → ℕ → Bool
of_f t n e i = lent_f t n i && kind_f e (get_or t i 0) (get_or n i (pos 0))

of_is : {e : ℕ} {T : Ty} (t : List ℕ) (n : List ℤ) (b : List ℕ) (i : ℕ) → IsKind e T → Tests (of_f t n e i) (Fitting (element-at t n b i) T)
of_is {e} {T} t n b i h = go (lent_f t n i)
  where
    go : (a : Bool) → Tests (a && kind_f e (get_or t i 0) (get_or n i (pos 0))) (Fitting (cond a (element_given b (get_or t i 0) (get_or n i (pos 0))) none) T)
    go true = kind_by b (get_or n i (pos 0)) h (eqb (get_or t i 0) 0) (eqb (get_or t i 0) 1) (eqb (get_or t i 0) 2) (eqb (get_or t i 0) 3) (eqb (get_or t i 0) 4)
    go false = of_none

-- what the code finds
pub of_lent : (t : List ℕ) (n : List ℤ) (e i : ℕ) {a r : Bool} {k : ℕ} {z : ℤ} → a ≡ lent_f t n i → a ≡ true → k ≡ get_or t i 0 → z ≡ get_or n i (pos 0) → r ≡ kind_f e k z → r ≡ of_f t n e i
of_lent t n e i {k = k} {z} p q f g h = h ∙ ap (λ (y : ℕ). kind_f e y z) f ∙ ap (kind_f e (get_or t i 0)) g ∙ sym (ap (λ (y : Bool). y && kind_f e (get_or t i 0) (get_or n i (pos 0))) (sym p ∙ q))

pub of_missing : (t : List ℕ) (n : List ℤ) (e i : ℕ) {a : Bool} → a ≡ lent_f t n i → a ≡ false → false ≡ of_f t n e i
of_missing t n e i p q = sym (ap (λ (y : Bool). y && kind_f e (get_or t i 0) (get_or n i (pos 0))) (sym p ∙ q))

-- ---- one value

pub typed_one : (t : List ℕ) (n : List ℤ) (k : ℕ) {x e : ℕ} {r : Bool} → x ≡ get_or t 0 0 → x ≡ 0 → e ≡ one_kind k → r ≡ of_f t n e 1 → TypedBy t n k r
typed_one t n k {x} {e} {r} p q f h d c b =
    subst (λ (y : Bool). Tests y (Typed t n b d)) (sym (h ∙ ap (λ (y : ℕ). of_f t n y 1) (f ∙ ap one_kind c)))
    (is_as to back (of_is t n b 1 (its_kind d)))
  where
    to : Fitting (element-at t n b 1) (inferred d) → Typed t n b d
    to (s, g, i) = (one s, given_one t n b p q ∙ ap as_one g, of_scalar i)

    back : Typed t n b d → Fitting (element-at t n b 1) (inferred d)
    back (w, g, i) = let z = one_told t n b p q g in (z.0, z.1, of_one (subst (λ (y : Value). Of y (inferred d)) z.2 i))

-- ---- a list

pub typed_no_list : (t : List ℕ) (n : List ℤ) (k : ℕ) {x e : ℕ} → x ≡ get_or t 0 0 → ¬ (x ≡ 0) → e ≡ each_kind k → e ≡ 0 → TypedBy t n k false
typed_no_list t n k {x} {e} p q f h d c b = is_no (λ y. no_list y (its_elements d))
  where
    zero_kind : each_kind (declared_code d) ≡ 0
    zero_kind = sym (f ∙ ap each_kind c) ∙ h

    no_list : Typed t n b d → ((each_kind (declared_code d) ≡ 0) × ((l : List Scalar) → ¬ Of (sequence l) (inferred d))) ⊎ OfSet (inferred d) (each_kind (declared_code d)) → ⊥
    no_list (w, g, i) (inl m) = let z = list_told t n b p q g in m.1 z.0 (subst (λ (y : Value). Of y (inferred d)) z.2 i)
    no_list (w, g, i) (inr m) = no_set m.element (subst (λ (y : ℕ). IsKind y m.type) zero_kind m.kind)
      where
        no_set : {T E : Ty} → Element T E → ¬ IsKind 0 E
        no_set element_text h = elim h [ ]
        no_set element_integer h = elim h [ ]
        no_set element_real h = elim h [ ]

of_elements : {T E : Ty} {l : List Scalar} → Element T E → Of (sequence l) T → EachOf E l
of_elements element_text h = of_texts h
of_elements element_integer h = of_integers h
of_elements element_real h = of_reals h

each_at : {E : Ty} {l : List Scalar} → EachOf E l → (j : ℕ) → j < length l → OfScalar (get_or l j unknown) E
each_at each_none j l = absurd (not-suc-le-zero l)
each_at (each_more h k) zero l = h
each_at (each_more h k) (suc j) l = each_at k j (omega arith)

each_if : {E : Ty} (l : List Scalar) → ((j : ℕ) → j < length l → OfScalar (get_or l j unknown) E) → EachOf E l
each_if [] f = each_none
each_if (s ∷ l) f = each_more (f 0 (omega arith)) (each_if l (λ j i. f (suc j) (omega arith)))

pub typed_list : (t : List ℕ) (n : List ℤ) (k : ℕ) {x e : ℕ} {r : Bool} → x ≡ get_or t 0 0 → ¬ (x ≡ 0) → e ≡ each_kind k → ¬ (e ≡ 0) → Tests r ((j : ℕ) → j < x - 1 → of_f t n e (1 + j) ≡ true) → TypedBy t n k r
typed_list t n k {x} {e} {r} p q f h m d c b = go (its_elements d)
  where
    same : e ≡ each_kind (declared_code d)
    same = f ∙ ap each_kind c

    go : ((each_kind (declared_code d) ≡ 0) × ((l : List Scalar) → ¬ Of (sequence l) (inferred d))) ⊎ OfSet (inferred d) (each_kind (declared_code d)) → Tests r (Typed t n b d)
    go (inl z) = absurd (h (same ∙ z.0))
    go (inr z) = is_as to back m
      where
        kind : IsKind e z.type
        kind = subst (λ (y : ℕ). IsKind y z.type) (sym same) z.kind

        to : ((j : ℕ) → j < x - 1 → of_f t n e (1 + j) ≡ true) → Typed t n b d
        to a =
            let u = elements_if t n b 1 (x - 1) (λ j i. (let y = (of_is t n b (1 + j) kind).0 (a j i) in (y.0, y.1))) in
            let v = listed t n b 1 (x - 1) u.1 in
            let s = v.size in (
              sequence u.0,
              given_list t n b p q ∙ ap as-list u.1,
              of_list z.element (each_if u.0 (λ j i. (let o : j < x - 1 = omega arith in let y = (of_is t n b (1 + j) kind).0 (a j o) in subst (λ (s : Scalar). OfScalar s z.type) (same_scalar (sym y.1 ∙ v.each j o)) y.2))),
            )

        back : Typed t n b d → (j : ℕ) → j < x - 1 → of_f t n e (1 + j) ≡ true
        back (w, g, i) j l =
            let u = list_told t n b p q g in
            let v = listed t n b 1 (x - 1) u.1 in
            let s = v.size in
            (of_is t n b (1 + j) kind).1 (get_or u.0 j unknown, v.each j l, each_at (of_elements z.element (subst (λ (y : Value). Of y (inferred d)) u.2 i)) j (omega arith))

-- ---- the loop: the cells passed

abbrev pub AllOf : List ℕ → List ℤ → ℕ → ℕ → Type 0
AllOf t n e i = (j : ℕ) → 1 + j < i → of_f t n e (1 + j) ≡ true

pub all_none : (t : List ℕ) (n : List ℤ) (e : ℕ) → AllOf t n e 1
all_none t n e j l = absurd (let z : ⊥ = omega arith in z)

pub all_more : (t : List ℕ) (n : List ℤ) (e i : ℕ) {r : Bool} → r ≡ of_f t n e i → r ≡ true → AllOf t n e i → AllOf t n e (i + 1)
all_more t n e i {r} p q h j l = go (dec_lt (1 + j) i)
  where
    go : Dec (1 + j < i) → of_f t n e (1 + j) ≡ true
    go (yes m) = h j m
    go (no m) = let z : 1 + j ≡ i = omega arith in ap (of_f t n e) z ∙ sym p ∙ q

pub all_not : (t : List ℕ) (n : List ℤ) (e i x : ℕ) {r : Bool} → 1 ≤ i → i < x → r ≡ of_f t n e i → r ≡ false → Tests false ((j : ℕ) → j < x - 1 → of_f t n e (1 + j) ≡ true)
all_not t n e i x l m p q = is_no (λ h. (let z : 1 + (i - 1) ≡ i = omega arith in contra (sym q ∙ p ∙ sym (ap (of_f t n e) z) ∙ h (i - 1) (omega arith))))

pub all_all : (t : List ℕ) (n : List ℤ) (e i x : ℕ) → x ≤ i → AllOf t n e i → Tests true ((j : ℕ) → j < x - 1 → of_f t n e (1 + j) ≡ true)
all_all t n e i x l h = is_yes (λ j m. h j (omega arith))
