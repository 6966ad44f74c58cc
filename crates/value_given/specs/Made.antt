-- The value that the code makes means the one that is given, where that is within the limits. By the cells, one by one.
use Rattle.std.specs.Prelude.{ℕ, suc, ◌+◌, ◌-◌, ◌<◌, ◌≤◌, ◌≡◌, Bool, true, false, cond, List, [], ◌∷◌, ◌++◌, map, eqb, ℤ, pos, negsuc, nat_abs, get_or, take}
use Rattle.std.proofs.Common.{arith, sym, ap, ap₂, subst, ◌∙◌, take-suc, take_all, le-leb}
use Rattle.std.proofs.Math.Option.{none, some}
use Rattle.paper_expressions.specs.Limits.{integer_limit, real_limit}
use Rattle.paper_expressions.proofs.Laws.Search.{no_clash}
use Rattle.paper_expressions.specs.Values as paper
use Rattle.paper_expressions.specs.Values.{one, sequence}
use Rattle.paper_calls.specs.Calls.{SmallScalar, small_integer, small_real, Small}
use Rattle.values.specs.declared.scalar.Scalar.{Scalar}
use Rattle.values.specs.declared.scalar.Scalar.TheVariants.{Unknown, Truth, Text}
use Rattle.values.specs.declared.list.List as Code
use Rattle.values.specs.declared.value.Value.{Value}
use Rattle.values.specs.Meaning.{meaning, held, meaning_l, meaning_v, handle_of, integer_of, real_of_fn, Pushed}
use Rattle.operators.specs.Comes.{single_is}
use Rattle.evaluator.specs.Lists.{many_is}
use Rattle.value_given.specs.Given.{is_one, handle_given, text_given, element_given, element-at, elements, given}
use Rattle.value_given.specs.Cells.{at_given, listed, same_scalar, one_told, list_told}
use Rattle.value_given.specs.Bounds.{EachSmall, one_small, list_small}

abbrev pub ValueMade : List ℕ → List ℤ → Value → Type 0
ValueMade t n r = (b : List ℕ) (w : paper.Value) → given t n b ≡ some w → Small w → meaning_v b r ≡ w

-- ---- one element

abbrev pub scalar_f : ℕ → ℤ → Scalar
scalar_f k z =
    cond (eqb k 0) Unknown
    (cond (eqb k 1) (Truth (is_one z))
    (cond (eqb k 2) (integer_of z)
    (cond (eqb k 3) (real_of_fn z)
    (cond (eqb k 4) (Text (handle_of (handle_given z)))
    Unknown))))

abbrev pub at_f : List ℕ → List ℤ → ℕ → Scalar
at_f t n i = scalar_f (get_or t i 0) (get_or n i (pos 0))

integer_means : (b : List ℕ) (z : ℤ) → SmallScalar (paper.integer z) → meaning b (integer_of z) ≡ paper.integer z
integer_means b z (small_integer h) = rw (le-leb (nat_abs z) integer_limit h)

real_means : (b : List ℕ) (z : ℤ) → SmallScalar (paper.real z) → meaning b (real_of_fn z) ≡ paper.real z
real_means b z (small_real h) = rw (le-leb (nat_abs z) real_limit h)

text_means : (b : List ℕ) (z : ℤ) {s : paper.Scalar} → text_given b z ≡ some s → meaning b (Text (handle_of (handle_given z))) ≡ s
text_means b (pos n) e = same_scalar e
text_means b (negsuc n) e = absurd (no_clash (cc))

means : (b : List ℕ) (k : ℕ) (z : ℤ) {s : paper.Scalar} → element_given b k z ≡ some s → SmallScalar s → meaning b (scalar_f k z) ≡ s
means b k z {s} e h = go (eqb k 0) (eqb k 1) (eqb k 2) (eqb k 3) (eqb k 4) e
  where
    go : (k0 k1 k2 k3 k4 : Bool) → cond k0 (some paper.unknown) (cond k1 (some (paper.truth (is_one z))) (cond k2 (some (paper.integer z)) (cond k3 (some (paper.real z)) (cond k4 (text_given b z) none)))) ≡ some s
        → meaning b (cond k0 Unknown (cond k1 (Truth (is_one z)) (cond k2 (integer_of z) (cond k3 (real_of_fn z) (cond k4 (Text (handle_of (handle_given z))) Unknown))))) ≡ s
    go true k1 k2 k3 k4 g = same_scalar g
    go false true k2 k3 k4 g = same_scalar g
    go false false true k3 k4 g = integer_means b z (subst SmallScalar (sym (same_scalar g)) h) ∙ same_scalar g
    go false false false true k4 g = real_means b z (subst SmallScalar (sym (same_scalar g)) h) ∙ same_scalar g
    go false false false false true g = text_means b z g
    go false false false false false g = absurd (no_clash (cc))

pub at_made : (t : List ℕ) (n : List ℤ) (i : ℕ) {k : ℕ} {z : ℤ} {r : Scalar} → k ≡ get_or t i 0 → z ≡ get_or n i (pos 0) → r ≡ scalar_f k z → r ≡ at_f t n i
at_made t n i {z = z} e f g = g ∙ ap (λ (y : ℕ). scalar_f y z) e ∙ ap (scalar_f (get_or t i 0)) f

at_means : (t : List ℕ) (n : List ℤ) (b : List ℕ) (i : ℕ) {s : paper.Scalar} {r : Scalar} → r ≡ at_f t n i → element-at t n b i ≡ some s → SmallScalar s → meaning b r ≡ s
at_means t n b i q e h = ap (meaning b) q ∙ means b (get_or t i 0) (get_or n i (pos 0)) (at_given t n b i e) h

-- ---- a list, of the shape x

abbrev pub ListMade : List ℕ → List ℤ → ℕ → Code.List → Type 0
ListMade t n x r = (b : List ℕ) (l : List paper.Scalar) → elements t n b 1 (x - 1) ≡ some l → EachSmall (x - 1) l → meaning_l b r ≡ l

-- the cells below i are in it
abbrev pub Upto : List ℕ → List ℤ → ℕ → ℕ → Code.List → Type 0
Upto t n x i r = (b : List ℕ) (l : List paper.Scalar) → elements t n b 1 (x - 1) ≡ some l → EachSmall (x - 1) l → meaning_l b r ≡ take (i - 1) l

pub upto_none : (t : List ℕ) (n : List ℤ) (x : ℕ) (r : Code.List) → r.n ≡ 0 → Upto t n x 1 r
upto_none t n x r e b l f h = ap (λ (y : ℕ). map (held b) (take y r.items)) e

pub upto_more : (t : List ℕ) (n : List ℤ) (x i : ℕ) (q r : Code.List) {s : Scalar} → 1 ≤ i → i < x → s ≡ at_f t n i → Pushed q s r → Upto t n x i q → Upto t n x (i + 1) r
upto_more t n x i q r {s} low high e p u b l f h =
    let v = listed t n b 1 (x - 1) f in
    let z = v.size in
    let a : 1 + (i - 1) ≡ i = omega arith in
    let c : suc (i - 1) ≡ i + 1 - 1 = omega arith in
    let m = at_means t n b i e (ap (element-at t n b) (sym a) ∙ v.each (i - 1) (omega arith)) (h (i - 1) (omega arith)) in
    p.means b ∙ ap₂ (λ (y : List paper.Scalar) (k : paper.Scalar). y ++ (k ∷ [])) (u b l f h) m
    ∙ sym (take-suc l (i - 1) paper.unknown (omega arith)) ∙ ap (λ (y : ℕ). take y l) c

pub list_made : (t : List ℕ) (n : List ℤ) (x i : ℕ) (r : Code.List) → x ≤ i → Upto t n x i r → ListMade t n x r
list_made t n x i r m u b l f h = let z = (listed t n b 1 (x - 1) f).size in u b l f h ∙ take_all (i - 1) l (omega arith)

-- ---- the value

module _ (t : List ℕ) (n : List ℤ) (r : Value) {x : ℕ} (read : x ≡ get_or t 0 0) where
  pub value_one : {s : Scalar} → x ≡ 0 → s ≡ at_f t n 1 → (r.many ≡ false) × (r.one ≡ s) → ValueMade t n r
  value_one e f m b w g h =
      let u = one_told t n b read e g in
      single_is b r m ∙ ap one (at_means t n b 1 f u.1 (one_small (subst Small u.2 h))) ∙ sym u.2

  pub value_long : 17 < x → ValueMade t n r
  value_long l b w g h =
      let u = list_told t n b read (λ e. omega arith) g in
      let v = (listed t n b 1 (x - 1) u.1).size in
      let m = (list_small (subst Small u.2 h)).0 in
      absurd (let z : ⊥ = omega arith in z)

  pub value_list : {q : Code.List} → ¬ (x ≡ 0) → ListMade t n x q → (r.many ≡ true) × (r.list ≡ q) → ValueMade t n r
  value_list e f m b w g h =
      let u = list_told t n b read e g in
      let v = (listed t n b 1 (x - 1) u.1).size in
      many_is b r m ∙ ap sequence (f b u.0 u.1 (λ j i. (list_small (subst Small u.2 h)).1 j (omega arith))) ∙ sym u.2
