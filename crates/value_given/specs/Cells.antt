-- What the code reads of a cell that is lent, and the elements of a list one by one. By the cells.
use Prim.Native.Nat.{ℕ, zero, suc, ◌+◌, ◌-◌, ◌<◌, ◌≤◌}
use native.Mathlib.Omega.{arith}
use Rattle.std.proofs.Common.{not-suc-le-zero, sym, ap₂, subst, ◌∙◌, lt-ltb, le-ltb}
use Rattle.std.specs.Prelude.{◌≡◌, refl, Bool, true, false, cond, List, [], ◌∷◌, ltb, ℤ, pos, negsuc, nat_abs, get_or, length}
use Rattle.std.proofs.Math.Path.{ap}
use Rattle.std.proofs.Math.Option.{Option, none, some}
use Rattle.paper_expressions.proofs.Laws.Search.{no_clash}
use Rattle.paper_expressions.proofs.Laws.Tests.{contra}
use Rattle.paper_expressions.specs.Values.{Scalar, unknown, Value, one, sequence}
use Rattle.std.specs.Int.Signed.{lt_z, non_neg}
use Rattle.value_given.specs.Given.{handle_given, element_given, lent_f, element-at, elements, before, as_one, as-list, shaped, given}

-- ---- a cell

pub lent_in : (t : List ℕ) (n : List ℤ) (i : ℕ) → i < length t → ltb i (length n) ≡ lent_f t n i
lent_in t n i l = sym (rw (lt-ltb i (length t) l) refl)

pub lent_out : (t : List ℕ) (n : List ℤ) (i : ℕ) → length t ≤ i → false ≡ lent_f t n i
lent_out t n i l = sym (rw (le-ltb i (length t) l) refl)

pub below_zero : (z : ℤ) → lt_z z (pos 0) ≡ true → (non_neg z ≡ false) × (handle_given z ≡ 0)
below_zero (pos n) e = contra (sym (le-ltb n 0 (omega arith)) ∙ e)
below_zero (negsuc n) e = (refl, refl)

pub not_below_zero : (z : ℤ) → lt_z z (pos 0) ≡ false → (non_neg z ≡ true) × (nat_abs z ≡ handle_given z)
not_below_zero (pos n) e = (refl, refl)
not_below_zero (negsuc n) e = contra (sym e)

-- what a cell that is lent gives
pub at_given : (t : List ℕ) (n : List ℤ) (b : List ℕ) (i : ℕ) {s : Scalar} → element-at t n b i ≡ some s → element_given b (get_or t i 0) (get_or n i (pos 0)) ≡ some s
at_given t n b i {s} e = go (lent_f t n i) e
  where
    go : (a : Bool) → cond a (element_given b (get_or t i 0) (get_or n i (pos 0))) none ≡ some s → element_given b (get_or t i 0) (get_or n i (pos 0)) ≡ some s
    go true k = k
    go false k = absurd (no_clash (cc))

-- ---- a list is given exactly if each of its elements is

-- the j-th element of l is in the cell p + j
pub record Listed (t : List ℕ) (n : List ℤ) (b : List ℕ) (p m : ℕ) (l : List Scalar) : Type 0 where
  pub size : length l ≡ m
  pub each : (j : ℕ) → j < m → element-at t n b (p + j) ≡ some (get_or l j unknown)

split : {o : Option Scalar} {q : Option (List Scalar)} {l : List Scalar} → before o q ≡ some l → (s : Scalar) × (r : List Scalar) × (o ≡ some s) × (q ≡ some r) × (l ≡ s ∷ r)
split {o = none} e = absurd (no_clash (cc))
split {o = some s} {q = none} e = absurd (no_clash (cc))
split {o = some s} {q = some r} e = (s, r, refl, refl, cc)

pub listed : (t : List ℕ) (n : List ℤ) (b : List ℕ) (p m : ℕ) {l : List Scalar} → elements t n b p m ≡ some l → Listed t n b p m l
listed t n b p zero {l} e = record { size = let z : l ≡ [] = cc in ap length z; each = λ j i. absurd (not-suc-le-zero i) }
listed t n b p (suc m) {l} e =
    let z = split e in
    let h = listed t n b (suc p) m z.3 in
    subst (Listed t n b p (suc m)) (sym z.4) (record { size = ap suc h.size; each = each z.2 h })
  where
    each : {s : Scalar} {r : List Scalar} → element-at t n b p ≡ some s → Listed t n b (suc p) m r → (j : ℕ) → j < suc m → element-at t n b (p + j) ≡ some (get_or (s ∷ r) j unknown)
    each d h zero i = let a : p + 0 ≡ p = omega arith in ap (element-at t n b) a ∙ d
    each d h (suc j) i = let a : p + suc j ≡ suc p + j = omega arith in ap (element-at t n b) a ∙ h.each j (omega arith)

pub elements_if : (t : List ℕ) (n : List ℤ) (b : List ℕ) (p m : ℕ) → ((j : ℕ) → j < m → (s : Scalar) × (element-at t n b (p + j) ≡ some s)) → (l : List Scalar) × (elements t n b p m ≡ some l)
elements_if t n b p zero f = ([], refl)
elements_if t n b p (suc m) f =
    let x = f 0 (omega arith) in
    let r = elements_if t n b (suc p) m (λ j i. (let a : p + suc j ≡ suc p + j = omega arith in let y = f (suc j) (omega arith) in (y.0, ap (element-at t n b) (sym a) ∙ y.1))) in
    let a : p + 0 ≡ p = omega arith in
    (x.0 ∷ r.0, ap₂ before (ap (element-at t n b) (sym a) ∙ x.1) r.1)

-- ---- what is given, by its shape

same_value : {v w : Value} → some v ≡ some w → v ≡ w
same_value e = cc

pub same_scalar : {v w : Scalar} → some v ≡ some w → v ≡ w
same_scalar e = cc

one_of : {o : Option Scalar} {w : Value} → as_one o ≡ some w → (s : Scalar) × (o ≡ some s) × (w ≡ one s)
one_of {o = none} e = absurd (no_clash (cc))
one_of {o = some s} e = (s, refl, sym (same_value e))

list_of : {o : Option (List Scalar)} {w : Value} → as-list o ≡ some w → (l : List Scalar) × (o ≡ some l) × (w ≡ sequence l)
list_of {o = none} e = absurd (no_clash (cc))
list_of {o = some l} e = (l, refl, sym (same_value e))

module _ (t : List ℕ) (n : List ℤ) (b : List ℕ) {k : ℕ} (read : k ≡ get_or t 0 0) where
  pub given_one : k ≡ 0 → given t n b ≡ as_one (element-at t n b 1)
  unfolding given
  given_one e = ap (shaped t n b) (sym read ∙ e)

  pub given_list : ¬ (k ≡ 0) → given t n b ≡ as-list (elements t n b 1 (k - 1))
  unfolding given
  given_list e = let z : k ≡ suc (k - 1) = omega arith in ap (shaped t n b) (sym read ∙ z)

  pub one_told : {w : Value} → k ≡ 0 → given t n b ≡ some w → (s : Scalar) × (element-at t n b 1 ≡ some s) × (w ≡ one s)
  one_told e g = one_of (sym (given_one e) ∙ g)

  pub list_told : {w : Value} → ¬ (k ≡ 0) → given t n b ≡ some w → (l : List Scalar) × (elements t n b 1 (k - 1) ≡ some l) × (w ≡ sequence l)
  list_told e g = list_of (sym (given_list e) ∙ g)
