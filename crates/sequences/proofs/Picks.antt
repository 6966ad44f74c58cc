-- count and nth: the code's tests are the definitions'.
use mathlib.Core.Path.{◌≡◌, refl, sym, ap, ◌∙◌}
use mathlib.Core.Bool.{true, false}
use mathlib.Core.List.{List, [], ◌∷◌}
use Prim.Native.Nat.{ℕ, zero, suc, ◌-◌, ◌≤◌, ◌<◌}
use native.Mathlib.Omega.{arith}
use lib.IntN.{ℤ, pos, negsuc, nat_abs}
use lib.Signed.{lt_z}
use lib.ListN.{length}
use borrow.Author.Tests.{lt-ltb, le-leb}
use Rattle.paper_expressions.specs.Limits.{integer_limit}
use Rattle.paper_expressions.specs.Values as paper
use Rattle.paper_expressions.specs.Values.{one, sequence}
use Rattle.paper_expressions.specs.Operators as section-11
use Rattle.paper_expressions.proofs.Laws.Search.{no_clash}
use Rattle.paper_expressions.proofs.Laws.Only as only
use Rattle.paper_expressions.proofs.Laws.Only.{count_f, nth_l}
use Rattle.values.specs.declared.scalar.Scalar.{Scalar}
use Rattle.values.specs.declared.list.List as Code
use Rattle.values.specs.declared.value.Value.{Value}
use Rattle.values.specs.Meaning.{meaning, meaning_l, meaning_v, at, size_of, scalar_of, integer_of}
use Rattle.values.proofs.Lists.{element_is, size_is}
use Rattle.operators.specs.Means.{meanings}
use Rattle.operators.specs.Comes.{given, comes, lowered, lowered_is}

-- ---- count

length_is : (l : List paper.Scalar) → one (paper.integer (pos (length l))) ≡ given (count_f (sequence l))
length_is [] = refl
length_is (s ∷ l) = refl

pub count_list : (bs : List ℕ) (a : Value) {s : Scalar} {w : ℤ} {n : ℕ} → a.many ≡ true → s ≡ integer_of w → w ≡ pos n → n ≡ size_of a.list → n ≤ 16
    → one (meaning bs s) ≡ comes section-11.count (meanings bs (a ∷ []))
count_list bs a {n} e f g h k =
    ap (λ (x : Scalar). one (meaning bs x)) (f ∙ ap integer_of g)
    ∙ rw (le-leb n integer_limit (omega arith)) (ap (λ (m : ℕ). one (paper.integer (pos m))) (h ∙ sym (size_is bs a.list)) ∙ length_is (meaning_l bs a.list) ∙ sym (rw e))

pub count_scalar : (bs : List ℕ) (a : Value) → a.many ≡ false → one paper.unknown ≡ comes section-11.count (meanings bs (a ∷ []))
count_scalar bs a e = sym (rw e)

-- ---- nth: a number of at least 1 is one more than what it counts from 0

counted : (z : ℤ) → lt_z z (pos 1) ≡ false → z ≡ pos (suc (nat_abs z - 1))
counted (pos zero) e = absurd (no_clash (cc))
counted (pos (suc n)) e = ap (λ (k : ℕ). pos (suc k)) (let h : n ≡ suc n - 1 = omega arith in h)
counted (negsuc n) e = absurd (no_clash (cc))

module _ (bs : List ℕ) (l : Code.List) (z : ℤ) {i : ℕ} (e : lt_z z (pos 1) ≡ false) (f : i ≡ nat_abs z - 1) where
  place : given (only.at (meaning_l bs l) (pos (suc i))) ≡ given (only.at (meaning_l bs l) z)
  place = sym (ap (λ (y : ℤ). given (only.at (meaning_l bs l) y)) (counted z e ∙ ap (λ (k : ℕ). pos (suc k)) (sym f)))

  pub picked : {s : Scalar} → i < size_of l → s ≡ at l.items i → one (meaning bs s) ≡ given (only.at (meaning_l bs l) z)
  picked h p =
      ap (λ (x : Scalar). one (meaning bs x)) p ∙ sym (ap one (element_is bs l i h))
      ∙ sym (rw (lt-ltb i (length (meaning_l bs l)) (omega (arith, size_is bs l)))) ∙ place

nth_lowered : (v : paper.Value) (l : List paper.Scalar) → given (nth_l (one (lowered v)) l) ≡ given (nth_l v l)
nth_lowered (one s) l = refl
nth_lowered (sequence m) l = refl

pub nth_list : (bs : List ℕ) (a b : Value) (s : Scalar) {q : Scalar} → b.many ≡ true → q ≡ scalar_of a
    → one (meaning bs s) ≡ given (nth_l (one (meaning bs q)) (meaning_l bs b.list)) → one (meaning bs s) ≡ comes section-11.nth (meanings bs (a ∷ b ∷ []))
nth_list bs a b s e f p =
    p ∙ ap (λ (x : paper.Scalar). given (nth_l (one x) (meaning_l bs b.list))) (ap (meaning bs) f ∙ lowered_is bs a)
    ∙ nth_lowered (meaning_v bs a) (meaning_l bs b.list) ∙ sym (rw e)

pub nth_scalar : (bs : List ℕ) (a b : Value) → b.many ≡ false → one paper.unknown ≡ comes section-11.nth (meanings bs (a ∷ b ∷ []))
nth_scalar bs a b e = sym (rw e)
