-- The tests that the code makes of a list's elements are the definitions'.
use mathlib.Core.Path.{◌≡◌, refl, sym, ap, ap₂, ◌∙◌}
use mathlib.Core.Bool.{Bool, true, false, cond, not, ◌&&◌}
use mathlib.Core.List.{List, [], ◌∷◌}
use Prim.Native.Nat.{ℕ, ◌<◌}
use lib.Dec.{ltb}
use lib.ListN.{get_or, length}
use borrow.Author.Tests.{lt-ltb}
use Rattle.paper_expressions.specs.Values as paper
use Rattle.paper_expressions.specs.Values.{one, sequence}
use Rattle.paper_expressions.specs.Operators as section-11
use Rattle.paper_expressions.specs.Operators.{+1, -1, ±0, ±?, element, F, F-includes, F-oneof}
use Rattle.paper_expressions.proofs.Laws.Compare.{Verdict, got, stuck, comp_s, kind_s, comp_f}
use Rattle.paper_expressions.specs.Clauses.{§11·1·6-1, §11·1·6-2}
use Rattle.paper_expressions.proofs.Laws.Only.{gives, suchb, fineb, zerob, missb, is_unknown, bestb, best_value, extreme_f}
use Rattle.numbers.specs.declared.sign.Sign.{Sign}
use Rattle.numbers.specs.Signs.{verdict}
use Rattle.values.specs.declared.scalar.Scalar.{Scalar}
use Rattle.values.specs.declared.scalar.Scalar.TheVariants.{Unknown, Truth, Int, Real, Text}
use Rattle.values.specs.declared.list.List as Code
use Rattle.values.specs.declared.value.Value.{Value}
use Rattle.values.specs.Meaning.{meaning, meaning_l, meaning_v, at, size_of, levelb, unknownb}
use Rattle.values.proofs.Lists.{element_is, size_is}
use Rattle.operators.specs.declared.operator.Extreme.{Extreme}
use Rattle.operators.specs.declared.operator.Extreme.TheVariants.{Max, Min}
use Rattle.operators.specs.Means.{Means, end, meanings}
use Rattle.operators.specs.Comes.{given, comes, single_is}
use Rattle.sequences.specs.Tests.{missed, holdsb, unbeatenb, fine_c}
use Rattle.sequences.proofs.Scans.{first_found, none_found}

-- ---- includes

level_is : (v : Verdict) → levelb (verdict v) ≡ suchb zerob v
level_is (got c +1) = refl
level_is (got c -1) = refl
level_is (got c ±0) = refl
level_is (got c ±?) = refl
level_is stuck = refl

pub miss_is : (bs : List ℕ) (l : Code.List) (b : Value) (i : ℕ) (u : Value) {x : Scalar} {g : Sign} {r : Bool}
    → i < size_of l → x ≡ at l.items i → (u.many ≡ false) × (u.one ≡ x) → g ≡ verdict (comp_f (meaning_v bs u) (meaning_v bs b))
    → r ≡ levelb g → missb (meaning_v bs b) (get_or (meaning_l bs l) i paper.unknown) ≡ not r
miss_is bs l b i u h p q e f =
    let w = single_is bs u q ∙ ap (λ (y : Scalar). one (meaning bs y)) p ∙ sym (ap one (element_is bs l i h)) in
    sym (ap not (f ∙ ap levelb (e ∙ ap (λ (v : paper.Value). verdict (comp_f v (meaning_v bs b))) w) ∙ level_is (comp_f (one (get_or (meaning_l bs l) i paper.unknown)) (meaning_v bs b))))

pub includes_list : (bs : List ℕ) (a b : Value) {t : Bool} → a.many ≡ true → t ≡ not (missed (meaning_l bs a.list) (meaning_v bs b))
    → one (paper.truth t) ≡ comes section-11.includes (meanings bs (a ∷ b ∷ []))
includes_list bs a b e f =
    ap (λ (x : Bool). one (paper.truth x)) f ∙ go (missed (meaning_l bs a.list) (meaning_v bs b)) ∙ sym (rw e)
  where
    go : (m : Bool) → one (paper.truth (not m)) ≡ given (cond m (gives §11·1·6-2 (one (paper.truth false))) (gives §11·1·6-1 (one (paper.truth true))))
    go true = refl
    go false = refl

pub includes_scalar : (bs : List ℕ) (a b : Value) → a.many ≡ false → one (paper.truth false) ≡ comes section-11.includes (meanings bs (a ∷ b ∷ []))
includes_scalar bs a b e = sym (rw e)

pub oneof_is : (bs : List ℕ) (a b r : Value) → Means bs section-11.includes (b ∷ a ∷ []) r → Means bs section-11.oneof (a ∷ b ∷ []) r
unfolding Means
oneof_is bs a b r h τ n c v (F-oneof k) = h τ n c v (F-includes k)

-- ---- max and min

fine_is : (e : Extreme) (v : Verdict) → fine_c e (verdict v) ≡ suchb (fineb (end e)) v
fine_is Max (got c +1) = refl
fine_is Max (got c -1) = refl
fine_is Max (got c ±0) = refl
fine_is Max (got c ±?) = refl
fine_is Max stuck = refl
fine_is Min (got c +1) = refl
fine_is Min (got c -1) = refl
fine_is Min (got c ±0) = refl
fine_is Min (got c ±?) = refl
fine_is Min stuck = refl

pub holds_is : (bs : List ℕ) (e : Extreme) (l : Code.List) (i j : ℕ) {x y : Scalar} {g : Sign} {r : Bool}
    → i < size_of l → j < size_of l → x ≡ at l.items i → y ≡ at l.items j
    → g ≡ verdict (comp_s (kind_s (meaning bs x)) (kind_s (meaning bs y))) → r ≡ fine_c e g → r ≡ holdsb (end e) (meaning_l bs l) i j
holds_is bs e l i j h k p q f d =
    d ∙ ap (fine_c e) (f ∙ ap₂ (λ (u v : Scalar). verdict (comp_s (kind_s (meaning bs u)) (kind_s (meaning bs v)))) p q)
    ∙ fine_is e (comp_s (kind_s (meaning bs (at l.items i))) (kind_s (meaning bs (at l.items j))))
    ∙ sym (rw (element_is bs l i h, element_is bs l j k))

unknown_is : (bs : List ℕ) (s : Scalar) → unknownb s ≡ is_unknown (one (meaning bs s))
unknown_is bs Unknown = refl
unknown_is bs (Truth t) = refl
unknown_is bs (Int n) = refl
unknown_is bs (Real n) = refl
unknown_is bs (Text h) = refl

module _ (bs : List ℕ) (e : Extreme) (l : Code.List) (i : ℕ) {x : Scalar} {u : Bool} (h : i < size_of l) (p : x ≡ at l.items i) (q : u ≡ unknownb x) where
  inside : ltb i (length (meaning_l bs l)) ≡ true
  inside = rw (size_is bs l) (lt-ltb i (size_of l) h)

  nothing : u ≡ is_unknown (element (meaning_l bs l) i)
  nothing = q ∙ ap unknownb p ∙ unknown_is bs (at l.items i) ∙ sym (ap (λ (s : paper.Scalar). is_unknown (one s)) (element_is bs l i h))

  joined : {a b : Bool} (d : Bool) → a ≡ true → u ≡ b → (a && (not b && d)) ≡ (not u && d)
  joined d f g = rw (f, sym g)

  pub best_is : bestb (end e) (meaning_l bs l) i ≡ (not u && unbeatenb (end e) (meaning_l bs l) i)
  best_is = joined (unbeatenb (end e) (meaning_l bs l) i) inside nothing

module _ (bs : List ℕ) (e : Extreme) (l : Code.List) where
  pub first_best : (i : ℕ) {s : Scalar} → i < size_of l → s ≡ at l.items i → bestb (end e) (meaning_l bs l) i ≡ true
      → ((k : ℕ) → k < i → bestb (end e) (meaning_l bs l) k ≡ false) → one (meaning bs s) ≡ given (extreme_f (end e) (sequence (meaning_l bs l)))
  first_best i h p f g =
      ap (λ (x : Scalar). one (meaning bs x)) p ∙ sym (ap one (element_is bs l i h))
      ∙ sym (ap (λ o. given (best_value (end e) (meaning_l bs l) o)) (first_found (bestb (end e) (meaning_l bs l)) (length (meaning_l bs l)) i (rw (size_is bs l) h) f g))

  pub no_best : ((k : ℕ) → k < size_of l → bestb (end e) (meaning_l bs l) k ≡ false) → one paper.unknown ≡ given (extreme_f (end e) (sequence (meaning_l bs l)))
  no_best g =
      sym (ap (λ o. given (best_value (end e) (meaning_l bs l) o)) (none_found (bestb (end e) (meaning_l bs l)) (length (meaning_l bs l)) (λ k h. g k (rw (size_is bs l) at h))))

pub extreme_list : (bs : List ℕ) (e : Extreme) (a : Value) (s : Scalar) → a.many ≡ true
    → one (meaning bs s) ≡ given (extreme_f (end e) (sequence (meaning_l bs a.list))) → one (meaning bs s) ≡ comes (section-11.extreme (end e)) (meanings bs (a ∷ []))
extreme_list bs e a s f p = p ∙ sym (rw f)

pub extreme_scalar : (bs : List ℕ) (e : Extreme) (a : Value) → a.many ≡ false → one paper.unknown ≡ comes (section-11.extreme (end e)) (meanings bs (a ∷ []))
extreme_scalar bs e a f = sym (rw f)
