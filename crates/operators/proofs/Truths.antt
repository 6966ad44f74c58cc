-- Truth values: the code's tests on scalars are the definitions' on values, by the variants.
use mathlib.Core.Path.{◌≡◌, refl, sym, ap, ap₂, ◌∙◌}
use mathlib.Core.Bool.{Bool, true, false, cond, ◌&&◌, ◌||◌}
use mathlib.Core.List.{List, [], ◌∷◌}
use Prim.Native.Nat.{ℕ}
use Rattle.paper_expressions.specs.Values as paper
use Rattle.paper_expressions.specs.Values.{unknown, truth, Value, one, sequence}
use Rattle.paper_expressions.specs.Clauses.{Clause, §11·2·3-1, §11·2·3-2}
use Rattle.paper_expressions.specs.Operators as section-11
use Rattle.paper_expressions.proofs.Laws.Search.{no_clash}
use Rattle.paper_expressions.proofs.Laws.Only.{gives, is_true_fn, is_unknown, not_f, if_f}
use Rattle.values.specs.declared.scalar.Scalar.{Scalar}
use Rattle.values.specs.declared.scalar.Scalar.TheVariants.{Unknown, Truth, Int, Real, Text}
use Rattle.values.specs.declared.value.Value as Code
use Rattle.values.specs.Meaning.{meaning, meaning_l, meaning_v, valued, scalar_of, unknownb}
use Rattle.operators.specs.Means.{Means, meanings}
use Rattle.operators.specs.Comes.{given, comes, means, single_is}
use Rattle.operators.specs.Twins.{true_c, false_c}

-- a test that picks a clause
picked : (b : Bool) (c d : Clause) → one (truth b) ≡ given (cond b (gives c (one (truth true))) (gives d (one (truth false))))
picked true c d = refl
picked false c d = refl

true_is : (bs : List ℕ) (a : Code.Value) → true_c (scalar_of a) ≡ is_true_fn (meaning_v bs a)
true_is bs a = go a.many a.one (meaning_l bs a.list)
  where
    go : (b : Bool) (s : Scalar) (l : List paper.Scalar) → true_c (cond b Unknown s) ≡ is_true_fn (valued b (meaning bs s) l)
    go true s l = refl
    go false Unknown l = refl
    go false (Truth t) l = refl
    go false (Int n) l = refl
    go false (Real n) l = refl
    go false (Text h) l = refl

module _ (bs : List ℕ) (a b : Code.Value) (t : Bool) where
  pub and_comes : t ≡ (true_c (scalar_of a) && true_c (scalar_of b)) → one (truth t) ≡ comes section-11.and (meanings bs (a ∷ b ∷ []))
  and_comes e =
      ap (λ (x : Bool). one (truth x)) (e ∙ ap₂ ◌&&◌ (true_is bs a) (true_is bs b)) ∙ picked (is_true_fn (meaning_v bs a) && is_true_fn (meaning_v bs b)) _ _

  pub or_comes : t ≡ (true_c (scalar_of a) || true_c (scalar_of b)) → one (truth t) ≡ comes section-11.or (meanings bs (a ∷ b ∷ []))
  or_comes e =
      ap (λ (x : Bool). one (truth x)) (e ∙ ap₂ ◌||◌ (true_is bs a) (true_is bs b)) ∙ picked (is_true_fn (meaning_v bs a) || is_true_fn (meaning_v bs b)) _ _

module _ (bs : List ℕ) (a b r : Code.Value) {t : Bool} (h : (r.many ≡ false) × (r.one ≡ Truth t)) where
  pub and_means : t ≡ (true_c (scalar_of a) && true_c (scalar_of b)) → Means bs section-11.and (a ∷ b ∷ []) r
  and_means e = means bs section-11.and (a ∷ b ∷ []) r tt (single_is bs r h ∙ and_comes bs a b t e)

  pub or_means : t ≡ (true_c (scalar_of a) || true_c (scalar_of b)) → Means bs section-11.or (a ∷ b ∷ []) r
  or_means e = means bs section-11.or (a ∷ b ∷ []) r tt (single_is bs r h ∙ or_comes bs a b t e)

pub not_comes : (bs : List ℕ) (a : Code.Value) {t : Bool} → t ≡ false_c (scalar_of a) → one (truth t) ≡ comes section-11.not (meanings bs (a ∷ []))
not_comes bs a e = ap (λ (x : Bool). one (truth x)) e ∙ go a.many a.one (meaning_l bs a.list)
  where
    go : (b : Bool) (s : Scalar) (l : List paper.Scalar) → one (truth (false_c (cond b Unknown s))) ≡ given (not_f (valued b (meaning bs s) l))
    go true s l = refl
    go false Unknown l = refl
    go false (Truth true) l = refl
    go false (Truth false) l = refl
    go false (Int n) l = refl
    go false (Real n) l = refl
    go false (Text h) l = refl

-- ---- isknown

unknown_is : (bs : List ℕ) (s : Scalar) → unknownb s ≡ is_unknown (one (meaning bs s))
unknown_is bs Unknown = refl
unknown_is bs (Truth t) = refl
unknown_is bs (Int n) = refl
unknown_is bs (Real n) = refl
unknown_is bs (Text h) = refl

module _ (bs : List ℕ) (a : Code.Value) where
  pub list_known : a.many ≡ true → one (truth false) ≡ comes section-11.isknown (meanings bs (a ∷ []))
  list_known e = sym (rw e)

  pub scalar_known : {t : Bool} → a.many ≡ false → t ≡ unknownb a.one → one (truth t) ≡ comes section-11.isknown (meanings bs (a ∷ []))
  scalar_known e f = ap (λ (x : Bool). one (truth x)) (f ∙ unknown_is bs a.one) ∙ picked (is_unknown (one (meaning bs a.one))) §11·2·3-1 §11·2·3-2 ∙ sym (rw e)

-- ---- if

module _ (bs : List ℕ) (a : Code.Value) (v w : Value) where
  pub if_true : true_c (scalar_of a) ≡ true → v ≡ given (if_f (meaning_v bs a) v w)
  if_true e = go a.many a.one (meaning_l bs a.list) e
    where
      go : (b : Bool) (s : Scalar) (l : List paper.Scalar) → true_c (cond b Unknown s) ≡ true → v ≡ given (if_f (valued b (meaning bs s) l) v w)
      go true s l e = absurd (no_clash (cc))
      go false Unknown l e = absurd (no_clash (cc))
      go false (Truth true) l e = refl
      go false (Truth false) l e = absurd (no_clash (cc))
      go false (Int n) l e = absurd (no_clash (cc))
      go false (Real n) l e = absurd (no_clash (cc))
      go false (Text h) l e = absurd (no_clash (cc))

  pub if_false : false_c (scalar_of a) ≡ true → w ≡ given (if_f (meaning_v bs a) v w)
  if_false e = go a.many a.one (meaning_l bs a.list) e
    where
      go : (b : Bool) (s : Scalar) (l : List paper.Scalar) → false_c (cond b Unknown s) ≡ true → w ≡ given (if_f (valued b (meaning bs s) l) v w)
      go true s l e = absurd (no_clash (cc))
      go false Unknown l e = absurd (no_clash (cc))
      go false (Truth true) l e = absurd (no_clash (cc))
      go false (Truth false) l e = refl
      go false (Int n) l e = absurd (no_clash (cc))
      go false (Real n) l e = absurd (no_clash (cc))
      go false (Text h) l e = absurd (no_clash (cc))

  pub if_neither : true_c (scalar_of a) ≡ false → false_c (scalar_of a) ≡ false → one unknown ≡ given (if_f (meaning_v bs a) v w)
  if_neither e f = go a.many a.one (meaning_l bs a.list) e f
    where
      go : (b : Bool) (s : Scalar) (l : List paper.Scalar) → true_c (cond b Unknown s) ≡ false → false_c (cond b Unknown s) ≡ false
          → one unknown ≡ given (if_f (valued b (meaning bs s) l) v w)
      go true s l e f = refl
      go false Unknown l e f = refl
      go false (Truth true) l e f = absurd (no_clash (cc))
      go false (Truth false) l e f = absurd (no_clash (cc))
      go false (Int n) l e f = refl
      go false (Real n) l e f = refl
      go false (Text h) l e f = refl
