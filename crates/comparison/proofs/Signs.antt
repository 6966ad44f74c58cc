-- comp of two lists from a place on, where the heads before it leave it to the tails: by the sign of the heads there.
use mathlib.Core.Path.{◌≡◌, refl, sym, ap₂, ◌∙◌}
use mathlib.Core.Bool.{true, false}
use mathlib.Core.List.{List}
use Prim.Native.Nat.{ℕ, suc, ◌+◌, ◌≤◌, ◌<◌}
use native.Mathlib.Numerals.{add-one}
use lib.ListN.{get_or, length, drop, drop_of_length-le}
use lib.Seq.{drop-cons}
use Rattle.paper_expressions.specs.Values as paper
use Rattle.paper_expressions.specs.Operators as paper-op
use Rattle.paper_expressions.proofs.Laws.Compare.{Verdict, got, stuck, comp_s, comp_l, kind_s, heads, on}
use Rattle.paper_expressions.proofs.Laws.Search.{no_clash}
use Rattle.numbers.specs.Signs.{verdict}
use Rattle.numbers.specs.declared.sign.Sign as S
use Rattle.numbers.specs.declared.sign.Sign.TheVariants.{Greater, Less}
use Rattle.values.specs.declared.scalar.Scalar.{Scalar}
use Rattle.values.specs.declared.list.List as Code
use Rattle.values.specs.Meaning.{meaning, meaning_l, at, size_of, goes_on_fn}
use Rattle.values.proofs.Lists.{element_is}

-- ---- two scalars

abbrev pub scalars : List ℕ → Scalar → Scalar → S.Sign
scalars bs a b = verdict (comp_s (kind_s (meaning bs a)) (kind_s (meaning bs b)))

-- ---- two lists, from i on

abbrev pub From : List paper.Scalar → List paper.Scalar → ℕ → Type 0
From l m i = verdict (comp_l l m) ≡ verdict (comp_l (drop i l) (drop i m))

verdict_on : (r : Verdict) → verdict (on r) ≡ verdict r
verdict_on (got c s) = refl
verdict_on stuck = refl

onward : (v r : Verdict) → goes_on_fn (verdict v) ≡ true → verdict (heads v r) ≡ verdict r
onward (got c paper-op.+1) r e = absurd (no_clash (cc))
onward (got c paper-op.-1) r e = absurd (no_clash (cc))
onward (got c paper-op.±0) r e = verdict_on r
onward (got c paper-op.±?) r e = verdict_on r
onward stuck r e = absurd (no_clash (cc))

settled : (v r : Verdict) → goes_on_fn (verdict v) ≡ false → verdict (heads v r) ≡ verdict v
settled (got c paper-op.+1) r e = refl
settled (got c paper-op.-1) r e = refl
settled (got c paper-op.±0) r e = absurd (no_clash (cc))
settled (got c paper-op.±?) r e = absurd (no_clash (cc))
settled stuck r e = refl

abbrev pub head_sign : List paper.Scalar → List paper.Scalar → ℕ → S.Sign
head_sign l m i = verdict (comp_s (kind_s (get_or l i paper.unknown)) (kind_s (get_or m i paper.unknown)))

module _ (l m : List paper.Scalar) (i : ℕ) (e : From l m i) where
  pub longer : i < length l → length m ≤ i → Greater ≡ verdict (comp_l l m)
  longer h k = sym (e ∙ rw (drop-cons l i paper.unknown h, drop_of_length-le m k))

  pub shorter : length l ≤ i → i < length m → Less ≡ verdict (comp_l l m)
  shorter h k = sym (e ∙ rw (drop_of_length-le l h, drop-cons m i paper.unknown k))

  step : i < length l → i < length m
      → verdict (comp_l l m) ≡ verdict (heads (comp_s (kind_s (get_or l i paper.unknown)) (kind_s (get_or m i paper.unknown))) (comp_l (drop (suc i) l) (drop (suc i) m)))
  step h k = e ∙ rw (drop-cons l i paper.unknown h, drop-cons m i paper.unknown k)

  pub stop : i < length l → i < length m → goes_on_fn (head_sign l m i) ≡ false → head_sign l m i ≡ verdict (comp_l l m)
  stop h k g = sym (step h k ∙ settled (comp_s (kind_s (get_or l i paper.unknown)) (kind_s (get_or m i paper.unknown))) (comp_l (drop (suc i) l) (drop (suc i) m)) g)

  pub next : i < length l → i < length m → goes_on_fn (head_sign l m i) ≡ true → From l m (i + 1)
  next h k g = step h k ∙ onward (comp_s (kind_s (get_or l i paper.unknown)) (kind_s (get_or m i paper.unknown))) (comp_l (drop (suc i) l) (drop (suc i) m)) g ∙ rw (add-one i)

-- the heads' sign, from what the code reads
pub heads_are : (bs : List ℕ) (l m : Code.List) (i : ℕ) {x y : Scalar} {r : S.Sign} → i < size_of l → i < size_of m
    → x ≡ at l.items i → y ≡ at m.items i → r ≡ scalars bs x y → r ≡ head_sign (meaning_l bs l) (meaning_l bs m) i
heads_are bs l m i h k p q e = e ∙ ap₂ (scalars bs) p q ∙ sym (rw (element_is bs l i h, element_is bs m i k))
