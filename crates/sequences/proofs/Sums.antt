-- Sums: one scalar more, and the total as the definitions come to it.
use mathlib.Core.Path.{◌≡◌, refl, sym, ap, ap₂, subst, ◌∙◌}
use mathlib.Core.Bool.{Bool, true, false, cond}
use mathlib.Core.List.{List, [], ◌∷◌}
use mathlib.Core.Option as maths
use Rattle.std.specs.Prelude.{Option, Some, None}
use Prim.Native.Nat.{ℕ, suc, ◌≤◌}
use native.Mathlib.Omega.{arith}
use lib.IntN.{ℤ, nat_abs}
use lib.Dec.{leb}
use lib.ListN.{drop, drop_of_length-le}
use lib.Seq.{drop-cons}
use Rattle.paper_expressions.specs.Limits.{integer_limit, real_limit}
use Rattle.paper_expressions.specs.Values as paper
use Rattle.paper_expressions.specs.Values.{one, sequence, unit}
use Rattle.paper_expressions.specs.Clauses.{§11·2·6-1a, §11·2·6-1b, §11·2·6-1c, §11·2·6-1d}
use Rattle.paper_expressions.specs.Operators as section-11
use Rattle.paper_expressions.proofs.Laws.Only.{gives, integers_f, numbers_f, total_f, sum_f}
use Rattle.numbers.specs.declared.number.Wide.{Wide}
use Rattle.values.specs.declared.scalar.Scalar.{Scalar}
use Rattle.values.specs.declared.scalar.Scalar.TheVariants.{Unknown, Int, Real}
use Rattle.values.specs.declared.list.List as Code
use Rattle.values.specs.declared.value.Value.{Value}
use Rattle.values.specs.Meaning.{meaning, meaning_l, at, size_of, num}
use Rattle.values.proofs.Lists.{element_is, size_is}
use Rattle.operators.specs.Means.{meanings}
use Rattle.operators.specs.Comes.{given, comes}
use Rattle.sequences.specs.declared.adding.Total.{Total}
use Rattle.sequences.specs.Totals.{maybe, Totals, More, sum_c, total_c}

-- ---- from the last to the first

module _ (bs : List ℕ) (l : Code.List) where
  pub at_end : {t : Total} → Totals [] t → Totals (drop (size_of l) (meaning_l bs l)) t
  at_end {t} h = subst (λ (x : List paper.Scalar). Totals x t) (sym (drop_of_length-le (meaning_l bs l) {i = size_of l} (omega (arith, size_is bs l)))) h

  pub back : (i j : ℕ) {s : Scalar} {t r : Total} → suc j ≡ i → i ≤ size_of l → s ≡ at l.items j → More s t r
      → Totals (drop i (meaning_l bs l)) t → Totals (drop j (meaning_l bs l)) r
  back i j {s} {t} {r} e h p m k =
      let f : drop j (meaning_l bs l) ≡ meaning bs s ∷ drop i (meaning_l bs l) =
      drop-cons (meaning_l bs l) j paper.unknown (omega (arith, size_is bs l))
      ∙ ap₂ ◌∷◌ (element_is bs l j (omega arith) ∙ sym (ap (meaning bs) p)) (ap (λ (n : ℕ). drop n (meaning_l bs l)) e) in
      subst (λ (x : List paper.Scalar). Totals x r) (sym f) (m.totals bs (drop i (meaning_l bs l)) k)

-- ---- the total

total_is : (bs : List ℕ) (w k : Option Wide) → one (meaning bs (sum_c w k)) ≡ given (total_f (maybe w) (maybe k))
total_is bs (Some w) k = go (leb (nat_abs w.z) integer_limit)
  where
    go : (b : Bool) → one (meaning bs (cond b (Int (num w.z)) Unknown)) ≡ given (cond b (gives §11·2·6-1a (one (paper.integer w.z))) (gives §11·2·6-1b (one paper.unknown)))
    go true = refl
    go false = refl
total_is bs None (Some w) = go (leb (nat_abs w.z) real_limit)
  where
    go : (b : Bool) → one (meaning bs (cond b (Real (num w.z)) Unknown)) ≡ given (cond b (gives §11·2·6-1c (one (paper.real w.z))) (gives §11·2·6-1d (one paper.unknown)))
    go true = refl
    go false = refl
total_is bs None None = refl

sum_total : (l : List paper.Scalar) → given (total_f (integers_f l) (numbers_f l)) ≡ given (sum_f (sequence l))
sum_total [] = refl
sum_total (s ∷ l) = refl

pub sum_is : (bs : List ℕ) (l : List paper.Scalar) (t : Total) {s : Scalar} → s ≡ total_c t → Totals l t → one (meaning bs s) ≡ given (sum_f (sequence l))
sum_is bs l t e h =
    ap (λ (x : Scalar). one (meaning bs x)) e ∙ total_is bs t.integers t.thousandths
    ∙ sym (ap₂ (λ (x y : maths.Option ℤ). given (total_f x y)) h.integers h.numbers) ∙ sum_total l

pub sum_list : (bs : List ℕ) (a : Value) (s : Scalar) → a.many ≡ true → one (meaning bs s) ≡ given (sum_f (sequence (meaning_l bs a.list)))
    → one (meaning bs s) ≡ comes section-11.sum (meanings bs (a ∷ []))
sum_list bs a s f p = p ∙ sym (rw f)

pub sum_scalar : (bs : List ℕ) (a : Value) → a.many ≡ false → one paper.unknown ≡ comes section-11.sum (meanings bs (a ∷ []))
sum_scalar bs a f = sym (rw f)
