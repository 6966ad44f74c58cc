-- What the code adds up of a list, and the sum that is left of it. Definitions only.
use Rattle.std.specs.Prelude.{◌≡◌, List, ◌∷◌, Option, Some, None, ℕ, zero, ◌+◌, ◌≤◌, ◌^◌, ℤ, ◌+ℤ◌, nat_abs, option_map}
use Rattle.std.proofs.Math.Option as maths
use Rattle.paper_expressions.specs.Values as paper
use Rattle.paper_expressions.proofs.Laws.Only.{integers_f, numbers_f}
use Rattle.numbers.specs.declared.number.Wide.{Wide}
use Rattle.values.specs.declared.scalar.Scalar.{Scalar}
use Rattle.values.specs.declared.scalar.Scalar.TheVariants.{Unknown}
use Rattle.values.specs.Meaning.{meaning, integer_of, real_of_fn}
use Rattle.sequences.specs.declared.adding.Total.{Total}

abbrev pub maybe : Option Wide → maths.Option ℤ
maybe (Some w) = maths.some w.z
maybe None = maths.none

-- how large a sum is, if there is one
abbrev pub size : Option Wide → ℕ
size (Some w) = nat_abs w.z
size None = zero

-- n more
abbrev pub plus_c : Wide → Option Wide → Option Wide
plus_c n o = option_map (λ (w : Wide). record { z = n.z +ℤ w.z }) o

-- t holds the sums of l: of its integers, and of its numbers in thousandths
pub record Totals (l : List paper.Scalar) (t : Total) : Type 0 where
  pub integers : integers_f l ≡ maybe t.integers
  pub numbers : numbers_f l ≡ maybe t.thousandths

-- with s before what t is the total of, r is the total, and not much larger
pub record More (s : Scalar) (t r : Total) : Type 0 where
  pub totals : (bs : List ℕ) (l : List paper.Scalar) → Totals l t → Totals (meaning bs s ∷ l) r
  pub integers : size r.integers ≤ size t.integers + 2 ^ 41
  pub thousandths : size r.thousandths ≤ size t.thousandths + 2 ^ 41

abbrev pub no_total : Total
no_total = record { integers = None; thousandths = None }

-- the integers' sum, if there is one, else that in thousandths
abbrev pub sum_c : Option Wide → Option Wide → Scalar
sum_c (Some w) o = integer_of w.z
sum_c None (Some w) = real_of_fn w.z
sum_c None None = Unknown

abbrev pub total_c : Total → Scalar
total_c t = sum_c t.integers t.thousandths
