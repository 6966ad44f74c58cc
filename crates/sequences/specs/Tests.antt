-- The tests on the elements of a list, as functions. Definitions only.
use Rattle.std.specs.Prelude.{Bool, true, false, not, List, ℕ, get_or, length}
use Rattle.paper_expressions.specs.Values as paper
use Rattle.paper_expressions.specs.Operators as section-11
use Rattle.paper_expressions.proofs.Laws.Compare.{comp_s, kind_s}
use Rattle.paper_expressions.proofs.Laws.Search.{allb}
use Rattle.paper_expressions.proofs.Laws.Only.{missb, suchb, fineb}
use Rattle.numbers.specs.declared.sign.Sign.{Sign}
use Rattle.numbers.specs.declared.sign.Sign.TheVariants.{Greater, Less, Equal, Unknown, Unfit}
use Rattle.operators.specs.declared.operator.Extreme.{Extreme}
use Rattle.operators.specs.declared.operator.Extreme.TheVariants.{Max, Min}

-- of no element of l and w is comp 0
abbrev pub missed : List paper.Scalar → paper.Value → Bool
missed l w = allb (length l) (λ j. missb w (get_or l j paper.unknown))

-- the j-th element of l does not beat the i-th
abbrev pub holdsb : section-11.Extreme → List paper.Scalar → ℕ → ℕ → Bool
holdsb e l i j = suchb (fineb e) (comp_s (kind_s (get_or l i paper.unknown)) (kind_s (get_or l j paper.unknown)))

abbrev pub unbeatenb : section-11.Extreme → List paper.Scalar → ℕ → Bool
unbeatenb e l i = allb (length l) (holdsb e l i)

abbrev pub maxb : Extreme → Bool
maxb Max = true
maxb Min = false

-- whether a sign leaves the first of the two in place
abbrev pub fine_c : Extreme → Sign → Bool
fine_c e Greater = maxb e
fine_c e Less = not (maxb e)
fine_c e Equal = true
fine_c e Unknown = true
fine_c e Unfit = false
