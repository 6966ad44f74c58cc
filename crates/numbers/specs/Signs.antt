-- The code's answer of a comparison for each that comp has, and for none. Definitions only.
use Rattle.paper_expressions.specs.Operators as paper
use Rattle.paper_expressions.proofs.Laws.Compare.{Verdict, got, stuck}
use Rattle.numbers.specs.declared.sign.Sign.{Sign}
use Rattle.numbers.specs.declared.sign.Sign.TheVariants.{Greater, Less, Equal, Unknown, Unfit}

abbrev pub signed : paper.Sign → Sign
signed paper.+1 = Greater
signed paper.-1 = Less
signed paper.±0 = Equal
signed paper.±? = Unknown

-- and where no clause of comp fits
abbrev pub verdict : Verdict → Sign
verdict (got c s) = signed s
verdict stuck = Unfit
