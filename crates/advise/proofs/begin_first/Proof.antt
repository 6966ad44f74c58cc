-- `begin_first` is safe: the first n of at least n bytes are n.
use native.Mathlib.Omega.{arith}
use lib.ListN.{length-take}
use borrow.Author.Rules.{rules}
use Rattle.advise.proofs.begin_first.Statement.{statement}
use Rattle.advise.proofs.begin_first.Tie as tie

slice-aggregate-begin : tie.Need-slice_bounds-begin-end
slice-aggregate-begin c = simp length-take (omega arith)

pub begin_first_spec : {M : Type 1} → statement M
begin_first_spec = tie.close (tie.spec slice-aggregate-begin (λ c κs. search rules) (λ c. search rules))
