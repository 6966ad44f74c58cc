-- `minuses`: what is left behind the minuses passed is a tree.
use Rattle.std.proofs.Common.{ℕ, List, length, ◌≡◌, ◌<◌}
use Rattle.paper_expressions.specs.Expressions.{Expr}
use Rattle.paper_tokens.specs.Lexical.{Token}
use Rattle.paper_guideline.specs.Tree.{Where, Tree}
use Rattle.leaves.specs.Source.{source}
use Rattle.expression_steps.specs.Made.{Standing}
use Rattle.expression_steps.specs.StepLaws.{Partly}
use Rattle.expression_steps.proofs.minuses.Given as goal

abbrev pub invariant-loop-q : goal.invariant-loop-q
invariant-loop-q l =
    (length l.kinds < l.p → l.q ≡ l.p)
    × ((text places lengths : List ℕ) (a : Where) (b d : ℕ) (w r : List Token) (e : Expr) → Standing (source text l.kinds places lengths) b d l.p w → Tree a 7 w r e
    → Partly (source text l.kinds places lengths) a b d l.p l.q r e)
