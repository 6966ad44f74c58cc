-- The two tests on one token, by name: what each tells, and that each decides what breaks its stage.
use Rattle.std.specs.Prelude.{ℕ, ◌+◌, Bool, List, get_or}
use Rattle.paper_tokens.specs.Lexical.{Token}
use Rattle.paper_guideline.specs.LeftOut.{LeftOut}
use Rattle.leaves.specs.Source.{Source}
use Rattle.token_tests.specs.declared.Test.{Test}
use Rattle.token_tests.specs.declared.Test.TheVariants.{Edition, Size}
use Rattle.token_tests.specs.Reply.{OverLimit}
use Rattle.token_tests.specs.Walk.{of_token, Decides}
use Rattle.token_tests.specs.LeftOutTest as Left
use Rattle.token_tests.specs.LimitTest as Limits

-- what a token that fails breaks
abbrev pub Breaks : Test → List Token → ℕ → Type 0
Breaks Edition = LeftOut
Breaks Size = OverLimit

-- of a token of terminal k and these bytes, with the terminal next behind it
abbrev pub fails_of : Test → ℕ → ℕ → List ℕ → Bool
fails_of Edition k next w = Left.left_out_test k next w
fails_of Size k next w = Limits.limit_test k w

-- of the token i of the columns
abbrev pub fails_at : Test → Source → ℕ → Bool
fails_at t c i = of_token c i (fails_of t (get_or c.kinds i 0) (get_or c.kinds (i + 1) 0))

pub decides : (t : Test) → Decides (Breaks t) (fails_at t)
decides Edition = Left.decides
decides Size = Limits.decides
