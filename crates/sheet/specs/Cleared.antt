-- What writing the buffer leaves. Definitions only.
use Rattle.std.specs.Prelude.{ℕ, ◌≡◌, List}
use Rattle.sheet.specs.Steps.{Room}
use Rattle.sheet.specs.declared.output.State.{State}

-- the state is the same, but that the buffer has room for one line more
pub record Cleared (out : List ℕ) (s s' : State) : Type 0 where
  pub at : s'.at ≡ s.at
  pub n : s'.n ≡ s.n
  pub number : s'.number ≡ s.number
  pub room : Room out s'.o
