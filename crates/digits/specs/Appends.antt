-- What it is to append bytes to a lent buffer, from a place on. Definitions only.
use Rattle.std.specs.Prelude.{◌≡◌, List, ◌++◌, ℕ, ◌+◌, ◌≤◌, length, take, drop}

-- the buffer with the bytes w from the place o on
unfoldable pub placed : List ℕ → ℕ → List ℕ → List ℕ
placed out o w = take o out ++ w ++ drop (o + length w) out

-- The buffer out became out'. Where there was room, the bytes w stand from o on, and r is the place behind them.
pub record Appends (out out' : List ℕ) (o r : ℕ) (w : List ℕ) : Type 0 where
  pub same : length out' ≡ length out
  pub wrote : o + length w ≤ length out → (r ≡ o + length w) × (out' ≡ placed out o w)
