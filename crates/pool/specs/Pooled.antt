-- What it means to gather the texts of an expression: they stand in the text bytes one behind the other, and its loads lead there. Definitions only.
use Rattle.std.specs.Prelude.{◌≡◌, List, ℕ, ◌+◌, ◌*◌, ◌/◌, ◌%◌, ◌≤◌, ◌<◌, get_or, length}
use Rattle.paper_expressions.specs.Expressions.{Expr}
use Rattle.parts.specs.Part.{table, size, Holds}
use Rattle.parts.specs.Encode.{flat, spelling, encode}
use Rattle.parts.specs.Kept.{HasText}
use Rattle.pool.specs.Written.{Written}

-- ---- places

-- 2 ^ 26: no handle of 32 bits leads so far, so this place says that there is no room
abbrev pub nowhere : ℕ
nowhere = 67_108_864

-- a text that ends at z is within the bytes b, and a handle leads to it
pub record Fits (b : List ℕ) (z : ℕ) : Type 0 where
  pub bytes : z ≤ length b
  pub places : z < nowhere

-- the text with the handle x ends at most at z
abbrev pub Below : ℕ → ℕ → Type 0
Below z x = x / 64 + x % 64 ≤ z

-- ---- the whole

-- the texts of e are gathered in the bytes b', from o up to r; the cells of its parts from a on, as they were but for their loads, lead there
pub record Pooled (x x' b b' : List ℕ) (a o r : ℕ) (e : Expr) : Type 0 where
  pub ends : r ≡ o + length (spelling e)
  pub fits : Fits b' r
  pub cells : Written x x' (a * 4) (flat (encode o e))
  pub bytes : Written b b' o (spelling e)
  pub held : Holds (table x' b') a e
  pub below : (p : ℕ) → a ≤ p → p < a + size e → HasText (get_or x' (p * 4) 0) → Below r (get_or x' (p * 4 + 3) 0)

-- whatever expression the parts from a up to z hold over the text: if there is room for its texts r is the place behind them,
-- and if r is within the bytes they are gathered; so r tells whether there was room
pub record Gathers (text x x' b b' : List ℕ) (a z o r : ℕ) : Type 0 where
  pub room : (e : Expr) → Holds (table x text) a e → z ≡ a + size e → z * 4 ≤ length x → Fits b (o + length (spelling e)) → r ≡ o + length (spelling e)
  pub done : (e : Expr) → Holds (table x text) a e → z ≡ a + size e → z * 4 ≤ length x → Fits b r → Pooled x x' b b' a o r e
