-- What a buffer of lines holds, and what is left of it without its first line. Definitions only: no contract can say what is read.
use Rattle.std.specs.Prelude.{ℕ, ◌+◌, ◌-◌, ◌≤◌, ◌<◌, ◌≡◌, true, false, ◌⊎◌, List, length, get_or}
use Rattle.typed_lines.specs.declared.lines.Held.{Held}

-- r is the place of the first newline of n bytes, or n
pub record Newline (b : List ℕ) (n r : ℕ) : Type 0 where
  pub within : r ≤ n
  pub here : r < n → get_or b r 0 ≡ 10
  pub earlier : (k : ℕ) → k < r → ¬ (get_or b k 0 ≡ 10)

-- one of the bytes that are held is a newline
pub record Ends (b : List ℕ) (n : ℕ) : Type 0 where
  pub place : ℕ
  pub below : place < n
  pub newline : get_or b place 0 ≡ 10

-- a whole line is held, or the last one, whose newline may be missing
abbrev pub HasLine : List ℕ → Held → Type 0
HasLine b h = (h.ended ≡ true) ⊎ Ends b h.bytes

-- a line is held then; where one was held before, nothing is read
pub record LineHeld (b : List ℕ) (h : Held) (b' : List ℕ) (r : Held) : Type 0 where
  pub line : HasLine b' r
  pub unread : HasLine b h → (r ≡ h) × (b' ≡ b)
  pub cells : length b' ≡ length b

-- the bytes from one place up to another stand in front, as far as there are any, and the others where they stood
pub record Shifted (b : List ℕ) (from to : ℕ) (b' : List ℕ) : Type 0 where
  pub cells : length b' ≡ length b
  pub moved : (k : ℕ) → k < to - from → from + k < length b → get_or b' k 0 ≡ get_or b (from + k) 0
  pub stays : (k : ℕ) → (to - from ≤ k) ⊎ (length b ≤ from + k) → get_or b' k 0 ≡ get_or b k 0

-- the line that ends at a place is gone with its newline; without one nothing is held
pub record Dropped (b : List ℕ) (h : Held) (end : ℕ) (b' : List ℕ) (r : Held) : Type 0 where
  pub bytes : r.bytes ≡ h.bytes - (end + 1)
  pub long : r.long ≡ false
  pub ended : r.ended ≡ h.ended
  pub front : Shifted b (end + 1) h.bytes b'
