-- How a line is shown to a person: its bytes made harmless, and a long line cut around the place. Definitions only.
use Rattle.std.specs.Prelude.{ℕ, ◌+◌, ◌≤◌, ◌<◌, ◌≡◌}

-- whatever the byte b is, what is shown is printable: from the blank (32) to the tilde (126)
pub record Shown (b r : ℕ) : Type 0 where
  pub not_below : 32 ≤ r
  pub not_above : r ≤ 126
  pub itself : 32 ≤ b → b ≤ 126 → r ≡ b
  pub tab : b ≡ 9 → r ≡ 32
  pub low : b < 32 → ¬ (b ≡ 9) → r ≡ 63
  pub high : 126 < b → r ≡ 63

-- bytes of a line that are shown before the place, and from it on
abbrev pub before_limit : ℕ
before_limit = 60

abbrev pub behind_limit : ℕ
behind_limit = 40

-- of a line that begins at b, with p a place in it, what is shown begins at r: at its beginning, or as far before p as is shown
pub record From (b p r : ℕ) : Type 0 where
  pub inside : b ≤ r
  pub before : b ≤ p → r ≤ p
  pub near : b ≤ p → p ≤ r + before_limit
  pub whole : b ≤ p → p ≤ b + before_limit → r ≡ b

-- it ends at e, and what is shown ends at r
pub record To (p e r : ℕ) : Type 0 where
  pub inside : r ≤ e
  pub behind : p ≤ e → p ≤ r
  pub near : p ≤ e → r ≤ p + behind_limit
  pub whole : p ≤ e → e ≤ p + behind_limit → r ≡ e
