-- What is known of a text that passes chunk by chunk. Definitions only.
use Rattle.std.specs.Prelude.{ℕ, ◌+◌, ◌≤◌, ◌<◌, ◌≡◌, true, false, List, length, get_or}
use Rattle.spot.specs.Lines.{newlines, Begins}
use Rattle.spot.specs.declared.seen.Seen.{Seen}

-- texts shorter than this are counted
abbrev pub countable : ℕ
countable = 9_223_372_036_854_775_808

-- with a byte over 127 at the place
abbrev pub high_at : Seen → ℕ → Seen
high_at s n = record { total = n; place = s.place; high = true; line = s.line; begin = s.begin }

pub record Describes (t : List ℕ) (s : Seen) : Type 0 where
  pub total : s.total ≡ length t
  -- the first byte over 127, or the length
  pub within : s.place ≤ length t
  pub before : (i : ℕ) → i < s.place → get_or t i 0 ≤ 127
  pub there : s.high ≡ true → (s.place < length t) × (127 < get_or t s.place 0)
  pub none : s.high ≡ false → s.place ≡ length t
  -- its line
  pub line : s.line ≡ newlines t s.place + 1
  pub begins : Begins t s.place s.begin
