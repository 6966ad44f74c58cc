-- A text that was read lies within the buffer. Definitions only.
use Rattle.std.specs.Prelude.{ℕ, ◌≤◌, Option, Some, None}

abbrev pub Held : ℕ → Option ℕ → Type 0
Held l (Some n) = n ≤ l
Held l None = Unit {0}
