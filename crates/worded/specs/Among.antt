-- Which numbers are among those from a first one on. Definitions only.
use Rattle.std.specs.Prelude.{ℕ, ◌-◌, Bool, ◌&&◌, leb, ltb}

abbrev pub among_f : ℕ → ℕ → ℕ → Bool
among_f first count n = leb first n && ltb (n - first) count
