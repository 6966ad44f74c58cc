-- Where reading stands: at no place before the one from which it read, and at none behind the text. With the law on two steps.
use Rattle.std.specs.Prelude.{ℕ, ◌-◌, ◌≤◌, List, length}
use Rattle.std.proofs.Common.{arith}
use Rattle.typed_value.specs.declared.Typed.{Typed}
use Rattle.typed_value.specs.declared.Typed.TheVariants.{Value, Wrong}

-- from a place in the text to one in the text; a place behind the text stays
abbrev pub Onward : List ℕ → ℕ → ℕ → Type 0
Onward s at p = (at ≤ p) × (p - at ≤ length s - at)

-- what is wrong lies within what was read
abbrev pub Placed : List ℕ → ℕ → Typed → Type 0
Placed s from Value = Unit {0}
Placed s from (Wrong x p) = Onward s from p

pub placed_on : (s : List ℕ) (from at : ℕ) (r : Typed) → Onward s from at → Placed s at r → Placed s from r
placed_on s from at Value h w = tt
placed_on s from at (Wrong x p) h w = (omega arith, omega arith)

pub on_onward : (s : List ℕ) (from at to : ℕ) → Onward s from at → Onward s at to → Onward s from to
on_onward s from at to h w = (omega arith, omega arith)
