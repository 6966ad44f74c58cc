-- The numbers that literals write, worked: integers, thousandths, and the digits behind the point, one statement for each list of rows.
use Prim.Native.String.{String}
use Rattle.std.specs.Prelude.{◌≡◌, refl, [], ◌∷◌, map, pos, negsuc, length}
use Rattle.paper_expressions.specs.Bytes.{bytes}
use Rattle.paper_tokens.specs.Literals.{whole, thousandths, behind_point}

pub integers_worked : map (λ (s : String). whole (bytes s)) ("3" ∷ "-2" ∷ "007" ∷ "-0" ∷ "2000000" ∷ "-2000001" ∷ [])
    ≡ pos 3 ∷ negsuc 1 ∷ pos 7 ∷ pos 0 ∷ pos 2000000 ∷ negsuc 2000000 ∷ []
integers_worked = refl

pub floats_worked : map (λ (s : String). thousandths (bytes s)) ("1." ∷ ".5" ∷ "-.5" ∷ "-1." ∷ "0.125" ∷ "12.34" ∷ "2000000.001" ∷ [])
    ≡ pos 1000 ∷ pos 500 ∷ negsuc 499 ∷ negsuc 999 ∷ pos 125 ∷ pos 12340 ∷ pos 2000000001 ∷ []
floats_worked = refl

pub fractions_worked : map (λ (s : String). length (behind_point (bytes s))) ("1." ∷ "-.5" ∷ "0.125" ∷ "0.1250" ∷ []) ≡ 0 ∷ 1 ∷ 3 ∷ 4 ∷ []
fractions_worked = refl
