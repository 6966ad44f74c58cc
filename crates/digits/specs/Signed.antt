-- A number with its sign is its sign and then its magnitude.
use Rattle.std.specs.Prelude.{◌≡◌, refl, List, [], ◌∷◌, ◌++◌, ℕ, ℤ, pos, negsuc, nat_abs}
use Rattle.paper_guideline.specs.Line.{with_sign}

-- a minus, or nothing
abbrev pub sign_of : ℤ → List ℕ
sign_of (pos n) = []
sign_of (negsuc n) = 45 ∷ []

pub sign_first : (f : ℕ → List ℕ) (z : ℤ) → with_sign f z ≡ sign_of z ++ f (nat_abs z)
sign_first f (pos n) = refl
sign_first f (negsuc n) = refl
