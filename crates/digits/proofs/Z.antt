-- An integer that is not below zero has no minus, by its sign.
use mathlib.Core.Path.{◌≡◌, refl, sym, subst}
use mathlib.Core.Bool.{true, false}
use mathlib.Core.List.{[]}
use lib.Dec.{T}
use lib.IntN.{ℤ, pos, negsuc}
use lib.Signed.{lt_z}
use Rattle.digits.specs.Signed.{sign_of}

no_way : {A : Type 0} → false ≡ true → A
no_way e = absurd (subst T (sym e) tt)

pub no_minus : (z : ℤ) → lt_z z (pos 0) ≡ false → sign_of z ≡ []
no_minus (pos n) e = refl
no_minus (negsuc n) e = no_way (sym e)
