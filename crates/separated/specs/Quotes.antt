-- RFC 4180: a field as it is written, and a record. Definitions only.
use Rattle.std.specs.Prelude.{Bool, true, false, List, [], ◌∷◌, ◌++◌, ℕ, eqb}

abbrev pub or_else : Bool → Bool → Bool
or_else true b = true
or_else false b = b

-- the bytes that ask for quotes
abbrev pub special : ℕ → ℕ → Bool
special separator b = or_else (eqb b separator) (or_else (eqb b 34) (or_else (eqb b 10) (eqb b 13)))

unfoldable pub specials : ℕ → List ℕ → Bool
specials separator [] = false
specials separator (b ∷ w) = or_else (special separator b) (specials separator w)

abbrev pub once_or_twice : Bool → ℕ → List ℕ
once_or_twice true b = 34 ∷ 34 ∷ []
once_or_twice false b = b ∷ []

-- "a double-quote appearing inside a field must be escaped by preceding it with another double quote"
abbrev pub escaped : ℕ → List ℕ
escaped b = once_or_twice (eqb b 34) b

unfoldable pub doubled : List ℕ → List ℕ
doubled [] = []
doubled (b ∷ w) = escaped b ++ doubled w

unfoldable pub between : List ℕ → List ℕ
between w = (34 ∷ []) ++ doubled w ++ (34 ∷ [])

abbrev pub if_then : Bool → List ℕ → List ℕ → List ℕ
if_then true v w = v
if_then false v w = w

abbrev pub as_written : ℕ → List ℕ → List ℕ
as_written separator w = if_then (specials separator w) (between w) w

-- a record of the field w and of others behind it: a separator between them, and a newline at the end
unfoldable pub row_written : ℕ → List ℕ → List (List ℕ) → List ℕ
row_written separator w [] = as_written separator w ++ (10 ∷ [])
row_written separator w (v ∷ vs) = as_written separator w ++ (separator ∷ row_written separator v vs)
