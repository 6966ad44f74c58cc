-- A value as it is typed: one element, or a list of at most 20 as [12, 3, 15]. Definitions only.
use Rattle.std.specs.Prelude.{ℕ, zero, suc, cond, List, [], ◌∷◌, eqb, ltb, get_or, length, take}
use Rattle.paper_expressions.specs.Values.{Scalar, Value, one, sequence}
use Rattle.typed_value.specs.Lexemes.{blankb, past, after_of}
use Rattle.typed_value.specs.Elements.{Found, found, wrong, element_at}
use Rattle.typed_value.specs.declared.steps.Slip.TheVariants.{Missing, Separator, Many, Behind}

-- ---- the elements of a list

-- the first place without a blank behind the byte that stands here: a comma, or a bracket
abbrev pub next_of : List ℕ → ℕ → ℕ
next_of s at = past blankb s (after_of s at)

abbrev pub place_of : Found Scalar → ℕ
place_of (found x p) = p
place_of (wrong k p) = p

abbrev pub prefixed : Scalar → Found (List Scalar) → Found (List Scalar)
prefixed x (found l p) = found (x ∷ l) p
prefixed x (wrong k p) = wrong k p

-- an element, and the rest behind a comma; a closing bracket ends the list
abbrev pub followed : List ℕ → Found Scalar → Found (List Scalar) → Found (List Scalar)
followed s (wrong k p) rest = wrong k p
followed s (found x p) rest =
    cond (eqb (get_or s (past blankb s p) 0) 93) (found (x ∷ []) (after_of s (past blankb s p)))
    (cond (eqb (get_or s (past blankb s p) 0) 44) (prefixed x rest)
    (wrong Separator (past blankb s p)))

-- at most so many elements from here on
unfoldable pub elements_at : ℕ → List ℕ → ℕ → Found (List Scalar)
elements_at zero s at = wrong Many at
elements_at (suc m) s at = followed s (element_at s at) (elements_at m s (next_of s (past blankb s (place_of (element_at s at)))))

-- ---- a value

abbrev pub as_one_fn : Found Scalar → Found Value
as_one_fn (found x p) = found (one x) p
as_one_fn (wrong k p) = wrong k p

abbrev pub as_list : Found (List Scalar) → Found Value
as_list (found l p) = found (sequence l) p
as_list (wrong k p) = wrong k p

-- a list behind its opening bracket, whose first element, or closing bracket, stands here
abbrev pub list_at : List ℕ → ℕ → Found Value
list_at s at = cond (eqb (get_or s at 0) 93) (found (sequence []) (after_of s at)) (as_list (elements_at 20 s at))

unfoldable pub value_at : List ℕ → ℕ → Found Value
value_at s at = cond (eqb (get_or s at 0) 91) (list_at s (next_of s at)) (as_one_fn (element_at s at))

-- nothing but blanks may stand behind it
abbrev pub ended : List ℕ → Found Value → Found Value
ended s (wrong k p) = wrong k p
ended s (found v p) = cond (ltb (past blankb s p) (length s)) (wrong Behind (past blankb s p)) (found v p)

-- a value that is all of a text from a place on, but for blanks around it
abbrev pub whole_from : List ℕ → ℕ → Found Value
whole_from s from = ended s (value_at s (past blankb s from))

-- the value that stands between two places of a text
unfoldable pub typed : List ℕ → ℕ → ℕ → Found Value
typed s from to = cond (ltb (length s) to) (wrong Missing to) (whole_from (take to s) from)
