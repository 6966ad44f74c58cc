-- The value that a caller gives to a data item (8.3.6), by cells and bytes that are lent: a tag and a number for each cell. Definitions only.
use Rattle.std.specs.Prelude.{ℕ, zero, suc, Bool, false, cond, ◌&&◌, List, [], ◌∷◌, eqb, ltb, ℤ, pos, negsuc, get_or, length}
use Rattle.std.proofs.Math.Option.{Option, none, some}
use Rattle.paper_expressions.specs.Values.{Scalar, unknown, truth, integer, real, text, Value, one, sequence}
use Rattle.parts.specs.Texts.{text_at_fn}

-- "number 1 true, any other false"
abbrev pub is_one : ℤ → Bool
is_one (pos n) = eqb n 1
is_one (negsuc n) = false

-- the text with this handle among the lent bytes; a negative number is no handle
abbrev pub text_given : List ℕ → ℤ → Option Scalar
text_given b (pos n) = some (text (text_at_fn b n))
text_given b (negsuc n) = none

-- the handle that a number is; 0 for a negative one, which is none
abbrev pub handle_given : ℤ → ℕ
handle_given (pos n) = n
handle_given (negsuc n) = 0

-- the element with the tag k and the number z
abbrev pub element_given : List ℕ → ℕ → ℤ → Option Scalar
element_given b k z =
    cond (eqb k 0) (some unknown)
    (cond (eqb k 1) (some (truth (is_one z)))
    (cond (eqb k 2) (some (integer z))
    (cond (eqb k 3) (some (real z))
    (cond (eqb k 4) (text_given b z)
    none))))

-- the cell i is lent
abbrev pub lent_f : List ℕ → List ℤ → ℕ → Bool
lent_f t n i = ltb i (length t) && ltb i (length n)

-- the element in the cell i; none where it is not lent
abbrev pub element-at : List ℕ → List ℤ → List ℕ → ℕ → Option Scalar
element-at t n b i = cond (lent_f t n i) (element_given b (get_or t i 0) (get_or n i (pos 0))) none

abbrev pub before : Option Scalar → Option (List Scalar) → Option (List Scalar)
before none l = none
before (some s) none = none
before (some s) (some l) = some (s ∷ l)

-- the m elements from the cell p on; none where one of them is none
abbrev pub elements : List ℕ → List ℤ → List ℕ → ℕ → ℕ → Option (List Scalar)
elements t n b p zero = some []
elements t n b p (suc m) = before (element-at t n b p) (elements t n b (suc p) m)

abbrev pub as_one : Option Scalar → Option Value
as_one none = none
as_one (some s) = some (one s)

abbrev pub as-list : Option (List Scalar) → Option Value
as-list none = none
as-list (some l) = some (sequence l)

-- by the shape k: the one value in the cell 1, or the list of the k - 1 cells from 1 on
abbrev pub shaped : List ℕ → List ℤ → List ℕ → ℕ → Option Value
shaped t n b zero = as_one (element-at t n b 1)
shaped t n b (suc m) = as-list (elements t n b 1 m)

-- t the tags, n the numbers, b the bytes; none for what encodes no value
unfoldable pub given : List ℕ → List ℤ → List ℕ → Option Value
given t n b = shaped t n b (get_or t 0 0)
