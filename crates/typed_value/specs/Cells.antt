-- How a value stands in the cells and bytes that adding a value takes: in the cell 0 its shape, in the cell 1 + i its i-th element. Definitions only.
use Rattle.std.specs.Prelude.{ℕ, zero, suc, ◌+◌, ◌*◌, cond, List, [], ◌∷◌, ℤ, pos, get_or, set, length, replicate}
use Rattle.paper_expressions.specs.Values.{Scalar, unknown, truth, integer, real, text, Value, one, sequence}
use Rattle.parts.specs.Texts.{cells, handle}
use Rattle.typed_value.specs.Texts.{kept_of_fn}

-- ---- the i-th element

abbrev pub tag_of : Scalar → ℕ
tag_of unknown = 0
tag_of (truth t) = 1
tag_of (integer z) = 2
tag_of (real z) = 3
tag_of (text t) = 4

-- its text stands in 64 bytes from 64 * i on
abbrev pub number_of : ℕ → Scalar → ℤ
number_of i unknown = pos 0
number_of i (truth t) = cond t (pos 1) (pos 0)
number_of i (integer z) = z
number_of i (real z) = z
number_of i (text t) = pos (handle (64 * i) (length t))

-- the bytes b, where those of t, and zeros behind them, are put to the n from the place q on
unfoldable pub spread : List ℕ → ℕ → ℕ → List ℕ → List ℕ
spread t q zero b = b
spread t q (suc n) b = set (spread t q n b) (q + n) (get_or t n 0)

abbrev pub text_put : ℕ → Scalar → List ℕ → List ℕ
text_put i unknown b = b
text_put i (truth t) b = b
text_put i (integer z) b = b
text_put i (real z) b = b
text_put i (text t) b = spread t (64 * i) 64 b

-- all bytes of a text, or as many as are handed on
abbrev pub kept_text : List ℕ → List ℕ
kept_text s = cells s 0 (kept_of_fn (length s))

-- ---- elements, from the i-th on

abbrev pub tags_put : ℕ → List Scalar → List ℕ → List ℕ
tags_put i [] t = t
tags_put i (x ∷ l) t = tags_put (i + 1) l (set t (1 + i) (tag_of x))

abbrev pub numbers_put : ℕ → List Scalar → List ℤ → List ℤ
numbers_put i [] n = n
numbers_put i (x ∷ l) n = numbers_put (i + 1) l (set n (1 + i) (number_of i x))

abbrev pub texts_put : ℕ → List Scalar → List ℕ → List ℕ
texts_put i [] b = b
texts_put i (x ∷ l) b = texts_put (i + 1) l (text_put i x b)

-- ---- a value

-- 0 for one, and one more than it has elements for a list
abbrev pub shape_of : Value → ℕ
shape_of (one x) = 0
shape_of (sequence l) = length l + 1

abbrev pub elements_of : Value → List Scalar
elements_of (one x) = x ∷ []
elements_of (sequence l) = l

-- the cells and bytes, where those of the value are put
unfoldable pub tags_with : Value → List ℕ → List ℕ
tags_with v t = set (tags_put 0 (elements_of v) t) 0 (shape_of v)

unfoldable pub numbers_with : Value → List ℤ → List ℤ
numbers_with v n = numbers_put 0 (elements_of v) n

unfoldable pub texts_with : Value → List ℕ → List ℕ
texts_with v b = texts_put 0 (elements_of v) b

-- put to blank ones, of 20 elements
abbrev pub tags_of : Value → List ℕ
tags_of v = tags_with v (replicate 21 0)

abbrev pub numbers_of_fn : Value → List ℤ
numbers_of_fn v = numbers_with v (replicate 21 (pos 0))

abbrev pub bytes_of : Value → List ℕ
bytes_of v = texts_with v (replicate 1280 0)
