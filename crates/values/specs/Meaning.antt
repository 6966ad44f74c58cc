-- What the code's values mean, as values of the paper (7.4), and the code's leaves as functions. Definitions only.
use Rattle.std.specs.Prelude.{◌≡◌, Bool, true, false, cond, List, [], ◌∷◌, ◌++◌, map, ℕ, ◌+◌, ◌/◌, ◌%◌, ℤ, nat_abs, leb, eqb, get_or, length, take, set}
use Rattle.paper_expressions.specs.Limits.{integer_limit, real_limit}
use Rattle.paper_expressions.specs.Values as paper
use Rattle.parts.specs.Texts.{cells}
use Rattle.numbers.specs.declared.sign.Sign as S
use Rattle.numbers.specs.declared.sign.Sign.TheVariants.{Greater, Less, Equal, Unfit}
use Rattle.numbers.specs.declared.number.Num.{Num}
use Rattle.values.specs.declared.text.Handle.{Handle}
use Rattle.values.specs.declared.scalar.Scalar.{Scalar}
use Rattle.values.specs.declared.scalar.Scalar.TheVariants.{Unknown, Truth, Int, Real, Text}
use Rattle.values.specs.declared.list.Cell.{Cell}
use Rattle.values.specs.declared.list.List as Code
use Rattle.values.specs.declared.value.Value.{Value}

-- ---- what a value means, where bs are the lent bytes

-- the bytes of a text; one past the end is 0
abbrev pub bytes_of : List ℕ → Handle → List ℕ
bytes_of bs h = cells bs h.at h.len

-- a text by its number
abbrev pub handle_of : ℕ → Handle
handle_of x = record { at = x / 64; len = x % 64 }

abbrev pub meaning : List ℕ → Scalar → paper.Scalar
meaning bs Unknown = paper.unknown
meaning bs (Truth b) = paper.truth b
meaning bs (Int n) = paper.integer n.z
meaning bs (Real n) = paper.real n.z
meaning bs (Text h) = paper.text (bytes_of bs h)

abbrev pub held : List ℕ → Cell → paper.Scalar
held bs c = meaning bs c.s

-- the first n of the items
abbrev pub meaning_l : List ℕ → Code.List → List paper.Scalar
meaning_l bs l = map (held bs) (take l.n l.items)

abbrev pub valued : Bool → paper.Scalar → List paper.Scalar → paper.Value
valued true s l = paper.sequence l
valued false s l = paper.one s

abbrev pub meaning_v : List ℕ → Value → paper.Value
meaning_v bs v = valued v.many (meaning bs v.one) (meaning_l bs v.list)

-- ---- the code's leaves

abbrev pub cell : Scalar → Cell
cell s = record { s = s }

-- the i-th of the items
abbrev pub at : List Cell → ℕ → Scalar
at l i = (get_or l i (cell Unknown)).s

abbrev pub size_of : Code.List → ℕ
size_of l = length (take l.n l.items)

-- the scalar; a list counts as unknown
abbrev pub scalar_of : Value → Scalar
scalar_of v = cond v.many Unknown v.one

abbrev pub num : ℤ → Num
num z = record { z = z }

-- a number within its limit, or unknown
abbrev pub integer_of : ℤ → Scalar
integer_of z = cond (leb (nat_abs z) integer_limit) (Int (num z)) Unknown

abbrev pub real_of_fn : ℤ → Scalar
real_of_fn z = cond (leb (nat_abs z) real_limit) (Real (num z)) Unknown

abbrev pub unknownb : Scalar → Bool
unknownb Unknown = true
unknownb (Truth b) = false
unknownb (Int n) = false
unknownb (Real n) = false
unknownb (Text h) = false

-- what is neither a number nor a text, compared with s
abbrev pub beside : Scalar → S.Sign
beside Unknown = S.TheVariants.Unknown
beside (Truth b) = Unfit
beside (Int n) = Unfit
beside (Real n) = Unfit
beside (Text h) = Unfit

-- whether comp is 0
abbrev pub levelb : S.Sign → Bool
levelb Greater = false
levelb Less = false
levelb Equal = true
levelb S.TheVariants.Unknown = false
levelb Unfit = false

-- whether comp of two heads leaves it to the tails
abbrev pub goes_on_fn : S.Sign → Bool
goes_on_fn Greater = false
goes_on_fn Less = false
goes_on_fn Equal = true
goes_on_fn S.TheVariants.Unknown = true
goes_on_fn Unfit = false

-- a list of n beside s: unknown, or what an empty list gives, or no clause
abbrev pub end_of : ℕ → Scalar → S.Sign → S.Sign
end_of n s e = cond (unknownb s) S.TheVariants.Unknown (cond (eqb n 0) e Unfit)

-- ---- what is made of a list: r is l with s in the place of its i-th, and with s after its last

pub record Stored (l : Code.List) (i : ℕ) (s : Scalar) (r : Code.List) : Type 0 where
  pub size : r.n ≡ l.n
  pub means : (bs : List ℕ) → meaning_l bs r ≡ set (meaning_l bs l) i (meaning bs s)

pub record Pushed (l : Code.List) (s : Scalar) (r : Code.List) : Type 0 where
  pub size : r.n ≡ l.n + 1
  pub means : (bs : List ℕ) → meaning_l bs r ≡ meaning_l bs l ++ (meaning bs s ∷ [])
