-- What a list of cells means, element by element.
use mathlib.Core.Path.{◌≡◌, refl, sym, ap, ◌∙◌}
use mathlib.Core.List.{List, [], ◌∷◌, ◌++◌, map, map-append}
use Prim.Native.Nat.{ℕ, zero, suc, ◌+◌, ◌≤◌, ◌<◌}
use native.Mathlib.Numerals.{add-one}
use native.Mathlib.Omega.{arith}
use lib.ListN.{get_or, length, take, set, length-map, get_or-map}
use lib.Seq.{get_or-take, take-suc-set}
use Rattle.paper_expressions.specs.Values as paper
use Rattle.values.specs.declared.scalar.Scalar.{Scalar}
use Rattle.values.specs.declared.scalar.Scalar.TheVariants.{Unknown}
use Rattle.values.specs.declared.list.Cell.{Cell}
use Rattle.values.specs.declared.list.List as Code
use Rattle.values.specs.Meaning.{meaning, meaning_l, held, at, size_of, cell}

-- the length of an array of structs in a field: what is known of it stands at a map over it
pub unmap : (X Y : Type 0) (g : X → Y) (l : List X) (n : ℕ) → length (map g l) ≡ n → length l ≡ n
unmap X Y g l n e = sym (length-map l g) ∙ e

pub size_is : (bs : List ℕ) (l : Code.List) → length (meaning_l bs l) ≡ size_of l
size_is bs l = length-map (take l.n l.items) (held bs)

short : (n : ℕ) {A : Type 0} (l : List A) → length (take n l) ≤ n
short zero l = omega arith
short (suc n) [] = omega arith
short (suc n) (x ∷ l) = let h = short n l in omega arith

pub size_least : (l : Code.List) → size_of l ≤ l.n
size_least l = short l.n l.items

-- the i-th of a list
pub element_is : (bs : List ℕ) (l : Code.List) (i : ℕ) → i < size_of l → get_or (meaning_l bs l) i paper.unknown ≡ meaning bs (at l.items i)
element_is bs l i h =
    get_or-map (held bs) (take l.n l.items) i (cell Unknown)
    ∙ ap (held bs) (get_or-take l.n l.items i (cell Unknown) (let k = size_least l in omega arith))

-- ---- a list with an element stored, or one more

map_set : (bs : List ℕ) (l : List Cell) (i : ℕ) (c : Cell) → map (held bs) (set l i c) ≡ set (map (held bs) l) i (held bs c)
map_set bs [] i c = refl
map_set bs (x ∷ l) zero c = refl
map_set bs (x ∷ l) (suc i) c = ap (λ (m : List paper.Scalar). held bs x ∷ m) (map_set bs l i c)

take_set : (n : ℕ) (l : List Cell) (i : ℕ) (c : Cell) → take n (set l i c) ≡ set (take n l) i c
take_set zero l i c = refl
take_set (suc n) [] i c = refl
take_set (suc n) (x ∷ l) zero c = refl
take_set (suc n) (x ∷ l) (suc i) c = ap (λ (m : List Cell). x ∷ m) (take_set n l i c)

pub stored : (bs : List ℕ) (n : ℕ) (l : List Cell) (i : ℕ) (s : Scalar)
    → map (held bs) (take n (set l i (cell s))) ≡ set (map (held bs) (take n l)) i (meaning bs s)
stored bs n l i s = ap (map (held bs)) (take_set n l i (cell s)) ∙ map_set bs (take n l) i (cell s)

pub pushed : (bs : List ℕ) (n : ℕ) (l : List Cell) (s : Scalar) → n < length l
    → map (held bs) (take (n + 1) (set l n (cell s))) ≡ map (held bs) (take n l) ++ (meaning bs s ∷ [])
pushed bs n l s h = rw (add-one n, take-suc-set l n (cell s) h) (map-append (held bs) (take n l) (cell s ∷ []))
