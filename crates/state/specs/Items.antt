-- The value of a data item as cells and bytes: its shape, whether there is a row, a tag and a number for each of 16 elements, and 48 bytes for the text of each.
-- Every cell and byte is determined; law: they determine the value.
use Rattle.std.specs.Prelude.{ℕ, zero, suc, ◌+◌, ◌*◌, ◌<◌, ◌≤◌, ◌≡◌, refl, Bool, true, false, List, [], ℤ, get_or, length}
use Rattle.std.proofs.Common.{arith, sym, ap, ◌∙◌, ext_get_or}
use Rattle.std.proofs.Math.Option.{Option, none, some}
use Rattle.paper_expressions.specs.Values.{Scalar, unknown, truth, integer, real, text, Value, one, sequence}
use Rattle.paper_expressions.proofs.Laws.WithinLimits.{Small, unknown_small, truth_small, integer_small, real_small, text_small, EachSmall, none_small, more_small, Limited, one_limited, list_limited}
use Rattle.parts.specs.Texts.{handle, literal, moved, literal_moved}
use Rattle.state.specs.Cell.{bit}

-- ---- one element; its text has its place

abbrev pub tag_of : Scalar → ℕ
tag_of unknown = 0
tag_of (truth b) = 1
tag_of (integer n) = 2
tag_of (real n) = 3
tag_of (text s) = 4

abbrev pub number_of : ℕ → Scalar → ℕ
number_of place unknown = 0
number_of place (truth b) = bit b
number_of place (integer n) = moved n
number_of place (real n) = moved n
number_of place (text s) = handle place (length s)

-- its text
abbrev pub spelt : Scalar → List ℕ
spelt unknown = []
spelt (truth b) = []
spelt (integer n) = []
spelt (real n) = []
spelt (text s) = s

-- and zeros behind it
abbrev pub byte_of : Scalar → ℕ → ℕ
byte_of x k = get_or (spelt x) k 0

-- ---- the value, if there is a row

abbrev pub shape_of : Option Value → ℕ
shape_of none = 0
shape_of (some (one s)) = 0
shape_of (some (sequence l)) = 1 + length l

abbrev pub there-of : Option Value → ℕ
there-of none = 0
there-of (some w) = 1

abbrev pub scalar-at : Scalar → ℕ → Scalar
scalar-at s zero = s
scalar-at s (suc j) = unknown

-- the j-th element; unknown where there is none
abbrev pub element : Option Value → ℕ → Scalar
element none j = unknown
element (some (one s)) j = scalar-at s j
element (some (sequence l)) j = get_or l j unknown

-- where the texts of an item's elements stand in the text bytes
abbrev pub text_place : ℕ → ℕ
text_place d = 16384 + 768 * d

-- it passes no limit
abbrev pub Bounded : Option Value → Type 0
Bounded o = (w : Value) → o ≡ some w → Limited w

-- s holds the tags from a on and the numbers from c on, b the bytes from e on, of the value o of an item whose texts have their places from p on
pub record Holds (s : List ℕ) (a c : ℕ) (b : List ℕ) (e p : ℕ) (o : Option Value) : Type 0 where
  pub limited : Bounded o
  pub shape : get_or s a 0 ≡ shape_of o
  pub there : get_or s c 0 ≡ there-of o
  pub tags : (j : ℕ) → j < 16 → get_or s (a + 1 + j) 0 ≡ tag_of (element o j)
  pub numbers : (j : ℕ) → j < 16 → get_or s (c + 1 + j) 0 ≡ number_of (p + 48 * j) (element o j)
  pub bytes : (j k : ℕ) → j < 16 → k < 48 → get_or b (e + 48 * j + k) 0 ≡ byte_of (element o j) k

-- ---- an element from its cells

moved_once : {n m : ℤ} → moved n ≡ moved m → literal (moved n) ≡ n → literal (moved m) ≡ m → n ≡ m
moved_once e x y = sym x ∙ ap literal e ∙ y

abbrev SameBytes : Scalar → Scalar → Type 0
SameBytes x y = (k : ℕ) → k < 48 → byte_of x k ≡ byte_of y k

apart : {n m : ℕ} {A : Type 0} → n ≡ m → ¬ (n ≡ m) → A
apart e f = absurd (f e)

pub bit_once : (a b : Bool) → bit a ≡ bit b → a ≡ b
bit_once true true e = refl
bit_once true false e = absurd (let z : ⊥ = omega arith in z)
bit_once false true e = absurd (let z : ⊥ = omega arith in z)
bit_once false false e = refl

-- within the limits, tag, number and bytes are those of one element only
pub one_element : (p : ℕ) {x y : Scalar} → Small x → Small y → tag_of x ≡ tag_of y → number_of p x ≡ number_of p y → SameBytes x y → x ≡ y
one_element p unknown_small unknown_small e f g = refl
one_element p unknown_small truth_small e f g = absurd (let z : ⊥ = omega arith in z)
one_element p unknown_small (integer_small k) e f g = absurd (let z : ⊥ = omega arith in z)
one_element p unknown_small (real_small k) e f g = absurd (let z : ⊥ = omega arith in z)
one_element p unknown_small (text_small k) e f g = absurd (let z : ⊥ = omega arith in z)
one_element p truth_small unknown_small e f g = absurd (let z : ⊥ = omega arith in z)
one_element p (truth_small {b = a}) (truth_small {b = b}) e f g = ap truth (bit_once a b f)
one_element p truth_small (integer_small k) e f g = absurd (let z : ⊥ = omega arith in z)
one_element p truth_small (real_small k) e f g = absurd (let z : ⊥ = omega arith in z)
one_element p truth_small (text_small k) e f g = absurd (let z : ⊥ = omega arith in z)
one_element p (integer_small h) unknown_small e f g = absurd (let z : ⊥ = omega arith in z)
one_element p (integer_small h) truth_small e f g = absurd (let z : ⊥ = omega arith in z)
one_element p (integer_small {n = n} h) (integer_small {n = m} k) e f g = ap integer (moved_once f (literal_moved n (omega arith)) (literal_moved m (omega arith)))
one_element p (integer_small h) (real_small k) e f g = absurd (let z : ⊥ = omega arith in z)
one_element p (integer_small h) (text_small k) e f g = absurd (let z : ⊥ = omega arith in z)
one_element p (real_small h) unknown_small e f g = absurd (let z : ⊥ = omega arith in z)
one_element p (real_small h) truth_small e f g = absurd (let z : ⊥ = omega arith in z)
one_element p (real_small h) (integer_small k) e f g = absurd (let z : ⊥ = omega arith in z)
one_element p (real_small {n = n} h) (real_small {n = m} k) e f g = ap real (moved_once f (literal_moved n h) (literal_moved m k))
one_element p (real_small h) (text_small k) e f g = absurd (let z : ⊥ = omega arith in z)
one_element p (text_small h) unknown_small e f g = absurd (let z : ⊥ = omega arith in z)
one_element p (text_small h) truth_small e f g = absurd (let z : ⊥ = omega arith in z)
one_element p (text_small h) (integer_small k) e f g = absurd (let z : ⊥ = omega arith in z)
one_element p (text_small h) (real_small k) e f g = absurd (let z : ⊥ = omega arith in z)
one_element p (text_small {s = s} h) (text_small {s = t} k) e f g =
    let l : length s ≡ length t = omega arith in
    ap text (ext_get_or 0 s t l (λ i j. g i (omega arith)))

-- ---- the value from its elements

pub each_small : {l : List Scalar} → EachSmall l → (j : ℕ) → Small (get_or l j unknown)
each_small none_small j = unknown_small
each_small (more_small h k) zero = h
each_small (more_small h k) (suc j) = each_small k j

pub small_element : {o : Option Value} → Bounded o → (j : ℕ) → Small (element o j)
small_element {o = none} f j = unknown_small
small_element {o = some w} f j = go (f w refl) j
  where
    go : {v : Value} → Limited v → (i : ℕ) → Small (element (some v) i)
    go (one_limited h) zero = h
    go (one_limited h) (suc i) = unknown_small
    go (list_limited l h) i = each_small h i

list_size : {o : Option Value} {l : List Scalar} → Bounded o → o ≡ some (sequence l) → length l ≤ 16
list_size {l = l} f e = go (f (sequence l) e)
  where
    go : {m : List Scalar} → Limited (sequence m) → length m ≤ 16
    go (list_limited h k) = h

pub one_option : (o q : Option Value) → Bounded o → shape_of o ≡ shape_of q → there-of o ≡ there-of q
    → ((j : ℕ) → j < 16 → element o j ≡ element q j) → o ≡ q
one_option none none f e g h = refl
one_option none (some w) f e g h = absurd (let z : ⊥ = omega arith in z)
one_option (some w) none f e g h = absurd (let z : ⊥ = omega arith in z)
one_option (some (one s)) (some (one t)) f e g h = ap (λ (x : Scalar). some (one x)) (h 0 (omega arith))
one_option (some (one s)) (some (sequence l)) f e g h = absurd (let z : ⊥ = omega arith in z)
one_option (some (sequence l)) (some (one s)) f e g h = absurd (let z : ⊥ = omega arith in z)
one_option (some (sequence l)) (some (sequence m)) f e g h =
    let n = list_size f refl in
    let k : length l ≡ length m = omega arith in
    ap (λ (x : List Scalar). some (sequence x)) (ext_get_or unknown l m k (λ i j. h i (omega arith)))

-- the same cells and bytes hold one value only
pub one_value : {s u : List ℕ} {a c a' c' : ℕ} {b v : List ℕ} {e e' p : ℕ} {o q : Option Value} → Holds s a c b e p o → Holds u a' c' v e' p q
    → ((j : ℕ) → j < 17 → get_or s (a + j) 0 ≡ get_or u (a' + j) 0) → ((j : ℕ) → j < 17 → get_or s (c + j) 0 ≡ get_or u (c' + j) 0)
    → ((i : ℕ) → i < 768 → get_or b (e + i) 0 ≡ get_or v (e' + i) 0) → o ≡ q
one_value {s} {u} {a} {c} {a'} {c'} {b} {v} {e} {e'} {p} {o} {q} h k x y z =
    one_option o q h.limited (sym h.shape ∙ first a a' x ∙ k.shape) (sym h.there ∙ first c c' y ∙ k.there) elements
  where
    first : (n m : ℕ) → ((j : ℕ) → j < 17 → get_or s (n + j) 0 ≡ get_or u (m + j) 0) → get_or s n 0 ≡ get_or u m 0
    first n m f = let i : n + 0 ≡ n = omega arith in let j : m + 0 ≡ m = omega arith in
        ap (λ (w : ℕ). get_or s w 0) (sym i) ∙ f 0 (omega arith) ∙ ap (λ (w : ℕ). get_or u w 0) j

    later : (n m : ℕ) → ((j : ℕ) → j < 17 → get_or s (n + j) 0 ≡ get_or u (m + j) 0) → (j : ℕ) → j < 16 → get_or s (n + 1 + j) 0 ≡ get_or u (m + 1 + j) 0
    later n m f j l = let i : n + 1 + j ≡ n + (1 + j) = omega arith in let r : m + (1 + j) ≡ m + 1 + j = omega arith in
        ap (λ (w : ℕ). get_or s w 0) i ∙ f (1 + j) (omega arith) ∙ ap (λ (w : ℕ). get_or u w 0) r

    inner : (j i : ℕ) → j < 16 → i < 48 → get_or b (e + 48 * j + i) 0 ≡ get_or v (e' + 48 * j + i) 0
    inner j i l m = let n : e + 48 * j + i ≡ e + (48 * j + i) = omega arith in let r : e' + (48 * j + i) ≡ e' + 48 * j + i = omega arith in
        ap (λ (w : ℕ). get_or b w 0) n ∙ z (48 * j + i) (omega arith) ∙ ap (λ (w : ℕ). get_or v w 0) r

    elements : (j : ℕ) → j < 16 → element o j ≡ element q j
    elements j l =
        one_element (p + 48 * j) (small_element h.limited j) (small_element k.limited j)
        (sym (h.tags j l) ∙ later a a' x j l ∙ k.tags j l)
        (sym (h.numbers j l) ∙ later c c' y j l ∙ k.numbers j l)
        (λ i m. sym (h.bytes j i l m) ∙ inner j i l m ∙ k.bytes j i l m)

-- and one value has one set of cells and bytes
pub same_cells : {s u : List ℕ} {a c a' c' : ℕ} {b v : List ℕ} {e e' p : ℕ} {o : Option Value} → Holds s a c b e p o → Holds u a' c' v e' p o
    → (j : ℕ) → j < 16 → (get_or s (a + 1 + j) 0 ≡ get_or u (a' + 1 + j) 0) × (get_or s (c + 1 + j) 0 ≡ get_or u (c' + 1 + j) 0)
same_cells h k j l = (h.tags j l ∙ sym (k.tags j l), h.numbers j l ∙ sym (k.numbers j l))

-- what stays, and what is copied, holds the same
pub holds_as : {s u : List ℕ} {a c a' c' : ℕ} {b v : List ℕ} {e e' p : ℕ} {o : Option Value} → Holds s a c b e p o
    → ((j : ℕ) → j < 17 → get_or u (a' + j) 0 ≡ get_or s (a + j) 0) → ((j : ℕ) → j < 17 → get_or u (c' + j) 0 ≡ get_or s (c + j) 0)
    → ((i : ℕ) → i < 768 → get_or v (e' + i) 0 ≡ get_or b (e + i) 0) → Holds u a' c' v e' p o
holds_as {s} {u} {a} {c} {a'} {c'} {b} {v} {e} {e'} {p} {o} h x y z =
    record {
      limited = h.limited;
      shape = first a a' x ∙ h.shape;
      there = first c c' y ∙ h.there;
      tags = λ j l. later a a' x j l ∙ h.tags j l;
      numbers = λ j l. later c c' y j l ∙ h.numbers j l;
      bytes = λ j i l m. inner j i l m ∙ h.bytes j i l m;
    }
  where
    first : (n m : ℕ) → ((j : ℕ) → j < 17 → get_or u (m + j) 0 ≡ get_or s (n + j) 0) → get_or u m 0 ≡ get_or s n 0
    first n m f = let i : n + 0 ≡ n = omega arith in let j : m + 0 ≡ m = omega arith in
        ap (λ (w : ℕ). get_or u w 0) (sym j) ∙ f 0 (omega arith) ∙ ap (λ (w : ℕ). get_or s w 0) i

    later : (n m : ℕ) → ((j : ℕ) → j < 17 → get_or u (m + j) 0 ≡ get_or s (n + j) 0) → (j : ℕ) → j < 16 → get_or u (m + 1 + j) 0 ≡ get_or s (n + 1 + j) 0
    later n m f j l = let i : m + 1 + j ≡ m + (1 + j) = omega arith in let r : n + (1 + j) ≡ n + 1 + j = omega arith in
        ap (λ (w : ℕ). get_or u w 0) i ∙ f (1 + j) (omega arith) ∙ ap (λ (w : ℕ). get_or s w 0) r

    inner : (j i : ℕ) → j < 16 → i < 48 → get_or v (e' + 48 * j + i) 0 ≡ get_or b (e + 48 * j + i) 0
    inner j i l m = let n : e' + 48 * j + i ≡ e' + (48 * j + i) = omega arith in let r : e + (48 * j + i) ≡ e + 48 * j + i = omega arith in
        ap (λ (w : ℕ). get_or v w 0) n ∙ z (48 * j + i) (omega arith) ∙ ap (λ (w : ℕ). get_or b w 0) r
