-- The cells and bytes of a data item's value show it to the evaluator. By the elements, one after the other.
use Rattle.std.specs.Prelude.{ℕ, zero, suc, ◌+◌, ◌*◌, ◌-◌, ◌<◌, ◌≤◌, ◌/◌, ◌%◌, ◌≡◌, refl, Bool, true, false, List, [], ◌∷◌, ℤ, get_or, length}
use Rattle.std.proofs.Common.{arith, sym, ap, ap₂, subst, ◌∙◌, ext_get_or, le-leb, lt-ltb, le-ltb, ne_eqb}
use Rattle.std.proofs.Math.Option.{Option, none, some}
use Rattle.paper_expressions.specs.Limits.{integer_limit, real_limit, text_limit}
use Rattle.paper_expressions.specs.Values.{Scalar, unknown, truth, integer, real, text, Value, one, sequence}
use Rattle.paper_expressions.proofs.Laws.WithinLimits.{Small, unknown_small, truth_small, integer_small, real_small, text_small, Limited, list_limited}
use Rattle.parts.specs.Texts.{cells, handle, moved, literal_moved, handle_place, handle_extent}
use Rattle.values.specs.Meaning.{meaning, integer_of, real_of_fn}
use Rattle.evaluator.specs.Columns.{scalar_at, cell_at, cells_at_fn, shaped_at, shown_at, shown}
use Rattle.blocks.specs.Blocks.{cells_long, cells_at}
use Rattle.state.specs.Items as Items
use Items.{tag_of, number_of, byte_of, shape_of, element, Bounded, small_element}

-- ---- one element

text_there : (b : List ℕ) (p : ℕ) (s : List ℕ) → length s ≤ 48 → ((k : ℕ) → k < 48 → get_or b (p + k) 0 ≡ get_or s k 0) → cells b (handle p (length s) / 64) (handle p (length s) % 64) ≡ s
text_there b p s l h =
    ap₂ (cells b) (handle_place p (length s) (omega arith)) (handle_extent p (length s) (omega arith))
    ∙ ext_get_or 0 (cells b p (length s)) s (cells_long b p (length s)) (λ i j. (let z = cells_long b p (length s) in cells_at b p (length s) i (omega arith) ∙ h i (omega arith)))

pub element_shown : (b : List ℕ) (p : ℕ) {y : Scalar} → Small y → ((k : ℕ) → k < 48 → get_or b (p + k) 0 ≡ byte_of y k) → meaning b (scalar_at (tag_of y) (number_of p y)) ≡ y
element_shown b p unknown_small h = refl
element_shown b p (truth_small {b = true}) h = refl
element_shown b p (truth_small {b = false}) h = refl
element_shown b p (integer_small {n = n} i) h = ap (λ (z : ℤ). meaning b (integer_of z)) (literal_moved n (omega arith)) ∙ rw (le-leb _ integer_limit i)
element_shown b p (real_small {n = n} i) h = ap (λ (z : ℤ). meaning b (real_of_fn z)) (literal_moved n i) ∙ rw (le-leb _ real_limit i)
element_shown b p (text_small {s = s} i) h = ap text (text_there b p s (omega arith) h)

-- ---- a list

cells_shown : (b tags nums : List ℕ) (l : List Scalar) (p : ℕ) → ((j : ℕ) → j < length l → meaning b (cell_at tags nums (p + j)) ≡ get_or l j unknown) → cells_at_fn b tags nums p (length l) ≡ l
cells_shown b tags nums [] p h = refl
cells_shown b tags nums (y ∷ l) p h =
    let a : p + 0 ≡ p = omega arith in
    ap₂ ◌∷◌ (ap (λ (z : ℕ). meaning b (cell_at tags nums z)) (sym a) ∙ h 0 (omega arith))
    (cells_shown b tags nums l (suc p) (λ j i. (let c : suc p + j ≡ p + suc j = omega arith in ap (λ (z : ℕ). meaning b (cell_at tags nums z)) c ∙ h (suc j) (omega arith))))

list_size : {o : Option Value} {l : List Scalar} → Bounded o → o ≡ some (sequence l) → length l ≤ 16
list_size {l = l} f e = go (f (sequence l) e)
  where
    go : {m : List Scalar} → Limited (sequence m) → length m ≤ 16
    go (list_limited h k) = h

-- the elements from p + 1 on are those of o
shaped : (b tags nums : List ℕ) (p k : ℕ) (o : Option Value) → Bounded o → ((j : ℕ) → j < 16 → meaning b (cell_at tags nums (p + 1 + j)) ≡ element o j) → k ≡ shape_of o → shaped_at b tags nums p k ≡ shown o
shaped b tags nums p k none f h e =
    let a : p + 1 ≡ p + 1 + 0 = omega arith in
    ap (shaped_at b tags nums p) e ∙ ap one (ap (λ (z : ℕ). meaning b (cell_at tags nums z)) a ∙ h 0 (omega arith))
shaped b tags nums p k (some (one s)) f h e =
    let a : p + 1 ≡ p + 1 + 0 = omega arith in
    ap (shaped_at b tags nums p) e ∙ ap one (ap (λ (z : ℕ). meaning b (cell_at tags nums z)) a ∙ h 0 (omega arith))
shaped b tags nums p k (some (sequence l)) f h e =
    let n = list_size f refl in
    let a : k - 1 ≡ length l = omega arith in
    rw (ne_eqb k 0 (λ z. omega arith), le-ltb 17 k (omega arith))
    (ap (λ (z : ℕ). sequence (cells_at_fn b tags nums (p + 1) z)) a ∙ ap sequence (cells_shown b tags nums l (p + 1) (λ j i. h j (omega arith))))

-- ---- the columns of the i-th item, where they are those of the state

pub item_shown : {s b : List ℕ} (tags nums : List ℕ) (i : ℕ) {o : Option Value} → i < 64 → Items.Holds s (776 + 17 * i) (1864 + 17 * i) b (16384 + 768 * i) (16384 + 768 * i) o
    → ((j : ℕ) → j < 1088 → get_or tags j 0 ≡ get_or s (776 + j) 0) → ((j : ℕ) → j < 1088 → get_or nums j 0 ≡ get_or s (1864 + j) 0) → shown_at b tags nums i ≡ shown o
item_shown {s} {b} tags nums i {o} l h x y =
    rw (lt-ltb i 65536 (omega arith)) (shaped b tags nums (17 * i) (get_or tags (17 * i) 0) o h.limited each shape)
  where
    shape : get_or tags (17 * i) 0 ≡ shape_of o
    shape = x (17 * i) (omega arith) ∙ h.shape

    each : (j : ℕ) → j < 16 → meaning b (cell_at tags nums (17 * i + 1 + j)) ≡ element o j
    each j m =
        let a : 776 + (17 * i + 1 + j) ≡ 776 + 17 * i + 1 + j = omega arith in
        let c : 1864 + (17 * i + 1 + j) ≡ 1864 + 17 * i + 1 + j = omega arith in
        ap (meaning b) (ap₂ scalar_at
        (x (17 * i + 1 + j) (omega arith) ∙ ap (λ (z : ℕ). get_or s z 0) a ∙ h.tags j m)
        (y (17 * i + 1 + j) (omega arith) ∙ ap (λ (z : ℕ). get_or s z 0) c ∙ h.numbers j m))
        ∙ element_shown b (16384 + 768 * i + 48 * j) (small_element h.limited j) (λ k n. h.bytes j k m n)
