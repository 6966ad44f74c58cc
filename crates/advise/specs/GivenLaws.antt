-- Law: the cells and bytes of a value that was typed stand for that very value, as adding takes them (8.3.6). By the elements, one after the other.
use Rattle.std.specs.Prelude.{ℕ, zero, suc, ◌+◌, ◌*◌, ◌-◌, ◌≤◌, ◌<◌, ◌≡◌, refl, true, false, ℤ, pos, set, length, replicate}
use native.Mathlib.Omega.{arith}
use Rattle.std.proofs.Common.{not-suc-le-zero, add-one, sym, ap₂, ◌∙◌, inl, length-set, get_or-set_same, ext_get_or, lt-ltb}
use Rattle.std.proofs.Math.Path.{ap}
use mathlib.Core.List.{List, [], ◌∷◌}
use Rattle.std.proofs.Math.Option.{some}
use Rattle.std.proofs.Math.ListN.{get_or, length-replicate}
use Rattle.std.proofs.Math.Seq.{get_or-set_other}
use Rattle.paper_expressions.specs.Values.{Scalar, unknown, truth, integer, real, text, Value, one, sequence}
use Rattle.parts.specs.Texts.{cells, text_of}
use Rattle.blocks.specs.Blocks.{cells_long, cells_at}
use Rattle.value_given.specs.Given.{element_given, element-at, elements, as_one, as-list, shaped, given}
use Rattle.value_given.specs.Cells.{same_scalar, listed, elements_if}
use Rattle.typed_value.specs.Cells.{tag_of, number_of, text_put, tags_put, numbers_put, texts_put, elements_of, tags_with, numbers_with, texts_with, tags_of, numbers_of_fn, bytes_of}
use Rattle.typed_value.specs.CellLaws.{spread_copied}

-- ---- a cell for each element

abbrev put : {A : Type 0} → (ℕ → Scalar → A) → ℕ → List Scalar → List A → List A
put f i [] t = t
put f i (x ∷ l) t = put f (i + 1) l (set t (1 + i) (f i x))

module _ {A : Type 0} (f : ℕ → Scalar → A) (d : A) where
  put_long : (i : ℕ) (l : List Scalar) (t : List A) → length (put f i l t) ≡ length t
  put_long i [] t = refl
  put_long i (x ∷ l) t = put_long (i + 1) l (set t (1 + i) (f i x)) ∙ length-set t (1 + i) (f i x)

  put_low : (i : ℕ) (l : List Scalar) (t : List A) (k : ℕ) → k ≤ i → get_or (put f i l t) k d ≡ get_or t k d
  put_low i [] t k h = refl
  put_low i (x ∷ l) t k h = put_low (i + 1) l (set t (1 + i) (f i x)) k (omega arith) ∙ get_or-set_other t (1 + i) k (f i x) d (λ e. omega arith)

  put_at : (i : ℕ) (l : List Scalar) (t : List A) (j : ℕ) → j < length l → 1 + i + j < length t → get_or (put f i l t) (1 + i + j) d ≡ f (i + j) (get_or l j unknown)
  put_at i [] t j h k = absurd (not-suc-le-zero h)
  put_at i (x ∷ l) t zero h k =
      let e : 1 + i + 0 ≡ 1 + i = omega arith in
      let g : i ≡ i + 0 = omega arith in
      ap (λ (y : ℕ). get_or (put f (i + 1) l (set t (1 + i) (f i x))) y d) e
      ∙ put_low (i + 1) l (set t (1 + i) (f i x)) (1 + i) (omega arith)
      ∙ get_or-set_same t (1 + i) (f i x) d (omega arith)
      ∙ ap (λ (y : ℕ). f y x) g
  put_at i (x ∷ l) t (suc j) h k =
      let e : 1 + i + suc j ≡ 1 + (i + 1) + j = omega arith in
      let g : i + 1 + j ≡ i + suc j = omega arith in
      let z = length-set t (1 + i) (f i x) in
      ap (λ (y : ℕ). get_or (put f (i + 1) l (set t (1 + i) (f i x))) y d) e
      ∙ put_at (i + 1) l (set t (1 + i) (f i x)) j (omega arith) (omega arith)
      ∙ ap (λ (y : ℕ). f y (get_or l j unknown)) g

tag_as : ℕ → Scalar → ℕ
tag_as i x = tag_of x

tags-put : (i : ℕ) (l : List Scalar) (t : List ℕ) → tags_put i l t ≡ put tag_as i l t
unfolding tag_as
tags-put i [] t = refl
tags-put i (x ∷ l) t = tags-put (i + 1) l (set t (1 + i) (tag_of x))

numbers-put : (i : ℕ) (l : List Scalar) (n : List ℤ) → numbers_put i l n ≡ put number_of i l n
numbers-put i [] n = refl
numbers-put i (x ∷ l) n = numbers-put (i + 1) l (set n (1 + i) (number_of i x))

-- ---- 64 bytes for each element

text_long : (i : ℕ) (x : Scalar) (b : List ℕ) → length (text_put i x b) ≡ length b
text_long i unknown b = refl
text_long i (truth t) b = refl
text_long i (integer z) b = refl
text_long i (real z) b = refl
text_long i (text w) b = (spread_copied w (64 * i) 64 b).size

text_low : (i : ℕ) (x : Scalar) (b : List ℕ) (k : ℕ) → k < 64 * i → get_or (text_put i x b) k 0 ≡ get_or b k 0
text_low i unknown b k h = refl
text_low i (truth t) b k h = refl
text_low i (integer z) b k h = refl
text_low i (real z) b k h = refl
text_low i (text w) b k h = (spread_copied w (64 * i) 64 b).other k (inl h)

texts_low : (i : ℕ) (l : List Scalar) (b : List ℕ) (k : ℕ) → k < 64 * i → get_or (texts_put i l b) k 0 ≡ get_or b k 0
texts_low i [] b k h = refl
texts_low i (x ∷ l) b k h = texts_low (i + 1) l (text_put i x b) k (omega arith) ∙ text_low i x b k h

-- the text w of the j-th element, byte by byte
texts_at : (i : ℕ) (l : List Scalar) (b : List ℕ) (j k : ℕ) (w : List ℕ) → j < length l → get_or l j unknown ≡ text w → k < 64 → 64 * (i + j) + 64 ≤ length b → get_or (texts_put i l b) (64 * (i + j) + k) 0 ≡ get_or w k 0
texts_at i [] b j k w h e m r = absurd (not-suc-le-zero h)
texts_at i (x ∷ l) b zero k w h e m r =
    let g : i + 0 ≡ i = omega arith in
    let z : 0 + k ≡ k = omega arith in
    ap (λ (y : ℕ). get_or (texts_put (i + 1) l (text_put i x b)) (64 * y + k) 0) g
    ∙ texts_low (i + 1) l (text_put i x b) (64 * i + k) (omega arith)
    ∙ ap (λ (y : Scalar). get_or (text_put i y b) (64 * i + k) 0) e
    ∙ (spread_copied w (64 * i) 64 b).same k m (omega arith)
    ∙ ap (λ (y : ℕ). get_or w y 0) z
texts_at i (x ∷ l) b (suc j) k w h e m r =
    let g : i + suc j ≡ i + 1 + j = omega arith in
    let z = text_long i x b in
    ap (λ (y : ℕ). get_or (texts_put (i + 1) l (text_put i x b)) (64 * y + k) 0) g ∙ texts_at (i + 1) l (text_put i x b) j k w (omega arith) e m (omega arith)

-- ---- the elements that the cells and bytes stand for

-- a text has fewer than 64 bytes
abbrev pub Handy : Scalar → Type 0
Handy unknown = Unit {0}
Handy (truth t) = Unit {0}
Handy (integer z) = Unit {0}
Handy (real z) = Unit {0}
Handy (text w) = length w < 64

module _ (l : List Scalar) (most : length l ≤ 20) (handy : (j : ℕ) → j < length l → Handy (get_or l j unknown)) where
  abbrev ns : List ℤ
  ns = numbers_put 0 l (replicate 21 (pos 0))

  abbrev bs : List ℕ
  bs = texts_put 0 l (replicate 1280 0)

  numbers_long : length ns ≡ 21
  numbers_long = ap length (numbers-put 0 l (replicate 21 (pos 0))) ∙ put_long number_of (pos 0) 0 l (replicate 21 (pos 0)) ∙ length-replicate 21 (pos 0)

  number_there : (j : ℕ) → j < length l → get_or ns (1 + j) (pos 0) ≡ number_of j (get_or l j unknown)
  number_there j h =
      let e : 1 + j ≡ 1 + 0 + j = omega arith in
      let g : 0 + j ≡ j = omega arith in
      let z = length-replicate 21 (pos 0) in
      ap (λ (y : ℕ). get_or ns y (pos 0)) e
      ∙ ap (λ (y : List ℤ). get_or y (1 + 0 + j) (pos 0)) (numbers-put 0 l (replicate 21 (pos 0)))
      ∙ put_at number_of (pos 0) 0 l (replicate 21 (pos 0)) j h (omega arith)
      ∙ ap (λ (y : ℕ). number_of y (get_or l j unknown)) g

  byte_there : (j : ℕ) → j < length l → (w : List ℕ) → get_or l j unknown ≡ text w → length w < 64 → (k : ℕ) → k < length w → get_or bs (64 * j + k) 0 ≡ get_or w k 0
  byte_there j low w e h k m =
      let g : j ≡ 0 + j = omega arith in
      let z = length-replicate {A = ℕ} 1280 0 in
      ap (λ (y : ℕ). get_or bs (64 * y + k) 0) g ∙ texts_at 0 l (replicate 1280 0) j k w low e (omega arith) (omega arith)

  text_there : (j : ℕ) → j < length l → (w : List ℕ) → get_or l j unknown ≡ text w → length w < 64 → cells bs (64 * j) (length w) ≡ w
  text_there j low w e h =
      let z = cells_long bs (64 * j) (length w) in
      ext_get_or 0 (cells bs (64 * j) (length w)) w z
      (λ k m. cells_at bs (64 * j) (length w) k (omega arith) ∙ byte_there j low w e h k (omega arith))

  given_by : (j : ℕ) → j < length l → (x : Scalar) → get_or l j unknown ≡ x → Handy x → element_given bs (tag_of x) (number_of j x) ≡ some x
  given_by j low unknown e h = refl
  given_by j low (truth true) e h = refl
  given_by j low (truth false) e h = refl
  given_by j low (integer z) e h = refl
  given_by j low (real z) e h = refl
  given_by j low (text w) e h = ap (λ (y : List ℕ). some (text y)) (text_of bs (64 * j) (length w) h ∙ text_there j low w e h)

  module _ (t : List ℕ) (tags_long : length t ≡ 21) (tags : (j : ℕ) → j < length l → get_or t (1 + j) 0 ≡ tag_of (get_or l j unknown)) where
    element_there : (j : ℕ) → j < length l → element-at t ns bs (1 + j) ≡ some (get_or l j unknown)
    element_there j h =
        let a : 1 + j < length t = omega arith in
        let b : 1 + j < length ns = (let z = numbers_long in omega arith) in
        rw (lt-ltb (1 + j) (length t) a, lt-ltb (1 + j) (length ns) b)
        (ap₂ (element_given bs) (tags j h) (number_there j h) ∙ given_by j h (get_or l j unknown) refl (handy j h))

    elements_there : elements t ns bs 1 (length l) ≡ some l
    elements_there =
        let r = elements_if t ns bs 1 (length l) (λ j h. (get_or l j unknown, element_there j h)) in
        let o = listed t ns bs 1 (length l) r.1 in
        let z = o.size in
        r.1 ∙ ap some (ext_get_or unknown r.0 l o.size (λ j h. same_scalar (sym (o.each j (omega arith)) ∙ element_there j (omega arith))))

  abbrev ts : List ℕ
  ts = tags_put 0 l (replicate 21 0)

  tags_long : length ts ≡ 21
  tags_long = ap length (tags-put 0 l (replicate 21 0)) ∙ put_long tag_as 0 0 l (replicate 21 0) ∙ length-replicate {A = ℕ} 21 0

  tag_there : (s j : ℕ) → j < length l → get_or (set ts 0 s) (1 + j) 0 ≡ tag_of (get_or l j unknown)
  unfolding tag_as
  tag_there s j h =
      let e : 1 + j ≡ 1 + 0 + j = omega arith in
      let z = length-replicate {A = ℕ} 21 0 in
      get_or-set_other ts 0 (1 + j) s 0 (λ y. omega arith)
      ∙ ap (λ (y : ℕ). get_or ts y 0) e
      ∙ ap (λ (y : List ℕ). get_or y (1 + 0 + j) 0) (tags-put 0 l (replicate 21 0))
      ∙ put_at tag_as 0 0 l (replicate 21 0) j h (omega arith)

  shape_there : (s : ℕ) → get_or (set ts 0 s) 0 0 ≡ s
  shape_there s = let z = tags_long in get_or-set_same ts 0 s 0 (omega arith)

  shaped_long : (s : ℕ) → length (set ts 0 s) ≡ 21
  shaped_long s = length-set ts 0 s ∙ tags_long

-- what is added for a value that was typed is that value
pub given_typed : (v : Value) → length (elements_of v) ≤ 20 → ((j : ℕ) → j < length (elements_of v) → Handy (get_or (elements_of v) j unknown)) → given (tags_of v) (numbers_of_fn v) (bytes_of v) ≡ some v
unfolding given tags_with numbers_with texts_with
given_typed (one x) m h =
    ap (shaped (set (ts (x ∷ []) m h) 0 0) (ns (x ∷ []) m h) (bs (x ∷ []) m h)) (shape_there (x ∷ []) m h 0)
    ∙ ap as_one (element_there (x ∷ []) m h (set (ts (x ∷ []) m h) 0 0) (shaped_long (x ∷ []) m h 0) (tag_there (x ∷ []) m h 0) 0 (omega arith))
given_typed (sequence l) m h =
    ap (shaped (set (ts l m h) 0 (length l + 1)) (ns l m h) (bs l m h)) (shape_there l m h (length l + 1) ∙ add-one (length l))
    ∙ ap as-list (elements_there l m h (set (ts l m h) 0 (length l + 1)) (shaped_long l m h (length l + 1)) (tag_there l m h (length l + 1)))
