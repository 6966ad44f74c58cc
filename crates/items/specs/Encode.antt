-- The one form of a value of the code, as the code writes it, holds what the value means. By the elements passed.
use Rattle.std.specs.Prelude.{ℕ, zero, suc, ◌+◌, ◌*◌, ◌<◌, ◌≤◌, ◌≡◌, refl, Bool, true, false, List, [], ℤ, pos, negsuc, nat_abs, ◌+ℤ◌, get_or, set, length, take, leb}
use Rattle.std.proofs.Common.{arith, not-suc-le-zero, sym, ap, subst, ◌∙◌, inl, length-set, get_or-set_same, get_or-set_other, get_or-take, le-ltb, le-leb, leb-true, below_more}
use Rattle.std.proofs.Math.Option.{some}
use Rattle.std.proofs.lemmas.List.{length-map}
use Rattle.std.proofs.Math.ListN.{get_or-map, get_or-eq_default}
use Rattle.paper_expressions.proofs.Laws.Tests.{contra}
use Rattle.paper_expressions.specs.Limits.{real_limit}
use Rattle.paper_expressions.specs.Values as paper
use Rattle.paper_expressions.specs.Values.{one, sequence}
use Rattle.paper_expressions.proofs.Laws.WithinLimits.{Small, integer_small, real_small, text_small, Limited}
use Rattle.parts.specs.Texts.{handle, moved}
use Rattle.state.specs.Cell.{bit}
use Rattle.state.specs.Items as Items
use Rattle.state.specs.Items.{tag_of, number_of, byte_of, shape_of, there-of, Bounded, Holds, small_element}
use Rattle.values.specs.declared.text.Handle.{Handle}
use Rattle.values.specs.declared.scalar.Scalar.{Scalar}
use Rattle.values.specs.declared.scalar.Scalar.TheVariants.{Unknown, Truth, Int, Real, Text}
use Rattle.values.specs.declared.list.Cell.{Cell}
use Rattle.values.specs.declared.list.List as Code
use Rattle.values.specs.declared.value.Value.{Value}
use Rattle.values.specs.Meaning.{bytes_of, meaning, held, meaning_l, valued, meaning_v, cell, at, size_of}
use Rattle.blocks.specs.Blocks.{Copied, cells_long}

-- ---- one element, as the code has it

abbrev pub tag_c : Scalar → ℕ
tag_c Unknown = 0
tag_c (Truth b) = 1
tag_c (Int n) = 2
tag_c (Real n) = 3
tag_c (Text h) = 4

abbrev pub spelt_c : List ℕ → Scalar → List ℕ
spelt_c b Unknown = []
spelt_c b (Truth x) = []
spelt_c b (Int n) = []
spelt_c b (Real n) = []
spelt_c b (Text h) = bytes_of b h

abbrev pub NumberOf : Scalar → ℕ → ℕ → ℕ → Type 0
NumberOf Unknown place n r = r ≡ 0
NumberOf (Truth b) place n r = r ≡ bit b
NumberOf (Int z) place n r = nat_abs z.z ≤ real_limit → r ≡ moved z.z
NumberOf (Real z) place n r = nat_abs z.z ≤ real_limit → r ≡ moved z.z
NumberOf (Text h) place n r = place < 1000000 → n < 64 → r ≡ handle place n

pub tag_means : (b : List ℕ) (x : Scalar) → tag_c x ≡ tag_of (meaning b x)
tag_means b Unknown = refl
tag_means b (Truth y) = refl
tag_means b (Int n) = refl
tag_means b (Real n) = refl
tag_means b (Text h) = refl

pub spelt_means : (b : List ℕ) (x : Scalar) → spelt_c b x ≡ Items.spelt (meaning b x)
spelt_means b Unknown = refl
spelt_means b (Truth y) = refl
spelt_means b (Int n) = refl
spelt_means b (Real n) = refl
spelt_means b (Text h) = refl

pub number_means : (b : List ℕ) (x : Scalar) (place n : ℕ) {r : ℕ} → place < 1000000 → n ≡ length (spelt_c b x) → Small (meaning b x) → NumberOf x place n r → r ≡ number_of place (meaning b x)
number_means b Unknown place n l e s h = h
number_means b (Truth y) place n l e s h = h
number_means b (Int z) place n l e (integer_small i) h = h (omega arith)
number_means b (Real z) place n l e (real_small i) h = h i
number_means b (Text z) place n {r} l e (text_small i) h = h l (omega arith) ∙ ap (handle place) e

pub number_told : {x y : Scalar} (place n r : ℕ) → x ≡ y → NumberOf y place n r → NumberOf x place n r
number_told place n r e h = subst (λ (z : Scalar). NumberOf z place n r) (sym e) h

-- the bytes of the element stand there
abbrev pub SpeltAt : Scalar → Handle → Type 0
SpeltAt x h = (b : List ℕ) → bytes_of b h ≡ spelt_c b x

pub spelt_told : {x y : Scalar} (h : Handle) → x ≡ y → SpeltAt y h → SpeltAt x h
spelt_told h e f b = f b ∙ sym (ap (spelt_c b) e)

-- ---- a number, moved up: it fits a cell

pub no_fit : (z w : ℤ) {r : Bool} {A : Type 0} → w ≡ z → r ≡ leb (nat_abs w) real_limit → r ≡ false → nat_abs z ≤ real_limit → A
no_fit z w {r} {A} e f g h = contra (sym g ∙ f ∙ ap (λ (y : ℤ). leb (nat_abs y) real_limit) e ∙ le-leb (nat_abs z) real_limit h)

pub fit : (w : ℤ) {r : Bool} → r ≡ leb (nat_abs w) real_limit → r ≡ true → nat_abs w ≤ real_limit
fit w f g = leb-true (nat_abs w) real_limit (sym f ∙ g)

pub up : (z : ℤ) → nat_abs z ≤ real_limit → z +ℤ pos real_limit ≡ pos (moved z)
up (pos n) h = refl
up (negsuc n) h = sym (rw (le-ltb real_limit (suc n) h))

pub up_small : (z : ℤ) → nat_abs z ≤ real_limit → moved z ≤ 4000000000
up_small (pos n) h = omega arith
up_small (negsuc n) h = rw (le-ltb real_limit (suc n) h) (omega arith)

-- ---- the elements and the shape

abbrev pub ElementOf : Value → ℕ → Scalar → Type 0
ElementOf v i r = (b : List ℕ) → meaning b r ≡ Items.element (some (meaning_v b v)) i

abbrev pub ShapeOf : Value → ℕ → Type 0
ShapeOf v r = (b : List ℕ) → r ≡ shape_of (some (meaning_v b v))

as-list : (b : List ℕ) (v : Value) → v.many ≡ true → meaning_v b v ≡ sequence (meaning_l b v.list)
as-list b v e = ap (λ (m : Bool). valued m (meaning b v.one) (meaning_l b v.list)) e

as_one : (b : List ℕ) (v : Value) → v.many ≡ false → meaning_v b v ≡ one (meaning b v.one)
as_one b v e = ap (λ (m : Bool). valued m (meaning b v.one) (meaning_l b v.list)) e

in_list : (b : List ℕ) (l : Code.List) (i : ℕ) → get_or (meaning_l b l) i paper.unknown ≡ meaning b (get_or (take l.n l.items) i (cell Unknown)).s
in_list b l i = get_or-map (held b) (take l.n l.items) i (cell Unknown)

pub element_list : (v : Value) (i n : ℕ) {r : Scalar} → v.many ≡ true → (n ≡ size_of v.list) × (n ≤ 16) × (n ≤ v.list.n) → i < n → r ≡ at v.list.items i → ElementOf v i r
element_list v i n {r} e f l g b =
    let x = f.2 in
    ap (meaning b) (g ∙ ap (λ (c : Cell). c.s) (sym (get_or-take v.list.n v.list.items i (cell Unknown) (omega arith))))
    ∙ sym (ap (λ (w : paper.Value). Items.element (some w) i) (as-list b v e) ∙ in_list b v.list i)

pub element_past : (v : Value) (i n : ℕ) → v.many ≡ true → (n ≡ size_of v.list) × (n ≤ 16) × (n ≤ v.list.n) → n ≤ i → ElementOf v i Unknown
element_past v i n e f l b =
    let x = f.0 in
    sym (ap (λ (w : paper.Value). Items.element (some w) i) (as-list b v e) ∙ in_list b v.list i
    ∙ ap (λ (c : Cell). meaning b c.s) (get_or-eq_default (take v.list.n v.list.items) (cell Unknown) (omega arith)))

pub element_one : (v : Value) (i : ℕ) {r : Scalar} → v.many ≡ false → i ≡ 0 → r ≡ v.one → ElementOf v i r
element_one v i e f g b = ap (meaning b) g ∙ sym (ap (Items.element (some (meaning_v b v))) f ∙ ap (λ (w : paper.Value). Items.element (some w) 0) (as_one b v e))

pub element_other : (v : Value) (i : ℕ) → v.many ≡ false → ¬ (i ≡ 0) → ElementOf v i Unknown
element_other v zero e f b = absurd (f refl)
element_other v (suc i) e f b = sym (ap (λ (w : paper.Value). Items.element (some w) (suc i)) (as_one b v e))

pub shape_list : (v : Value) (n : ℕ) {r : ℕ} → v.many ≡ true → (n ≡ size_of v.list) × (n ≤ 16) × (n ≤ v.list.n) → r ≡ n + 1 → ShapeOf v r
shape_list v n {r} e f g b =
    let x : length (meaning_l b v.list) ≡ size_of v.list = length-map (take v.list.n v.list.items) (held b) in
    let y = f.0 in
    let z : r ≡ 1 + length (meaning_l b v.list) = omega arith in
    z ∙ sym (ap (λ (w : paper.Value). shape_of (some w)) (as-list b v e))

pub shape_one : (v : Value) → v.many ≡ false → ShapeOf v 0
shape_one v e b = sym (ap (λ (w : paper.Value). shape_of (some w)) (as_one b v e))

-- ---- an element is written

pub record PutElement (b : List ℕ) (x : Scalar) (place i : ℕ) (s u o q : List ℕ) : Type 0 where
  pub numbered : ℕ
  pub its : NumberOf x (place + 48 * i) (length (spelt_c b x)) numbered
  pub cells : u ≡ set (set s (1 + i) (tag_c x)) (18 + i) numbered
  pub bytes : Copied (spelt_c b x) 0 o (48 * i) 48 q

pub put_element : (b : List ℕ) (x : Scalar) (place i : ℕ) (s o : List ℕ) (h : Handle) (r : ℕ) {s' u q : List ℕ} {k : ℕ} → SpeltAt x h → Copied (bytes_of b h) 0 o (48 * i) 48 q → k ≡ tag_c x → s' ≡ set s (1 + i) k
    → NumberOf x (place + 48 * i) h.len r → u ≡ set s' (18 + i) r → PutElement b x place i s u o q
put_element b x place i s o h r {q = q} e c f g n d =
    record {
      numbered = r;
      its = subst (λ (y : ℕ). NumberOf x (place + 48 * i) y r) (sym (cells_long b h.at h.len) ∙ ap length (e b)) n;
      cells = d ∙ ap (λ (y : List ℕ). set y (18 + i) r) (g ∙ ap (set s (1 + i)) f);
      bytes = subst (λ (y : List ℕ). Copied y 0 o (48 * i) 48 q) (e b) c;
    }

-- the j-th element is y
pub record ElementAt (s o : List ℕ) (place j : ℕ) (y : paper.Scalar) : Type 0 where
  pub tag : get_or s (1 + j) 0 ≡ tag_of y
  pub number : get_or s (18 + j) 0 ≡ number_of (place + 48 * j) y
  pub bytes : (k : ℕ) → k < 48 → get_or o (48 * j + k) 0 ≡ byte_of y k

-- the shape and the first k elements of the value w are written
pub record Upto (place : ℕ) (w : paper.Value) (k : ℕ) (s o : List ℕ) : Type 0 where
  pub shape : get_or s 0 0 ≡ shape_of (some w)
  pub there : get_or s 17 0 ≡ 1
  pub elements : (j : ℕ) → j < k → ElementAt s o place j (Items.element (some w) j)

abbrev pub Encodes : List ℕ → Value → ℕ → List ℕ → List ℕ → Type 0
Encodes b v place u q = 34 ≤ length u → 768 ≤ length q → Limited (meaning_v b v) → Holds u 0 17 q 0 place (some (meaning_v b v))

-- the invariant of the loop
abbrev pub Filled : List ℕ → Value → ℕ → ℕ → List ℕ → List ℕ → Type 0
Filled b v place k u q = 34 ≤ length u → 768 ≤ length q → Limited (meaning_v b v) → Upto place (meaning_v b v) k u q

bounded : {w : paper.Value} → Limited w → Bounded (some w)
bounded {w} h v e = subst Limited (same e) h
  where
    same : {x y : paper.Value} → some x ≡ some y → x ≡ y
    same e = cc

pub filled_none : (b : List ℕ) (v : Value) (place : ℕ) (s q : List ℕ) {x : ℕ} {u w : List ℕ} → ShapeOf v x → u ≡ set s 0 x → w ≡ set u 17 1 → Filled b v place 0 w q
filled_none b v place s q {x} {u} {w} h e f =
    subst (λ (y : List ℕ). Filled b v place 0 y q) (sym (f ∙ ap (λ (y : List ℕ). set y 17 1) e)) upto
  where
    upto : Filled b v place 0 (set (set s 0 x) 17 1) q
    upto l m n =
        let r : 34 ≤ length s = (let z = length-set (set s 0 x) 17 1 in let y = length-set s 0 x in omega arith) in
        record {
          shape = get_or-set_other (set s 0 x) 17 0 1 0 (λ z. omega arith) ∙ get_or-set_same s 0 x 0 (omega arith) ∙ h b;
          there = get_or-set_same (set s 0 x) 17 1 0 (simp length-set (omega arith));
          elements = λ j i. absurd (not-suc-le-zero i);
        }

module _ (b : List ℕ) (v : Value) (place k : ℕ) (u q : List ℕ) (x : Scalar) (u' q' : List ℕ) (small : k < 16) (near : place < 100000)
    (e : ElementOf v k x) (p : PutElement b x place k u u' q q') (f : Filled b v place k u q) where
  here : (i : ℕ) → get_or u' i 0 ≡ get_or (set (set u (1 + k) (tag_c x)) (18 + k) p.numbered) i 0
  here i = ap (λ (y : List ℕ). get_or y i 0) p.cells

  away : (i : ℕ) → ¬ (i ≡ 1 + k) → ¬ (i ≡ 18 + k) → get_or u' i 0 ≡ get_or u i 0
  away i y z = here i ∙ get_or-set_other (set u (1 + k) (tag_c x)) (18 + k) i p.numbered 0 z ∙ get_or-set_other u (1 + k) i (tag_c x) 0 y

  size : length u' ≡ length u
  size = ap length p.cells ∙ length-set (set u (1 + k) (tag_c x)) (18 + k) p.numbered ∙ length-set u (1 + k) (tag_c x)

  module _ (l : 34 ≤ length u') (m : 768 ≤ length q') (n : Limited (meaning_v b v)) where
    before : Upto place (meaning_v b v) k u q
    before = let y = size in let z = p.bytes.size in f (omega arith) (omega arith) n

    limited : Small (meaning b x)
    limited = subst Small (sym (e b)) (small_element (bounded n) k)

    own : ElementAt u' q' place k (Items.element (some (meaning_v b v)) k)
    own =
        subst (ElementAt u' q' place k) (e b)
        (record {
          tag = (let z = size in here (1 + k) ∙ get_or-set_other (set u (1 + k) (tag_c x)) (18 + k) (1 + k) p.numbered 0 (λ y. omega arith) ∙ get_or-set_same u (1 + k) (tag_c x) 0 (omega arith) ∙ tag_means b x);
          number = (let z = size in here (18 + k) ∙ get_or-set_same (set u (1 + k) (tag_c x)) (18 + k) p.numbered 0 (simp length-set (omega arith)) ∙ number_means b x (place + 48 * k) (length (spelt_c b x)) (omega arith) refl limited p.its);
          bytes = λ i j. (let z = p.bytes.size in let a : 0 + i ≡ i = omega arith in p.bytes.same i j (omega arith) ∙ ap (λ (y : ℕ). get_or (spelt_c b x) y 0) a ∙ ap (λ (y : List ℕ). get_or y i 0) (spelt_means b x));
        })

    earlier : (j : ℕ) → j < k → ElementAt u' q' place j (Items.element (some (meaning_v b v)) j)
    earlier j i =
        let h = before.elements j i in
        record {
          tag = away (1 + j) (λ y. omega arith) (λ y. omega arith) ∙ h.tag;
          number = away (18 + j) (λ y. omega arith) (λ y. omega arith) ∙ h.number;
          bytes = λ r t. p.bytes.other (48 * j + r) (inl (omega arith)) ∙ h.bytes r t;
        }

    next : Upto place (meaning_v b v) (k + 1) u' q'
    next =
        record {
          shape = away 0 (λ y. omega arith) (λ y. omega arith) ∙ before.shape;
          there = away 17 (λ y. omega arith) (λ y. omega arith) ∙ before.there;
          elements = below_more (λ (j : ℕ). ElementAt u' q' place j (Items.element (some (meaning_v b v)) j)) k earlier own;
        }

  pub filled_more : Filled b v place (k + 1) u' q'
  filled_more = next

pub filled_all : (b : List ℕ) (v : Value) (place k : ℕ) (u q : List ℕ) → 16 ≤ k → Filled b v place k u q → Encodes b v place u q
filled_all b v place k u q l f m n h =
    let x = f m n h in
    record {
      limited = bounded h;
      shape = x.shape;
      there = x.there;
      tags = λ j i. (x.elements j (omega arith)).tag;
      numbers = λ j i. (x.elements j (omega arith)).number;
      bytes = λ j r i t. (let e : 0 + 48 * j + r ≡ 48 * j + r = omega arith in rw e ((x.elements j (omega arith)).bytes r t));
    }
