-- The same part by part, whatever the cells hold: what the code does.
-- Laws: parts that are moved one after the other, and the parts of two stretches taken together.
use Rattle.std.specs.Prelude.{◌≡◌, refl, Bool, true, false, cond, List, [], ◌∷◌, ◌++◌, ℕ, zero, suc, ◌+◌, ◌*◌, ◌-◌, ◌%◌, ◌≤◌, ◌<◌, eqb, get_or, length, set}
use Rattle.std.proofs.Common.{sym, ap, ap₂, subst, ◌∙◌, inr, append_assoc, append-nil, arith, length-append}
use Rattle.parts.specs.Texts.{cells, handle, text_at_fn}
use Rattle.parts.specs.Encode.{Part, part, flat}
use Rattle.parts.specs.EncodeLaws.{flat_length, flat_append}
use Rattle.pool.specs.Written.{Written}
use Rattle.pool.specs.WrittenLaws.{written_none, written_one, written_more, row_same, row_last}
use Rattle.pool.specs.Pooled.{nowhere, Fits}

-- ---- definitions

-- whether a part of the kind k loads a text: an atom, a string, a functor that section 11 doesn't have
abbrev pub texted : ℕ → Bool
texted k = cond (eqb k 1) true (cond (eqb k 4) true (eqb k 250))

-- the text of a part of the kind k that loads x
abbrev pub word : List ℕ → ℕ → ℕ → List ℕ
word text k x = cond (texted k) (text_at_fn text x) []

-- what it loads when its text stands from o on
abbrev pub load : ℕ → ℕ → ℕ → ℕ
load o k x = cond (texted k) (handle o (x % 64)) x

-- the text of the part p of the cells x
abbrev pub word_at : List ℕ → List ℕ → ℕ → List ℕ
word_at text x p = word text (get_or x (p * 4) 0) (get_or x (p * 4 + 3) 0)

-- that part, where its text stands from o on
abbrev pub part_at : ℕ → List ℕ → ℕ → Part
part_at o x p = part (get_or x (p * 4) 0) (get_or x (p * 4 + 1) 0) (get_or x (p * 4 + 2) 0) (load o (get_or x (p * 4) 0) (get_or x (p * 4 + 3) 0))

-- the texts of the n parts from a on
abbrev pub said : List ℕ → List ℕ → ℕ → ℕ → List ℕ
said text x a zero = []
said text x a (suc n) = said text x a n ++ word_at text x (a + n)

-- these parts
abbrev pub marks : List ℕ → List ℕ → ℕ → ℕ → ℕ → List Part
marks text x o a zero = []
marks text x o a (suc n) = marks text x o a n ++ (part_at (o + length (said text x a n)) x (a + n) ∷ [])

-- whether a text that ends at z fits `long` bytes and a handle
pub record Rooms (long z : ℕ) (r : Bool) : Type 0 where
  pub fits : r ≡ true → (z ≤ long) × (z < nowhere)
  pub true_if : (z ≤ long) × (z < nowhere) → r ≡ true

-- the part i is moved
pub record Moves (text x x' b b' : List ℕ) (i o r : ℕ) : Type 0 where
  pub room : i * 4 + 3 < length x → Fits b (o + length (word_at text x i)) → r ≡ o + length (word_at text x i)
  pub ends : i * 4 + 3 < length x → Fits b r → r ≡ o + length (word_at text x i)
  pub cells : i * 4 + 3 < length x → Fits b r → Written x x' (i * 4) (flat (part_at o x i ∷ []))
  pub bytes : i * 4 + 3 < length x → Fits b r → Written b b' o (word_at text x i)

-- the n parts from a on are moved
pub record Moved (text x x' b b' : List ℕ) (a n o r : ℕ) : Type 0 where
  pub room : (a + n) * 4 ≤ length x → Fits b (o + length (said text x a n)) → r ≡ o + length (said text x a n)
  pub ends : (a + n) * 4 ≤ length x → Fits b r → r ≡ o + length (said text x a n)
  pub cells : (a + n) * 4 ≤ length x → Fits b r → Written x x' (a * 4) (flat (marks text x o a n))
  pub bytes : (a + n) * 4 ≤ length x → Fits b r → Written b b' o (said text x a n)

-- ---- laws

pub contra : {A : Type 0} → ◌≡◌ {A = Bool} false true → A
contra e = absurd (let z : ◌≡◌ {A = ℕ} 0 1 = cc in omega arith)

cells_snoc : (b : List ℕ) (o n : ℕ) → cells b o (suc n) ≡ cells b o n ++ (get_or b (o + n) 0 ∷ [])
cells_snoc b o zero = ap (λ (i : ℕ). get_or b i 0 ∷ []) (omega arith)
cells_snoc b o (suc n) = ap (λ (s : List ℕ). get_or b o 0 ∷ s) (cells_snoc b (suc o) n ∙ ap (λ (i : ℕ). cells b (suc o) n ++ (get_or b i 0 ∷ [])) (omega arith))

pub cells_length : (b : List ℕ) (o n : ℕ) → length (cells b o n) ≡ n
cells_length b o zero = refl
cells_length b o (suc n) = ap suc (cells_length b (suc o) n)

pub text_length : (b : List ℕ) (h : ℕ) → length (text_at_fn b h) ≡ h % 64
text_length b h = cells_length b _ _

-- one byte more is copied
pub copied_more : (text l k : List ℕ) (o q j v : ℕ) → o + j < length l → v ≡ get_or text (q + j) 0 → Written k l o (cells text q j) → Written k (set l (o + j) v) o (cells text q (j + 1))
copied_more text l k o q j v h e w =
    let n = cells_length text q j in
    let m : suc j ≡ j + 1 = omega arith in
    subst (Written k (set l (o + j) v) o) (ap (λ (c : ℕ). cells text q j ++ (c ∷ [])) e ∙ sym (cells_snoc text q j) ∙ ap (cells text q) m)
    (written_more w (omega arith) (written_one l (o + j) v h))

module _ (text x : List ℕ) where
  pub marks_length : (o a n : ℕ) → length (marks text x o a n) ≡ n
  marks_length o a zero = refl
  marks_length o a (suc n) = let h = marks_length o a n in simp length-append (omega arith)

  pub said_both : (a m n : ℕ) → said text x a (m + n) ≡ said text x a m ++ said text x (a + m) n
  said_both a m zero = ap (said text x a) {x = m + 0} {y = m} (omega arith) ∙ sym (append-nil (said text x a m))
  said_both a m (suc n) =
      let e : a + (m + n) ≡ (a + m) + n = omega arith in
      ap (said text x a) {x = m + suc n} {y = suc (m + n)} (omega arith)
      ∙ rw (said_both a m n, e, append_assoc)

  pub marks_both : (o a m n : ℕ) → marks text x o a (m + n) ≡ marks text x o a m ++ marks text x (o + length (said text x a m)) (a + m) n
  marks_both o a m zero = ap (marks text x o a) {x = m + 0} {y = m} (omega arith) ∙ sym (append-nil (marks text x o a m))
  marks_both o a m (suc n) =
      let e : a + (m + n) ≡ (a + m) + n = omega arith in
      let l : o + length (said text x a (m + n)) ≡ o + length (said text x a m) + length (said text x (a + m) n) = rw (said_both a m n) (omega (arith, length-append (said text x a m) (said text x (a + m) n))) in
      ap (marks text x o a) {x = m + suc n} {y = suc (m + n)} (omega arith)
      ∙ rw (marks_both o a m n, l, e, append_assoc)

-- ---- one part

pub word_none : (text : List ℕ) (k x : ℕ) → texted k ≡ false → word text k x ≡ []
word_none text k x e = rw e

pub word_some : (text : List ℕ) (k x : ℕ) → texted k ≡ true → word text k x ≡ text_at_fn text x
word_some text k x e = rw e

word_length : (text : List ℕ) (k x : ℕ) → texted k ≡ true → length (word text k x) ≡ x % 64
word_length text k x e = ap length (word_some text k x e) ∙ text_length text x

load_none : (o k x : ℕ) → texted k ≡ false → load o k x ≡ x
load_none o k x e = rw e

pub load_some : (o k x : ℕ) → texted k ≡ true → load o k x ≡ handle o (x % 64)
load_some o k x e = rw e

-- it has no text
pub untexted : (text x b : List ℕ) (i o : ℕ) → texted (get_or x (i * 4) 0) ≡ false → Moves text x x b b i o o
untexted text x b i o e =
    let k = get_or x (i * 4) 0 in
    let y = get_or x (i * 4 + 3) 0 in
    let w = word_none text k y e in
    let n : o ≡ o + length (word text k y) = rw w (omega arith) in
    record {
      room = λ h f. n;
      ends = λ h f. n;
      cells = λ h f. subst (λ (v : ℕ). Written x x (i * 4) (k ∷ get_or x (i * 4 + 1) 0 ∷ get_or x (i * 4 + 2) 0 ∷ v ∷ [])) (sym (load_none o k y e)) (row_same x i);
      bytes = λ h f. subst (Written b b o) (sym w) (written_none b o);
    }

-- there is no room for it
pub no_room : (text x b : List ℕ) (i o : ℕ) → texted (get_or x (i * 4) 0) ≡ true → Rooms (length b) (o + get_or x (i * 4 + 3) 0 % 64) false → Moves text x x b b i o nowhere
no_room text x b i o e g =
    let n = word_length text (get_or x (i * 4) 0) (get_or x (i * 4 + 3) 0) e in
    record {
      room = λ h f. contra (g.true_if (let x = f.bytes in omega arith, let x = f.places in omega arith));
      ends = λ h f. absurd (let x = f.places in omega arith);
      cells = λ h f. absurd (let x = f.places in omega arith);
      bytes = λ h f. absurd (let x = f.places in omega arith);
    }

-- it is moved
moved_here : (text x b b' : List ℕ) (i o : ℕ) → texted (get_or x (i * 4) 0) ≡ true → Written b b' o (text_at_fn text (get_or x (i * 4 + 3) 0))
    → Moves text x (set x (i * 4 + 3) (handle o (get_or x (i * 4 + 3) 0 % 64))) b b' i o (o + get_or x (i * 4 + 3) 0 % 64)
moved_here text x b b' i o e w =
    let k = get_or x (i * 4) 0 in
    let y = get_or x (i * 4 + 3) 0 in
    let n = word_length text k y e in
    record {
      room = λ h f. omega arith;
      ends = λ h f. omega arith;
      cells = λ h f. subst (λ (v : ℕ). Written x (set x (i * 4 + 3) (handle o (y % 64))) (i * 4) (k ∷ get_or x (i * 4 + 1) 0 ∷ get_or x (i * 4 + 2) 0 ∷ v ∷ [])) (sym (load_some o k y e)) (row_last x i (handle o (y % 64)) h);
      bytes = λ h f. subst (Written b b' o) (sym (word_some text k y e)) w;
    }

pub moved_one : (text x b b' : List ℕ) (i o y : ℕ) → y ≡ get_or x (i * 4 + 3) 0 → texted (get_or x (i * 4) 0) ≡ true → Written b b' o (text_at_fn text y)
    → Moves text x (set x (i * 4 + 3) (handle o (y % 64))) b b' i o (o + y % 64)
moved_one text x b b' i o y e t =
    subst (λ (z : ℕ). Written b b' o (text_at_fn text z) → Moves text x (set x (i * 4 + 3) (handle o (z % 64))) b b' i o (o + z % 64)) (sym e) (moved_here text x b b' i o t)

-- ---- one part more

pub moved_none : (text x b : List ℕ) (a o : ℕ) → Moved text x x b b a 0 o o
moved_none text x b a o = record { room = λ h f. omega arith; ends = λ h f. omega arith; cells = λ h f. written_none x (a * 4); bytes = λ h f. written_none b o }

pub part_same : {k k' n n' s s' l l' : ℕ} → k ≡ k' → n ≡ n' → s ≡ s' → l ≡ l' → part k n s l ≡ part k' n' s' l'
part_same {k' = k'} {n = n} {n' = n'} {s = s} {s' = s'} {l = l} a b c d =
    ap (λ (i : ℕ). part i n s l) a ∙ ap (λ (i : ℕ). part k' i s l) b ∙ ap (λ (i : ℕ). part k' n' i l) c ∙ ap (λ (i : ℕ). part k' n' s' i) d

module _ {text x y y' b c c' : List ℕ} {a n o p r : ℕ} (m : Moved text x y b c a n o p) (v : Moves text y y' c c' (a + n) p r)
    (lc : length c ≡ length b) (ly : length y ≡ length x) (h : (a + suc n) * 4 ≤ length x) where
  abbrev new : List ℕ
  new = word_at text x (a + n)

  -- the part is as it was
  same : Fits b p → (f : ℕ) → get_or y ((a + n) * 4 + f) 0 ≡ get_or x ((a + n) * 4 + f) 0
  same f g =
      let l = marks_length text x o a n in
      let k = flat_length (marks text x o a n) in
      (m.cells (omega arith) f).outside ((a + n) * 4 + g) (inr (omega arith))

  same_code : Fits b p → get_or y ((a + n) * 4) 0 ≡ get_or x ((a + n) * 4) 0
  same_code f =
      let e : (a + n) * 4 ≡ (a + n) * 4 + 0 = omega arith in
      ap (λ (i : ℕ). get_or y i 0) e ∙ same f 0 ∙ sym (ap (λ (i : ℕ). get_or x i 0) e)

  same_word : Fits b p → word_at text y (a + n) ≡ new
  same_word f = ap₂ (word text) (same_code f) (same f 3)

  same_part : Fits b p → (q : ℕ) → part_at q y (a + n) ≡ part_at q x (a + n)
  same_part f q = part_same (same_code f) (same f 1) (same f 2) (ap₂ (load q) (same_code f) (same f 3))

  long : length (said text x a (suc n)) ≡ length (said text x a n) + length new
  long = length-append (said text x a n) new

  more_room : Fits b (o + length (said text x a (suc n))) → r ≡ o + length (said text x a (suc n))
  more_room f =
      let l = long in
      let fb = f.bytes in
      let fp = f.places in
      let e = m.room (omega arith) (record { bytes = omega arith; places = omega arith }) in
      let w = ap length (same_word (record { bytes = omega arith; places = omega arith })) in
      let g = v.room (omega arith) (record { bytes = omega arith; places = omega arith }) in
      omega arith

  before : Fits b r → Fits b p
  before f = let fb = f.bytes in let fp = f.places in let g = v.ends (omega arith) (record { bytes = omega arith; places = fp }) in record { bytes = omega arith; places = omega arith }

  now_fits : Fits b r → Fits c r
  now_fits f = let fb = f.bytes in let fp = f.places in record { bytes = omega arith; places = fp }

  more_ends : Fits b r → r ≡ o + length (said text x a (suc n))
  more_ends f =
      let l = long in
      let e = m.ends (omega arith) (before f) in
      let w = ap length (same_word (before f)) in
      let g = v.ends (omega arith) (now_fits f) in
      omega arith

  more_cells : Fits b r → Written x y' (a * 4) (flat (marks text x o a (suc n)))
  more_cells f =
      let l = marks_length text x o a n in
      let k = flat_length (marks text x o a n) in
      let e = m.ends (omega arith) (before f) in
      let q = o + length (said text x a n) in
      let z : (a + n) * 4 ≡ a * 4 + length (flat (marks text x o a n)) = omega arith in
      subst (Written x y' (a * 4)) (sym (flat_append (marks text x o a n) (part_at q x (a + n) ∷ [])))
      (written_more (m.cells (omega arith) (before f)) z
      (subst (λ (u : Part). Written y y' ((a + n) * 4) (flat (u ∷ []))) (ap (λ (j : ℕ). part_at j y (a + n)) e ∙ same_part (before f) q) (v.cells (omega arith) (now_fits f))))

  more_bytes : Fits b r → Written b c' o (said text x a (suc n))
  more_bytes f = written_more (m.bytes (omega arith) (before f)) (m.ends (omega arith) (before f)) (subst (Written c c' p) (same_word (before f)) (v.bytes (omega arith) (now_fits f)))

moved_more : {text x y y' b c c' : List ℕ} {a n o p r : ℕ} → Moved text x y b c a n o p → Moves text y y' c c' (a + n) p r → length c ≡ length b → length y ≡ length x
    → Moved text x y' b c' a (suc n) o r
moved_more m v lc ly = record { room = more_room m v lc ly; ends = more_ends m v lc ly; cells = more_cells m v lc ly; bytes = more_bytes m v lc ly }

-- the parts from a up to i, and the part i
pub moved_next : {text x y y' b c c' : List ℕ} {a i o p r : ℕ} → a ≤ i → Moved text x y b c a (i - a) o p → Moves text y y' c c' i p r → length c ≡ length b → length y ≡ length x
    → Moved text x y' b c' a (i + 1 - a) o r
moved_next {text} {x} {y} {y'} {b} {c} {c'} {a} {i} {o} {p} {r} h m v lc ly =
    let z : i ≡ a + (i - a) = omega arith in
    let n : suc (i - a) ≡ i + 1 - a = omega arith in
    subst (λ (j : ℕ). Moved text x y' b c' a j o r) n (moved_more m (subst (λ (j : ℕ). Moves text y y' c c' j p r) z v) lc ly)
