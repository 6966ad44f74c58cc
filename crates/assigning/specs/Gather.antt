-- One value more for a data item: the first is kept, the same again changes nothing, another gives unknown. By the one form that each value has.
use Rattle.std.specs.Prelude.{ℕ, ◌+◌, ◌*◌, ◌-◌, ◌/◌, ◌%◌, ◌<◌, ◌≤◌, ◌≡◌, refl, Bool, false, ◌⊎◌, List, get_or, set, length}
use Rattle.std.proofs.Common.{arith, sym, ap, subst, ◌∙◌, inl, inr, length-set, get_or-set_same, get_or-set_other}
use Rattle.std.proofs.Math.Decide.{dec_lt}
use Rattle.std.proofs.Math.Option.{some}
use Rattle.paper_expressions.specs.Values as paper
use Rattle.paper_expressions.specs.Values.{one, unknown}
use Rattle.paper_expressions.proofs.Laws.WithinLimits.{Limited, one_limited, unknown_small}
use Rattle.state.specs.Items.{Holds, text_place, one_value, holds_as}
use Rattle.values.specs.declared.scalar.Scalar.TheVariants.{Unknown}
use Rattle.values.specs.declared.value.Value.{Value}
use Rattle.values.specs.Meaning.{meaning_v, valued, meaning, meaning_l}
use Rattle.blocks.specs.Blocks.{Copied, Outside, Same}
use Rattle.items.specs.Encode.{Encodes}

-- the scratch has room
pub record Room (news texts : List ℕ) : Type 0 where
  pub cells : 2304 ≤ length news
  pub bytes : 49152 ≤ length texts

-- the mark m and the new value w of the item d
pub record Slot (news texts : List ℕ) (d m : ℕ) (w : paper.Value) : Type 0 where
  pub mark : get_or news (36 * d) 0 ≡ m
  pub held : Holds news (36 * d + 1) (36 * d + 18) texts (768 * d) (text_place d) (some w)

-- nothing but the item's own cells and bytes is written
pub record Elsewhere (d : ℕ) (news news' texts texts' : List ℕ) : Type 0 where
  pub size : length news' ≡ length news
  pub room : length texts' ≡ length texts
  pub cells : (i : ℕ) → Outside (36 * d) 36 i → get_or news' i 0 ≡ get_or news i 0
  pub bytes : (i : ℕ) → Outside (768 * d) 768 i → get_or texts' i 0 ≡ get_or texts i 0

-- ---- a form is kept

pub record Keeps (cells out : List ℕ) (d m : ℕ) (news news' texts texts' : List ℕ) : Type 0 where
  pub elsewhere : Elsewhere d news news' texts texts'
  pub slot : Room news texts → {w : paper.Value} → Holds cells 0 17 out 0 (text_place d) (some w) → Slot news' texts' d m w

pub keeps : (cells out : List ℕ) (d m : ℕ) (news texts : List ℕ) {u news' texts' : List ℕ} → d < 64 → u ≡ set news (36 * d) m → Copied cells 0 u (36 * d + 1) 34 news' → Copied out 0 texts (768 * d) 768 texts'
    → Keeps cells out d m news news' texts texts'
keeps cells out d m news texts {u} {news'} {texts'} l e c f = record { elsewhere = elsewhere; slot = slot }
  where
    before : (i : ℕ) → get_or u i 0 ≡ get_or (set news (36 * d) m) i 0
    before i = ap (λ (y : List ℕ). get_or y i 0) e

    size : length u ≡ length news
    size = ap length e ∙ length-set news (36 * d) m

    outside : (i : ℕ) → Outside (36 * d) 36 i → get_or news' i 0 ≡ get_or news i 0
    outside i (inl z) = c.other i (inl (omega arith)) ∙ before i ∙ get_or-set_other news (36 * d) i m 0 (λ y. omega arith)
    outside i (inr z) = c.other i (inr (omega arith)) ∙ before i ∙ get_or-set_other news (36 * d) i m 0 (λ y. omega arith)

    elsewhere : Elsewhere d news news' texts texts'
    elsewhere = record { size = c.size ∙ size; room = f.size; cells = outside; bytes = f.other }

    moved : Room news texts → (n j : ℕ) → n + j < 34 → get_or news' (36 * d + 1 + n + j) 0 ≡ get_or cells (n + j) 0
    moved r n j i =
        let a : 36 * d + 1 + n + j ≡ 36 * d + 1 + (n + j) = omega arith in
        let b : 0 + (n + j) ≡ n + j = omega arith in
        let x = r.cells in
        let y = size in
        ap (λ (z : ℕ). get_or news' z 0) a ∙ c.same (n + j) i (omega arith) ∙ ap (λ (z : ℕ). get_or cells z 0) b

    slot : Room news texts → {w : paper.Value} → Holds cells 0 17 out 0 (text_place d) (some w) → Slot news' texts' d m w
    slot r {w} h =
        record {
          mark = (let x = r.cells in c.other (36 * d) (inl (omega arith)) ∙ before (36 * d) ∙ get_or-set_same news (36 * d) m 0 (omega arith));
          held = holds_as h
              (λ j i. (let a : 36 * d + 1 + j ≡ 36 * d + 1 + 0 + j = omega arith in let b : 0 + j ≡ j = omega arith in ap (λ (z : ℕ). get_or news' z 0) a ∙ moved r 0 j (omega arith)))
              (λ j i. (let a : 36 * d + 18 + j ≡ 36 * d + 1 + 17 + j = omega arith in ap (λ (z : ℕ). get_or news' z 0) a ∙ moved r 17 j (omega arith)))
              (λ i j. (let x = r.bytes in f.same i j (omega arith)));
        }

-- ---- a value is taken in

pub record Gathers (b : List ℕ) (v : Value) (d : ℕ) (news news' texts texts' : List ℕ) : Type 0 where
  pub elsewhere : Elsewhere d news news' texts texts'
  pub first : Room news texts → Limited (meaning_v b v) → get_or news (36 * d) 0 ≡ 0 → Slot news' texts' d 1 (meaning_v b v)
  pub again : Room news texts → Limited (meaning_v b v) → (m : ℕ) → ¬ (m ≡ 0) → (w : paper.Value) → Slot news texts d m w
      → ((w ≡ meaning_v b v) × Slot news' texts' d m w) ⊎ ((¬ (w ≡ meaning_v b v)) × Slot news' texts' d 2 (one unknown))

nowhere : (d : ℕ) (news texts : List ℕ) → Elsewhere d news news texts texts
nowhere d news texts = record { size = refl; room = refl; cells = λ i h. refl; bytes = λ i h. refl }

-- the form of the value, in arrays of 34 cells and 768 bytes
abbrev pub Formed : List ℕ → Value → ℕ → List ℕ → List ℕ → Type 0
Formed b v d cells out = Limited (meaning_v b v) → Holds cells 0 17 out 0 (text_place d) (some (meaning_v b v))

pub formed : (b : List ℕ) (v : Value) (d : ℕ) {cells out : List ℕ} → length cells ≡ 34 → length out ≡ 768 → Encodes b v (16384 + 768 * d) cells out → Formed b v d cells out
formed b v d x y h n = h (omega arith) (omega arith) n

pub gathers_first : (b : List ℕ) (v : Value) (d : ℕ) (cells out news news' texts texts' : List ℕ) {x : ℕ} → Formed b v d cells out → x ≡ get_or news (36 * d) 0 → x ≡ 0 → Keeps cells out d 1 news news' texts texts'
    → Gathers b v d news news' texts texts'
gathers_first b v d cells out news news' texts texts' h e z k =
    record { elsewhere = k.elsewhere; first = λ r n f. k.slot r (h n); again = λ r n m f w s. absurd (f (sym s.mark ∙ sym e ∙ z)) }

-- the forms are the same exactly if the values are
abbrev pub SameForm : List ℕ → List ℕ → ℕ → List ℕ → List ℕ → Type 0
SameForm cells out d news texts = Same cells 0 news (36 * d + 1) 34 × Same out 0 texts (768 * d) 768

same_value : (d : ℕ) (cells out news texts : List ℕ) {m : ℕ} {u w : paper.Value} → Holds cells 0 17 out 0 (text_place d) (some u) → Slot news texts d m w → SameForm cells out d news texts → w ≡ u
same_value d cells out news texts {u = u} {w = w} h s f =
    same (one_value s.held h
    (λ j i. (let a : 0 + j ≡ j = omega arith in sym (f.0 j (omega arith))))
    (λ j i. (let a : 36 * d + 18 + j ≡ 36 * d + 1 + (17 + j) = omega arith in ap (λ (z : ℕ). get_or news z 0) a ∙ sym (f.0 (17 + j) (omega arith)) ∙ (let c : 0 + (17 + j) ≡ 17 + j = omega arith in ap (λ (z : ℕ). get_or cells z 0) c)))
    (λ i j. sym (f.1 i j)))
  where
    same : {x y : paper.Value} → some x ≡ some y → x ≡ y
    same e = cc

same_form : (d : ℕ) (cells out news texts : List ℕ) {m : ℕ} {u w : paper.Value} → Holds cells 0 17 out 0 (text_place d) (some u) → Slot news texts d m w → w ≡ u → SameForm cells out d news texts
same_form d cells out news texts {u = u} h s e = (cell, byte)
  where
    k : Holds news (36 * d + 1) (36 * d + 18) texts (768 * d) (text_place d) (some u)
    k = subst (λ (y : paper.Value). Holds news (36 * d + 1) (36 * d + 18) texts (768 * d) (text_place d) (some y)) e s.held

    -- the j-th of the tags, and of the numbers, from the shape on
    tags : (j : ℕ) → j < 17 → get_or cells j 0 ≡ get_or news (36 * d + 1 + j) 0
    tags j i = go (dec_lt 0 j)
      where
        go : Dec (0 < j) → get_or cells j 0 ≡ get_or news (36 * d + 1 + j) 0
        go (no n) = let a : j ≡ 0 = omega arith in let c : 36 * d + 1 + j ≡ 36 * d + 1 = omega arith in
            ap (λ (z : ℕ). get_or cells z 0) a ∙ h.shape ∙ sym (ap (λ (z : ℕ). get_or news z 0) c ∙ k.shape)
        go (yes n) = let a : j ≡ 0 + 1 + (j - 1) = omega arith in let c : 36 * d + 1 + j ≡ 36 * d + 1 + 1 + (j - 1) = omega arith in
            ap (λ (z : ℕ). get_or cells z 0) a ∙ h.tags (j - 1) (omega arith) ∙ sym (ap (λ (z : ℕ). get_or news z 0) c ∙ k.tags (j - 1) (omega arith))

    numbers : (j : ℕ) → j < 17 → get_or cells (17 + j) 0 ≡ get_or news (36 * d + 18 + j) 0
    numbers j i = go (dec_lt 0 j)
      where
        go : Dec (0 < j) → get_or cells (17 + j) 0 ≡ get_or news (36 * d + 18 + j) 0
        go (no n) = let a : 17 + j ≡ 17 = omega arith in let c : 36 * d + 18 + j ≡ 36 * d + 18 = omega arith in
            ap (λ (z : ℕ). get_or cells z 0) a ∙ h.there ∙ sym (ap (λ (z : ℕ). get_or news z 0) c ∙ k.there)
        go (yes n) = let a : 17 + j ≡ 17 + 1 + (j - 1) = omega arith in let c : 36 * d + 18 + j ≡ 36 * d + 18 + 1 + (j - 1) = omega arith in
            ap (λ (z : ℕ). get_or cells z 0) a ∙ h.numbers (j - 1) (omega arith) ∙ sym (ap (λ (z : ℕ). get_or news z 0) c ∙ k.numbers (j - 1) (omega arith))

    cell : Same cells 0 news (36 * d + 1) 34
    cell j i = go (dec_lt j 17)
      where
        b : 0 + j ≡ j
        b = omega arith

        go : Dec (j < 17) → get_or cells (0 + j) 0 ≡ get_or news (36 * d + 1 + j) 0
        go (yes n) = ap (λ (z : ℕ). get_or cells z 0) b ∙ tags j n
        go (no n) = let a : 0 + j ≡ 17 + (j - 17) = omega arith in let c : 36 * d + 18 + (j - 17) ≡ 36 * d + 1 + j = omega arith in
            ap (λ (z : ℕ). get_or cells z 0) a ∙ numbers (j - 17) (omega arith) ∙ ap (λ (z : ℕ). get_or news z 0) c

    byte : Same out 0 texts (768 * d) 768
    byte i l =
        let a : 0 + i ≡ 0 + 48 * (i / 48) + i % 48 = omega arith in
        let c : 768 * d + 48 * (i / 48) + i % 48 ≡ 768 * d + i = omega arith in
        ap (λ (z : ℕ). get_or out z 0) a ∙ h.bytes (i / 48) (i % 48) (omega arith) (omega arith) ∙ sym (k.bytes (i / 48) (i % 48) (omega arith) (omega arith)) ∙ ap (λ (z : ℕ). get_or texts z 0) c

pub gathers_same : (b : List ℕ) (v : Value) (d : ℕ) (cells out news texts : List ℕ) {x : ℕ} → Formed b v d cells out → x ≡ get_or news (36 * d) 0 → ¬ (x ≡ 0) → SameForm cells out d news texts
    → Gathers b v d news news texts texts
gathers_same b v d cells out news texts h e z f =
    record {
      elsewhere = nowhere d news texts;
      first = λ r n g. absurd (z (e ∙ g));
      again = λ r n m g w s. inl (same_value d cells out news texts (h n) s f, s);
    }

-- unknown
pub lone : (b : List ℕ) (v : Value) → (v.many ≡ false) × (v.one ≡ Unknown) → meaning_v b v ≡ one unknown
lone b v e = ap (λ (m : Bool). valued m (meaning b v.one) (meaning_l b v.list)) e.0 ∙ ap (λ s. one (meaning b s)) e.1

pub gathers_other : (b : List ℕ) (v : Value) (d : ℕ) (cells out cells' out' news news' texts texts' : List ℕ) {x : ℕ} (v' : Value) → Formed b v d cells out → x ≡ get_or news (36 * d) 0 → ¬ (x ≡ 0)
    → ¬ SameForm cells out d news texts → (v'.many ≡ false) × (v'.one ≡ Unknown) → Formed b v' d cells' out' → Keeps cells' out' d 2 news news' texts texts'
    → Gathers b v d news news' texts texts'
gathers_other b v d cells out cells' out' news news' texts texts' v' h e z f u h' k =
    record {
      elsewhere = k.elsewhere;
      first = λ r n g. absurd (z (e ∙ g));
      again = λ r n m g w s. inr (λ q. f (same_form d cells out news texts (h n) s q), subst (Slot news' texts' d 2) (lone b v' u) (k.slot r (h' (subst Limited (sym (lone b v' u)) (one_limited unknown_small)))));
    }
