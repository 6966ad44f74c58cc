-- The square table that 1,024 bytes stand for, and the bytes of one; that a table filled place by place is it, and that what is packed is unpacked again. By the places below.
use Rattle.std.specs.Prelude.{ℕ, zero, suc, ◌+◌, ◌*◌, ◌/◌, ◌%◌, ◌<◌, ◌≡◌, refl, Bool, true, false, List, [], ◌∷◌, eqb, get_or, set, length}
use Rattle.std.proofs.Common.{arith, not-suc-le-zero, sym, ap, subst, ◌∙◌, below_more, ext_get_or, get_or-set_same, get_or-set_other}

-- ---- definitions

-- f 0, f 1, .. up to the n-th
abbrev pub listed : {A : Type 0} → ℕ → (ℕ → A) → List A
listed zero f = []
listed (suc n) f = f 0 ∷ listed n (λ (i : ℕ). f (suc i))

abbrev pub row_of : List ℕ → ℕ → List Bool
row_of b p = listed 32 (λ (j : ℕ). eqb (get_or b (p + j) 0) 1)

abbrev pub square_of : List ℕ → List (List Bool)
square_of b = listed 32 (λ (i : ℕ). row_of b (32 * i))

-- 1 for a mark
abbrev pub bit : Bool → ℕ
bit true = 1
bit false = 0

-- the bytes of a square table
pub record Packed (w : List (List Bool)) (b : List ℕ) : Type 0 where
  pub size : length b ≡ 1024
  pub bytes : (i j : ℕ) → i < 32 → j < 32 → get_or b (32 * i + j) 0 ≡ bit (get_or (get_or w i []) j false)

-- ---- laws

length_listed : {A : Type 0} (n : ℕ) (f : ℕ → A) → length (listed n f) ≡ n
length_listed zero f = refl
length_listed (suc n) f = ap suc (length_listed n (λ (i : ℕ). f (suc i)))

get_d_listed : {A : Type 0} (n : ℕ) (f : ℕ → A) (i : ℕ) (d : A) → i < n → get_or (listed n f) i d ≡ f i
get_d_listed zero f i d l = absurd (not-suc-le-zero l)
get_d_listed (suc n) f zero d l = refl
get_d_listed (suc n) f (suc i) d l = get_d_listed n (λ (j : ℕ). f (suc j)) i d (omega arith)

-- the first k places are those of f
abbrev pub Upto : {A : Type 0} → (ℕ → A) → A → ℕ → List A → Type 0
Upto f d k l = (i : ℕ) → i < k → get_or l i d ≡ f i

pub upto_more : {A : Type 0} (f : ℕ → A) (d : A) (l : List A) (k : ℕ) {x : A} → k < length l → x ≡ f k → Upto f d k l → Upto f d (k + 1) (set l k x)
upto_more f d l k {x} m e h = below_more (λ (n : ℕ). get_or (set l k x) n d ≡ f n) k (λ i z. get_or-set_other l k i x d (λ y. omega arith) ∙ h i z) (get_or-set_same l k x d m ∙ e)

pub upto_all : {A : Type 0} (f : ℕ → A) (d : A) (l : List A) (n k : ℕ) → length l ≡ n → k ≡ n → Upto f d k l → l ≡ listed n f
upto_all f d l n k e q h = ext_get_or d l (listed n f) (e ∙ sym (length_listed n f)) (λ i m. h i (omega arith) ∙ sym (get_d_listed n f i d (omega arith)))

-- ---- bytes

abbrev pub mark_at : List (List Bool) → ℕ → Bool
mark_at w n = get_or (get_or w (n / 32) []) (n % 32) false

abbrev pub byte_of : List (List Bool) → ℕ → ℕ
byte_of w n = bit (mark_at w n)

pub packed_all : (w : List (List Bool)) (b : List ℕ) (k : ℕ) → length b ≡ 1024 → k ≡ 1024 → Upto (byte_of w) 0 k b → Packed w b
packed_all w b k e q h = record { size = e; bytes = at }
  where
    at : (i j : ℕ) → i < 32 → j < 32 → get_or b (32 * i + j) 0 ≡ bit (get_or (get_or w i []) j false)
    at i j m n =
        let x : (32 * i + j) / 32 ≡ i = omega arith in
        let y : (32 * i + j) % 32 ≡ j = omega arith in
        h (32 * i + j) (omega arith) ∙ (cc)

bit_mark : (x : Bool) → eqb (bit x) 1 ≡ x
bit_mark true = refl
bit_mark false = refl

-- 32 rows of 32 marks
abbrev pub IsSquare : List (List Bool) → Type 0
IsSquare w = (length w ≡ 32) × ((i : ℕ) → i < 32 → length (get_or w i []) ≡ 32)

-- what is packed is unpacked again
pub unpacked : {w : List (List Bool)} {b : List ℕ} → IsSquare w → Packed w b → square_of b ≡ w
unpacked {w} {b} s h = sym (upto_all (λ (i : ℕ). row_of b (32 * i)) [] w 32 32 s.0 refl rows)
  where
    rows : Upto (λ (i : ℕ). row_of b (32 * i)) [] 32 w
    rows i m = upto_all (λ (j : ℕ). eqb (get_or b (32 * i + j) 0) 1) false (get_or w i []) 32 32 (s.1 i m) refl (λ j n. sym (ap (λ (z : ℕ). eqb z 1) (h.bytes i j m n) ∙ bit_mark (get_or (get_or w i []) j false)))

-- only one row of bytes fits
pub one_packed : {w : List (List Bool)} {b c : List ℕ} → Packed w b → Packed w c → b ≡ c
one_packed {w} {b} {c} h k = ext_get_or 0 b c (h.size ∙ sym k.size) same
  where
    same : (n : ℕ) → n < length b → get_or b n 0 ≡ get_or c n 0
    same n l =
        let e = h.size in
        let z : 32 * (n / 32) + n % 32 ≡ n = omega arith in
        let m : n / 32 < 32 = omega arith in
        let o : n % 32 < 32 = omega arith in
        subst (λ (p : ℕ). get_or b p 0 ≡ get_or c p 0) z (h.bytes (n / 32) (n % 32) m o ∙ sym (k.bytes (n / 32) (n % 32) m o))
