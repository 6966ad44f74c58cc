-- Laws on the bytes of a part of a text: one by one, without their quotes, and against a table. By induction on how many there are.
use Rattle.std.specs.Prelude.{ℕ, zero, suc, ◌+◌, ◌*◌, ◌-◌, ◌≤◌, ◌<◌, ◌≡◌, refl, Bool, true, false, ◌||◌, List, [], ◌∷◌, eqb, get_or, take, drop, length}
use Rattle.std.proofs.Common.{sym, ap, ◌∙◌, ⊎_elim, not-suc-le-zero, add-one, arith, drop-cons, ne_eqb}
use Rattle.paper_expressions.proofs.Laws.Tests.{two}
use Rattle.paper_expressions.proofs.Laws.Search.{sameb, same_reflects, reflects_true, true_reflects}
use Rattle.paper_tokens.specs.Lexical.{part, inner}
use Rattle.parts.specs.Texts.{cells}
use Rattle.words.specs.Entries.{Same}
use Rattle.leaves.specs.Numbers.{three, minus_first, unsigned}

pub cells_more : (b : List ℕ) (i m : ℕ) → 0 < m → cells b i m ≡ get_or b i 0 ∷ cells b (i + 1) (m - 1)
cells_more b i zero h = absurd (not-suc-le-zero h)
cells_more b i (suc m) h = let e : suc m - 1 ≡ m = omega arith in rw (add-one i, e)

pub cells_none : (b : List ℕ) (i m : ℕ) → m ≤ 0 → cells b i m ≡ []
cells_none b i zero h = refl
cells_none b i (suc m) h = absurd (not-suc-le-zero h)

-- a part of a text that ends inside
pub part_cells : (b : List ℕ) (i m : ℕ) → i + m ≤ length b → part b i m ≡ cells b i m
part_cells b i zero h = refl
part_cells b i (suc m) h = rw (drop-cons b i 0 (omega arith)) (ap (λ (w : List ℕ). get_or b i 0 ∷ w) (part_cells b (suc i) m (omega arith)))

pub length_cells : (b : List ℕ) (i m : ℕ) → length (cells b i m) ≡ m
length_cells b i zero = refl
length_cells b i (suc m) = ap suc (length_cells b (suc i) m)

abbrev but_last : List ℕ → List ℕ
but_last [] = []
but_last (b ∷ []) = []
but_last (b ∷ c ∷ w) = b ∷ but_last (c ∷ w)

but_last_cells : (b : List ℕ) (i m : ℕ) → but_last (cells b i m) ≡ cells b i (m - 1)
but_last_cells b i zero = refl
but_last_cells b i (suc zero) = refl
but_last_cells b i (suc (suc m)) =
    let e : suc (suc m) - 1 ≡ suc m = omega arith in
    let f : suc m - 1 ≡ m = omega arith in
    rw e (ap (λ (w : List ℕ). get_or b i 0 ∷ w) (but_last_cells b (suc i) (suc m) ∙ ap (cells b (suc i)) f))

pub inner_quoted : (b : List ℕ) (i m q : ℕ) → 0 < m → get_or b i 0 ≡ q → (eqb q 39 || eqb q 34) ≡ true → inner (cells b i m) ≡ cells b (i + 1) (m - 1 - 1)
inner_quoted b i m q h e t = rw (cells_more b i m h, e, t) (but_last_cells b (i + 1) (m - 1))

pub inner_bare : (b : List ℕ) (i m : ℕ) → ¬ (get_or b i 0 ≡ 39) → ¬ (get_or b i 0 ≡ 34) → inner (cells b i m) ≡ cells b i m
inner_bare b i zero f g = refl
inner_bare b i (suc m) f g = rw (ne_eqb (get_or b i 0) 39 f, ne_eqb (get_or b i 0) 34 g)

-- ---- two texts

same_is : {v w : List ℕ} (r : Bool) → Same v w r → r ≡ sameb w v
same_is {v} {w} true s = sym (reflects_true (same_reflects w v) (sym (s.yes refl)))
same_is {v} {w} false s = ⊎_elim
    (λ (e : sameb w v ≡ true). absurd (s.no refl (sym (true_reflects (same_reflects w v) e))))
    (λ (e : sameb w v ≡ false). sym e)
    (two (sameb w v))

-- what stands in a text is what stands in a table
pub same_parts : (t b : List ℕ) (at n p m : ℕ) (r : Bool) → at + n ≤ length t → p + m ≤ length b → Same (part t at n) (part b p m) r
    → r ≡ sameb (cells b p m) (cells t at n)
same_parts t b at n p m r h l s =
    same_is r s ∙ ap (sameb (part b p m)) (part_cells t at n h) ∙ ap (λ (w : List ℕ). sameb w (cells t at n)) (part_cells b p m l)

-- ---- three digits

pub three_one : (b : List ℕ) (i m : ℕ) → m ≡ 1 → three (cells b i m) ≡ (get_or b i 0 - 48) * 100
three_one b i m h = rw h

pub three_two : (b : List ℕ) (i m : ℕ) → m ≡ 2 → three (cells b i m) ≡ (get_or b i 0 - 48) * 100 + (get_or b (i + 1) 0 - 48) * 10
three_two b i m h = rw (h, add-one i)

pub three_more : (b : List ℕ) (i m : ℕ) → 2 < m → three (cells b i m) ≡ (get_or b i 0 - 48) * 100 + (get_or b (i + 1) 0 - 48) * 10 + (get_or b (i + 2) 0 - 48)
three_more b i m h =
    let e : i + 1 + 1 ≡ i + 2 = omega arith in
    rw (cells_more b i m (omega arith), cells_more b (i + 1) (m - 1) (omega arith), cells_more b (i + 1 + 1) (m - 1 - 1) (omega arith), e)

-- ---- a sign, or none

module _ (b : List ℕ) (i m : ℕ) (h : 0 < m) where
  pub unsigned_minus : get_or b i 0 ≡ 45 → (true ≡ minus_first (cells b i m)) × (cells b (i + 1) (m - 1) ≡ unsigned (cells b i m))
  unsigned_minus e = (rw (cells_more b i m h, e), rw (cells_more b i m h, e))

  pub unsigned_plain : ¬ (get_or b i 0 ≡ 45) → (false ≡ minus_first (cells b i m)) × (cells b i m ≡ unsigned (cells b i m))
  unsigned_plain e = (rw (cells_more b i m h, ne_eqb (get_or b i 0) 45 e), rw (cells_more b i m h, ne_eqb (get_or b i 0) 45 e))

-- ---- a part of a text, as a slice

pub sliced : (b : List ℕ) (i m : ℕ) → i + m ≤ length b → take (i + m - i) (drop i b) ≡ cells b i m
sliced b i m h = let e : i + m - i ≡ m = omega arith in rw e (part_cells b i m h)

-- without the first k bytes
pub drop_cells : (b : List ℕ) (i m k : ℕ) → drop k (cells b i m) ≡ cells b (i + k) (m - k)
drop_cells b i m zero =
    let e : i + 0 ≡ i = omega arith in
    let f : m - 0 ≡ m = omega arith in
    rw (e, f)
drop_cells b i zero (suc k) = let e : 0 - suc k ≡ 0 = omega arith in rw e
drop_cells b i (suc m) (suc k) =
    let e : i + suc k ≡ suc i + k = omega arith in
    let f : suc m - suc k ≡ m - k = omega arith in
    rw (e, f) (drop_cells b (suc i) m k)

-- its byte k
pub cell_at : (b : List ℕ) (i m k : ℕ) → k < m → get_or (cells b i m) k 0 ≡ get_or b (i + k) 0
cell_at b i zero k h = absurd (not-suc-le-zero h)
cell_at b i (suc m) zero h = let e : i + 0 ≡ i = omega arith in rw e
cell_at b i (suc m) (suc k) h =
    let e : i + suc k ≡ suc i + k = omega arith in
    rw e (cell_at b (suc i) m k (omega arith))
