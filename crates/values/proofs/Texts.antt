-- The order of two texts from a place on, where the bytes before it are alike: by one byte more at each step.
use mathlib.Core.Path.{◌≡◌, refl, sym, ap, ◌∙◌}
use mathlib.Core.Bool.{Bool, true, false, cond}
use mathlib.Core.List.{List, [], ◌∷◌}
use Prim.Native.Nat.{ℕ, zero, suc, ◌+◌, ◌≤◌, ◌<◌}
use native.Mathlib.Nat.{not-suc-le-zero}
use native.Mathlib.Numerals.{add-one}
use native.Mathlib.Omega.{arith}
use lib.ListN.{get_or, length, drop, drop_of_length-le}
use lib.Seq.{drop-cons}
use lib.Dec.{ltb}
use borrow.Author.Tests.{lt-ltb, le-ltb}
use Rattle.paper_expressions.specs.Bytes.{fold, folded}
use Rattle.paper_expressions.specs.Operators as paper
use Rattle.paper_expressions.proofs.Laws.Compare.{order_t, byte, three}
use Rattle.paper_expressions.specs.Clauses.{Clause}
use Rattle.numbers.specs.Signs.{signed, verdict}
use Rattle.numbers.specs.declared.sign.Sign.TheVariants.{Greater, Less, Equal}
use Rattle.parts.specs.Texts.{cells}

-- the order is settled from i on
abbrev pub From : List ℕ → List ℕ → ℕ → Type 0
From s t i = order_t (folded s) (folded t) ≡ order_t (folded (drop i s)) (folded (drop i t))

module _ (s t : List ℕ) (i : ℕ) (e : From s t i) where
  pub longer : i < length s → length t ≤ i → Greater ≡ signed (order_t (folded s) (folded t))
  longer h k =
      let f : order_t (folded s) (folded t) ≡ paper.+1 = e ∙ rw (drop-cons s i 0 h, drop_of_length-le t k) in
      sym (ap signed f)

  pub shorter : length s ≤ i → i < length t → Less ≡ signed (order_t (folded s) (folded t))
  shorter h k =
      let f : order_t (folded s) (folded t) ≡ paper.-1 = e ∙ rw (drop_of_length-le s h, drop-cons t i 0 k) in
      sym (ap signed f)

  pub level : length s ≤ i → length t ≤ i → Equal ≡ signed (order_t (folded s) (folded t))
  level h k =
      let f : order_t (folded s) (folded t) ≡ paper.±0 = e ∙ rw (drop_of_length-le s h, drop_of_length-le t k) in
      sym (ap signed f)

  step : i < length s → i < length t
      → order_t (folded s) (folded t) ≡ byte (fold (get_or s i 0)) (fold (get_or t i 0)) (order_t (folded (drop (suc i) s)) (folded (drop (suc i) t)))
  step h k = e ∙ rw (drop-cons s i 0 h, drop-cons t i 0 k)

  pub greater : i < length s → i < length t → fold (get_or t i 0) < fold (get_or s i 0) → Greater ≡ signed (order_t (folded s) (folded t))
  greater h k l =
      let f : order_t (folded s) (folded t) ≡ paper.+1 = step h k ∙ rw (lt-ltb (fold (get_or t i 0)) (fold (get_or s i 0)) l) in
      sym (ap signed f)

  pub less : i < length s → i < length t → fold (get_or s i 0) < fold (get_or t i 0) → Less ≡ signed (order_t (folded s) (folded t))
  less h k l =
      let f : order_t (folded s) (folded t) ≡ paper.-1 = step h k ∙ rw (le-ltb (fold (get_or t i 0)) (fold (get_or s i 0)) (omega arith), lt-ltb (fold (get_or s i 0)) (fold (get_or t i 0)) l) in
      sym (ap signed f)

  pub next : i < length s → i < length t → fold (get_or s i 0) ≤ fold (get_or t i 0) → fold (get_or t i 0) ≤ fold (get_or s i 0) → From s t (i + 1)
  next h k l m =
      step h k ∙ rw (le-ltb (fold (get_or t i 0)) (fold (get_or s i 0)) l, le-ltb (fold (get_or s i 0)) (fold (get_or t i 0)) m, add-one i)

-- the order of two texts is never unknown
pub told : (a b c : Clause) (s t : List ℕ) → verdict (three (order_t s t) a b c) ≡ signed (order_t s t)
told a b c [] [] = refl
told a b c [] (y ∷ t) = refl
told a b c (x ∷ s) [] = refl
told a b c (x ∷ s) (y ∷ t) = go (ltb y x) (ltb x y) (told a b c s t)
  where
    go : (p q : Bool) → verdict (three (order_t s t) a b c) ≡ signed (order_t s t)
        → verdict (three (cond p paper.+1 (cond q paper.-1 (order_t s t))) a b c) ≡ signed (cond p paper.+1 (cond q paper.-1 (order_t s t)))
    go true q h = refl
    go false true h = refl
    go false false h = h

-- a text of n bytes from the place x on
pub text_long : (b : List ℕ) (x n : ℕ) → length (cells b x n) ≡ n
text_long b x zero = refl
text_long b x (suc n) = ap suc (text_long b (suc x) n)

pub text_byte : (b : List ℕ) (x n i : ℕ) → i < n → get_or (cells b x n) i 0 ≡ get_or b (x + i) 0
text_byte b x zero i h = absurd (not-suc-le-zero h)
text_byte b x (suc n) zero h = ap (λ (k : ℕ). get_or b k 0) (omega arith)
text_byte b x (suc n) (suc i) h = text_byte b (suc x) n i (omega arith) ∙ ap (λ (k : ℕ). get_or b k 0) (omega arith)
