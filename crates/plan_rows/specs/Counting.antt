-- Counting: how many of the first k elements pass a test, in joined lists and in lists made of a piece for each element. By induction on the list.
use Rattle.std.specs.Prelude.{ℕ, zero, suc, ◌+◌, ◌≤◌, ◌≡◌, refl, Bool, false, List, [], ◌∷◌, ◌++◌, length}
use Rattle.std.proofs.Common.{arith, ap, ◌∙◌, length-append}
use Rattle.paper_expressions.specs.View.{At, at_first, at_later}
use Rattle.paper_rows.proofs.Laws.Lists.{before}
use Rattle.row_names.specs.Pieces.{each, Piece, piece_first, piece_later}
use Rattle.plan.specs.Writes.{one_if}

module _ {A : Type 0} (c : A → Bool) where
  abbrev pub tally : List A → ℕ
  tally [] = 0
  tally (x ∷ l) = one_if (c x) + tally l

  abbrev pub tally_to : List A → ℕ → ℕ
  tally_to [] k = 0
  tally_to (x ∷ l) zero = 0
  tally_to (x ∷ l) (suc k) = one_if (c x) + tally_to l k

  pub tally_start : (l : List A) → tally_to l 0 ≡ 0
  tally_start [] = refl
  tally_start (x ∷ l) = refl

  pub none_tallied : (l : List A) → ((i : ℕ) (x : A) → At l i x → c x ≡ false) → tally l ≡ 0
  none_tallied [] h = refl
  none_tallied (x ∷ l) h = let e : one_if (c x) ≡ 0 = ap one_if (h 0 x at_first) in omega (arith, none_tallied l (λ i y k. h (suc i) y (at_later k)))

  pub none_before : (l : List A) (k : ℕ) → ((i : ℕ) (x : A) → At l i x → c x ≡ false) → tally_to l k ≡ 0
  none_before [] k h = refl
  none_before (x ∷ l) zero h = refl
  none_before (x ∷ l) (suc k) h = let e : one_if (c x) ≡ 0 = ap one_if (h 0 x at_first) in omega (arith, none_before l k (λ i y q. h (suc i) y (at_later q)))

  pub tally_both : (xs ys : List A) → tally (xs ++ ys) ≡ tally xs + tally ys
  tally_both [] ys = omega arith
  tally_both (x ∷ xs) ys = omega (arith, tally_both xs ys)

  pub tally_behind : (xs ys : List A) (m i : ℕ) → i ≡ length xs + m → tally_to (xs ++ ys) i ≡ tally xs + tally_to ys m
  tally_behind [] ys m i e = ap (tally_to ys) {x = i} {y = m} (omega arith) ∙ let z : tally_to ys m ≡ 0 + tally_to ys m = omega arith in z
  tally_behind (x ∷ xs) ys m zero e = absurd (omega arith)
  tally_behind (x ∷ xs) ys m (suc i) e = omega (arith, tally_behind xs ys m i (omega arith))

  pub tally_front : (xs ys : List A) (m : ℕ) → m ≤ length xs → tally_to (xs ++ ys) m ≡ tally_to xs m
  tally_front [] ys m h = ap (tally_to ys) {x = m} {y = 0} (omega arith) ∙ tally_start ys
  tally_front (x ∷ xs) ys zero h = refl
  tally_front (x ∷ xs) ys (suc m) h = ap (λ (n : ℕ). one_if (c x) + n) (tally_front xs ys m (omega arith))

  pub tally_next : {l : List A} {k : ℕ} {x : A} → At l k x → tally_to l (suc k) ≡ tally_to l k + one_if (c x)
  tally_next {x = x} (at_first {l = l}) = let e = tally_start l in let z : one_if (c x) + tally_to l 0 ≡ 0 + one_if (c x) = omega arith in z
  tally_next (at_later {y = y} h) = omega (arith, tally_next h)

  pub tally_end : (l : List A) → tally_to l (length l) ≡ tally l
  tally_end [] = refl
  tally_end (x ∷ l) = ap (λ (n : ℕ). one_if (c x) + n) (tally_end l)

  -- ---- in a piece

  module _ {B : Type 0} (f : B → List A) where
    pub in_piece : {l : List B} {k o : ℕ} {b : B} → Piece f l k o b → (m : ℕ) → m ≤ length (f b) → (i : ℕ) → i ≡ o + m → tally_to (each f l) i ≡ tally_to (each f l) o + tally_to (f b) m
    in_piece (piece_first {a} {l}) m h i e =
        let s = tally_start (f a ++ each f l) in
        let q = ap (tally_to (f a ++ each f l)) {x = i} {y = m} (omega arith) ∙ tally_front (f a) (each f l) m h in
        omega arith
    in_piece (piece_later {b = x} {l = l} {o = o} p) m h i e =
        let r = in_piece p m h (o + m) refl in
        let q = tally_behind (f x) (each f l) (o + m) i (omega arith) in
        let s = tally_behind (f x) (each f l) o (length (f x) + o) refl in
        omega arith

    -- before it, where each piece has as many as its element gives elsewhere
    pub before_piece : {C : Type 0} (g : B → List C) → ((b : B) → tally (f b) ≡ length (g b)) → {l : List B} {k o : ℕ} {b : B} → Piece f l k o b → tally_to (each f l) o ≡ before g k l
    before_piece g e (piece_first {a} {l}) = tally_start (f a ++ each f l)
    before_piece g e (piece_later {b = x} {l = l} {k = k} {o = o} p) =
        let r = before_piece g e p in
        let q = tally_behind (f x) (each f l) o (length (f x) + o) refl in
        let s = e x in
        let z : tally_to (f x ++ each f l) (length (f x) + o) ≡ length (g x) + before g k l = omega arith in
        z

    pub tally_each : {C : Type 0} (g : B → List C) → ((b : B) → tally (f b) ≡ length (g b)) → (l : List B) → tally (each f l) ≡ length (each g l)
    tally_each g e [] = refl
    tally_each g e (b ∷ l) =
        let q = tally_both (f b) (each f l) in
        let s = length-append (g b) (each g l) in
        let r = tally_each g e l in
        let z = e b in
        omega arith

-- where the piece of an element begins in a list that is gathered
pub piece_begins : {A B : Type 0} {f : A → List B} {l : List A} {k o : ℕ} {a : A} → Piece f l k o a → o ≡ before f k l
piece_begins piece_first = refl
piece_begins {f = f} (piece_later {b = b} p) = ap (λ (n : ℕ). length (f b) + n) (piece_begins p)
