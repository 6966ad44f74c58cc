-- Where a place stands for a person: the number of its line, counted from 1, and where that line begins and ends. With the steps of the loops that find them.
use Rattle.std.specs.Prelude.{ℕ, zero, suc, ◌+◌, ◌-◌, ◌≤◌, ◌<◌, ◌≡◌, ◌⊎◌, true, false, cond, List, eqb, ltb, length, get_or}
use Rattle.std.proofs.Common.{add-one, arith, ap, subst, ⊎_elim, ltb-true, ltb-false}
use Rattle.paper_expressions.proofs.Laws.Tests.{two}

abbrev pub newline : ℕ → ℕ
newline b = cond (eqb b 10) 1 0

-- how many of the first n bytes are newlines
abbrev pub newlines : List ℕ → ℕ → ℕ
newlines text zero = 0
newlines text (suc n) = newlines text n + newline (get_or text n 0)

-- no byte from a on and before b is a newline
abbrev pub Unbroken : List ℕ → ℕ → ℕ → Type 0
Unbroken text a b = (i : ℕ) → a ≤ i → i < b → ¬ (get_or text i 0 ≡ 10)

-- the line of the place p begins at b: no newline stands between, and one stands right before
pub record Begins (text : List ℕ) (p b : ℕ) : Type 0 where
  pub before : b ≤ p
  pub whole : Unbroken text b p
  pub first : (b ≡ 0) ⊎ (get_or text (b - 1) 0 ≡ 10)

-- p is the r-th byte of its line
pub record Column (text : List ℕ) (p r : ℕ) : Type 0 where
  pub begin : ℕ
  pub begins : Begins text p begin
  pub is : r ≡ p - begin + 1

-- it ends at e: at the next newline from p on, or with the text
pub record Ends (text : List ℕ) (p e : ℕ) : Type 0 where
  pub behind : p ≤ e
  pub within : e ≤ length text
  pub whole : Unbroken text p e
  pub last : (e ≡ length text) ⊎ (get_or text e 0 ≡ 10)

-- ---- one byte more

pub one_more : (text : List ℕ) (n : ℕ) → newlines text (n + 1) ≡ newlines text n + newline (get_or text n 0)
one_more text n = ap (newlines text) (add-one n)

pub unbroken_up : (text : List ℕ) (a n : ℕ) → ¬ (get_or text n 0 ≡ 10) → Unbroken text a n → Unbroken text a (n + 1)
unbroken_up text a n h u i l g = ⊎_elim
    (λ (e : ltb i n ≡ true). u i l (ltb-true i n e))
    (λ (e : ltb i n ≡ false). let k = ltb-false i n e in let z : n ≡ i = omega arith in subst (λ (j : ℕ). ¬ (get_or text j 0 ≡ 10)) z h)
    (two (ltb i n))

pub unbroken_down : (text : List ℕ) (n b : ℕ) → 0 < n → ¬ (get_or text (n - 1) 0 ≡ 10) → Unbroken text n b → Unbroken text (n - 1) b
unbroken_down text n b z h u i l g = ⊎_elim
    (λ (e : ltb i n ≡ true). let k = ltb-true i n e in let w : n - 1 ≡ i = omega arith in subst (λ (j : ℕ). ¬ (get_or text j 0 ≡ 10)) w h)
    (λ (e : ltb i n ≡ false). u i (ltb-false i n e) g)
    (two (ltb i n))

-- ---- there is one beginning, so there is one column

module _ {text : List ℕ} {p : ℕ} where
  not_later : {a b : ℕ} → Begins text p a → Begins text p b → b ≤ a
  not_later {a} {b} x y = ⊎_elim
      (λ (e : b ≡ 0). omega arith)
      (λ (e : get_or text (b - 1) 0 ≡ 10). ⊎_elim
      (λ (f : ltb a b ≡ true). let k = ltb-true a b f in let l = y.before in absurd (x.whole (b - 1) (omega arith) (omega arith) e))
      (λ (f : ltb a b ≡ false). ltb-false a b f)
      (two (ltb a b)))
      y.first

  pub one_begin : {a b : ℕ} → Begins text p a → Begins text p b → a ≡ b
  one_begin x y = let l = not_later x y in let m = not_later y x in omega arith

  pub one_column : {r q : ℕ} → Column text p r → Column text p q → r ≡ q
  one_column x y = let e = one_begin x.begins y.begins in let a = x.is in let b = y.is in omega arith
