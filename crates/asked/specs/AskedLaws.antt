-- A loop over numbers for one that passes a test, and tests that are made one after the other.
use Rattle.std.specs.Prelude.{◌≡◌, Bool, true, false, ◌&&◌, ◌||◌, eqb, get_or, List}
use Rattle.std.proofs.Common.{sym, ◌∙◌, eq-eqb, ne_eqb}
use Rattle.std.proofs.Math.Path.{ap}
use Prim.Native.Nat.{ℕ, suc, ◌+◌, ◌-◌, ◌≤◌, ◌<◌}
use native.Mathlib.Omega.{arith}
use Rattle.asked.specs.Asked.{any_from, bounded, source_of, has_source}

module _ (p : ℕ → Bool) (i n : ℕ) where
  pub any_past : n ≤ i → any_from p i (n - i) ≡ false
  unfolding any_from
  any_past h = let e : n - i ≡ 0 = omega arith in ap (λ (k : ℕ). any_from p i k) e

  module _ (more : i < n) where
    any_next : any_from p i (n - i) ≡ (p i || any_from p (i + 1) (n - (i + 1)))
    unfolding any_from
    any_next = let e : n - i ≡ suc (n - (i + 1)) = omega arith in ap (λ (k : ℕ). any_from p i k) e

    pub any_here : p i ≡ true → any_from p i (n - i) ≡ true
    any_here e = any_next ∙ ap (λ (t : Bool). t || any_from p (i + 1) (n - (i + 1))) e

    pub any_later : p i ≡ false → any_from p i (n - i) ≡ any_from p (i + 1) (n - (i + 1))
    any_later e = any_next ∙ ap (λ (t : Bool). t || any_from p (i + 1) (n - (i + 1))) e

pub any_all : (p : ℕ → Bool) (n : ℕ) → any_from p 0 (n - 0) ≡ any_from p 0 n
any_all p n = ap (λ (k : ℕ). any_from p 0 k) (let e : n - 0 ≡ n = omega arith in e)

-- the first test fails, or the second decides
pub and_no : {a b : Bool} (c : Bool) → a ≡ b → a ≡ false → false ≡ (b && c)
and_no c e f = ap (λ (t : Bool). t && c) (sym f ∙ e)

pub and_yes : {a b r c : Bool} → a ≡ b → a ≡ true → r ≡ c → r ≡ (b && c)
and_yes {a} {b} {r} {c} e f g = g ∙ ap (λ (t : Bool). t && c) (sym f ∙ e)

-- the same where the first test is on a number
pub same_no : {x y m : ℕ} (c : Bool) → x ≡ y → (x ≡ m → ⊥) → false ≡ (eqb y m && c)
same_no {x} {y} {m} c e ne = ap (λ (t : Bool). t && c) (sym (ne_eqb y m (λ z. ne (e ∙ z))))

pub same_yes : {x y m : ℕ} {r c : Bool} → x ≡ y → x ≡ m → r ≡ c → r ≡ (eqb y m && c)
same_yes {x} {y} {m} {r} {c} e f g = g ∙ ap (λ (t : Bool). t && c) (sym (eq-eqb y m (sym e ∙ f)))

-- the sources of a task by the cells that were read
pub as_told : (plan : List ℕ) (d t : ℕ) {x first n : ℕ} {r : Bool} → x ≡ get_or plan (200 + t) 0 → first ≡ bounded x → n ≡ get_or plan (232 + t) 0
    → r ≡ any_from (source_of plan first d) 0 n → r ≡ has_source plan d t
as_told plan d t {x} {first} {n} e f g h =
    h
    ∙ ap (λ (k : ℕ). any_from (source_of plan k d) 0 n) (f ∙ ap bounded e)
    ∙ ap (λ (k : ℕ). any_from (source_of plan (bounded (get_or plan (200 + t) 0)) d) 0 k) g
