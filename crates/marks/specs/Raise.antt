-- Marks that children raise: after k of them, a task is marked if one of them holds and is its child. By the children passed.
use Rattle.std.specs.Prelude.{ℕ, ◌+◌, ◌-◌, ◌<◌, ◌≡◌, refl, Bool, true, false, ◌&&◌, ◌||◌, List, eqb, set, length}
use Rattle.std.proofs.Common.{arith, sym, ap, ap₂, subst, ◌∙◌, length-set, get_or-set_same, get_or-set_other, eq-eqb, ne_eqb, eqb-true}
use Rattle.std.proofs.Math.Decide.{ℕ_discrete}
use Rattle.waits.specs.Booleans.{Tests, any_f, any_more, any_none, is_and, is_any}
use Rattle.waits.specs.Twins.{marked, parent_at}

pub record Raised (m : List Bool) (x : ℕ) (v : Bool) (r : List Bool) : Type 0 where
  pub size : length r ≡ length m
  pub marks : length m ≡ 32 → (T : ℕ) → T < 32 → marked r T ≡ (marked m T || (v && eqb x (T + 1)))

or_false : (a : Bool) → (a || false) ≡ a
or_false true = refl
or_false false = refl

and_false : (a : Bool) → (a && false) ≡ false
and_false true = refl
and_false false = refl

pub raised_at : (m : List Bool) (p x : ℕ) {v u : Bool} → p < 32 → ((T : ℕ) → T < 32 → x ≡ T + 1 → p ≡ T) → u ≡ (marked m p || (v && eqb x (p + 1))) → Raised m x v (set m p u)
raised_at m p x {v} {u} l f e = record { size = length-set m p u; marks = marks }
  where
    marks : length m ≡ 32 → (T : ℕ) → T < 32 → marked (set m p u) T ≡ (marked m T || (v && eqb x (T + 1)))
    marks n T i = go (ℕ_discrete T p)
      where
        go : Dec (T ≡ p) → marked (set m p u) T ≡ (marked m T || (v && eqb x (T + 1)))
        go (yes z) = subst (λ (y : ℕ). marked (set m p u) y ≡ (marked m y || (v && eqb x (y + 1)))) (sym z) (get_or-set_same m p u false (omega arith) ∙ e)
        go (no z) =
            get_or-set_other m p T u false z
            ∙ sym (ap (λ (a : Bool). marked m T || (v && a)) (ne_eqb x (T + 1) (λ y. z (sym (f T i y)))) ∙ ap (λ (a : Bool). marked m T || a) (and_false v) ∙ or_false (marked m T))

-- the k children passed, of which v says so
pub record Below (f : List ℕ) (v : ℕ → Bool) (k : ℕ) (m : List Bool) : Type 0 where
  pub size : length m ≡ 32
  pub marks : (T : ℕ) → T < 32 → marked m T ≡ any_f (λ C. v C && eqb (parent_at f C) (T + 1)) k

pub below_none : (f : List ℕ) (v : ℕ → Bool) (m : List Bool) → length m ≡ 32 → ((T : ℕ) → T < 32 → marked m T ≡ false) → Below f v 0 m
below_none f v m e h = record { size = e; marks = λ T l. h T l ∙ any_none (λ C. v C && eqb (parent_at f C) (T + 1)) }

pub below_more : (f : List ℕ) (v : ℕ → Bool) (k : ℕ) (m r : List Bool) {x : ℕ} {b : Bool} → x ≡ parent_at f k → b ≡ v k → Raised m x b r → Below f v k m → Below f v (k + 1) r
below_more f v k m r {x} {b} e g h i =
    record {
      size = h.size ∙ i.size;
      marks = λ T l. h.marks i.size T l ∙ ap₂ (λ (a c : Bool). a || c) (i.marks T l) (ap₂ (λ (a : Bool) (y : ℕ). a && eqb y (T + 1)) g e) ∙ sym (any_more (λ C. v C && eqb (parent_at f C) (T + 1)) k);
    }

pub below_all : (f : List ℕ) (v : ℕ → Bool) (k : ℕ) (m : List Bool) → k ≡ 32 → Below f v k m → Below f v 32 m
below_all f v k m e h = subst (λ (n : ℕ). Below f v n m) e h

-- what the marks say
pub below_test : {f : List ℕ} {v : ℕ → Bool} {m : List Bool} {Q : ℕ → Type 0} → Below f v 32 m → ((C : ℕ) → C < 32 → Tests (v C) (Q C)) → (T : ℕ) → T < 32
    → Tests (marked m T) ((C : ℕ) × (C < 32) × (Q C × (parent_at f C ≡ T + 1)))
below_test {f} {v} {m} {Q} h t T l =
    subst (λ (b : Bool). Tests b ((C : ℕ) × (C < 32) × (Q C × (parent_at f C ≡ T + 1)))) (sym (h.marks T l))
    (is_any (λ C. v C && eqb (parent_at f C) (T + 1)) (λ C. Q C × (parent_at f C ≡ T + 1)) 32 (λ C i. is_and (t C i) (eqb-true _ _, eq-eqb _ _)))

pub next_is : (x p : ℕ) → ¬ (x ≡ 0) → eqb (x - 1) p ≡ eqb x (p + 1)
next_is x p n = go (ℕ_discrete x (p + 1))
  where
    go : Dec (x ≡ p + 1) → eqb (x - 1) p ≡ eqb x (p + 1)
    go (yes e) = eq-eqb (x - 1) p (omega arith) ∙ sym (eq-eqb x (p + 1) e)
    go (no e) = ne_eqb (x - 1) p (λ z. e (omega arith)) ∙ sym (ne_eqb x (p + 1) e)
