-- The loops over names and columns, turn by turn.
use Rattle.std.specs.Prelude.{◌≡◌, refl, Bool, true, false, cond, ◌&&◌, eqb, get_or, set, length, drop}
use Rattle.std.proofs.Math.Path.{sym, ap}
use Rattle.std.proofs.Common.{subst, ◌∙◌, drop_of_length-le, drop-cons, lt-ltb, le-ltb, eq-eqb, ne_eqb}
use mathlib.Core.List.{List, [], ◌∷◌}
use Prim.Native.Nat.{ℕ, zero, suc, ◌+◌, ◌-◌, ◌≤◌, ◌<◌}
use native.Mathlib.Omega.{arith}
use Rattle.paper_expressions.specs.Bytes.{fold}
use Rattle.paper_expressions.proofs.Laws.Search.{alikeb}
use Rattle.parts.specs.Texts.{cells}
use Rattle.season_answer.specs.Columns.{first_from, is_label, by_number, first_with, may_stand, columns_from, all_may}

-- ---- a name

both_false : (p q : Bool) → q ≡ false → (p && q) ≡ false
both_false true q e = e
both_false false q e = refl

pub name_long : (b : List ℕ) (n x : ℕ) (w : List ℕ) → (n ≡ length w → ⊥) → false ≡ alikeb (cells b x n) w
name_long b zero x [] h = absurd (h refl)
name_long b zero x (a ∷ w) h = refl
name_long b (suc n) x [] h = refl
name_long b (suc n) x (a ∷ w) h = sym (both_false (eqb (fold (get_or b x 0)) (fold a)) (alikeb (cells b (suc x) n) w) (sym (name_long b n (suc x) w (λ e. h (ap suc e)))))

pub name_from : (b : List ℕ) (x n : ℕ) (w : List ℕ) → alikeb (cells b (x + 0) (n - 0)) (drop 0 w) ≡ alikeb (cells b x n) w
name_from b x n w = let u : x + 0 ≡ x = omega arith in let v : n - 0 ≡ n = omega arith in rw (u, v) refl

module _ (b : List ℕ) (x : ℕ) (w : List ℕ) (i : ℕ) where
  pub name_end : length w ≤ i → alikeb (cells b (x + i) (length w - i)) (drop i w) ≡ true
  name_end h = let e : length w - i ≡ 0 = omega arith in rw (e, drop_of_length-le w h)

  module _ (more : i < length w) where
    name_next : alikeb (cells b (x + i) (length w - i)) (drop i w) ≡ (eqb (fold (get_or b (x + i) 0)) (fold (get_or w i 0)) && alikeb (cells b (x + (i + 1)) (length w - (i + 1))) (drop (i + 1) w))
    name_next =
        let e : length w - i ≡ suc (length w - (i + 1)) = omega arith in
        let u : x + (i + 1) ≡ suc (x + i) = omega arith in
        let v : i + 1 ≡ suc i = omega arith in
        ap (λ (n : ℕ). alikeb (cells b (x + i) n) (drop i w)) e
        ∙ ap (λ (l : List ℕ). alikeb (cells b (x + i) (suc (length w - (i + 1)))) l) (drop-cons w i 0 more)
        ∙ ap (λ (j : ℕ). eqb (fold (get_or b (x + i) 0)) (fold (get_or w i 0)) && alikeb (cells b j (length w - (i + 1))) (drop (suc i) w)) (sym u)
        ∙ ap (λ (j : ℕ). eqb (fold (get_or b (x + i) 0)) (fold (get_or w i 0)) && alikeb (cells b (x + (i + 1)) (length w - (i + 1))) (drop j w)) (sym v)

    pub name_other : (fold (get_or b (x + i) 0) ≡ fold (get_or w i 0) → ⊥) → alikeb (cells b (x + i) (length w - i)) (drop i w) ≡ false
    name_other ne = name_next ∙ ap (λ (t : Bool). t && alikeb (cells b (x + (i + 1)) (length w - (i + 1))) (drop (i + 1) w)) (ne_eqb _ _ ne)

    pub name_same : fold (get_or b (x + i) 0) ≡ fold (get_or w i 0) → alikeb (cells b (x + i) (length w - i)) (drop i w) ≡ alikeb (cells b (x + (i + 1)) (length w - (i + 1))) (drop (i + 1) w)
    name_same e = name_next ∙ ap (λ (t : Bool). t && alikeb (cells b (x + (i + 1)) (length w - (i + 1))) (drop (i + 1) w)) (eq-eqb _ _ e)

-- ---- the first that passes a test

module _ (p : ℕ → Bool) (i n : ℕ) where
  pub first_past : n ≤ i → first_from p i (n - i) ≡ i
  unfolding first_from
  first_past h = let e : n - i ≡ 0 = omega arith in ap (λ (k : ℕ). first_from p i k) e

  module _ (more : i < n) where
    first_next : first_from p i (n - i) ≡ cond (p i) i (first_from p (i + 1) (n - (i + 1)))
    unfolding first_from
    first_next = let e : n - i ≡ suc (n - (i + 1)) = omega arith in ap (λ (k : ℕ). first_from p i k) e

    pub first_here : p i ≡ true → first_from p i (n - i) ≡ i
    first_here e = first_next ∙ ap (λ (t : Bool). cond t i (first_from p (i + 1) (n - (i + 1)))) e

    pub first_later : p i ≡ false → first_from p i (n - i) ≡ first_from p (i + 1) (n - (i + 1))
    first_later e = first_next ∙ ap (λ (t : Bool). cond t i (first_from p (i + 1) (n - (i + 1)))) e

-- ---- what a name stands for

module _ {n m d e : ℕ} (name : List ℕ) (f : n ≡ m) (g : d ≡ e) where
  by_both : by_number n d name ≡ by_number m e name
  by_both = ap (λ (x : ℕ). by_number x d name) f ∙ ap (λ (x : ℕ). by_number m x name) g

  pub stands_item : d < n → d + 1 ≡ by_number m e name
  stands_item h = subst (λ (x : ℕ). d + 1 ≡ x) by_both (simp (lt-ltb d n h))

  pub stands_label : n ≤ d → {t : Bool} → t ≡ is_label name → t ≡ true → 0 ≡ by_number m e name
  stands_label h k l = subst (λ (x : ℕ). 0 ≡ x) by_both (simp (le-ltb d n h) (sym (ap (λ (t : Bool). cond t 0 4294967295) (sym k ∙ l))))

  pub stands_nothing : n ≤ d → {t : Bool} → t ≡ is_label name → t ≡ false → 4294967295 ≡ by_number m e name
  stands_nothing h k l = subst (λ (x : ℕ). 4294967295 ≡ x) by_both (simp (le-ltb d n h) (sym (ap (λ (t : Bool). cond t 0 4294967295) (sym k ∙ l))))

pub no_label : (w : List ℕ) → length w ≡ 0 → false ≡ is_label w
no_label [] h = refl
no_label (b ∷ w) h = absurd (omega arith)

pub label_by : (w : List ℕ) → (length w ≡ 0 → ⊥) → eqb (get_or w 0 0) 35 ≡ is_label w
label_by [] h = absurd (h refl)
label_by (b ∷ w) h = refl

-- ---- whether a column may stand

module _ (columns : List ℕ) (i c : ℕ) (item : c ≡ 0 → ⊥) (one : c ≡ 4294967295 → ⊥) {j : ℕ} (e : j ≡ first_with columns i c) where
  pub stands_twice : j < i → false ≡ may_stand columns i c
  stands_twice h = let k : first_with columns i c < i = omega arith in simp (ne_eqb c 0 item, ne_eqb c 4294967295 one, lt-ltb (first_with columns i c) i k)

  pub stands_once : i ≤ j → true ≡ may_stand columns i c
  stands_once h = let k : i ≤ first_with columns i c = omega arith in simp (ne_eqb c 0 item, ne_eqb c 4294967295 one, le-ltb (first_with columns i c) i k)

-- ---- all columns

and_assoc : (a b c : Bool) → (a && b) && c ≡ a && (b && c)
and_assoc true b c = refl
and_assoc false b c = refl

module _ (f : ℕ → ℕ) (columns : List ℕ) (i n : ℕ) where
  pub columns_end : n ≤ i → (columns_from f columns i (n - i) ≡ columns) × (all_may f columns i (n - i) ≡ true)
  unfolding columns_from all_may
  columns_end h = let e : n - i ≡ 0 = omega arith in (ap (λ (k : ℕ). columns_from f columns i k) e, ap (λ (k : ℕ). all_may f columns i k) e)

  pub columns_next : i < n → {after : List ℕ} → after ≡ set columns i (f i) → columns_from f columns i (n - i) ≡ columns_from f after (i + 1) (n - (i + 1))
  unfolding columns_from
  columns_next h g = let e : n - i ≡ suc (n - (i + 1)) = omega arith in ap (λ (k : ℕ). columns_from f columns i k) e ∙ ap (λ (l : List ℕ). columns_from f l (i + 1) (n - (i + 1))) (sym g)

  pub may_next : i < n → {after : List ℕ} → after ≡ set columns i (f i) → {one both : Bool} (well : Bool) → one ≡ may_stand columns i (f i) → both ≡ (well && one)
      → (well && all_may f columns i (n - i)) ≡ (both && all_may f after (i + 1) (n - (i + 1)))
  unfolding all_may
  may_next h {after} g {one} {both} well e k =
      let u : n - i ≡ suc (n - (i + 1)) = omega arith in
      ap (λ (m : ℕ). well && all_may f columns i m) u
      ∙ ap (λ (l : List ℕ). well && (may_stand columns i (f i) && all_may f l (i + 1) (n - (i + 1)))) (sym g)
      ∙ ap (λ (t : Bool). well && (t && all_may f after (i + 1) (n - (i + 1)))) (sym e)
      ∙ sym (and_assoc well one (all_may f after (i + 1) (n - (i + 1))))
      ∙ ap (λ (t : Bool). t && all_may f after (i + 1) (n - (i + 1))) (sym k)

pub and_true : (t : Bool) → t ≡ (t && true)
and_true true = refl
and_true false = refl

pub none_off : (n : ℕ) → n - 0 ≡ n
none_off n = omega arith
