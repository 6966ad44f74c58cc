-- Laws: what the tests on a row find out, and one row more that is hushed. By the cells of the rows, of which one changes.
use Rattle.std.specs.Prelude.{ℕ, ◌+◌, ◌*◌, ◌%◌, ◌<◌, ◌≤◌, ◌≡◌, refl, Bool, true, false, cond, ◌&&◌, List, eqb, leb, ltb, get_or, set, length}
use Rattle.std.proofs.Common.{arith, sym, ap, subst, ◌∙◌, ⊎_elim, length-set, get_or-set_same, get_or-set_other, eqb-true, eq-eqb, ne_eqb, lt-ltb, le-ltb, ltb-true, ltb-false, le-leb}
use Rattle.std.proofs.Math.Decide.{dec_lt}
use Rattle.std.proofs.Math.ListN.{get_or-eq_default}
use Rattle.std.proofs.Math.Seq.{set_out}
use Rattle.std.proofs.lemmas.Bool.{eqb-false}
use Rattle.paper_expressions.proofs.Laws.Tests.{two}
use Rattle.state.specs.Layout.{row_is_fn}
use Rattle.advise.specs.RunTold.{cell_of, component_of, rowb, idleb, hushed_row, Hushed}

-- ---- what the code finds out

pub row_missed : (out : List ℕ) (i property number : ℕ) {a : ℕ} → a ≡ cell_of out i 1 → ¬ (a ≡ property) → false ≡ rowb out i property number
row_missed out i property number e n = sym (rw (ne_eqb (cell_of out i 1) property (λ z. n (e ∙ z))))

pub row_hit : (out : List ℕ) (i property number : ℕ) {a b : ℕ} {r : Bool} → a ≡ cell_of out i 1 → a ≡ property → b ≡ cell_of out i 3 → r ≡ eqb b number → r ≡ rowb out i property number
row_hit out i property number e f g h = h ∙ ap (λ (z : ℕ). eqb z number) g ∙ sym (rw (eq-eqb (cell_of out i 1) property (sym e ∙ f)))

module _ (out : List ℕ) (i : ℕ) (s : List ℕ) {a : Bool} where
  pub idle_missed : a ≡ rowb out i 8 1 → a ≡ false → false ≡ idleb out i s
  idle_missed e f = ap (λ (c : Bool). c && row_is_fn s 8 (component_of out i) 5 1) (sym f ∙ e)

  pub idle_told : {t : ℕ} {r : Bool} → a ≡ rowb out i 8 1 → a ≡ true → t ≡ component_of out i → r ≡ row_is_fn s 8 t 5 1 → r ≡ idleb out i s
  idle_told e f g h = h ∙ ap (λ (t : ℕ). row_is_fn s 8 t 5 1) g ∙ ap (λ (c : Bool). c && row_is_fn s 8 (component_of out i) 5 1) (sym f ∙ e)

  pub hushed_as : {o : List ℕ} → a ≡ idleb out i s → a ≡ true → o ≡ set out (4 * i + 1) 0 → o ≡ hushed_row out i s
  hushed_as e f h = h ∙ ap (λ (c : Bool). cond c (set out (4 * i + 1) 0) out) (sym f ∙ e)

  pub left_as : a ≡ idleb out i s → a ≡ false → out ≡ hushed_row out i s
  left_as e f = ap (λ (c : Bool). cond c (set out (4 * i + 1) 0) out) (sym f ∙ e)

-- there is no row past the 1,024
pub past_row : (out : List ℕ) (i : ℕ) (s : List ℕ) → 1024 ≤ i → out ≡ hushed_row out i s
past_row out i s l = rw (le-leb 1024 i l)

-- ---- one row more

cleared : (out : List ℕ) (p : ℕ) → get_or (set out p 0) p 0 ≡ 0
cleared out p = go (dec_lt p (length out))
  where
    go : Dec (p < length out) → get_or (set out p 0) p 0 ≡ 0
    go (yes l) = get_or-set_same out p 0 0 l
    go (no n) = ap (λ (l : List ℕ). get_or l p 0) (set_out out p 0 (omega arith)) ∙ get_or-eq_default out 0 (omega arith)

and_false : (a : Bool) → a && false ≡ false
and_false true = refl
and_false false = refl

-- whether the cell k of the row i is cleared with the first n rows
abbrev clears : List ℕ → List ℕ → ℕ → ℕ → ℕ → Bool
clears out s n i k = eqb k 1 && (ltb i n && idleb out i s)

module _ (out s : List ℕ) (n i k : ℕ) where
  not_yet : n ≤ i → clears out s n i k ≡ false
  not_yet l = rw (le-ltb i n l) (and_false (eqb k 1))

  not_idle : idleb out i s ≡ false → clears out s n i k ≡ false
  not_idle e = rw (e, and_false (ltb i n)) (and_false (eqb k 1))

  before : ¬ (i ≡ n) → clears out s n i k ≡ clears out s (n + 1) i k
  before d = ap (λ (c : Bool). eqb k 1 && (c && idleb out i s)) (⊎_elim
      (λ (e : ltb i n ≡ true). let l = ltb-true i n e in e ∙ sym (lt-ltb i (n + 1) (omega arith)))
      (λ (e : ltb i n ≡ false). let l = ltb-false i n e in e ∙ sym (le-ltb i (n + 1) (omega arith)))
      (two (ltb i n)))

pub none_hushed : (out s : List ℕ) → Hushed out 0 s out
none_hushed out s = record { size = refl; cells = λ i k l. sym (ap (λ (c : Bool). cond c 0 (get_or out (4 * i + k) 0)) (not_yet out s 0 i k (omega arith))) }

module _ {out₀ : List ℕ} {m : ℕ} {s out : List ℕ} (h : Hushed out₀ m s out) where
  -- the next row is as it was
  stays : (k : ℕ) → k < 4 → cell_of out m k ≡ cell_of out₀ m k
  stays k l = ap (λ (x : ℕ). cond (leb 1024 m) 0 (cond (leb 4 k) 0 x)) (h.cells m k l ∙ ap (λ (c : Bool). cond c 0 (get_or out₀ (4 * m + k) 0)) (not_yet out₀ s m m k (omega arith)))

  same_test : idleb out m s ≡ idleb out₀ m s
  same_test =
      ap (λ (p : ℕ). (eqb p 8 && eqb (cell_of out m 3) 1) && row_is_fn s 8 (component_of out m) 5 1) (stays 1 (omega arith))
      ∙ ap (λ (n : ℕ). (eqb (cell_of out₀ m 1) 8 && eqb n 1) && row_is_fn s 8 (component_of out m) 5 1) (stays 3 (omega arith))
      ∙ ap (λ (c : ℕ). rowb out₀ m 8 1 && row_is_fn s 8 (c % 65536) 5 1) (stays 0 (omega arith))

  -- a cell that stays
  kept : (o : List ℕ) (i k : ℕ) → k < 4 → get_or o (4 * i + k) 0 ≡ get_or out (4 * i + k) 0 → clears out₀ s m i k ≡ clears out₀ s (m + 1) i k
      → get_or o (4 * i + k) 0 ≡ cond (clears out₀ s (m + 1) i k) 0 (get_or out₀ (4 * i + k) 0)
  kept o i k l e c = e ∙ h.cells i k l ∙ ap (λ (z : Bool). cond z 0 (get_or out₀ (4 * i + k) 0)) c

  busy : idleb out m s ≡ false → (i k : ℕ) → k < 4 → get_or out (4 * i + k) 0 ≡ cond (clears out₀ s (m + 1) i k) 0 (get_or out₀ (4 * i + k) 0)
  busy z i k l = kept out i k l refl (⊎_elim
      (λ (e : eqb i m ≡ true).
      let none : idleb out₀ i s ≡ false = subst (λ (j : ℕ). idleb out₀ j s ≡ false) (sym (eqb-true i m e)) (sym same_test ∙ z) in
      not_idle out₀ s m i k none ∙ sym (not_idle out₀ s (m + 1) i k none))
      (λ (e : eqb i m ≡ false). before out₀ s m i k (eqb-false i m e))
      (two (eqb i m)))

  module _ (z : idleb out m s ≡ true) (i k : ℕ) (l : k < 4) where
    elsewhere : ¬ (4 * i + k ≡ 4 * m + 1) → get_or (set out (4 * m + 1) 0) (4 * i + k) 0 ≡ get_or out (4 * i + k) 0
    elsewhere n = get_or-set_other out (4 * m + 1) (4 * i + k) 0 0 n

    here : i ≡ m → k ≡ 1 → get_or (set out (4 * m + 1) 0) (4 * i + k) 0 ≡ cond (clears out₀ s (m + 1) i k) 0 (get_or out₀ (4 * i + k) 0)
    here e f =
        let q : 4 * i + k ≡ 4 * m + 1 = omega arith in
        let told : idleb out₀ i s ≡ true = subst (λ (j : ℕ). idleb out₀ j s ≡ true) (sym e) (sym same_test ∙ z) in
        let all : clears out₀ s (m + 1) i k ≡ true = rw (eq-eqb k 1 f, lt-ltb i (m + 1) (omega arith)) told in
        ap (λ (j : ℕ). get_or (set out (4 * m + 1) 0) j 0) q ∙ cleared out (4 * m + 1) ∙ sym (ap (λ (c : Bool). cond c 0 (get_or out₀ (4 * i + k) 0)) all)

    idle : get_or (set out (4 * m + 1) 0) (4 * i + k) 0 ≡ cond (clears out₀ s (m + 1) i k) 0 (get_or out₀ (4 * i + k) 0)
    idle = ⊎_elim
        (λ (e : eqb i m ≡ true). let y = eqb-true i m e in ⊎_elim
        (λ (f : eqb k 1 ≡ true). here y (eqb-true k 1 f))
        (λ (f : eqb k 1 ≡ false). let n = eqb-false k 1 f in kept (set out (4 * m + 1) 0) i k l (elsewhere (λ q. n (omega arith))) (rw f))
        (two (eqb k 1)))
        (λ (e : eqb i m ≡ false). let n = eqb-false i m e in kept (set out (4 * m + 1) 0) i k l (elsewhere (λ q. n (omega arith))) (before out₀ s m i k n))
        (two (eqb i m))

  pub one_hushed : {out' : List ℕ} → out' ≡ hushed_row out m s → Hushed out₀ (m + 1) s out'
  one_hushed {out'} e = subst (Hushed out₀ (m + 1) s) (sym e) (⊎_elim
      (λ (z : idleb out m s ≡ true). rw z (record { size = length-set out (4 * m + 1) 0 ∙ h.size; cells = idle z }))
      (λ (z : idleb out m s ≡ false). rw z (record { size = h.size; cells = busy z }))
      (two (idleb out m s)))
