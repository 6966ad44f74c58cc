-- Who waits for whom: one row more at each turn.
use Rattle.std.specs.Prelude.{ℕ, suc, ◌+◌, ◌≤◌, ◌<◌, ◌≡◌, refl, Bool, true, false, ◌&&◌, ◌||◌, List, [], eqb, length, get_or, set, replicate}
use Rattle.std.proofs.Common.{sym, ap, subst, ◌∙◌, ⊎_elim, arith, add-one, length-set, get_or-set_same, get_or-set_other, eqb-true, eq-eqb, ne_eqb}
use Rattle.std.proofs.lemmas.List.{length-replicate, get_or-replicate}
use Rattle.std.proofs.lemmas.Bool.{eqb-false}
use Rattle.paper_expressions.proofs.Laws.Tests.{two}
use Rattle.paper_tokens.specs.Tokens.{“schedule-constraint”}
use Rattle.row_names.specs.Sheet.{task_kind}
use Rattle.row_tests.specs.Table.{cell_of, kind_of}
use Rattle.name_tests.specs.Lists.{Lists}
use Rattle.plan.specs.Writes.{outline, child, waits_f}
use Rattle.plan.specs.Filled.{Marked}
use Rattle.plan_cells.specs.Finds.{Finds, found_number, Child}

marked_as : {m n : ℕ → ℕ → Bool} {w : List (List Bool)} → Marked m w → ((T A : ℕ) → T < 32 → A < 32 → m T A ≡ n T A) → Marked n w
marked_as h e = record { long = h.long; wide = h.wide; marks = λ T A u v. h.marks T A u v ∙ e T A u v }

pub marked_none : Marked (λ T A. false) (replicate 32 (replicate 32 false))
marked_none = record {
  long = length-replicate 32 (replicate 32 false);
  wide = λ T u. ap length (get_or-replicate 32 T (replicate 32 false) [] u) ∙ length-replicate 32 false;
  marks = λ T A u v. ap (λ (r : List Bool). get_or r A false) (get_or-replicate 32 T (replicate 32 false) [] u) ∙ get_or-replicate 32 A false false v;
}

-- ---- one mark

abbrev pub Sets : List (List Bool) → ℕ → ℕ → List (List Bool) → Type 0
Sets w t a r = (m : ℕ → ℕ → Bool) → Marked m w → Marked (λ T A. (eqb t T && eqb a A) || m T A) r

module _ (w : List (List Bool)) (t a : ℕ) where
  pub sets_low : 32 ≤ t → Sets w t a w
  sets_low u m h = marked_as h (λ T A x y. rw (ne_eqb t T (λ e. omega arith)) refl)

  pub sets_right : 32 ≤ a → Sets w t a w
  sets_right u m h = marked_as h (λ T A x y. ⊎_elim
      (λ (e : eqb t T ≡ true). rw (e, ne_eqb a A (λ (q : a ≡ A). omega arith)) refl)
      (λ (e : eqb t T ≡ false). rw e refl)
      (two (eqb t T)))

  pub sets_in : t < 32 → a < 32 → Sets w t a (set w t (set (get_or w t []) a true))
  sets_in u v m h = record {
    long = length-set w t _ ∙ h.long;
    wide = wide;
    marks = marks;
  }
    where
      row : List Bool
      row = set (get_or w t []) a true

      inside : t < length w
      inside = let z = h.long in omega arith

      other : (T : ℕ) → eqb t T ≡ false → get_or (set w t row) T [] ≡ get_or w T []
      other T e = get_or-set_other w t T row [] (λ q. eqb-false t T e (sym q))

      wide : (T : ℕ) → T < 32 → length (get_or (set w t row) T []) ≡ 32
      wide T x = ⊎_elim
          (λ (e : eqb t T ≡ true). subst (λ (j : ℕ). length (get_or (set w t row) j []) ≡ 32) (eqb-true t T e) (ap length (get_or-set_same w t row [] inside) ∙ length-set (get_or w t []) a true ∙ h.wide t u))
          (λ (e : eqb t T ≡ false). ap length (other T e) ∙ h.wide T x)
          (two (eqb t T))

      in_row : (A : ℕ) → A < 32 → get_or row A false ≡ (eqb a A || m t A)
      in_row A y = ⊎_elim
          (λ (e : eqb a A ≡ true). rw e (subst (λ (j : ℕ). get_or row j false ≡ true) (eqb-true a A e) (get_or-set_same (get_or w t []) a true false (let z = h.wide t u in omega arith))))
          (λ (e : eqb a A ≡ false). rw e (get_or-set_other (get_or w t []) a A true false (λ q. eqb-false a A e (sym q)) ∙ h.marks t A u y))
          (two (eqb a A))

      marks : (T A : ℕ) → T < 32 → A < 32 → get_or (get_or (set w t row) T []) A false ≡ ((eqb t T && eqb a A) || m T A)
      marks T A x y = ⊎_elim
          (λ (e : eqb t T ≡ true). subst (λ (j : ℕ). get_or (get_or (set w t row) j []) A false ≡ ((eqb t j && eqb a A) || m j A)) (eqb-true t T e)
          (rw (eq-eqb t t refl) (ap (λ (r : List Bool). get_or r A false) (get_or-set_same w t row [] inside) ∙ in_row A y)))
          (λ (e : eqb t T ≡ false). rw e (ap (λ (r : List Bool). get_or r A false) (other T e) ∙ h.marks T A x y))
          (two (eqb t T))

-- ---- one row

abbrev pub Waits : List ℕ → List ℕ → List ℕ → ℕ → ℕ → ℕ → List (List Bool) → List (List Bool) → Type 0
Waits x b tasks m k c w r =
    (n : ℕ) → Lists task_kind x n tasks m → c ≡ child (outline x n b) k → Marked (waits_f (outline x n b) k) w → Marked (waits_f (outline x n b) (suc k)) r

module _ (x b tasks : List ℕ) (m k c : ℕ) (w : List (List Bool)) {j : ℕ} (ej : j ≡ kind_of x k) where
  pub waits_not : ¬ (j ≡ “schedule-constraint”) → Waits x b tasks m k c w w
  waits_not n z t e h = marked_as h (λ T A u v. rw (ne_eqb (kind_of x k) “schedule-constraint” (λ q. n (ej ∙ q))) refl)

  pub waits_one : {h a : ℕ} {r : List (List Bool)} → j ≡ “schedule-constraint” → h ≡ cell_of x k 2 → Finds x b tasks m false h a → Sets w c a r → Waits x b tasks m k c w r
  waits_one {h} {a} {r} ec eh f s n t e q =
      let i = found_number t b false (cell_of x k 2) (subst (λ (z : ℕ). Finds x b tasks m false z a) eh f) in
      marked_as (s (waits_f (outline x n b) k) q)
      (λ T A u v. rw (eq-eqb (kind_of x k) “schedule-constraint” (sym ej ∙ ec))
      (ap (λ (z : ℕ). (eqb z T && eqb a A) || waits_f (outline x n b) k T A) e
      ∙ ap (λ (z : ℕ). (eqb (child (outline x n b) k) T && eqb z A) || waits_f (outline x n b) k T A) i))

-- ---- all rows

abbrev pub AllWaits : List ℕ → ℕ → List ℕ → List ℕ → ℕ → List (List Bool) → Type 0
AllWaits x n b tasks m r = Lists task_kind x n tasks m → Marked (waits_f (outline x n b) n) r

-- up to the row k
abbrev pub WaitsTo : List ℕ → ℕ → List ℕ → List ℕ → ℕ → ℕ → ℕ → List (List Bool) → Type 0
WaitsTo x n b tasks m k c w = Lists task_kind x n tasks m → (c ≡ child (outline x n b) k) × Marked (waits_f (outline x n b) k) w

module _ (x : List ℕ) (n : ℕ) (b tasks : List ℕ) (m : ℕ) where
  pub waits_more : (k : ℕ) {c d : ℕ} {w v : List (List Bool)} → WaitsTo x n b tasks m k c w → Waits x b tasks m k c w v → Child x b tasks m k c d → WaitsTo x n b tasks m (k + 1) d v
  waits_more k {c} {d} {w} {v} h s e t =
      let q = h t in (
        subst (λ (j : ℕ). d ≡ child (outline x n b) j) (sym (add-one k)) (e n t q.0),
        subst (λ (j : ℕ). Marked (waits_f (outline x n b) j) v) (sym (add-one k)) (s n t q.0 q.1),
      )

  pub waits_all : (k : ℕ) {c : ℕ} {w : List (List Bool)} → k ≡ n → WaitsTo x n b tasks m k c w → AllWaits x n b tasks m w
  waits_all k {w = w} e h t = subst (λ (j : ℕ). Marked (waits_f (outline x n b) j) w) e (h t).1
