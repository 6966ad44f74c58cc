-- The smallest place at which something holds, or that it holds nowhere; and of two such things together, the smaller of the two.
use Rattle.std.specs.Prelude.{ℕ, ◌≤◌, ◌≡◌, refl, ◌⊎◌, Bool, true, false, cond, leb}
use Rattle.std.proofs.Common.{arith, sym, ap, subst, inl, inr, ⊎_elim, leb-true, leb-false}
use Rattle.std.proofs.Math.Option.{Option, none, some}
use Rattle.paper_expressions.proofs.Laws.Tests.{two}

abbrev pub Least : (ℕ → Type 0) → Option ℕ → Type 0
Least P none = (q : ℕ) → ¬ P q
Least P (some p) = P p × ((q : ℕ) → P q → p ≤ q)

abbrev pub smaller : ℕ → ℕ → ℕ
smaller p q = cond (leb p q) p q

abbrev pub least : Option ℕ → Option ℕ → Option ℕ
least none b = b
least (some p) none = some p
least (some p) (some q) = some (smaller p q)

abbrev pub Either : (ℕ → Type 0) → (ℕ → Type 0) → ℕ → Type 0
Either P Q p = P p ⊎ Q p

module _ (P Q : ℕ → Type 0) where
  both_at : (p q : ℕ) → Least P (some p) → Least Q (some q) → Least (Either P Q) (some (smaller p q))
  both_at p q h k = ⊎_elim
      (λ (e : leb p q ≡ true).
      let l = leb-true p q e in
      subst (λ (b : Bool). Least (Either P Q) (some (cond b p q))) (sym e)
      (inl h.0, λ r z. ⊎_elim (λ (x : P r). h.1 r x) (λ (x : Q r). let m = k.1 r x in omega arith) z))
      (λ (e : leb p q ≡ false).
      let l = leb-false p q e in
      subst (λ (b : Bool). Least (Either P Q) (some (cond b p q))) (sym e)
      (inr k.0, λ r z. ⊎_elim (λ (x : P r). let m = h.1 r x in omega arith) (λ (x : Q r). k.1 r x) z))
      (two (leb p q))

  pub least_either : (a b : Option ℕ) → Least P a → Least Q b → Least (Either P Q) (least a b)
  least_either none none h k = λ r z. ⊎_elim (λ (x : P r). h r x) (λ (x : Q r). k r x) z
  least_either none (some q) h k = (inr k.0, λ r z. ⊎_elim (λ (x : P r). absurd (h r x)) (λ (x : Q r). k.1 r x) z)
  least_either (some p) none h k = (inl h.0, λ r z. ⊎_elim (λ (x : P r). h.1 r x) (λ (x : Q r). absurd (k r x)) z)
  least_either (some p) (some q) h k = both_at p q h k

-- two such places are the same
pub one_least : (P : ℕ → Type 0) (a b : Option ℕ) → Least P a → Least P b → a ≡ b
one_least P none none h k = refl
one_least P none (some q) h k = absurd (h q k.0)
one_least P (some p) none h k = absurd (k p h.0)
one_least P (some p) (some q) h k =
    let l = h.1 q k.0 in
    let m = k.1 p h.0 in
    ap some (omega arith)
