-- What it is for a value to be what the operator with a number gives, and the laws for a dispatch on the number: an arm that calls the
-- operator, and the arm for all other numbers. By the clauses' own operators.
use Rattle.std.specs.Prelude.{◌≡◌, refl, List, [], ◌∷◌, ℕ, ◌≤◌, take, length}
use Rattle.std.proofs.Common.{sym, subst, ◌∙◌, arith}
use Rattle.std.proofs.Math.Path.{ap}
use Rattle.paper_expressions.specs.Values as paper
use Rattle.paper_expressions.specs.Values.{TaskState, dormant, in_progress, discarded, completed}
use Rattle.paper_expressions.specs.Clauses.{Clause}
use Rattle.paper_expressions.specs.View.{View, Apart}
use Rattle.paper_expressions.proofs.Laws.WithinLimits.{Limited, EachLimited, more_limited}
use Rattle.paper_expressions.specs.Operators.{plus, minus, times, is>, is<, is>=, is<=, is=, is!=, max, min}
use Rattle.paper_expressions.specs.Operators.{Op, is-in}
use Rattle.paper_expressions.specs.Operators.{F, F-arithmetic, F-divide, F-compare, F-and, F-or, F-includes, F-oneof, F-if, F-negate, F-isknown, F-not, F-count, F-sum, F-extreme, F-nth, F-is-in}
use Rattle.parts.specs.Codes.{code}
use Rattle.parts.proofs.OneTree.{op_at}
use Rattle.values.specs.declared.value.Value.{Value}
use Rattle.values.specs.Meaning.{meaning_v}
use Rattle.operators.specs.Means.{Means, meanings}
use Rattle.apply.specs.Tasks.{Tasks, state_code}
use Rattle.apply.specs.IsIn.{Asked}

-- r is what the operator with the number k gives for the operands vs, whatever clause fits
abbrev pub Applies : List ℕ → List ℕ → List ℕ → ℕ → List Value → Value → Type 0
Applies b names states k vs r =
    (τ : View) (T : ℕ) (o : Op) (c : Clause) (w : paper.Value) → Apart τ → Tasks b names states τ → EachLimited (meanings b vs) → k ≡ code o
    → F τ T o (meanings b vs) c w → meaning_v b r ≡ w

-- the operator that a clause is of, from its number
op_known : {τ : View} {T : ℕ} {o : Op} {vs : List paper.Value} {c : Clause} {w : paper.Value} → F τ T o vs c w → o ≡ op_at (code o) []
op_known (F-arithmetic {o = plus} h) = refl
op_known (F-arithmetic {o = minus} h) = refl
op_known (F-arithmetic {o = times} h) = refl
op_known (F-divide h) = refl
op_known (F-compare {o = is>} h) = refl
op_known (F-compare {o = is<} h) = refl
op_known (F-compare {o = is>=} h) = refl
op_known (F-compare {o = is<=} h) = refl
op_known (F-compare {o = is=} h) = refl
op_known (F-compare {o = is!=} h) = refl
op_known (F-and h) = refl
op_known (F-or h) = refl
op_known (F-includes h) = refl
op_known (F-oneof h) = refl
op_known (F-if h) = refl
op_known (F-negate h) = refl
op_known (F-isknown h) = refl
op_known (F-not h) = refl
op_known (F-count h) = refl
op_known (F-sum h) = refl
op_known (F-extreme {e = max} h) = refl
op_known (F-extreme {e = min} h) = refl
op_known (F-nth h) = refl
op_known (F-is-in {s = dormant} h) = refl
op_known (F-is-in {s = in_progress} h) = refl
op_known (F-is-in {s = discarded} h) = refl
op_known (F-is-in {s = completed} h) = refl

pub sole : {v : paper.Value} → EachLimited (v ∷ []) → Limited v
sole (more_limited h k) = h

module _ (b names states : List ℕ) (k : ℕ) (r : Value) where
  -- the number is m, which is that of the operator o
  pub arm : (m : ℕ) (vs : List Value) → k ≡ m → (EachLimited (meanings b vs) → Means b (op_at m []) vs r) → Applies b names states k vs r
  unfolding Means
  arm m vs e h τ T o c w apart t l y f = h l τ T c w (subst (λ (p : Op). F τ T p (meanings b vs) c w) (op_known f ∙ ap (λ (n : ℕ). op_at n []) (sym y ∙ e)) f)

  pub state_arm : (m : ℕ) (s : TaskState) (a : Value) → k ≡ m → op_at m [] ≡ is-in s → Asked b names states (state_code s) a r → Applies b names states k (a ∷ []) r
  state_arm m s a e z h τ T o c w apart t l y f = go (subst (λ (p : Op). F τ T p (meanings b (a ∷ [])) c w) (op_known f ∙ ap (λ (n : ℕ). op_at n []) (sym y ∙ e) ∙ z) f)
    where
      go : F τ T (is-in s) (meanings b (a ∷ [])) c w → meaning_v b r ≡ w
      go (F-is-in q) = h τ T s c w apart t refl q

  -- no operator of one operand has the number
  pub no_one : (a : Value) → ¬ (k ≡ 80) → ¬ (k ≡ 90) → ¬ (k ≡ 100) → ¬ (k ≡ 110) → ¬ (k ≡ 120) → ¬ (k ≡ 130) → ¬ (k ≡ 131) → ¬ (k ≡ 150) → ¬ (k ≡ 151) → ¬ (k ≡ 152) → ¬ (k ≡ 153)
      → Applies b names states k (a ∷ []) r
  no_one a n1 n2 n3 n4 n5 n6 n7 n8 n9 n10 n11 τ T o c w apart t l y f = absurd (go f y)
    where
      go : {p : Op} {v u : paper.Value} → F τ T p (v ∷ []) c u → k ≡ code p → ⊥
      go (F-negate h) e = n1 e
      go (F-isknown h) e = n2 e
      go (F-not h) e = n3 e
      go (F-count h) e = n4 e
      go (F-sum h) e = n5 e
      go (F-extreme {e = max} h) e = n6 e
      go (F-extreme {e = min} h) e = n7 e
      go (F-is-in {s = dormant} h) e = n8 e
      go (F-is-in {s = in_progress} h) e = n9 e
      go (F-is-in {s = discarded} h) e = n10 e
      go (F-is-in {s = completed} h) e = n11 e

  -- no operator of two operands has the number
  pub no_two : (a d : Value) → ¬ (k ≡ 10) → ¬ (k ≡ 11) → ¬ (k ≡ 12) → ¬ (k ≡ 20) → ¬ (k ≡ 30) → ¬ (k ≡ 31) → ¬ (k ≡ 32) → ¬ (k ≡ 33) → ¬ (k ≡ 34) → ¬ (k ≡ 35) → ¬ (k ≡ 40) → ¬ (k ≡ 41) → ¬ (k ≡ 50) → ¬ (k ≡ 60) → ¬ (k ≡ 140)
      → Applies b names states k (a ∷ d ∷ []) r
  no_two a d n1 n2 n3 n4 n5 n6 n7 n8 n9 n10 n11 n12 n13 n14 n15 τ T o c w apart t l y f = absurd (go f y)
    where
      go : {p : Op} {v x u : paper.Value} → F τ T p (v ∷ x ∷ []) c u → k ≡ code p → ⊥
      go (F-arithmetic {o = plus} h) e = n1 e
      go (F-arithmetic {o = minus} h) e = n2 e
      go (F-arithmetic {o = times} h) e = n3 e
      go (F-divide h) e = n4 e
      go (F-compare {o = is>} h) e = n5 e
      go (F-compare {o = is<} h) e = n6 e
      go (F-compare {o = is>=} h) e = n7 e
      go (F-compare {o = is<=} h) e = n8 e
      go (F-compare {o = is=} h) e = n9 e
      go (F-compare {o = is!=} h) e = n10 e
      go (F-and h) e = n11 e
      go (F-or h) e = n12 e
      go (F-includes h) e = n13 e
      go (F-oneof h) e = n14 e
      go (F-nth h) e = n15 e

  -- no other operator has three operands, and none has no operand
  pub no_three : (a d g : Value) → ¬ (k ≡ 70) → Applies b names states k (a ∷ d ∷ g ∷ []) r
  no_three a d g n τ T o c w apart t l y (F-if h) = absurd (n y)

  pub no_none : Applies b names states k [] r
  no_none τ T o c w apart t l y f = elim f [ ]

  -- by the number of operands
  pub by_number : (n m : ℕ) (vs : List Value) → n ≡ m → Applies b names states k (take m vs) r → n ≤ 3 → Applies b names states k (take n vs) r
  by_number n m vs e h l = subst (λ (i : ℕ). Applies b names states k (take i vs) r) (sym e) h

  pub no_number : (n : ℕ) (vs : List Value) → ¬ (n ≡ 1) → ¬ (n ≡ 2) → ¬ (n ≡ 3) → n ≤ 3 → Applies b names states k (take n vs) r
  no_number n vs n1 n2 n3 l = let e : n ≡ 0 = omega arith in by_number n 0 vs e no_none l

-- no operator has more than three operands
pub three_at_most : {τ : View} {T : ℕ} {o : Op} {vs : List paper.Value} {c : Clause} {w : paper.Value} → F τ T o vs c w → length vs ≤ 3
three_at_most (F-arithmetic h) = omega arith
three_at_most (F-divide h) = omega arith
three_at_most (F-compare h) = omega arith
three_at_most (F-and h) = omega arith
three_at_most (F-or h) = omega arith
three_at_most (F-includes h) = omega arith
three_at_most (F-oneof h) = omega arith
three_at_most (F-if h) = omega arith
three_at_most (F-negate h) = omega arith
three_at_most (F-isknown h) = omega arith
three_at_most (F-not h) = omega arith
three_at_most (F-count h) = omega arith
three_at_most (F-sum h) = omega arith
three_at_most (F-extreme h) = omega arith
three_at_most (F-nth h) = omega arith
three_at_most (F-is-in h) = omega arith
