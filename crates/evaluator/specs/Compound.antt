-- A list or an application, from what is gathered of its operands. Law: it has the value of 9.1, 7 to 9. By the clause that fits.
use Rattle.std.specs.Prelude.{◌≡◌, refl, true, List, ◌∷◌, map, ℕ, suc, ◌≤◌, ◌<◌, length, take}
use Rattle.std.proofs.Common.{sym, ap, subst, ◌∙◌, arith}
use Rattle.paper_expressions.specs.Limits.{list_limit}
use Rattle.paper_expressions.specs.Values as paper
use Rattle.paper_expressions.specs.Values.{sequence}
use Rattle.paper_expressions.specs.Clauses.{Clause}
use Rattle.paper_expressions.specs.View.{View, Apart}
use Rattle.paper_expressions.specs.Operators.{Op, F}
use Rattle.paper_expressions.specs.Expressions.{Expr, Exprs, Atom, IntegerLit, FloatLit, StringLit, Paren, Listing, Apply, ε, ◌▸◌}
use Rattle.paper_expressions.specs.Evaluation.{Elements, elements_none, elements_more, Evaluates, listing, Values, values_none, values_more}
use Rattle.paper_expressions.proofs.Laws.WithinLimits as limits
use Rattle.paper_expressions.proofs.Laws.WithinLimits.{Held, Modest, listing_modest, apply_modest, AllModest, none_modest, EachLimited, all_limited}
use Rattle.paper_expressions.proofs.Laws.Promise as promise
use Rattle.parts.specs.Codes.{code, kind}
use Rattle.parts.specs.CodeRange.{operator_code}
use Rattle.parts.specs.Part.{number_of, operands}
use Rattle.values.specs.declared.value.Value.{Value}
use Rattle.values.specs.Meaning.{meaning_v}
use Rattle.operators.specs.Means.{meanings}
use Rattle.operators.specs.Comes.{lowered}
use Rattle.apply.specs.Tasks.{Tasks}
use Rattle.apply.specs.Applies.{Applies, three_at_most}
use Rattle.evaluator.specs.declared.operands.Operands.{Operands}
use Rattle.evaluator.specs.Lists.{tail_all, many_is}
use Rattle.evaluator.specs.Operands.{Gathers, three, all_slots}

-- r is made of the n operands o: a list, or what the operator gives
pub record CompoundOf (b tasks states : List ℕ) (k n : ℕ) (o : Operands) (r : Value) : Type 0 where
  pub list : k ≡ 5 → (r.many ≡ true) × (r.list ≡ o.list)
  pub applied : ¬ (k ≡ 5) → n ≤ 3 → Applies b tasks states k (take n (three o)) r

lowered_elements : {ws : List paper.Value} {l : List paper.Scalar} → Elements ws l → map lowered ws ≡ l
lowered_elements elements_none = refl
lowered_elements (elements_more {s} h) = ap (λ (l : List paper.Scalar). s ∷ l) (lowered_elements h)

same_number : (es : Exprs) → number_of es ≡ limits.size es
same_number ε = refl
same_number (e ▸ es) = ap suc (same_number es)

pub as_many : {τ : View} {T : ℕ} {es : Exprs} {ws : List paper.Value} → Values τ T es ws → length ws ≡ number_of es
as_many values_none = refl
as_many (values_more h hs) = ap suc (as_many hs)

pub modest_operands : (e : Expr) → Modest e → AllModest (operands e)
modest_operands (Atom a) m = none_modest
modest_operands (IntegerLit n) m = none_modest
modest_operands (FloatLit n) m = none_modest
modest_operands (StringLit s) m = none_modest
modest_operands (Paren e) m = none_modest
modest_operands (Listing es) (listing_modest l m) = m
modest_operands (Apply o es) (apply_modest m) = m

module _ (b tasks states : List ℕ) (k n : ℕ) (o : Operands) (r : Value) (made : CompoundOf b tasks states k n o r) {τ : View} {T : ℕ} (apart : Apart τ) (held : Held τ) (shows : Tasks b tasks states τ) where
  list_value : (es : Exprs) {cs : List Clause} {w : paper.Value} → k ≡ 5 → n ≡ number_of es → limits.size es ≤ list_limit → ((ws : List paper.Value) → Values τ T es ws → Gathers b n 0 ws o) → Evaluates τ T (Listing es) cs w → meaning_v b r ≡ w
  list_value es e c m g (listing {ws} hs h) =
      many_is b r (made.list e) ∙ ap sequence (tail_all b n o.list ((g ws hs).list (let q = same_number es in omega arith)) ∙ lowered_elements h)

  apply_value : (p : Op) (es : Exprs) {cs : List Clause} {w : paper.Value} → k ≡ code p → n ≡ number_of es → AllModest es → ((ws : List paper.Value) → Values τ T es ws → Gathers b n 0 ws o) → Evaluates τ T (Apply p es) cs w → meaning_v b r ≡ w
  apply_value p es {w} e c m g ev =
      let x = promise.operands τ T ev in
      let ws = x.0 in
      let hs = x.2 in
      let few = three_at_most x.3 in
      let many = as_many hs in
      let d = operator_code p in
      let same : length ws ≡ n = many ∙ sym c in
      let all : ws ≡ meanings b (take n (three o)) =
      all_slots b ws o.first o.second o.third few (g ws hs).slots ∙ ap (λ (j : ℕ). meanings b (take j (three o))) same in
      made.applied (λ z. absurd (omega arith)) (omega arith) τ T p x.1 w apart shows
      (subst EachLimited all (all_limited τ T hs held m)) e (subst (λ (vs : List paper.Value). F τ T p vs x.1 w) all x.3)

  pub compound_value : (e : Expr) {cs : List Clause} {w : paper.Value} → k ≡ kind e → ¬ (k < 5) → n ≡ number_of (operands e) → Modest e
      → ((ws : List paper.Value) → Values τ T (operands e) ws → Gathers b n 0 ws o) → Evaluates τ T e cs w → meaning_v b r ≡ w
  compound_value (Atom a) y l c m g ev = absurd (l (omega arith))
  compound_value (IntegerLit z) y l c m g ev = absurd (l (omega arith))
  compound_value (FloatLit z) y l c m g ev = absurd (l (omega arith))
  compound_value (StringLit s) y l c m g ev = absurd (l (omega arith))
  compound_value (Paren e) y l c m g ev = absurd (l (omega arith))
  compound_value (Listing es) y l c (listing_modest q m) g ev = list_value es y c q g ev
  compound_value (Apply p es) y l c (apply_modest m) g ev = apply_value p es y c m g ev
