-- What one row of the Changes table adds to the scratch of new values: nothing, or the value of its assignment. By the tests that the code makes.
use Rattle.std.specs.Prelude.{ℕ, ◌+◌, ◌*◌, ◌<◌, ◌≤◌, ◌≡◌, refl, List, get_or, length}
use Rattle.std.proofs.Common.{arith, sym, ap, subst, ◌∙◌}
use Rattle.paper_guideline.specs.Limits.{depth_limit}
use Rattle.parts.specs.Part.{table}
use Rattle.values.specs.declared.value.Value.{Value}
use Rattle.evaluator.specs.Published.{Published}
use Rattle.operations.specs.Rows.{target_at}
use Rattle.truths.specs.Part.{shown_by}
use Rattle.assigning.specs.Gather.{Gathers}
use Rattle.planned.specs.Planned.{assigned_task, assigned_end}

pub record TakesRow (x b f s o : List ℕ) (i : ℕ) (news news' texts texts' : List ℕ) : Type 0 where
  pub size : length news' ≡ length news
  pub room : length texts' ≡ length texts
  pub skips : ¬ (get_or o (4 * i + 1) 0 ≡ 776) → (news' ≡ news) × (texts' ≡ texts)
  pub takes : (a : ℕ) → get_or o (4 * i + 1) 0 ≡ 776 → get_or o (4 * i + 3) 0 ≡ a → a < 256 → target_at f a < 64
      → (v : Value) × Published (table x b) (shown_by f s) (assigned_task f a) (assigned_end f a) depth_limit v × Gathers b v (target_at f a) news news' texts texts'

module _ (x b f s o : List ℕ) (i : ℕ) (news texts : List ℕ) where
  pub no_value : {k : ℕ} → k ≡ get_or o (4 * i + 1) 0 → ¬ (k ≡ 776) → TakesRow x b f s o i news news texts texts
  no_value e n = record { size = refl; room = refl; skips = λ z. (refl, refl); takes = λ a p. absurd (n (e ∙ p)) }

  pub no_number : {a : ℕ} → a ≡ get_or o (4 * i + 3) 0 → 256 ≤ a → TakesRow x b f s o i news news texts texts
  no_number e n = record { size = refl; room = refl; skips = λ z. (refl, refl); takes = λ c p q l. absurd (let z : ⊥ = omega arith in z) }

  pub no_item : {a d : ℕ} → a ≡ get_or o (4 * i + 3) 0 → d ≡ target_at f a → 64 ≤ d → TakesRow x b f s o i news news texts texts
  no_item {a} {d} e g n =
      record { size = refl; room = refl; skips = λ z. (refl, refl); takes = λ c p q l m. absurd (let y : target_at f a ≡ target_at f c = ap (target_at f) (e ∙ q) in let z : ⊥ = omega arith in z) }

  pub one_value : (news' texts' : List ℕ) (v : Value) {k a d T q : ℕ} → k ≡ get_or o (4 * i + 1) 0 → k ≡ 776 → a ≡ get_or o (4 * i + 3) 0 → d ≡ target_at f a → T ≡ assigned_task f a → q ≡ assigned_end f a
      → Published (table x b) (shown_by f s) T q depth_limit v → Gathers b v d news news' texts texts' → TakesRow x b f s o i news news' texts texts'
  one_value news' texts' v {k} {a} {d} {T} {q} e n j g y z p h =
      record { size = h.elsewhere.size; room = h.elsewhere.room; skips = λ r. absurd (r (sym e ∙ n)); takes = takes }
    where
      takes : (c : ℕ) → get_or o (4 * i + 1) 0 ≡ 776 → get_or o (4 * i + 3) 0 ≡ c → c < 256 → target_at f c < 64
          → (u : Value) × Published (table x b) (shown_by f s) (assigned_task f c) (assigned_end f c) depth_limit u × Gathers b u (target_at f c) news news' texts texts'
      takes c p' r l m =
          let ac : a ≡ c = j ∙ r in (
            v,
            subst (λ (w : ℕ). Published (table x b) (shown_by f s) w (assigned_end f c) depth_limit v) (y ∙ ap (assigned_task f) ac) (subst (λ (w : ℕ). Published (table x b) (shown_by f s) T w depth_limit v) (z ∙ ap (assigned_end f) ac) p),
            subst (λ (w : ℕ). Gathers b v w news news' texts texts') (g ∙ ap (target_at f) ac) h,
          )
