-- Law: what the plan says of preconditions, wait conditions and terminate conditions is what their rows hold. By cases on the row, once for all three.
use Rattle.std.specs.Prelude.{ℕ, ◌+◌, ◌<◌, ◌≡◌, refl, List, get_or, length}
use Rattle.std.proofs.Common.{arith, sym, ap, subst, ◌∙◌}
use Rattle.std.proofs.Math.Option.{none, some}
use Rattle.paper_expressions.specs.Expressions.{Expr}
use Rattle.paper_expressions.specs.View.{At, at_first}
use Rattle.paper_expressions.specs.Within.{Modest}
use Rattle.paper_expressions.proofs.Laws.Parentheses.{bare}
use Rattle.paper_guideline.specs.Structure
use Structure.{Outermost, Attribute, TopLevel, tasks}
use Rattle.paper_guideline.specs.Parts.{Typed, condition, expressions}
use Rattle.paper_guideline.specs.Limits.{depth_limit}
use Rattle.paper_rows.specs.Table
use Table.{task, Component, ◌№◌, Property, RowValue, expression_is, Table}
use Rattle.paper_rows.specs.Load
use Load.{SetTaskAttribute, task_4, Adds, attribute_5_precondition, attribute_5_wait_condition, attribute_5_terminate}
use Rattle.paper_guideline.specs.Parts.{of_attribute}
use Rattle.paper_rows.proofs.Laws.Lists.{at_below, at_map}
use Rattle.paper_rows.proofs.Laws.Lawful.{defined}
use Rattle.paper_rows.proofs.Laws.BareLaws.{bare_typed, bare_expressions}
use Rattle.paper_rows.proofs.Laws.Sized.{bare_sized}
use Rattle.paper_engine.proofs.Laws.Kept.{Kept, Moving, adds}
use Rattle.paper_engine.proofs.Laws.Attached.{attached}
use Rattle.parts.specs.Part.{Ends, Within}
use Rattle.parts.specs.Part as Parts
use Rattle.parts.specs.Operands.{size_pos}
use Rattle.truths.specs.Truth.{Condition}
use Rattle.plan_told.specs.Told.{Bounded, ConditionsTold}
use Rattle.plan_told.proofs.RowLaws.{by_cases, not_added}

-- an expression of the guideline, without its parentheses
pub modest_tree : {g : List TopLevel} {i : ℕ} {x : Typed} → Bounded g → At (expressions g) i x → Modest (bare x.expression.tree)
modest_tree {g} {i} {x} b h = (bare_sized b.sized).modest (subst (λ (l : List Typed). At l i (bare_typed x)) (sym (bare_expressions g)) (at_map bare_typed h))

-- no expression ends at 0
pub ends_later : {p : Parts.Table} {q : ℕ} {e : Expr} → Ends p q e → ¬ (q ≡ 0)
ends_later {e = e} h z = let a = h.spans in let b = size_pos e in omega arith

pub set_below : {g : List TopLevel} {T : ℕ} {a : Attribute} → SetTaskAttribute g T a → T < length (tasks g)
set_below (task_4 h q) = at_below (defined h)

-- a kind of condition: its attribute, its property, and that the rows of the one are put by the other
record Kind (g : List TopLevel) (kind : Outermost → Attribute) (p : Property) : Type 0 where
  pub put : {T : ℕ} {x : Outermost} → SetTaskAttribute g T (kind x) → Adds g (task № T) p (expression_is x.tree)
  pub by : {T : ℕ} {r : RowValue} → Adds g (task № T) p r → (x : Outermost) × SetTaskAttribute g T (kind x) × (r ≡ expression_is x.tree)
  pub role : (T : ℕ) (x : Outermost) → At (of_attribute T (kind x)) 0 (record { expression = x; role = condition; attached = T })
  pub fixed : {c : Component} → ¬ Moving c p

precondition_fixed : {c : Component} → ¬ Moving c Table.precondition
precondition_fixed h = elim h [ ]

precondition_kind : (g : List TopLevel) → Kind g Structure.precondition Table.precondition
precondition_kind g = record { put = λ h. attribute_5_precondition h; by = by; role = λ T x. at_first; fixed = precondition_fixed }
  where
    by : {T : ℕ} {r : RowValue} → Adds g (task № T) Table.precondition r → (x : Outermost) × SetTaskAttribute g T (Structure.precondition x) × (r ≡ expression_is x.tree)
    by (attribute_5_precondition {e} h) = (e, h, refl)

wait_fixed : {c : Component} → ¬ Moving c Table.wait_condition
wait_fixed h = elim h [ ]

wait_kind : (g : List TopLevel) → Kind g Structure.wait_condition Table.wait_condition
wait_kind g = record { put = λ h. attribute_5_wait_condition h; by = by; role = λ T x. at_first; fixed = wait_fixed }
  where
    by : {T : ℕ} {r : RowValue} → Adds g (task № T) Table.wait_condition r → (x : Outermost) × SetTaskAttribute g T (Structure.wait_condition x) × (r ≡ expression_is x.tree)
    by (attribute_5_wait_condition {e} h) = (e, h, refl)

terminate_fixed : {c : Component} → ¬ Moving c Table.terminate_condition
terminate_fixed h = elim h [ ]

terminate_kind : (g : List TopLevel) → Kind g Structure.terminate Table.terminate_condition
terminate_kind g = record { put = λ h. attribute_5_terminate h; by = by; role = λ T x. at_first; fixed = terminate_fixed }
  where
    by : {T : ℕ} {r : RowValue} → Adds g (task № T) Table.terminate_condition r → (x : Outermost) × SetTaskAttribute g T (Structure.terminate x) × (r ≡ expression_is x.tree)
    by (attribute_5_terminate {e} h) = (e, h, refl)

module _ {g : List TopLevel} {f : List ℕ} {p : Parts.Table} {t : Table} (bounded : Bounded g) (kept : Kept g t) where
  module _ {d : ℕ} {kind : Outermost → Attribute} {k : Property} (is : Kind g kind k) (told : ConditionsTold g p f d kind) where
    condition_at : (T : ℕ) → T < 32 → Condition p (get_or f (d + T) 0) (t (task № T) k)
    condition_at T l = record { none_there = none_there; there = there }
      where
        none_there : get_or f (d + T) 0 ≡ 0 → (e : Expr) → ¬ (t (task № T) k ≡ some (expression_is e))
        none_there z e h = let a = is.by (adds kept is.fixed h) in ends_later (told.ends a.1) z

        there : ¬ (get_or f (d + T) 0 ≡ 0) → (e : Expr) × (t (task № T) k ≡ some (expression_is e)) × Ends p (get_or f (d + T) 0) (bare e) × Within depth_limit (bare e) × Modest (bare e)
        there n = by_cases (t (task № T) k)
            (λ z. absurd (n (told.none l (λ x h. not_added kept is.fixed z (is.put h)))))
            (λ r h. let a = is.by (adds kept is.fixed h) in
            let m = attached a.1 (is.role T a.0) in
            (a.0.tree, h ∙ ap some a.2, told.ends a.1, bounded.deep m.1, modest_tree bounded m.1))

  pub preconditions : ConditionsTold g p f 520 Structure.precondition → (T : ℕ) → T < 32 → Condition p (get_or f (520 + T) 0) (t (task № T) Table.precondition)
  preconditions told T l = condition_at (precondition_kind g) told T l

  pub wait_conditions : ConditionsTold g p f 552 Structure.wait_condition → (T : ℕ) → T < 32 → Condition p (get_or f (552 + T) 0) (t (task № T) Table.wait_condition)
  wait_conditions told T l = condition_at (wait_kind g) told T l

  pub terminates : ConditionsTold g p f 584 Structure.terminate → (T : ℕ) → T < 32 → Condition p (get_or f (584 + T) 0) (t (task № T) Table.terminate_condition)
  terminates told T l = condition_at (terminate_kind g) told T l
