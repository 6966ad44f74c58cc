-- Law: the expressions that load puts into rows are expressions of the guideline, attached to their tasks; so they have types.
use Rattle.std.specs.Prelude.{ℕ, zero, suc, ◌+◌, ◌≡◌, refl, ◌⊎◌, List, [], ◌∷◌, ◌++◌, map}
use Rattle.std.proofs.Common.{arith, sym, ap, subst, ◌∙◌}
use Rattle.std.proofs.Math.Option.{some}
use Rattle.paper_expressions.specs.Types.{Ty, TruthValue, inferred, Promotes}
use Rattle.paper_expressions.specs.Clauses.{Clause}
use Rattle.paper_expressions.specs.View.{Item, At, at_first, at_later, ResolveData}
use Rattle.paper_expressions.specs.Expressions.{Expr, HasType}
use Rattle.paper_guideline.specs.Structure
use Structure.{Name, Outermost, Placed, Assignment, Generic, caption, description, SourceAttribute, source_generic, mandatory}
use Structure.{Attribute, generic, precondition, wait_condition, terminate, postcondition, trigger, component, source, Task, TopLevel, task, data_item, tasks}
use Rattle.paper_guideline.specs.Parts.{Role, condition, wording, assigned_to, Typed, expressions}
use Rattle.paper_guideline.specs.Refusals.{Fitting, fits_condition, fits_assigned, declared_items}
use Rattle.paper_rows.specs.Table as Table
use Rattle.paper_rows.specs.Table.{◌№◌, Assigns, expression_is, assertion_is}
use Rattle.paper_rows.specs.Load as Load
use Load.{InstantiateTask, SetTaskAttribute, task_4, assigns, Adds, attribute_5_precondition, attribute_5_wait_condition, attribute_5_terminate, attribute_5_postcondition}
use Rattle.paper_rows.proofs.Laws.Lawful.{Lawful, defined}
use Rattle.paper_guideline.specs.Parts.{typed, of_generic, of_source, of_attribute, expressions_from}
use Rattle.paper_rows.proofs.Laws.Lists.{at_left, at_right, each, each_at, map_at}

-- ---- where an expression stands among all

-- an expression of the c-th task from n is attached to the task n + c
of_task : (n : ℕ) (g : List TopLevel) {c j i : ℕ} {k : Task} {a : Placed Attribute} {x : Typed}
    → At (tasks g) c k → At k.attributes j a → At (of_attribute (n + c) a.what) i x → (m : ℕ) × At (expressions_from n g) m x
of_task n [] h q r = absurd (elim h [ ])
of_task n (task k ∷ g) {i} {a} {x} at_first q r =
    let s = each_at (λ (b : Placed Attribute). of_attribute n b.what) q (subst (λ (z : ℕ). At (of_attribute z a.what) i x) (let z : n + 0 ≡ n = omega arith in z) r) in
    (s.0, at_left (expressions_from (suc n) g) s.1)
of_task n (task k ∷ g) {i} {a} {x} (at_later {i = c} h) q r =
    let s = of_task (suc n) g h q (subst (λ (z : ℕ). At (of_attribute z a.what) i x) (let z : n + suc c ≡ suc n + c = omega arith in z) r) in
    (_, at_right (each (λ (b : Placed Attribute). of_attribute n b.what) k.attributes) s.1)
of_task n (data_item d ∷ g) h q r =
    let s = of_task n g h q r in
    (_, at_right (each (λ (b : Placed Generic). of_generic 0 b.what) d.attributes) s.1)

pub attached : {g : List TopLevel} {c i : ℕ} {a : Attribute} {x : Typed} → SetTaskAttribute g c a → At (of_attribute c a) i x → (m : ℕ) × At (expressions g) m x
attached {g} {c} {i} {a} {x} (task_4 h q) r = of_task 0 g (defined h) q (subst (λ (z : ℕ). At (of_attribute z a) i x) (let z : c ≡ 0 + c = omega arith in z) r)

-- ---- their types

fitting_condition : {v : _} {x : Typed} → Fitting v x condition → HasType v x.attached x.expression.tree TruthValue
fitting_condition (fits_condition h) = h

-- an assigned expression's type is that of the item which its name resolves to, or promotes to it
pub record Assigned (g : List TopLevel) (T : ℕ) (a : Assigns) : Type 0 where
  pub item : Item
  pub number : ℕ
  pub clause : Clause
  pub type : Ty
  pub resolves : ResolveData (declared_items g) T a.target clause (some number)
  pub at : At (declared_items g).items number item
  pub has_type : HasType (declared_items g) T a.assigned type
  pub fits : (type ≡ inferred item.declared) ⊎ Promotes type (inferred item.declared)

fitting_assigned : {g : List TopLevel} {x : Typed} {n : Name} → Fitting (declared_items g) x (assigned_to n)
    → Assigned g x.attached (record { target = n.spelt; assigned = x.expression.tree })
fitting_assigned (fits_assigned r h k f) = record { item = _; number = _; clause = _; type = _; resolves = r; at = h; has_type = k; fits = f }

module _ {g : List TopLevel} (lawful : Lawful g) where
  condition_typed : {T : ℕ} {a : Attribute} {x : Outermost} → SetTaskAttribute g T a
      → At (of_attribute T a) 0 (record { expression = x; role = condition; attached = T }) → HasType (declared_items g) T x.tree TruthValue
  condition_typed h r = fitting_condition (lawful.types (attached h r).1)

  pub precondition_typed : {T : ℕ} {e : Expr} → Adds g (Table.task № T) Table.precondition (expression_is e) → HasType (declared_items g) T e TruthValue
  precondition_typed (attribute_5_precondition h) = condition_typed h at_first

  pub wait_typed : {T : ℕ} {e : Expr} → Adds g (Table.task № T) Table.wait_condition (expression_is e) → HasType (declared_items g) T e TruthValue
  wait_typed (attribute_5_wait_condition h) = condition_typed h at_first

  pub terminate_typed : {T : ℕ} {e : Expr} → Adds g (Table.task № T) Table.terminate_condition (expression_is e) → HasType (declared_items g) T e TruthValue
  terminate_typed (attribute_5_terminate h) = condition_typed h at_first

  assignment_typed : {T i : ℕ} {l : List Assignment} {a : Assignment} → SetTaskAttribute g T (postcondition l) → At l i a → Assigned g T (assigns a)
  assignment_typed {T} {a} h q =
      let r = each_at (λ (b : Assignment). typed T (assigned_to b.target) b.value) q at_first in
      fitting_assigned (lawful.types (attached h r.1).1)

  pub assigned_typed : {T i : ℕ} {l : List Assigns} {a : Assigns} → Adds g (Table.task № T) Table.postcondition (assertion_is l) → At l i a → Assigned g T a
  assigned_typed {T} (attribute_5_postcondition {l} h) q =
      let k = map_at assigns l q in
      subst (Assigned g T) k.2 (assignment_typed h k.1)

-- where an assigned expression stands among those of the guideline
pub assigned_at : {g : List TopLevel} {T i : ℕ} {l : List Assigns} {a : Assigns} → Adds g (Table.task № T) Table.postcondition (assertion_is l) → At l i a
    → (x : Typed) × ((m : ℕ) × At (expressions g) m x) × ((x.attached ≡ T) × (x.expression.tree ≡ a.assigned))
assigned_at {g} {T} {a} (attribute_5_postcondition {l} h) q =
    let k = map_at assigns l q in
    let r = each_at (λ (b : Assignment). typed T (assigned_to b.target) b.value) k.1 at_first in
    (record { expression = k.0.value; role = assigned_to k.0.target; attached = T }, attached h r.1, (refl, ap (λ (x : Assigns). x.assigned) k.2))
