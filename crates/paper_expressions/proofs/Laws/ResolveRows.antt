-- 9.6, clause 2, worked: two tasks have the name, and one of them lies below a child of the task that asks. By going through the four tasks.
use Rattle.std.specs.Prelude.{◌≡◌, refl, List, [], ◌∷◌, ℕ, zero, suc}
use Rattle.std.proofs.Common.{ap, subst, ◌∙◌, arith}
use Rattle.std.proofs.Math.Option.{Option, none, some}
use Rattle.paper_expressions.specs.Bytes.{bytes}
use Rattle.paper_expressions.specs.Clauses.{Clause, §9·6-2, §9·7-1}
use Rattle.paper_expressions.specs.View.{View, Task, At, at_first, at_later, ParentPlan, IsAncestor, ancestor_1, ancestor_2, Named, ResolveTask, resolve_task_2}
use Rattle.paper_expressions.proofs.Laws.Search.{no_clash, at_f, at_only}

abbrev task : List ℕ → ℕ → Task
task n p = record { name = some n; parent = some p; state = none }

-- the root, 0; its children 1, named p, and 3, named a; and 2, named a, a child of 1
abbrev family : View
family = record {
  items = [];
  tasks = record { name = none; parent = none; state = none } ∷ task (bytes "p") 0 ∷ task (bytes "a") 1 ∷ task (bytes "a") 0 ∷ [];
}

-- ---- the tasks that have the name, and who is whose ancestor

abbrev parent_row : Option Task → Option ℕ
parent_row none = none
parent_row (some t) = t.parent

parent_is : {c p : ℕ} → ParentPlan family c p → parent_row (at_f family.tasks c) ≡ some p
parent_is h = ap parent_row (at_only h.at) ∙ h.row

-- the children of 0, and the child of 1
data Child : ℕ → ℕ → Type 0 where
  of_root : Child 1 0
  of_first : Child 2 1
  other_of_root : Child 3 0

child : {p : ℕ} (c : ℕ) → parent_row (at_f family.tasks c) ≡ some p → Child c p
child zero e = absurd (no_clash (cc))
child (suc zero) e = subst (Child 1) (cc) of_root
child (suc (suc zero)) e = subst (Child 2) (cc) of_first
child (suc (suc (suc zero))) e = subst (Child 3) (cc) other_of_root
child (suc (suc (suc (suc c)))) e = absurd (no_clash (cc))

data Under : ℕ → ℕ → Type 0 where
  children : {p c : ℕ} → Child c p → Under p c
  grandchild : Under 0 2

under_child : {p q c : ℕ} → Under p q → Child c q → Under p c
under_child (children of_root) of_first = grandchild
under_child {c = c} (children of_first) x10 = elim x10 [ ]
under_child {c = c} (children other_of_root) x11 = elim x11 [ ]
under_child {c = c} grandchild x5 = elim x5 [ ]

under : {p c : ℕ} {k : Clause} → IsAncestor family p c k → Under p c
under (ancestor_1 {t2} h) = children (child t2 (parent_is h))
under (ancestor_2 {t2} n g h) = under_child (under g) (child t2 (parent_is h))

childless : {c : ℕ} → ¬ Under 3 c
childless (children h) = elim h [ ]

-- below a child of the root
sole : {p c : ℕ} → Child p 0 → Under p c → (p ≡ 1) × (c ≡ 2)
sole of_root (children of_first) = (refl, refl)
sole other_of_root u = absurd (childless u)

named : (c : ℕ) (p : ℕ) → At family.tasks c (task (bytes "a") p) → Named family (bytes "a") c
named c p h = record { task = task (bytes "a") p; name = bytes "a"; at = h; row = refl; alike = refl }

pub by_ancestor : ResolveTask family 0 (bytes "a") §9·6-2 (some 2)
by_ancestor = resolve_task_2 {p = 1}
    (λ d s. let e = s.only 2 (named 2 1 (at_later (at_later at_first))) in let f = s.only 3 (named 3 0 (at_later (at_later (at_later at_first)))) in omega arith)
    (record {
      below = record {
        parent = record { task = task (bytes "p") 0; at = at_later at_first; row = refl };
        named = named 2 1 (at_later (at_later at_first));
        clause = §9·7-1;
        ancestor = ancestor_1 (record { task = task (bytes "a") 1; at = at_later (at_later at_first); row = refl });
      };
      only = λ q d b. sole (child q (parent_is b.parent)) (under b.ancestor);
    })
