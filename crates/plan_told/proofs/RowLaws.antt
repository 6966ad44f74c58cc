-- The rows of load that stay: by cases on the cell of the table, and what put a row there. By the clauses of section 12.
use Rattle.std.specs.Prelude.{ℕ, ◌≡◌, refl, Bool, true, false, List}
use Rattle.std.proofs.Common.{arith}
use Rattle.std.proofs.Math.Option.{Option, none, some}
use Rattle.paper_expressions.specs.Expressions.{Expr}
use Rattle.paper_expressions.specs.View.{At}
use Rattle.paper_expressions.proofs.Laws.Search.{no_clash}
use Rattle.paper_guideline.specs.Structure
use Structure.{Task, TopLevel, tasks}
use Rattle.paper_guideline.specs.Parts as Parts
use Rattle.paper_guideline.specs.Names.{component_is_root}
use Rattle.paper_rows.specs.Table
use Table.{Component, Property, RowValue, expression_is, text_row, truth_row}
use Rattle.paper_rows.specs.Load
use Load.{InstantiateComponent, task_5, Adds}
use Rattle.paper_rows.proofs.Laws.Lawful.{Lawful, defined}
use Rattle.paper_rows.proofs.Laws.Lists.{each_at}
use Rattle.paper_engine.proofs.Laws.Kept.{Kept, Moving, has}
use Rattle.planned.specs.Planned.{answered}
use Rattle.plan_told.specs.Told.{answer}

pub by_cases : {A P : Type 0} (o : Option A) → (o ≡ none → P) → ((r : A) → o ≡ some r → P) → P
by_cases none f h = f refl
by_cases (some r) f h = h r refl

pub none_some : {A : Type 0} {o : Option A} {r : A} → o ≡ none → ¬ (o ≡ some r)
none_some e h = no_clash (cc)

pub same_some : {A : Type 0} {o : Option A} {a b : A} → o ≡ some a → o ≡ some b → a ≡ b
same_some e h = cc

pub same_truth : {a b : Bool} → truth_row a ≡ truth_row b → a ≡ b
same_truth e = cc

pub same_text : {a b : List ℕ} → text_row a ≡ text_row b → a ≡ b
same_text e = cc

pub same_expression : {a b : Expr} → expression_is a ≡ expression_is b → a ≡ b
same_expression e = cc

pub answer_yes : (b : Bool) → answer b ≡ 1 → b ≡ true
answer_yes true e = refl
answer_yes false e = absurd (omega arith)

-- the row that a cell stands for
pub answered_as : (b : Bool) → answered (answer b) ≡ some (truth_row b)
answered_as true = refl
answered_as false = refl

-- a cell that holds no row, and that doesn't move, is added by no step
pub not_added : {g : List TopLevel} {t : Table.Table} {c : Component} {p : Property} {r : RowValue} → Kept g t → ¬ Moving c p → t c p ≡ none → ¬ Adds g c p r
not_added kept n e h = none_some e (has kept n h)

pub component_task : {g : List TopLevel} {P T : ℕ} {a : Parts.Component} → InstantiateComponent g P a T → (k : Task) × At (tasks g) T k
component_task (task_5 {t} i q j e) = (t, j)

pub component_plan : {g : List TopLevel} {P T : ℕ} {a : Parts.Component} → InstantiateComponent g P a T → (k : Task) × At (tasks g) P k
component_plan (task_5 {p} i q j e) = (p, defined i)

-- the root is a component of none
pub no_root : {g : List TopLevel} {P : ℕ} {a : Parts.Component} → Lawful g → ¬ InstantiateComponent g P a 0
no_root lawful (task_5 i q j e) = lawful.names _ (component_is_root (each_at Parts.components_of (defined i) q).1 j e)
