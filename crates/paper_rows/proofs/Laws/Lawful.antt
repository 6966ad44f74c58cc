-- What the laws ask of a guideline that loads; that what loads has it is LoadLaws'.
use Rattle.std.specs.Prelude.{ℕ, List}
use Rattle.paper_expressions.specs.View.{At}
use Rattle.paper_guideline.specs.Structure.{TopLevel, Task, tasks}
use Rattle.paper_guideline.specs.Parts.{Typed, expressions}
use Rattle.paper_guideline.specs.Names.{NameBreach}
use Rattle.paper_guideline.specs.Refusals.{Fitting, declared_items}
use Rattle.paper_rows.specs.Load.{InstantiateTask, load_5, component_6}

pub record Lawful (g : List TopLevel) : Type 0 where
  -- every task is reached from the root
  pub reached : {c : ℕ} {k : Task} → At (tasks g) c k → InstantiateTask g k c
  pub names : (p : ℕ) → ¬ NameBreach g p
  pub types : {i : ℕ} {x : Typed} → At (expressions g) i x → Fitting (declared_items g) x x.role

pub defined : {g : List TopLevel} {t : Task} {c : ℕ} → InstantiateTask g t c → At (tasks g) c t
defined (load_5 h) = h
defined (component_6 h k) = k
