-- Law: a plan that says what the guideline's structure is tells what the engine asks, of every table that is kept. By the laws of its columns.
use Rattle.std.specs.Prelude.{ℕ, ◌<◌, ◌≤◌, ◌≡◌, Bool, List, length}
use Rattle.std.proofs.Common.{arith}
use Rattle.paper_expressions.specs.View.{At}
use Rattle.paper_guideline.specs.Structure
use Structure.{Task, TopLevel, tasks, data_items}
use Rattle.paper_rows.specs.Table.{Table}
use Rattle.paper_rows.proofs.Laws.Lists.{below_at}
use Rattle.paper_rows.proofs.Laws.Lawful.{Lawful}
use Rattle.paper_engine.proofs.Laws.Kept.{Kept}
use Rattle.parts.specs.Part as Parts
use Rattle.waits.specs.Worked.{Worked}
use Rattle.review.specs.Changes.{tasks_in, Numbers}
use Rattle.planned.specs.Planned.{Planned}
use Rattle.plan_told.specs.Told.{Bounded, Told}
use Rattle.plan_told.proofs.TaskLaws as Tasks
use Rattle.plan_told.proofs.WaitLaws as Waits
use Rattle.plan_told.proofs.SourceLaws as Sources
use Rattle.plan_told.proofs.ConditionLaws as Conditions
use Rattle.plan_told.proofs.AssignmentLaws as Assigned
use Rattle.plan_told.proofs.NamedLaws as Named

module _ {g : List TopLevel} {p : Parts.Table} {f : List ℕ} {w : List (List Bool)} (lawful : Lawful g) (bounded : Bounded g) (told : Told g p f w) where
  few_tasks : length (tasks g) ≤ 32
  few_tasks = bounded.sized.few_tasks

  few_items : length (data_items g) ≤ 64
  few_items = bounded.sized.few_items

  number : tasks_in f ≡ length (tasks g)
  number = told.tasks.number

  below : {T : ℕ} → T < tasks_in f → T < 32
  below l = let e = number in let k = few_tasks in omega arith

  its : {T : ℕ} → T < tasks_in f → (k : Task) × At (tasks g) T k
  its {T} l = let e = number in below_at (tasks g) T (omega arith)

  numbers : Numbers f
  numbers = record {
    tasks = (let e = number in let k = few_tasks in omega arith);
    sources = λ {T} {U} l u. Sources.sources_rise told.sources (its {T = T} (omega arith)).1 (its u).1 l;
    assignments = λ {T} {U} l u. Assigned.assignments_rise told.assignments (its {T = T} (omega arith)).1 (its u).1 l;
    most_sources = λ {T} l. (let a = Sources.sources_most told.sources (its l).1 in let b = bounded.sized.few_sources in omega arith);
    most_assignments = λ {T} l. (let a = Assigned.assignments_most told.assignments (its l).1 in let b = bounded.sized.few_assignments in omega arith);
  }

  worked : (t : Table) → Kept g t → Worked f w (tasks_in f) t
  worked t kept = record {
    number = numbers.tasks;
    ids = Tasks.ids lawful told.tasks kept;
    parents = λ l. Tasks.parents lawful told.tasks kept few_tasks l;
    triggers = λ l. Tasks.triggers lawful told.tasks kept few_tasks l;
    terminals = λ l. Tasks.terminals lawful told.tasks kept few_tasks l;
    waits = λ {T} l. Waits.waits lawful few_tasks told.waits kept T (below l);
    confirms = λ l. Tasks.confirms lawful told.tasks kept few_tasks l;
    plans = λ l. Tasks.classes lawful told.tasks kept Structure.plan l;
    actions = λ l. Tasks.classes lawful told.tasks kept Structure.action l;
    enquiries = λ l. Tasks.classes lawful told.tasks kept Structure.enquiry l;
    sourced = λ l. Sources.sourced lawful few_items told.sources kept (its l).1;
    ordered = λ l. told.order.every (let e = number in omega arith);
    tasks = λ {k} l. (let e = number in let a = told.order.a_task l in omega arith);
    first = λ l e. told.order.first l e;
    rest = λ l n. Tasks.no_parents lawful told.tasks kept few_tasks l n;
    past = λ n. Tasks.past lawful told.tasks kept n;
    no_optional = Tasks.no_optional lawful told.tasks kept;
  }

  pub planned : Planned g p f w
  planned = record {
    numbers = numbers;
    worked = worked;
    targets = λ l. Assigned.targets lawful told.assignments few_items l;
    preconditions = λ t kept T l. Conditions.preconditions bounded kept told.preconditions T (below l);
    wait_conditions = λ t kept T l. Conditions.wait_conditions bounded kept told.wait_conditions T (below l);
    terminates = λ t kept T l. Conditions.terminates bounded kept told.terminates T (below l);
    assigned = λ t kept T l. Assigned.assigned lawful told.assignments bounded kept (its l).1;
    items = λ t kept. Named.items lawful told.names kept few_items;
    named_tasks = λ t kept. Named.named_tasks lawful told.names kept few_tasks number;
    task-names = λ t kept h. Named.task-names lawful told.names kept few_tasks number h;
    long = told.names.long;
    triggers = λ t kept l h. Named.trigger_texts lawful told.names kept h;
    terminals = λ t kept l. Tasks.terminal_rows lawful told.tasks kept few_tasks l;
    confirmatories = λ t kept l. Tasks.confirmatory_rows lawful told.tasks kept few_tasks l;
    asserted = λ t kept l h. Assigned.asserted lawful told.assignments bounded kept (its l).1 h;
    source_ids = λ t kept n. Sources.source_ids lawful told.sources kept number bounded.rooted n;
    mandatories = λ t kept l. Sources.mandatory_rows lawful told.sources kept number bounded.rooted l;
  }
