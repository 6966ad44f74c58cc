-- Law: the plan that is worked out of the tables of a guideline that loads tells what the engine asks of every table that calls and cycles leave (`plans`, `plans-loaded`).
-- By what the rows write, column by column, and by what loading gives.
use Rattle.std.specs.Prelude.{ℕ, ◌≤◌, ◌≡◌, refl, Bool, List, length}
use Rattle.std.proofs.Common.{arith}
use Rattle.paper_guideline.specs.Structure.{TopLevel}
use Rattle.paper_guideline.specs.Refusals.{Read, Answers, loads}
use Rattle.paper_rows.specs.Bare.{bare_guideline}
use Rattle.paper_rows.proofs.Laws.Lawful.{Lawful}
use Rattle.paper_rows.proofs.Laws.LoadLaws.{lawful}
use Rattle.paper_rows.proofs.Laws.BareLaws.{bare_lawful}
use Rattle.parts.specs.Part.{table}
use Rattle.guideline_rows.specs.Rows.{flatten}
use Rattle.guideline_rows.specs.Encoded.{text_of, Encoded}
use Rattle.guideline_rows.specs.InLimits.{InLimits}
use Rattle.guideline_rows.specs.LimitLaws.{in_limits}
use Rattle.row_tests.specs.Table.{row_limit}
use Rattle.planned.specs.Planned.{Plans, own_texts}
use Rattle.plan.specs.Writes.{outline}
use Rattle.plan.specs.Filled.{Fit, Filled}
use Rattle.plan_told.specs.Told.{Bounded}
use Rattle.plan_told.proofs.PlannedLaws.{planned}
use Rattle.plan_rows.specs.ReadLaws.{tasks_in_all, items_in_all}
use Rattle.plan_law.specs.Encodes.{reads}
use Rattle.plan_law.specs.Loaded.{unbroken, bounded_loaded, few_loaded, short_loaded}
use Rattle.plan_law.specs.TaskColumns.{tasks_told}
use Rattle.plan_law.specs.OrderColumn.{order_told}
use Rattle.plan_law.specs.WaitColumns.{waits_told}
use Rattle.plan_law.specs.SourceColumns.{sources_told}
use Rattle.plan_law.specs.ConditionColumns.{preconditions_told, wait_conditions_told, terminates_told}
use Rattle.plan_law.specs.AssignmentColumns.{assignments_told}
use Rattle.plan_law.specs.NameColumns.{names_told}

-- ---- the law, of tables that encode a guideline within the limits

pub plans : (g : List TopLevel) {x q b f : List ℕ} {w : List (List Bool)} {n : ℕ} → Encoded (flatten g) x (table q b) → InLimits (flatten g) → n ≡ length (flatten g) → n ≤ row_limit → length (text_of (flatten g)) ≤ own_texts
    → Lawful (bare_guideline g) → Bounded (bare_guideline g) → Filled x n b f w → Plans (bare_guideline g) q b f w
plans g encoded limits count few short fine bounded filled c same =
    let r = reads g c encoded limits count few short same in
    let h = filled.held in
    let z = bounded.sized in
    let t = tasks_told fine z.few_tasks r h in
    planned fine bounded (record {
      tasks = t;
      order = order_told fine z.few_tasks bounded.rooted r h t;
      waits = waits_told fine z.few_tasks r filled.marked;
      sources = sources_told fine z.few_tasks z.few_sources r h;
      preconditions = preconditions_told fine z.few_tasks r h;
      wait_conditions = wait_conditions_told fine z.few_tasks r h;
      terminates = terminates_told fine z.few_tasks r h;
      assignments = assignments_told fine z.few_tasks z.few_assignments r h;
      names = names_told fine z.few_tasks z.few_items r h;
    })

-- the rows are those of few tasks and data items, as filling the plan asks
pub fit : (g : List TopLevel) {x q b : List ℕ} {n : ℕ} → Encoded (flatten g) x (table q b) → InLimits (flatten g) → n ≡ length (flatten g) → n ≤ row_limit → length (text_of (flatten g)) ≤ own_texts
    → Bounded (bare_guideline g) → Fit (outline x n b)
fit g {b = b} encoded limits count few short bounded =
    let r = reads g b encoded limits count few short (λ i l. refl) in
    let t = tasks_in_all r in
    let d = items_in_all r in
    let l = bounded.sized.few_tasks in
    let m = bounded.sized.few_items in
    record { rows = few; tasks = omega arith; items = omega arith }

-- ---- of a guideline that loads

module _ {Short : Type 0} {text : List ℕ} {g : List TopLevel} {x q b : List ℕ} {n : ℕ} (answers : Answers Short text loads) (read : Read text g) (encoded : Encoded (flatten g) x (table q b)) (count : n ≡ length (flatten g)) where
  few : n ≤ row_limit
  few = let a = few_loaded answers read in omega arith

  pub fit_loaded : Fit (outline x n b)
  fit_loaded = fit g encoded (in_limits read (unbroken answers)) count few (short_loaded answers read) (bounded_loaded answers read)

  pub plans_loaded : {f : List ℕ} {w : List (List Bool)} → Filled x n b f w → Plans (bare_guideline g) q b f w
  plans_loaded filled = plans g encoded (in_limits read (unbroken answers)) count few (short_loaded answers read) (bare_lawful (lawful answers read)) (bounded_loaded answers read) filled
