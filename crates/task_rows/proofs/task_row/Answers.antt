-- `task_row`: property by property.
use Prim.Native.Nat.{ℕ}
use mathlib.Core.Path.{ap}
use lib.Dec.{eqb}
use Rattle.paper_rows.specs.Table.{class, name, state, antecedent_tasks, precondition, wait_condition, trigger, trigger_active, postcondition, parent_plan, confirmatory, confirmed, cycle_count, nbr_cycles_value, start_at, terminal, in_progress_time, discarded_time, completed_time, terminate_condition, sources, actual_procedure}
use Rattle.state.specs.Layout.{state_column, trigger_column, confirmed_column, count_column, cycles_column, start_column, in_progress_column, discarded_column, completed_column, procedure_column}
use Rattle.task_rows.specs.Listed.{not_listed}
use Rattle.task_rows.specs.TaskLaws.{precondition_told, wait_told, postcondition_told, terminate_told, sources_told}
use Rattle.task_rows.specs.TaskRow.{arm, of_moving, of_class, of_name, of_waits, of_there, of_trigger, of_parent, of_confirmatory, of_terminal, of_none}
use Rattle.std.proofs.Common.{rules}
use Rattle.task_rows.proofs.task_row.Goals as goal

pub returns-in-0 : goal.returns-in-0
returns-in-0 c =
    let a = c.args in
    arm a.f.now a.w a.s.now a.t c.class.result a.p class c.in-0.is (of_class a.f.now a.w a.s.now a.t c.class.result c.cell.ensures c.class.ensures)

pub returns-in-1 : goal.returns-in-1
returns-in-1 c =
    let a = c.args in
    arm a.f.now a.w a.s.now a.t c.text.result a.p name c.in-1.is (of_name a.f.now a.w a.s.now a.t c.text.result c.cell-in-1.ensures c.text.ensures)

pub returns-in-6 : goal.returns-in-6
returns-in-6 c =
    let a = c.args in
    arm a.f.now a.w a.s.now a.t c.moving.result a.p state c.in-6.is (of_moving a.f.now a.w a.s.now a.t c.moving.result state_column c.requires c.moving.ensures)

pub returns-in-7 : goal.returns-in-7
returns-in-7 c =
    let a = c.args in
    arm a.f.now a.w a.s.now a.t c.there.result a.p antecedent_tasks c.in-7.is (of_waits a.f.now a.w a.s.now a.t c.there.result c.any.ensures c.there.ensures)

pub returns-in-9 : goal.returns-in-9
returns-in-9 c =
    let a = c.args in
    arm a.f.now a.w a.s.now a.t c.there-in-9.result a.p precondition c.in-9.is (of_there a.f.now a.w a.s.now a.t c.there-in-9.result precondition 520 c.cell-in-9.ensures c.there-in-9.ensures (λ g x b t flag time h l. precondition_told h l))

pub returns-in-10 : goal.returns-in-10
returns-in-10 c =
    let a = c.args in
    arm a.f.now a.w a.s.now a.t c.there-in-10.result a.p wait_condition c.in-10.is (of_there a.f.now a.w a.s.now a.t c.there-in-10.result wait_condition 552 c.cell-in-10.ensures c.there-in-10.ensures (λ g x b t flag time h l. wait_told h l))

pub returns-in-11 : goal.returns-in-11
returns-in-11 c =
    let a = c.args in
    arm a.f.now a.w a.s.now a.t c.text-in-11.result a.p trigger c.in-11.is (of_trigger a.f.now a.w a.s.now a.t c.text-in-11.result (ap (λ (y : ℕ). eqb y 1) c.cell-in-11.ensures) c.cell-in-11-2.ensures c.text-in-11.ensures)

pub returns-in-12 : goal.returns-in-12
returns-in-12 c =
    let a = c.args in
    arm a.f.now a.w a.s.now a.t c.moving-in-12.result a.p trigger_active c.in-12.is (of_moving a.f.now a.w a.s.now a.t c.moving-in-12.result trigger_column c.requires c.moving-in-12.ensures)

pub returns-in-13 : goal.returns-in-13
returns-in-13 c =
    let a = c.args in
    arm a.f.now a.w a.s.now a.t c.there-in-13.result a.p postcondition c.in-13.is (of_there a.f.now a.w a.s.now a.t c.there-in-13.result postcondition 648 c.cell-in-13.ensures c.there-in-13.ensures (λ g x b t flag time h l. postcondition_told h l))

pub returns-in-15 : goal.returns-in-15
returns-in-15 c =
    let a = c.args in
    arm a.f.now a.w a.s.now a.t c.parent.result a.p parent_plan c.in-15.is (of_parent a.f.now a.w a.s.now a.t c.parent.result c.cell-in-15.ensures c.parent.ensures)

pub returns-in-16 : goal.returns-in-16
returns-in-16 c =
    let a = c.args in
    arm a.f.now a.w a.s.now a.t c.by_answer.result a.p confirmatory c.in-16.is (of_confirmatory a.f.now a.w a.s.now a.t c.by_answer.result c.cell-in-16.ensures c.by_answer.ensures)

pub returns-in-17 : goal.returns-in-17
returns-in-17 c =
    let a = c.args in
    arm a.f.now a.w a.s.now a.t c.moving-in-17.result a.p confirmed c.in-17.is (of_moving a.f.now a.w a.s.now a.t c.moving-in-17.result confirmed_column c.requires c.moving-in-17.ensures)

pub returns-in-18 : goal.returns-in-18
returns-in-18 c =
    let a = c.args in
    arm a.f.now a.w a.s.now a.t c.moving-in-18.result a.p cycle_count c.in-18.is (of_moving a.f.now a.w a.s.now a.t c.moving-in-18.result count_column c.requires c.moving-in-18.ensures)

pub returns-in-19 : goal.returns-in-19
returns-in-19 c =
    let a = c.args in
    arm a.f.now a.w a.s.now a.t c.moving-in-19.result a.p nbr_cycles_value c.in-19.is (of_moving a.f.now a.w a.s.now a.t c.moving-in-19.result cycles_column c.requires c.moving-in-19.ensures)

pub returns-in-24 : goal.returns-in-24
returns-in-24 c =
    let a = c.args in
    arm a.f.now a.w a.s.now a.t c.moving-in-24.result a.p start_at c.in-24.is (of_moving a.f.now a.w a.s.now a.t c.moving-in-24.result start_column c.requires c.moving-in-24.ensures)

pub returns-in-26 : goal.returns-in-26
returns-in-26 c =
    let a = c.args in
    arm a.f.now a.w a.s.now a.t c.by_answer-in-26.result a.p terminal c.in-26.is (of_terminal a.f.now a.w a.s.now a.t c.by_answer-in-26.result c.cell-in-26.ensures c.by_answer-in-26.ensures)

pub returns-in-29 : goal.returns-in-29
returns-in-29 c =
    let a = c.args in
    arm a.f.now a.w a.s.now a.t c.moving-in-29.result a.p in_progress_time c.in-29.is (of_moving a.f.now a.w a.s.now a.t c.moving-in-29.result in_progress_column c.requires c.moving-in-29.ensures)

pub returns-in-30 : goal.returns-in-30
returns-in-30 c =
    let a = c.args in
    arm a.f.now a.w a.s.now a.t c.moving-in-30.result a.p discarded_time c.in-30.is (of_moving a.f.now a.w a.s.now a.t c.moving-in-30.result discarded_column c.requires c.moving-in-30.ensures)

pub returns-in-31 : goal.returns-in-31
returns-in-31 c =
    let a = c.args in
    arm a.f.now a.w a.s.now a.t c.moving-in-31.result a.p completed_time c.in-31.is (of_moving a.f.now a.w a.s.now a.t c.moving-in-31.result completed_column c.requires c.moving-in-31.ensures)

pub returns-in-32 : goal.returns-in-32
returns-in-32 c =
    let a = c.args in
    arm a.f.now a.w a.s.now a.t c.there-in-32.result a.p terminate_condition c.in-32.is (of_there a.f.now a.w a.s.now a.t c.there-in-32.result terminate_condition 584 c.cell-in-32.ensures c.there-in-32.ensures (λ g x b t flag time h l. terminate_told h l))

pub returns-in-35 : goal.returns-in-35
returns-in-35 c =
    let a = c.args in
    arm a.f.now a.w a.s.now a.t c.there-in-35.result a.p sources c.in-35.is (of_there a.f.now a.w a.s.now a.t c.there-in-35.result sources 232 c.cell-in-35.ensures c.there-in-35.ensures (λ g x b t flag time h l. sources_told h l))

pub returns-in-40 : goal.returns-in-40
returns-in-40 c =
    let a = c.args in
    arm a.f.now a.w a.s.now a.t c.moving-in-40.result a.p actual_procedure c.in-40.is (of_moving a.f.now a.w a.s.now a.t c.moving-in-40.result procedure_column c.requires c.moving-in-40.ensures)

pub returns-in_default : goal.returns-in_default
returns-in_default c =
    let a = c.args in
    of_none a.f.now a.w a.s.now a.t c.plain.result a.p (not_listed (search rules) (search rules) (search rules) (search rules) (search rules) (search rules) (search rules) (search rules) (search rules) (search rules) (search rules) (search rules) (search rules) (search rules) (search rules) (search rules) (search rules) (search rules) (search rules) (search rules) (search rules) (search rules)) c.plain.ensures
