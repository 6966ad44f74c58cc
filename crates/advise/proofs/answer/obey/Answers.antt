-- `obey`: each command is a clause of the definition.
use mathlib.Core.Path.{refl}
use Rattle.advise.specs.AnswerLaws.{as_given, as_run, as_run_for, as_confirmed, as_triggered, as_set, as_later, as_earlier, as_shown}
use Rattle.advise.proofs.answer.obey.Goals as goal

pub returns-in-Give : goal.returns-in-Give
returns-in-Give c = as_given c.in-Give.is c.part.ensures c.give.ensures

pub returns-in-Run : goal.returns-in-Run
returns-in-Run c = as_run c.in-Run.is c.run.ensures

pub returns-in-RunFor : goal.returns-in-RunFor
returns-in-RunFor c = as_run_for c.in-RunFor.is c.run-in-RunFor.ensures

pub returns-in-Confirm : goal.returns-in-Confirm
returns-in-Confirm c = as_confirmed c.in-Confirm.is c.part-in-Confirm.ensures c.confirm.ensures

pub returns-in-Trigger : goal.returns-in-Trigger
returns-in-Trigger c = as_triggered c.in-Trigger.is c.part-in-Trigger.ensures c.trigger.ensures

pub returns-in-Time : goal.returns-in-Time
returns-in-Time c = as_set c.in-Time.is c.set.ensures

pub returns-in-Later : goal.returns-in-Later
returns-in-Later c = as_later c.in-Later.is c.later.ensures

pub returns-in-Earlier : goal.returns-in-Earlier
returns-in-Earlier c = as_earlier c.in-Earlier.is c.earlier.ensures

pub returns-in-Nothing : goal.returns-in-Nothing
returns-in-Nothing c = as_shown c.in-Nothing.is refl

pub returns-in-Tree : goal.returns-in-Tree
returns-in-Tree c = as_shown c.in-Tree.is refl

pub returns-in-Asked : goal.returns-in-Asked
returns-in-Asked c = as_shown c.in-Asked.is refl

pub returns-in-Rows : goal.returns-in-Rows
returns-in-Rows c = as_shown c.in-Rows.is refl

pub returns-in-Why : goal.returns-in-Why
returns-in-Why c = as_shown c.in-Why.is refl

pub returns-in-Help : goal.returns-in-Help
returns-in-Help c = as_shown c.in-Help.is refl

pub returns-in-Quit : goal.returns-in-Quit
returns-in-Quit c = as_shown c.in-Quit.is refl

pub returns-in-Unclear : goal.returns-in-Unclear
returns-in-Unclear c = as_shown c.in-Unclear.is refl
