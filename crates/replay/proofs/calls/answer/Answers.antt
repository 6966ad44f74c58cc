-- `answer`: each arm is that of its call.
use Rattle.replay.specs.Calls as Calls
use Rattle.replay.specs.CallsLaws.{as_call}
use Rattle.replay.proofs.calls.answer.Goals as goal

pub returns-in-Load : goal.returns-in-Load
returns-in-Load c = as_call c.in-Load.is (Calls.load c.load.ensures)

pub returns-in-Run : goal.returns-in-Run
returns-in-Run c = as_call c.in-Run.is (Calls.run c.run.result c.run.ensures c.ran.ensures)

pub returns-in-Time : goal.returns-in-Time
returns-in-Time c = as_call c.in-Time.is (Calls.time c.set_time.result c.set_time.ensures c.replied.ensures)

pub returns-in-Confirm : goal.returns-in-Confirm
returns-in-Confirm c = as_call c.in-Confirm.is (Calls.confirm c.confirm.result c.confirm.ensures c.replied-in-Confirm.ensures)

pub returns-in-Add : goal.returns-in-Add
returns-in-Add c = as_call c.in-Add.is (Calls.add c.add.result c.add.ensures c.replied-in-Add.ensures)

pub returns-in-Trigger : goal.returns-in-Trigger
returns-in-Trigger c = as_call c.in-Trigger.is (Calls.trigger c.trigger.ensures)

pub returns-in-Row : goal.returns-in-Row
returns-in-Row c = as_call c.in-Row.is (Calls.row c.value.ensures)

pub returns-in-Rows : goal.returns-in-Rows
returns-in-Rows c = as_call c.in-Rows.is (Calls.rows c.all.ensures)
