-- `refusal`: by load's answer for tables that are too short.
use Rattle.std.proofs.Common.{refl}
use Rattle.load.specs.LoadsLaws.{not_taken, refused_short}
use Rattle.load.proofs.refusal.Goals as goal

pub returns-in-Ok : goal.returns-in-Ok
returns-in-Ok c = not_taken c.judge.ensures refl c.in-Ok.is

pub returns-in-Err : goal.returns-in-Err
returns-in-Err c = refused_short c.judge.ensures refl c.in-Err.is
