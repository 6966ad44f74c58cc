-- `byte`: one store where there is room.
use Rattle.digits.specs.AppendsLaws.{append_byte}
use Rattle.digits.proofs.append.byte.Goals as goal

pub returns-then-o-out : goal.returns-then-o-out
returns-then-o-out c = let a = c.args in append_byte a.out.now a.o a.b
