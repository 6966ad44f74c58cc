-- `number`: below ten one digit, else the digits of the tenth and the last.
use Prim.Native.Nat.{◌<◌, ◌^◌}
use native.Mathlib.Omega.{arith}
use Rattle.digits.specs.AppendsLaws.{appends_as, append_then}
use Rattle.digits.specs.Digits.{more_digits}
use Rattle.digits.proofs.decimal.+number.Goals as goal

pub returns : goal.returns
returns t c =
    let fits : c.args.n < 2 ^ 64 = omega arith in
    appends_as (more_digits c.args.n c.if-n-lt-BASE.false fits) (append_then c.number-p.ensures c.digit-2.ensures)
