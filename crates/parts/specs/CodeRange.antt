-- Law: every operator's number is at least 10, and fits a byte. By cases.
use Rattle.std.specs.Prelude.{◌≤◌}
use Rattle.std.proofs.Common.{arith}
use Rattle.paper_expressions.specs.Values.{dormant, in_progress, discarded, completed}
use Rattle.paper_expressions.specs.Operators.{plus, minus, times, is>, is<, is>=, is<=, is=, is!=, max, min}
use Rattle.paper_expressions.specs.Operators.{Op, arithmetic, divide, compare, and, or, includes, oneof, if, negate, isknown, not, count, sum, extreme, nth, is-in, no_such}
use Rattle.parts.specs.Codes.{code}

pub operator_code : (o : Op) → (10 ≤ code o) × (code o ≤ 255)
operator_code (arithmetic plus) = (omega arith, omega arith)
operator_code (arithmetic minus) = (omega arith, omega arith)
operator_code (arithmetic times) = (omega arith, omega arith)
operator_code divide = (omega arith, omega arith)
operator_code (compare is>) = (omega arith, omega arith)
operator_code (compare is<) = (omega arith, omega arith)
operator_code (compare is>=) = (omega arith, omega arith)
operator_code (compare is<=) = (omega arith, omega arith)
operator_code (compare is=) = (omega arith, omega arith)
operator_code (compare is!=) = (omega arith, omega arith)
operator_code and = (omega arith, omega arith)
operator_code or = (omega arith, omega arith)
operator_code includes = (omega arith, omega arith)
operator_code oneof = (omega arith, omega arith)
operator_code if = (omega arith, omega arith)
operator_code negate = (omega arith, omega arith)
operator_code isknown = (omega arith, omega arith)
operator_code not = (omega arith, omega arith)
operator_code count = (omega arith, omega arith)
operator_code sum = (omega arith, omega arith)
operator_code (extreme max) = (omega arith, omega arith)
operator_code (extreme min) = (omega arith, omega arith)
operator_code nth = (omega arith, omega arith)
operator_code (is-in dormant) = (omega arith, omega arith)
operator_code (is-in in_progress) = (omega arith, omega arith)
operator_code (is-in discarded) = (omega arith, omega arith)
operator_code (is-in completed) = (omega arith, omega arith)
operator_code (no_such n) = (omega arith, omega arith)
