-- `line::parse` meets its contract: each exit is one of the laws of Tests.
use Rattle.line_answer.specs.Tests.{not_accepted, is_read, left_out, parsed}
use Rattle.line_answer.proofs.tests.parse.Goals as goal

pub returns-in_default : goal.returns-in_default
returns-in_default c = not_accepted c.requires c.read.result c.read.ensures c.in_default.not-Accepted

pub returns-in-Some : goal.returns-in-Some
returns-in-Some c = left_out c.requires (is_read c.requires c.read.ensures c.in-Accepted.is) c.left_out.ensures c.in-Some.is

pub returns-in-None : goal.returns-in-None
returns-in-None c = parsed c.requires (is_read c.requires c.read.ensures c.in-Accepted.is) c.left_out.ensures c.in-None.is
