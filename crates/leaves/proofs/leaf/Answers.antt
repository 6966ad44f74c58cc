-- `leaf`: by the terminal, which tells the kinds of leaves apart.
use Rattle.std.proofs.Common.{refl, arith}
use Rattle.leaves.specs.Leaf.{says_atom, says_string, says_integer, says_float, no_leaf}
use Rattle.leaves.proofs.leaf.Goals as goal

pub returns-in-98 : goal.returns-in-98
returns-in-98 c = λ t e g l. says_integer g c.requires (record { kind = 2; load = c.integer.result }) c.in-98.is c.integer.ensures refl l

pub returns-in-99 : goal.returns-in-99
returns-in-99 c = λ t e g l. says_float g c.requires (record { kind = 3; load = c.float.result }) c.in-99.is c.float.ensures refl l

pub returns-in-100 : goal.returns-in-100
returns-in-100 c =
    let s = c.inside in
    λ t e g l. says_string g c.requires (record { kind = 4; load = c.handle.result }) s.result.at s.result.n c.in-100.is s.ensures.0 s.ensures.1 c.handle.ensures refl l

pub returns-in-95-to-97 : goal.returns-in-95-to-97
returns-in-95-to-97 c =
    let s = c.inside-in-95-to-97 in
    λ t e g l. says_atom g c.requires (record { kind = 1; load = c.handle-in-95-to-97.result }) s.result.at s.result.n (omega arith) (omega arith) s.ensures.0 s.ensures.1 c.handle-in-95-to-97.ensures refl l

pub returns-in_default : goal.returns-in_default
returns-in_default c = λ t e g l. absurd (no_leaf g c.requires (λ z. omega arith) (λ z. omega arith) (λ z. omega arith) (λ z. omega arith) l)

pub returns-in_default-2 : goal.returns-in_default-2
returns-in_default-2 c = λ t e g l. absurd (no_leaf g c.requires (λ z. omega arith) (λ z. omega arith) (λ z. omega arith) (λ z. omega arith) l)
