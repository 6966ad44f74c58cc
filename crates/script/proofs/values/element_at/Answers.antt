-- `element_at`: each arm is that of its letter.
use mathlib.Core.Path.{refl}
use Rattle.script.specs.ValuesLaws.{read_plain, read_text, read_none}
use native.Mathlib.Omega.{arith}
use Rattle.script.proofs.values.element_at.Goals as goal

pub returns-in-117 : goal.returns-in-117
returns-in-117 c = let a = c.args in read_plain a.s.now a.at a.i c.byte.ensures c.after-p.ensures a.bytes.now 117 refl c.in-117.is (record { tag_is = refl; number_is = refl; next_is = refl })

pub returns-in-98 : goal.returns-in-98
returns-in-98 c = let a = c.args in read_plain a.s.now a.at a.i c.byte.ensures c.after-p.ensures a.bytes.now 98 refl c.in-98.is c.truth.ensures

pub returns-in-105 : goal.returns-in-105
returns-in-105 c = let a = c.args in read_plain a.s.now a.at a.i c.byte.ensures c.after-p.ensures a.bytes.now 105 refl c.in-105.is c.signed.ensures

pub returns-in-114 : goal.returns-in-114
returns-in-114 c = let a = c.args in read_plain a.s.now a.at a.i c.byte.ensures c.after-p.ensures a.bytes.now 114 refl c.in-114.is c.signed-in-114.ensures

pub returns-in-116 : goal.returns-in-116
returns-in-116 c = let a = c.args in read_text a.s.now a.at a.i c.byte.ensures c.after-p.ensures a.bytes.now c.in-116.is c.spelt.ensures.0 c.spelt.ensures.1

pub returns-in_default : goal.returns-in_default
returns-in_default c =
    let a = c.args in
    read_none a.s.now a.at a.i c.byte.ensures c.after-p.ensures a.bytes.now (λ z. omega arith) (λ z. omega arith) (λ z. omega arith) (λ z. omega arith) (λ z. omega arith) c.nothing.ensures
