-- `spelt`: the digits of one byte more at each turn.
use Rattle.std.proofs.Common.{ℕ, List, ◌≡◌, ◌+◌, ◌-◌, ap, subst, ◌∙◌, arith}
use Rattle.parts.specs.Texts.{cells}
use Rattle.values.specs.Meaning.{bytes_of}
use Rattle.digits.specs.AppendsLaws.{Begun, begun_none, begun_more, begun_all, append_nothing}
use Rattle.written.specs.Texts.{none_left}
use Rattle.transcript_values.specs.Literals.{all_hex}
use Rattle.transcript_values.specs.Texts.{hex_less, hex_none}
use Rattle.transcript_values.proofs.literals.spelt.Goals as goal

pub loop-i-init : goal.loop-i-init
loop-i-init c =
    let a = c.args in
    subst (λ (w : List ℕ). Begun a.out.now a.out.now a.o a.o (all_hex w) (all_hex (bytes_of a.bytes.now a.h))) (none_left a.bytes.now a.h.at a.h.len) (begun_none _ _ _)

pub loop-i-preserved : goal.loop-i-preserved
loop-i-preserved c =
    let a = c.args in
    let l = c.loop-i in
    begun_more (subst (λ (w : List ℕ). Begun a.out.now l.out a.o l.p w (all_hex (bytes_of a.bytes.now a.h))) (hex_less a.bytes.now a.h.at a.h.len l.i (omega arith) c.at.ensures) l.invariant) c.two_digits-p.ensures

pub returns : goal.returns
returns c =
    let a = c.args in
    let l = c.loop-i in
    let e : a.h.len - l.i ≡ 0 = omega arith in
    begun_all (subst (λ (w : List ℕ). Begun a.out.now l.out a.o l.p w (all_hex (bytes_of a.bytes.now a.h))) (ap (λ (n : ℕ). all_hex (cells a.bytes.now (a.h.at + l.i) n)) e ∙ hex_none) l.invariant) (append_nothing _ _)
