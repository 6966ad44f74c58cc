-- `text`: after i turns the first i bytes are appended.
use Prim.Native.Nat.{ℕ, ◌+◌, ◌-◌}
use mathlib.Core.Path.{◌≡◌, subst}
use mathlib.Core.List.{List}
use native.Mathlib.Omega.{arith}
use Rattle.parts.specs.Texts.{cells}
use Rattle.values.specs.Meaning.{bytes_of}
use Rattle.digits.specs.AppendsLaws.{Begun, begun_none, begun_more, begun_all, append_nothing}
use Rattle.written.specs.Texts.{none_left, one_less}
use Rattle.written.proofs.scalars.text.Goals as goal

pub loop-i-init : goal.loop-i-init
loop-i-init c =
    let a = c.args in
    subst (λ (w : List ℕ). Begun a.out.now a.out.now a.o a.o w (bytes_of a.bytes.now a.h)) (none_left a.bytes.now a.h.at a.h.len) (begun_none _ _ _)

pub loop-i-preserved : goal.loop-i-preserved
loop-i-preserved c =
    let a = c.args in
    let l = c.loop-i in
    begun_more (subst (λ (w : List ℕ). Begun a.out.now l.out a.o l.p w (bytes_of a.bytes.now a.h)) (one_less a.bytes.now a.h.at a.h.len l.i (omega arith) c.at.ensures) l.invariant) c.byte-p.ensures

pub returns : goal.returns
returns c =
    let a = c.args in
    let l = c.loop-i in
    let e : a.h.len - l.i ≡ 0 = omega arith in
    begun_all (subst (λ (n : ℕ). Begun a.out.now l.out a.o l.p (cells a.bytes.now (a.h.at + l.i) n) (bytes_of a.bytes.now a.h)) e l.invariant) (append_nothing _ _)
