-- `name`: all are left, one fewer, and none.
use Rattle.std.proofs.Common.{◌≡◌, ℕ, ◌+◌, ◌-◌, ◌/◌, ◌%◌, List, subst, arith}
use Rattle.parts.specs.Texts.{cells, text_at_fn}
use Rattle.digits.specs.AppendsLaws.{Begun, begun_none, begun_more, begun_all, append_nothing}
use Rattle.written.specs.Texts.{none_left, one_less}
use Rattle.season_answer.proofs.called.name.Goals as goal

pub loop-i-init : goal.loop-i-init
loop-i-init c =
    let a = c.args in
    subst (λ (w : List ℕ). Begun a.out.now a.out.now a.o a.o w (text_at_fn a.texts.now a.h)) (none_left a.texts.now (a.h / 64) (a.h % 64)) (begun_none _ _ _)

pub loop-i-preserved : goal.loop-i-preserved
loop-i-preserved c =
    let a = c.args in
    let l = c.loop-i in
    begun_more (subst (λ (w : List ℕ). Begun a.out.now l.out a.o l.p w (text_at_fn a.texts.now a.h)) (one_less a.texts.now (a.h / 64) (a.h % 64) l.i (omega arith) c.at.ensures) l.invariant) c.byte-p.ensures

pub returns : goal.returns
returns c =
    let a = c.args in
    let l = c.loop-i in
    let e : a.h % 64 - l.i ≡ 0 = omega arith in
    begun_all (subst (λ (n : ℕ). Begun a.out.now l.out a.o l.p (cells a.texts.now (a.h / 64 + l.i) n) (text_at_fn a.texts.now a.h)) e l.invariant) (append_nothing _ _)
