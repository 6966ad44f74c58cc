-- `alike`: the bytes left decide what all decide, by `alike_step` at each turn.
use Rattle.std.proofs.Common.{◌+◌, ◌-◌, sym, ap, ◌∙◌, arith}
use Rattle.paper_expressions.proofs.Laws.Search.{alikeb}
use Rattle.parts.specs.Texts.{cells}
use Rattle.parts.specs.ItemLaws.{alike_from, alike_step, alike_stop, alike_end, alike_long}
use Rattle.parts.proofs.names.alike.Goals as goal

pub returns-then-n-m : goal.returns-then-n-m
returns-then-n-m c = let a = c.args in sym (alike_long a.bytes.now _ _ a.x a.y c.if-n-m.true)

pub loop-i-init : goal.loop-i-init
loop-i-init c = let a = c.args in alike_from a.bytes.now a.x a.y a.n

pub loop-i-preserved : goal.loop-i-preserved
loop-i-preserved c =
    let a = c.args in
    c.loop-i.invariant ∙ alike_step a.bytes.now a.x a.y a.n c.loop-i.i c.loop-i-test.true (sym c.letter.ensures ∙ c.if-letter.false ∙ c.letter-in-loop-i.ensures)

pub returns-then-letter : goal.returns-then-letter
returns-then-letter c =
    let a = c.args in
    let i = c.loop-i.i in
    sym (ap (λ k. alikeb (cells a.bytes.now a.x a.n) (cells a.bytes.now a.y k)) (sym c.if-n-m.false)
    ∙ c.loop-i.invariant ∙ alike_stop a.bytes.now (a.x + i) (a.y + i) (a.n - i) (omega arith) (λ e. c.if-letter.true (c.letter.ensures ∙ e ∙ sym c.letter-in-loop-i.ensures)))

pub returns : goal.returns
returns c =
    let a = c.args in
    let i = c.loop-i.i in
    sym (ap (λ k. alikeb (cells a.bytes.now a.x a.n) (cells a.bytes.now a.y k)) (sym c.if-n-m.false)
    ∙ c.loop-i.invariant ∙ alike_end a.bytes.now (a.x + i) (a.y + i) (a.n - i) (omega arith))
