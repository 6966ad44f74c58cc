-- `gather`: the same again, or another.
use Rattle.std.proofs.Common.{rules, sym, ◌∙◌}
use Rattle.paper_expressions.proofs.Laws.Tests.{contra}
use Rattle.assigning.specs.Gather.{formed, gathers_same, gathers_other}
use Rattle.assigning.proofs.gather.Goals as goal

pub returns-then-same : goal.returns-then-same
returns-then-same c =
    let a = c.args in
    gathers_same a.b.now a.v a.d c.encode.new.cells c.encode.new.out a.news.now a.texts.now (formed a.b.now a.v a.d (search rules) (search rules) c.encode.ensures) c.cell.ensures c.if-cell-eq-EMPTY.false (c.same.ensures.0 c.if-same.true)

pub returns : goal.returns
returns c =
    let a = c.args in
    gathers_other a.b.now a.v a.d c.encode.new.cells c.encode.new.out c.encode-2.new.cells c.encode-2.new.out a.news.now c.keep-2.new.news a.texts.now c.keep-2.new.texts c.single.result (formed a.b.now a.v a.d (search rules) (search rules) c.encode.ensures) c.cell.ensures c.if-cell-eq-EMPTY.false (λ z. contra (sym c.if-same.false ∙ c.same.ensures.1 z)) c.single.ensures (formed a.b.now c.single.result a.d (search rules) (search rules) c.encode-2.ensures) c.keep-2.ensures
