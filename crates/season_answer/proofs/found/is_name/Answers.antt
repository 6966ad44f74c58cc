-- `is_name`: another length, and another byte or the same.
use Rattle.std.proofs.Common.{ℕ, ◌/◌, ◌%◌, length, sym, ap, ◌∙◌, arith}
use Rattle.paper_expressions.proofs.Laws.Search.{alikeb}
use Rattle.parts.specs.Texts.{cells}
use Rattle.season_answer.specs.ColumnsLaws.{name_long, name_from, name_end, name_other, name_same}
use Rattle.season_answer.proofs.found.is_name.Goals as goal

pub returns-then-h-name : goal.returns-then-h-name
returns-then-h-name c = name_long c.args.texts.now (c.args.h % 64) (c.args.h / 64) c.args.name.now c.if-h-name.true

pub loop-i-init : goal.loop-i-init
loop-i-init c = name_from c.args.texts.now (c.args.h / 64) (length c.args.name.now) c.args.name.now

pub loop-i-preserved : goal.loop-i-preserved
loop-i-preserved c =
    sym (name_same c.args.texts.now (c.args.h / 64) c.args.name.now c.loop-i.i (omega arith) (sym c.letter.ensures ∙ c.if-letter-lower.false ∙ c.lower.ensures)) ∙ c.loop-i.invariant

pub returns-then-letter-lower : goal.returns-then-letter-lower
returns-then-letter-lower c =
    let a = c.args in
    sym (name_other a.texts.now (a.h / 64) a.name.now c.loop-i.i (omega arith) (λ e. c.if-letter-lower.true (c.letter.ensures ∙ e ∙ sym c.lower.ensures)))
    ∙ c.loop-i.invariant ∙ ap (λ (k : ℕ). alikeb (cells a.texts.now (a.h / 64) k) a.name.now) (sym c.if-h-name.false)

pub returns : goal.returns
returns c =
    let a = c.args in
    sym (name_end a.texts.now (a.h / 64) a.name.now c.loop-i.i (omega arith))
    ∙ c.loop-i.invariant ∙ ap (λ (k : ℕ). alikeb (cells a.texts.now (a.h / 64) k) a.name.now) (sym c.if-h-name.false)
