-- `read`: all are left, one fewer, and none.
use Rattle.std.proofs.Common.{◌≡◌, ℕ, Bool, ◌&&◌, sym, ap, ◌∙◌, arith}
use Rattle.season_answer.specs.Columns.{columns_from, all_may, of_field}
use Rattle.season_answer.specs.ColumnsLaws.{columns_end, columns_next, may_next, and_true, none_off}
use Rattle.season_answer.proofs.places.read.Goals as goal
use Rattle.season_answer.proofs.places.read.Goals.{then-well, else-well}

pub loop-i-init : goal.loop-i-init
loop-i-init c =
    let a = c.args in
    let f = of_field a.plan.now a.texts.now a.kept.now a.ends.now in
    (ap (λ (k : ℕ). columns_from f a.columns.now 0 k) (none_off a.fields), ap (λ (k : ℕ). all_may f a.columns.now 0 k) (none_off a.fields))

pub loop-i-preserved : goal.loop-i-preserved
loop-i-preserved c =
    let a = c.args in
    let l = c.loop-i in
    let f = of_field a.plan.now a.texts.now a.kept.now a.ends.now in
    let one = c.read_one-one.ensures in
    let both = elim c.if-well.branch as (λ _. c.if-well.well ≡ (l.well && c.read_one-one.result)) [ then-well w ↦ rw w.if-well.true w.well-is | else-well w ↦ rw w.if-well.false (w.well-is ∙ w.if-well.false) ] in
    (sym (columns_next f l.columns l.i a.fields (omega arith) one.1) ∙ l.invariant.0, sym (may_next f l.columns l.i a.fields (omega arith) one.1 l.well one.0 both) ∙ l.invariant.1)

pub returns : goal.returns
returns c =
    let a = c.args in
    let l = c.loop-i in
    let f = of_field a.plan.now a.texts.now a.kept.now a.ends.now in
    let (cols, all) = columns_end f l.columns l.i a.fields (omega arith) in
    (and_true l.well ∙ ap (λ (t : Bool). l.well && t) (sym all) ∙ l.invariant.1, sym cols ∙ l.invariant.0)
