-- `each`: no task at first, then one more each time.
use Rattle.std.proofs.Common.{arith, rules, refl, ◌∙◌}
use Rattle.review.specs.Changes.{each_none, each_more, each_all, few_none, few_more, few_all}
use Rattle.review.proofs.each.Goals as goal

pub loop-t-init : goal.loop-t-init
loop-t-init c = record { rows = each_none _ _ _ _ _ _ _ _; few = few_none _; same = refl }

pub loop-t-preserved : goal.loop-t-preserved
loop-t-preserved c = record {
  rows = each_more _ _ _ _ _ _ _ _ _ _ _ _ _ (λ l. (let e = c.tasks-t-end.ensures.1 l in omega arith)) c.loop-t.invariant.rows c.review_one.ensures.review_rows;
  few = few_more _ _ _ _ c.review_one.ensures.few c.loop-t.invariant.few;
  same = c.review_one.ensures.same ∙ c.loop-t.invariant.same;
}

pub returns-clause-each_rows : goal.returns-clause-each_rows
returns-clause-each_rows c =
    let h = each_all _ _ _ _ _ _ _ _ _ _ _ (λ l. (let e = c.tasks-t-end.ensures.1 l in omega arith)) c.loop-t.invariant.rows in
    λ t n r. let g = h t n r in search (rules, g)

pub returns-clause-few : goal.returns-clause-few
returns-clause-few c = few_all _ _ _ (λ l. (let e = c.tasks-t-end.ensures.1 l in omega arith)) c.loop-t.invariant.few
