-- `next`: no task, its first component, or what is behind it.
use Rattle.std.proofs.Common.{ℕ, ◌+◌, ◌<◌, List, Option, Some, None, MatchOption}
use Rattle.tree.specs.Walk.{Child, Behind, Next, no_task, component, behind}
use Rattle.tree.proofs.walk.next.Goals as goal

pub returns-then-t-ge-LIMIT : goal.returns-then-t-ge-LIMIT
returns-then-t-ge-LIMIT c = no_task c.if-t-ge-LIMIT.true

pub returns-in-Some : goal.returns-in-Some
returns-in-Some c = let h = c.in-Some.ensures in (h.0, component c.if-t-ge-LIMIT.false h.1 h.0)

onward : (f : List ℕ) (t : ℕ) (o : Option ℕ) → t < 32 → Child f (t + 1) 0 32 → MatchOption o (Behind f 32 t 32) (λ r. (r < 32) × Behind f 32 t r) → MatchOption o (Next f t 32) (λ r. (r < 32) × Next f t r)
onward f t None l h b = behind l h b
onward f t (Some r) l h b = (b.0, behind l h b.1)

pub returns-in-None : goal.returns-in-None
returns-in-None c = onward c.args.plan.now c.args.t c.behind.result c.if-t-ge-LIMIT.false c.in-None.ensures c.behind.ensures
