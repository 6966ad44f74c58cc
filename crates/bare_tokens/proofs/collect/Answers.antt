-- `collect`: before each turn the lists hold the tokens that were passed, and what the next token stands in is told by them.
use Rattle.bare_tokens.specs.ListedLaws.{listed_none, listed_more}
use Rattle.bare_tokens.specs.BareLaws.{within_none, within_more, item_is, task_is, bare_is}
use Rattle.bare_tokens.proofs.collect.Goals as goal

pub loop-i-init : goal.loop-i-init
loop-i-init c =
    let s = c.args in
    (within_none s.kinds.now c.behind-w.ensures, listed_none _ s.items.now, listed_none _ s.tasks.now, listed_none _ s.names.now)

pub loop-i-preserved : goal.loop-i-preserved
loop-i-preserved c =
    let s = c.args in
    let v = c.loop-i.invariant in
    let i = c.loop-i.i in
    let e = within_more s.kinds.now i v.0 c.byte.ensures c.before-in-loop-i.ensures c.on-w.ensures in (
      e,
      listed_more v.1 (item_is s.kinds.now i c.declaring-k.ensures) c.put.ensures,
      listed_more v.2 (task_is s.kinds.now i c.declaring-k.ensures c.is_task.ensures) c.put-in-loop-i.ensures,
      listed_more v.3 (bare_is s.text.now s.kinds.now s.places.now i e c.is_bare.ensures) c.put-in-loop-i-2.ensures,
    )
