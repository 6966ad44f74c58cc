-- `put_element`: its cells and its bytes.
use Prim.Native.Nat.{ℕ, ◌+◌}
use mathlib.Core.Path.{ap, ◌∙◌}
use lib.ListN.{set}
use mir.Syntax.{w64}
use mir.Val.{SFits}
use mir.Facts.{to_z-of_z}
use borrow.Author.Rules.{rules}
use Rattle.script.proofs.values.put_element.Goals as goal

pub returns : goal.returns
returns c =
    let e = c.element_at-e.ensures.0 in
    let f : SFits w64 c.element_at-e.result.number = search rules in
    let n = c.put_number.ensures in
    let k = e.number_is in
    (record { tags_are = c.put_cell.ensures ∙ ap (λ (x : ℕ). set c.args.tags.now (1 + c.args.i) x) e.tag_is; numbers_are = cc (to_z-of_z f); bytes_are = c.element_at-e.ensures.1 }, e.next_is)
