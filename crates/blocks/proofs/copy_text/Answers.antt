-- `copy_text`: one byte more is written.
use Rattle.std.proofs.Common.{ℕ, ◌≡◌, ◌+◌, get_or, ap, ◌∙◌, arith}
use Rattle.parts.specs.Texts.{cells}
use Rattle.blocks.specs.Blocks.{copied_none, copied_more}
use Rattle.blocks.proofs.copy_text.Goals as goal

pub loop-k-init : goal.loop-k-init
loop-k-init c = copied_none _ _ _ _

pub loop-k-preserved : goal.loop-k-preserved
loop-k-preserved c =
    let a = c.args in
    let e : c.loop-k.k ≡ 0 + c.loop-k.k = omega arith in
    copied_more _ _ _ _ _ _ _ (c.text_byte.ensures ∙ ap (λ (y : ℕ). get_or (cells a.from.now a.p a.n) y 0) e) c.put.ensures c.loop-k.invariant
