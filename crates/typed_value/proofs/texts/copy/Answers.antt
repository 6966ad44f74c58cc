-- `copy`: the handle and the bytes of what is kept.
use Rattle.std.proofs.Common.{ℕ, ◌+◌, ◌*◌, ◌<◌, ◌^◌, ap, ◌∙◌, arith, w64, pos}
use mir.Val.{hbits}
use mir.Facts.{to_z_pos}
use Rattle.parts.specs.Texts.{cells}
use Rattle.typed_value.specs.Texts.{kept_of_fn}
use Rattle.typed_value.specs.CellLaws.{copied_spread}
use Rattle.typed_value.proofs.texts.copy.Goals as goal

pub returns : goal.returns
returns c =
    let a = c.args in
    let k = c.kept-k.result in
    let small : 64 * a.i * 64 + k < 2 ^ hbits w64 = omega (arith, c.kept-k.ensures.0, c.requires) in
    (to_z_pos w64 small ∙ ap (λ (n : ℕ). pos (64 * a.i * 64 + n)) c.kept-k.ensures.1, copied_spread (cells a.s.now a.from (kept_of_fn a.n)) a.bytes.now (64 * a.i) 64 (rw (← c.kept-k.ensures.1) c.copy_text.ensures))
