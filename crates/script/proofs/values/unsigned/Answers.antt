-- `unsigned`: the digits, with the sign.
use mathlib.Core.Path.{refl, ap, ◌∙◌}
use mir.Syntax.{w64}
use mir.Val.{SFits}
use mir.Facts.{to_z-of_z}
use borrow.Author.Rules.{rules}
use Rattle.script.specs.declared.lexemes.Number.{Number}
use Rattle.script.specs.Places.{up-to}
use Rattle.script.specs.Values.{with_minus}
use Rattle.script.proofs.values.unsigned.Goals as goal

pub returns : goal.returns
returns c =
    let f : SFits w64 c.whole.result = search rules in
    let e = c.whole.ensures ∙ ap (λ (x : Number). with_minus c.args.minus x.value) c.digits-d.ensures in
    record { tag_is = refl; number_is = cc (to_z-of_z f); next_is = c.within.ensures ∙ ap (up-to c.args.limit) c.digits-d.ensures }
