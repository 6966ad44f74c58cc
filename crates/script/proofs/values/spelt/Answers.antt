-- `spelt`: no more bytes are kept than a handle can tell.
use Prim.Native.Nat.{ℕ, ◌+◌, ◌*◌}
use mathlib.Core.Path.{refl, ap, ◌∙◌}
use native.Mathlib.Omega.{arith}
use lib.IntN.{pos}
use lib.ListN.{drop}
use mir.Syntax.{w64}
use mir.Val.{SFits}
use mir.Facts.{to_z-of_z}
use borrow.Author.Rules.{rules}
use Rattle.script.specs.Lexemes.{text_bytes}
use Rattle.script.specs.ValuesLaws.{kept_short}
use Rattle.script.proofs.values.spelt.Goals as goal

pub handle-requires : goal.handle-requires
handle-requires c =
    let k = kept_short 0 (text_bytes (drop c.args.at c.args.s.now)) (omega arith) in
    (omega (arith, c.requires), omega (arith, c.text_at-t.ensures.kept))

pub returns : goal.returns
returns c =
    let t = c.text_at-t.ensures in
    let f : SFits w64 c.handle.result = search rules in
    let e = c.handle.ensures ∙ ap (λ (k : ℕ). pos (64 * c.args.i * 64 + k)) t.kept in
    (record { tag_is = refl; number_is = cc (to_z-of_z f); next_is = t.behind }, t.stored)
