-- `trigger`: the empty one, or its bytes and the end of its line.
use Rattle.script.specs.declared.calls.Call.TheVariants.{Trigger}
use mathlib.Core.Path.{◌∙◌}
use mathlib.Core.List.{◌∷◌}
use lib.ListN.{drop}
use Rattle.script.specs.Lexemes.{behind_word, text_bytes, kept_long}
use Rattle.script.specs.Places.{newline, behind_text}
use Rattle.script.specs.PlacesLaws.{line, stands, stands_not, ends_at, trigger_is}
use Rattle.script.specs.Values.{text_in}
use Rattle.script.specs.ValuesLaws.{when_nowhere, when_stands}
use Rattle.script.proofs.calls.trigger.Goals as goal

pub returns-then-none : goal.returns-then-none
returns-then-none c =
    let s = c.args.s.now in
    let at = c.args.at in
    (when_stands (text_in s at 0 c.args.bytes.now) c.args.bytes.now c.behind-none.ensures c.if-none.true, stands (line (Trigger (kept_long 0 (text_bytes (drop at s)))) (behind_word s (behind_text s at) newline)) c.behind-none.ensures c.if-none.true (ends_at (Trigger 0) c.behind-none.ensures))

pub returns : goal.returns
returns c =
    let s = c.args.s.now in
    let at = c.args.at in
    let t = c.text_at-t.ensures in
    (t.stored ∙ when_nowhere (text_in s at 0 c.args.bytes.now) c.args.bytes.now c.behind-none.ensures c.if-none.false, stands_not (line (Trigger 0) (behind_word s at (45 ∷ newline))) c.behind-none.ensures c.if-none.false (trigger_is s at t.kept t.behind c.behind.ensures))
