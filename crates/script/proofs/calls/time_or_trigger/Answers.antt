-- `time_or_trigger`: by the test whether its word stands there.
use Prim.Native.Nat.{ℕ}
use mathlib.Core.Path.{ap, ◌∙◌}
use Rattle.paper_expressions.specs.Bytes.{bytes}
use Rattle.script.specs.Lexemes.{behind_word}
use Rattle.script.specs.Places.{time_line, trigger_line}
use Rattle.script.specs.PlacesLaws.{stands, stands_not}
use Rattle.script.specs.Values.{trigger_in}
use Rattle.script.specs.ValuesLaws.{when_nowhere, when_stands}
use Rattle.script.proofs.calls.time_or_trigger.Goals as goal

pub returns-then-p : goal.returns-then-p
returns-then-p c =
    let s = c.args.s.now in
    let at = c.args.at in
    let t = c.trigger.ensures in (
      t.0 ∙ ap (λ (p : ℕ). trigger_in s p c.args.bytes.now) c.behind.ensures ∙ when_nowhere (trigger_in s (behind_word s at (bytes "rigger ")) c.args.bytes.now) c.args.bytes.now c.behind-p.ensures c.if-p.true,
      stands_not (time_line s (behind_word s at (bytes "ime "))) c.behind-p.ensures c.if-p.true (t.1 ∙ ap (λ (p : ℕ). trigger_line s p) c.behind.ensures),
    )

pub returns : goal.returns
returns c =
    let s = c.args.s.now in
    let at = c.args.at in
    (when_stands (trigger_in s (behind_word s at (bytes "rigger ")) c.args.bytes.now) c.args.bytes.now c.behind-p.ensures c.if-p.false, stands (trigger_line s (behind_word s at (bytes "rigger "))) c.behind-p.ensures c.if-p.false (c.time.ensures ∙ ap (λ (p : ℕ). time_line s p) c.behind-p.ensures))
