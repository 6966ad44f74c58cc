-- `run_or_row`: by the test whether its word stands there.
use Prim.Native.Nat.{ℕ}
use mathlib.Core.Path.{ap, ◌∙◌}
use Rattle.paper_expressions.specs.Bytes.{bytes}
use Rattle.script.specs.Lexemes.{behind_word}
use Rattle.script.specs.Places.{run_line, row_or_rows}
use Rattle.script.specs.PlacesLaws.{stands, stands_not}
use Rattle.script.proofs.calls.run_or_row.Goals as goal

pub returns-then-p : goal.returns-then-p
returns-then-p c =
    let s = c.args.s.now in
    let at = c.args.at in
    stands_not (run_line s (behind_word s at (bytes "un "))) c.behind-p.ensures c.if-p.true (c.row_or_rows.ensures ∙ ap (λ (p : ℕ). row_or_rows s p) c.behind.ensures)

pub returns : goal.returns
returns c =
    let s = c.args.s.now in
    let at = c.args.at in
    stands (row_or_rows s (behind_word s at (bytes "ow"))) c.behind-p.ensures c.if-p.false (c.run.ensures ∙ ap (λ (p : ℕ). run_line s p) c.behind-p.ensures)
