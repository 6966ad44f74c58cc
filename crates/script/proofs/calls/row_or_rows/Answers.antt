-- `row_or_rows`: by the test whether its word stands there.
use Prim.Native.Nat.{ℕ}
use mathlib.Core.Path.{ap, ◌∙◌}
use Rattle.paper_expressions.specs.Bytes.{bytes}
use Rattle.script.specs.Lexemes.{behind_word}
use Rattle.script.specs.Places.{row_line, rows_line}
use Rattle.script.specs.PlacesLaws.{stands, stands_not}
use Rattle.script.proofs.calls.row_or_rows.Goals as goal

pub returns-then-p : goal.returns-then-p
returns-then-p c =
    let s = c.args.s.now in
    let at = c.args.at in
    stands_not (row_line s (behind_word s at (bytes " "))) c.behind-p.ensures c.if-p.true c.rows.ensures

pub returns : goal.returns
returns c =
    let s = c.args.s.now in
    let at = c.args.at in
    stands (rows_line s at) c.behind-p.ensures c.if-p.false (c.row.ensures ∙ ap (λ (p : ℕ). row_line s p) c.behind-p.ensures)
