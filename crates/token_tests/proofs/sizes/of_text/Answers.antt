-- `of_text`: the bytes between the quotes.
use Rattle.std.proofs.Common.{◌≡◌, sym, ap, ◌∙◌, arith, length, lt-ltb, le-ltb}
use Rattle.paper_expressions.specs.Limits as Values
use Rattle.paper_tokens.specs.Lexical.{inner}
use Rattle.parts.specs.Texts.{cells}
use Rattle.leaves.specs.Cells.{length_cells}
use Rattle.token_tests.proofs.sizes.of_text.Goals as goal

pub returns-then-s-gt-TEXT_LIMIT : goal.returns-then-s-gt-TEXT_LIMIT
returns-then-s-gt-TEXT_LIMIT c =
    let a = c.args in
    let s = c.inside-s in
    let e : s.result.n ≡ length (inner (cells a.text.now a.at a.n)) = sym (length_cells a.text.now s.result.at s.result.n) ∙ ap length s.ensures.0 in
    rw (lt-ltb Values.text_limit (length (inner (cells a.text.now a.at a.n))) (omega arith))

pub returns-else-s-gt-TEXT_LIMIT : goal.returns-else-s-gt-TEXT_LIMIT
returns-else-s-gt-TEXT_LIMIT c =
    let a = c.args in
    let s = c.inside-s in
    let e : s.result.n ≡ length (inner (cells a.text.now a.at a.n)) = sym (length_cells a.text.now s.result.at s.result.n) ∙ ap length s.ensures.0 in
    rw (le-ltb Values.text_limit (length (inner (cells a.text.now a.at a.n))) (omega arith))
