-- Laws: each of the lines of Worked.antt has its answer. One statement over each list of rows, by computing the twins.
use Rattle.std.specs.Prelude.{ℕ, ◌≡◌, refl, List, [], ◌∷◌, map}
use Prim.Native.String.{String}
use Rattle.std.proofs.Common.{arith}
use Rattle.std.proofs.Math.Option.{some}
use Rattle.paper_expressions.specs.Bytes.{bytes}
use Rattle.paper_expressions.specs.Expressions.{Expr}
use Rattle.paper_expressions.proofs.Laws.Sheet.{row, sheet, worked_sheet}
use Rattle.paper_expressions.proofs.Laws.Sheet as Sheet
use Rattle.paper_tokens.specs.Kinds.{kind_of}
use Rattle.paper_tokens.proofs.Laws.FormsLaws.{nul, deriv}
use Rattle.paper_tokens.specs.Words.{reserved, yes_or_no, data_types}
use Rattle.paper_grammar.proofs.Laws.Form as Form
use Rattle.paper_tokens.specs.Lexical.{bare_atom, quoted_atom, integer_form, plain_float, exponent, float_form, string_form, white_form, comment_form}
use Rattle.paper_tokens.proofs.Laws.TerminalLaws.{terminal_f}
use Rattle.paper_guideline.specs.LeftOut.{left_out_words, left_out_functors}
use Rattle.paper_guideline.proofs.Laws.TreeLaws.{infix_f, tree_f}
use Rattle.line_worked.specs.Twin.{line_f, computed, tree_of, tree_computed}
use Rattle.line_worked.specs.Worked.{Row, rows, Every, printed, Printed, no_row, next_row}

-- ---- the small program

answers : map (λ (r : Row). line_f (bytes r.line)) rows ≡ map (λ (r : Row). some r.answer) rows
unfolding rows reserved yes_or_no data_types kind_of nul deriv bare_atom quoted_atom integer_form plain_float exponent float_form string_form white_form comment_form Form.rows Form.blanks terminal_f left_out_words left_out_functors infix_f tree_f
answers = refl

each_row : (rs : List Row) → map (λ (r : Row). line_f (bytes r.line)) rs ≡ map (λ (r : Row). some r.answer) rs → Every rs
each_row [] e = tt
each_row (r ∷ rs) e =
    let h : line_f (bytes r.line) ≡ some r.answer = cc in
    let t : map (λ (r : Row). line_f (bytes r.line)) rs ≡ map (λ (r : Row). some r.answer) rs = cc in
    (computed (bytes r.line) h, each_row rs t)

pub worked_lines : Every rows
worked_lines = each_row rows answers

-- ---- the sheet

abbrev tree-of : Sheet.Row → Expr
tree-of (row e t w) = e

trees : map (λ (s : String). tree_of (bytes s)) printed ≡ map (λ (r : Sheet.Row). some (tree-of r)) Sheet.rows
unfolding reserved yes_or_no data_types kind_of nul deriv bare_atom quoted_atom integer_form plain_float exponent float_form string_form white_form comment_form Form.rows Form.blanks terminal_f left_out_words left_out_functors infix_f tree_f
trees = refl

each_printed : (ss : List String) {rs : List Sheet.Row} → Sheet.Every sheet rs → map (λ (s : String). tree_of (bytes s)) ss ≡ map (λ (r : Sheet.Row). some (tree-of r)) rs → Printed ss rs
each_printed [] Sheet.end q = no_row
each_printed (s ∷ ss) Sheet.end q = absurd (let z : ◌≡◌ {A = ℕ} 0 1 = cc in omega arith)
each_printed [] (Sheet.◌then◌ h hs) q = absurd (let z : ◌≡◌ {A = ℕ} 0 1 = cc in omega arith)
each_printed (s ∷ ss) (Sheet.◌then◌ {e} {rs} h hs) q =
    let a : tree_of (bytes s) ≡ some e = cc in
    let b : map (λ (s : String). tree_of (bytes s)) ss ≡ map (λ (r : Sheet.Row). some (tree-of r)) rs = cc in
    next_row (tree_computed (bytes s) a) h (each_printed ss hs b)

pub printed_sheet : Printed printed Sheet.rows
printed_sheet = each_printed printed worked_sheet trees
