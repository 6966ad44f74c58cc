-- The part table of a line: the reader puts the tree there, over the line's own bytes, as the last step asks for. By what it promises.
use Rattle.std.specs.Prelude.{ℕ, ◌*◌, ◌≤◌, ◌<◌, ◌≡◌, List, length}
use Rattle.std.proofs.Common.{arith, ⊎_elim}
use Rattle.paper_guideline.specs.Tree.{anywhere}
use Rattle.paper_guideline.specs.Limits.{guideline_limit, part_limit}
use Rattle.paper_guideline.specs.Refusals.{text_stage}
use Rattle.paper_guideline.proofs.Laws.RefusalLaws.{le_or_gt}
use Rattle.paper_guideline.specs.Line.{line_long}
use Rattle.parts.specs.Part.{table}
use Rattle.leaves.specs.Source.{source}
use Rattle.expression_steps.specs.declared.Built.{Built}
use Rattle.expression_reader.specs.Reads.{Reads, bare_size, parts_size}
use Rattle.line_answer.specs.Steps.{Before, Fitting, Held}
use Rattle.line_answer.specs.Stages.{line_tree}
use Rattle.line_answer.specs.Tests.{read}

short_line : (line : List ℕ) {n : ℕ} → 0 < n → Before line n → length line ≤ guideline_limit
short_line line l f = ⊎_elim (λ h. h) (λ h. absurd (f text_stage l (line_long h))) (le_or_gt (length line) guideline_limit)

module _ {line kinds places lengths x y : List ℕ} {m : Built} (f : Fitting line kinds places lengths) (reads : Reads anywhere (source line kinds places lengths) x y 0 0 m)
    (all : length x ≡ part_limit * 4) where
  pub held : Held line (table y line) m.used
  held =
      let p = f.parsed in
      let e = p.expression in
      let w = read p reads in
      let u = w.used in
      let k = bare_size e in
      let q = parts_size e in
      let s = f.small in
      record {
        expression = e;
        tree = line_tree p.its p.tree;
        before = f.before;
        ends = record { start = 0; spans = omega arith; held = w.held f.clean (short_line line (omega arith) f.before) (omega arith) (omega arith) };
        deep = f.deep;
        modest = f.modest;
      }
