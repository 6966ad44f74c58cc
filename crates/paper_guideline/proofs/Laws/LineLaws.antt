-- At most one answer of the small program fits a line, and at most one output fits its input: one first broken stage; else one tree, one type, one value.
use Rattle.std.specs.Prelude.{ℕ, ◌+◌, ◌≤◌, ◌<◌, ◌≡◌, refl, List, [], ◌∷◌, ◌++◌}
use Rattle.std.proofs.Common.{arith, sym, ap, subst, ◌∙◌, ⊎_elim}
use Rattle.paper_expressions.specs.Values.{Value}
use Rattle.paper_expressions.specs.Types.{Ty}
use Rattle.paper_expressions.specs.Clauses.{Clause}
use Rattle.paper_expressions.specs.View.{At, Apart}
use Rattle.paper_expressions.specs.Expressions.{Expr, HasType}
use Rattle.paper_expressions.specs.Evaluation.{Evaluates}
use Rattle.paper_expressions.proofs.Laws.Typing.{one_type}
use Rattle.paper_expressions.proofs.Laws.Promise.{eval_only}
use Rattle.paper_tokens.specs.Lexical.{Token}
use Rattle.paper_guideline.specs.Tree.{anywhere, Tree}
use Rattle.paper_guideline.specs.Refusals.{Stage, turn, number}
use Rattle.paper_guideline.specs.Line.{no_items, LineTree, LineBreach, LineAnswer, refused, gives, LineAnswers, line_refused, line_gives, Writes, no_more_lines, next_line, Output, output, digits_of, answer_written}
use Rattle.paper_tokens.proofs.Laws.LexicalLaws.{one_list}
use Rattle.paper_guideline.proofs.Laws.TreeLaws.{one_tree}
use Rattle.paper_guideline.proofs.Laws.RefusalLaws.{by_turn, by_its_turn, le_or_gt}

none_alike : Apart no_items
none_alike = record { items = λ h. elim h [ ]; tasks = λ h. elim h [ ] }

pub one_line_tree : {line : List ℕ} {e f : Expr} → LineTree line e → LineTree line f → e ≡ f
one_line_tree {e} h k =
    one_tree (subst (λ (ts : List Token). Tree anywhere 1 ts [] e) (one_list h.its k.its) h.tree) k.tree

module _ {line : List ℕ} where
  not_earlier : (s r : Stage) → ((q : Stage) → turn q < turn s → ¬ LineBreach line q) → LineBreach line r → turn s ≤ turn r
  not_earlier s r first broken = ⊎_elim (λ l. l) (λ l. absurd (first r l broken)) (le_or_gt (turn s) (turn r))

  pub one_line_answer : {a b : LineAnswer} → LineAnswers line a → LineAnswers line b → a ≡ b
  one_line_answer (line_refused {s} b f) (line_refused {s = r} c g) =
      let h = not_earlier s r f c in
      let k = not_earlier r s g b in
      let e : turn s ≡ turn r = omega arith in
      ap (λ (q : Stage). refused (number q)) (sym (by_its_turn s) ∙ ap by_turn e ∙ by_its_turn r)
  one_line_answer (line_refused {s} b f) (line_gives n t h v) = absurd (n s b)
  one_line_answer (line_gives n t h v) (line_refused {s} b f) = absurd (n s b)
  one_line_answer (line_gives {t = ty} {cs} {v = w} n t h v) (line_gives {t = uy} {cs = ds} {v = x} m u k y) =
      let e = one_line_tree t u in
      let same-type = one_type no_items 0 none_alike (subst (λ (z : Expr). HasType no_items 0 z ty) e h) k in
      let here = eval_only no_items 0 none_alike (subst (λ (z : Expr). Evaluates no_items 0 z cs w) e v) in
      let there = eval_only no_items 0 none_alike y in
      let same_value : w ≡ x = cc in
      cc

pub one_writing : {n : ℕ} {lines : List (List ℕ)} {v w : List ℕ} → Writes n lines v → Writes n lines w → v ≡ w
one_writing no_more_lines no_more_lines = refl
one_writing {n} (next_line a m) (next_line b k) =
    let e = one_line_answer a b in
    let f = one_writing m k in
    cc

pub one_output : {input v w : List ℕ} → Output input v → Output input w → v ≡ w
one_output (output h) (output k) = let e = one_writing h k in cc
