-- `line`: the newlines before the place are those that are counted.
use Rattle.std.proofs.Common.{◌≡◌, ℕ, zero, suc, ◌+◌, ◌≤◌, List, take, length, get_or, true, false, eqb, ⊎_elim, sym, ap, ◌∙◌, refl, arith, add-one}
use Rattle.std.specs.List.{count_by}
use Rattle.std.proofs.lemmas.List.Sums.{count_by_more_yes, count_by_more_no}
use Rattle.paper_expressions.proofs.Laws.Tests.{two}
use Rattle.spot.specs.Lines.{newlines}
use Rattle.spot.proofs.lines.line.Goals as goal

counted : (text : List ℕ) (n : ℕ) → n ≤ length text → count_by (λ b. eqb b 10) (take n text) ≡ newlines text n
counted text zero h = refl
counted text (suc n) h =
    let e = counted text n (omega arith) in
    ⊎_elim
    (λ (w : eqb (get_or text n 0) 10 ≡ true). rw (w, ← add-one n) (count_by_more_yes (λ b. eqb b 10) text n 0 (omega arith) w ∙ ap (λ k. k + 1) e))
    (λ (w : eqb (get_or text n 0) 10 ≡ false). rw (w, ← add-one n) (count_by_more_no (λ b. eqb b 10) text n 0 (omega arith) w ∙ e ∙ sym (omega arith)))
    (two (eqb (get_or text n 0) 10))

pub returns : goal.returns
returns c = λ h.
    let e : c.min.result ≡ c.args.place = omega arith in
    ap (λ k. k + 1) (rw e at c.newlines.ensures.counted ∙ counted c.args.text.now c.args.place h)
