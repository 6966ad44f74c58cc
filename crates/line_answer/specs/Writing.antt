-- An answer that is written to blank cells is the whole of what they hold: its bytes, and zeros behind them.
use Rattle.std.specs.Prelude.{ℕ, zero, suc, ◌+◌, ◌-◌, ◌≤◌, ◌≡◌, refl, List, ◌++◌, length, drop}
use Rattle.std.proofs.Common.{arith, ap, ◌∙◌}
use Rattle.paper_expressions.proofs.Laws.WithinLimits.{Limited}
use Rattle.paper_expressions.specs.Types.{Ty}
use Rattle.paper_expressions.specs.Values.{Value}
use Rattle.paper_guideline.specs.Line.{LineAnswer, refused, gives, LineAnswers, answer_written}
use Rattle.tokens.specs.Reply.{filled, blank}
use Rattle.digits.specs.Appends.{placed, Appends}
use Rattle.written.specs.Longest.{longest_refusal, longest_answer}
use Rattle.line_answer.specs.Reply.{Answered}
use Rattle.line_answer.specs.Steps.{Blank}

drop_blank : (k n : ℕ) → drop k (blank n) ≡ blank (n - k)
drop_blank zero n = ap blank (let e : n ≡ n - 0 = omega arith in e)
drop_blank (suc k) zero = ap blank (let e : 0 ≡ 0 - suc k = omega arith in e)
drop_blank (suc k) (suc n) = drop_blank k n ∙ ap blank (let e : n - k ≡ suc n - suc k = omega arith in e)

placed_blank : (n : ℕ) (w : List ℕ) → placed (blank n) 0 w ≡ filled n w
unfolding placed
placed_blank n w = ap (λ (l : List ℕ). w ++ l) (drop_blank (0 + length w) n ∙ ap (λ (k : ℕ). blank (n - k)) (let e : 0 + length w ≡ length w = omega arith in e))

answered : {line out cells : List ℕ} {n r : ℕ} (a : LineAnswer) → out ≡ blank n → length out ≡ n → length (answer_written a) ≤ n
    → LineAnswers line a → Appends out cells 0 r (answer_written a) → Answered line n cells r
answered {n} a e l room h w =
    let x = w.wrote (omega arith) in
    record {
      answer = a;
      answers = h;
      bytes = x.0 ∙ (let z : 0 + length (answer_written a) ≡ length (answer_written a) = omega arith in z);
      written = x.1 ∙ ap (λ (o : List ℕ). placed o 0 (answer_written a)) e ∙ placed_blank n (answer_written a);
    }

module _ {line out cells : List ℕ} {r : ℕ} (o : Blank out) where
  pub refuses : {n : ℕ} → LineAnswers line (refused n) → Appends out cells 0 r (answer_written (refused n)) → Answered line (length out) cells r
  refuses {n} h w = let l = o.room in let s = longest_refusal n in answered (refused n) o.all_zero refl (omega arith) h w

  pub answers : {t : Ty} {v : Value} → Limited v → LineAnswers line (gives t v) → Appends out cells 0 r (answer_written (gives t v)) → Answered line (length out) cells r
  answers {t} {v} m h w = let l = o.room in let s = longest_answer t m in answered (gives t v) o.all_zero refl (omega arith) h w
