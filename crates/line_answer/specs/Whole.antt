-- The first step, and the whole: what the tokens' reply says of a line, and when the cells hold the answer. Law: at most one reply meets the contract.
use Rattle.std.specs.Prelude.{ℕ, ◌≤◌, ◌<◌, ◌≡◌, refl, List, length, take}
use Rattle.std.proofs.Common.{arith, sym, ap, subst, ◌∙◌, ⊎_elim}
use Rattle.std.proofs.lemmas.List.{length-replicate}
use Rattle.paper_guideline.specs.Limits.{token_limit}
use Rattle.paper_guideline.proofs.Laws.RefusalLaws.{le_or_gt}
use Rattle.paper_guideline.specs.Line.{LineAnswer, refused, LineAnswers, answer_written}
use Rattle.paper_guideline.proofs.Laws.LineLaws.{one_line_answer}
use Rattle.tokens.specs.declared.Read.{Read}
use Rattle.tokens.specs.declared.Read.TheVariants.{Tokens, Refused}
use Rattle.tokens.specs.Reply.{filled, blank, Reads}
use Rattle.written.specs.Limit.{answer_limit}
use Rattle.line_answer.specs.Reply.{Answered, Reply}
use Rattle.line_answer.specs.Steps.{Blank, Lexed}
use Rattle.line_answer.specs.Stages.{early_refusal}
use Rattle.columns.specs.Replies.{turned}
use Rattle.line_answer.specs.Columns.{lexed}

-- ---- the tokens

module _ (line kinds places lengths : List ℕ) {v : Read} (reads : Reads line token_limit token_limit token_limit kinds places lengths v) where
  pub early : {n p : ℕ} → v ≡ Refused n p → LineAnswers line (refused n)
  early e = let h = turned line kinds places lengths reads e in early_refusal h.refused h.stage

  pub read : {n : ℕ} → v ≡ Tokens n → Lexed line (take n kinds) places lengths
  read e = lexed (subst (Reads line token_limit token_limit token_limit kinds places lengths) e reads).1

-- ---- the cells

module _ {out : List ℕ} (n : ℕ) (e : out ≡ blank n) where
  long : length out ≡ n
  long = ap length e ∙ length-replicate n 0

  pub are_blank : answer_limit ≤ length out → Blank out
  are_blank l = record { room = l; all_zero = e ∙ ap blank (sym long) }

  pub no_answer : (line : List ℕ) → length out < answer_limit → Reply line n out 0
  no_answer line l = let k = long in record { answered = λ h. absurd (omega arith); short = λ h. (refl, e) }

  pub an_answer : {line cells : List ℕ} {r : ℕ} → answer_limit ≤ length out → Answered line (length out) cells r → Reply line n cells r
  an_answer {line} {cells} {r} l a = let k = long in record { answered = λ h. subst (λ (m : ℕ). Answered line m cells r) k a; short = λ h. absurd (omega arith) }

-- ---- two replies that meet the contract are the same

pub one_reply : {line : List ℕ} {n : ℕ} {cells cells' : List ℕ} {r r' : ℕ} → Reply line n cells r → Reply line n cells' r' → (r ≡ r') × (cells ≡ cells')
one_reply {n} f g = ⊎_elim
    (λ (l : answer_limit ≤ n).
    let a = f.answered l in
    let b = g.answered l in
    let e = one_line_answer a.answers b.answers in
    (a.bytes ∙ ap (λ (x : LineAnswer). length (answer_written x)) e ∙ sym b.bytes, a.written ∙ ap (λ (x : LineAnswer). filled n (answer_written x)) e ∙ sym b.written))
    (λ (l : n < answer_limit).
    let a = f.short l in
    let b = g.short l in
    (a.0 ∙ sym b.0, a.1 ∙ sym b.1))
    (le_or_gt answer_limit n)
