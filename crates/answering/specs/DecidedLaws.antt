-- From load's answer to what is decided: no table is short, so a breach is one without short tables. And only one reply fits.
use Rattle.std.specs.Prelude.{ℕ, ◌*◌, ◌≡◌, refl, List, length, Result, Ok, Err, ⊤}
use Rattle.std.proofs.Common.{subst}
use Rattle.paper_expressions.proofs.Laws.Tests.{contra}
use Rattle.paper_guideline.specs.Limits.{guideline_limit, part_limit}
use Rattle.parts.specs.Part.{Table}
use Rattle.limits.specs.Limits.{row_cells}
use Rattle.stages.specs.declared.Refused.{Refused}
use Rattle.answering.specs.Reply.{Reply, Answered}
use Rattle.answering.specs.Stages.{never_both, swapped}
use Rattle.stages.specs.Judged.{Short, refusal}
use Rattle.reading.specs.Laws.{same_refusal}
use Rattle.paper_guideline.proofs.Laws.RefusalLaws.{one_answer}
use Rattle.answering.specs.Decided.{Decides}

-- ---- tables with all cells

module _ {text x z : List ℕ} {t u : Table} {r : Result ℕ Refused} (a : Answered text x t z u r) (rows : length x ≡ row_cells) (cells : length t.cells ≡ part_limit * 4)
    (bytes : length t.bytes ≡ guideline_limit) where
  never : ¬ Short x t
  never e = contra (rw (rows, cells, bytes) at e)

  pub loaded : {n : ℕ} {v : ⊤} → r ≡ Ok n → Decides text (Ok v)
  loaded e = swapped never (λ z. absurd z) (subst (Reply text x t z u) e a.reply).answers

  pub turned : {s : Refused} → r ≡ Err s → Decides text (Err s)
  turned e = swapped never (λ z. absurd z) (subst (Reply text x t z u) e a.reply).0

-- ---- only one reply fits

pub one_reply : (text : List ℕ) (r s : Result ⊤ Refused) → Decides text r → Decides text s → r ≡ s
one_reply text (Ok u) (Ok v) a b = refl
one_reply text (Ok u) (Err s) a b = never_both a b
one_reply text (Err r) (Ok u) a b = never_both b a
one_reply text (Err r) (Err s) a b = same_refusal {A = Result ⊤ Refused} (λ n p. Err (refusal n p)) (one_answer a b)
