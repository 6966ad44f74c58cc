-- Law: of a kept table whose counts are counted, what Start's rows ask holds.
use Rattle.std.specs.Prelude.{ℕ, ◌<◌, ◌≡◌, ◌⊎◌, List, pos}
use Rattle.std.proofs.Common.{arith, inl, inr}
use Rattle.paper_guideline.specs.Structure.{TopLevel}
use Rattle.paper_expressions.specs.Expressions.{Expr}
use Rattle.paper_rows.specs.Table.{task, ◌№◌, procedure, integer_row, expression_is, Table, Contains}
use Rattle.paper_rows.specs.Load.{Adds}
use Rattle.paper_engine.proofs.Laws.Kept.{Kept}
use Rattle.paper_engine.proofs.Laws.CountLaws.{Counted}
use Rattle.starting.specs.StartRows.{Countable}

same_count : {a b : ℕ} → integer_row (pos a) ≡ integer_row (pos b) → a ≡ b
same_count e = cc

pub countable : {t : Table} → Counted t → (T : ℕ) → Countable t T
countable h T k c = go (h.small c)
  where
    go : (integer_row (pos k) ≡ integer_row (pos 0)) ⊎ (integer_row (pos k) ≡ integer_row (pos 1)) → k < 4294967295
    go (inl e) = let z = same_count e in omega arith
    go (inr e) = let z = same_count e in omega arith

pub no_procedure : {g : List TopLevel} {t : Table} → Kept g t → (T : ℕ) (e : Expr) → ¬ Contains t (task № T) procedure (expression_is e)
no_procedure {g} kept T e h = none_added ((kept.fixed (λ z. elim z [ ])).0 h)
  where
    none_added : ¬ Adds g (task № T) procedure (expression_is e)
    none_added z = elim z [ ]
