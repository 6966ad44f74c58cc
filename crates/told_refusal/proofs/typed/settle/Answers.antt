-- `settle`: the columns of the data items, and then the parts; no guideline has more items than there is room for.
use Rattle.std.proofs.Common.{ℕ}
use Rattle.std.proofs.lemmas.List.{length-replicate}
use Rattle.parts.specs.Part.{table}
use Rattle.told_refusal.specs.SettledLaws.{too_many, settled, untyped_or, untyped_within}
use Rattle.told_refusal.proofs.typed.settle.Goals as goal

pub returns-then-m-gt-LIMIT-clause-settled : goal.returns-then-m-gt-LIMIT-clause-settled
returns-then-m-gt-LIMIT-clause-settled c g given = let a = c.args in too_many c.gather-m.ensures (table a.cells.now a.bytes.now) c.if-m-gt-LIMIT.true given

pub returns-clause-settled : goal.returns-clause-settled
returns-clause-settled c =
    let a = c.args in
    settled c.gather-m.ensures (table a.cells.now a.bytes.now) (length-replicate {A = ℕ} 64 0) (length-replicate {A = ℕ} 64 0) (untyped_or _ _ _ _ _ _ c.untyped.ensures) c.spell.ensures

pub returns-clause-within : goal.returns-clause-within
returns-clause-within c = untyped_within _ _ _ _ _ _ c.untyped.ensures
