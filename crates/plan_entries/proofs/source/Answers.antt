-- `source`: the two entries; the item is that found.
use mathlib.Core.Path.{refl, ap, subst, ◌∙◌}
use Prim.Native.Nat.{ℕ, ◌-◌}
use native.Mathlib.Omega.{arith}
use mathlib.Core.Bool.{false}
use Rattle.row_names.specs.Flat.{is_data}
use Rattle.row_tests.specs.Table.{cell_of}
use Rattle.plan.specs.Writes.{source_item, source_count}
use Rattle.plan_cells.specs.Finds.{Finds, found_number}
use Rattle.plan_entries.specs.Turns.{putting, few_sources, few_found}
use Rattle.plan_entries.proofs.source.Goals as goal

pub returns : goal.returns
returns c = λ n h t m q.
    let a = c.args in
    let s = h.stands in
    let l = few_sources h in
    let i = found_number t a.bytes.now false (cell_of a.rows.now a.k 2) (subst (λ (z : ℕ). Finds a.rows.now a.bytes.now a.items.now a.d false z c.find-i.result) c.handle.ensures c.find-i.ensures) in
    let e = c.more.ensures l in
    let z = c.saturating_sub-z.ensures in
    let u = s.sources in
    let v = s.sourced in
    putting c.put-2.ensures source_count refl refl (c.saturating_sub.ensures ∙ ap (λ (j : ℕ). j - 1) s.tasks) (c.short-2.ensures (omega arith) ∙ omega arith)
    (putting c.put.ensures source_item refl refl s.sources (c.short.ensures (few_found h is_data _ i) ∙ i) q)
