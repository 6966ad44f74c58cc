-- What the totals of a guideline are, by its parts. Law: those of its rows are. By the laws on rows.
use Rattle.std.specs.Prelude.{ℕ, ◌+◌, ◌≤◌, ◌≡◌, refl, true, false, List, [], ◌∷◌, length}
use Rattle.std.proofs.Common.{sym, subst, ◌∙◌, arith}
use Rattle.std.proofs.Math.Option.{Option, none, some}
use Rattle.paper_guideline.specs.Structure.{Outermost, TopLevel, tasks, data_items}
use Rattle.paper_guideline.specs.Parts.{expressions, assignments, sources}
use Rattle.paper_guideline.specs.Refusals.{total_parts}
use Rattle.expression_reader.specs.Reads.{parts_size}
use Rattle.guideline_rows.specs.Rows.{Row, flatten, expression_of}
use Rattle.guideline_rows.specs.Sizes.{size_in, parts_in}
use Rattle.guideline_rows.specs.Tally as Tally
use Rattle.guideline_rows.specs.TallyLaws.{TooLarge, tasks_law, data_items_law, assignments_law, sources_law, parts_law, large_law, large_back}
use Rattle.guideline_walk.specs.declared.Totals.{Totals}
use Rattle.guideline_walk.specs.Made.{Tallied}

pub record Surveyed (g : List TopLevel) (r : Totals) : Type 0 where
  pub tasks : r.tasks ≡ length (tasks g)
  pub items : r.items ≡ length (data_items g)
  pub assignments : r.assignments ≡ length (assignments g)
  pub sources : r.sources ≡ length (sources g)
  pub parts : r.parts ≡ total_parts (expressions g)
  -- some expression is past a limit, and the smallest place where such a one starts; 0 if there is none
  pub large : r.large ≡ true → TooLarge g r.place
  pub least : (q : ℕ) → TooLarge g q → (r.large ≡ true) × (r.place ≤ q)
  pub none : r.large ≡ false → r.place ≡ 0

-- the parts of rows, as the part table and as document 01 count them
pub parts_same : (rows : List Row) → parts_in rows ≡ Tally.parts_in (Tally.row_expressions rows)
parts_same [] = refl
parts_same (r ∷ rows) = let h = parts_same rows in go (expression_of r) h
  where
    go : (x : Option Outermost) → parts_in rows ≡ Tally.parts_in (Tally.row_expressions rows) → size_in x + parts_in rows ≡ Tally.parts_in (Tally.with x (Tally.row_expressions rows))
    go none h = omega arith
    go (some x) h = let e = parts_size x.tree in omega arith

pub all_parts : (g : List TopLevel) → parts_in (flatten g) ≡ total_parts (expressions g)
all_parts g = parts_same (flatten g) ∙ sym (parts_law g)

pub surveyed : (g : List TopLevel) {w : Totals} → Tallied (flatten g) w → Surveyed g w
surveyed g h = record {
  tasks = let a = h.tasks in let b = tasks_law g in omega arith;
  items = h.items ∙ data_items_law g;
  assignments = h.assignments ∙ assignments_law g;
  sources = h.sources ∙ sources_law g;
  parts = h.parts ∙ all_parts g;
  large = λ k. large_law g (h.some k);
  least = λ v t. h.least v (subst (Tally.LargeAt (Tally.row_expressions (flatten g))) t.start (large_back g t.at t.large));
  none = h.none;
}
