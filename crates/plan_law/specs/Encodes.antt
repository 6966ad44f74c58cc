-- Law: tables that encode the rows of a guideline within the limits are read as the rows of the guideline without places and parentheses,
-- whatever stands in the text bytes behind the guideline's own. By where each row stands.
use Rattle.std.specs.Prelude.{ℕ, suc, ◌+◌, ◌≤◌, ◌<◌, ◌≡◌, List, [], ◌∷◌, length, get_or}
use Rattle.std.proofs.Common.{arith, sym, ap, subst, ◌∙◌}
use Rattle.std.proofs.Math.Option.{some}
use Rattle.std.proofs.lemmas.List.{length-map}
use Rattle.paper_expressions.specs.Expressions.{Expr}
use Rattle.paper_expressions.specs.View.{At}
use Rattle.paper_expressions.proofs.Laws.Parentheses.{bare}
use Rattle.paper_guideline.specs.Structure.{Name, Outermost, TopLevel}
use Rattle.paper_rows.specs.Bare.{bare_guideline}
use Rattle.paper_rows.proofs.Laws.Lists.{map_at}
use Rattle.parts.specs.Texts.{text_at_fn}
use Rattle.parts.specs.Part.{table, Ends}
use Rattle.parts.specs.Encode.{flat, Spelt}
use Rattle.parts.specs.EncodeLaws.{spelt_laid}
use Rattle.parts.specs.ItemLaws.{index_of}
use Rattle.guideline_rows.specs.Rows.{Row, flatten, kind-of, name_of, expression_of, flag_of}
use Rattle.guideline_rows.specs.Encoded.{text_of, parts_of, cells_of, Encoded}
use Rattle.guideline_rows.specs.InLimits.{InLimits, Stood}
use Rattle.guideline_rows.specs.RowLaws.{has_all, stood_from, stands, kind_cell, flag_cell, name_spelt, expression_held}
use Rattle.row_tests.specs.Table.{row_limit, cell_of}
use Rattle.row_tests.specs.EncodedSheet.{cell_is}
use Rattle.planned.specs.Planned.{own_texts}
use Rattle.plan.specs.Writes.{outline}
use Rattle.plan_rows.specs.Reads.{Reads}
use Rattle.plan_law.specs.BareRows.{bare_row, flatten_bare, kind_bare, flag_bare, name_bare, expression_bare}

-- bytes that stand in b stand in c, which has the same up to the place n
spelt_as : (b c : List ℕ) (n : ℕ) → ((i : ℕ) → i < n → get_or c i 0 ≡ get_or b i 0) → (s : List ℕ) (o : ℕ) → o + length s ≤ n → Spelt b o s → Spelt c o s
spelt_as b c n h [] o l k = tt
spelt_as b c n h (x ∷ s) o l k = (h o (omega arith) ∙ k.0, spelt_as b c n h s (suc o) (omega arith) k.1)

module _ (g : List TopLevel) {x q b : List ℕ} (c : List ℕ) {n : ℕ} (encoded : Encoded (flatten g) x (table q b)) (limits : InLimits (flatten g)) (count : n ≡ length (flatten g)) (few : n ≤ row_limit)
    (short : length (text_of (flatten g)) ≤ own_texts) (same : (i : ℕ) → i < own_texts → get_or c i 0 ≡ get_or b i 0) where
  -- a row stands in the tables with the other bytes, too
  stands_too : {i : ℕ} {r : Row} → At (flatten g) i r → Stood x (table q c) i r
  stands_too {i} {r} h =
      subst (λ (j : ℕ). Stood x (table q c) j r) {x = 0 + i} {y = i} (omega arith)
      (stood_from x (table q c) h 0 0 0 (has_all x (cells_of 0 0 (flatten g)) encoded.cells)
      (spelt_as b c own_texts same (text_of (flatten g)) 0 (omega arith) (has_all b (text_of (flatten g)) encoded.bytes))
      (spelt_laid q c (parts_of 0 (flatten g)) 0 (has_all q (flat (parts_of 0 (flatten g))) encoded.parts)))

  -- the row of the guideline that a bare row is of
  its : {i : ℕ} {r : Row} → At (flatten (bare_guideline g)) i r → (z : Row) × At (flatten g) i z × (bare_row z ≡ r)
  its {i} {r} h = map_at bare_row (flatten g) (subst (λ (l : List Row). At l i r) (flatten_bare g) h)

  below : {i : ℕ} {r : Row} → At (flatten g) i r → i < row_limit
  below h = let l = index_of h in omega arith

  pub reads : Reads (outline x n b) (table q c) (bare_guideline g)
  reads = record { count = number; kind = kind; spelt = spelt; flag = flag; named = named; ends = ends }
    where
      number : n ≡ length (flatten (bare_guideline g))
      number = count ∙ sym (ap length (flatten_bare g) ∙ length-map (flatten g) bare_row)

      kind : {i : ℕ} {r : Row} → At (flatten (bare_guideline g)) i r → cell_of x i 0 ≡ kind-of r
      kind {i} h = let z = its h in cell_is x i 0 (below z.1) ∙ kind_cell (stands encoded z.1) ∙ sym (kind_bare z.0) ∙ ap kind-of z.2

      flag : {i : ℕ} {r : Row} → At (flatten (bare_guideline g)) i r → cell_of x i 7 ≡ flag_of r
      flag {i} h = let z = its h in cell_is x i 7 (below z.1) ∙ flag_cell (stands encoded z.1) ∙ sym (flag_bare z.0) ∙ ap flag_of z.2

      spelt : {i : ℕ} {r : Row} {m : Name} → At (flatten (bare_guideline g)) i r → name_of r ≡ some m → text_at_fn b (cell_of x i 2) ≡ m.spelt
      spelt {i} h e =
          let z = its h in
          let k = name_bare z.0 (ap name_of z.2 ∙ e) in
          ap (text_at_fn b) (cell_is x i 2 (below z.1)) ∙ name_spelt (stands encoded z.1) k.1 (limits.names z.1 k.1) ∙ k.2

      named : {i : ℕ} {r : Row} {m : Name} → At (flatten (bare_guideline g)) i r → name_of r ≡ some m → text_at_fn c (cell_of x i 2) ≡ m.spelt
      named {i} h e =
          let z = its h in
          let k = name_bare z.0 (ap name_of z.2 ∙ e) in
          ap (text_at_fn c) (cell_is x i 2 (below z.1)) ∙ name_spelt (stands_too z.1) k.1 (limits.names z.1 k.1) ∙ k.2

      ends : {i : ℕ} {r : Row} {y : Outermost} → At (flatten (bare_guideline g)) i r → expression_of r ≡ some y → Ends (table q c) (cell_of x i 6) (bare y.tree)
      ends {i} h e =
          let z = its h in
          let k = expression_bare z.0 (ap expression_of z.2 ∙ e) in
          subst (λ (t : Expr). Ends (table q c) (cell_of x i 6) t) k.2
          (subst (λ (j : ℕ). Ends (table q c) j (bare k.0.tree)) (sym (cell_is x i 6 (below z.1))) (expression_held (stands_too z.1) k.1 (limits.texts z.1 k.1)))
