-- Laws: a cell of a row as it stands in the table, and that the sheet of a table that encodes rows within the limits agrees with them. By where each row stands.
use Rattle.std.specs.Prelude.{ℕ, ◌+◌, ◌*◌, ◌≤◌, ◌<◌, ◌≡◌, List, length, get_or}
use Rattle.std.proofs.Common.{ap, ◌∙◌, arith, lt-ltb}
use Rattle.paper_expressions.specs.View.{At}
use Rattle.parts.specs.Texts.{text_at_fn}
use Rattle.parts.specs.Part.{Table}
use Rattle.parts.specs.ItemLaws.{index_of}
use Rattle.guideline_rows.specs.Rows.{Row}
use Rattle.guideline_rows.specs.Encoded.{name_place, Encoded}
use Rattle.guideline_rows.specs.InLimits.{InLimits}
use Rattle.guideline_rows.specs.RowLaws.{stands, kind_cell, word_cell, place_cell, name_spelt}
use Rattle.row_names.specs.Agreement.{Agrees}
use Rattle.row_tests.specs.Table.{row_limit, cell_of, sheet}

pub cell_is : (x : List ℕ) (i c : ℕ) → i < row_limit → cell_of x i c ≡ get_or x (i * 8 + c) 0
unfolding cell_of
cell_is x i c h = rw (lt-ltb i row_limit h)

pub encoded_agrees : {rows : List Row} {x : List ℕ} {t : Table} {n : ℕ} → Encoded rows x t → InLimits rows → n ≡ length rows → n ≤ row_limit → Agrees (sheet x n t.bytes) rows
encoded_agrees {rows} {x} {t} {n} e l c few = record {
  count = c;
  kind = λ {i} {r} h. cell_is x i 0 (below h) ∙ kind_cell (stands e h);
  word = λ {i} {r} h. cell_is x i 1 (below h) ∙ word_cell (stands e h);
  spelt = λ {i} {r} {n = m} h q. ap (text_at_fn t.bytes) (cell_is x i 2 (below h)) ∙ name_spelt (stands e h) q (l.names h q);
  place = λ {i} {r} {n = m} h q. cell_is x i 3 (below h) ∙ place_cell (stands e h) ∙ ap name_place q;
}
  where
    below : {i : ℕ} {r : Row} → At rows i r → i < row_limit
    below h = omega (arith, index_of h)
