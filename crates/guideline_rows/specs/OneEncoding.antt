-- Law: a guideline has one encoding. Columns of the same lengths that encode the same rows are the same, cell by cell.
use Rattle.std.specs.Prelude.{ℕ, ◌≡◌, List, length}
use Rattle.std.proofs.Common.{sym, ap, ◌∙◌, ext_get_or}
use Rattle.parts.specs.Part.{Table, table}
use Rattle.parts.specs.Encode.{flat}
use Rattle.guideline_rows.specs.Rows.{Row}
use Rattle.guideline_rows.specs.Encoded.{text_of, parts_of, cells_of, Has, Encoded}

-- columns as long as those
pub record AsLong (x y : List ℕ) (t u : Table) : Type 0 where
  pub cells : length x ≡ length y
  pub parts : length t.cells ≡ length u.cells
  pub bytes : length t.bytes ≡ length u.bytes

one_column : {x y : List ℕ} (s : List ℕ) → length x ≡ length y → Has x s → Has y s → x ≡ y
one_column {x} {y} s e h k = ext_get_or 0 x y e (λ i l. h i ∙ sym (k i))

same_tables : {t u : Table} → t.cells ≡ u.cells → t.bytes ≡ u.bytes → t ≡ u
same_tables {t} {u} a e = ap (λ (k : List ℕ). table k t.bytes) a ∙ ap (table u.cells) e

pub one_encoding : {rows : List Row} {x y : List ℕ} {t u : Table} → AsLong x y t u → Encoded rows x t → Encoded rows y u → (x ≡ y) × (t ≡ u)
one_encoding {rows} l e f = (
  one_column (cells_of 0 0 rows) l.cells e.cells f.cells,
  same_tables (one_column (flat (parts_of 0 rows)) l.parts e.parts f.parts) (one_column (text_of rows) l.bytes e.bytes f.bytes),
)
