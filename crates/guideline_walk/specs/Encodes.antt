-- Law: what is laid over blank tables is the encoding of the rows, cell by cell.
use Rattle.std.specs.Prelude.{ℕ, ◌+◌, ◌<◌, ◌≡◌, List, length, get_or}
use Rattle.std.proofs.Common.{sym, ap, ◌∙◌, inr, arith}
use Rattle.std.proofs.Math.Decide.{dec_lt}
use Rattle.std.proofs.Math.ListN.{get_or-eq_default}
use Rattle.parts.specs.Part.{table}
use Rattle.pool.specs.Written.{Written}
use Rattle.pool.specs.WrittenLaws.{spelt_at}
use Rattle.guideline_rows.specs.Rows.{Row}
use Rattle.guideline_rows.specs.Encoded.{Has, Encoded}
use Rattle.guideline_walk.specs.declared.Totals.{Totals}
use Rattle.guideline_walk.specs.Made.{Laid}

-- only zeros
abbrev pub Blank : List ℕ → Type 0
Blank l = (j : ℕ) → get_or l j 0 ≡ 0

has_written : {l m s : List ℕ} → Written l m 0 s → Blank l → Has m s
has_written {l} {m} {s} w b i = go (dec_lt i (length s))
  where
    go : Dec (i < length s) → get_or m i 0 ≡ get_or s i 0
    go (yes k) = ap (λ (j : ℕ). get_or m j 0) {x = i} {y = 0 + i} (omega arith) ∙ spelt_at m s 0 i w.inside k
    go (no k) = w.outside i (inr (omega arith)) ∙ b i ∙ sym (get_or-eq_default s 0 (omega arith))

pub laid_encoded : {x y k l b d : List ℕ} {rows : List Row} {w : Totals} → Blank x → Blank k → Blank b → Laid x y k l b d rows w → Encoded rows y (table l d)
laid_encoded x k b h = record { cells = has_written h.cells x; parts = has_written h.parts k; bytes = has_written h.bytes b }
