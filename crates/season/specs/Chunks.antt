-- The lines of a sheet as they come in chunks: what the first line leaves of the columns, and what is done with a record. Definitions only.
use Rattle.std.specs.Prelude.{◌≡◌, Bool, true, false, cond, List, ℕ, length}
use Rattle.separated.specs.declared.records.Scan.{Scan}
use Rattle.season_answer.specs.Columns.{of_field, columns_from}
use Rattle.season.specs.UntilQuiet.{Line}
use Rattle.season.specs.declared.records.Work.{Work}
use Rattle.season.specs.Lines.{room_at, one_more, work}
use Rattle.season.specs.OneLine.{RecordAnswered}
use Rattle.season.specs.FirstLine.{is_line}

-- what the columns stand for, once the first line was read; one that is no record leaves them as they were
abbrev pub columns_read : Scan → List ℕ → List ℕ → List ℕ → List ℕ → List ℕ → List ℕ
columns_read s plan texts kept ends columns = cond (is_line s) (columns_from (of_field plan texts kept ends) columns 0 s.fields) columns

-- how far it is, but for the scan
abbrev pub with_scan : Scan → Work → Work
with_scan s w = record { scan = s; o = w.o; line = w.line; answered = w.answered }

-- with a buffer that was written
abbrev pub written_out : Work → Work
written_out w = record { scan = w.scan; o = 0; line = w.line; answered = w.answered }

-- a record of which so much was scanned: if it ended, it is answered, and the next begins; if not, it goes on in the next chunk
pub data Took (tables texts : List ℕ) (w : List (List Bool)) (l : Line) (separator : ℕ) (before : Work) (scan : Scan) (out out' : List ℕ) (r : Work) : Type 0 where
  ended : scan.done ≡ true → r ≡ work scan.lines r.o (one_more before.answered) → RecordAnswered tables texts w l separator scan out out' (room_at (length out) before.o) r.o
      → Took tables texts w l separator before scan out out' r
  goes_on : scan.done ≡ false → r ≡ with_scan scan before → out' ≡ out → Took tables texts w l separator before scan out out' r
