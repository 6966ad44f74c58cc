-- Reading a record as its bytes come: what each byte does to the scan, to the bytes that are kept and to the ends of the fields. Definitions only.
use Rattle.std.specs.Prelude.{Bool, true, false, List, [], ◌∷◌, ℕ, ◌+◌, eqb, ltb, length, set}
use Rattle.separated.specs.declared.machine.Mode.{Mode}
use Rattle.separated.specs.declared.machine.Mode.TheVariants.{Before, Bare, Quoted, Closed, Returned, Lost}
use Rattle.separated.specs.declared.machine.Act.{Act}
use Rattle.separated.specs.declared.machine.Act.TheVariants.{Keep, Pass, End, Last, Fault}
use Rattle.separated.specs.declared.machine.Move.{Move}
use Rattle.separated.specs.declared.records.Scan.{Scan}
use Rattle.separated.specs.Machine.{kind_of, step_of}
use Rattle.separated.specs.Records.{pick, chosen, spoilt_by, field_ended, record_ended, finished}

-- a record as far as it is read: the scan, and the lent cells for the bytes of its fields and for their ends
pub record Read : Type 0 where
  pub scan : Scan
  pub kept : List ℕ
  pub ends : List ℕ

abbrev pub read : Scan → List ℕ → List ℕ → Read
read s kept ends = record { scan = s; kept = kept; ends = ends }

-- one line more behind a newline, up to the greatest number
abbrev pub one_more : ℕ → ℕ
one_more n = chosen (eqb n 18446744073709551615) n (n + 1)

abbrev pub lines_with : ℕ → ℕ → ℕ
lines_with n b = chosen (eqb b 10) (one_more n) n

-- the scan behind a byte: its new mode, behind so many lines
abbrev pub in_mode : Mode → ℕ → Scan → Scan
in_mode m lines s = record { mode = m; n = s.n; fields = s.fields; began = true; done = false; fault = s.fault; wrong = s.wrong; lines = lines }

abbrev pub moved_to : Mode → ℕ → Scan → Scan
moved_to m b s = in_mode m (lines_with s.lines b) s

abbrev pub with_bytes : ℕ → Scan → Scan
with_bytes n s = record { mode = s.mode; n = n; fields = s.fields; began = s.began; done = s.done; fault = s.fault; wrong = s.wrong; lines = s.lines }

-- a byte is kept, where there is room for it among so many; a byte too many is fault 5
abbrev pub byte_kept : ℕ → Scan → Scan
byte_kept room s = pick (ltb s.n room) (with_bytes (s.n + 1) s) (spoilt_by 5 s)

-- a quote inside a field without quotes (fault 1), something behind the quote that closes one (2), a carriage return without its newline (3)
abbrev pub fault_in : Mode → ℕ
fault_in Before = 0
fault_in Bare = 1
fault_in Quoted = 0
fault_in Closed = 2
fault_in Returned = 3
fault_in Lost = 0

-- what an act does with the byte b, which came in the mode m; what has no place among the lent cells changes none
abbrev pub acted : Act → Mode → ℕ → Read → Read
acted Keep m b x = read (byte_kept (length x.kept) x.scan) (set x.kept x.scan.n b) x.ends
acted Pass m b x = x
acted End m b x = read (field_ended (length x.ends) x.scan) x.kept (set x.ends x.scan.fields x.scan.n)
acted Last m b x = read (record_ended (length x.ends) x.scan) x.kept (set x.ends x.scan.fields x.scan.n)
acted Fault m b x = read (spoilt_by (fault_in m) x.scan) x.kept x.ends

abbrev pub moved_by : Move → ℕ → Read → Read
moved_by m b x = acted m.act x.scan.mode b (read (moved_to m.mode b x.scan) x.kept x.ends)

-- one byte more
unfoldable pub read_byte : ℕ → Read → ℕ → Read
read_byte separator x b = moved_by (step_of x.scan.mode (kind_of b separator)) b x

-- the place where to go on, and the record so far
pub record Reached : Type 0 where
  pub at : ℕ
  pub so_far : Read

abbrev pub reached : ℕ → Read → Reached
reached at x = record { at = at; so_far = x }

abbrev pub stop_or : Bool → Reached → Reached → Reached
stop_or true z more = z
stop_or false z more = more

-- byte by byte, from a place on, up to the end of the record or of the bytes
unfoldable pub read_from : ℕ → ℕ → Read → List ℕ → Reached
read_from separator at x [] = reached at x
read_from separator at x (b ∷ w) =
    stop_or (read_byte separator x b).scan.done (reached (at + 1) (read_byte separator x b)) (read_from separator (at + 1) (read_byte separator x b) w)

-- the end of the input ends the record
abbrev pub read_end : Read → Read
read_end x = read (finished (length x.ends) x.scan) x.kept (set x.ends x.scan.fields x.scan.n)
