-- The lines of a sheet: how far reading and answering is, and the tables that load left, one behind the other. Definitions only.
use Rattle.std.specs.Prelude.{◌≡◌, Bool, true, cond, not, List, ◌++◌, ℕ, ◌+◌, ◌/◌, ◌<◌, eqb, ltb, get_or}
use Rattle.separated.specs.declared.records.Scan.{Scan}
use Rattle.separated.specs.Records.{begun}
use Rattle.season_answer.specs.Fields.{no_labels_written, blanks_written, unread_written}
use Rattle.season.specs.declared.records.Work.{Work}

-- where the next line goes in a buffer of so many bytes: to the front, if more than a quarter of it is full, and is written then
abbrev pub room_at : ℕ → ℕ → ℕ
room_at size o = cond (ltb (size / 4) o) 0 o

-- one more, up to the greatest number
abbrev pub one_more : ℕ → ℕ
one_more n = cond (eqb n 18446744073709551615) n (n + 1)

-- a record behind so many lines, of which so many are answered
abbrev pub work : ℕ → ℕ → ℕ → Work
work lines o answered = record { scan = begun lines; o = o; line = one_more lines; answered = answered }

-- whether a record can't be read: something is wrong with it, or it has another number of fields than there are columns
abbrev pub is_spoilt : Scan → ℕ → Bool
is_spoilt s many = cond (eqb s.fault 0) (not (eqb s.fields many)) true

-- a line that can't be read: nothing but that it is unread
abbrev pub unread_line : List ℕ → ℕ → ℕ → ℕ → List ℕ
unread_line columns many n separator = no_labels_written columns many separator ++ blanks_written n separator ++ unread_written separator

-- the parts, the plan and the state in one slice that has room for them
pub record Joined (parts plan state tables : List ℕ) : Type 0 where
  pub of_parts : (k : ℕ) → k < 4096 → get_or tables k 0 ≡ get_or parts k 0
  pub of_plan : (k : ℕ) → k < 1640 → get_or tables (4096 + k) 0 ≡ get_or plan k 0
  pub of_state : (k : ℕ) → k < 2952 → get_or tables (5736 + k) 0 ≡ get_or state k 0
