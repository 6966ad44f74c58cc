-- What a run that is told asks of its reply and of the rows of the Changes table, and what it leaves. Definitions only.
use Rattle.std.specs.Prelude.{ℕ, ◌+◌, ◌*◌, ◌%◌, ◌<◌, ◌≡◌, Bool, true, false, cond, ◌&&◌, List, eqb, leb, ltb, get_or, set, length}
use Rattle.state.specs.Layout.{row_is_fn}
use Rattle.gathering.specs.Gathered.{Gathered}
use Rattle.runs.specs.Run.{RunsAlone}
use Rattle.runs.specs.declared.Ran.{Ran}
use Rattle.runs.specs.declared.Ran.TheVariants.{Quiet, Bounded, Exception, Refused}

-- ---- runs

-- a run with the bound n, and 1,024 rows lent, leaves b' and s', whichever its reply is
pub record RunTold (n : ℕ) (x b f : List ℕ) (w : List (List Bool)) (s b' s' : List ℕ) : Type 0 where
  pub reply : Ran
  pub runs : RunsAlone n 1024 x b f w s b' s' reply

-- it enacted a cycle
abbrev pub enactedb : Ran → Bool
enactedb (Quiet k) = ltb 0 k
enactedb (Bounded k) = ltb 0 k
enactedb (Exception k) = ltb 0 k
enactedb (Refused n) = false

abbrev pub boundedb : Ran → Bool
boundedb (Quiet k) = false
boundedb (Bounded k) = true
boundedb (Exception k) = false
boundedb (Refused n) = false

-- a run of one cycle enacts one or none
abbrev pub least_of : ℕ → ℕ
least_of k = cond (eqb k 0) 0 1

-- the reply to i cycles, each bounded, and one more with its own. Behind a bounded cycle none is refused: nothing is said of it
abbrev pub after_of : ℕ → Ran → Ran
after_of i (Quiet k) = Quiet (i + least_of k)
after_of i (Bounded k) = Bounded (i + 1)
after_of i (Exception k) = Exception (i + least_of k)
after_of i (Refused n) = cond (eqb i 0) (Refused n) (Quiet i)

-- ---- rows

-- the cell k of the i-th of 1,024 rows of four cells
abbrev pub cell_of : List ℕ → ℕ → ℕ → ℕ
cell_of out i k = cond (leb 1024 i) 0 (cond (leb 4 k) 0 (get_or out (4 * i + k) 0))

-- the number of its component
abbrev pub component_of : List ℕ → ℕ → ℕ
component_of out i = cell_of out i 0 % 65536

-- it sets a property to a number
abbrev pub rowb : List ℕ → ℕ → ℕ → ℕ → Bool
rowb out i property number = eqb (cell_of out i 1) property && eqb (cell_of out i 3) number

-- it leaves a dormant task dormant: it sets the state, 8, to dormant, 1, of a task whose row in s says so with its tag, 5
abbrev pub idleb : List ℕ → ℕ → List ℕ → Bool
idleb out i s = rowb out i 8 1 && row_is_fn s 8 (component_of out i) 5 1

-- without the property of such a row
abbrev pub hushed_row : List ℕ → ℕ → List ℕ → List ℕ
hushed_row out i s = cond (idleb out i s) (set out (4 * i + 1) 0) out

-- the first m rows without the property of each such row: every other cell is as it was
pub record Hushed (out : List ℕ) (m : ℕ) (s out' : List ℕ) : Type 0 where
  pub size : length out' ≡ length out
  pub cells : (i k : ℕ) → k < 4 → get_or out' (4 * i + k) 0 ≡ cond (eqb k 1 && (ltb i m && idleb out i s)) 0 (get_or out (4 * i + k) 0)

-- the values that the first m rows ask for, gathered, whatever becomes of the bytes of their texts
pub record NewValues (x b f s out : List ℕ) (m : ℕ) (news news' : List ℕ) : Type 0 where
  pub bytes : List ℕ
  pub bytes' : List ℕ
  pub gathered : Gathered x b f s out m news news' bytes bytes'
