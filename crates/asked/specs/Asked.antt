-- What an enquiry in progress waits for: the data items of its mandatory sources, as long as they are requested; by the cells of the plan and of the
-- state (docs/TABLES.md). Definitions only.
use Rattle.std.specs.Prelude.{Bool, false, cond, ◌&&◌, ◌||◌, List, ℕ, zero, suc, ◌+◌, eqb, ltb, get_or}
use Rattle.state.specs.Layout.{row_is_fn}

-- whether one of the k numbers from i on passes the test
unfoldable pub any_from : (ℕ → Bool) → ℕ → ℕ → Bool
any_from p i zero = false
any_from p i (suc k) = p i || any_from p (i + 1) k

-- the row requested of the data item is true
abbrev pub requested : List ℕ → ℕ → Bool
requested state d = eqb (get_or state (648 + d) 0) 2 && eqb (get_or state (712 + d) 0) 1

-- the task is an enquiry, class 3, in progress
abbrev pub asking : List ℕ → List ℕ → ℕ → Bool
asking plan state t = eqb (get_or plan (168 + t) 0) 3 && row_is_fn state 8 t 5 2

abbrev pub bounded : ℕ → ℕ
bounded n = cond (ltb n 128) n 0

-- the source k behind the first is mandatory, and for the data item
abbrev pub source_of : List ℕ → ℕ → ℕ → ℕ → Bool
source_of plan first d k = eqb (get_or plan (392 + first + k) 0) 1 && eqb (get_or plan (264 + first + k) 0) d

abbrev pub has_source : List ℕ → ℕ → ℕ → Bool
has_source plan d t = any_from (source_of plan (bounded (get_or plan (200 + t) 0)) d) 0 (get_or plan (232 + t) 0)

abbrev pub waits_for : List ℕ → List ℕ → ℕ → ℕ → Bool
waits_for plan state d t = asking plan state t && has_source plan d t

abbrev pub by_any : List ℕ → List ℕ → ℕ → Bool
by_any plan state d = any_from (waits_for plan state d) 0 32

abbrev pub asked : List ℕ → List ℕ → ℕ → Bool
asked plan state d = requested state d && by_any plan state d
