-- The limits of running (document 01, How much fits), each named once; those of reading and of values are in paper_guideline and paper_expressions. Definitions only.
use Rattle.std.specs.Prelude.{ℕ, ◌*◌, ◌/◌, List, [], ◌∷◌}
use Rattle.paper_guideline.specs.Limits.{token_limit}
use Rattle.paper_guideline.specs.Refusals.{number, text_stage, lexical_stage, count_stage, grammar_stage, left_out_stage, limit_stage, name_stage, type_stage}

-- cells that the rows of a text can take: eight for a row, which has three tokens at least
abbrev pub row_cells : ℕ
row_cells = token_limit / 3 * 8

-- "cycles in one run 0 to 256"
abbrev pub cycle_limit : ℕ
cycle_limit = 256

-- "Engine time is a whole number of seconds, 0 to 4,294,967,295"
abbrev pub time_limit : ℕ
time_limit = 4_294_967_295

-- "a square table of 32 by 32"
abbrev pub wait_side : ℕ
wait_side = 32

-- "a list of rows lent by the caller, at least 1,024 long"
abbrev pub change_rows : ℕ
change_rows = 1_024

-- the numbers of the refusals of load, in the order of its tests
abbrev pub refusals : List ℕ
refusals =
    number text_stage ∷ number lexical_stage ∷ number count_stage ∷ number grammar_stage ∷ number left_out_stage ∷ number limit_stage ∷ number name_stage ∷ number type_stage ∷ []
