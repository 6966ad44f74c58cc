-- 8.6.8 and 8.6.3 as tests on the tables' cells.
use Rattle.std.specs.Prelude.{ℕ, ◌-◌, Bool, not, ◌&&◌, ◌||◌, List, eqb}
use Rattle.state.specs.Layout.{row_is_fn}
use Rattle.waits.specs.Booleans.{all_f, any_f}
use Rattle.waits.specs.Twins.{marked, timed_f, over_f, discarded_f, parent_at, parent_f, terminal_f}

-- completed, and terminal
abbrev pub ends_f : List ℕ → List ℕ → ℕ → Bool
ends_f s f T = row_is_fn s 8 T 5 4 && terminal_f f T

abbrev pub discardable_f : List ℕ → ℕ → Bool
discardable_f s T = row_is_fn s 8 T 5 2 || (row_is_fn s 8 T 5 1 || (row_is_fn s 8 T 5 4 && timed_f s T))

abbrev pub unwanted_case : Bool → Bool → Bool → Bool
unwanted_case any discarded pre = (any && discarded) || not pre

abbrev pub own_case : List ℕ → List ℕ → Bool → Bool → Bool → Bool → Bool → ℕ → Bool
own_case s f any over discarded pre wait T = parent_f s f T && (row_is_fn s 8 T 5 1 && ((over && wait) && unwanted_case any discarded pre))

abbrev pub own_f : List ℕ → List ℕ → List Bool → Bool → Bool → ℕ → Bool
own_f s f row pre wait T = own_case s f (any_f (marked row) 32) (all_f (over_f s row) 32) (all_f (discarded_f s row) 32) pre wait T

-- x is the parent and one, or 0
abbrev pub under_f : List ℕ → List Bool → List Bool → ℕ → ℕ → Bool
under_f s ended m x T = not (eqb x 0) && (row_is_fn s 8 (x - 1) 5 2 && (discardable_f s T && (marked m (x - 1) || marked ended (x - 1))))

abbrev pub discard_f : List ℕ → List ℕ → List Bool → Bool → Bool → List Bool → List Bool → ℕ → Bool
discard_f s f row pre wait ended m T = own_f s f row pre wait T || under_f s ended m (parent_at f T) T
