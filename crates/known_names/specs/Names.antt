-- The names that a loaded guideline has, by the rows x, the text bytes b and the plan f, and which of them a typed name finds. Definitions only.
use Rattle.std.specs.Prelude.{ℕ, ◌+◌, ◌<◌, Option, MatchOption, Bool, true, cond, ◌&&◌, List, [], eqb, get_or}
use Rattle.paper_expressions.proofs.Laws.Search.{sameb, alikeb}
use Rattle.parts.specs.Texts.{text_at_fn}
use Rattle.row_tests.specs.Table.{cell_of}
use Rattle.explain_rows.specs.Firsts.{First}
use Rattle.known_names.specs.declared.lookup.Sort.{Sort}
use Rattle.known_names.specs.declared.lookup.Sort.TheVariants.{Task, Item, Trigger}

-- how many there are; of triggers, how many tasks might have one
abbrev pub count_of : List ℕ → Sort → ℕ
count_of f Task = get_or f 0 0
count_of f Item = get_or f 1 0
count_of f Trigger = get_or f 0 0

-- the handle of the i-th name; the root's is that of the first row
abbrev pub handle_of : List ℕ → List ℕ → Sort → ℕ → ℕ
handle_of x f Task i = cond (eqb i 0) (cell_of x 0 2) (get_or f (1192 + i) 0)
handle_of x f Item i = get_or f (1256 + i) 0
handle_of x f Trigger i = get_or f (1224 + i) 0

-- there is an i-th: not every task has a trigger
abbrev pub there_of : List ℕ → Sort → ℕ → Bool
there_of f Task i = true
there_of f Item i = true
there_of f Trigger i = eqb (get_or f (40 + i) 0) 1

-- the first below n that passes, or none does
abbrev pub FoundFirst : (ℕ → Bool) → ℕ → Option ℕ → Type 0
FoundFirst f n r = MatchOption r (First f n n) (λ i. (i < n) × First f n i)

-- the i-th has the name, case aside
abbrev pub named_at : List ℕ → List ℕ → List ℕ → Sort → List ℕ → ℕ → Bool
named_at x b f s name i = there_of f s i && alikeb name (text_at_fn b (handle_of x f s i))

-- the task has this trigger, byte for byte
abbrev pub trigger_at : List ℕ → List ℕ → List ℕ → ℕ → Bool
trigger_at b f name t = there_of f Trigger t && sameb name (text_at_fn b (handle_of [] f Trigger t))
