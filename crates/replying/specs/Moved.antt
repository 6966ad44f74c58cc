-- What holds a state after a call has written some cells: the rest is as it was. By the fields of `Holds`.
use Rattle.std.specs.Prelude.{ℕ, ◌+◌, ◌*◌, ◌<◌, ◌≤◌, ◌≡◌, refl, Bool, List, get_or}
use Rattle.std.proofs.Common.{arith, sym, subst, ◌∙◌}
use Rattle.std.proofs.Math.Option.{Option}
use Rattle.paper_expressions.specs.Values.{Value}
use Rattle.paper_guideline.specs.Structure.{TopLevel}
use Rattle.paper_rows.specs.Table.{data_item, ◌№◌, Property, value, Table}
use Rattle.paper_rows.proofs.Laws.Seen.{value_f}
use Rattle.paper_calls.specs.Calls.{time_limit}
use Rattle.paper_calls.proofs.Laws.CallLaws.{GoodTable}
use Rattle.state.specs.Cell.{Cell}
use Rattle.state.specs.Items.{holds_as}
use Rattle.state.specs.Layout.{Rows, TaskColumn}
use Rattle.holding.specs.Holding.{Holds, ItemAt}
use Rattle.replying.specs.Replying.{Elsewhere}

-- the first three cells after it: a guideline is loaded, its flag is as it was, and this is the time
pub record Headed (s s' : List ℕ) (time : ℕ) : Type 0 where
  pub loaded : get_or s' 0 0 ≡ get_or s 0 0
  pub flagged : get_or s' 1 0 ≡ get_or s 1 0
  pub timed : get_or s' 2 0 ≡ time
  pub spare : (i : ℕ) → 3 ≤ i → i < 8 → get_or s' i 0 ≡ get_or s i 0

module _ {g : List TopLevel} {x b f : List ℕ} {w : List (List Bool)} {s : List ℕ} {t : Table} {flag : Bool} {time : ℕ} (h : Holds g x b f w s t flag time) {b' s' : List ℕ} (e : Elsewhere b s b' s') where
  pub holds_moved : {t' : Table} {time' : ℕ} → GoodTable g t' → time' ≤ time_limit → Headed s s' time' → Rows s' t' → ((d : ℕ) → d < 64 → ItemAt s' b' d (value_f (t' (data_item № d) value)))
      → Holds g x b' f w s' t' flag time'
  holds_moved good l k rows values =
      record {
        plans = λ c z. h.plans c (λ i j. z i j ∙ e.own i j);
        lawful = h.lawful;
        sized = h.sized;
        good = good;
        timely = l;
        rows = rows;
        values = values;
        loaded = k.loaded ∙ h.loaded;
        flagged = k.flagged ∙ h.flagged;
        timed = k.timed;
        spare = λ i m n. k.spare i m n ∙ h.spare i m n;
        cells = (let z = e.cells in let y = h.cells in omega arith);
        bytes = (let z = e.bytes in let y = h.bytes in omega arith);
      }

-- a value whose cells and bytes are as they were
pub item_stays : {s s' b b' : List ℕ} (d : ℕ) {o : Option Value} → ((j : ℕ) → j < 17 → get_or s' (776 + 17 * d + j) 0 ≡ get_or s (776 + 17 * d + j) 0) → ((j : ℕ) → j < 17 → get_or s' (1864 + 17 * d + j) 0 ≡ get_or s (1864 + 17 * d + j) 0)
    → ((i : ℕ) → i < 768 → get_or b' (16384 + 768 * d + i) 0 ≡ get_or b (16384 + 768 * d + i) 0) → ItemAt s b d o → ItemAt s' b' d o
item_stays d x y z h = holds_as h x y z

-- a row whose cells are as they were
pub cell_stays : {k x k' x' : ℕ} {o o' : Option _} → k' ≡ k → x' ≡ x → o' ≡ o → Cell k x o → Cell k' x' o'
cell_stays {k} {x} {k'} {x'} {o} {o'} e f q h = subst (Cell k' x') (sym q) (subst (λ (z : ℕ). Cell k' z o) (sym f) (subst (λ (z : ℕ). Cell z x o) (sym e) h))

-- the columns of tasks
pub column_below : {c : ℕ} {p : Property} → TaskColumn c p → (j : ℕ) × (c ≡ 8 + 64 * j) × (j < 10)
column_below TaskColumn.state_column = (0, refl, omega arith)
column_below TaskColumn.trigger_column = (1, refl, omega arith)
column_below TaskColumn.confirmed_column = (2, refl, omega arith)
column_below TaskColumn.count_column = (3, refl, omega arith)
column_below TaskColumn.cycles_column = (4, refl, omega arith)
column_below TaskColumn.start_column = (5, refl, omega arith)
column_below TaskColumn.in_progress_column = (6, refl, omega arith)
column_below TaskColumn.discarded_column = (7, refl, omega arith)
column_below TaskColumn.completed_column = (8, refl, omega arith)
column_below TaskColumn.procedure_column = (9, refl, omega arith)

-- where no cell of the tasks' rows and of `requested` is written, the same table's rows stand
pub rows_stay : {s s' : List ℕ} {t : Table} → ((i : ℕ) → 8 ≤ i → i < 776 → get_or s' i 0 ≡ get_or s i 0) → Rows s t → Rows s' t
rows_stay z h =
    record {
      tasks = λ {c} {p} {T} k l. (let j = column_below k in let m = j.1 in let n = j.2 in cell_stays (z (c + T) (omega arith) (omega arith)) (z (c + 32 + T) (omega arith) (omega arith)) refl (h.tasks k l));
      past = h.past;
      asked = λ {d} l. cell_stays (z (648 + d) (omega arith) (omega arith)) (z (712 + d) (omega arith) (omega arith)) refl (h.asked l);
    }
