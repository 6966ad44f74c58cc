-- The fluke of README: its bytes, its guideline, the tables between the calls, and what proofs/FlukeLaws.antt shows of them.
use Rattle.std.specs.Prelude.{ℕ, ◌≡◌, true, false, List, [], ◌∷◌, pos}
use Rattle.std.proofs.Math.Option.{some}
use Rattle.paper_expressions.specs.Bytes.{bytes}
use Rattle.paper_expressions.specs.Values.{Value, one, sequence, integer, text}
use Rattle.paper_expressions.specs.Types.{a_text, a_setof_integer}
use Rattle.paper_expressions.specs.Operators.{compare, extreme, is<, min}
use Rattle.paper_expressions.specs.Expressions.{Atom, IntegerLit, Apply, ε, ◌▸◌}
use Rattle.paper_guideline.specs.Structure
use Structure.{TopLevel, plan, action, enquiry}
use Rattle.paper_rows.specs.Table
use Table.{data_item, ◌№◌, value, requested, value_is, truth_row, Table}
use Rattle.paper_rows.proofs.Laws.RowLists.{look_f}
use Rattle.paper_rows.proofs.Laws.InitialLaws.{load_f}
use Rattle.paper_engine.specs.Cycle.{ends, quiet}
use Rattle.paper_engine.proofs.Laws.EnactLaws.{enact_f}
use Rattle.paper_engine.proofs.Laws.Worked.{called, expr, placed, define, part, after, states_f}
use Rattle.paper_calls.specs.Calls
use Calls.{empty, done, ran, row, shows_value, load, run, set_engine_time, confirm_task, add_data_value, read_row, Calls}
use Rattle.paper_calls.proofs.Laws.WorkedCalls.{confirm_rows, add_rows, state_of, end_f, after_f}
use Rattle.paper_worked.specs.Texts.{lines}
use Rattle.paper_worked.specs.FromTexts.{held}

-- examples/guidelines/three_plots.pf
abbrev pub fluke_text : List ℕ
fluke_text = lines (
    "/** Liver fluke on a wet field: the snails breed in shallow water, so the shallowest plot decides. **/"
    ∷ "plan :: fluke_watch;"
    ∷ "  component :: ask_depths;"
    ∷ "  component :: dose;"
    ∷ "    schedule_constraint :: completed(ask_depths);"
    ∷ "end plan."
    ∷ "enquiry :: ask_depths;"
    ∷ "  source :: depths;"
    ∷ "    mandatory :: yes;"
    ∷ "end enquiry."
    ∷ "action :: dose;"
    ∷ "  precondition :: min(depths) < 5;"
    ∷ "  postcondition :: fluke_risk = high;"
    ∷ "end action."
    ∷ "data :: depths; type :: setof_integer; end data."
    ∷ "data :: fluke_risk; type :: text; end data."
    ∷ []
    )

abbrev pub fluke : List TopLevel
fluke =
    define plan "fluke_watch" (part "ask_depths" [] ∷ part "dose" (after "ask_depths" ∷ []) ∷ [])
    ∷ define enquiry "ask_depths" (Structure.source (called "depths") (placed (Structure.mandatory true) ∷ []) ∷ [])
    ∷ define action "dose" (Structure.precondition (expr (Apply (compare is<) (Apply (extreme min) (Atom (bytes "depths") ▸ ε) ▸ IntegerLit (pos 5) ▸ ε))) ∷ Structure.postcondition (record { target = called "fluke_risk"; value = expr (Atom (bytes "high")) } ∷ []) ∷ [])
    ∷ Structure.data_item (record { named = called "depths"; declared = a_setof_integer; attributes = [] })
    ∷ Structure.data_item (record { named = called "fluke_risk"; declared = a_text; attributes = [] })
    ∷ []

-- ---- the tables between the calls

-- three depths
abbrev pub depths : Value
depths = sequence (integer (pos 12) ∷ integer (pos 3) ∷ integer (pos 15) ∷ [])

abbrev pub fresh : Table
fresh = look_f (load_f fluke)

abbrev pub asked : Table
asked = after_f fluke fresh

abbrev pub told : Table
told = enact_f (add_rows 0 depths) asked

abbrev pub begun : Table
begun = after_f fluke told

abbrev pub signed : Table
signed = enact_f (confirm_rows 2) begun

abbrev pub dosed : Table
dosed = after_f fluke signed

-- ---- what is computed: reports, rows, and the states of the tasks, 0 dormant, 1 in_progress, 2 discarded, 3 completed

pub record Computed : Type 0 where
  pub first : (end_f fluke fresh).1 ≡ ends quiet 2
  pub first_flag : (end_f fluke fresh).0.flag ≡ false
  pub asks : asked (data_item № 0) requested ≡ some (truth_row true)
  pub waits : states_f fluke asked ≡ 1 ∷ 1 ∷ 0 ∷ []
  pub second : (end_f fluke told).1 ≡ ends quiet 2
  pub second_flag : (end_f fluke told).0.flag ≡ false
  pub begins : states_f fluke begun ≡ 1 ∷ 3 ∷ 1 ∷ []
  pub third : (end_f fluke signed).1 ≡ ends quiet 2
  pub third_flag : (end_f fluke signed).0.flag ≡ false
  pub ends_so : states_f fluke dosed ≡ 3 ∷ 3 ∷ 3 ∷ []
  pub risk : dosed (data_item № 1) value ≡ some (value_is (one (text (bytes "high"))))

-- ---- the calls

pub record Fluke : Type 1 where
  pub loads : Calls (load fluke_text false) empty done (held fluke 0)
  pub clock : Calls (set_engine_time 7) (held fluke 0) done (state_of fluke fresh)
  pub asks : Calls (run 256 1024) (state_of fluke fresh) (ran (ends quiet 2)) (state_of fluke asked)
  pub answers : Calls (add_data_value 0 (some depths)) (state_of fluke asked) done (state_of fluke told)
  pub begins : Calls (run 256 1024) (state_of fluke told) (ran (ends quiet 2)) (state_of fluke begun)
  pub confirms : Calls (confirm_task 2) (state_of fluke begun) done (state_of fluke signed)
  pub finishes : Calls (run 256 1024) (state_of fluke signed) (ran (ends quiet 2)) (state_of fluke dosed)
  pub risk : Calls (read_row 1 1 42) (state_of fluke dosed) (row (shows_value (one (text (bytes "high"))))) (state_of fluke dosed)
