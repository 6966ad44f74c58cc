-- Worked guidelines: each is lawful by its computed breaches, and its run from load's rows is computed to the report and the states of its tasks after each cycle.
use Rattle.std.specs.Prelude.{ℕ, zero, suc, ◌≡◌, refl, Bool, true, false, ◌||◌, List, [], ◌∷◌, map, pos}
use Prim.Native.String.{String}
use Rattle.std.proofs.Common.{subst}
use Rattle.std.proofs.Math.Option.{Option, none, some}
use Rattle.paper_expressions.specs.Bytes.{bytes}
use Rattle.paper_expressions.specs.Values.{Value, one, integer, real, TaskState, dormant, in_progress, discarded, completed}
use Rattle.paper_expressions.specs.Types.{Declared, an_integer, a_real}
use Rattle.paper_expressions.specs.Operators.{Op, compare, is>, is=}
use Rattle.paper_expressions.specs.Operators as Operators
use Rattle.paper_expressions.specs.Expressions.{Expr, Exprs, Atom, IntegerLit, FloatLit, StringLit, Apply, ε, ◌▸◌}
use Rattle.paper_guideline.specs.Structure
use Structure.{Name, Outermost, Placed, Assignment, ComponentAttribute, schedule_constraint, SourceAttribute, Attribute, Class, plan, action, enquiry, TopLevel, tasks}
use Rattle.paper_guideline.proofs.Laws.NameTwin.{name_places}
use Rattle.paper_guideline.proofs.Laws.FittingTwin.{type_places}
use Rattle.paper_rows.specs.Table
use Table.{task, data_item, Component, ◌№◌, Property, state, trigger_active, cycle_count, completed_time, value, requested, RowValue, time_is, unknown_row, truth_row, integer_row, Table, properties, kinds}
use Rattle.paper_rows.specs.Load.{Initial}
use Rattle.paper_engine.specs.Cycle.{Ending, quiet, bounded, exception, Report, ends, Runs}
use Rattle.paper_rows.proofs.Laws.Seen.{state_f}
use Rattle.paper_rows.proofs.Laws.Ranks.{state_rank}
use Rattle.paper_rows.proofs.Laws.RowLists.{Row, a_row, look_f}
use Rattle.paper_rows.proofs.Laws.Lawful.{Lawful}
use Rattle.paper_rows.proofs.Laws.LoadLaws.{lawful_if}
use Rattle.paper_rows.proofs.Laws.InitialLaws.{load_f, initial}
use Rattle.paper_engine.proofs.Laws.Kept.{initial_kept}
use Rattle.paper_engine.proofs.Laws.Twins.{evaluate_f, schedule_f, scheduled_f, start_f, initialise_up_f, termination_f, discard_2_f, discard_up_f, settled_f, complete_f, cycle_f, review_f}
use Rattle.paper_engine.proofs.Laws.RowsLaws.{changes_f, target_f}
use Rattle.paper_engine.proofs.Laws.EnactLaws.{enact_f, collision_f, run_f, run}

-- ---- how a guideline is written here

abbrev pub called : String → Name
called s = record { spelt = bytes s; place = 0 }

abbrev pub expr : Expr → Outermost
expr e = record { start = 0; tree = e }

abbrev pub placed : {A : Type 0} → A → Placed A
placed a = record { word = 0; what = a }

abbrev pub define : Class → String → List Attribute → TopLevel
define k s l = Structure.task (record { class = k; named = called s; attributes = map placed l })

abbrev pub part : String → List ComponentAttribute → Attribute
part s l = Structure.component (called s) (map placed l)

abbrev pub after : String → ComponentAttribute
after s = schedule_constraint (called s)

-- ---- what is shown: the states of the tasks, 0 dormant, 1 in_progress, 2 discarded, 3 completed

abbrev pub rank_f : Option TaskState → ℕ
rank_f none = 4
rank_f (some s) = state_rank s

abbrev pub numbers_f : {A : Type 0} → ℕ → List A → List ℕ
numbers_f n [] = []
numbers_f n (x ∷ l) = n ∷ numbers_f (suc n) l

abbrev pub states_f : List TopLevel → Table → List ℕ
states_f g t = map (λ T. rank_f (state_f (t (task № T) state))) (numbers_f 0 (tasks g))

-- after 1, 2, .. n cycles
abbrev pub trace_f : List TopLevel → ℕ → ℕ → Table → List (List ℕ)
trace_f g now zero t = []
trace_f g now (suc n) t = let u = enact_f (changes_f g t now) t in states_f g u ∷ trace_f g now n u

-- a guideline whose run, with the bound n, comes to these states after its cycles and to this report; at the engine time 7
pub record Worked (g : List TopLevel) (n : ℕ) (trace : List (List ℕ)) (r : Report) : Type 0 where
  pub lawful : Lawful g
  pub after_cycles : trace_f g 7 r.cycles (look_f (load_f g)) ≡ trace
  pub loads : Initial g (look_f (load_f g))
  pub runs : Runs 7 n 0 (record { table = look_f (load_f g); flag = false }) (run_f g 7 n 0 (look_f (load_f g)) false).0 r

worked : (g : List TopLevel) (n : ℕ) {trace : List (List ℕ)} {r : Report} → name_places g ≡ [] → type_places g ≡ [] → trace_f g 7 r.cycles (look_f (load_f g)) ≡ trace → (run_f g 7 n 0 (look_f (load_f g)) false).1 ≡ r → Worked g n trace r
worked g n {r = r} a b c d =
    let l = lawful_if g a b in
    record {
      lawful = l;
      after_cycles = c;
      loads = initial l;
      runs = subst (Runs 7 n 0 (record { table = look_f (load_f g); flag = false }) (run_f g 7 n 0 (look_f (load_f g)) false).0) d (run l 7 n (look_f (load_f g)) false (initial_kept (initial l)));
    }

-- the table that a run leaves
abbrev pub left_f : List TopLevel → ℕ → Table
left_f g n = (run_f g 7 n 0 (look_f (load_f g)) false).0.table

-- ---- the guidelines

-- three plots, the second after the first, the third once the second is completed: enquiries without sources, which complete in the cycle after they start
abbrev pub plots : List TopLevel
plots =
    define plan "plots" (part "north" [] ∷ part "south" (after "north" ∷ []) ∷ part "east" [] ∷ [])
    ∷ define enquiry "east" (Structure.wait_condition (expr (Apply (Operators.is-in completed) (StringLit (bytes "south") ▸ ε))) ∷ [])
    ∷ define enquiry "north" []
    ∷ define enquiry "south" []
    ∷ []

-- a terminal component completes: the other, an action that waits to be confirmed, is discarded, and the plan completes
abbrev pub terminal_part : List TopLevel
terminal_part =
    define plan "walk" (part "gate" (Structure.terminal true ∷ []) ∷ part "hedge" [] ∷ [])
    ∷ define enquiry "gate" []
    ∷ define action "hedge" []
    ∷ []

-- a false precondition discards a task, and with it the one that waits for it alone
abbrev pub unwanted : List TopLevel
unwanted =
    define plan "spray" (part "mix" [] ∷ part "rinse" (after "mix" ∷ []) ∷ [])
    ∷ define action "mix" (Structure.precondition (expr (Apply (compare is>) (IntegerLit (pos 1) ▸ IntegerLit (pos 2) ▸ ε))) ∷ [])
    ∷ define action "rinse" []
    ∷ []

-- a task with a trigger is not started by its schedule
abbrev pub triggered : List TopLevel
triggered = define plan "flood" (part "pump" [] ∷ []) ∷ define enquiry "pump" (Structure.trigger (called "alarm") ∷ []) ∷ []

-- the same, terminal: completed by its trigger, it is not initialised, and the plan completes
abbrev pub triggered_terminal : List TopLevel
triggered_terminal = define plan "flood" (part "pump" (Structure.terminal true ∷ []) ∷ []) ∷ define enquiry "pump" (Structure.trigger (called "alarm") ∷ []) ∷ []

-- a mandatory source: the item is requested, and the enquiry waits
abbrev pub mandatory_source : List TopLevel
mandatory_source =
    define plan "gauge" (part "read" [] ∷ [])
    ∷ define enquiry "read" (Structure.source (called "level") (placed (Structure.mandatory true) ∷ []) ∷ [])
    ∷ Structure.data_item (record { named = called "level"; declared = a_real; attributes = [] })
    ∷ []

-- x = 2 and x = 2.0: two values for one row
abbrev pub collision : List TopLevel
collision =
    define plan "dose" (Structure.postcondition (record { target = called "x"; value = expr (IntegerLit (pos 2)) } ∷ record { target = called "x"; value = expr (FloatLit (pos 2000)) } ∷ []) ∷ [])
    ∷ Structure.data_item (record { named = called "x"; declared = a_real; attributes = [] })
    ∷ []

-- ---- each worked

abbrev Plots : Type 0
Plots =
    Worked plots 256 ((1 ∷ 0 ∷ 0 ∷ 0 ∷ []) ∷ (1 ∷ 0 ∷ 1 ∷ 0 ∷ []) ∷ (1 ∷ 0 ∷ 3 ∷ 0 ∷ []) ∷ (1 ∷ 0 ∷ 3 ∷ 1 ∷ []) ∷ (1 ∷ 0 ∷ 3 ∷ 3 ∷ []) ∷ (1 ∷ 1 ∷ 3 ∷ 3 ∷ []) ∷ (1 ∷ 3 ∷ 3 ∷ 3 ∷ []) ∷ (3 ∷ 3 ∷ 3 ∷ 3 ∷ []) ∷ []) (ends quiet 8)
    × (left_f plots 256 (task № 3) completed_time ≡ some (time_is 7)) × (left_f plots 256 (task № 3) cycle_count ≡ some (integer_row (pos 1)))

pub worked_plots : Plots
unfolding evaluate_f schedule_f scheduled_f start_f initialise_up_f termination_f discard_2_f discard_up_f settled_f complete_f cycle_f review_f changes_f target_f enact_f collision_f properties kinds
worked_plots = (worked plots 256 refl refl refl refl, refl, refl)

pub worked_terminal : Worked terminal_part 256 ((1 ∷ 0 ∷ 0 ∷ []) ∷ (1 ∷ 1 ∷ 1 ∷ []) ∷ (1 ∷ 3 ∷ 1 ∷ []) ∷ (1 ∷ 3 ∷ 2 ∷ []) ∷ (3 ∷ 3 ∷ 2 ∷ []) ∷ []) (ends quiet 5)
unfolding evaluate_f schedule_f scheduled_f start_f initialise_up_f termination_f discard_2_f discard_up_f settled_f complete_f cycle_f review_f changes_f target_f enact_f collision_f properties kinds
worked_terminal = worked terminal_part 256 refl refl refl refl

pub worked_unwanted : Worked unwanted 256 ((1 ∷ 0 ∷ 0 ∷ []) ∷ (1 ∷ 2 ∷ 0 ∷ []) ∷ (1 ∷ 2 ∷ 2 ∷ []) ∷ (3 ∷ 2 ∷ 2 ∷ []) ∷ []) (ends quiet 4)
unfolding evaluate_f schedule_f scheduled_f start_f initialise_up_f termination_f discard_2_f discard_up_f settled_f complete_f cycle_f review_f changes_f target_f enact_f collision_f properties kinds
worked_unwanted = worked unwanted 256 refl refl refl refl

pub worked_triggered : Worked triggered 256 ((1 ∷ 0 ∷ []) ∷ []) (ends quiet 1)
unfolding evaluate_f schedule_f scheduled_f start_f initialise_up_f termination_f discard_2_f discard_up_f settled_f complete_f cycle_f review_f changes_f target_f enact_f collision_f properties kinds
worked_triggered = worked triggered 256 refl refl refl refl

-- 8.6.1: with its trigger active it starts, completes and is initialised; where it is terminal, it stays completed
abbrev pub alarmed : List TopLevel → Table
alarmed g = enact_f (a_row (task № 1) trigger_active (truth_row true) ∷ []) (left_f g 256)

pub worked_again : (trace_f triggered 7 3 (alarmed triggered) ≡ (1 ∷ 1 ∷ []) ∷ (1 ∷ 3 ∷ []) ∷ (1 ∷ 0 ∷ []) ∷ [])
    × (trace_f triggered_terminal 7 3 (alarmed triggered_terminal) ≡ (1 ∷ 1 ∷ []) ∷ (1 ∷ 3 ∷ []) ∷ (3 ∷ 3 ∷ []) ∷ [])
unfolding evaluate_f schedule_f scheduled_f start_f initialise_up_f termination_f discard_2_f discard_up_f settled_f complete_f cycle_f review_f changes_f target_f enact_f collision_f properties kinds
worked_again = (refl, refl)

pub worked_source : Worked mandatory_source 256 ((1 ∷ 0 ∷ []) ∷ (1 ∷ 1 ∷ []) ∷ []) (ends quiet 2) × (left_f mandatory_source 256 (data_item № 0) requested ≡ some (truth_row true)) × (left_f mandatory_source 256 (data_item № 0) value ≡ none)
unfolding evaluate_f schedule_f scheduled_f start_f initialise_up_f termination_f discard_2_f discard_up_f settled_f complete_f cycle_f review_f changes_f target_f enact_f collision_f properties kinds
worked_source = (worked mandatory_source 256 refl refl refl refl, refl, refl)

pub worked_collision : Worked collision 256 ((1 ∷ []) ∷ (3 ∷ []) ∷ []) (ends exception 2) × (left_f collision 256 (data_item № 0) value ≡ some unknown_row)
unfolding evaluate_f schedule_f scheduled_f start_f initialise_up_f termination_f discard_2_f discard_up_f settled_f complete_f cycle_f review_f changes_f target_f enact_f collision_f properties kinds
worked_collision = (worked collision 256 refl refl refl refl, refl)

-- a bound of 0 enacts nothing; one that is just reached, with no rows left, is quiet
pub worked_bounds : Worked unwanted 0 [] (ends bounded 0) × Worked unwanted 3 ((1 ∷ 0 ∷ 0 ∷ []) ∷ (1 ∷ 2 ∷ 0 ∷ []) ∷ (1 ∷ 2 ∷ 2 ∷ []) ∷ []) (ends bounded 3) × Worked triggered 1 ((1 ∷ 0 ∷ []) ∷ []) (ends quiet 1)
unfolding evaluate_f schedule_f scheduled_f start_f initialise_up_f termination_f discard_2_f discard_up_f settled_f complete_f cycle_f review_f changes_f target_f enact_f collision_f properties kinds
worked_bounds = (worked unwanted 0 refl refl refl refl, worked unwanted 3 refl refl refl refl, worked triggered 1 refl refl refl refl)
