-- Each worked guideline from its text: load takes the text, the clock is set, and the run reports and leaves what the worked row says, cycle by cycle.
-- What follows by a trigger or a value is in WorkedCalls, from the state that the clock leaves here.
use Rattle.std.specs.Prelude.{ℕ, ◌≤◌, List}
use Rattle.std.proofs.Common.{arith}
use Rattle.paper_expressions.proofs.Laws.Search.{no_clash}
use Rattle.paper_guideline.specs.Structure.{TopLevel}
use Rattle.paper_engine.specs.Cycle.{Report}
use Rattle.paper_engine.proofs.Laws.Worked.{Worked, worked_plots, worked_terminal, worked_unwanted, worked_triggered, worked_source, worked_collision, worked_bounds}
use Rattle.paper_calls.specs.Calls.{empty, cycle_limit, Unready, flag_set, run_done, time_done}
use Rattle.paper_worked.specs.Loading.{Loads}
use Rattle.paper_worked.proofs.LoadingLaws.{load_of}
use Rattle.paper_worked.specs.Texts.{plots_text, terminal_text, unwanted_text, triggered_text, source_text, collision_text}
use Rattle.paper_worked.proofs.TextsLaws.{reads_plots, reads_terminal, reads_unwanted, reads_triggered, reads_source, reads_collision}
use Rattle.paper_worked.specs.FromTexts.{held, FromText}

pub ready : {g : List TopLevel} {now : ℕ} → ¬ Unready (held g now)
ready (flag_set e) = no_clash (cc)

from_text : {text : List ℕ} {g : List TopLevel} {n : ℕ} {trace : List (List ℕ)} {r : Report} → Loads text g → n ≤ cycle_limit → (w : Worked g n trace r) → FromText text w
from_text l i w = record { loads = load_of l w.lawful empty; clock = time_done {x = 7} ready (omega arith); runs = run_done {lent = 1024} ready i (omega arith) w.runs }

pub plots_from_text : FromText plots_text worked_plots.0
plots_from_text = from_text reads_plots (omega arith) worked_plots.0

pub terminal_from_text : FromText terminal_text worked_terminal
terminal_from_text = from_text reads_terminal (omega arith) worked_terminal

pub unwanted_from_text : FromText unwanted_text worked_unwanted
unwanted_from_text = from_text reads_unwanted (omega arith) worked_unwanted

pub triggered_from_text : FromText triggered_text worked_triggered
triggered_from_text = from_text reads_triggered (omega arith) worked_triggered

pub source_from_text : FromText source_text worked_source.0
source_from_text = from_text reads_source (omega arith) worked_source.0

pub collision_from_text : FromText collision_text worked_collision.0
collision_from_text = from_text reads_collision (omega arith) worked_collision.0

-- the bound of 0
pub bound_from_text : FromText unwanted_text worked_bounds.0
bound_from_text = from_text reads_unwanted (omega arith) worked_bounds.0
