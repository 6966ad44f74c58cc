-- What is shown of a worked guideline from its text: load takes the text, the clock is set, and the run reports and leaves what the worked row says, cycle by cycle.
use Rattle.std.specs.Prelude.{ℕ, false, List}
use Rattle.paper_guideline.specs.Structure.{TopLevel}
use Rattle.paper_engine.specs.Cycle.{Report}
use Rattle.paper_rows.proofs.Laws.RowLists.{look_f}
use Rattle.paper_rows.proofs.Laws.InitialLaws.{load_f}
use Rattle.paper_engine.proofs.Laws.EnactLaws.{run_f}
use Rattle.paper_engine.proofs.Laws.Worked.{Worked}
use Rattle.paper_calls.specs.Calls.{State, empty, loaded, done, ran, load, run, set_engine_time, Calls}

-- the guideline as load leaves it, at an engine time
abbrev pub held : List TopLevel → ℕ → State
held g now = loaded (record { structure = g; table = look_f (load_f g); flag = false; time = now })

-- the state that a worked run leaves
abbrev pub left : List TopLevel → ℕ → State
left g n = let s = (run_f g 7 n 0 (look_f (load_f g)) false).0 in loaded (record { structure = g; table = s.table; flag = s.flag; time = 7 })

pub record FromText (text : List ℕ) {g : List TopLevel} {n : ℕ} {trace : List (List ℕ)} {r : Report} (w : Worked g n trace r) : Type 1 where
  pub loads : Calls (load text false) empty done (held g 0)
  pub clock : Calls (set_engine_time 7) (held g 0) done (held g 7)
  pub runs : Calls (run n 1024) (held g 7) (ran r) (left g n)
