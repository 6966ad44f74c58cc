-- What is decided of a text: load's answer, where no lent table is short. Definitions only.
use Rattle.std.specs.Prelude.{List, ℕ, Result, Ok, Err, ⊤}
use Rattle.paper_guideline.specs.Refusals as Refusals
use Rattle.stages.specs.declared.Refused.{Refused}

abbrev pub Decides : List ℕ → Result ⊤ Refused → Type 0
Decides text (Ok u) = Refusals.Answers ⊥ text Refusals.loads
Decides text (Err r) = Refusals.Answers ⊥ text (Refusals.refused r.number r.place)
