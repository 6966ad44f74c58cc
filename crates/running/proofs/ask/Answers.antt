-- `ask`: the rows that are asked for, where there is room for them.
use Rattle.std.proofs.Common.{ℕ, replicate, arith}
use Rattle.std.proofs.lemmas.List.{length-replicate}
use Rattle.running.specs.Run.{asks_now}
use Rattle.running.proofs.ask.Goals as goal

pub returns-clause-asked_now : goal.returns-clause-asked_now
returns-clause-asked_now c =
    asks_now _ _ _ _ _ (replicate 2304 0) _ _ _ c.ask-m.ensures (let z = length-replicate {A = ℕ} 2304 0 in omega arith) c.bounded-n.ensures.2
