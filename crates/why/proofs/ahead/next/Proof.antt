-- `next`: each pass by its own promise.
use mathlib.Core.Path.{subst}
use Prim.Native.Nat.{ℕ}
use Rattle.passes.specs.Passes.{Starts}
use borrow.Author.Rules.{rules}
use Rattle.why.proofs.ahead.next.Statement.{statement}
use Rattle.why.proofs.ahead.next.Tie as tie

returns : tie.Need-returns
returns c =
    let a = c.before.before.before.before.before.before.before.before.before.before.before.before.before.args in
    record {
      preconditions = c.before.before.before.before.before.before.before.before.all_allowed-pre.ensures;
      wait_conditions = c.before.before.before.before.before.before.before.all_allowed-wait.ensures;
      terminate_conditions = c.before.before.before.before.before.before.all_ended-ends.ensures;
      start = subst (λ (k : ℕ). Starts a.state.now a.plan.now a.waits c.before.before.before.before.before.before.before.before.all_allowed-pre.result c.before.before.before.before.before.before.before.all_allowed-wait.result k c.before.before.before.before.starts-starts.result) c.before.before.before.before.before.number-clock.ensures c.before.before.before.before.starts-starts.ensures;
      initialise = c.before.before.before.initialises-initialises.ensures;
      terminate = c.before.before.terminated-ended.ensures;
      discard = c.before.discarded-discards.ensures;
      complete = c.completed-completes.ensures;
    }

pub next_spec : {M : Type 1} → statement M
next_spec = tie.close (tie.spec (λ c κs. search rules) (λ c κs. search rules) (λ c κs. search rules) (λ c κs. search rules) (λ c κs. search rules) (λ c κs. search rules) (λ c κs. search rules) (λ c κs. search rules) (λ c κs. search rules) returns)
