-- `terminated`: each mark is what the call at its task gave.
use Rattle.std.proofs.Common.{ℕ, ◌≡◌, Bool, false, ◌||◌, arith, rules, tests}
use Rattle.waits.specs.Twins.{marked}
use Rattle.waits.specs.Arrays.{made_at}
use Rattle.passes.specs.Ends.{terminated_all}
use Rattle.passes.proofs.terminated.Goals as goal

pub returns : goal.returns
returns c =
    let a = c.args in
    let P : ℕ → Bool → Type 0 = λ T v. v ≡ (marked a.ends T || marked c.ended_plans-below.result T) in
    terminated_all _ _ _ _ 32 _ (omega arith) c.ended_plans-below.ensures (λ T l. made_at c.from_fn.result P 32 (λ x y q m h. search (rules, tests)) c.from_fn.ensures.items T false l)
