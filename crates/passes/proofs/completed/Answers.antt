-- `completed`: each mark is what the call at its task gave.
use Rattle.std.proofs.Common.{ℕ, ◌≡◌, Bool, false, arith, rules, tests}
use Rattle.waits.specs.Arrays.{made_at}
use Rattle.completes.specs.Twins.{complete_f}
use Rattle.passes.specs.Ends.{completed_all}
use Rattle.passes.proofs.completed.Goals as goal

pub returns : goal.returns
returns c =
    let a = c.args in
    let P : ℕ → Bool → Type 0 = λ T v. v ≡ complete_f a.s.now a.f.now c.unsettled-pending.result T in
    completed_all _ _ _ _ _ _ 32 _ (omega arith) c.unsettled-pending.ensures (λ T l. made_at c.from_fn.result P 32 (λ x y q m h. search (rules, tests)) c.from_fn.ensures.items T false l)
