-- `starts`: each mark is what the call at its task gave.
use Rattle.std.proofs.Common.{ℕ, ◌≡◌, Bool, false, arith, rules, tests}
use Rattle.waits.specs.Twins.{marked, waiting, start_f}
use Rattle.waits.specs.Arrays.{made_at}
use Rattle.passes.specs.Passes.{starts_all}
use Rattle.passes.proofs.starts.Goals as goal

pub returns : goal.returns
returns c =
    let a = c.args in
    let P : ℕ → Bool → Type 0 = λ T v. v ≡ start_f a.s.now a.f.now (waiting a.w T) (marked a.pre T) (marked a.wait T) a.clock T in
    starts_all _ _ _ _ _ _ 32 _ (omega arith) (λ T l. made_at c.from_fn.result P 32 (λ x y q m h. search (rules, tests)) c.from_fn.ensures.items T false l)
