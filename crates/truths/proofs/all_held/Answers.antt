-- `all_held`: each mark is what the call at its task gave.
use Rattle.std.proofs.Common.{ℕ, ◌+◌, get_or, Bool, false, arith, rules, tests}
use Rattle.parts.specs.Part.{table}
use Rattle.waits.specs.Arrays.{made_at}
use Rattle.truths.specs.Part.{shown_by}
use Rattle.truths.specs.Truth.{HeldOf, held_all}
use Rattle.truths.proofs.all_held.Goals as goal

pub returns : goal.returns
returns c =
    let a = c.args in
    let P : ℕ → Bool → Type 0 = λ T v. HeldOf a.none (table a.x.now a.b.now) (shown_by a.f.now a.s.now) T (get_or a.f.now (a.ends + T) 0) v in
    held_all _ _ _ _ _ 32 _ (omega arith) (λ T l. made_at c.from_fn.result P 32 (λ x y q m h. search (rules, tests)) c.from_fn.ensures.items T false l)
