-- `negative`: what is below 2^62 can be turned round in 64 bits.
use Prim.Native.Nat.{ℕ, zero, suc, ◌<◌, ◌^◌}
use mathlib.Core.Path.{◌∙◌}
use native.Mathlib.Omega.{arith}
use lib.IntN.{pos, ◌-ℤ◌, neg_ℤ, +ℤ_idl}
use borrow.Author.Tests.{lt-ltb}
use mir.Syntax.{w64}
use mir.Val.{SFits}
use mir.Facts.{to_z-of_z, to_z_pos}
use Rattle.script.proofs.values.negative.Goals as goal

turned : (n : ℕ) → n < 2 ^ 62 → SFits w64 (pos 0 -ℤ pos n)
turned zero l = record { sfits = omega arith }
turned (suc n) l = rw (lt-ltb 0 (suc n) (omega arith)) (record { sfits = omega arith })

pub overflow_sub-result : goal.overflow_sub-result
overflow_sub-result c =
    let wide : c.args.n < 2 ^ 63 = omega (arith, c.requires) in
    simp (to_z_pos w64 wide) (turned c.args.n (omega (arith, c.requires)))

pub returns : goal.returns
returns c =
    let wide : c.args.n < 2 ^ 63 = omega (arith, c.requires) in
    simp (to_z_pos w64 wide) (to_z-of_z (turned c.args.n (omega (arith, c.requires))) ∙ +ℤ_idl (neg_ℤ (pos c.args.n)))
