-- The loops over tokens and parts, turn by turn.
use Prim.Native.Nat.{ℕ, suc, ◌+◌, ◌-◌, ◌≤◌, ◌<◌}
use native.Mathlib.Omega.{arith}
use Rattle.std.specs.Prelude.{◌≡◌, Bool, true, false, cond, List}
use Rattle.std.proofs.Math.Path.{sym, ap}
use Rattle.std.proofs.Common.{◌∙◌}
use Rattle.std.proofs.Math.ListN.{length}
use Rattle.told_refusal.specs.Leaves.{is_leaf, leaf_from, leaf_behind, leaf_part, past_parts}

module _ (kinds : List ℕ) (i : ℕ) where
  pub leaf_past : length kinds ≤ i → leaf_from kinds i (length kinds - i) ≡ i
  unfolding leaf_from
  leaf_past h = let e : length kinds - i ≡ 0 = omega arith in ap (leaf_from kinds i) e

  leaf_turn : i < length kinds → leaf_from kinds i (length kinds - i) ≡ cond (is_leaf kinds i) i (leaf_from kinds (i + 1) (length kinds - (i + 1)))
  unfolding leaf_from
  leaf_turn h = let e : length kinds - i ≡ suc (length kinds - (i + 1)) = omega arith in ap (leaf_from kinds i) e

  pub leaf_here : i < length kinds → is_leaf kinds i ≡ true → leaf_from kinds i (length kinds - i) ≡ i
  leaf_here h e = leaf_turn h ∙ ap (λ (b : Bool). cond b i (leaf_from kinds (i + 1) (length kinds - (i + 1)))) e

  pub leaf_later : i < length kinds → is_leaf kinds i ≡ false → leaf_from kinds i (length kinds - i) ≡ leaf_from kinds (i + 1) (length kinds - (i + 1))
  leaf_later h e = leaf_turn h ∙ ap (λ (b : Bool). cond b i (leaf_from kinds (i + 1) (length kinds - (i + 1)))) e

module _ (cells kinds : List ℕ) (t p to : ℕ) where
  pub parts_past : to ≤ p → past_parts cells kinds t p (to - p) ≡ t
  unfolding past_parts
  parts_past h = let e : to - p ≡ 0 = omega arith in ap (past_parts cells kinds t p) e

  pub parts_more : p < to → {u : ℕ} → u ≡ cond (leaf_part cells p) (leaf_behind kinds t) t → past_parts cells kinds t p (to - p) ≡ past_parts cells kinds u (p + 1) (to - (p + 1))
  unfolding past_parts
  parts_more h q = let e : to - p ≡ suc (to - (p + 1)) = omega arith in ap (past_parts cells kinds t p) e ∙ sym (ap (λ (z : ℕ). past_parts cells kinds z (p + 1) (to - (p + 1))) q)
