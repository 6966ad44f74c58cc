-- Laws: what stands beside the gathered texts is as before: texts that end where they begin, and the expressions that have only such.
use Rattle.std.specs.Prelude.{◌≡◌, refl, ◌⊎◌, List, ℕ, zero, suc, ◌+◌, ◌*◌, ◌/◌, ◌%◌, ◌≤◌, ◌<◌, get_or, length}
use Rattle.std.proofs.Common.{inl, inr, arith}
use Rattle.paper_expressions.specs.Expressions.{Expr}
use Rattle.parts.specs.Texts.{cells, text_at_fn}
use Rattle.parts.specs.Part.{table, size, Holds}
use Rattle.parts.specs.Kept.{HasText, Kept, holds_kept}
use Rattle.pool.specs.Written.{Written}
use Rattle.pool.specs.Pooled.{Below}

cells_kept : (b b' : List ℕ) (q n : ℕ) → ((j : ℕ) → j < q + n → get_or b' j 0 ≡ get_or b j 0) → cells b' q n ≡ cells b q n
cells_kept b b' q zero f = refl
cells_kept b b' q (suc n) f = let x = f q (omega arith) in let y = cells_kept b b' (suc q) n (λ j h. f j (omega arith)) in cc

pub text_kept : {b b' w : List ℕ} {o : ℕ} (x : ℕ) → Written b b' o w → Below o x → text_at_fn b' x ≡ text_at_fn b x
text_kept {b} {b'} x h l = cells_kept b b' (x / 64) (x % 64) (λ j g. h.outside j (inl (omega arith)))

module _ {x x' b b' s w : List ℕ} {a o : ℕ} (hl : Written x x' (a * 4) s) (hb : Written b b' o w) where
  -- the parts from u up to v stand beside those that were written
  kept : (u v : ℕ) → (v ≤ a) ⊎ (a * 4 + length s ≤ u * 4) → ((p : ℕ) → u ≤ p → p < v → HasText (get_or x (p * 4) 0) → Below o (get_or x (p * 4 + 3) 0))
      → Kept (table x b) (table x' b') u v
  kept u v h f = record { cells = λ i l g. hl.outside i (side i l g h); texts = λ p l g t. text_kept (get_or x (p * 4 + 3) 0) hb (f p l g t) }
    where
      side : (i : ℕ) → u * 4 ≤ i → i < v * 4 → (v ≤ a) ⊎ (a * 4 + length s ≤ u * 4) → (i < a * 4) ⊎ (a * 4 + length s ≤ i)
      side i l g (inl x) = inl (omega arith)
      side i l g (inr x) = inr (omega arith)

  pub beside_held : (f : Expr) (u : ℕ) → (u + size f ≤ a) ⊎ (a * 4 + length s ≤ u * 4) → ((p : ℕ) → u ≤ p → p < u + size f → HasText (get_or x (p * 4) 0) → Below o (get_or x (p * 4 + 3) 0))
      → Holds (table x b) u f → Holds (table x' b') u f
  beside_held f u h g k = holds_kept (table x b) (table x' b') f u (kept u (u + size f) h g) (omega arith) (omega arith) k
