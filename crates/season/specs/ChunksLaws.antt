-- The columns behind the first line, by whether it is a record.
use Rattle.std.specs.Prelude.{◌≡◌, Bool, true, false, cond, List, ℕ}
use Rattle.std.proofs.Common.{sym, ap, ◌∙◌}

pub were_read : {a x : Bool} {v w : List ℕ} (u : List ℕ) → a ≡ x → a ≡ true → v ≡ w → v ≡ cond x w u
were_read {w = w} u e f g = g ∙ ap (λ (t : Bool). cond t w u) (sym f ∙ e)

pub were_left : {a x : Bool} (w u : List ℕ) → a ≡ x → a ≡ false → u ≡ cond x w u
were_left w u e f = ap (λ (t : Bool). cond t w u) (sym f ∙ e)
