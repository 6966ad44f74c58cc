-- The steps of the listing as the code takes them: one more, so many, and where the buffer has room.
use Rattle.std.specs.Prelude.{◌≡◌, refl, Bool, true, false, not, List, ℕ, ◌+◌, length}
use Rattle.std.proofs.Common.{sym, subst, ◌∙◌, add-one}
use Rattle.digits.specs.Appends.{Appends}
use Rattle.transcript_values.specs.Literals.{room_at}
use Rattle.replay.specs.Rows.{Buffer, Series, more, IsThere}

pub one_more : {Step : ℕ → Buffer → Buffer → Type 0} {n : ℕ} {x y z : Buffer} → Series Step n x y → Step n y z → Series Step (n + 1) x z
one_more {Step} {n} {x} {y} {z} h s = subst (λ (m : ℕ). Series Step m x z) (sym (add-one n)) (more h s)

pub so_many : {Step : ℕ → Buffer → Buffer → Type 0} {n m : ℕ} {x y : Buffer} → n ≡ m → Series Step n x y → Series Step m x y
so_many {Step} {x = x} {y = y} e h = subst (λ (k : ℕ). Series Step k x y) e h

pub from_room : {out out' : List ℕ} (o : ℕ) {from p : ℕ} {w : List ℕ} → from ≡ room_at (length out) o → Appends out out' from p w → Appends out out' (room_at (length out) o) p w
from_room {out} {out'} o {from} {p} {w} e h = subst (λ (z : ℕ). Appends out out' z p w) e h

-- ---- whether a component is there, as the code tests it

not_true : (t : Bool) → not t ≡ true → t ≡ false
not_true true e = sym e
not_true false e = refl

not_false : (t : Bool) → not t ≡ false → t ≡ true
not_false true e = refl
not_false false e = sym e

module _ {f : List ℕ} {w : List (List Bool)} {s : List ℕ} {kind component : ℕ} {t : Bool} (h : IsThere f w s kind component t) where
  pub is_absent : not t ≡ true → IsThere f w s kind component false
  is_absent e = record { row = h.row; reads = h.reads; is = h.is ∙ not_true t e }

  pub is_present : not t ≡ false → IsThere f w s kind component true
  is_present e = record { row = h.row; reads = h.reads; is = h.is ∙ not_false t e }
