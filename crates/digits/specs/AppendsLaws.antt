-- Laws of appending: v and then w is appending v ++ w, and what stood before the place stands. By the equation of what is written.
use Rattle.std.specs.Prelude.{◌≡◌, refl, List, [], ◌∷◌, ◌++◌, ℕ, suc, ◌+◌, ◌≤◌, take, drop, set}
use Rattle.std.proofs.Common.{sym, ap, subst, ◌∙◌, append_assoc, arith, length-set, take_at}
use Rattle.std.proofs.Math.ListN.{length, length-append}
use Rattle.std.proofs.lemmas.List.Edits.{sets, sets-eq}
use Rattle.std.proofs.Math.Seq.{length-take-le}
use Rattle.digits.specs.Appends.{placed, Appends}

-- ---- appending nothing, and a byte

by_sets : (out : List ℕ) (o : ℕ) (w : List ℕ) → o + length w ≤ length out → sets out o w ≡ placed out o w
unfolding placed
by_sets out o w room = sets-eq w out o room

pub append_nothing : (out : List ℕ) (o : ℕ) → Appends out out o o []
append_nothing out o = record { same = refl; wrote = λ room. (omega arith, by_sets out o [] room) }

pub append_byte : (out : List ℕ) (o b : ℕ) → Appends out (set out o b) o (o + 1) (b ∷ [])
append_byte out o b = record { same = length-set out o b; wrote = λ room. (refl, by_sets out o (b ∷ []) room) }

pub no_room : (out : List ℕ) (o b : ℕ) → length out ≤ o → Appends out out o o (b ∷ [])
no_room out o b full = record { same = refl; wrote = λ room. absurd (omega arith) }

-- the same bytes, said otherwise
pub appends_as : {out out' : List ℕ} {o r : ℕ} {v w : List ℕ} → w ≡ v → Appends out out' o r v → Appends out out' o r w
appends_as {out} {out'} {o} {r} e h = subst (Appends out out' o r) (sym e) h

-- ---- appending twice

sets_then : (out : List ℕ) (o : ℕ) (v w : List ℕ) → sets (sets out o v) (o + length v) w ≡ sets out o (v ++ w)
sets_then out o [] w = ap (λ k. sets out k w) (let e : o + 0 ≡ o = omega arith in e)
sets_then out o (b ∷ v) w =
    ap (λ k. sets (sets (set out o b) (suc o) v) k w) (let e : o + suc (length v) ≡ suc o + length v = omega arith in e) ∙ sets_then (set out o b) (suc o) v w

module _ {out mid out' : List ℕ} {o p r : ℕ} {v w : List ℕ} where
  pub append_then : Appends out mid o p v → Appends mid out' p r w → Appends out out' o r (v ++ w)
  append_then f g = record { same = g.same ∙ f.same; wrote = both }
    where
      both : o + length (v ++ w) ≤ length out → (r ≡ o + length (v ++ w)) × (out' ≡ placed out o (v ++ w))
      both room =
          let n = length-append v w in
          let first : o + length v ≤ length out = omega arith in
          let (at, is) = f.wrote first in
          let kept = f.same in
          let more : p + length w ≤ length mid = omega arith in
          let (to, then) = g.wrote more in
          (omega arith, cc (by_sets mid p w more, by_sets out o v first, sets_then out o v w, by_sets out o (v ++ w) room))

-- ---- what a reader of the buffer finds, up to the place behind what was written

module _ {out out' : List ℕ} {o r : ℕ} {w : List ℕ} where
  pub read_back : Appends out out' o r w → o + length w ≤ length out → take r out' ≡ take o out ++ w
  unfolding placed
  read_back h room =
      let (at, is) = h.wrote room in
      let n = length-append (take o out) w in
      let m = length-take-le o out (omega arith) in
      rw (at, is) (take_at (take o out ++ w) (drop (o + length w) out) (o + length w) (omega arith))

-- a worked row: two bytes into a buffer of five
pub placed_row : placed (0 ∷ 0 ∷ 0 ∷ 0 ∷ 0 ∷ []) 1 (7 ∷ 8 ∷ []) ≡ 0 ∷ 7 ∷ 8 ∷ 0 ∷ 0 ∷ []
unfolding placed
placed_row = refl

-- ---- a loop that appends: the rest is left of the whole

pub record Begun (out out' : List ℕ) (o r : ℕ) (rest whole : List ℕ) : Type 0 where
  pub done : List ℕ
  pub so_far : Appends out out' o r done
  pub left : done ++ rest ≡ whole

pub begun_none : (out : List ℕ) (o : ℕ) (whole : List ℕ) → Begun out out o o whole whole
begun_none out o whole = record { done = []; so_far = append_nothing out o; left = refl }

module _ {out mid out' : List ℕ} {o p r : ℕ} {rest whole : List ℕ} where
  pub begun_more : {v : List ℕ} → Begun out mid o p (v ++ rest) whole → Appends mid out' p r v → Begun out out' o r rest whole
  begun_more {v} b h = record { done = b.done ++ v; so_far = append_then b.so_far h; left = append_assoc b.done v rest ∙ b.left }

  pub begun_all : Begun out mid o p rest whole → Appends mid out' p r rest → Appends out out' o r whole
  begun_all b h = appends_as (sym b.left) (append_then b.so_far h)
