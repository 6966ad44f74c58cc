-- A list that is filled from the last place to the first, and what it means so far. By induction on the places.
use Rattle.std.specs.Prelude.{◌≡◌, refl, Bool, true, List, [], ◌∷◌, map, ℕ, zero, suc, ◌≤◌, ◌<◌, length, take, drop, set}
use Rattle.std.proofs.Common.{ap, ◌∙◌, not-suc-le-zero, arith, length-set}
use Rattle.paper_expressions.specs.Values as paper
use Rattle.paper_expressions.specs.Values.{sequence}
use Rattle.values.specs.declared.scalar.Scalar.{Scalar}
use Rattle.values.specs.declared.list.Cell.{Cell}
use Rattle.values.specs.declared.list.List as Code
use Rattle.values.specs.declared.value.Value.{Value}
use Rattle.values.specs.Meaning.{meaning, held, meaning_l, meaning_v, valued, cell}

-- r is l with s in the k-th place
pub record Put (k : ℕ) (s : Scalar) (l r : Code.List) : Type 0 where
  pub n : r.n ≡ l.n
  pub items : r.items ≡ set l.items k (cell s)

-- of the n elements of l, those from the k-th on mean ss
pub record Tail (b : List ℕ) (n k : ℕ) (l : Code.List) (ss : List paper.Scalar) : Type 0 where
  pub size : l.n ≡ n
  pub room : length l.items ≡ 16
  pub means : map (held b) (drop k (take n l.items)) ≡ ss

drop_take : {A : Type 0} (n : ℕ) (l : List A) → drop n (take n l) ≡ []
drop_take zero l = refl
drop_take (suc n) [] = refl
drop_take (suc n) (x ∷ l) = drop_take n l

drop_take_set : {A : Type 0} (x : A) (l : List A) (k n : ℕ) → k < n → n ≤ length l → drop k (take n (set l k x)) ≡ x ∷ drop (suc k) (take n l)
drop_take_set x l k zero h i = absurd (not-suc-le-zero h)
drop_take_set x [] k (suc n) h i = absurd (not-suc-le-zero i)
drop_take_set x (y ∷ l) zero (suc n) h i = refl
drop_take_set x (y ∷ l) (suc k) (suc n) h i = drop_take_set x l k n (omega arith) (omega arith)

module _ (b : List ℕ) (n : ℕ) where
  pub tail_none : (l : Code.List) → (l.n ≡ n) × (length l.items ≡ 16) → Tail b n n l []
  tail_none l h = record { size = h.0; room = h.1; means = ap (map (held b)) (drop_take n l.items) }

  pub tail_more : (k : ℕ) (s : Scalar) (l r : Code.List) {ss : List paper.Scalar} → n ≤ 16 → k < n → Tail b n (suc k) l ss → Put k s l r → Tail b n k r (meaning b s ∷ ss)
  tail_more k s l r {ss} h i t p =
      let e = t.room in
      let x = drop_take_set (cell s) l.items k n i (omega arith) in
      record {
        size = p.n ∙ t.size;
        room = ap length p.items ∙ length-set l.items k (cell s) ∙ e;
        means = ap (λ (y : List Cell). map (held b) (drop k (take n y))) p.items ∙ ap (map (held b)) x ∙ ap (λ (z : List paper.Scalar). meaning b s ∷ z) t.means;
      }

  pub tail_all : (l : Code.List) {ss : List paper.Scalar} → Tail b n 0 l ss → meaning_l b l ≡ ss
  tail_all l t = ap (λ (m : ℕ). map (held b) (take m l.items)) t.size ∙ t.means

-- a value made of a list
pub many_is : (b : List ℕ) (r : Value) {l : Code.List} → (r.many ≡ true) × (r.list ≡ l) → meaning_v b r ≡ sequence (meaning_l b l)
many_is b r e = ap (λ (y : Bool). valued y (meaning b r.one) (meaning_l b r.list)) e.0 ∙ ap (λ (x : Code.List). sequence (meaning_l b x)) e.1
