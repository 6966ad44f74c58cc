-- One number more in a lent list, by whether there is room; and what the numbers that pass are: exactly those, each once, in their order.
use Prim.Native.Nat.{ℕ, zero, suc, ◌+◌, ◌≤◌, ◌<◌}
use Rattle.std.proofs.Common.{arith, add-one, sym, ap, ◌∙◌, length-append, length-take, length-drop, take_all, drop-cons}
use Rattle.std.proofs.Math.Decide.{dec_lt}
use Rattle.std.specs.Prelude.{◌≡◌, refl, Bool, true, false, cond, ◌⊎◌, get_or, take, drop, set}
use Rattle.std.proofs.Math.Path.{subst}
use Rattle.std.proofs.Math.Logic.{⊎_elim}
use mathlib.Core.List.{List, [], ◌∷◌, ◌++◌, append_assoc, append-nil}
use Rattle.std.proofs.Math.ListN.{length, get_or-append}
use Rattle.std.proofs.Math.Seq.{take-nil, get_or-append_seam}
use Rattle.std.proofs.lemmas.List.{take-append-le, set_at}
use Rattle.paper_expressions.proofs.Laws.Tests.{two}
use Rattle.bare_tokens.specs.Listed.{passing, fitting, Listed, Put, passed, full, put}

-- ---- one number more

-- as the code finds it
pub put_passed : {l : List ℕ} {n i : ℕ} {b : Bool} → b ≡ false → Put l n b i l n
put_passed {l} {n} {i} e = subst (λ (b : Bool). Put l n b i l n) (sym e) passed

pub put_full : {l : List ℕ} {n i : ℕ} {b : Bool} → b ≡ true → length l ≤ n → Put l n b i l n
put_full {l} {n} {i} e h = subst (λ (b : Bool). Put l n b i l n) (sym e) (full h)

pub put_here : {l : List ℕ} {n i : ℕ} {b : Bool} → b ≡ true → n < length l → Put l n b i (set l n i) (n + 1)
put_here {l} {n} {i} e h = subst (λ (b : Bool). Put l n b i (set l n i) (n + 1)) (sym e) (put h)

module _ (f : ℕ → Bool) (n : ℕ) where
  passing_no : f n ≡ false → passing f (suc n) ≡ passing f n
  unfolding passing
  passing_no e = rw e (append-nil (passing f n))

  passing_yes : f n ≡ true → passing f (suc n) ≡ passing f n ++ (n ∷ [])
  unfolding passing
  passing_yes e = rw e

-- how many pass
pub count_none : (f : ℕ → Bool) → length (passing f 0) ≡ 0
unfolding passing
count_none f = refl

pub count_more : (f : ℕ → Bool) (n : ℕ) (b : Bool) → b ≡ f n → length (passing f (n + 1)) ≡ length (passing f n) + cond b 1 0
count_more f n true e = ap (λ (i : ℕ). length (passing f i)) (add-one n) ∙ ap length (passing_yes f n (sym e)) ∙ length-append (passing f n) (n ∷ [])
count_more f n false e = ap (λ (i : ℕ). length (passing f i)) (add-one n) ∙ ap length (passing_no f n (sym e)) ∙ (let z : length (passing f n) ≡ length (passing f n) + 0 = omega arith in z)

pub listed_none : (f : ℕ → Bool) (l : List ℕ) → Listed f 0 l l 0
unfolding passing
listed_none f l = record { count = sym (ap length (take-nil (length l))); cells = sym (ap (λ (w : List ℕ). w ++ l) (take-nil (length l))) }

module _ {f : ℕ → Bool} {n : ℕ} {l m : List ℕ} {r : ℕ} (w : Listed f n l m r) where
  few : r ≤ length l
  few = let e = w.count ∙ length-take (length l) (passing f n) in omega arith

  pub listed_long : length m ≡ length l
  listed_long =
      let a = ap length w.cells ∙ length-append (fitting f n l) (drop r l) in
      let b = length-drop r l in
      let d = w.count in
      let h = few in
      omega arith

  as_before : passing f (suc n) ≡ passing f n → Listed f (suc n) l m r
  as_before e = record { count = w.count ∙ sym (ap (λ (p : List ℕ). length (take (length l) p)) e); cells = w.cells ∙ sym (ap (λ (p : List ℕ). take (length l) p ++ drop r l) e) }

  no_room : f n ≡ true → length m ≤ r → Listed f (suc n) l m r
  no_room e h =
      let a = listed_long in
      let b = w.count ∙ length-take (length l) (passing f n) in
      let d : take (length l) (passing f (suc n)) ≡ take (length l) (passing f n) = ap (take (length l)) (passing_yes f n e) ∙ take-append-le (length l) (passing f n) (n ∷ []) (omega arith) in
      record { count = w.count ∙ sym (ap length d); cells = w.cells ∙ sym (ap (λ (p : List ℕ). p ++ drop r l) d) }

  room : f n ≡ true → r < length m → Listed f (suc n) l (set m r n) (r + 1)
  room e h =
      let a = listed_long in
      let b = w.count ∙ length-take (length l) (passing f n) in
      let g : length (passing f n) ≡ r = omega arith in
      let z = length-append (passing f n) (n ∷ []) in
      let d : fitting f n l ≡ passing f n = take_all (length l) (passing f n) (omega arith) in
      let t : fitting f (suc n) l ≡ passing f n ++ (n ∷ []) = ap (take (length l)) (passing_yes f n e) ∙ take_all (length l) (passing f n ++ (n ∷ [])) (omega arith) in
      let v : m ≡ passing f n ++ (get_or l r 0 ∷ drop (suc r) l) = w.cells ∙ ap (λ (p : List ℕ). p ++ drop r l) d ∙ ap (λ (p : List ℕ). passing f n ++ p) (drop-cons l r 0 (omega arith)) in
      record {
        count = (let y : r + 1 ≡ length (passing f n ++ (n ∷ [])) = omega arith in y) ∙ sym (ap length t);
        cells =
            ap (λ (p : List ℕ). set p r n) v
            ∙ set_at (passing f n) (get_or l r 0) (drop (suc r) l) n r g
            ∙ sym (append_assoc (passing f n) (n ∷ []) (drop (suc r) l))
            ∙ sym (ap (λ (p : List ℕ). p ++ drop (suc r) l) t)
            ∙ ap (λ (i : ℕ). fitting f (suc n) l ++ drop i l) (sym (add-one r));
      }

  more : {b : Bool} {m' : List ℕ} {r' : ℕ} → b ≡ f n → Put m r b n m' r' → Listed f (suc n) l m' r'
  more e passed = as_before (passing_no f n (sym e))
  more e (full h) = no_room (sym e) h
  more e (put h) = room (sym e) h

  pub listed_more : {b : Bool} {m' : List ℕ} {r' : ℕ} → b ≡ f n → Put m r b n m' r' → Listed f (n + 1) l m' r'
  listed_more {m' = m'} {r' = r'} e p = subst (λ (i : ℕ). Listed f i l m' r') (sym (add-one n)) (more e p)

-- ---- the numbers that pass

-- a number below n passes
pub record Passes (f : ℕ → Bool) (n i : ℕ) : Type 0 where
  pub below : i < n
  pub is : f i ≡ true

module _ (f : ℕ → Bool) where
  last_of : (n : ℕ) → f n ≡ true → (k : ℕ) → k < length (passing f n ++ (n ∷ [])) → ((j : ℕ) → j < length (passing f n) → Passes f n (get_or (passing f n) j 0)) → Passes f (suc n) (get_or (passing f n ++ (n ∷ [])) k 0)
  last_of n e k h g = go (dec_lt k (length (passing f n)))
    where
      go : Dec (k < length (passing f n)) → Passes f (suc n) (get_or (passing f n ++ (n ∷ [])) k 0)
      go (yes l) = subst (Passes f (suc n)) (sym (get_or-append (passing f n) (n ∷ []) 0 k l)) (let p = g k l in let q = p.below in record { below = omega arith; is = p.is })
      go (no l) =
          let a = length-append (passing f n) (n ∷ []) in
          let b : length (passing f n) ≡ k = omega arith in
          subst (λ (j : ℕ). Passes f (suc n) (get_or (passing f n ++ (n ∷ [])) j 0)) b
          (subst (Passes f (suc n)) (sym (get_or-append_seam (passing f n) n [] 0)) (record { below = omega arith; is = e }))

  -- every number in the list passes
  pub listed_passes : (n k : ℕ) → k < length (passing f n) → Passes f n (get_or (passing f n) k 0)
  unfolding passing
  listed_passes zero k h = absurd (omega arith)
  listed_passes (suc n) k h = ⊎_elim
      (λ (e : f n ≡ true). subst (λ (p : List ℕ). Passes f (suc n) (get_or p k 0)) (sym (passing_yes f n e)) (last_of n e k (subst (λ (p : List ℕ). k < length p) (passing_yes f n e) h) (listed_passes n)))
      (λ (e : f n ≡ false). let p = listed_passes n k (subst (λ (p : List ℕ). k < length p) (passing_no f n e) h) in let q = p.below in
      subst (λ (p : List ℕ). Passes f (suc n) (get_or p k 0)) (sym (passing_no f n e)) (record { below = omega arith; is = p.is }))
      (two (f n))

  -- and every number that passes is in the list
  pub passes_listed : (n i : ℕ) → i < n → f i ≡ true → (k : ℕ) × (k < length (passing f n)) × (get_or (passing f n) k 0 ≡ i)
  passes_listed zero i h e = absurd (omega arith)
  passes_listed (suc n) i h e = go (dec_lt i n) (two (f n)) (λ l. passes_listed n i l e)
    where
      front : (p q : List ℕ) → p ++ q ≡ passing f (suc n) → p ≡ passing f n → (k : ℕ) × (k < length (passing f n)) × (get_or (passing f n) k 0 ≡ i) → (k : ℕ) × (k < length (passing f (suc n))) × (get_or (passing f (suc n)) k 0 ≡ i)
      front p q a b r =
          let l : r.0 < length p = subst (λ (w : List ℕ). r.0 < length w) (sym b) r.1 in
          let z = length-append p q in
          (r.0, subst (λ (w : List ℕ). r.0 < length w) a (omega arith), ap (λ (w : List ℕ). get_or w r.0 0) (sym a) ∙ get_or-append p q 0 r.0 l ∙ ap (λ (w : List ℕ). get_or w r.0 0) b ∙ r.2)

      go : Dec (i < n) → (f n ≡ true) ⊎ (f n ≡ false) → (i < n → (k : ℕ) × (k < length (passing f n)) × (get_or (passing f n) k 0 ≡ i)) → (k : ℕ) × (k < length (passing f (suc n))) × (get_or (passing f (suc n)) k 0 ≡ i)
      go (yes l) d g = ⊎_elim
          (λ (a : f n ≡ true). front (passing f n) (n ∷ []) (sym (passing_yes f n a)) refl (g l))
          (λ (a : f n ≡ false). front (passing f n) [] (append-nil (passing f n) ∙ sym (passing_no f n a)) refl (g l))
          d
      go (no l) d g =
          let z : i ≡ n = omega arith in
          let a : f n ≡ true = sym (ap f z) ∙ e in
          let b = length-append (passing f n) (n ∷ []) in (
            length (passing f n),
            subst (λ (w : List ℕ). length (passing f n) < length w) (sym (passing_yes f n a)) (omega arith),
            ap (λ (w : List ℕ). get_or w (length (passing f n)) 0) (passing_yes f n a) ∙ get_or-append_seam (passing f n) n [] 0 ∙ sym z,
          )
