-- Laws of reading: what the loop goes by, that it goes on in the chunk, and that reading in two chunks is reading in one. By induction on the bytes.
use Rattle.std.specs.Prelude.{◌≡◌, Bool, T, get_or, drop}
use Rattle.std.proofs.Math.Path.{refl, ap, ap₂}
use Rattle.std.proofs.Common.{sym, subst, ◌∙◌, add-one, length-drop, drop_of_length-le, drop-cons}
use Rattle.std.proofs.Math.Bool.{true, false}
use mathlib.Core.List.{List, [], ◌∷◌, ◌++◌}
use Prim.Native.Nat.{ℕ, suc, ◌+◌, ◌≤◌, ◌<◌}
use native.Mathlib.Omega.{arith}
use Rattle.std.proofs.Math.ListN.{length}
use Rattle.separated.specs.declared.machine.Kind.{Kind}
use Rattle.separated.specs.declared.machine.Act.{Act}
use Rattle.separated.specs.declared.machine.Move.{Move}
use Rattle.separated.specs.declared.records.Scan.{Scan}
use Rattle.separated.specs.Machine.{kind_of, step_of}
use Rattle.separated.specs.Reading.{Read, read, moved_to, acted, moved_by, read_byte, Reached, reached, stop_or, read_from}

no_bool : {A : Type 0} → ◌≡◌ {A = Bool} true false → A
no_bool e = absurd (subst T e tt)

-- ---- one byte: what is known of the move, and then what its act does

module _ (separator b : ℕ) (s : Scan) (kept ends : List ℕ) {k : Kind} {m : Move} {t : Scan} (e : k ≡ kind_of b separator) (f : m ≡ step_of s.mode k) (g : t ≡ moved_to m.mode b s) where
  pub by_act : {a : Act} {y : Read} → m.act ≡ a → y ≡ acted a s.mode b (read t kept ends) → y ≡ read_byte separator (read s kept ends) b
  unfolding read_byte
  by_act h z =
      z ∙ ap₂ (λ (a : Act) (u : Scan). acted a s.mode b (read u kept ends)) (sym h) g
      ∙ ap (λ (n : Move). moved_by n b (read s kept ends)) (f ∙ ap (step_of s.mode) e)

module _ (separator : ℕ) where
  -- ---- the loop

  module _ (at : ℕ) (x : Read) (w : List ℕ) where
    pub all_read : length w ≤ at → read_from separator at x (drop at w) ≡ reached at x
    unfolding read_from
    all_read h = rw (drop_of_length-le w h)

    module _ {y : Read} (more : at < length w) (e : y ≡ read_byte separator x (get_or w at 0)) where
      next_byte : read_from separator at x (drop at w) ≡ stop_or y.scan.done (reached (at + 1) y) (read_from separator (at + 1) y (drop (at + 1) w))
      unfolding read_from
      next_byte =
          ap (read_from separator at x) (drop-cons w at 0 more)
          ∙ ap (λ (z : Read). stop_or z.scan.done (reached (at + 1) z) (read_from separator (at + 1) z (drop (suc at) w))) (sym e)
          ∙ ap (λ (k : ℕ). stop_or y.scan.done (reached (at + 1) y) (read_from separator (at + 1) y (drop k w))) (sym (add-one at))

      pub read_ended : y.scan.done ≡ true → read_from separator at x (drop at w) ≡ reached (at + 1) y
      read_ended f = next_byte ∙ ap (λ (t : Bool). stop_or t (reached (at + 1) y) (read_from separator (at + 1) y (drop (at + 1) w))) f

      pub read_more : y.scan.done ≡ false → read_from separator at x (drop at w) ≡ read_from separator (at + 1) y (drop (at + 1) w)
      read_more f = next_byte ∙ ap (λ (t : Bool). stop_or t (reached (at + 1) y) (read_from separator (at + 1) y (drop (at + 1) w))) f

  -- ---- it goes on

  not_back : (at : ℕ) (x : Read) (w : List ℕ) → at ≤ (read_from separator at x w).at
  unfolding read_from
  not_back at x [] = omega arith
  not_back at x (b ∷ w) = by (read_byte separator x b).scan.done (read_from separator (at + 1) (read_byte separator x b) w) (not_back (at + 1) (read_byte separator x b) w)
    where
      by : (t : Bool) (z : Reached) → at + 1 ≤ z.at → at ≤ (stop_or t (reached (at + 1) (read_byte separator x b)) z).at
      by true z h = omega arith
      by false z h = omega arith

  pub goes_on : (at : ℕ) (x : Read) (w : List ℕ) → 0 < length w → at < (read_from separator at x w).at
  unfolding read_from
  goes_on at x [] h = absurd (omega arith)
  goes_on at x (b ∷ w) h = by (read_byte separator x b).scan.done (read_from separator (at + 1) (read_byte separator x b) w) (not_back (at + 1) (read_byte separator x b) w)
    where
      by : (t : Bool) (z : Reached) → at + 1 ≤ z.at → at < (stop_or t (reached (at + 1) (read_byte separator x b)) z).at
      by true z h = omega arith
      by false z h = omega arith

  pub taken_on : (at : ℕ) (x : Read) (w : List ℕ) {z : Reached} → at < length w → z ≡ read_from separator at x (drop at w) → at < z.at
  taken_on at x w h e = subst (λ (k : ℕ). at < k) (sym (ap (λ (y : Reached). y.at) e)) (goes_on at x (drop at w) (simp length-drop (omega arith)))

  -- ---- in one chunk or in two

  -- a record that is not done goes through all bytes
  passed : (at : ℕ) (x : Read) (v : List ℕ) → (read_from separator at x v).so_far.scan.done ≡ false → (read_from separator at x v).at ≡ at + length v
  unfolding read_from
  passed at x [] e = omega arith
  passed at x (b ∷ v) e = by (read_byte separator x b).scan.done refl (read_from separator (at + 1) (read_byte separator x b) v) (passed (at + 1) (read_byte separator x b) v) e
    where
      by : (t : Bool) → (read_byte separator x b).scan.done ≡ t → (z : Reached) → (z.so_far.scan.done ≡ false → z.at ≡ at + 1 + length v)
          → (stop_or t (reached (at + 1) (read_byte separator x b)) z).so_far.scan.done ≡ false → (stop_or t (reached (at + 1) (read_byte separator x b)) z).at ≡ at + suc (length v)
      by true f z h g = no_bool (sym f ∙ g)
      by false f z h g = let k = h g in omega arith

  -- the place counts on
  counted : (k at : ℕ) (x : Read) (v : List ℕ) → read_from separator (k + at) x v ≡ reached (k + (read_from separator at x v).at) (read_from separator at x v).so_far
  unfolding read_from
  counted k at x [] = refl
  counted k at x (b ∷ v) =
      by (read_byte separator x b).scan.done (read_from separator (k + at + 1) (read_byte separator x b) v) (read_from separator (at + 1) (read_byte separator x b) v)
      (ap (λ (n : ℕ). read_from separator n (read_byte separator x b) v) (let e : k + at + 1 ≡ k + (at + 1) = omega arith in e) ∙ counted k (at + 1) (read_byte separator x b) v)
    where
      by : (t : Bool) (y z : Reached) → y ≡ reached (k + z.at) z.so_far
          → stop_or t (reached (k + at + 1) (read_byte separator x b)) y ≡ reached (k + (stop_or t (reached (at + 1) (read_byte separator x b)) z).at) (stop_or t (reached (at + 1) (read_byte separator x b)) z).so_far
      by true y z h = ap (λ (n : ℕ). reached n (read_byte separator x b)) (let e : k + at + 1 ≡ k + (at + 1) = omega arith in e)
      by false y z h = h

  then_on : (at : ℕ) (x : Read) (v w : List ℕ) → (read_from separator at x v).so_far.scan.done ≡ false
      → read_from separator at x (v ++ w) ≡ read_from separator (read_from separator at x v).at (read_from separator at x v).so_far w
  unfolding read_from
  then_on at x [] w e = refl
  then_on at x (b ∷ v) w e = by (read_byte separator x b).scan.done refl (read_from separator (at + 1) (read_byte separator x b) (v ++ w)) (read_from separator (at + 1) (read_byte separator x b) v) (then_on (at + 1) (read_byte separator x b) v w) e
    where
      by : (t : Bool) → (read_byte separator x b).scan.done ≡ t → (y z : Reached) → (z.so_far.scan.done ≡ false → y ≡ read_from separator z.at z.so_far w)
          → (stop_or t (reached (at + 1) (read_byte separator x b)) z).so_far.scan.done ≡ false
          → stop_or t (reached (at + 1) (read_byte separator x b)) y
          ≡ read_from separator (stop_or t (reached (at + 1) (read_byte separator x b)) z).at (stop_or t (reached (at + 1) (read_byte separator x b)) z).so_far w
      by true f y z h g = no_bool (sym f ∙ g)
      by false f y z h g = h g

  -- a record that the first of two chunks does not end goes on at the front of the second
  pub in_two : (at : ℕ) (x : Read) (v w : List ℕ) → (read_from separator at x v).so_far.scan.done ≡ false
      → read_from separator at x (v ++ w) ≡ reached (at + length v + (read_from separator 0 (read_from separator at x v).so_far w).at) (read_from separator 0 (read_from separator at x v).so_far w).so_far
  in_two at x v w e =
      then_on at x v w e
      ∙ ap (λ (n : ℕ). read_from separator n (read_from separator at x v).so_far w) (passed at x v e ∙ (let z : at + length v ≡ at + length v + 0 = omega arith in z))
      ∙ counted (at + length v) 0 (read_from separator at x v).so_far w

  -- and one that it ends is the same, whatever follows
  pub in_first : (at : ℕ) (x : Read) (v w : List ℕ) → x.scan.done ≡ false → (read_from separator at x v).so_far.scan.done ≡ true → read_from separator at x (v ++ w) ≡ read_from separator at x v
  unfolding read_from
  in_first at x [] w d e = no_bool (sym e ∙ d)
  in_first at x (b ∷ v) w d e = by (read_byte separator x b).scan.done refl (read_from separator (at + 1) (read_byte separator x b) (v ++ w)) (read_from separator (at + 1) (read_byte separator x b) v) (in_first (at + 1) (read_byte separator x b) v w) e
    where
      by : (t : Bool) → (read_byte separator x b).scan.done ≡ t → (y z : Reached) → ((read_byte separator x b).scan.done ≡ false → z.so_far.scan.done ≡ true → y ≡ z)
          → (stop_or t (reached (at + 1) (read_byte separator x b)) z).so_far.scan.done ≡ true
          → stop_or t (reached (at + 1) (read_byte separator x b)) y ≡ stop_or t (reached (at + 1) (read_byte separator x b)) z
      by true f y z h g = refl
      by false f y z h g = h f g
