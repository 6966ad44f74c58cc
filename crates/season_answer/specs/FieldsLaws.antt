-- Laws of the fields of an answer: loops that append one field after the other, and what fits into the buffers of names.
use Rattle.std.specs.Prelude.{◌≡◌, Bool, true, false, cond, not, eqb, get_or, length, take}
use Rattle.std.proofs.Math.Path.{refl}
use Rattle.std.proofs.Common.{sym, ap, subst, ◌∙◌, length-append, eq-eqb, ne_eqb}
use mathlib.Core.List.{List, [], ◌∷◌, ◌++◌}
use Prim.Native.Nat.{ℕ, zero, suc, ◌+◌, ◌-◌, ◌*◌, ◌/◌, ◌%◌, ◌≤◌, ◌<◌}
use native.Mathlib.Omega.{arith}
use Rattle.paper_expressions.specs.Bytes.{bytes}
use Rattle.parts.specs.Texts.{text_at_fn}
use Rattle.blocks.specs.Blocks.{cells_long}
use Rattle.written.specs.Longest.{longest_number}
use Rattle.digits.specs.Appends.{Appends}
use Rattle.digits.specs.AppendsLaws.{Begun, begun_none, begun_more, begun_all, append_nothing, appends_as, append_then, read_back}
use Rattle.season_answer.specs.Fields.{each, if_label, refusal, is_reached, with_name, reached_names}

-- ---- a loop over n numbers: before turn i what is left is what f gives to i and those behind it

pub record Turn (f : ℕ → List ℕ) (n : ℕ) (out out' : List ℕ) (o p i : ℕ) : Type 0 where
  pub within : i ≤ n
  pub begun : Begun out out' o p (each f i (n - i)) (each f 0 n)

pub turn_none : (f : ℕ → List ℕ) (n : ℕ) (out : List ℕ) (o : ℕ) → Turn f n out out o o 0
turn_none f n out o = record {
  within = omega arith;
  begun = subst (λ (k : ℕ). Begun out out o o (each f 0 k) (each f 0 n)) (let e : n ≡ n - 0 = omega arith in e) (begun_none out o (each f 0 n));
}

module _ {f : ℕ → List ℕ} {n : ℕ} {out mid : List ℕ} {o p i : ℕ} (t : Turn f n out mid o p i) where
  pub turn_more : {out' : List ℕ} {r : ℕ} → i < n → Appends mid out' p r (f i) → Turn f n out out' o r (i + 1)
  unfolding each
  turn_more h a = record {
    within = omega arith;
    begun = begun_more (subst (λ (w : List ℕ). Begun out mid o p w (each f 0 n)) (ap (each f i) (let e : n - i ≡ suc (n - (i + 1)) = omega arith in e)) t.begun) a;
  }

  pub turn_all : n ≤ i → Appends out mid o p (each f 0 n)
  unfolding each
  turn_all h = begun_all (subst (λ (w : List ℕ). Begun out mid o p w (each f 0 n)) (ap (each f i) (let e : n - i ≡ 0 = omega arith in e)) t.begun) (append_nothing mid p)

-- ---- a column that is a label, and one that is not

module _ {out out' : List ℕ} {o r : ℕ} (columns : List ℕ) (i : ℕ) {x : ℕ} (e : x ≡ get_or columns i 0) where
  pub is_label : (w : List ℕ) → x ≡ 0 → Appends out out' o r w → Appends out out' o r (if_label (eqb (get_or columns i 0) 0) w)
  is_label w h a = appends_as (ap (λ (t : Bool). if_label t w) (eq-eqb (get_or columns i 0) 0 (sym e ∙ h))) a

  pub no_label : (w : List ℕ) → (x ≡ 0 → ⊥) → Appends out out' o r [] → Appends out out' o r (if_label (eqb (get_or columns i 0) 0) w)
  no_label w h a = appends_as (ap (λ (t : Bool). if_label t w) (ne_eqb (get_or columns i 0) 0 (λ z. h (e ∙ z)))) a

-- ---- what stands in a buffer that had room

pub text_long : (b : List ℕ) (h : ℕ) → length (text_at_fn b h) ≤ 63
text_long b h = let e = cells_long b (h / 64) (h % 64) in omega arith

-- bytes from the front on
pub in_front : {out out' w : List ℕ} {r : ℕ} → Appends out out' 0 r w → length w ≤ length out → (take r out' ≡ w) × (r ≡ length w)
in_front {out} a h = let (e, k) = a.wrote (omega arith) in (read_back a (omega arith), omega arith)

pub refusal_long : (n : ℕ) (b : List ℕ) (h : ℕ) → length (refusal n b h) ≤ 96
refusal_long n b h = simp length-append (omega (arith, longest_number n, text_long b h))

-- ---- the names of what was reached

module _ (plan texts state : List ℕ) where
  with_long : (t : Bool) (m : ℕ) (names w : List ℕ) → length names ≤ m → length w ≤ 63 → length (with_name t names w) ≤ m + 65
  with_long false m names w h k = omega arith
  with_long true m names w h k = by (eqb (length names) 0)
    where
      by : (z : Bool) → length (cond z w (names ++ bytes "; " ++ w)) ≤ m + 65
      by true = omega arith
      by false = simp length-append (omega arith)

  pub reached_long : (t : ℕ) → length (reached_names plan texts state t) ≤ t * 65
  unfolding reached_names
  reached_long zero = omega arith
  reached_long (suc t) =
      let h = with_long (is_reached plan state t) (t * 65) (reached_names plan texts state t) (text_at_fn texts (get_or plan (1192 + t) 0)) (reached_long t) (text_long texts (get_or plan (1192 + t) 0)) in
      omega arith

  step : (t : ℕ) → reached_names plan texts state (suc t) ≡ with_name (is_reached plan state t) (reached_names plan texts state t) (text_at_fn texts (get_or plan (1192 + t) 0))
  unfolding reached_names
  step t = refl

  module _ {out out' : List ℕ} {o r : ℕ} (t : ℕ) where
    as_next : {w : List ℕ} → reached_names plan texts state (suc t) ≡ w → Appends out out' o r w → Appends out out' o r (reached_names plan texts state (t + 1))
    as_next e a = appends_as (ap (reached_names plan texts state) (let z : t + 1 ≡ suc t = omega arith in z) ∙ e) a

    pub not_reached : {b : Bool} → b ≡ is_reached plan state t → b ≡ false → Appends out out' o r (reached_names plan texts state t) → Appends out out' o r (reached_names plan texts state (t + 1))
    not_reached e f a = as_next (step t ∙ ap (λ (z : Bool). with_name z (reached_names plan texts state t) (text_at_fn texts (get_or plan (1192 + t) 0))) (sym e ∙ f)) a

    pub reached_first : {b : Bool} → b ≡ is_reached plan state t → b ≡ true → length (reached_names plan texts state t) ≡ 0
        → Appends out out' o r (text_at_fn texts (get_or plan (1192 + t) 0)) → Appends out out' o r (reached_names plan texts state (t + 1))
    reached_first e f z a =
        as_next (step t ∙ ap (λ (x : Bool). with_name x (reached_names plan texts state t) (text_at_fn texts (get_or plan (1192 + t) 0))) (sym e ∙ f)
        ∙ ap (λ (x : Bool). cond x (text_at_fn texts (get_or plan (1192 + t) 0)) (reached_names plan texts state t ++ bytes "; " ++ text_at_fn texts (get_or plan (1192 + t) 0))) (eq-eqb _ _ z)) a

    pub reached_more : {b : Bool} → b ≡ is_reached plan state t → b ≡ true → (length (reached_names plan texts state t) ≡ 0 → ⊥)
        → Appends out out' o r (reached_names plan texts state t ++ bytes "; " ++ text_at_fn texts (get_or plan (1192 + t) 0)) → Appends out out' o r (reached_names plan texts state (t + 1))
    reached_more e f z a =
        as_next (step t ∙ ap (λ (x : Bool). with_name x (reached_names plan texts state t) (text_at_fn texts (get_or plan (1192 + t) 0))) (sym e ∙ f)
        ∙ ap (λ (x : Bool). cond x (text_at_fn texts (get_or plan (1192 + t) 0)) (reached_names plan texts state t ++ bytes "; " ++ text_at_fn texts (get_or plan (1192 + t) 0))) (ne_eqb _ _ z)) a

-- ---- the loop over the tasks

pub not_true : (t : Bool) → not t ≡ true → t ≡ false
not_true true e = sym e
not_true false e = refl

pub not_false : (t : Bool) → not t ≡ false → t ≡ true
not_false true e = refl
not_false false e = sym e

none_there : (w : List ℕ) → length w ≡ 0 → w ≡ []
none_there [] h = refl
none_there (b ∷ w) h = absurd (omega arith)

-- behind nothing
pub append_first : {out mid out' : List ℕ} {o p r : ℕ} {v w : List ℕ} → length v ≡ 0 → Appends out mid o p v → Appends mid out' p r w → Appends out out' o r w
append_first {out} {mid} {out'} {o} {p} {r} {v} {w} e a b = appends_as (ap (λ (u : List ℕ). u ++ w) (sym (none_there v e))) (append_then a b)

module _ (plan texts state : List ℕ) where
  pub reached_none : (out : List ℕ) → Appends out out 0 0 (reached_names plan texts state 0)
  unfolding reached_names
  reached_none out = append_nothing out 0

  pub reached_at : {out out' : List ℕ} {r : ℕ} (t : ℕ) → t ≤ 32 → 2080 ≤ length out → Appends out out' 0 r (reached_names plan texts state t) → r ≡ length (reached_names plan texts state t)
  reached_at t h k a = let long = reached_long plan texts state t in (in_front a (omega arith)).1

  pub reached_all : {out out' : List ℕ} {r : ℕ} (t : ℕ) → t ≡ 32 → Appends out out' 0 r (reached_names plan texts state t) → Appends out out' 0 r (reached_names plan texts state 32)
  reached_all t e a = appends_as (ap (reached_names plan texts state) (sym e)) a
