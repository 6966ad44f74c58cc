-- A script: line behind line, to the end of the text. Definition, and the law of its loop: by how much of the text is left.
use Rattle.std.specs.Prelude.{◌≡◌, Bool, true, false, List, eqb, ltb, length}
use Rattle.std.proofs.Math.Path.{refl, ap}
use Rattle.std.proofs.Common.{sym, ◌∙◌, arith, lt-ltb, le-ltb, ltb-true}
use Rattle.std.proofs.Math.Bool.{cond}
use Prim.Native.Nat.{ℕ, zero, suc, ◌+◌, ◌-◌, ◌≤◌, ◌<◌}
use Rattle.std.proofs.Math.Decide.{dec_lt}
use Rattle.script.specs.Places.{line_of}

-- where the line that begins at a place ends. A name that stays closed: a line's definition is long
unfoldable pub next_line : List ℕ → ℕ → ℕ
next_line s at = (line_of s at).next

-- whether lines stand from a place on to the end, at most k of them; a line ends behind the place where it begins
unfoldable pub lines_from : List ℕ → ℕ → ℕ → Bool
lines_from s zero at = eqb at (length s)
lines_from s (suc k) at = cond (ltb at (length s)) (cond (ltb at (next_line s at)) (lines_from s k (next_line s at)) false) (eqb at (length s))

-- no text has more lines than bytes
abbrev pub is_script : List ℕ → Bool
is_script s = lines_from s (length s) 0

module _ (s : List ℕ) where
  pub lines_past : (k at : ℕ) → length s ≤ at → lines_from s k at ≡ eqb at (length s)
  unfolding lines_from
  lines_past zero at h = refl
  lines_past (suc k) at h = simp (le-ltb at (length s) h)

  next_of : (k at : ℕ) → at < length s → lines_from s (suc k) at ≡ cond (ltb at (next_line s at)) (lines_from s k (next_line s at)) false
  unfolding lines_from
  next_of k at h = ap (λ (t : Bool). cond t (cond (ltb at (next_line s at)) (lines_from s k (next_line s at)) false) (eqb at (length s))) (lt-ltb at (length s) h)

  -- more turns than bytes are left change nothing
  enough : (k m at : ℕ) → length s - at ≤ k → length s - at ≤ m → lines_from s k at ≡ lines_from s m at
  enough zero m at h l = lines_past zero at (omega arith) ∙ sym (lines_past m at (omega arith))
  enough (suc k) zero at h l = lines_past (suc k) at (omega arith) ∙ sym (lines_past zero at (omega arith))
  enough (suc k) (suc m) at h l = by (λ q j i. enough k m q (omega arith) (omega arith)) (dec_lt at (length s))
    where
      on : ((q : ℕ) → at < q → at < length s → lines_from s k q ≡ lines_from s m q) → (q : ℕ) (t : Bool) → ltb at q ≡ t → at < length s → cond t (lines_from s k q) false ≡ cond t (lines_from s m q) false
      on f q true e i = f q (ltb-true at q e) i
      on f q false e i = refl

      by : ((q : ℕ) → at < q → at < length s → lines_from s k q ≡ lines_from s m q) → Dec (at < length s) → lines_from s (suc k) at ≡ lines_from s (suc m) at
      by f (yes i) = next_of k at i ∙ on f (next_line s at) (ltb at (next_line s at)) refl i ∙ sym (next_of m at i)
      by f (no i) = lines_past (suc k) at (omega arith) ∙ sym (lines_past (suc m) at (omega arith))

  module _ (at : ℕ) (more : at < length s) {q : ℕ} (e : q ≡ (line_of s at).next) where
    ends_there : q ≡ next_line s at
    unfolding next_line
    ends_there = e

    step : lines_from s (length s - at) at ≡ cond (ltb at q) (lines_from s (length s - (at + 1)) q) false
    step =
        let k : length s - at ≡ suc (length s - (at + 1)) = omega arith in
        ap (λ (n : ℕ). lines_from s n at) k ∙ next_of (length s - (at + 1)) at more
        ∙ ap (λ (p : ℕ). cond (ltb at p) (lines_from s (length s - (at + 1)) p) false) (sym ends_there)

    pub line_stops : q ≤ at → lines_from s (length s - at) at ≡ false
    line_stops h = step ∙ ap (λ (t : Bool). cond t (lines_from s (length s - (at + 1)) q) false) (le-ltb at q h)

    pub line_goes_on : at < q → lines_from s (length s - at) at ≡ lines_from s (length s - q) q
    line_goes_on h =
        step ∙ ap (λ (t : Bool). cond t (lines_from s (length s - (at + 1)) q) false) (lt-ltb at q h)
        ∙ enough (length s - (at + 1)) (length s - q) q (omega arith) (omega arith)

  pub from_front : lines_from s (length s - 0) 0 ≡ is_script s
  from_front = ap (λ (n : ℕ). lines_from s n 0) (let e : length s - 0 ≡ length s = omega arith in e)
