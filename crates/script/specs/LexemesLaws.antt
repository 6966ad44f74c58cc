-- The loops of the code, turn by turn: what stands at a place, by its first byte.
use Rattle.std.specs.Prelude.{◌≡◌, Bool, true, false, cond, Option, Some, None, not, eqb, ltb, get_or, set, drop}
use Rattle.std.proofs.Math.Path.{refl, sym, ap}
use Rattle.std.proofs.Common.{subst, ◌∙◌, add-one, drop_of_length-le, length-drop, lt-ltb, le-ltb, eq-eqb, ne_eqb}
use mathlib.Core.List.{List, [], ◌∷◌}
use Prim.Native.Nat.{ℕ, suc, ◌+◌, ◌*◌, ◌≤◌, ◌<◌}
use native.Mathlib.Omega.{arith}
use Rattle.std.proofs.Math.ListN.{length}
use Rattle.std.proofs.Math.Seq.{drop-cons}
use Rattle.script.specs.declared.lexemes.Number.{Number}
use Rattle.script.specs.Lexemes.{nowhere, after_one, ended_at, no_number, limited, behind_word, is_digit, with-digit, digits_value, digits_long, hex_value, pair_of, pair_value, further, text_bytes, one_longer, kept_long, kept_in, TextRead}

-- ---- words

module _ (s : List ℕ) (p : ℕ) (w : List ℕ) (i : ℕ) where
  pub word_done : length w ≤ i → behind_word s p (drop i w) ≡ p
  unfolding behind_word
  word_done h = rw (drop_of_length-le w h)

  module _ (more : i < length w) where
    word_next : behind_word s p (drop i w) ≡ cond (ltb p (length s)) (cond (eqb (get_or s p 0) (get_or w i 0)) (behind_word s (p + 1) (drop (i + 1) w)) nowhere) nowhere
    unfolding behind_word
    word_next = rw (add-one i, drop-cons w i 0)

    pub word_past : length s ≤ p → behind_word s p (drop i w) ≡ nowhere
    word_past h = word_next ∙ simp (le-ltb p (length s) h)

    pub word_other : p < length s → (get_or s p 0 ≡ get_or w i 0 → ⊥) → behind_word s p (drop i w) ≡ nowhere
    word_other h ne = word_next ∙ simp (lt-ltb p (length s) h, ne_eqb (get_or s p 0) (get_or w i 0) ne)

    pub word_same : p < length s → get_or s p 0 ≡ get_or w i 0 → behind_word s p (drop i w) ≡ behind_word s (p + 1) (drop (i + 1) w)
    word_same h e = word_next ∙ simp (lt-ltb p (length s) h, eq-eqb (get_or s p 0) (get_or w i 0) e)

-- ---- numbers

not_true : (t : Bool) → not t ≡ true → t ≡ false
not_true true e = sym e
not_true false e = refl

not_false : (t : Bool) → not t ≡ false → t ≡ true
not_false true e = refl
not_false false e = sym e

module _ (s : List ℕ) (p : ℕ) where
  pub digits_past : length s ≤ p → (n : ℕ) → (digits_value n (drop p s) ≡ n) × (digits_long (drop p s) ≡ 0)
  unfolding digits_value digits_long
  digits_past h n = (rw (drop_of_length-le s h) refl, rw (drop_of_length-le s h) refl)

  module _ (more : p < length s) where
    value_next : (n : ℕ) → digits_value n (drop p s) ≡ cond (is_digit (get_or s p 0)) (digits_value (with-digit n (get_or s p 0)) (drop (p + 1) s)) n
    unfolding digits_value
    value_next n = rw (add-one p, drop-cons s p 0)

    long_next : digits_long (drop p s) ≡ cond (is_digit (get_or s p 0)) (suc (digits_long (drop (p + 1) s))) 0
    unfolding digits_long
    long_next = rw (add-one p, drop-cons s p 0)

    pub digits_end : {t : Bool} → t ≡ is_digit (get_or s p 0) → not t ≡ true → (n : ℕ) → (digits_value n (drop p s) ≡ n) × (digits_long (drop p s) ≡ 0)
    digits_end {t} e f n = (
      value_next n ∙ ap (λ (b : Bool). cond b (digits_value (with-digit n (get_or s p 0)) (drop (p + 1) s)) n) (sym e ∙ not_true t f),
      long_next ∙ ap (λ (b : Bool). cond b (suc (digits_long (drop (p + 1) s))) 0) (sym e ∙ not_true t f),
    )

    pub digits_more : {t : Bool} {m : ℕ} → t ≡ is_digit (get_or s p 0) → not t ≡ false → (n : ℕ) → m ≡ with-digit n (get_or s p 0)
        → (digits_value n (drop p s) ≡ digits_value m (drop (p + 1) s)) × (digits_long (drop p s) ≡ suc (digits_long (drop (p + 1) s)))
    digits_more {t} e f n g = (
      value_next n
          ∙ ap (λ (b : Bool). cond b (digits_value (with-digit n (get_or s p 0)) (drop (p + 1) s)) n) (sym e ∙ not_false t f)
          ∙ ap (λ (m : ℕ). digits_value m (drop (p + 1) s)) (sym g),
      long_next ∙ ap (λ (b : Bool). cond b (suc (digits_long (drop (p + 1) s))) 0) (sym e ∙ not_false t f),
    )

pub ended_as : (at : ℕ) {n m p q : ℕ} {r : Number} → r ≡ ended_at n p at → n ≡ m → p ≡ q → r ≡ ended_at m q at
ended_as at {n} {m} {p} {q} e f g = e ∙ ap (λ (k : ℕ). ended_at k p at) f ∙ ap (λ (k : ℕ). ended_at m k at) g

module _ (s : List ℕ) (limit last : ℕ) {d e : Number} (is : d ≡ e) where
  pub limited_past : limit < d.value → no_number ≡ limited s limit last e
  limited_past h = subst (λ (x : Number). no_number ≡ limited s limit last x) is (simp (lt-ltb limit d.value h))

  pub limited_other : d.value ≤ limit → {b : ℕ} → b ≡ get_or s d.next 0 → (b ≡ last → ⊥) → no_number ≡ limited s limit last e
  limited_other h {b} f ne =
      let k : get_or s d.next 0 ≡ last → ⊥ = λ z. ne (f ∙ z) in
      subst (λ (x : Number). no_number ≡ limited s limit last x) is (simp (le-ltb limit d.value h, ne_eqb (get_or s d.next 0) last k))

  pub limited_is : d.value ≤ limit → {b : ℕ} → b ≡ get_or s d.next 0 → b ≡ last → {p : ℕ} → p ≡ after_one s d.next → record { value = d.value; next = p } ≡ limited s limit last e
  limited_is h {b} f g {p} k =
      subst (λ (x : Number). record { value = d.value; next = p } ≡ limited s limit last x) is
      (simp (le-ltb limit d.value h, eq-eqb (get_or s d.next 0) last (sym f ∙ g)) (ap (λ (q : ℕ). record { value = d.value; next = q }) k))

-- ---- texts

pub pair_is : {h l r : Option ℕ} (a b : ℕ) → h ≡ hex_value a → l ≡ hex_value b → r ≡ pair_of h l → r ≡ pair_value a b
pair_is {h} {l} a b e f g = g ∙ ap (λ (x : Option ℕ). pair_of x l) e ∙ ap (λ (x : Option ℕ). pair_of (hex_value a) x) f

short : (w : List ℕ) → length w < 2 → text_bytes w ≡ []
unfolding text_bytes
short [] h = refl
short (a ∷ []) h = refl
short (a ∷ b ∷ w) h = absurd (omega arith)

module _ (s : List ℕ) (p : ℕ) where
  pub text_short : length s < p + 2 → text_bytes (drop p s) ≡ []
  text_short h = let n = length-drop p s in short (drop p s) (omega arith)

  module _ (more : p + 2 ≤ length s) where
    two : drop p s ≡ get_or s p 0 ∷ get_or s (p + 1) 0 ∷ drop (p + 2) s
    two =
        let i : p + 1 ≡ suc p = omega arith in
        let j : p + 2 ≡ suc (suc p) = omega arith in
        rw (i, j) (drop-cons s p 0 (omega arith) ∙ ap (λ (w : List ℕ). get_or s p 0 ∷ w) (drop-cons s (suc p) 0 (omega arith)))

    next : {b : Option ℕ} → b ≡ pair_value (get_or s p 0) (get_or s (p + 1) 0) → text_bytes (drop p s) ≡ further b (text_bytes (drop (p + 2) s))
    unfolding text_bytes
    next e = ap text_bytes two ∙ ap (λ (x : Option ℕ). further x (text_bytes (drop (p + 2) s))) (sym e)

    pub text_end : None ≡ pair_value (get_or s p 0) (get_or s (p + 1) 0) → text_bytes (drop p s) ≡ []
    text_end e = next e

    pub text_more : {n : ℕ} → Some n ≡ pair_value (get_or s p 0) (get_or s (p + 1) 0) → text_bytes (drop p s) ≡ n ∷ text_bytes (drop (p + 2) s)
    text_more e = next e

-- how far reading a text is: what is left of it, and what comes of that
pub record Reading (s : List ℕ) (at : ℕ) (cells : List ℕ) (from : ℕ) (now : List ℕ) (n p : ℕ) : Type 0 where
  pub long : kept_long n (text_bytes (drop p s)) ≡ kept_long 0 (text_bytes (drop at s))
  pub place : p + 2 * length (text_bytes (drop p s)) ≡ at + 2 * length (text_bytes (drop at s))
  pub cell : kept_in now from n (text_bytes (drop p s)) ≡ kept_in cells from 0 (text_bytes (drop at s))

pub reading_none : (s : List ℕ) (at : ℕ) (cells : List ℕ) (from : ℕ) → Reading s at cells from cells 0 at
reading_none s at cells from = record { long = refl; place = refl; cell = refl }

module _ {s : List ℕ} {at : ℕ} {cells : List ℕ} {from : ℕ} {now : List ℕ} {n p : ℕ} (r : Reading s at cells from now n p) where
  pub reading_more : {b m : ℕ} {then : List ℕ} → text_bytes (drop p s) ≡ b ∷ text_bytes (drop (p + 2) s) → then ≡ set now (from + n) b → m ≡ one_longer n
      → Reading s at cells from then m (p + 2)
  unfolding kept_long kept_in
  reading_more {b} {m} {then} e f g =
      let w = text_bytes (drop (p + 2) s) in
      let long : length (text_bytes (drop p s)) ≡ suc (length w) = ap length e in
      record {
        long = ap (λ (k : ℕ). kept_long k w) g ∙ sym (ap (kept_long n) e) ∙ r.long;
        place = (let k : p + 2 + 2 * length w ≡ p + 2 * length (text_bytes (drop p s)) = omega arith in k) ∙ r.place;
        cell = ap (λ (l : List ℕ). kept_in l from m w) f ∙ ap (λ (k : ℕ). kept_in (set now (from + n) b) from k w) g ∙ sym (ap (kept_in now from n) e) ∙ r.cell;
      }

  pub reading_end : text_bytes (drop p s) ≡ [] → TextRead s at cells from now (record { len = n; next = p })
  unfolding kept_long kept_in
  reading_end e =
      let long : length (text_bytes (drop p s)) ≡ 0 = ap length e in
      record {
        kept = sym (ap (kept_long n) e) ∙ r.long;
        behind = (let k : p ≡ p + 2 * length (text_bytes (drop p s)) = omega arith in k) ∙ r.place;
        stored = sym (ap (kept_in now from n) e) ∙ r.cell;
      }
