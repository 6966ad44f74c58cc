-- The cells of a value as the code fills them: element behind element, the shape at the end. By what is left to come.
use Rattle.std.specs.Prelude.{◌≡◌, Bool, true, false, cond, eqb, ℤ, pos}
use Rattle.std.proofs.Math.Path.{refl, sym, ap}
use Rattle.std.proofs.Common.{subst, ◌∙◌, lt-ltb, le-ltb, eq-eqb, ne_eqb}
use mathlib.Core.List.{List, [], ◌∷◌, map}
use Prim.Native.Nat.{ℕ, zero, suc, ◌+◌, ◌-◌, ◌≤◌, ◌<◌}
use Rattle.std.proofs.Math.Decide.{dec_lt}
use native.Mathlib.Omega.{arith}
use Rattle.std.proofs.Math.ListN.{get_or, set, length}
use Rattle.paper_expressions.specs.Bytes.{bytes}
use Rattle.script.specs.declared.lexemes.Number.{Number}
use Rattle.script.specs.declared.values.Element.{Element}
use Rattle.script.specs.declared.calls.Line.{Line}
use Rattle.script.specs.Lexemes.{nowhere, after_one, behind_word, number_at, one_longer, kept_long}
use Rattle.script.specs.Places.{behind_text, behind_letter, behind_element, at_element, line_of}
use Rattle.script.specs.PlacesLaws.{no_letter, first_of_twenty}
use Rattle.script.specs.Values.{letter_tag, letter_number, element_tag, element_number, text_number, text_in, element_bytes, Told, places_from, set_from, numbers_of, bytes_of, filled_numbers, filled_bytes, value_tags, value_numbers, value_bytes, ElementPut, Filled, ValuePut, added_place, time_or_trigger_in, LineRead}

-- ---- of two, by whether a place is one

module _ {A : Type 0} (a b : A) {p m : ℕ} (e : p ≡ m) where
  pub when_nowhere : p ≡ nowhere → a ≡ cond (eqb m nowhere) a b
  when_nowhere h = sym (simp (eq-eqb m nowhere (sym e ∙ h)))

  pub when_stands : (p ≡ nowhere → ⊥) → b ≡ cond (eqb m nowhere) a b
  when_stands ne = sym (simp (ne_eqb m nowhere (λ z. ne (e ∙ z))))

-- ---- texts

longer_short : (n : ℕ) → n ≤ 63 → one_longer n ≤ 63
longer_short n h = by (dec_lt n 63)
  where
    by : Dec (n < 63) → one_longer n ≤ 63
    by (yes l) = simp (lt-ltb n 63 l) (omega arith)
    by (no l) = simp (le-ltb n 63 (omega arith)) h

-- no more bytes are kept than a handle can tell
pub kept_short : (n : ℕ) (w : List ℕ) → n ≤ 63 → kept_long n w ≤ 63
unfolding kept_long
kept_short n [] h = h
kept_short n (b ∷ w) h = kept_short (one_longer n) w (longer_short n h)

-- ---- the elements of a list

module _ (s : List ℕ) (k p : ℕ) {b : ℕ} (e : b ≡ get_or s p 0) where
  pub places_closed : b ≡ 41 → places_from s (20 - k) p ≡ []
  unfolding places_from
  places_closed f = by (20 - k)
    where
      by : (m : ℕ) → places_from s m p ≡ []
      by zero = refl
      by (suc m) = simp (eq-eqb (get_or s p 0) 41 (sym e ∙ f))

  pub places_more : {q : ℕ} → k < 20 → (b ≡ 41 → ⊥) → q ≡ behind_element s (at_element s (eqb k 0) p)
      → places_from s (20 - k) p ≡ at_element s (eqb k 0) p ∷ places_from s (20 - (k + 1)) q
  unfolding places_from
  places_more {q} h ne f =
      let m : 20 - k ≡ suc (20 - (k + 1)) = omega arith in
      let other : get_or s p 0 ≡ 41 → ⊥ = λ z. ne (e ∙ z) in
      ap (λ (j : ℕ). places_from s j p) m
      ∙ simp (ne_eqb (get_or s p 0) 41 other)
      (ap (λ (t : Bool). at_element s t p ∷ places_from s (20 - (k + 1)) (behind_element s (at_element s t p))) (first_of_twenty k h)
      ∙ ap (λ (x : ℕ). at_element s (eqb k 0) p ∷ places_from s (20 - (k + 1)) x) (sym f))

pub places_end : (s : List ℕ) (k p : ℕ) → 20 ≤ k → places_from s (20 - k) p ≡ []
unfolding places_from
places_end s k p h = let m : 20 - k ≡ 0 = omega arith in ap (λ (j : ℕ). places_from s j p) m

-- how far filling the cells is, with k elements from p on still to come of those at `places`: what comes of the rest
pub record Filling (s places left : List ℕ) (k : ℕ) (t : List ℕ) (n : List ℤ) (b : List ℕ) (t' : List ℕ) (n' : List ℤ) (b' : List ℕ) : Type 0 where
  pub tags_to : set_from t' (1 + k) (map (element_tag s) left) ≡ set_from t 1 (map (element_tag s) places)
  pub numbers_to : set_from n' (1 + k) (numbers_of s k left) ≡ filled_numbers s places n
  pub bytes_to : bytes_of s k left b' ≡ filled_bytes s places b
  pub many : k + length left ≡ length places

pub filling_none : (s places : List ℕ) (t : List ℕ) (n : List ℤ) (b : List ℕ) → Filling s places places 0 t n b t n b
filling_none s places t n b = record { tags_to = refl; numbers_to = refl; bytes_to = refl; many = let z : 0 + length places ≡ length places = omega arith in z }

module _ {s places : List ℕ} {k : ℕ} {t : List ℕ} {n : List ℤ} {b : List ℕ} {t' : List ℕ} {n' : List ℤ} {b' : List ℕ} where
  pub filling_more : {left : List ℕ} → Filling s places left k t n b t' n' b' → (q : ℕ) (rest : List ℕ) → left ≡ q ∷ rest → {t'' : List ℕ} {n'' : List ℤ} {b'' : List ℕ}
      → ElementPut s q k t' n' b' t'' n'' b'' → Filling s places rest (k + 1) t n b t'' n'' b''
  unfolding set_from numbers_of bytes_of
  filling_more {left} f q rest e {t''} {n''} {b''} p =
      let i : 1 + (k + 1) ≡ 1 + k + 1 = omega arith in
      let l : length left ≡ suc (length rest) = ap length e in
      let m : k + 1 + length rest ≡ k + length left = omega arith in
      record {
        tags_to = ap (λ (x : List ℕ). set_from x (1 + (k + 1)) (map (element_tag s) rest)) p.tags_are ∙ ap (λ (j : ℕ). set_from (set t' (1 + k) (element_tag s q)) j (map (element_tag s) rest)) i
            ∙ sym (ap (λ (w : List ℕ). set_from t' (1 + k) (map (element_tag s) w)) e) ∙ f.tags_to;
        numbers_to = ap (λ (x : List ℤ). set_from x (1 + (k + 1)) (numbers_of s (k + 1) rest)) p.numbers_are ∙ ap (λ (j : ℕ). set_from (set n' (1 + k) (element_number s q k)) j (numbers_of s (k + 1) rest)) i
            ∙ sym (ap (λ (w : List ℕ). set_from n' (1 + k) (numbers_of s k w)) e) ∙ f.numbers_to;
        bytes_to = ap (bytes_of s (k + 1) rest) p.bytes_are ∙ sym (ap (λ (w : List ℕ). bytes_of s k w b') e) ∙ f.bytes_to;
        many = m ∙ f.many;
      }

  pub filling_end : {left : List ℕ} → Filling s places left k t n b t' n' b' → left ≡ [] → {t'' : List ℕ} → t'' ≡ set t' 0 (k + 1) → Filled s places (length places + 1) t n b t'' n' b'
  unfolding set_from numbers_of bytes_of
  filling_end {left} f e {t''} g =
      let l : length left ≡ 0 = ap length e in
      let m : k + 1 ≡ length places + 1 = omega (arith, f.many) in
      record {
        tags_are = g ∙ ap (λ (x : List ℕ). set x 0 (k + 1)) (sym (ap (λ (w : List ℕ). set_from t' (1 + k) (map (element_tag s) w)) e) ∙ f.tags_to)
            ∙ ap (λ (x : ℕ). set (set_from t 1 (map (element_tag s) places)) 0 x) m;
        numbers_are = sym (ap (λ (w : List ℕ). set_from n' (1 + k) (numbers_of s k w)) e) ∙ f.numbers_to;
        bytes_are = sym (ap (λ (w : List ℕ). bytes_of s k w b') e) ∙ f.bytes_to;
      }

-- ---- one element, and a value

module _ {s : List ℕ} {at : ℕ} {t : List ℕ} {n : List ℤ} {b : List ℕ} {t' : List ℕ} {n' : List ℤ} {b' : List ℕ} where
  pub filled_single : {t'' : List ℕ} → ElementPut s at 0 t n b t'' n' b' → t' ≡ set t'' 0 0 → Filled s (at ∷ []) 0 t n b t' n' b'
  unfolding set_from numbers_of bytes_of
  filled_single p g = record { tags_are = g ∙ ap (λ (x : List ℕ). set x 0 0) p.tags_are; numbers_are = p.numbers_are; bytes_are = p.bytes_are }

module _ (s : List ℕ) (at : ℕ) {t : List ℕ} {n : List ℤ} {b : List ℕ} {t' : List ℕ} {n' : List ℤ} {b' : List ℕ} where
  pub value_single : {p : ℕ} → p ≡ behind_word s at (bytes "l(") → p ≡ nowhere → Filled s (at ∷ []) 0 t n b t' n' b' → ValuePut s at t n b t' n' b'
  value_single {p} e h f = rw (eq-eqb (behind_word s at (bytes "l(")) nowhere (sym e ∙ h)) f

  pub value_listed : {p : ℕ} → p ≡ behind_word s at (bytes "l(") → (p ≡ nowhere → ⊥) → Filled s (places_from s 20 p) (length (places_from s 20 p) + 1) t n b t' n' b'
      → ValuePut s at t n b t' n' b'
  value_listed {p} e ne f =
      rw (ne_eqb (behind_word s at (bytes "l(")) nowhere (λ z. ne (e ∙ z)))
      (subst (λ (x : ℕ). Filled s (places_from s 20 x) (length (places_from s 20 x) + 1) t n b t' n' b') e f)

-- ---- an element, by its letter x, behind which p is

module _ (s : List ℕ) (at i : ℕ) {x p : ℕ} {el : Element} (e : x ≡ get_or s at 0) (f : p ≡ after_one s at) where
  told_letter : Told el (letter_tag x) (letter_number s p i x) (behind_letter s p x) → Told el (element_tag s at) (element_number s at i) (behind_element s at)
  told_letter h =
      subst (λ (q : ℕ). Told el (element_tag s at) (letter_number s q i (get_or s at 0)) (behind_letter s q (get_or s at 0))) f
      (subst (λ (y : ℕ). Told el (letter_tag y) (letter_number s p i y) (behind_letter s p y)) e h)

  pub read_plain : (b : List ℕ) (k : ℕ) → eqb k 116 ≡ false → x ≡ k → Told el (letter_tag k) (letter_number s p i k) (behind_letter s p k)
      → Told el (element_tag s at) (element_number s at i) (behind_element s at) × (b ≡ element_bytes s at i b)
  read_plain b k n g h = (
    told_letter (subst (λ (y : ℕ). Told el (letter_tag y) (letter_number s p i y) (behind_letter s p y)) (sym g) h),
    ap (λ (z : Bool). cond z (text_in s (after_one s at) i b) b) (sym (ap (λ (y : ℕ). eqb y 116) (sym e ∙ g) ∙ n)),
  )

  pub read_text : (b : List ℕ) {b' : List ℕ} → x ≡ 116 → Told el 4 (text_number s p i) (behind_text s p) → b' ≡ text_in s p i b
      → Told el (element_tag s at) (element_number s at i) (behind_element s at) × (b' ≡ element_bytes s at i b)
  read_text b g h m = (
    told_letter (subst (λ (y : ℕ). Told el (letter_tag y) (letter_number s p i y) (behind_letter s p y)) (sym g) h),
    m ∙ ap (λ (q : ℕ). text_in s q i b) f ∙ ap (λ (z : Bool). cond z (text_in s (after_one s at) i b) b) (sym (eq-eqb (get_or s at 0) 116 (sym e ∙ g))),
  )

  pub read_none : (b : List ℕ) → (x ≡ 117 → ⊥) → (x ≡ 98 → ⊥) → (x ≡ 105 → ⊥) → (x ≡ 114 → ⊥) → (x ≡ 116 → ⊥) → Told el 0 (pos 0) nowhere
      → Told el (element_tag s at) (element_number s at i) (behind_element s at) × (b ≡ element_bytes s at i b)
  read_none b u t n r w h = (
    told_letter (record {
      tag_is = h.tag_is ∙ sym (simp (ne_eqb x 98 t, ne_eqb x 105 n, ne_eqb x 114 r, ne_eqb x 116 w));
      number_is = h.number_is ∙ sym (simp (ne_eqb x 98 t, ne_eqb x 105 n, ne_eqb x 114 r, ne_eqb x 116 w));
      next_is = h.next_is ∙ no_letter s p x u t n r w;
    }),
    ap (λ (z : Bool). cond z (text_in s (after_one s at) i b) b) (sym (ne_eqb (get_or s at 0) 116 (λ z. w (e ∙ z)))),
  )

-- ---- a line, by its first letter x, behind which p is

module _ {s : List ℕ} {at : ℕ} {t : List ℕ} {n : List ℤ} {b : List ℕ} {r : Line} {x p : ℕ} (e : x ≡ get_or s at 0) (f : p ≡ after_one s at) (is : r ≡ line_of s at) where
  pub line_adds : x ≡ 97 → {q : ℕ} → q ≡ behind_word s p (bytes "dd ") → {t' : List ℕ} {n' : List ℤ} {b' : List ℕ}
      → ValuePut s (number_at s q 4294967295 32).next t n b t' n' b' → LineRead s at t n b t' n' b' r
  line_adds h {q} g {t'} {n'} {b'} v =
      let k : true ≡ eqb (get_or s at 0) 97 = sym (eq-eqb (get_or s at 0) 97 (sym e ∙ h)) in
      let place : (number_at s q 4294967295 32).next ≡ added_place s at = ap (λ (z : ℕ). (number_at s z 4294967295 32).next) (g ∙ ap (λ (y : ℕ). behind_word s y (bytes "dd ")) f) in
      let w = subst (λ (z : ℕ). ValuePut s z t n b t' n' b') place v in
      record {
        line_is = is;
        tags_are = w.tags_are ∙ ap (λ (z : Bool). cond z (value_tags s (added_place s at) t) t) k;
        numbers_are = w.numbers_are ∙ ap (λ (z : Bool). cond z (value_numbers s (added_place s at) n) n) k;
        bytes_are = w.bytes_are ∙ ap (λ (z : Bool). cond z (value_bytes s (added_place s at) b) (cond (eqb (get_or s at 0) 116) (time_or_trigger_in s (after_one s at) b) b)) k;
      }

  -- no value is given
  none_added : {b' : List ℕ} → eqb (get_or s at 0) 97 ≡ false → b' ≡ cond (eqb (get_or s at 0) 116) (time_or_trigger_in s (after_one s at) b) b → LineRead s at t n b t n b' r
  none_added h g = record {
    line_is = is;
    tags_are = ap (λ (z : Bool). cond z (value_tags s (added_place s at) t) t) (sym h);
    numbers_are = ap (λ (z : Bool). cond z (value_numbers s (added_place s at) n) n) (sym h);
    bytes_are = g ∙ ap (λ (z : Bool). cond z (value_bytes s (added_place s at) b) (cond (eqb (get_or s at 0) 116) (time_or_trigger_in s (after_one s at) b) b)) (sym h);
  }

  pub line_triggers : x ≡ 116 → {b' : List ℕ} → b' ≡ time_or_trigger_in s p b → LineRead s at t n b t n b' r
  line_triggers h g =
      none_added (ap (λ (y : ℕ). eqb y 97) (sym e ∙ h))
      (g ∙ ap (λ (q : ℕ). time_or_trigger_in s q b) f ∙ ap (λ (z : Bool). cond z (time_or_trigger_in s (after_one s at) b) b) (sym (eq-eqb (get_or s at 0) 116 (sym e ∙ h))))

  pub line_gives_none : (x ≡ 97 → ⊥) → (x ≡ 116 → ⊥) → LineRead s at t n b t n b r
  line_gives_none h g =
      none_added (ne_eqb (get_or s at 0) 97 (λ z. h (e ∙ z)))
      (ap (λ (z : Bool). cond z (time_or_trigger_in s (after_one s at) b) b) (sym (ne_eqb (get_or s at 0) 116 (λ z. g (e ∙ z)))))

-- ---- an element of a list, by whether it is the first; and the value behind a number

module _ (s : List ℕ) (i at : ℕ) {t : List ℕ} {n : List ℤ} {b : List ℕ} {t' : List ℕ} {n' : List ℤ} {b' : List ℕ} where
  pub put_first : i ≡ 0 → ElementPut s at i t n b t' n' b' → ElementPut s (at_element s (eqb i 0) at) i t n b t' n' b'
  put_first h p = subst (λ (z : Bool). ElementPut s (at_element s z at) i t n b t' n' b') (sym (eq-eqb i 0 h)) p

  pub put_next : (i ≡ 0 → ⊥) → {q : ℕ} → q ≡ behind_word s at (bytes ",") → ElementPut s q i t n b t' n' b' → ElementPut s (at_element s (eqb i 0) at) i t n b t' n' b'
  put_next ne e p =
      subst (λ (z : Bool). ElementPut s (at_element s z at) i t n b t' n' b') (sym (ne_eqb i 0 ne))
      (subst (λ (z : ℕ). ElementPut s z i t n b t' n' b') e p)

pub put_behind : (s : List ℕ) {d m : Number} {t : List ℕ} {n : List ℤ} {b : List ℕ} {t' : List ℕ} {n' : List ℤ} {b' : List ℕ} → d ≡ m → ValuePut s d.next t n b t' n' b' → ValuePut s m.next t n b t' n' b'
put_behind s {t} {n} {b} {t'} {n'} {b'} e v = subst (λ (x : Number). ValuePut s x.next t n b t' n' b') e v
