-- The places behind values as the code finds them: by the tests that it makes.
use Rattle.std.specs.Prelude.{◌≡◌, refl, Bool, cond, List, ℕ, zero, suc, ◌+◌, ◌-◌, ◌≤◌, ◌<◌, eqb, get_or, length, drop}
use Rattle.std.proofs.Common.{sym, ap, subst, ◌∙◌, arith, lt-ltb, le-ltb, eq-eqb, ne_eqb}
use Rattle.paper_expressions.specs.Bytes.{bytes}
use Rattle.script.specs.declared.lexemes.Number.{Number}
use Rattle.script.specs.declared.calls.Line.{Line}
use Rattle.script.specs.declared.calls.Call.{Call}
use Rattle.script.specs.declared.calls.Call.TheVariants.{Load, Add, Trigger}
use Rattle.script.specs.Lexemes.{nowhere, after_one, behind_word, number_at, text_bytes, kept_long}
use Rattle.script.specs.Places.{or_else, behind_text, behind_letter, behind_element, at_element, behind_elements, behind_value, no_line, newline, if_stands, load_by, run_by, add_by, row_by, row_behind, line_by, line_of}

-- ---- the first of two places

pub first_place : {p m : ℕ} {r : ℕ} (q : ℕ) → p ≡ m → (p ≡ nowhere → ⊥) → r ≡ p → r ≡ or_else m q
first_place {p} {m} {r} q e ne f = f ∙ subst (λ (x : ℕ). p ≡ or_else x q) e (simp (ne_eqb p nowhere ne))

pub second_place : {p m : ℕ} {r q : ℕ} → p ≡ m → p ≡ nowhere → r ≡ q → r ≡ or_else m q
second_place {p} {m} {r} {q} e h f = f ∙ subst (λ (x : ℕ). q ≡ or_else x q) e (simp (eq-eqb p nowhere h))

-- ---- elements

module _ (s : List ℕ) (at : ℕ) {b p : ℕ} (e : b ≡ get_or s at 0) (f : p ≡ after_one s at) where
  pub by_letter : {r : ℕ} → r ≡ behind_letter s p b → r ≡ behind_element s at
  by_letter h = h ∙ ap (λ (q : ℕ). behind_letter s q b) f ∙ ap (λ (x : ℕ). behind_letter s (after_one s at) x) e

  pub by_first : {r : Line} → r ≡ line_by s p b → r ≡ line_of s at
  by_first h = h ∙ ap (λ (q : ℕ). line_by s q b) f ∙ ap (λ (x : ℕ). line_by s (after_one s at) x) e

pub no_letter : (s : List ℕ) (p b : ℕ) → (b ≡ 117 → ⊥) → (b ≡ 98 → ⊥) → (b ≡ 105 → ⊥) → (b ≡ 114 → ⊥) → (b ≡ 116 → ⊥) → nowhere ≡ behind_letter s p b
no_letter s p b u t i r x = simp (ne_eqb b 117 u, ne_eqb b 98 t, ne_eqb b 105 i, ne_eqb b 114 r, ne_eqb b 116 x)

pub no_first : (s : List ℕ) (p b : ℕ) → (b ≡ 97 → ⊥) → (b ≡ 99 → ⊥) → (b ≡ 108 → ⊥) → (b ≡ 114 → ⊥) → (b ≡ 116 → ⊥) → no_line ≡ line_by s p b
no_first s p b a c l r t = simp (ne_eqb b 97 a, ne_eqb b 99 c, ne_eqb b 108 l, ne_eqb b 114 r, ne_eqb b 116 t)

pub element_first : (s : List ℕ) (i at : ℕ) {r : ℕ} → i ≡ 0 → r ≡ behind_element s at → r ≡ behind_element s (at_element s (eqb i 0) at)
element_first s i at h f = f ∙ ap (λ (t : Bool). behind_element s (at_element s t at)) (sym (eq-eqb i 0 h))

pub element_next : (s : List ℕ) (i at : ℕ) {p r : ℕ} → (i ≡ 0 → ⊥) → p ≡ behind_word s at (bytes ",") → r ≡ behind_element s p → r ≡ behind_element s (at_element s (eqb i 0) at)
element_next s i at ne e f = f ∙ ap (λ (q : ℕ). behind_element s q) e ∙ ap (λ (t : Bool). behind_element s (at_element s t at)) (sym (ne_eqb i 0 ne))

-- ---- lists

module _ (s : List ℕ) (at : ℕ) {p : ℕ} (e : p ≡ behind_word s at (bytes "l(")) where
  pub value_one : p ≡ nowhere → {r : ℕ} → r ≡ behind_element s at → r ≡ behind_value s at
  value_one h f = f ∙ subst (λ (m : ℕ). behind_element s at ≡ cond (eqb m nowhere) (behind_element s at) (behind_elements s 20 m)) e (simp (eq-eqb p nowhere h))

  pub value_list : (p ≡ nowhere → ⊥) → {r : ℕ} → r ≡ behind_elements s 20 p → r ≡ behind_value s at
  value_list ne f = f ∙ subst (λ (m : ℕ). behind_elements s 20 p ≡ cond (eqb m nowhere) (behind_element s at) (behind_elements s 20 m)) e (simp (ne_eqb p nowhere ne))

pub elements_closed : (s : List ℕ) (k at : ℕ) {b : ℕ} → b ≡ get_or s at 0 → b ≡ 41 → behind_word s at (bytes ")") ≡ behind_elements s k at
unfolding behind_elements
elements_closed s zero at e f = refl
elements_closed s (suc k) at e f = simp (eq-eqb (get_or s at 0) 41 (sym e ∙ f))

-- the first of twenty is the one before which none is
pub first_of_twenty : (n : ℕ) → n < 20 → eqb (20 - (n + 1)) 19 ≡ eqb n 0
first_of_twenty zero h = refl
first_of_twenty (suc n) h = ne_eqb (20 - (suc n + 1)) 19 (λ z. omega arith) ∙ sym (ne_eqb (suc n) 0 (λ z. omega arith))

pub elements_more : (s : List ℕ) (n at : ℕ) {b p : ℕ} → n < 20 → b ≡ get_or s at 0 → (b ≡ 41 → ⊥) → p ≡ behind_element s (at_element s (eqb n 0) at)
    → behind_elements s (20 - n) at ≡ behind_elements s (20 - (n + 1)) p
unfolding behind_elements
elements_more s n at {b} {p} h e ne f =
    let k : 20 - n ≡ suc (20 - (n + 1)) = omega arith in
    let other : get_or s at 0 ≡ 41 → ⊥ = λ z. ne (e ∙ z) in
    ap (λ (m : ℕ). behind_elements s m at) k
    ∙ simp (ne_eqb (get_or s at 0) 41 other)
    (ap (λ (x : ℕ). behind_elements s (20 - (n + 1)) x) (ap (λ (t : Bool). behind_element s (at_element s t at)) (first_of_twenty n h) ∙ sym f))

pub elements_end : (s : List ℕ) (n at : ℕ) → 20 ≤ n → behind_word s at (bytes ")") ≡ behind_elements s (20 - n) at
unfolding behind_elements
elements_end s n at h = let k : 20 - n ≡ 0 = omega arith in ap (λ (m : ℕ). behind_elements s m at) (sym k)

-- ---- lines

-- a line by its call and its end
abbrev pub line : Call → ℕ → Line
line c p = record { call = c; next = p }

pub stands : {p m : ℕ} {r a : Line} (b : Line) → p ≡ m → (p ≡ nowhere → ⊥) → r ≡ a → r ≡ if_stands m a b
stands {p} {m} {r} {a} b e ne f = f ∙ subst (λ (x : ℕ). a ≡ if_stands x a b) e (simp (ne_eqb p nowhere ne))

pub stands_not : {p m : ℕ} {r b : Line} (a : Line) → p ≡ m → p ≡ nowhere → r ≡ b → r ≡ if_stands m a b
stands_not {p} {m} {r} {b} a e h f = f ∙ subst (λ (x : ℕ). b ≡ if_stands x a b) e (simp (eq-eqb p nowhere h))

module _ (s : List ℕ) {d m : Number} (e : d ≡ m) where
  pub load_long : length s ≤ d.value → no_line ≡ load_by s m
  load_long h = subst (λ (x : Number). no_line ≡ load_by s x) e (simp (le-ltb d.value (length s) h))

  pub load_past : d.value < length s → length s - d.value ≤ d.next → no_line ≡ load_by s m
  load_past h k = subst (λ (x : Number). no_line ≡ load_by s x) e (simp (lt-ltb d.value (length s) h, le-ltb d.next (length s - d.value) k))

  pub load_is : d.value < length s → d.next < length s - d.value → {q : ℕ} → q ≡ behind_word s (d.next + d.value) newline
      → line (Load d.next (d.next + d.value)) q ≡ load_by s m
  load_is h k {q} f =
      subst (λ (x : Number). line (Load d.next (d.next + d.value)) q ≡ load_by s x) e
      (simp (lt-ltb d.value (length s) h, lt-ltb d.next (length s - d.value) k) (ap (λ (y : ℕ). line (Load d.next (d.next + d.value)) y) f))

module _ (s : List ℕ) where
  pub run_is : {bound m lent : Number} → bound ≡ m → lent ≡ number_at s bound.next 8192 10 → run_by bound lent ≡ run_by m (number_at s m.next 8192 10)
  run_is {bound} e f = ap (λ (l : Number). run_by bound l) f ∙ ap (λ (b : Number). run_by b (number_at s b.next 8192 10)) e

  pub row_is : {kind m component property : Number} → kind ≡ m → component ≡ number_at s kind.next 4294967295 32 → property ≡ number_at s component.next 4294967295 10
      → row_by kind component property ≡ row_behind s m
  row_is {kind} {m} {component} e f g =
      ap (λ (x : Number). row_by kind component x) g
      ∙ ap (λ (x : Number). row_by kind x (number_at s x.next 4294967295 10)) f
      ∙ ap (λ (x : Number). row_behind s x) e

  pub add_is : {item m : Number} {end q : ℕ} → item ≡ m → end ≡ behind_value s item.next → q ≡ behind_word s end newline → line (Add item.value) q ≡ add_by s m
  add_is {item} {m} {end} {q} e f g =
      ap (λ (x : ℕ). line (Add item.value) x) (g ∙ ap (λ (x : ℕ). behind_word s x newline) f) ∙ ap (λ (x : Number). add_by s x) e

  pub trigger_is : (at : ℕ) {k p q : ℕ} → k ≡ kept_long 0 (text_bytes (drop at s)) → p ≡ behind_text s at → q ≡ behind_word s p newline
      → line (Trigger k) q ≡ line (Trigger (kept_long 0 (text_bytes (drop at s)))) (behind_word s (behind_text s at) newline)
  trigger_is at {k} {p} {q} e f g =
      ap (λ (x : ℕ). line (Trigger x) q) e
      ∙ ap (λ (x : ℕ). line (Trigger (kept_long 0 (text_bytes (drop at s)))) x) (g ∙ ap (λ (x : ℕ). behind_word s x newline) f)

pub ends_at : (c : Call) {p q : ℕ} → p ≡ q → line c p ≡ line c q
ends_at c e = ap (line c) e
