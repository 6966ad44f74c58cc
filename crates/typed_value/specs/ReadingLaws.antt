-- Laws: what is wrong is never nothing; an element and its cells; a list turn by turn; a value. By cases.
use Rattle.std.specs.Prelude.{ℕ, zero, suc, ◌+◌, ◌*◌, ◌-◌, ◌≤◌, ◌<◌, ◌≡◌, Bool, true, false, cond, ◌||◌, eqb, ltb, leb, ℤ, pos, get_or, drop}
use native.Mathlib.Omega.{arith}
use Rattle.std.proofs.Math.Path.{refl, ap}
use Rattle.std.proofs.Common.{sym, subst, ◌∙◌, lt-ltb}
use mathlib.Core.List.{List, [], ◌∷◌}
use Rattle.std.proofs.Math.ListN.{set, length}
use Rattle.paper_expressions.proofs.Laws.Tests.{contra}
use Rattle.paper_expressions.specs.Values as paper
use Rattle.paper_expressions.specs.Values.{Scalar, integer, real, text}
use Rattle.paper_expressions.proofs.Laws.Search.{sameb, same_reflects, true_reflects}
use Rattle.parts.specs.Texts.{cells}
use Rattle.blocks.specs.Blocks.{cells_long}
use Rattle.typed_value.specs.Lexemes.{blankb, digitb, letterb, past, after_of, word_at, fine}
use Rattle.typed_value.specs.Numerals.{decimal, thousandths_of, signed_of}
use Rattle.typed_value.specs.NumeralLaws.{and_right}
use Rattle.typed_value.specs.Texts.{close_of, kept_of_fn}
use Rattle.typed_value.specs.Elements.{Found, found, wrong, “unknown”, “true”, “false”, “yes”, “no”, real_at, number_at, text_from, word_from, other_at, element_at}
use Rattle.typed_value.specs.Values.{next_of, place_of, prefixed, followed, elements_at, as_one_fn, as_list, ended, value_at}
use Rattle.typed_value.specs.Cells.{tag_of, number_of, spread, tags_put, numbers_put, texts_put, tags_with, numbers_with, texts_with}
use Rattle.typed_value.specs.Readings.{element_of, step_of, text_after, ElementPut, behind_of, turn_of, ListRead, list_found, list_wrong, ValueRead, value_found, value_wrong, ended_of, ReadAs, read_value, read_wrong}
use Rattle.typed_value.specs.declared.elements.Element.{Element}
use Rattle.typed_value.specs.declared.steps.Slip.{Slip}
use Rattle.typed_value.specs.declared.steps.Slip.TheVariants.{Fine, Missing, Bare, Digits, Decimals, Separator, Nested, Many, Behind}
use Rattle.typed_value.specs.declared.steps.Step.{Step}
use Rattle.typed_value.specs.declared.lists.Turn.{Turn}
use Rattle.typed_value.specs.declared.Typed.{Typed}
use Rattle.typed_value.specs.declared.Typed.TheVariants.{Value, Wrong}

-- ---- what is wrong is never nothing

pub data Told {A : Type 0} : Found A → Type 0 where
  told_found : {x : A} {p : ℕ} → Told (found x p)
  told_wrong : {k : Slip} {p : ℕ} → fine k ≡ false → Told (wrong k p)

told_by : {A : Type 0} (t : Bool) (x y : Found A) → Told x → Told y → Told (cond t x y)
told_by true x y h k = h
told_by false x y h k = k

slip_told : (a b c : Bool) → fine (cond a Nested (cond b Digits (cond c Bare Missing))) ≡ false
slip_told true b c = refl
slip_told false true c = refl
slip_told false false true = refl
slip_told false false false = refl

told_real : (minus : Bool) (s : List ℕ) (p n : ℕ) → Told (real_at minus s p n)
unfolding real_at
told_real minus s p n =
    told_by (leb (past digitb s (after_of s p)) (after_of s p)) _ _ (told_wrong refl) (told_by (ltb 3 (past digitb s (after_of s p) - after_of s p)) _ _ (told_wrong refl) told_found)

told_number : (minus : Bool) (s : List ℕ) (at : ℕ) → Told (number_at minus s at)
unfolding number_at
told_number minus s at = told_by (leb (past digitb s at) at) _ _ (told_wrong refl) (told_by (eqb (get_or s (past digitb s at) 0) 46) _ _ (told_real minus s (past digitb s at) (decimal 0 (drop at s))) told_found)

told_text : (s : List ℕ) (at : ℕ) → Told (text_from s at)
unfolding text_from
told_text s at = told_by (eqb (get_or s (close_of 34 s at) 0) 34) _ _ told_found (told_wrong refl)

told_word : (s : List ℕ) (at : ℕ) → Told (word_from s at)
unfolding word_from
told_word s at =
    let is : List ℕ → Bool = λ w. word_at s at (past letterb s at) w in
    told_by (is “unknown”) _ _ told_found (told_by (is “true”) _ _ told_found (told_by (is “false”) _ _ told_found (told_by (is “yes”) _ _ told_found (told_by (is “no”) _ _ told_found (told_wrong refl)))))

pub told_element : (s : List ℕ) (at : ℕ) → Told (element_at s at)
unfolding element_at other_at
told_element s at =
    told_by (eqb (get_or s at 0) 34) _ _ (told_text s (after_of s at))
    (told_by (eqb (get_or s at 0) 45) _ _ (told_number true s (after_of s at))
    (told_by (digitb (get_or s at 0)) _ _ (told_number false s at)
    (told_by (letterb (get_or s at 0)) _ _ (told_word s at) (told_wrong (slip_told (eqb (get_or s at 0) 91) (eqb (get_or s at 0) 46) (eqb (get_or s at 0) 39))))))

told_prefixed : (x : Scalar) {o : Found (List Scalar)} → Told o → Told (prefixed x o)
told_prefixed x told_found = told_found
told_prefixed x (told_wrong e) = told_wrong e

told_followed : (s : List ℕ) {o : Found Scalar} {rest : Found (List Scalar)} → Told o → Told rest → Told (followed s o rest)
told_followed s (told_wrong e) k = told_wrong e
told_followed s {o = found x p} told_found k = told_by (eqb (get_or s (past blankb s p) 0) 93) _ _ told_found (told_by (eqb (get_or s (past blankb s p) 0) 44) _ _ (told_prefixed x k) (told_wrong refl))

told_elements : (m : ℕ) (s : List ℕ) (at : ℕ) → Told (elements_at m s at)
unfolding elements_at
told_elements zero s at = told_wrong refl
told_elements (suc m) s at = told_followed s (told_element s at) (told_elements m s _)

told_list : {o : Found (List Scalar)} → Told o → Told (as_list o)
told_list told_found = told_found
told_list (told_wrong e) = told_wrong e

told_one : {o : Found Scalar} → Told o → Told (as_one_fn o)
told_one told_found = told_found
told_one (told_wrong e) = told_wrong e

pub told_value : (s : List ℕ) (at : ℕ) → Told (value_at s at)
unfolding value_at
told_value s at = told_by (eqb (get_or s at 0) 91) _ _ (told_by (eqb (get_or s (next_of s at) 0) 93) _ _ told_found (told_list (told_elements 20 s (next_of s at)))) (told_one (told_element s at))

-- ---- an element

pub as_found : (x : Scalar) (i : ℕ) {r : Element} {z : ℤ} {q p : ℕ} → r ≡ record { tag = tag_of x; number = z; place = q; slip = Fine } → z ≡ number_of i x → q ≡ p → r ≡ element_of i (found x p)
as_found x i {q = q} e f g =
    e ∙ ap {B = Element} (λ (y : ℤ). record { tag = tag_of x; number = y; place = q; slip = Fine }) f
    ∙ ap {B = Element} (λ (y : ℕ). record { tag = tag_of x; number = number_of i x; place = y; slip = Fine }) g

pub as_step : (i : ℕ) (o : Found Scalar) {e : Element} {r : Step} → e ≡ element_of i o → r ≡ record { place = e.place; slip = e.slip } → r ≡ step_of o
as_step i (found x p) e f = f ∙ ap {B = Step} (λ (y : Element). record { place = y.place; slip = y.slip }) e
as_step i (wrong k p) e f = f ∙ ap {B = Step} (λ (y : Element). record { place = y.place; slip = y.slip }) e

pub as_put : (i : ℕ) (o : Found Scalar) (t : List ℕ) (n : List ℤ) (b : List ℕ) {e : Element} {t' : List ℕ} {n' : List ℤ} {b' : List ℕ} → e ≡ element_of i o → t' ≡ set t (1 + i) e.tag → n' ≡ set n (1 + i) e.number → b' ≡ text_after i o b
    → ElementPut i o t n b t' n' b'
as_put i o t n b e f g h = record { tags = f ∙ ap (λ (y : Element). set t (1 + i) y.tag) e; numbers = g ∙ ap (λ (y : Element). set n (1 + i) y.number) e; bytes = h }

-- a number has no bytes
module _ (i : ℕ) (b : List ℕ) where
  same_by : (t : Bool) (x y : Found Scalar) → b ≡ text_after i x b → b ≡ text_after i y b → b ≡ text_after i (cond t x y) b
  same_by true x y h k = h
  same_by false x y h k = k

  real_bytes : (minus : Bool) (s : List ℕ) (p n : ℕ) → b ≡ text_after i (real_at minus s p n) b
  unfolding real_at
  real_bytes minus s p n =
      let from = after_of s p in
      let to = past digitb s (after_of s p) in
      same_by (leb to from) (wrong Digits from)
      (cond (ltb 3 (to - from)) (wrong Decimals p) (found (real (signed_of minus (n * 1000 + thousandths_of (decimal 0 (drop from s)) (to - from)))) to)) refl
      (same_by (ltb 3 (to - from)) (wrong Decimals p) (found (real (signed_of minus (n * 1000 + thousandths_of (decimal 0 (drop from s)) (to - from)))) to) refl refl)

  pub number_bytes : (minus : Bool) (s : List ℕ) (at : ℕ) → b ≡ text_after i (number_at minus s at) b
  unfolding number_at
  number_bytes minus s at =
      let to = past digitb s at in
      same_by (leb to at) (wrong Digits at)
      (cond (eqb (get_or s to 0) 46) (real_at minus s to (decimal 0 (drop at s))) (found (integer (signed_of minus (decimal 0 (drop at s)))) to)) refl
      (same_by (eqb (get_or s to 0) 46) (real_at minus s to (decimal 0 (drop at s))) (found (integer (signed_of minus (decimal 0 (drop at s)))) to)
      (real_bytes minus s to (decimal 0 (drop at s))) refl)

-- ---- yes and no

module _ (s : List ℕ) (from to i : ℕ) where
  abbrev answer_by : Bool → Bool → Found Scalar
  answer_by u v = cond u (found (text “yes”) to) (cond v (found (text “no”) to) (wrong Bare from))

  abbrev pub answer_to : Found Scalar
  answer_to = answer_by (word_at s from to “yes”) (word_at s from to “no”)

  word_cells : (w : List ℕ) → length w < 63 → word_at s from to w ≡ true → cells s from (kept_of_fn (to - from)) ≡ w
  word_cells w l e =
      let h : cells s from (to - from) ≡ w = true_reflects (same_reflects (cells s from (to - from)) w) (and_right (leb from to) (sameb (cells s from (to - from)) w) e) in
      let k : to - from < 63 = (let z = sym (cells_long s from (to - from)) ∙ ap length h in omega arith) in
      rw (lt-ltb (to - from) 63 k) h

  module _ (b : List ℕ) {r : Element} {z : ℤ} {b' : List ℕ} (e : r ≡ record { tag = 4; number = z; place = to; slip = Fine }) (f : z ≡ pos (64 * i * 64 + kept_of_fn (to - from))) (g : b' ≡ spread (cells s from (kept_of_fn (to - from))) (64 * i) 64 b) where
    as_text : (w : List ℕ) → cells s from (kept_of_fn (to - from)) ≡ w → (r ≡ element_of i (found (text w) to)) × (b' ≡ text_after i (found (text w) to) b)
    as_text w h = (
      as_found (text w) i e (f ∙ ap (λ (m : ℕ). pos (64 * i * 64 + m)) (sym (cells_long s from (kept_of_fn (to - from))) ∙ ap length h)) refl,
      g ∙ ap (λ (y : List ℕ). spread y (64 * i) 64 b) h,
    )

    answer-by : (u v : Bool) → word_at s from to “yes” ≡ u → word_at s from to “no” ≡ v → (u || v) ≡ true → (r ≡ element_of i (answer_by u v)) × (b' ≡ text_after i (answer_by u v) b)
    answer-by true v p q h = as_text “yes” (word_cells “yes” (omega arith) p)
    answer-by false true p q h = as_text “no” (word_cells “no” (omega arith) q)
    answer-by false false p q h = contra h

    pub is_answer : (word_at s from to “yes” || word_at s from to “no”) ≡ true → (r ≡ element_of i answer_to) × (b' ≡ text_after i answer_to b)
    is_answer h = answer-by (word_at s from to “yes”) (word_at s from to “no”) refl refl h

  module _ (r : Element) (b : List ℕ) (e : r ≡ record { tag = 0; number = pos 0; place = from; slip = Bare }) where
    none_by : (u v : Bool) → (u || v) ≡ false → (r ≡ element_of i (answer_by u v)) × (b ≡ text_after i (answer_by u v) b)
    none_by true v h = contra (sym h)
    none_by false true h = contra (sym h)
    none_by false false h = (e, refl)

    pub no_answer : (word_at s from to “yes” || word_at s from to “no”) ≡ false → (r ≡ element_of i answer_to) × (b ≡ text_after i answer_to b)
    no_answer h = none_by (word_at s from to “yes”) (word_at s from to “no”) h

-- ---- a turn

abbrev pub turn_step : Turn → Step
turn_step r = record { place = r.place; slip = r.slip }

-- what is known of a list from the next element on is known from this one on
abbrev pub Goes : ℕ → List ℕ → List ℤ → List ℕ → List ℕ → List ℤ → List ℕ → Found (List Scalar) → Found (List Scalar) → Type 0
Goes i t n b t₁ n₁ b₁ rest q = (t' : List ℕ) (n' : List ℤ) (b' : List ℕ) (w : Step) → ListRead (i + 1) t₁ n₁ b₁ t' n' b' w rest → ListRead i t n b t' n' b' w q

module _ (s : List ℕ) where
  pub turn_fine : {o : Found Scalar} {t : Step} → Told o → t ≡ step_of o → fine t.slip ≡ true → behind_of s t.place ≡ turn_of s o
  turn_fine told_found e f = ap (λ (x : Step). behind_of s x.place) e
  turn_fine (told_wrong g) e f = contra (sym g ∙ sym (ap (λ (x : Step). fine x.slip) e) ∙ f)

  pub turn_wrong : (o : Found Scalar) {t : Step} → t ≡ step_of o → fine t.slip ≡ false → record { place = t.place; slip = t.slip; more = false } ≡ turn_of s o
  turn_wrong (found x p) e f = contra (sym f ∙ ap (λ (x : Step). fine x.slip) e)
  turn_wrong (wrong k p) e f = ap {B = Turn} (λ (x : Step). record { place = x.place; slip = x.slip; more = false }) e

  -- by what stands behind the element x: whether it is a closing bracket, or a comma
  abbrev behind_by : ℕ → Bool → Bool → Turn
  behind_by p u v =
      cond u (record { place = after_of s (past blankb s p); slip = Fine; more = false })
      (cond v (record { place = next_of s (past blankb s p); slip = Fine; more = true })
      (record { place = past blankb s p; slip = Separator; more = false }))

  abbrev followed_by : Scalar → ℕ → Found (List Scalar) → Bool → Bool → Found (List Scalar)
  followed_by x p rest u v = cond u (found (x ∷ []) (after_of s (past blankb s p))) (cond v (prefixed x rest) (wrong Separator (past blankb s p)))

  module _ (i : ℕ) {t : List ℕ} {n : List ℤ} {b t₁ : List ℕ} {n₁ : List ℤ} {b₁ : List ℕ} where
    last_by : (rest : Found (List Scalar)) {x : Scalar} {p : ℕ} (u v : Bool) (r : Turn) (t' : List ℕ) → ElementPut i (found x p) t n b t₁ n₁ b₁ → r ≡ behind_by p u v → r.more ≡ false → t' ≡ set t₁ 0 (i + 1 + 1)
        → ListRead i t n b t' n₁ b₁ (turn_step r) (followed_by x p rest u v)
    last_by rest true v r t' k g m f = list_found (ap turn_step g) (f ∙ ap (λ (y : List ℕ). set y 0 (i + 1 + 1)) k.tags) k.numbers k.bytes
    last_by rest false true r t' k g m f = contra (sym m ∙ ap (λ (y : Turn). y.more) g)
    last_by rest false false r t' k g m f = list_wrong (ap turn_step g)

    -- the list ends with this element
    pub last_turn : (o : Found Scalar) (rest : Found (List Scalar)) (r : Turn) (t' : List ℕ) → ElementPut i o t n b t₁ n₁ b₁ → r ≡ turn_of s o → r.more ≡ false → t' ≡ set t₁ 0 (i + 1 + 1)
        → ListRead i t n b t' n₁ b₁ (turn_step r) (followed s o rest)
    last_turn (wrong k p) rest r t' h e m f = list_wrong (ap turn_step e)
    last_turn (found x p) rest r t' h e m f = last_by rest (eqb (get_or s (past blankb s p) 0) 93) (eqb (get_or s (past blankb s p) 0) 44) r t' h e m f

    -- or goes on
    on : {x : Scalar} {p : ℕ} (rest : Found (List Scalar)) → ElementPut i (found x p) t n b t₁ n₁ b₁ → Goes i t n b t₁ n₁ b₁ rest (prefixed x rest)
    on rest k t' n' b' w (list_wrong e) = list_wrong e
    on {x} rest k t' n' b' w (list_found {l} e f g h) =
        let z : i + 1 + length l + 1 ≡ i + suc (length l) + 1 = omega arith in
        list_found e
        (f ∙ ap (λ (y : List ℕ). set (tags_put (i + 1) l y) 0 (i + 1 + length l + 1)) k.tags ∙ ap (λ (y : ℕ). set (tags_put (i + 1) l (set t (1 + i) (tag_of x))) 0 y) z)
        (g ∙ ap (λ (y : List ℤ). numbers_put (i + 1) l y) k.numbers)
        (h ∙ ap (λ (y : List ℕ). texts_put (i + 1) l y) k.bytes)

    next_by : (rest : Found (List Scalar)) {x : Scalar} {p : ℕ} (u v : Bool) (r : Turn) → ElementPut i (found x p) t n b t₁ n₁ b₁ → r ≡ behind_by p u v → r.more ≡ true
        → (r.place ≡ next_of s (past blankb s p)) × Goes i t n b t₁ n₁ b₁ rest (followed_by x p rest u v)
    next_by rest true v r k g m = contra (sym (ap (λ (y : Turn). y.more) g) ∙ m)
    next_by rest false true r k g m = (ap (λ (y : Turn). y.place) g, on rest k)
    next_by rest false false r k g m = contra (sym (ap (λ (y : Turn). y.more) g) ∙ m)

    pub next_turn : (o : Found Scalar) (rest : Found (List Scalar)) (r : Turn) → ElementPut i o t n b t₁ n₁ b₁ → r ≡ turn_of s o → r.more ≡ true
        → (r.place ≡ next_of s (past blankb s (place_of o))) × Goes i t n b t₁ n₁ b₁ rest (followed s o rest)
    next_turn (wrong k p) rest r h e m = contra (sym (ap (λ (y : Turn). y.more) e) ∙ m)
    next_turn (found x p) rest r h e m = next_by rest (eqb (get_or s (past blankb s p) 0) 93) (eqb (get_or s (past blankb s p) 0) 44) r h e m

-- ---- the elements that may still come

pub elements_more : (s : List ℕ) (p n : ℕ) → n < 20 → elements_at (20 - n) s p ≡ followed s (element_at s p) (elements_at (20 - (n + 1)) s (next_of s (past blankb s (place_of (element_at s p)))))
unfolding elements_at
elements_more s p n h = let e : 20 - n ≡ suc (20 - (n + 1)) = omega arith in ap (λ (m : ℕ). elements_at m s p) e

pub elements_many : (s : List ℕ) (p n : ℕ) → 20 ≤ n → elements_at (20 - n) s p ≡ wrong Many p
unfolding elements_at
elements_many s p n h = let e : 20 - n ≡ 0 = omega arith in ap (λ (m : ℕ). elements_at m s p) e

module _ (s : List ℕ) (p i : ℕ) {t : List ℕ} {n : List ℤ} {b : List ℕ} where
  pub list_ends : {t₁ : List ℕ} {n₁ : List ℤ} {b₁ : List ℕ} {q : Turn} {t' : List ℕ} {r : Step} → i < 20 → ElementPut i (element_at s p) t n b t₁ n₁ b₁ → q ≡ turn_of s (element_at s p) → q.more ≡ false → t' ≡ set t₁ 0 (i + 1 + 1) → r ≡ turn_step q
      → ListRead i t n b t' n₁ b₁ r (elements_at (20 - i) s p)
  list_ends {n₁ = n₁} {b₁ = b₁} {q = q} {t' = t'} {r = r} l h e m f g =
      subst (λ (y : Found (List Scalar)). ListRead i t n b t' n₁ b₁ r y) (sym (elements_more s p i l))
      (subst (λ (y : Step). ListRead i t n b t' n₁ b₁ y (followed s (element_at s p) (elements_at (20 - (i + 1)) s (next_of s (past blankb s (place_of (element_at s p))))))) (sym g)
      (last_turn s i (element_at s p) (elements_at (20 - (i + 1)) s (next_of s (past blankb s (place_of (element_at s p))))) q t' h e m f))

  pub list_goes : {t₁ : List ℕ} {n₁ : List ℤ} {b₁ : List ℕ} {q : Turn} → i < 20 → ElementPut i (element_at s p) t n b t₁ n₁ b₁ → q ≡ turn_of s (element_at s p) → q.more ≡ true
      → Goes i t n b t₁ n₁ b₁ (elements_at (20 - (i + 1)) s q.place) (elements_at (20 - i) s p)
  list_goes {t₁} {n₁} {b₁} {q} l h e m t' n' b' w g =
      let x = next_turn s i (element_at s p) (elements_at (20 - (i + 1)) s (next_of s (past blankb s (place_of (element_at s p))))) q h e m in
      subst (λ (y : Found (List Scalar)). ListRead i t n b t' n' b' w y) (sym (elements_more s p i l))
      (x.1 t' n' b' w (subst (λ (y : ℕ). ListRead (i + 1) t₁ n₁ b₁ t' n' b' w (elements_at (20 - (i + 1)) s y)) x.0 g))

  pub list_many : {r : Step} → 20 ≤ i → r ≡ record { place = p; slip = Many } → ListRead i t n b t n b r (elements_at (20 - i) s p)
  list_many {r} l e = subst (λ (y : Found (List Scalar)). ListRead i t n b t n b r y) (sym (elements_many s p i l)) (list_wrong e)

-- ---- a value

module _ {t : List ℕ} {n : List ℤ} {b t' : List ℕ} {n' : List ℤ} {b' : List ℕ} where
  pub list_value : {o : Found (List Scalar)} {r : Step} → ListRead 0 t n b t' n' b' r o → ValueRead t n b t' n' b' r (as_list o)
  unfolding tags_with numbers_with texts_with
  list_value (list_wrong e) = value_wrong e
  list_value (list_found {l} e f g h) = let z : 0 + length l + 1 ≡ length l + 1 = omega arith in value_found e (f ∙ ap (λ (y : ℕ). set (tags_put 0 l t) 0 y) z) g h

  pub one_value : (o : Found Scalar) {t₁ : List ℕ} {r : Step} → ElementPut 0 o t n b t₁ n' b' → r ≡ step_of o → t' ≡ set t₁ 0 0 → ValueRead t n b t' n' b' r (as_one_fn o)
  unfolding tags_with numbers_with texts_with
  one_value (wrong k p) h e f = value_wrong e
  one_value (found x p) h e f = value_found e (f ∙ ap (λ (y : List ℕ). set y 0 0) h.tags) h.numbers h.bytes

  whole_by : (s : List ℕ) (v : paper.Value) (p : ℕ) (u : Bool) → t' ≡ tags_with v t → n' ≡ numbers_with v n → b' ≡ texts_with v b
      → ReadAs t n b t' n' b' (cond u (Wrong Behind (past blankb s p)) Value) (cond u (wrong Behind (past blankb s p)) (found v p))
  whole_by s v p true f g h = read_wrong
  whole_by s v p false f g h = read_value f g h

  pub whole_value : (s : List ℕ) {o : Found paper.Value} {r : Step} {q : Typed} → Told o → ValueRead t n b t' n' b' r o → q ≡ ended_of s r.slip r.place → ReadAs t n b t' n' b' q (ended s o)
  whole_value s (told_wrong {k} {p} f) (value_wrong h) e = subst (λ (y : Typed). ReadAs t n b t' n' b' y (wrong k p)) (sym (e ∙ ap (λ (x : Step). ended_of s x.slip x.place) h ∙ rw f refl)) read_wrong
  whole_value s told_found (value_found {v} {p} z f g h) e =
      subst (λ (y : Typed). ReadAs t n b t' n' b' y (ended s (found v p))) (sym (e ∙ ap (λ (x : Step). ended_of s x.slip x.place) z))
      (whole_by s v p (ltb (past blankb s p) (length s)) f g h)

pub no_elements : (t : List ℕ) (n : List ℤ) (b : List ℕ) {t' : List ℕ} {r : Step} (q : ℕ) → r ≡ record { place = q; slip = Fine } → t' ≡ set t 0 (0 + 1) → ValueRead t n b t' n b r (found (paper.sequence []) q)
unfolding tags_with numbers_with texts_with
no_elements t n b q e f = value_found e f refl refl
