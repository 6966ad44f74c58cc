-- Law: what is typed has at most 20 elements and no text of more than 63 bytes, so that it is handed on whole. By the cases of the definitions.
use Rattle.std.specs.Prelude.{ℕ, zero, suc, ◌-◌, ◌≤◌, ◌<◌, ◌≡◌, Bool, true, false, cond, List, [], ◌∷◌, eqb, ltb, leb, get_or, length, drop, take}
use Rattle.std.proofs.Common.{arith, subst, lt-ltb, le-ltb}
use Rattle.std.proofs.Math.Decide.{dec_lt}
use Rattle.std.proofs.Math.Option.{some}
use Rattle.paper_expressions.specs.Values.{Scalar, unknown, Value}
use Rattle.parts.specs.Texts.{cells}
use Rattle.blocks.specs.Blocks.{cells_long}
use Rattle.value_given.specs.Given.{given}
use Rattle.typed_value.specs.Lexemes.{blankb, digitb, letterb, past, after_of, word_at}
use Rattle.typed_value.specs.Numerals.{decimal}
use Rattle.typed_value.specs.Texts.{kept_of_fn, close_of}
use Rattle.typed_value.specs.Elements.{Found, found, wrong, “unknown”, “true”, “false”, “yes”, “no”, real_at, number_at, text_from, word_from, other_at, element_at}
use Rattle.typed_value.specs.Values.{next_of, place_of, prefixed, followed, elements_at, as_one_fn, as_list, ended, value_at, typed}
use Rattle.typed_value.specs.Cells.{elements_of, tags_of, numbers_of_fn, bytes_of}
use Rattle.typed_value.specs.declared.steps.Slip.{Slip}
use Rattle.advise.specs.GivenLaws.{Handy, given_typed}

-- at most m elements, each of them handy
pub record Handed (m : ℕ) (l : List Scalar) : Type 0 where
  pub most : length l ≤ m
  pub each : (j : ℕ) → j < length l → Handy (get_or l j unknown)

data Short : Found Scalar → Type 0 where
  short : {x : Scalar} {p : ℕ} → Handy x → Short (found x p)
  no_short : {k : Slip} {p : ℕ} → Short (wrong k p)

data Shorts (m : ℕ) : Found (List Scalar) → Type 0 where
  shorts : {l : List Scalar} {p : ℕ} → Handed m l → Shorts m (found l p)
  no_shorts : {k : Slip} {p : ℕ} → Shorts m (wrong k p)

data Whole : Found Value → Type 0 where
  whole : {v : Value} {p : ℕ} → Handed 20 (elements_of v) → Whole (found v p)
  no_whole : {k : Slip} {p : ℕ} → Whole (wrong k p)

short_by : (t : Bool) (x y : Found Scalar) → Short x → Short y → Short (cond t x y)
short_by true x y h k = h
short_by false x y h k = k

shorts_by : {m : ℕ} (t : Bool) (x y : Found (List Scalar)) → Shorts m x → Shorts m y → Shorts m (cond t x y)
shorts_by true x y h k = h
shorts_by false x y h k = k

whole_by : (t : Bool) (x y : Found Value) → Whole x → Whole y → Whole (cond t x y)
whole_by true x y h k = h
whole_by false x y h k = k

-- ---- an element

short_real : (minus : Bool) (s : List ℕ) (p n : ℕ) → Short (real_at minus s p n)
unfolding real_at
short_real minus s p n = short_by (leb (past digitb s (after_of s p)) (after_of s p)) _ _ no_short (short_by (ltb 3 (past digitb s (after_of s p) - after_of s p)) _ _ no_short (short tt))

short_number : (minus : Bool) (s : List ℕ) (at : ℕ) → Short (number_at minus s at)
unfolding number_at
short_number minus s at = short_by (leb (past digitb s at) at) _ _ no_short (short_by (eqb (get_or s (past digitb s at) 0) 46) _ _ (short_real minus s (past digitb s at) (decimal 0 (drop at s))) (short tt))

kept_most : (n : ℕ) → kept_of_fn n < 64
kept_most n = go (dec_lt n 63)
  where
    go : Dec (n < 63) → kept_of_fn n < 64
    go (yes h) = rw (lt-ltb n 63 h) (omega arith)
    go (no h) = rw (le-ltb n 63 (omega arith)) (omega arith)

short_text : (s : List ℕ) (at : ℕ) → Short (text_from s at)
unfolding text_from
short_text s at =
    let n = kept_of_fn (close_of 34 s at - at) in
    let e = cells_long s at (kept_of_fn (close_of 34 s at - at)) in
    let k = kept_most (close_of 34 s at - at) in
    let h : length (cells s at (kept_of_fn (close_of 34 s at - at))) < 64 = omega arith in
    short_by (eqb (get_or s (close_of 34 s at) 0) 34) _ _ (short h) no_short

short_word : (s : List ℕ) (at : ℕ) → Short (word_from s at)
unfolding word_from
short_word s at =
    let is : List ℕ → Bool = λ w. word_at s at (past letterb s at) w in
    short_by (is “unknown”) _ _ (short tt) (short_by (is “true”) _ _ (short tt) (short_by (is “false”) _ _ (short tt) (short_by (is “yes”) _ _ (short (omega arith)) (short_by (is “no”) _ _ (short (omega arith)) no_short))))

short_element : (s : List ℕ) (at : ℕ) → Short (element_at s at)
unfolding element_at other_at
short_element s at =
    short_by (eqb (get_or s at 0) 34) _ _ (short_text s (after_of s at))
    (short_by (eqb (get_or s at 0) 45) _ _ (short_number true s (after_of s at))
    (short_by (digitb (get_or s at 0)) _ _ (short_number false s at)
    (short_by (letterb (get_or s at 0)) _ _ (short_word s at) no_short)))

-- ---- a list

more : {m : ℕ} {x : Scalar} {l : List Scalar} → Handy x → Handed m l → Handed (suc m) (x ∷ l)
more {m} {x} {l} h k = let z = k.most in record { most = omega arith; each = at }
  where
    at : (j : ℕ) → j < length (x ∷ l) → Handy (get_or (x ∷ l) j unknown)
    at zero i = h
    at (suc j) i = k.each j (omega arith)

none : {m : ℕ} → Handed m []
none = record { most = omega arith; each = λ j i. absurd (omega arith) }

shorts_prefixed : {m : ℕ} (x : Scalar) {o : Found (List Scalar)} → Handy x → Shorts m o → Shorts (suc m) (prefixed x o)
shorts_prefixed x h (shorts k) = shorts (more h k)
shorts_prefixed x h no_shorts = no_shorts

shorts_followed : {m : ℕ} (s : List ℕ) {o : Found Scalar} {rest : Found (List Scalar)} → Short o → Shorts m rest → Shorts (suc m) (followed s o rest)
shorts_followed s no_short k = no_shorts
shorts_followed s (short {x = x} {p = p} h) k = shorts_by (eqb (get_or s (past blankb s p) 0) 93) _ _ (shorts (more h none)) (shorts_by (eqb (get_or s (past blankb s p) 0) 44) _ _ (shorts_prefixed x h k) no_shorts)

shorts_elements : (m : ℕ) (s : List ℕ) (at : ℕ) → Shorts m (elements_at m s at)
unfolding elements_at
shorts_elements zero s at = no_shorts
shorts_elements (suc m) s at = shorts_followed s (short_element s at) (shorts_elements m s (next_of s (past blankb s (place_of (element_at s at)))))

-- ---- a value

whole_list : {o : Found (List Scalar)} → Shorts 20 o → Whole (as_list o)
whole_list (shorts h) = whole h
whole_list no_shorts = no_whole

whole_one : {o : Found Scalar} → Short o → Whole (as_one_fn o)
whole_one (short h) = whole (more h none)
whole_one no_short = no_whole

whole_value : (s : List ℕ) (at : ℕ) → Whole (value_at s at)
unfolding value_at
whole_value s at = whole_by (eqb (get_or s at 0) 91) _ _ (whole_by (eqb (get_or s (next_of s at) 0) 93) _ _ (whole none) (whole_list (shorts_elements 20 s (next_of s at)))) (whole_one (short_element s at))

whole_ended : (s : List ℕ) {o : Found Value} → Whole o → Whole (ended s o)
whole_ended s no_whole = no_whole
whole_ended s (whole {p = p} h) = whole_by (ltb (past blankb s p) (length s)) _ _ no_whole (whole h)

whole_typed : (s : List ℕ) (from to : ℕ) → Whole (typed s from to)
unfolding typed
whole_typed s from to = whole_by (ltb (length s) to) _ _ no_whole (whole_ended (take to s) (whole_value (take to s) (past blankb (take to s) from)))

handed : {v : Value} {p : ℕ} → Whole (found v p) → Handed 20 (elements_of v)
handed (whole h) = h

-- the cells and bytes of the value that is typed stand for that very value
pub typed_is_given : (s : List ℕ) (from to : ℕ) {v : Value} {p : ℕ} → typed s from to ≡ found v p → given (tags_of v) (numbers_of_fn v) (bytes_of v) ≡ some v
typed_is_given s from to {v} e = let h = handed (subst Whole e (whole_typed s from to)) in given_typed v h.most h.each
