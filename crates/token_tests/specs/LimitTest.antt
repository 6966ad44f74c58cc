-- The test whether one token is past a limit, as it is made: by numbers that are cut off above the limits.
-- Law: the test decides OverLimit. By induction on the digits: what is cut off is still past the limit.
use Rattle.std.specs.Prelude.{ℕ, suc, ◌+◌, ◌*◌, ◌-◌, ◌≤◌, ◌<◌, ◌≡◌, refl, Bool, true, false, cond, ◌||◌, ◌⊎◌, List, [], ◌∷◌, eqb, leb, ltb, nat_abs, neg_ℤ, length, get_or}
use Rattle.std.proofs.Common.{sym, ap, ◌∙◌, inl, inr, ⊎_elim, arith, ne_eqb, leb-true, leb-false, lt-ltb, le-ltb, ltb-true}
use Rattle.paper_expressions.proofs.Laws.Tests.{contra, two, or_cases}
use Rattle.paper_expressions.specs.Limits as Values
use Values.{integer_limit, real_limit}
use Rattle.paper_expressions.specs.View.{At, at_first, at_later}
use Rattle.paper_tokens.specs.Tokens.{‘integer’, ‘float’, reserved_count}
use Rattle.paper_guideline.specs.Limits.{decimal_limit}
use Rattle.paper_tokens.specs.Literals.{whole, thousandths, behind_point}
use Rattle.paper_tokens.specs.Lexical.{Token, inner}
use Rattle.paper_tokens.specs.Terminals.{name, Terminal, a_reserved_word, yes_no, a_data_type, another_atom, an_integer, a_float, a_string}
use Rattle.paper_tokens.proofs.Laws.TerminalLaws.{one_terminal, reserved_below}
use Rattle.paper_guideline.specs.Refusals.{TokenBreach, long_name, long_text, large_integer, large_real, long_fraction}
use Rattle.leaves.specs.Leaf.{atom_range}
use Rattle.leaves.specs.Numbers
use Numbers.{most, grown, unsigned, digits, fixed, all_digits, all_fixed, digits_are, fixed_is, whole_is, whole_plain, thousandths_is, thousandths_plain, size_of_negative}
use Rattle.leaves.specs.Source.{Source, Here}
use Rattle.token_tests.specs.declared.sizes.Limit.{Limit}
use Rattle.token_tests.specs.declared.sizes.Limit.TheVariants.{Within, Text, Integer, Real, Decimals}
use Rattle.token_tests.specs.Reply.{OverLimit}
use Rattle.token_tests.specs.Walk.{or_right, of_token, of_bytes, Decides}

-- ---- the test

abbrev pub pick : Bool → Limit → Limit → Limit
pick true x y = x
pick false x y = y

abbrev pub integer_limit_of : List ℕ → Limit
integer_limit_of w = pick (ltb integer_limit (digits 0 (unsigned w))) Integer Within

-- too large, or too long behind its point
abbrev pub float_limit : List ℕ → Limit
float_limit w = pick (ltb real_limit (fixed 0 (unsigned w))) Real (pick (ltb decimal_limit (length (behind_point w))) Decimals Within)

abbrev pub text_limit_of : List ℕ → Limit
text_limit_of w = pick (ltb Values.text_limit (length (inner w))) Text Within

-- the limit that a token of terminal k and these bytes is past
abbrev pub limit_of : ℕ → List ℕ → Limit
limit_of k w =
    pick (eqb k ‘integer’) (integer_limit_of w)
    (pick (eqb k ‘float’) (float_limit w)
    (pick (ltb k reserved_count) Within (text_limit_of w)))

abbrev pub exceeded : Limit → Bool
exceeded Within = false
exceeded Text = true
exceeded Integer = true
exceeded Real = true
exceeded Decimals = true

-- a float is past a limit
abbrev large : List ℕ → Bool
large w = ltb real_limit (fixed 0 (unsigned w)) || ltb decimal_limit (length (behind_point w))

-- any token is
abbrev pub limit_test : ℕ → List ℕ → Bool
limit_test k w =
    cond (eqb k ‘integer’) (ltb integer_limit (digits 0 (unsigned w)))
    (cond (eqb k ‘float’) (large w)
    (cond (ltb k reserved_count) false (ltb Values.text_limit (length (inner w)))))

pub exceeds_is : (k : ℕ) (w : List ℕ) → exceeded (limit_of k w) ≡ limit_test k w
exceeds_is k w = by (eqb k ‘integer’) (eqb k ‘float’) (ltb k reserved_count)
  where
    one : (b : Bool) (l : Limit) → exceeded l ≡ true → exceeded (pick b l Within) ≡ b
    one true l e = e
    one false l e = refl

    either : (b d : Bool) → exceeded (pick b Real (pick d Decimals Within)) ≡ (b || d)
    either true d = refl
    either false d = one d Decimals refl

    by : (i f r : Bool) → exceeded (pick i (integer_limit_of w) (pick f (float_limit w) (pick r Within (text_limit_of w))))
        ≡ cond i (ltb integer_limit (digits 0 (unsigned w))) (cond f (large w) (cond r false (ltb Values.text_limit (length (inner w)))))
    by true f r = one (ltb integer_limit (digits 0 (unsigned w))) Integer refl
    by false true r = either (ltb real_limit (fixed 0 (unsigned w))) (ltb decimal_limit (length (behind_point w)))
    by false false true = refl
    by false false false = one (ltb Values.text_limit (length (inner w))) Text refl

-- the token i of the columns
abbrev pub past_limit_at : Source → ℕ → Bool
past_limit_at c i = of_token c i (limit_test (get_or c.kinds i 0))

-- ---- the numbers, cut off or not, are past their limits alike

most_grown : (n b : ℕ) → most ≤ n → most ≤ grown n b
most_grown n b h = ⊎_elim
    (λ (e : leb (n * 10 + (b - 48)) most ≡ true). rw e (omega arith))
    (λ (e : leb (n * 10 + (b - 48)) most ≡ false). rw e (omega arith))
    (two (leb (n * 10 + (b - 48)) most))

most_digits : (n : ℕ) (w : List ℕ) → most ≤ n → most ≤ digits n w
most_digits n [] h = h
most_digits n (b ∷ w) h = most_digits (grown n b) w (most_grown n b h)

digits_past : (n : ℕ) (w : List ℕ) → integer_limit < all_digits n w → integer_limit < digits n w
digits_past n [] h = h
digits_past n (b ∷ w) h = ⊎_elim
    (λ (e : leb (n * 10 + (b - 48)) most ≡ true). rw e (digits_past (n * 10 + (b - 48)) w h))
    (λ (e : leb (n * 10 + (b - 48)) most ≡ false). rw e (let z = most_digits most w (omega arith) in omega arith))
    (two (leb (n * 10 + (b - 48)) most))

past_digits : (w : List ℕ) → integer_limit < digits 0 w → integer_limit < all_digits 0 w
past_digits w h = ⊎_elim
    (λ (e : leb (all_digits 0 w) integer_limit ≡ true). let d = digits_are 0 w (leb-true (all_digits 0 w) integer_limit e) in let l = leb-true (all_digits 0 w) integer_limit e in absurd (omega arith))
    (λ (e : leb (all_digits 0 w) integer_limit ≡ false). leb-false (all_digits 0 w) integer_limit e)
    (two (leb (all_digits 0 w) integer_limit))

most_fixed : (n : ℕ) (w : List ℕ) → most ≤ n → real_limit < fixed n w
most_fixed n [] h = omega arith
most_fixed n (b ∷ w) h = ⊎_elim
    (λ (e : eqb b 46 ≡ true). rw e (omega arith))
    (λ (e : eqb b 46 ≡ false). rw e (most_fixed (grown n b) w (most_grown n b h)))
    (two (eqb b 46))

fixed_past : (n : ℕ) (w : List ℕ) → real_limit < all_fixed n w → real_limit < fixed n w
fixed_past n [] h = h
fixed_past n (b ∷ w) h = ⊎_elim
    (λ (p : eqb b 46 ≡ true). rw p (rw p at h))
    (λ (p : eqb b 46 ≡ false). rw p (⊎_elim
    (λ (e : leb (n * 10 + (b - 48)) most ≡ true). rw e (fixed_past (n * 10 + (b - 48)) w (rw p at h)))
    (λ (e : leb (n * 10 + (b - 48)) most ≡ false). rw e (most_fixed most w (omega arith)))
    (two (leb (n * 10 + (b - 48)) most))))
    (two (eqb b 46))

past_fixed : (w : List ℕ) → real_limit < fixed 0 w → real_limit < all_fixed 0 w
past_fixed w h = ⊎_elim
    (λ (e : leb (all_fixed 0 w) real_limit ≡ true). let l = leb-true (all_fixed 0 w) real_limit e in let d = fixed_is 0 w l in absurd (omega arith))
    (λ (e : leb (all_fixed 0 w) real_limit ≡ false). leb-false (all_fixed 0 w) real_limit e)
    (two (leb (all_fixed 0 w) real_limit))

integer_size : (w : List ℕ) → nat_abs (whole w) ≡ all_digits 0 (unsigned w)
integer_size [] = refl
integer_size (b ∷ w) = ⊎_elim
    (λ (p : eqb b 45 ≡ true). rw p (ap nat_abs (ap neg_ℤ (whole_is 0 w)) ∙ size_of_negative (all_digits 0 w)))
    (λ (p : eqb b 45 ≡ false). ap nat_abs (whole_plain b w p) ∙ rw p)
    (two (eqb b 45))

float_size : (w : List ℕ) → nat_abs (thousandths w) ≡ all_fixed 0 (unsigned w)
float_size [] = refl
float_size (b ∷ w) = ⊎_elim
    (λ (p : eqb b 45 ≡ true). rw p (ap nat_abs (ap neg_ℤ (thousandths_is 0 w)) ∙ size_of_negative (all_fixed 0 w)))
    (λ (p : eqb b 45 ≡ false). ap nat_abs (thousandths_plain b w p) ∙ rw p)
    (two (eqb b 45))

-- ---- the test and the limits on one token

told : {t : Token} {k : ℕ} → Terminal t k → limit_test k t.bytes ≡ true → TokenBreach t
told {k = k} (a_reserved_word e r) h =
    let b = reserved_below r in
    contra (rw (ne_eqb k ‘integer’ (λ z. omega arith), ne_eqb k ‘float’ (λ z. omega arith), lt-ltb k reserved_count b) at h)
told {t} (yes_no e o) h = long_name e (ltb-true Values.text_limit (length (name t)) h)
told {t} (a_data_type e o) h = long_name e (ltb-true Values.text_limit (length (name t)) h)
told {t} (another_atom e n m) h = long_name e (ltb-true Values.text_limit (length (name t)) h)
told {t} (an_integer e) h =
    let l = past_digits (unsigned t.bytes) (ltb-true integer_limit (digits 0 (unsigned t.bytes)) h) in
    let s = integer_size t.bytes in
    large_integer e (omega arith)
told {t} (a_float e) h = ⊎_elim
    (λ (x : ltb real_limit (fixed 0 (unsigned t.bytes)) ≡ true).
    let l = past_fixed (unsigned t.bytes) (ltb-true real_limit (fixed 0 (unsigned t.bytes)) x) in
    let s = float_size t.bytes in
    large_real e (omega arith))
    (λ (x : ltb decimal_limit (length (behind_point t.bytes)) ≡ true). long_fraction e (ltb-true decimal_limit (length (behind_point t.bytes)) x))
    (or_cases (ltb real_limit (fixed 0 (unsigned t.bytes))) (ltb decimal_limit (length (behind_point t.bytes))) h)
told {t} (a_string e) h = long_text e (ltb-true Values.text_limit (length (name t)) h)

tells_text : (k : ℕ) (w : List ℕ) → reserved_count ≤ k → ¬ (k ≡ ‘integer’) → ¬ (k ≡ ‘float’) → Values.text_limit < length (inner w) → limit_test k w ≡ true
tells_text k w l f g h = rw (ne_eqb k ‘integer’ f, ne_eqb k ‘float’ g, le-ltb k reserved_count l) (lt-ltb Values.text_limit (length (inner w)) h)

tells : {t : Token} {k : ℕ} → Terminal t k → TokenBreach t → limit_test k t.bytes ≡ true
tells {t} {k} x (long_name e h) = let r = atom_range e x in tells_text k t.bytes r.0 (λ z. omega arith) (λ z. omega arith) h
tells {t} {k} x (long_text e h) =
    let r = one_terminal x (a_string e) in
    tells_text k t.bytes (omega arith) (λ z. omega arith) (λ z. omega arith) h
tells {t} {k} x (large_integer e h) =
    let s = integer_size t.bytes in
    let l : integer_limit < all_digits 0 (unsigned t.bytes) = omega arith in
    rw (one_terminal x (an_integer e)) (lt-ltb integer_limit (digits 0 (unsigned t.bytes)) (digits_past 0 (unsigned t.bytes) l))
tells {t} {k} x (large_real e h) =
    let s = float_size t.bytes in
    let l : real_limit < all_fixed 0 (unsigned t.bytes) = omega arith in
    rw (one_terminal x (a_float e), lt-ltb real_limit (fixed 0 (unsigned t.bytes)) (fixed_past 0 (unsigned t.bytes) l))
tells {t} {k} x (long_fraction e h) =
    rw (one_terminal x (a_float e))
    (or_right (ltb real_limit (fixed 0 (unsigned t.bytes))) (ltb decimal_limit (length (behind_point t.bytes))) (lt-ltb decimal_limit (length (behind_point t.bytes)) h))

-- ---- among the tokens

none : {q : ℕ} → ¬ OverLimit [] q
none h = elim h.there [ ]

here : {t : Token} {ts : List Token} → TokenBreach t → OverLimit (t ∷ ts) t.place
here {t} b = record { index = 0; token = t; there = at_first; breach = b; place = refl }

on : {t : Token} {ts : List Token} {q : ℕ} → OverLimit ts q → OverLimit (t ∷ ts) q
on h = record { index = suc h.index; token = h.token; there = at_later h.there; breach = h.breach; place = h.place }

split : {t u : Token} {ts : List Token} {q i : ℕ} → At (t ∷ ts) i u → TokenBreach u → q ≡ u.place → (TokenBreach t × (q ≡ t.place)) ⊎ OverLimit ts q
split at_first b e = inl (b, e)
split {u = u} (at_later {i = j} a) b e = inr (record { index = j; token = u; there = a; breach = b; place = e })

either : {t : Token} {ts : List Token} {q : ℕ} → OverLimit (t ∷ ts) q → (TokenBreach t × (q ≡ t.place)) ⊎ OverLimit ts q
either h = split h.there h.breach h.place

test_is : {c : Source} {i : ℕ} {t : Token} → Here c i t → past_limit_at c i ≡ limit_test (get_or c.kinds i 0) t.bytes
test_is {c} {i} h = of_bytes c i (limit_test (get_or c.kinds i 0)) h

pub decides : Decides OverLimit past_limit_at
decides = record {
  none = none;
  there = λ h. ⊎_elim (λ x. inl x.1) (λ x. inr x) (either h);
  on = on;
  yes = λ s h. here (told s.here.terminal (sym (test_is s.here) ∙ h));
  no = λ s h a. ⊎_elim (λ x. contra (sym h ∙ test_is s.here ∙ tells s.here.terminal x.0)) (λ x. x) (either a);
}
