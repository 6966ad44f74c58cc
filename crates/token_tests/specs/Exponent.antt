-- A float has an exponent exactly if it has one of the letters that begin one: a plain float has no such letter, and an exponent has.
use Rattle.std.specs.Prelude.{ℕ, ◌≡◌, refl, Bool, true, false, cond, ◌&&◌, ◌||◌, not, List, [], ◌∷◌, ◌++◌, eqb, leb}
use Rattle.std.proofs.Common.{sym, ap, subst, ◌∙◌, ⊎_elim, append-nil, eqb-true}
use Rattle.std.proofs.lemmas.Bool.{eqb-false}
use Rattle.paper_expressions.proofs.Laws.Tests.{contra, two, or_cases, and_l, and_r}
use Rattle.paper_tokens.specs.Kinds.{other, letter, power, digit, minus, point, quote, backslash, blank, slash, star, high, double_quote, kind_of}
use Rattle.paper_tokens.specs.Forms.{Form, never, empty, any, one, ◌then◌, ◌or◌, many, no, One, Many, stop, more, Match, is_in}
use Rattle.paper_tokens.specs.Lexical.{plain_float, exponent, float_form}
use Rattle.token_tests.specs.Walk.{or_right}

-- D E and d e
abbrev pub begins_exponent : ℕ → Bool
begins_exponent b = leb 68 b && leb b 69 || leb 100 b && leb b 101

abbrev pub has_exponent : List ℕ → Bool
has_exponent [] = false
has_exponent (b ∷ w) = begins_exponent b || has_exponent w

-- ---- the letters are those of their kind

of_kind : (b : ℕ) → begins_exponent b ≡ true → kind_of b ≡ power
unfolding kind_of
of_kind b h = rw h

neither : (x : Bool) (n : ℕ) {m : ℕ} → eqb n power ≡ false → ¬ (m ≡ power) → ¬ (cond x n m ≡ power)
neither true n f g = eqb-false n power f
neither false n f g = g

is_letter : (b : ℕ) → kind_of b ≡ power → begins_exponent b ≡ true
unfolding kind_of
is_letter b h = ⊎_elim
    (λ (e : begins_exponent b ≡ true). e)
    (λ (e : begins_exponent b ≡ false).
    let g = rw e at h in
    absurd (neither (leb 65 b && leb b 90 || eqb b 95 || leb 97 b && leb b 122) letter refl
    (neither (leb 48 b && leb b 57) digit refl
    (neither (eqb b 45) minus refl
    (neither (eqb b 46) point refl
    (neither (eqb b 39) quote refl
    (neither (eqb b 34) double_quote refl
    (neither (eqb b 92) backslash refl
    (neither (leb 9 b && leb b 10 || eqb b 13 || eqb b 32) blank refl
    (neither (eqb b 47) slash refl
    (neither (eqb b 42) star refl
    (neither (leb 128 b) high refl (eqb-false other power refl))))))))))) g))
    (two (begins_exponent b))

-- ---- parts with no such letter

or_assoc : (a b c : Bool) → a || (b || c) ≡ (a || b) || c
or_assoc true b c = refl
or_assoc false b c = refl

joined : (u v : List ℕ) → has_exponent (u ++ v) ≡ has_exponent u || has_exponent v
joined [] v = refl
joined (b ∷ u) v = ap (λ (x : Bool). begins_exponent b || x) (joined u v) ∙ or_assoc (begins_exponent b) (has_exponent u) (has_exponent v)

none_joined : {w : List ℕ} (u v : List ℕ) → w ≡ u ++ v → has_exponent u ≡ false → has_exponent v ≡ false → has_exponent w ≡ false
none_joined u v e f g = ap has_exponent e ∙ joined u v ∙ rw (f, g)

-- the form asks for no such letter
abbrev spared : Form → Bool
spared never = true
spared empty = true
spared any = false
spared (one ks) = not (is_in power ks)
spared (x then y) = spared x && spared y
spared (x or y) = spared x && spared y
spared (many x) = spared x
spared (no x) = false

one_none : (ks : List ℕ) {w : List ℕ} → not (is_in power ks) ≡ true → One ks w → has_exponent w ≡ false
one_none ks s m = ap has_exponent m.is ∙ ⊎_elim
    (λ (e : begins_exponent m.byte ≡ true). contra (rw (sym (ap (λ (k : ℕ). is_in k ks) (of_kind m.byte e)) ∙ m.of_kind) at s))
    (λ (e : begins_exponent m.byte ≡ false). rw e)
    (two (begins_exponent m.byte))

many_none : {P : List ℕ → Type 0} {w : List ℕ} → ((u : List ℕ) → P u → has_exponent u ≡ false) → Many P w → has_exponent w ≡ false
many_none f stop = refl
many_none f (more u v e p m) = none_joined u v e (f u p) (many_none f m)

none_in : (x : Form) (w : List ℕ) → spared x ≡ true → Match x w → has_exponent w ≡ false
unfolding Match
none_in never w s m = absurd m
none_in empty w s m = ap has_exponent m
none_in any w s m = contra s
none_in (one ks) w s m = one_none ks s m
none_in (x then y) w s m =
    none_joined m.first m.rest m.is (none_in x m.first (and_l (spared x) (spared y) s) m.is_first) (none_in y m.rest (and_r (spared x) (spared y) s) m.is_rest)
none_in (x or y) w s m = ⊎_elim (λ h. none_in x w (and_l (spared x) (spared y) s) h) (λ h. none_in y w (and_r (spared x) (spared y) s) h) m
none_in (many x) w s m = many_none (λ u p. none_in x u s p) m
none_in (no x) w s m = contra s

-- ---- floats

pub plain_none : (w : List ℕ) → Match plain_float w → has_exponent w ≡ false
unfolding plain_float
plain_none w m = none_in plain_float w refl m

letter_first : {w : List ℕ} → One (power ∷ []) w → has_exponent w ≡ true
letter_first m = ⊎_elim
    (λ (e : eqb (kind_of m.byte) power ≡ true). ap has_exponent m.is ∙ rw (is_letter m.byte (eqb-true (kind_of m.byte) power e)))
    (λ (e : false ≡ true). contra e)
    (or_cases (eqb (kind_of m.byte) power) false m.of_kind)

some_exponent : (w : List ℕ) → Match exponent w → has_exponent w ≡ true
unfolding Match exponent
some_exponent w m = ap has_exponent m.is ∙ joined m.first m.rest ∙ rw (letter_first m.is_first)

pub none_plain : (w : List ℕ) → Match float_form w → has_exponent w ≡ false → Match plain_float w
unfolding Match float_form
none_plain w m h = ⊎_elim
    (λ (e : m.rest ≡ []). subst (Match plain_float) (sym (m.is ∙ ap (λ (v : List ℕ). m.first ++ v) e ∙ append-nil m.first)) m.is_first)
    (λ (x : Match exponent m.rest).
    contra (sym h ∙ ap has_exponent m.is ∙ joined m.first m.rest ∙ or_right (has_exponent m.first) (has_exponent m.rest) (some_exponent m.rest x)))
    m.is_rest
