-- The names of section 11's functors as three tables: their bytes, 16 for each, their lengths, and the numbers of what they mean.
-- Law: the first row that is the same gives the number of what the name means. By one computed test that the rows are section 11's.
use Rattle.std.specs.Prelude.{ℕ, zero, suc, ◌+◌, ◌*◌, ◌≤◌, ◌<◌, ◌≡◌, refl, Bool, true, false, cond, ◌&&◌, List, [], ◌∷◌, ltb, leb, get_or}
use Rattle.std.proofs.Common.{sym, ap, ◌∙◌, ⊎_elim, arith, leb→le, ltb-true, lt-ltb, le-ltb}
use Rattle.paper_expressions.proofs.Laws.Tests.{two, and_l, and_r}
use Rattle.paper_expressions.specs.Bytes.{bytes}
use Rattle.paper_expressions.specs.Operators.{Op, arithmetic, divide, compare, and, or, includes, oneof, if, negate, isknown, not, count, sum, extreme, nth, is-in, no_such, Name, ◌means◌, functors}
use Rattle.paper_expressions.proofs.Laws.Functors.{meant_f, functor_f}
use Rattle.paper_expressions.proofs.Laws.Search.{sameb}
use Rattle.parts.specs.Codes.{code}
use Rattle.parts.specs.Part.{OpLoad}
use Rattle.parts.specs.Texts.{text_at_fn}
use Rattle.terminals.specs.Every.{at_below}
use Rattle.leaves.specs.Places.{entry, Rows, place_from}

unfoldable pub name_bytes : List ℕ
name_bytes =
    bytes "if              -               isknown         not             count           sum             max             min             nth             is_dormant      is_in_progress  is_discarded    is_completed    "

unfoldable pub name_lengths : List ℕ
name_lengths = 2 ∷ 1 ∷ 7 ∷ 3 ∷ 5 ∷ 3 ∷ 3 ∷ 3 ∷ 3 ∷ 10 ∷ 14 ∷ 12 ∷ 12 ∷ []

unfoldable pub name_codes : List ℕ
name_codes = 70 ∷ 80 ∷ 90 ∷ 100 ∷ 110 ∷ 120 ∷ 130 ∷ 131 ∷ 140 ∷ 150 ∷ 151 ∷ 152 ∷ 153 ∷ []

abbrev pub name_at : ℕ → List ℕ
name_at i = entry name_bytes name_lengths 16 i

-- the number of what w means, by the n rows from i on; 250 where there is none
abbrev pub code_from : List ℕ → ℕ → ℕ → ℕ
code_from w i zero = 250
code_from w i (suc n) = cond (sameb (name_at i) w) (get_or name_codes i 0) (code_from w (suc i) n)

-- ---- the rows are section 11's

abbrev rows : ℕ → ℕ → List (List ℕ × ℕ)
rows i zero = []
rows i (suc n) = (name_at i, get_or name_codes i 0) ∷ rows (suc i) n

abbrev coded : List Name → List (List ℕ × ℕ)
coded [] = []
coded ((m means o) ∷ l) = (m, code o) ∷ coded l

abbrev search_in : List ℕ → List (List ℕ × ℕ) → ℕ
search_in w [] = 250
search_in w (x ∷ l) = cond (sameb x.0 w) x.1 (search_in w l)

same_rows : coded functors ≡ rows 0 13
unfolding name_bytes name_lengths name_codes
same_rows = refl

by_list : (w : List ℕ) (l : List Name) → code (meant_f w l) ≡ search_in w (coded l)
by_list w [] = refl
by_list w ((m means o) ∷ l) = ⊎_elim
    (λ (p : sameb m w ≡ true). rw p)
    (λ (p : sameb m w ≡ false). rw p (by_list w l))
    (two (sameb m w))

by_rows : (w : List ℕ) (n i : ℕ) → search_in w (rows i n) ≡ code_from w i n
by_rows w zero i = refl
by_rows w (suc n) i = ap (λ (k : ℕ). cond (sameb (name_at i) w) (get_or name_codes i 0) k) (by_rows w n (suc i))

pub functor_code : (w : List ℕ) → code_from w 0 13 ≡ code (functor_f w)
functor_code w = sym (by_list w functors ∙ ap (search_in w) same_rows ∙ by_rows w 13 0)

-- ---- what a functor loads: nothing, or its name if section 11 doesn't have it

abbrev all_below : List Name → Bool
all_below [] = true
all_below ((m means o) ∷ l) = ltb (code o) 250 && all_below l

unknown_name : (w : List ℕ) (l : List Name) → all_below l ≡ true → code (meant_f w l) ≡ 250 → meant_f w l ≡ no_such w
unknown_name w [] a h = refl
unknown_name w ((m means o) ∷ l) a h = ⊎_elim
    (λ (p : sameb m w ≡ true). let g = rw p at h in let b = ltb-true (code o) 250 (and_l (ltb (code o) 250) (all_below l) a) in absurd (omega arith))
    (λ (p : sameb m w ≡ false). let g = rw p at h in rw p (unknown_name w l (and_r (ltb (code o) 250) (all_below l) a) g))
    (two (sameb m w))

pub unknown_load : (b w : List ℕ) (x : ℕ) → code (functor_f w) ≡ 250 → text_at_fn b x ≡ w → OpLoad b (functor_f w) x
unknown_load b w x h e = rw (unknown_name w functors refl h) e

pub known_load : (b : List ℕ) (o : Op) (x : ℕ) → ¬ (code o ≡ 250) → x ≡ 0 → OpLoad b o x
known_load b (arithmetic o) x h e = e
known_load b divide x h e = e
known_load b (compare o) x h e = e
known_load b and x h e = e
known_load b or x h e = e
known_load b includes x h e = e
known_load b oneof x h e = e
known_load b if x h e = e
known_load b negate x h e = e
known_load b isknown x h e = e
known_load b not x h e = e
known_load b count x h e = e
known_load b sum x h e = e
known_load b (extreme m) x h e = e
known_load b nth x h e = e
known_load b (is-in s) x h e = e
known_load b (no_such n) x h e = absurd (h refl)

-- ---- by the place of the name among the rows

pub code_placed : (w : List ℕ) (i n : ℕ)
    → code_from w i n ≡ cond (ltb (place_from name_at w i n) (i + n)) (get_or name_codes (place_from name_at w i n) 0) 250
code_placed w i zero = rw (le-ltb i (i + 0) (omega arith))
code_placed w i (suc n) =
    let e : suc i + n ≡ i + suc n = omega arith in
    ⊎_elim
    (λ (p : sameb (name_at i) w ≡ true). rw (p, lt-ltb i (i + suc n) (omega arith)))
    (λ (p : sameb (name_at i) w ≡ false). rw p (rw e at (code_placed w (suc i) n)))
    (two (sameb (name_at i) w))

-- where the name stands there, and where it does not
pub code_at : (w : List ℕ) (i : ℕ) → i ≡ place_from name_at w 0 13 → i < 13 → get_or name_codes i 0 ≡ code_from w 0 13
code_at w i e h = sym (code_placed w 0 13 ∙ rw (sym e, lt-ltb i 13 h))

pub code_none : (w : List ℕ) (i : ℕ) → i ≡ place_from name_at w 0 13 → 13 ≤ i → 250 ≡ code_from w 0 13
code_none w i e h = sym (code_placed w 0 13 ∙ rw (sym e, le-ltb i 13 h))

pub rows_fit : Rows name_bytes name_lengths 13 16
unfolding name_bytes name_lengths
rows_fit = record {
  sized = leb→le 13 13 tt;
  inside = λ i h. leb→le (i * 16 + get_or name_lengths i 0) 208 (at_below (λ k. leb (k * 16 + get_or name_lengths k 0) 208) 13 tt i h);
}
