-- The test whether one token names something left out, as it is made: by tables of the words and of the functors, and by the letter of an exponent.
-- Law: the test decides LeftOut. By computed tests that the tables are the definition's lists.
use Rattle.std.specs.Prelude.{ℕ, zero, suc, ◌+◌, ◌*◌, ◌≤◌, ◌≡◌, refl, Bool, true, false, cond, ◌&&◌, ◌||◌, ◌⊎◌, eqb, leb, ltb, get_or}
use Prim.Native.String.{String}
use Rattle.std.proofs.Common.{sym, ap, subst, ◌∙◌, inl, inr, ⊎_elim, add-one, arith, leb→le, eqb-true, eq-eqb, ne_eqb, le-leb, lt-ltb, le-ltb, ltb-true}
use mathlib.Core.List.Memᴰ
use mathlib.Core.List.{List, [], ◌∷◌, map, Memᴰ}
use Rattle.std.proofs.Math.ListN.{get_or-eq_default}
use Rattle.paper_expressions.proofs.Laws.Tests.{contra, two, and_l, and_r, every, every_at}
use Rattle.paper_expressions.specs.Bytes.{bytes}
use Rattle.paper_expressions.proofs.Laws.Search.{sameb, same_reflects, Reflects, of_yes, of_no, reflects_true, true_reflects}
use Rattle.paper_tokens.specs.Tokens.{“open”, ‘data-type’, ‘float’, reserved_count}
use Rattle.paper_grammar.proofs.Laws.Ll.{is_in}
use Rattle.paper_guideline.proofs.Laws.StructureLaws.{in_list}
use Rattle.paper_tokens.specs.Lexical.{Rule, atom, Matches, Token, inner, HasExponent}
use Rattle.paper_tokens.specs.Terminals.{OneOf, name, Terminal, a_reserved_word, yes_no, a_data_type, another_atom, an_integer, a_float, a_string}
use Rattle.paper_tokens.proofs.Laws.TerminalLaws.{one_terminal, reserved_below}
use Rattle.paper_guideline.specs.LeftOut.{left_out_words, left_out_functors, LeftOut, left_out_word, left_out_functor, left_out_exponent, further_on}
use Rattle.terminals.specs.Every.{at_below}
use Rattle.leaves.specs.Places.{entry, Rows, place_from}
use Rattle.leaves.specs.Leaf.{atom_range}
use Rattle.leaves.specs.Source.{Source, Here, Stand, at_end, at_token}
use Rattle.token_tests.specs.Exponent.{has_exponent, plain_none, none_plain}
use Rattle.token_tests.specs.Walk.{Stands, of_token, of_bytes, Decides}

-- ---- the words

is_word : (k : ℕ) → is_in k left_out_words ≡ true → Memᴰ k left_out_words
is_word k h = in_list left_out_words k h

all_words : every (λ k. ltb k reserved_count && is_in k left_out_words) left_out_words ≡ true
unfolding left_out_words
all_words = refl

word_is : (k : ℕ) → Memᴰ k left_out_words → (ltb k reserved_count && is_in k left_out_words) ≡ true
word_is k m = every_at (λ k. ltb k reserved_count && is_in k left_out_words) left_out_words all_words k m

-- ---- the functors

unfoldable pub name_bytes : List ℕ
name_bytes =
    bytes "in_progress_timediscarded_time  completed_time  union           diff            intersect       abs             exp             ln              sin             cos             tan             asin            acos            atan            random          "

unfoldable pub name_lengths : List ℕ
name_lengths = 16 ∷ 14 ∷ 14 ∷ 5 ∷ 4 ∷ 9 ∷ 3 ∷ 3 ∷ 2 ∷ 3 ∷ 3 ∷ 3 ∷ 4 ∷ 4 ∷ 4 ∷ 6 ∷ []

abbrev pub name_at : ℕ → List ℕ
name_at i = entry name_bytes name_lengths 16 i

-- w is the name in one of the n rows from i on
abbrev pub named_from : List ℕ → ℕ → ℕ → Bool
named_from w i zero = false
named_from w i (suc n) = sameb (name_at i) w || named_from w (suc i) n

abbrev rows : ℕ → ℕ → List (List ℕ)
rows i zero = []
rows i (suc n) = name_at i ∷ rows (suc i) n

same_rows : map bytes left_out_functors ≡ rows 0 16
unfolding name_bytes name_lengths left_out_functors
same_rows = refl

abbrev among : List ℕ → List (List ℕ) → Bool
among w [] = false
among w (x ∷ l) = sameb x w || among w l

by_rows : (w : List ℕ) (n i : ℕ) → among w (rows i n) ≡ named_from w i n
by_rows w zero i = refl
by_rows w (suc n) i = ap (λ (b : Bool). sameb (name_at i) w || b) (by_rows w n (suc i))

among_reflects : (w : List ℕ) (l : List String) → Reflects (OneOf w l) (among w (map bytes l))
among_reflects w [] = of_no (λ o. Memᴰ.not-nil o.listed)
among_reflects w (s ∷ l) = go (sameb (bytes s) w) (among w (map bytes l)) (same_reflects (bytes s) w) (among_reflects w l)
  where
    go : (a b : Bool) → Reflects (bytes s ≡ w) a → Reflects (OneOf w l) b → Reflects (OneOf w (s ∷ l)) (a || b)
    go a b (of_yes e) r = of_yes (record { string = s; listed = Memᴰ.head refl; same = sym e })
    go a b (of_no n) (of_yes o) = of_yes (record { string = o.string; listed = Memᴰ.tail o.listed; same = o.same })
    go a b (of_no n) (of_no m) = of_no (λ o. ⊎_elim
        (λ (e : o.string ≡ s). n (ap bytes (sym e) ∙ sym o.same))
        (λ (h : Memᴰ o.string l). m (record { string = o.string; listed = h; same = o.same }))
        (Memᴰ.cases_cons o.listed))

named_reflects : (w : List ℕ) → Reflects (OneOf w left_out_functors) (named_from w 0 16)
named_reflects w = subst (Reflects (OneOf w left_out_functors)) (ap (among w) same_rows ∙ by_rows w 16 0) (among_reflects w left_out_functors)

-- ---- by the place of the name among the rows

pub named_placed : (w : List ℕ) (i n : ℕ) → named_from w i n ≡ ltb (place_from name_at w i n) (i + n)
named_placed w i zero = sym (le-ltb i (i + 0) (omega arith))
named_placed w i (suc n) =
    let e : suc i + n ≡ i + suc n = omega arith in
    ⊎_elim
    (λ (p : sameb (name_at i) w ≡ true). rw (p, lt-ltb i (i + suc n) (omega arith)))
    (λ (p : sameb (name_at i) w ≡ false). rw p (rw e at (named_placed w (suc i) n)))
    (two (sameb (name_at i) w))

pub rows_fit : Rows name_bytes name_lengths 16 16
unfolding name_bytes name_lengths
rows_fit = record {
  sized = leb→le 16 16 tt;
  inside = λ i h. leb→le (i * 16 + get_or name_lengths i 0) 256 (at_below (λ k. leb (k * 16 + get_or name_lengths k 0) 256) 16 tt i h);
}

-- ---- one token

-- a token of terminal k and these bytes, with the terminal next behind it
abbrev pub left_out_test : ℕ → ℕ → List ℕ → Bool
left_out_test k next w =
    cond (eqb k ‘float’) (has_exponent w)
    (cond (ltb k reserved_count) (is_in k left_out_words)
    (cond (leb k ‘data-type’) (cond (eqb next “open”) (named_from (inner w) 0 16) false) false))

-- the token i of the columns
abbrev pub left_out_at : Source → ℕ → Bool
left_out_at c i = of_token c i (left_out_test (get_or c.kinds i 0) (get_or c.kinds (i + 1) 0))

-- the tokens begin with an opening parenthesis
data Opens : List Token → Type 0 where
  opens : {o : Token} {ts : List Token} → Terminal o “open” → Opens (o ∷ ts)

next_opens : {c : Source} {i : ℕ} {ts : List Token} → Stand c i ts → get_or c.kinds i 0 ≡ “open” → Opens ts
next_opens {c} {i} (at_end e) h = let z : get_or c.kinds i 0 ≡ 0 = get_or-eq_default c.kinds 0 (omega arith) in absurd (omega arith)
next_opens (at_token {t = t} g s) h = opens (subst (Terminal t) h g.terminal)

opens_next : {c : Source} {i : ℕ} {o : Token} {ts : List Token} → Stand c i (o ∷ ts) → Terminal o “open” → get_or c.kinds i 0 ≡ “open”
opens_next (at_token g s) h = one_terminal g.terminal h

named_functor : {t : Token} {ts : List Token} (next : ℕ) → t.rule ≡ atom → (next ≡ “open” → Opens ts)
    → cond (eqb next “open”) (named_from (name t) 0 16) false ≡ true → LeftOut (t ∷ ts) t.place
named_functor {t} {ts} next r o h = ⊎_elim
    (λ (e : eqb next “open” ≡ true). go (o (eqb-true next “open” e)) (true_reflects (named_reflects (name t)) (rw e at h)))
    (λ (e : eqb next “open” ≡ false). contra (rw e at h))
    (two (eqb next “open”))
  where
    go : {ts : List Token} → Opens ts → OneOf (name t) left_out_functors → LeftOut (t ∷ ts) t.place
    go (opens x) n = left_out_functor r n x

told : {t : Token} {ts : List Token} {k : ℕ} (next : ℕ) → Terminal t k → (next ≡ “open” → Opens ts)
    → left_out_test k next t.bytes ≡ true → LeftOut (t ∷ ts) t.place
told {k = k} next (a_reserved_word e r) o h =
    let b = reserved_below r in
    left_out_word (a_reserved_word e r) (is_word k (rw (ne_eqb k ‘float’ (λ z. omega arith), lt-ltb k reserved_count b) at h))
told next (yes_no e x) o h = named_functor next e o h
told next (a_data_type e x) o h = named_functor next e o h
told next (another_atom e n m) o h = named_functor next e o h
told next (an_integer e) o h = contra h
told {t} next (a_float e) o h = left_out_exponent (e, λ m. contra (sym (plain_none t.bytes m) ∙ h))
told next (a_string e) o h = contra h

tells_word : (k next : ℕ) (w : List ℕ) → Memᴰ k left_out_words → left_out_test k next w ≡ true
tells_word k next w m =
    let h = word_is k m in
    let b = and_l (ltb k reserved_count) (is_in k left_out_words) h in
    let l = ltb-true k reserved_count b in
    rw (ne_eqb k ‘float’ (λ z. omega arith), b) (and_r (ltb k reserved_count) (is_in k left_out_words) h)

tells_functor : (k next : ℕ) (w : List ℕ) → 95 ≤ k → k ≤ 97 → next ≡ “open” → OneOf (inner w) left_out_functors → left_out_test k next w ≡ true
tells_functor k next w l u e o =
    rw (ne_eqb k ‘float’ (λ z. omega arith), le-ltb k reserved_count l, le-leb k ‘data-type’ u, eq-eqb next “open” e)
    (reflects_true (named_reflects (inner w)) o)

tells_exponent : (t : Token) → Matches t.rule t.bytes → HasExponent t → has_exponent t.bytes ≡ true
unfolding Matches
tells_exponent t m x = ⊎_elim
    (λ (e : has_exponent t.bytes ≡ true). e)
    (λ (e : has_exponent t.bytes ≡ false). absurd (x.1 (none_plain t.bytes (subst (λ (r : Rule). Matches r t.bytes) x.0 m) e)))
    (two (has_exponent t.bytes))

module _ (c : Source) (i : ℕ) where
  abbrev test : Token → Bool
  test t = left_out_test (get_or c.kinds i 0) (get_or c.kinds (i + 1) 0) t.bytes

  test_is : {t : Token} → Here c i t → left_out_at c i ≡ test t
  test_is h = of_bytes c i (left_out_test (get_or c.kinds i 0) (get_or c.kinds (i + 1) 0)) h

  passes : {t : Token} {ts : List Token} {q : ℕ} → Stands c i t ts → test t ≡ false → LeftOut (t ∷ ts) q → LeftOut ts q
  passes {t} s h (left_out_word {k = k} x m) =
      let e = one_terminal s.here.terminal x in
      contra (sym h ∙ tells_word (get_or c.kinds i 0) (get_or c.kinds (i + 1) 0) t.bytes (subst (λ (j : ℕ). Memᴰ j left_out_words) (sym e) m))
  passes {t} s h (left_out_functor r o x) =
      let g = atom_range r s.here.terminal in
      let n = ap (λ (j : ℕ). get_or c.kinds j 0) (add-one i) ∙ opens_next s.behind x in
      contra (sym h ∙ tells_functor (get_or c.kinds i 0) (get_or c.kinds (i + 1) 0) t.bytes g.0 g.1 n o)
  passes {t} s h (left_out_exponent x) =
      let e = one_terminal s.here.terminal (a_float x.0) in
      contra (sym h ∙ rw (eq-eqb (get_or c.kinds i 0) ‘float’ e) (tells_exponent t s.matches x))
  passes s h (further_on g) = g

there : {t : Token} {ts : List Token} {q : ℕ} → LeftOut (t ∷ ts) q → (q ≡ t.place) ⊎ LeftOut ts q
there (left_out_word x m) = inl refl
there (left_out_functor r o x) = inl refl
there (left_out_exponent x) = inl refl
there (further_on g) = inr g

pub decides : Decides LeftOut left_out_at
decides = record {
  none = λ h. elim h [ ];
  there = there;
  on = further_on;
  yes = λ {c} {i} s h. told (get_or c.kinds (i + 1) 0) s.here.terminal
      (λ e. next_opens s.behind (ap (λ (j : ℕ). get_or c.kinds j 0) (sym (add-one i)) ∙ e)) (sym (test_is c i s.here) ∙ h);
  no = λ {c} {i} s h. passes c i s (sym (test_is c i s.here) ∙ h);
}
