-- The level and the number of an operator, by its terminal, and the terminal that a list of tokens begins with.
-- Law: they are those of document 01's list of operators. By one computed test over the list, and one over the terminals.
use Rattle.std.specs.Prelude.{ℕ, zero, suc, ◌+◌, ◌≤◌, ◌<◌, ◌≡◌, refl, Bool, true, false, cond, ◌&&◌, ◌||◌, not, eqb, ltb, get_or, length}
use Rattle.std.proofs.Common.{sym, ap, subst, ◌∙◌, ⊎_elim, not-suc-le-zero, arith, eqb-true, ltb-true, ltb-false, lt-ltb, le-ltb, ne_eqb}
use Rattle.std.proofs.Math.Option.{Option, none, some}
use mathlib.Core.List.{List, [], ◌∷◌, Memᴰ}
use Rattle.std.proofs.lemmas.Bool.{eqb-false, not-true}
use Rattle.paper_expressions.proofs.Laws.Tests.{two, contra, and_l, and_r, every, every_at}
use Rattle.paper_expressions.specs.Operators.{Op}
use Rattle.paper_tokens.specs.Tokens.{“and”, terminals}
use Rattle.paper_tokens.specs.Lexical.{Token}
use Rattle.paper_guideline.specs.Tree.{infixes, Where, anywhere, assigned, MayStand, any_operator, but_and}
use Rattle.paper_tokens.proofs.Laws.TerminalLaws.{terminal_f, terminal_is}
use Rattle.paper_guideline.proofs.Laws.TreeLaws.{infix_f, joins, Ends}
use Rattle.parts.specs.Codes.{code}
use Rattle.leaves.specs.Source.{Source, Stand, at_end, at_token}

-- how tight the operator of terminal k holds; 0 for what is none
abbrev pub level_of : ℕ → ℕ
level_of k =
    cond (eqb k 45 || eqb k 46) 1
    (cond (eqb k 3 || eqb k 4) 2
    (cond (eqb k 32 || (eqb k 33 || (eqb k 43 || (eqb k 81 || (eqb k 84 || (eqb k 85 || (eqb k 86 || (eqb k 87 || (eqb k 88 || (eqb k 89 || eqb k 90)))))))))) 3
    (cond (eqb k 91 || eqb k 92) 5
    (cond (eqb k 93 || eqb k 94) 6 0))))

-- the number of the part that it is
abbrev pub code_of : ℕ → ℕ
code_of k =
    cond (eqb k 45 || eqb k 46) 41
    (cond (eqb k 3 || eqb k 4) 40
    (cond (eqb k 84) 31
    (cond (eqb k 85 || eqb k 86) 33
    (cond (eqb k 87) 30
    (cond (eqb k 88 || eqb k 89) 32
    (cond (eqb k 81) 34
    (cond (eqb k 90) 35
    (cond (eqb k 32 || eqb k 33) 50
    (cond (eqb k 43) 60
    (cond (eqb k 91) 10
    (cond (eqb k 92) 11
    (cond (eqb k 93) 12 20))))))))))))

-- where it stands: 01: "In a postcondition an `and` outside the assigned expression's own brackets ends it."
abbrev pub level_in : Where → ℕ → ℕ
level_in anywhere k = level_of k
level_in assigned k = cond (eqb k 3) 0 (level_of k)

abbrev pub where_of : Bool → Where
where_of false = anywhere
where_of true = assigned

-- the terminal of a token by its index, and that of the first token; 255 where there is none
abbrev pub kind_at : List ℕ → ℕ → ℕ
kind_at ks p = cond (ltb p (length ks)) (get_or ks p 0) 255

abbrev pub kind_of : List Token → ℕ
kind_of [] = 255
kind_of (t ∷ w) = terminal_f t

-- ---- laws

pub record Infix (l k : ℕ) (o : Op) : Type 0 where
  pub level : level_of k ≡ l
  pub number : code_of k ≡ code o
  pub some : 0 < l
  pub few : l < 7
  pub word : k < 95
  pub plain : code o < 250
  pub no_bracket : ltb 75 k && ltb k 80 ≡ false

same_level : every (λ (x : ℕ × ℕ × Op). eqb (level_of x.1) x.0) infixes ≡ true
unfolding infixes
same_level = refl

same_number : every (λ (x : ℕ × ℕ × Op). eqb (code_of x.1) (code x.2)) infixes ≡ true
unfolding infixes
same_number = refl

levels_some : every (λ (x : ℕ × ℕ × Op). ltb 0 x.0) infixes ≡ true
unfolding infixes
levels_some = refl

levels_few : every (λ (x : ℕ × ℕ × Op). ltb x.0 7) infixes ≡ true
unfolding infixes
levels_few = refl

all_words : every (λ (x : ℕ × ℕ × Op). ltb x.1 95) infixes ≡ true
unfolding infixes
all_words = refl

all_plain : every (λ (x : ℕ × ℕ × Op). ltb (code x.2) 250) infixes ≡ true
unfolding infixes
all_plain = refl

no_brackets : every (λ (x : ℕ × ℕ × Op). not (ltb 75 x.1 && ltb x.1 80)) infixes ≡ true
unfolding infixes
no_brackets = refl

pub infix_is : {l k : ℕ} {o : Op} → Memᴰ (l, k, o) infixes → Infix l k o
infix_is {l} {k} {o} m = record {
  level = eqb-true (level_of k) l (every_at (λ (x : ℕ × ℕ × Op). eqb (level_of x.1) x.0) infixes same_level (l, k, o) m);
  number = eqb-true (code_of k) (code o) (every_at (λ (x : ℕ × ℕ × Op). eqb (code_of x.1) (code x.2)) infixes same_number (l, k, o) m);
  some = ltb-true 0 l (every_at (λ (x : ℕ × ℕ × Op). ltb 0 x.0) infixes levels_some (l, k, o) m);
  few = ltb-true l 7 (every_at (λ (x : ℕ × ℕ × Op). ltb x.0 7) infixes levels_few (l, k, o) m);
  word = ltb-true k 95 (every_at (λ (x : ℕ × ℕ × Op). ltb x.1 95) infixes all_words (l, k, o) m);
  plain = ltb-true (code o) 250 (every_at (λ (x : ℕ × ℕ × Op). ltb (code x.2) 250) infixes all_plain (l, k, o) m);
  no_bracket = not-true (ltb 75 k && ltb k 80) (every_at (λ (x : ℕ × ℕ × Op). not (ltb 75 x.1 && ltb x.1 80)) infixes no_brackets (l, k, o) m);
}

pub may_level : {a : Where} {k : ℕ} → MayStand a k → level_in a k ≡ level_of k
may_level any_operator = refl
may_level {k = k} (but_and n) = ap (λ (b : Bool). cond b 0 (level_of k)) (ne_eqb k “and” n)

-- it is no bracket
pub infix_no_bracket : {l k : ℕ} {o : Op} → Memᴰ (l, k, o) infixes → (j : ℕ) → 75 < j → j < 80 → ¬ (k ≡ j)
infix_no_bracket m j a b e =
    let f = rw e at (infix_is m).no_bracket in
    let z = rw (lt-ltb 75 j a, lt-ltb j 80 b) at f in
    contra (sym z)

-- f holds of each number below n
abbrev each_below : ℕ → (ℕ → Bool) → Bool
each_below zero f = true
each_below (suc n) f = f n && each_below n f

below_at : (n : ℕ) (f : ℕ → Bool) → each_below n f ≡ true → (k : ℕ) → k < n → f k ≡ true
below_at zero f h k l = absurd (not-suc-le-zero l)
below_at (suc n) f h k l = ⊎_elim
    (λ (e : eqb k n ≡ true). subst (λ (j : ℕ). f j ≡ true) (sym (eqb-true k n e)) (and_l (f n) (each_below n f) h))
    (λ (e : eqb k n ≡ false). let d = eqb-false k n e in below_at n f (and_r (f n) (each_below n f) h) k (omega arith))
    (two (eqb k n))

abbrev level : Option (ℕ × Op) → ℕ
level none = 0
level (some x) = x.0

right_levels : each_below terminals (λ k. eqb (level_of k) (level (infix_f k))) ≡ true
unfolding infix_f
right_levels = refl

-- a number that is no terminal has no level
pub out_level : (k : ℕ) → terminals ≤ k → level_of k ≡ 0
out_level k h =
    let ne : (j : ℕ) → j < terminals → eqb k j ≡ false = λ j g. ne_eqb k j (λ e. omega arith) in
    rw (
      ne 45 (omega arith),
      ne 46 (omega arith),
      ne 3 (omega arith),
      ne 4 (omega arith),
      ne 32 (omega arith),
      ne 33 (omega arith),
      ne 43 (omega arith),
      ne 81 (omega arith),
      ne 84 (omega arith),
      ne 85 (omega arith),
      ne 86 (omega arith),
      ne 87 (omega arith),
      ne 88 (omega arith),
      ne 89 (omega arith),
      ne 90 (omega arith),
      ne 91 (omega arith),
      ne 92 (omega arith),
      ne 93 (omega arith),
      ne 94 (omega arith),
    )

no_level : (k : ℕ) → infix_f k ≡ none → level_of k ≡ 0
no_level k h = ⊎_elim
    (λ (e : ltb k terminals ≡ true).
    eqb-true (level_of k) (level (infix_f k)) (below_at terminals (λ k. eqb (level_of k) (level (infix_f k))) right_levels k (ltb-true k terminals e)) ∙ ap level h)
    (λ (e : ltb k terminals ≡ false). out_level k (ltb-false k terminals e))
    (two (ltb k terminals))

ends_level : (a : Where) (k : ℕ) → joins a k ≡ none → level_in a k ≡ 0
ends_level anywhere k h = no_level k h
ends_level assigned k h = ⊎_elim
    (λ (e : eqb k 3 ≡ true). ap (λ (b : Bool). cond b 0 (level_of k)) e)
    (λ (e : eqb k 3 ≡ false). ap (λ (b : Bool). cond b 0 (level_of k)) e ∙ no_level k (rw e at h))
    (two (eqb k 3))

-- what ends an expression is no operator and opens no bracket
pub list_ends : (a : Where) (w : List Token) → Ends a w → level_in a (kind_of w) ≡ 0
list_ends anywhere [] h = refl
list_ends assigned [] h = refl
list_ends a (t ∷ w) h = ends_level a (terminal_f t) h.no_operator

pub list_no_call : (a : Where) (w : List Token) → Ends a w → eqb (kind_of w) 76 ≡ false
list_no_call a [] h = refl
list_no_call a (t ∷ w) h = h.no_call

-- ---- the tokens of the columns

pub stand_kind : {c : Source} {i : ℕ} {w : List Token} → Stand c i w → kind_at c.kinds i ≡ kind_of w
stand_kind {c} {i} (at_end e) = rw (le-ltb i (length c.kinds) (omega arith))
stand_kind {c} {i} (at_token h s) = rw (lt-ltb i (length c.kinds) h.inside) (sym (terminal_is h.terminal))

pub stand_length : {c : Source} {i : ℕ} {w : List Token} → Stand c i w → i + length w ≡ length c.kinds
stand_length (at_end e) = omega arith
stand_length (at_token h s) = let g = stand_length s in omega arith

pub kind_inside : (ks : List ℕ) (p : ℕ) → kind_at ks p < 255 → p < length ks
kind_inside ks p h = ⊎_elim
    (λ (e : ltb p (length ks) ≡ true). ltb-true p (length ks) e)
    (λ (e : ltb p (length ks) ≡ false). let g = rw e at h in absurd (omega arith))
    (two (ltb p (length ks)))

-- ---- where an expression stands

pub level_and : (b : Bool) (k : ℕ) → k ≡ 3 → b ≡ true → level_in (where_of b) k ≡ 0
level_and b k h e = rw (e, h)

pub level_other : (b : Bool) (k : ℕ) → ¬ (k ≡ 3) → level_in (where_of b) k ≡ level_of k
level_other true k h = ap (λ (c : Bool). cond c 0 (level_of k)) (ne_eqb k 3 h)
level_other false k h = refl

pub level_any : (b : Bool) (k : ℕ) → b ≡ false → level_in (where_of b) k ≡ level_of k
level_any b k e = rw e
