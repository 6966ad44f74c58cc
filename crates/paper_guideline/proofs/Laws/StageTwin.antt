-- What breaks each stage but the second and the third, computed as lists of places over a text's tokens and its structure, and tied both ways to Breach: `text-places`, `count-places`, `left-out-places`, `limit-places`; those of names and types are NameTwin's and FittingTwin's.
use Rattle.std.specs.Prelude.{ℕ, suc, ◌+◌, ◌-◌, ◌≤◌, ◌<◌, ◌≡◌, refl, Bool, true, false, ◌&&◌, ◌||◌, not, ◌⊎◌, eqb, leb, ltb, nat_abs, length}
use Prim.Native.String.{String}
use Rattle.std.proofs.Common.{arith, sym, ap, subst, ◌∙◌, inl, inr, ⊎_elim, eqb-true, leb-true, ltb-true, lt-ltb, le-leb}
use mathlib.Core.List.{List, [], ◌∷◌, ◌++◌, map, Memᴰ}
use Rattle.std.proofs.lemmas.Bool.{eqb-false}
use Rattle.paper_expressions.specs.Limits.{integer_limit, real_limit, list_limit}
use Rattle.paper_expressions.specs.Limits as Values
use Rattle.paper_expressions.specs.View.{At, at_first, at_later}
use Rattle.paper_expressions.proofs.Laws.Tests.{contra, and_l, and_r, both, or_cases, or_l, or_r}
use Rattle.paper_expressions.proofs.Laws.Search.{Reflects, of_yes, of_no, true_reflects, reflects_true, reflects_false, reflects_not, reflects_iff, less_reflects}
use Rattle.paper_tokens.specs.Tokens.{“open”, “close”, “[”, “]”}
use Rattle.paper_tokens.specs.Forms.{Match}
use Rattle.paper_tokens.specs.Lexical
use Lexical.{Rule, atom, integer, float, double_quoted_string, order, plain_float, Token, Tokens, HasExponent}
use Rattle.paper_tokens.specs.Terminals.{OneOf, Terminal, Terminals, next, name}
use Rattle.paper_tokens.specs.Terminals
use Rattle.paper_tokens.specs.Literals.{whole, thousandths, behind_point}
use Rattle.paper_tokens.proofs.Laws.FormsLaws.{match_f, match_law}
use Rattle.paper_tokens.proofs.Laws.LexicalLaws.{one_list, same_order}
use Rattle.paper_tokens.proofs.Laws.TerminalLaws.{one_of, one_of_is, is_one_of, terminal_f, terminal_is, have_terminals}
use Rattle.paper_grammar.proofs.Laws.Ll.{is_in}
use Rattle.paper_guideline.specs.LeftOut.{left_out_words, left_out_functors, LeftOut, left_out_word, left_out_functor, left_out_exponent, further_on}
use Rattle.paper_guideline.specs.Structure.{TopLevel, Structure, tasks, data_items}
use Rattle.paper_guideline.specs.Parts.{Typed, expressions, assignments, sources}
use Rattle.paper_guideline.specs.Limits
use Limits.{guideline_limit, token_limit, bracket_limit, task_limit, data_item_limit, part_limit, depth_limit, assignment_limit, source_limit, decimal_limit, depth, longest_list}
use Rattle.paper_guideline.specs.Refusals
use Refusals.{text_stage, count_stage, limit_stage, Opening, opens_round, opens_square, Closing, closes_round, closes_square, TooManyOpen, one_too_many, one_more_open, one_fewer_open, as_many_open}
use Refusals.{TokenBreach, long_name, long_text, large_integer, large_real, long_fraction, total_parts, Read, Breach, high_byte, long, many_tokens, many_open, token_breach, too_deep, long_list}
use Refusals.{many_tasks, many_data_items, many_parts, many_assignments, many_sources, short_table}
use Rattle.paper_guideline.proofs.Laws.StructureLaws.{one_structure}
use Rattle.paper_guideline.proofs.Laws.Places
use Places.{put, put_here, put_on, put_out, put_only, chosen, chosen_in, chosen_out}

either : {P Q : Type 0} {a b : Bool} → Reflects P a → Reflects Q b → Reflects (P ⊎ Q) (a || b)
either (of_yes p) r = of_yes (inl p)
either (of_no n) (of_yes q) = of_yes (inr q)
either {P} {Q} (of_no n) (of_no m) = of_no neither
  where
    neither : P ⊎ Q → ⊥
    neither (inl p) = n p
    neither (inr q) = m q

together : {P Q : Type 0} {a b : Bool} → Reflects P a → Reflects Q b → Reflects (P × Q) (a && b)
together (of_yes p) (of_yes q) = of_yes (p, q)
together (of_yes p) (of_no m) = of_no (λ x. m x.1)
together (of_no n) r = of_no (λ x. n x.0)

number_reflects : (k j : ℕ) → Reflects (k ≡ j) (eqb k j)
number_reflects k j = go (eqb k j) refl
  where
    go : (b : Bool) → eqb k j ≡ b → Reflects (k ≡ j) b
    go true e = of_yes (eqb-true k j e)
    go false e = of_no (eqb-false k j e)

most_reflects : (k j : ℕ) → Reflects (k ≤ j) (leb k j)
most_reflects k j = go (leb k j) refl
  where
    go : (b : Bool) → leb k j ≡ b → Reflects (k ≤ j) b
    go true e = of_yes (leb-true k j e)
    go false e = of_no (λ h. contra (sym e ∙ le-leb k j h))

pub in_reflects : (k : ℕ) (ks : List ℕ) → Reflects (Memᴰ k ks) (is_in k ks)
in_reflects k [] = of_no (λ m. mathlib.Core.List.Memᴰ.not-nil m)
in_reflects k (j ∷ ks) = reflects_iff to back (either (number_reflects k j) (in_reflects k ks))
  where
    to : (k ≡ j) ⊎ Memᴰ k ks → Memᴰ k (j ∷ ks)
    to (inl e) = mathlib.Core.List.Memᴰ.head e
    to (inr m) = mathlib.Core.List.Memᴰ.tail m

    back : Memᴰ k (j ∷ ks) → (k ≡ j) ⊎ Memᴰ k ks
    back m = mathlib.Core.List.Memᴰ.cases_cons m

-- ---- 1: a byte over 127, and a text that is too long

abbrev pub high_places : ℕ → List ℕ → List ℕ
high_places p [] = []
high_places p (b ∷ l) = put (ltb 127 b) p (high_places (suc p) l)

abbrev pub text_places : List ℕ → List ℕ
text_places text = put (ltb guideline_limit (length text)) (length text) (high_places 0 text)

high_in : {l : List ℕ} {i b : ℕ} (p : ℕ) → At l i b → 127 < b → Memᴰ (p + i) (high_places p l)
high_in p (at_first {x = b} {l}) h = let e : p + 0 ≡ p = omega arith in subst (λ (q : ℕ). Memᴰ q (put (ltb 127 b) p (high_places (suc p) l))) (sym e) (put_here (ltb 127 b) p (high_places (suc p) l) (lt-ltb 127 b h))
high_in p (at_later {y} {l} {i} k) h = let e : suc p + i ≡ p + suc i = omega arith in subst (λ (q : ℕ). Memᴰ q (put (ltb 127 y) p (high_places (suc p) l))) e (put_on (ltb 127 y) p (high_in (suc p) k h))

record High (l : List ℕ) (p q : ℕ) : Type 0 where
  pub i : ℕ
  pub b : ℕ
  pub at : At l i b
  pub high : 127 < b
  pub there : q ≡ p + i

high_out : {q : ℕ} (p : ℕ) (l : List ℕ) → Memᴰ q (high_places p l) → High l p q
high_out p [] m = absurd (mathlib.Core.List.Memᴰ.not-nil m)
high_out {q} p (b ∷ l) m = ⊎_elim
    (λ (h : (ltb 127 b ≡ true) × (q ≡ p)). record { i = 0; b = b; at = at_first; high = ltb-true 127 b h.0; there = (let e = h.1 in omega arith) })
    (λ (n : Memᴰ q (high_places (suc p) l)). let c = high_out (suc p) l n in record { i = suc c.i; b = c.b; at = at_later c.at; high = c.high; there = (let e = c.there in omega arith) })
    (put_out (ltb 127 b) m)

module _ {Short : Type 0} (text : List ℕ) where
  pub text_in : {p : ℕ} → Breach Short text text_stage p → Memᴰ p (text_places text)
  text_in (high_byte {p} h k) = put_on (ltb guideline_limit (length text)) (length text) (subst (λ (q : ℕ). Memᴰ q (high_places 0 text)) (let e : 0 + p ≡ p = omega arith in e) (high_in 0 h k))
  text_in (long h) = put_here (ltb guideline_limit (length text)) (length text) (high_places 0 text) (lt-ltb guideline_limit (length text) h)

  pub text_if : {p : ℕ} → Memᴰ p (text_places text) → Breach Short text text_stage p
  text_if {p} m = ⊎_elim
      (λ (h : (ltb guideline_limit (length text) ≡ true) × (p ≡ length text)). subst (Breach Short text text_stage) (sym h.1) (long (ltb-true guideline_limit (length text) h.0)))
      (λ (n : Memᴰ p (high_places 0 text)). let c = high_out 0 text n in high_byte (subst (λ (i : ℕ). At text i c.b) (let e = c.there in let f : c.i ≡ p = omega arith in f) c.at) c.high)
      (put_out (ltb guideline_limit (length text)) m)

-- ---- 6: tokens and open brackets

abbrev pub opens : Token → Bool
opens t = eqb (terminal_f t) “open” || eqb (terminal_f t) “[”

abbrev pub closes : Token → Bool
closes t = eqb (terminal_f t) “close” || eqb (terminal_f t) “]”

-- how many are open behind a token, by whether it opens or closes one
abbrev pub level : Bool → Bool → ℕ → ℕ
level true b n = n + 1
level false true n = n - 1
level false false n = n

-- with n brackets open before these tokens
abbrev pub open_places : ℕ → List Token → List ℕ
open_places n [] = []
open_places n (t ∷ ts) = put (opens t && leb bracket_limit n) t.place (open_places (level (opens t) (closes t) n) ts)

abbrev pub count_places : List ℕ → List Token → List ℕ
count_places text ts = put (ltb token_limit (length ts)) (length text) (open_places 0 ts)

is_terminal : {t : Token} → Terminal t (terminal_f t) → (k : ℕ) → Reflects (Terminal t k) (eqb (terminal_f t) k)
is_terminal {t} h k = reflects_iff (λ e. subst (Terminal t) e h) (λ g. terminal_is g) (number_reflects (terminal_f t) k)

pub opens_reflects : {t : Token} → Terminal t (terminal_f t) → Reflects (Opening t) (opens t)
opens_reflects {t} h = reflects_iff to back (either (is_terminal h “open”) (is_terminal h “[”))
  where
    to : Terminal t “open” ⊎ Terminal t “[” → Opening t
    to (inl g) = opens_round g
    to (inr g) = opens_square g

    back : Opening t → Terminal t “open” ⊎ Terminal t “[”
    back (opens_round g) = inl g
    back (opens_square g) = inr g

pub closes_reflects : {t : Token} → Terminal t (terminal_f t) → Reflects (Closing t) (closes t)
closes_reflects {t} h = reflects_iff to back (either (is_terminal h “close”) (is_terminal h “]”))
  where
    to : Terminal t “close” ⊎ Terminal t “]” → Closing t
    to (inl g) = closes_round g
    to (inr g) = closes_square g

    back : Closing t → Terminal t “close” ⊎ Terminal t “]”
    back (closes_round g) = inl g
    back (closes_square g) = inr g

not_opens : {t : Token} → Closing t → opens t ≡ false
not_opens {t} (closes_round h) = rw (terminal_is h)
not_opens {t} (closes_square h) = rw (terminal_is h)

-- every token has a terminal, as those of a text have
abbrev Termed : List Token → Type 0
Termed ts = Terminals ts (map terminal_f ts)

first_termed : {t : Token} {ts : List Token} → Termed (t ∷ ts) → Terminal t (terminal_f t)
first_termed (next h hs) = h

rest_termed : {t : Token} {ts : List Token} → Termed (t ∷ ts) → Termed ts
rest_termed (next h hs) = hs

-- one token: it opens one too many, or the place is behind it
data Further (p : ℕ) (t : Token) (ts : List Token) (n : ℕ) : Bool → Bool → Type 0 where
  too_many : {a b : Bool} → a ≡ true → bracket_limit ≤ n → p ≡ t.place → Further p t ts n a b
  behind : {a b : Bool} → Memᴰ p (open_places (level a b n) ts) → Further p t ts n a b

further_in : {p : ℕ} {a b : Bool} (t : Token) (ts : List Token) (n : ℕ) → opens t ≡ a → closes t ≡ b → Further p t ts n a b → Memᴰ p (open_places n (t ∷ ts))
further_in t ts n e f (too_many q h k) =
    subst (λ (x : ℕ). Memᴰ x (open_places n (t ∷ ts))) (sym k)
    (put_here (opens t && leb bracket_limit n) t.place (open_places (level (opens t) (closes t) n) ts) (both (opens t) (leb bracket_limit n) (e ∙ q) (le-leb bracket_limit n h)))
further_in {p} {a} t ts n e f (behind m) =
    put_on (opens t && leb bracket_limit n) t.place
    (subst (λ (c : Bool). Memᴰ p (open_places (level c (closes t) n) ts)) (sym e) (subst (λ (d : Bool). Memᴰ p (open_places (level a d n) ts)) (sym f) m))

further_out : {p : ℕ} (t : Token) (ts : List Token) (n : ℕ) → Memᴰ p (open_places n (t ∷ ts)) → Further p t ts n (opens t) (closes t)
further_out {p} t ts n m = ⊎_elim
    (λ (h : (opens t && leb bracket_limit n ≡ true) × (p ≡ t.place)). too_many (and_l (opens t) (leb bracket_limit n) h.0) (leb-true bracket_limit n (and_r (opens t) (leb bracket_limit n) h.0)) h.1)
    (λ (h : Memᴰ p (open_places (level (opens t) (closes t) n) ts)). behind h)
    (put_out (opens t && leb bracket_limit n) m)

open_in : {n p : ℕ} {ts : List Token} → TooManyOpen n ts p → Termed ts → Memᴰ p (open_places n ts)
open_in (one_too_many {n} {t} {ts} o h) f = further_in t ts n (reflects_true (opens_reflects (first_termed f)) o) refl (too_many refl h refl)
open_in (one_more_open {n} {t} {ts} o h) f = further_in t ts n (reflects_true (opens_reflects (first_termed f)) o) refl (behind (open_in h (rest_termed f)))
open_in (one_fewer_open {n} {t} {ts} c h) f = further_in t ts n (not_opens c) (reflects_true (closes_reflects (first_termed f)) c) (behind (open_in h (rest_termed f)))
open_in (as_many_open {n} {t} {ts} o c h) f =
    further_in t ts n (reflects_false (opens_reflects (first_termed f)) o) (reflects_false (closes_reflects (first_termed f)) c) (behind (open_in h (rest_termed f)))

open_step : {p : ℕ} (n : ℕ) (t : Token) (ts : List Token) {a b : Bool} → Reflects (Opening t) a → Reflects (Closing t) b
    → ((m : ℕ) → Memᴰ p (open_places m ts) → TooManyOpen m ts p) → Further p t ts n a b → TooManyOpen n (t ∷ ts) p
open_step n t ts (of_yes o) r on (too_many e h k) = subst (TooManyOpen n (t ∷ ts)) (sym k) (one_too_many o h)
open_step n t ts (of_no o) r on (too_many e h k) = contra e
open_step n t ts (of_yes o) r on (behind m) = one_more_open o (on (n + 1) m)
open_step n t ts (of_no o) (of_yes c) on (behind m) = one_fewer_open c (on (n - 1) m)
open_step n t ts (of_no o) (of_no c) on (behind m) = as_many_open o c (on n m)

open_out : {p : ℕ} (n : ℕ) (ts : List Token) → Termed ts → Memᴰ p (open_places n ts) → TooManyOpen n ts p
open_out n [] f m = absurd (mathlib.Core.List.Memᴰ.not-nil m)
open_out n (t ∷ ts) f m =
    open_step n t ts (opens_reflects (first_termed f)) (closes_reflects (first_termed f)) (λ k h. open_out k ts (rest_termed f) h) (further_out t ts n m)

module _ {Short : Type 0} {text : List ℕ} {ts : List Token} (its : Tokens text 0 ts) where
  pub count_in : {p : ℕ} → Breach Short text count_stage p → Memᴰ p (count_places text ts)
  count_in (many_tokens t h) =
      let e = ap length (one_list t its) in
      put_here (ltb token_limit (length ts)) (length text) (open_places 0 ts) (lt-ltb token_limit (length ts) (let k : token_limit < length ts = omega arith in k))
  count_in (many_open {p} t h) =
      put_on (ltb token_limit (length ts)) (length text) (open_in (subst (λ (us : List Token). TooManyOpen 0 us p) (one_list t its) h) (have_terminals its))

  pub count_if : {p : ℕ} → Memᴰ p (count_places text ts) → Breach Short text count_stage p
  count_if {p} m = ⊎_elim
      (λ (h : (ltb token_limit (length ts) ≡ true) × (p ≡ length text)). subst (Breach Short text count_stage) (sym h.1) (many_tokens its (ltb-true token_limit (length ts) h.0)))
      (λ (n : Memᴰ p (open_places 0 ts)). many_open its (open_out 0 ts (have_terminals its) n))
      (put_out (ltb token_limit (length ts)) m)

-- ---- 10: what is left out

abbrev pub is_rule : Rule → Token → Bool
is_rule r t = eqb (order t.rule) (order r)

rule_reflects : (r : Rule) (t : Token) → Reflects (t.rule ≡ r) (is_rule r t)
rule_reflects r t = reflects_iff same_order (ap order) (number_reflects (order t.rule) (order r))

one_of_reflects : (w : List ℕ) (l : List String) → Reflects (OneOf w l) (one_of w l)
one_of_reflects w l = go (one_of w l) refl
  where
    go : (b : Bool) → one_of w l ≡ b → Reflects (OneOf w l) b
    go true e = of_yes (one_of_is w l e)
    go false e = of_no (λ o. contra (sym e ∙ is_one_of o.listed o.same))

abbrev pub word_out : Token → Bool
word_out t = is_in (terminal_f t) left_out_words

-- an atom before an opening parenthesis, by the tokens behind it
abbrev pub functor_out : Token → List Token → Bool
functor_out t [] = false
functor_out t (o ∷ ts) = is_rule atom t && (one_of (name t) left_out_functors && eqb (terminal_f o) “open”)

abbrev pub exponent_out : Token → Bool
exponent_out t = is_rule float t && not (match_f plain_float t.bytes)

abbrev pub left_out_places : List Token → List ℕ
left_out_places [] = []
left_out_places (t ∷ ts) = put (word_out t || (functor_out t ts || exponent_out t)) t.place (left_out_places ts)

-- the first of these tokens names something that is left out
data OutHere (t : Token) (ts : List Token) : Type 0 where
  word : {k : ℕ} → Terminal t k → Memᴰ k left_out_words → OutHere t ts
  functor : {o : Token} {us : List Token} → ts ≡ o ∷ us → t.rule ≡ atom → OneOf (name t) left_out_functors → Terminal o “open” → OutHere t ts
  exponent : HasExponent t → OutHere t ts

plain_reflects : (w : List ℕ) → Reflects (Match plain_float w) (match_f plain_float w)
plain_reflects w = go (match_f plain_float w) refl
  where
    go : (b : Bool) → match_f plain_float w ≡ b → Reflects (Match plain_float w) b
    go true e = of_yes ((match_law plain_float w).1 e)
    go false e = of_no (λ m. contra (sym e ∙ (match_law plain_float w).0 m))

here_reflects : (t : Token) (ts : List Token) → Termed (t ∷ ts) → Reflects (OutHere t ts) (word_out t || (functor_out t ts || exponent_out t))
here_reflects t ts f = reflects_iff to back (either words (either (functors ts (rest_termed f)) exponents))
  where
    Word : Type 0
    Word = (k : ℕ) × Terminal t k × Memᴰ k left_out_words

    Call : List Token → Type 0
    Call us = (o : Token) × (vs : List Token) × (us ≡ o ∷ vs) × (t.rule ≡ atom) × OneOf (name t) left_out_functors × Terminal o “open”

    words : Reflects Word (word_out t)
    words = reflects_iff (λ m. (terminal_f t, first_termed f, m)) (λ w. subst (λ (k : ℕ). Memᴰ k left_out_words) (sym (terminal_is w.1)) w.2) (in_reflects (terminal_f t) left_out_words)

    functors : (us : List Token) → Termed us → Reflects (Call us) (functor_out t us)
    functors [] h = of_no (λ c. let e = ap length c.2 in absurd (omega arith))
    functors (o ∷ vs) h =
        reflects_iff (λ x. (o, vs, refl, x.0, x.1.0, x.1.1))
        (λ c. (c.3, (c.4, subst (λ (u : Token). Terminal u “open”) (let e = c.2 in let q : c.0 ≡ o = cc in q) c.5)))
        (together (rule_reflects atom t) (together (one_of_reflects (name t) left_out_functors) (is_terminal (first_termed h) “open”)))

    exponents : Reflects (HasExponent t) (exponent_out t)
    exponents = together (rule_reflects float t) (reflects_not (plain_reflects t.bytes))

    to : Word ⊎ (Call ts ⊎ HasExponent t) → OutHere t ts
    to (inl w) = word w.1 w.2
    to (inr (inl c)) = functor c.2 c.3 c.4 c.5
    to (inr (inr x)) = exponent x

    back : OutHere t ts → Word ⊎ (Call ts ⊎ HasExponent t)
    back (word {k} h m) = inl (k, h, m)
    back (functor {o} {us} e q n h) = inr (inl (o, us, e, q, n, h))
    back (exponent x) = inr (inr x)

pub left_out_in : {p : ℕ} {ts : List Token} → LeftOut ts p → Termed ts → Memᴰ p (left_out_places ts)
left_out_in (left_out_word {t} {ts} h m) f =
    put_here (word_out t || (functor_out t ts || exponent_out t)) t.place (left_out_places ts) (reflects_true (here_reflects t ts f) (word h m))
left_out_in (left_out_functor {t} {o} {ts} q n h) f =
    put_here (word_out t || (functor_out t (o ∷ ts) || exponent_out t)) t.place (left_out_places (o ∷ ts)) (reflects_true (here_reflects t (o ∷ ts) f) (functor refl q n h))
left_out_in (left_out_exponent {t} {ts} x) f =
    put_here (word_out t || (functor_out t ts || exponent_out t)) t.place (left_out_places ts) (reflects_true (here_reflects t ts f) (exponent x))
left_out_in (further_on {t} {ts} h) f = put_on (word_out t || (functor_out t ts || exponent_out t)) t.place (left_out_in h (rest_termed f))

out_here : {t : Token} {ts : List Token} → OutHere t ts → LeftOut (t ∷ ts) t.place
out_here (word h m) = left_out_word h m
out_here {t} (functor e q n h) = subst (λ (us : List Token). LeftOut (t ∷ us) t.place) (sym e) (left_out_functor q n h)
out_here (exponent x) = left_out_exponent x

pub left_out_out : {p : ℕ} (ts : List Token) → Termed ts → Memᴰ p (left_out_places ts) → LeftOut ts p
left_out_out [] f m = absurd (mathlib.Core.List.Memᴰ.not-nil m)
left_out_out {p} (t ∷ ts) f m = ⊎_elim
    (λ (h : (word_out t || (functor_out t ts || exponent_out t) ≡ true) × (p ≡ t.place)). subst (LeftOut (t ∷ ts)) (sym h.1) (out_here (true_reflects (here_reflects t ts f) h.0)))
    (λ (h : Memᴰ p (left_out_places ts)). further_on (left_out_out ts (rest_termed f) h))
    (put_out (word_out t || (functor_out t ts || exponent_out t)) m)

-- ---- 6: one token, an expression, a whole count

abbrev pub over : Token → Bool
over t =
    (is_rule atom t && ltb Values.text_limit (length (name t)))
    || ((is_rule double_quoted_string t && ltb Values.text_limit (length (name t)))
    || ((is_rule integer t && ltb integer_limit (nat_abs (whole t.bytes)))
    || ((is_rule float t && ltb real_limit (nat_abs (thousandths t.bytes)))
    || (is_rule float t && ltb decimal_limit (length (behind_point t.bytes))))))

pub over_reflects : (t : Token) → Reflects (TokenBreach t) (over t)
over_reflects t =
    reflects_iff to back
    (either (together (rule_reflects atom t) (less_reflects Values.text_limit (length (name t))))
    (either (together (rule_reflects double_quoted_string t) (less_reflects Values.text_limit (length (name t))))
    (either (together (rule_reflects integer t) (less_reflects integer_limit (nat_abs (whole t.bytes))))
    (either (together (rule_reflects float t) (less_reflects real_limit (nat_abs (thousandths t.bytes))))
    (together (rule_reflects float t) (less_reflects decimal_limit (length (behind_point t.bytes))))))))
  where
    Cases : Type 0
    Cases =
        ((t.rule ≡ atom) × (Values.text_limit < length (name t)))
        ⊎ (((t.rule ≡ double_quoted_string) × (Values.text_limit < length (name t)))
        ⊎ (((t.rule ≡ integer) × (integer_limit < nat_abs (whole t.bytes)))
        ⊎ (((t.rule ≡ float) × (real_limit < nat_abs (thousandths t.bytes)))
        ⊎ ((t.rule ≡ float) × (decimal_limit < length (behind_point t.bytes))))))

    to : Cases → TokenBreach t
    to (inl h) = long_name h.0 h.1
    to (inr (inl h)) = long_text h.0 h.1
    to (inr (inr (inl h))) = large_integer h.0 h.1
    to (inr (inr (inr (inl h)))) = large_real h.0 h.1
    to (inr (inr (inr (inr h)))) = long_fraction h.0 h.1

    back : TokenBreach t → Cases
    back (long_name e h) = inl (e, h)
    back (long_text e h) = inr (inl (e, h))
    back (large_integer e h) = inr (inr (inl (e, h)))
    back (large_real e h) = inr (inr (inr (inl (e, h))))
    back (long_fraction e h) = inr (inr (inr (inr (e, h))))

abbrev pub too_large : Typed → Bool
too_large x = ltb depth_limit (depth x.expression.tree) || ltb list_limit (longest_list x.expression.tree)

abbrev pub count_over : List TopLevel → Bool
count_over g =
    ltb task_limit (length (tasks g))
    || (ltb data_item_limit (length (data_items g))
    || (ltb part_limit (total_parts (expressions g))
    || (ltb assignment_limit (length (assignments g))
    || ltb source_limit (length (sources g)))))

-- short: some lent table is too short
abbrev pub limit_places : Bool → List ℕ → List Token → List TopLevel → List ℕ
limit_places short text ts g =
    chosen over (λ (t : Token). t.place) ts
    ++ (chosen too_large (λ (x : Typed). x.expression.start) (expressions g)
    ++ put (count_over g || short) (length text) [])

pub one_read : {text : List ℕ} {g h : List TopLevel} → Read text g → Read text h → g ≡ h
one_read {g} r s = one_structure (subst (λ (ts : List Token). Structure ts g) (one_list r.its s.its) r.structure) s.structure

module _ {Short : Type 0} {short : Bool} (is : Reflects Short short) {text : List ℕ} {ts : List Token} {g : List TopLevel} (its : Tokens text 0 ts) (structure : Structure ts g) where
  read : Read text g
  read = record { tokens = ts; its = its; structure = structure }

  abbrev counts : List ℕ
  counts = put (count_over g || short) (length text) []

  abbrev larges : List ℕ
  larges = chosen too_large (λ (x : Typed). x.expression.start) (expressions g)

  abbrev overs : List ℕ
  overs = chosen over (λ (t : Token). t.place) ts

  of_count : {p : ℕ} → Memᴰ p counts → Memᴰ p (limit_places short text ts g)
  of_count m = mathlib.Core.List.Memᴰ.append_right overs (mathlib.Core.List.Memᴰ.append_right larges m)

  of_large : {i : ℕ} {x : Typed} → At (expressions g) i x → too_large x ≡ true → Memᴰ x.expression.start (limit_places short text ts g)
  of_large h e = mathlib.Core.List.Memᴰ.append_right overs (mathlib.Core.List.Memᴰ.append_left counts (chosen_in too_large (λ (x : Typed). x.expression.start) h e))

  counted : count_over g ≡ true → Memᴰ (length text) (limit_places short text ts g)
  counted e = of_count (put_here (count_over g || short) (length text) [] (or_l (count_over g) short e))

  abbrev Counts : Type 0
  Counts =
      (task_limit < length (tasks g))
      ⊎ ((data_item_limit < length (data_items g))
      ⊎ ((part_limit < total_parts (expressions g))
      ⊎ ((assignment_limit < length (assignments g))
      ⊎ (source_limit < length (sources g)))))

  counts_reflect : Reflects Counts (count_over g)
  counts_reflect =
      either (less_reflects task_limit (length (tasks g)))
      (either (less_reflects data_item_limit (length (data_items g)))
      (either (less_reflects part_limit (total_parts (expressions g)))
      (either (less_reflects assignment_limit (length (assignments g)))
      (less_reflects source_limit (length (sources g))))))

  over_count : Counts → Breach Short text limit_stage (length text)
  over_count (inl h) = many_tasks read h
  over_count (inr (inl h)) = many_data_items read h
  over_count (inr (inr (inl h))) = many_parts read h
  over_count (inr (inr (inr (inl h)))) = many_assignments read h
  over_count (inr (inr (inr (inr h)))) = many_sources read h

  counted_by : {h : List TopLevel} (m : ℕ) (f : List TopLevel → ℕ) → Read text h → m < f h → m < f g
  counted_by m f r b = subst (λ (x : List TopLevel). m < f x) (one_read r read) b

  here : {h : List TopLevel} {i : ℕ} {x : Typed} → Read text h → At (expressions h) i x → At (expressions g) i x
  here {i} {x} r k = subst (λ (y : List TopLevel). At (expressions y) i x) (one_read r read) k

  pub limit_in : {p : ℕ} → Breach Short text limit_stage p → Memᴰ p (limit_places short text ts g)
  limit_in (token_breach {i} {t} us h b) =
      mathlib.Core.List.Memᴰ.append_left (larges ++ counts) (chosen_in over (λ (t : Token). t.place) (subst (λ (vs : List Token). At vs i t) (one_list us its) h) (reflects_true (over_reflects t) b))
  limit_in (too_deep {x} r h b) =
      of_large (here r h) (or_l (ltb depth_limit (depth x.expression.tree)) (ltb list_limit (longest_list x.expression.tree)) (lt-ltb depth_limit (depth x.expression.tree) b))
  limit_in (long_list {x} r h b) =
      of_large (here r h) (or_r (ltb depth_limit (depth x.expression.tree)) (ltb list_limit (longest_list x.expression.tree)) (lt-ltb list_limit (longest_list x.expression.tree) b))
  limit_in (many_tasks r b) = counted (reflects_true counts_reflect (inl (counted_by task_limit (λ x. length (tasks x)) r b)))
  limit_in (many_data_items r b) = counted (reflects_true counts_reflect (inr (inl (counted_by data_item_limit (λ x. length (data_items x)) r b))))
  limit_in (many_parts r b) = counted (reflects_true counts_reflect (inr (inr (inl (counted_by part_limit (λ x. total_parts (expressions x)) r b)))))
  limit_in (many_assignments r b) = counted (reflects_true counts_reflect (inr (inr (inr (inl (counted_by assignment_limit (λ x. length (assignments x)) r b))))))
  limit_in (many_sources r b) = counted (reflects_true counts_reflect (inr (inr (inr (inr (counted_by source_limit (λ x. length (sources x)) r b))))))
  limit_in (short_table s) = of_count (put_here (count_over g || short) (length text) [] (or_r (count_over g) short (reflects_true is s)))

  large_breach : {i : ℕ} {x : Typed} → At (expressions g) i x → too_large x ≡ true → Breach Short text limit_stage x.expression.start
  large_breach {x} h e = ⊎_elim
      (λ (k : ltb depth_limit (depth x.expression.tree) ≡ true). too_deep read h (ltb-true depth_limit (depth x.expression.tree) k))
      (λ (k : ltb list_limit (longest_list x.expression.tree) ≡ true). long_list read h (ltb-true list_limit (longest_list x.expression.tree) k))
      (or_cases (ltb depth_limit (depth x.expression.tree)) (ltb list_limit (longest_list x.expression.tree)) e)

  count_breach : count_over g || short ≡ true → Breach Short text limit_stage (length text)
  count_breach e = ⊎_elim
      (λ (k : count_over g ≡ true). over_count (true_reflects counts_reflect k))
      (λ (k : short ≡ true). short_table (true_reflects is k))
      (or_cases (count_over g) short e)

  pub limit_if : {p : ℕ} → Memᴰ p (limit_places short text ts g) → Breach Short text limit_stage p
  limit_if {p} m = ⊎_elim
      (λ (a : Memᴰ p overs). let c = chosen_out ts a in subst (Breach Short text limit_stage) (sym c.there) (token_breach its c.at (true_reflects (over_reflects c.x) c.passes)))
      (λ (a : Memᴰ p (larges ++ counts)). ⊎_elim
      (λ (b : Memᴰ p larges). let c = chosen_out (expressions g) b in subst (Breach Short text limit_stage) (sym c.there) (large_breach c.at c.passes))
      (λ (b : Memᴰ p counts). let c = put_only (count_over g || short) b in subst (Breach Short text limit_stage) (sym c.1) (count_breach c.0))
      (mathlib.Core.List.Memᴰ.append_cases larges a))
      (mathlib.Core.List.Memᴰ.append_cases overs m)
