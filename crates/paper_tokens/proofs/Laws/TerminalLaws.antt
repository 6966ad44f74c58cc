-- Every token of a text has exactly one terminal: whether a name is one of a list is computed, and so the terminal is.
use Rattle.std.specs.Prelude.{ℕ, ◌<◌, ◌≡◌, Bool, true, false, cond, ◌||◌, ltb}
use Prim.Native.String.{String}
use Rattle.std.proofs.Math.Path.{refl}
use Rattle.std.proofs.Common.{sym, ap, subst, ◌∙◌, ⊎_elim, arith, ltb-true}
use Rattle.std.proofs.Math.Option.{Option, none, some}
use mathlib.Core.List.{List, [], ◌∷◌, map, Memᴰ}
use Rattle.paper_expressions.proofs.Laws.Tests.{contra, two, or_cases, every, every_at}
use Rattle.paper_expressions.specs.Bytes.{bytes}
use Rattle.paper_tokens.specs.Tokens.{‘other-atom’, ‘yes-or-no’, ‘data-type’, ‘integer’, ‘float’, ‘double-quoted-string’, reserved_count, terminals}
use Rattle.paper_tokens.specs.Words.{reserved, yes_or_no, data_types}
use Rattle.paper_tokens.specs.Lexical.{Rule, reserved_word, atom, integer, float, double_quoted_string, white_space, comment, Reserved, Matches, Skipped, skips_white_space, skips_comment, Token, Tokens, at_end, skip, take_token, inner}
use Rattle.paper_tokens.specs.Terminals.{OneOf, name, Terminal, a_reserved_word, yes_no, a_data_type, another_atom, an_integer, a_float, a_string, Terminals, next}
use Rattle.paper_tokens.specs.Terminals
use Rattle.paper_tokens.proofs.Laws.WordsLaws.{one_terminal as one_word, one_kind}
use Rattle.paper_tokens.proofs.Laws.LexicalTwin.{same, same_is, same_self, word_f, word_found, rule_law}

-- ---- one of a list of texts

abbrev pub one_of : List ℕ → List String → Bool
one_of w [] = false
one_of w (s ∷ l) = same w (bytes s) || one_of w l

pub one_of_is : (w : List ℕ) (l : List String) → one_of w l ≡ true → OneOf w l
one_of_is w [] h = contra h
one_of_is w (s ∷ l) h = ⊎_elim
    (λ (e : same w (bytes s) ≡ true). record { string = s; listed = Memᴰ.head refl; same = same_is w (bytes s) e })
    (λ (e : one_of w l ≡ true). let o = one_of_is w l e in record { string = o.string; listed = Memᴰ.tail o.listed; same = o.same })
    (or_cases (same w (bytes s)) (one_of w l) h)

or_right : (a b : Bool) → b ≡ true → a || b ≡ true
or_right true b e = refl
or_right false b e = e

pub is_one_of : {w : List ℕ} {s : String} {l : List String} → Memᴰ s l → w ≡ bytes s → one_of w l ≡ true
is_one_of {w} (Memᴰ.head {x} {xs} h) e = ap (λ (b : Bool). b || one_of w xs) (subst (λ (v : List ℕ). same w v ≡ true) (e ∙ ap bytes h) (same_self w))
is_one_of {w} (Memᴰ.tail {x} {xs} m) e = or_right (same w (bytes x)) (one_of w xs) (is_one_of m e)

not_one_of : {w : List ℕ} {l : List String} → ¬ OneOf w l → one_of w l ≡ false
not_one_of {w} {l} h = ⊎_elim (λ (e : one_of w l ≡ true). absurd (h (one_of_is w l e))) (λ (e : one_of w l ≡ false). e) (two (one_of w l))

-- ---- the terminal, computed

abbrev number : Option ℕ → ℕ
number none = terminals
number (some k) = k

abbrev kind_of_atom : List ℕ → ℕ
kind_of_atom w = cond (one_of w yes_or_no) ‘yes-or-no’ (cond (one_of w data_types) ‘data-type’ ‘other-atom’)

abbrev terminal_of : Rule → List ℕ → ℕ
terminal_of reserved_word w = number (word_f w)
terminal_of atom w = kind_of_atom (inner w)
terminal_of integer w = ‘integer’
terminal_of float w = ‘float’
terminal_of double_quoted_string w = ‘double-quoted-string’
terminal_of white_space w = terminals
terminal_of comment w = terminals

-- white space and comments have none, nor has a word that is not reserved: there it is `terminals`
unfoldable pub terminal_f : Token → ℕ
terminal_f t = terminal_of t.rule t.bytes

word_number : {w : List ℕ} {k : ℕ} → Reserved w k → number (word_f w) ≡ k
word_number {w} {k} r =
    let by : (o : Option ℕ) → word_f w ≡ o → number o ≡ k
    = elim [
      | none ↦ λ e. contra (rw e at ((rule_law reserved_word w).0 (unfold Matches in (k, r))))
      | some j ↦ λ e. let s = word_found e in one_word (j, s.string) (k, r.string) s.listed r.listed (sym s.same ∙ r.same)
    ] in
    by (word_f w) refl

not_both : {w : List ℕ} → OneOf w data_types → one_of w yes_or_no ≡ false
not_both o = not_one_of (λ y. one_kind y.string o.string y.listed o.listed (sym y.same ∙ o.same))

pub terminal_is : {t : Token} {k : ℕ} → Terminal t k → terminal_f t ≡ k
unfolding terminal_f
terminal_is {t} (a_reserved_word e r) = ap (λ (q : Rule). terminal_of q t.bytes) e ∙ word_number r
terminal_is {t} (yes_no e o) =
    ap (λ (q : Rule). terminal_of q t.bytes) e ∙ rw (is_one_of o.listed o.same)
terminal_is {t} (a_data_type e o) =
    ap (λ (q : Rule). terminal_of q t.bytes) e ∙ rw (not_both o, is_one_of o.listed o.same)
terminal_is {t} (another_atom e n m) =
    ap (λ (q : Rule). terminal_of q t.bytes) e ∙ rw (not_one_of n, not_one_of m)
terminal_is {t} (an_integer e) = ap (λ (q : Rule). terminal_of q t.bytes) e
terminal_is {t} (a_float e) = ap (λ (q : Rule). terminal_of q t.bytes) e
terminal_is {t} (a_string e) = ap (λ (q : Rule). terminal_of q t.bytes) e

pub terminals_are : {ts : List Token} {ks : List ℕ} → Terminals ts ks → ks ≡ map terminal_f ts
terminals_are Terminals.none = refl
terminals_are (next t ts) = let e = terminal_is t in let f = terminals_are ts in cc

-- ---- at most one

pub one_terminal : {t : Token} {k j : ℕ} → Terminal t k → Terminal t j → k ≡ j
one_terminal h g = sym (terminal_is h) ∙ terminal_is g

pub one_list : {ts : List Token} {ks js : List ℕ} → Terminals ts ks → Terminals ts js → ks ≡ js
one_list h g = terminals_are h ∙ sym (terminals_are g)

-- ---- at least one, for what a rule matches that is not skipped

atom_terminal : {t : Token} (y d : Bool) → t.rule ≡ atom → one_of (name t) yes_or_no ≡ y → one_of (name t) data_types ≡ d
    → Terminal t (cond y ‘yes-or-no’ (cond d ‘data-type’ ‘other-atom’))
atom_terminal {t} true d e h g = yes_no e (one_of_is (name t) yes_or_no h)
atom_terminal {t} false true e h g = a_data_type e (one_of_is (name t) data_types g)
atom_terminal {t} false false e h g = another_atom e (λ o. contra (sym h ∙ is_one_of o.listed o.same)) (λ o. contra (sym g ∙ is_one_of o.listed o.same))

has_terminal : (t : Token) (q : Rule) → t.rule ≡ q → Matches q t.bytes → ¬ Skipped q → Terminal t (terminal_f t)
unfolding Matches
has_terminal t reserved_word e m s = let r = a_reserved_word e m.1 in subst (Terminal t) (sym (terminal_is r)) r
has_terminal t atom e m s =
    let r = atom_terminal (one_of (name t) yes_or_no) (one_of (name t) data_types) e refl refl in subst (Terminal t) (sym (terminal_is r)) r
has_terminal t integer e m s = subst (Terminal t) (sym (terminal_is (an_integer e))) (an_integer e)
has_terminal t float e m s = subst (Terminal t) (sym (terminal_is (a_float e))) (a_float e)
has_terminal t double_quoted_string e m s = subst (Terminal t) (sym (terminal_is (a_string e))) (a_string e)
has_terminal t white_space e m s = absurd (s skips_white_space)
has_terminal t comment e m s = absurd (s skips_comment)

pub have_terminals : {text : List ℕ} {at : ℕ} {ts : List Token} → Tokens text at ts → Terminals ts (map terminal_f ts)
have_terminals (at_end e) = Terminals.none
have_terminals (skip l s r) = have_terminals r
have_terminals (take_token l s r) = next (has_terminal _ _ refl l.fits.matches s) (have_terminals r)

-- an atom is of one of three kinds
pub atom-kind : (t : Token) → t.rule ≡ atom → (P : ℕ → Type 0) → P ‘other-atom’ → P ‘yes-or-no’ → P ‘data-type’ → P (terminal_f t)
unfolding terminal_f
atom-kind t e P a y d =
    let by : (u v : Bool) → P (cond u ‘yes-or-no’ (cond v ‘data-type’ ‘other-atom’)) = elim [ true ↦ λ v. y | false ↦ elim [ true ↦ d | false ↦ a ] ] in
    subst (λ (q : Rule). P (terminal_of q t.bytes)) (sym e) (by (one_of (name t) yes_or_no) (one_of (name t) data_types))

-- ---- it is one of the grammar's

all_below : every (λ (e : ℕ × String). ltb e.0 reserved_count) reserved ≡ true
unfolding reserved
all_below = refl

pub reserved_below : {w : List ℕ} {k : ℕ} → Reserved w k → k < reserved_count
reserved_below {k} r = ltb-true k reserved_count (every_at (λ (e : ℕ × String). ltb e.0 reserved_count) reserved all_below (k, r.string) r.listed)

pub is_terminal : {t : Token} {k : ℕ} → Terminal t k → k < terminals
is_terminal (a_reserved_word e r) = let h = reserved_below r in omega arith
is_terminal (yes_no e o) = omega arith
is_terminal (a_data_type e o) = omega arith
is_terminal (another_atom e n m) = omega arith
is_terminal (an_integer e) = omega arith
is_terminal (a_float e) = omega arith
is_terminal (a_string e) = omega arith
