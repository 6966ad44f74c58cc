-- The answer to a line, computed, and tied to LineAnswers stage by stage. It is for worked lines: where the text itself, the count of tokens or brackets, or something left out is the reason of a refusal, it says nothing.
use Rattle.std.specs.Prelude.{ℕ, suc, ◌+◌, ◌≤◌, ◌<◌, ◌≡◌, refl, Bool, true, false, cond, ◌&&◌, ◌||◌, not, List, [], ◌∷◌, map, eqb, leb, nat_abs, length}
use Prim.Native.String.{String}
use Rattle.std.proofs.Common.{arith, sym, ap, subst, ◌∙◌, ⊎_elim, leb-true, leb-false, eq-eqb}
use Rattle.std.proofs.Math.Option.{Option, none, some}
use Rattle.paper_expressions.proofs.Laws.Tests.{contra, two, and_l, and_r, every, every_at}
use Rattle.paper_expressions.specs.Bytes.{bytes}
use Rattle.paper_expressions.specs.Limits.{integer_limit, real_limit, list_limit}
use Rattle.paper_expressions.specs.Limits as Values
use Rattle.paper_expressions.specs.Types.{Ty}
use Rattle.paper_expressions.specs.Clauses.{Clause}
use Rattle.paper_expressions.specs.View.{At, at_first, at_later}
use Rattle.paper_expressions.specs.Expressions.{Expr, HasType}
use Rattle.paper_expressions.proofs.Laws.Search.{no_clash}
use Rattle.paper_expressions.proofs.Laws.Typing.{type_f, type_has, type_only}
use Rattle.paper_expressions.proofs.Laws.Only.{Answer}
use Rattle.paper_expressions.proofs.Laws.Only as Only
use Rattle.paper_expressions.proofs.Laws.Promise.{eval_f, evaluates_if}
use Rattle.paper_tokens.proofs.Laws.FormsLaws.{match_f, match_law}
use Rattle.paper_grammar.proofs.Laws.Ll.{Out, accept, refuse, run, N}
use Rattle.paper_grammar.proofs.Laws.Form.{G, ‹Expr›}
use Rattle.paper_grammar.proofs.Laws.Same.{at_expression, accepts_sentence, sentence_accepted}
use Rattle.paper_tokens.specs.Tokens.{“open”, “[”}
use Rattle.paper_tokens.specs.Lexical
use Lexical.{Rule, reserved_word, atom, integer, float, double_quoted_string, white_space, comment, plain_float, inner, Longest, Token, Tokens, at_end, skip, take_token, Comes, starts, goes_on, Stuck}
use Rattle.paper_tokens.proofs.Laws.LexicalLaws.{one_length, one_list}
use Rattle.paper_tokens.proofs.Laws.LexicalTwin.{same, same_self, Lexed, tokens, stuck, lex_f, Is, lexed}
use Rattle.paper_tokens.specs.Literals.{whole, thousandths, behind_point}
use Rattle.paper_tokens.specs.Terminals.{name}
use Rattle.paper_tokens.proofs.Laws.TerminalLaws.{terminal_f, terminal_is, have_terminals}
use Rattle.paper_guideline.specs.LeftOut.{left_out_words, left_out_functors, LeftOut, left_out_word, left_out_functor, left_out_exponent, further_on}
use Rattle.paper_guideline.proofs.Laws.CompleteLaws.{some_expression}
use Rattle.paper_guideline.specs.Tree.{anywhere, Tree}
use Rattle.paper_guideline.proofs.Laws.TreeLaws.{tree_f, tree_read}
use Rattle.paper_guideline.specs.Limits.{guideline_limit, token_limit, bracket_limit, decimal_limit, part_limit, depth_limit, parts, depth, longest_list}
use Rattle.paper_guideline.specs.Refusals
use Refusals.{text_stage, lexical_stage, count_stage, Opening, opens_round, opens_square, TooManyOpen, one_too_many, one_more_open, one_fewer_open, as_many_open, TokenBreach, long_name, long_text, large_integer, large_real, long_fraction}
use Rattle.paper_guideline.specs.Line
use Line.{no_items, LineTree, LineBreach, line_high_byte, line_long, line_no_rule, line_many_tokens, line_many_open, LineAnswer, refused, gives, LineAnswers}
use Rattle.line_answer.specs.Steps.{Before}
use Rattle.line_answer.specs.Stages.{after, no_sentence, sentence, nothing_left_out, over_limit, deep, long_lists, too_many_parts, within_limits, untyped, given}
use Rattle.line_answer.specs.Given.{apart, sound}
use Rattle.line_answer.specs.Tests.{nothing_behind}

-- ---- the tests

-- of one token: no word, functor or exponent that is left out
abbrev named_out : List ℕ → Bool
named_out w = every (λ (s : String). not (same w (bytes s))) left_out_functors

abbrev kept_word : Token → Bool
kept_word t = every (λ (k : ℕ). not (eqb (terminal_f t) k)) left_out_words

abbrev plain_by : Rule → List ℕ → Bool
plain_by reserved_word w = true
plain_by atom w = true
plain_by integer w = true
plain_by float w = match_f plain_float w
plain_by double_quoted_string w = true
plain_by white_space w = true
plain_by comment w = true

abbrev plain : Token → Bool
plain t = plain_by t.rule t.bytes

abbrev kept : Token → Bool
kept t = kept_word t && (named_out (name t) && plain t)

-- of one token: within its limit
abbrev fits_by : Rule → List ℕ → Bool
fits_by reserved_word w = true
fits_by atom w = leb (length (inner w)) Values.text_limit
fits_by integer w = leb (nat_abs (whole w)) integer_limit
fits_by float w = leb (nat_abs (thousandths w)) real_limit && leb (length (behind_point w)) decimal_limit
fits_by double_quoted_string w = leb (length (inner w)) Values.text_limit
fits_by white_space w = true
fits_by comment w = true

abbrev fits : Token → Bool
fits t = fits_by t.rule t.bytes

abbrev fits_tree : Expr → Bool
fits_tree e = leb (depth e) depth_limit && (leb (longest_list e) list_limit && leb (parts e) part_limit)

abbrev opens : Token → Bool
opens t = eqb (terminal_f t) “open” || eqb (terminal_f t) “[”

-- how many brackets are opened
abbrev openings : List Token → ℕ
openings [] = 0
openings (t ∷ ts) = cond (opens t) (suc (openings ts)) (openings ts)

abbrev valued : Ty → Answer (List Clause) → Option LineAnswer
valued t (Only.gives cs v) = some (gives t v)
valued t Only.fails = none

abbrev typed : Expr → Option Ty → Option LineAnswer
typed e none = some (refused 5)
typed e (some t) = valued t (eval_f no_items 0 e)

abbrev treed : List Token → Option (Expr × List Token) → Option LineAnswer
treed ts none = none
treed ts (some x) = cond (every fits ts) (cond (fits_tree x.0) (typed x.0 (type_f no_items 0 x.0)) (some (refused 6))) (some (refused 6))

abbrev read : List Token → Out → Option LineAnswer
read ts accept = cond (every kept ts) (treed ts (tree_f anywhere ts)) none
read ts (refuse r) = some (refused 3)

abbrev cut : Lexed → Option LineAnswer
cut (stuck p) = none
cut (tokens ts) = cond (leb (length ts) token_limit && leb (openings ts) bracket_limit) (read ts (run G (N ‹Expr› ∷ []) (map terminal_f ts))) none

abbrev pub line_f : List ℕ → Option LineAnswer
line_f line = cond (every (λ (b : ℕ). leb b 127) line && leb (length line) guideline_limit) (cut (lex_f line)) none

-- ---- a test that gave something was passed

passed : {A : Type 0} {a : A} (b : Bool) {o : Option A} → cond b o none ≡ some a → (b ≡ true) × (o ≡ some a)
passed true e = (refl, e)
passed false e = absurd (no_clash (cc))

not_true : (b : Bool) → not b ≡ true → ¬ (b ≡ true)
not_true true e h = contra e
not_true false e h = contra h

at_every : {A : Type 0} (f : A → Bool) {l : List A} {i : ℕ} {x : A} → At l i x → every f l ≡ true → f x ≡ true
at_every f (at_first {x} {l}) e = and_l (f x) (every f l) e
at_every f (at_later {y} {l} h) e = at_every f h (and_r (f y) (every f l) e)

-- ---- the first three stages

module _ {text : List ℕ} where
  tokens_from : {ts : List Token} {q : ℕ} → Tokens text 0 ts → Comes text q → (us : List Token) × Tokens text q us
  tokens_from {ts} t starts = (ts, t)
  tokens_from t (goes_on {at} {n} c h) = let x = tokens_from t c in on x.1 h
    where
      on : {at n : ℕ} {r : Rule} {us : List Token} → Tokens text at us → Longest text at r n → (vs : List Token) × Tokens text (at + n) vs
      on (at_end e) h = let a = h.fits.inside in let b = h.fits.some_bytes in absurd (omega arith)
      on {at} (skip {ts = vs} k s u) h = (vs, subst (λ (m : ℕ). Tokens text (at + m) vs) (one_length k h) u)
      on {at} (take_token {ts = vs} k s u) h = (vs, subst (λ (m : ℕ). Tokens text (at + m) vs) (one_length k h) u)

  stuck_nowhere : {q : ℕ} {us : List Token} → Tokens text q us → ¬ Stuck text q
  stuck_nowhere (at_end e) s = let l = s.inside in omega arith
  stuck_nowhere (skip {n} {r} k q u) s = s.nothing r n k.fits
  stuck_nowhere (take_token {n} {r} k q u) s = s.nothing r n k.fits

  not_stuck : {ts : List Token} {q : ℕ} → Tokens text 0 ts → ¬ Stuck text q
  not_stuck t s = stuck_nowhere (tokens_from t s.comes).1 s

is_opening : {t : Token} → Opening t → opens t ≡ true
is_opening {t} (opens_round h) = rw (terminal_is h)
is_opening {t} (opens_square h) = rw (terminal_is h)

one_opening : {t : Token} (ts : List Token) → Opening t → openings (t ∷ ts) ≡ suc (openings ts)
one_opening ts o = rw (is_opening o)

no_fewer : (t : Token) (ts : List Token) → openings ts ≤ openings (t ∷ ts)
no_fewer t ts = ⊎_elim (λ (e : opens t ≡ true). rw e (omega arith)) (λ (e : opens t ≡ false). rw e (omega arith)) (two (opens t))

open_few : {n p : ℕ} {ts : List Token} → TooManyOpen n ts p → bracket_limit < n + openings ts
open_few (one_too_many {ts} o h) = let e = one_opening ts o in omega arith
open_few (one_more_open {ts} o h) = let e = one_opening ts o in let k = open_few h in omega arith
open_few (one_fewer_open {t} {ts} o h) = let e = no_fewer t ts in let k = open_few h in omega arith
open_few (as_many_open {t} {ts} o c h) = let e = no_fewer t ts in let k = open_few h in omega arith

module _ {line : List ℕ} {ts : List Token} (its : Tokens line 0 ts) (low : every (λ (b : ℕ). leb b 127) line ≡ true) (short : length line ≤ guideline_limit) (few : length ts ≤ token_limit) (shut : openings ts ≤ bracket_limit) where
  not_text : ¬ LineBreach line text_stage
  not_text (line_high_byte {b} a h) = let l = leb-true b 127 (at_every (λ (x : ℕ). leb x 127) a low) in omega arith
  not_text (line_long h) = omega arith

  not_lexical : ¬ LineBreach line lexical_stage
  not_lexical (line_no_rule h) = not_stuck its h

  not_count : ¬ LineBreach line count_stage
  not_count (line_many_tokens t h) = let e = ap length (one_list t its) in omega arith
  not_count (line_many_open t h) = let e = ap openings (one_list t its) in let l = open_few h in omega arith

  early : Before line 3
  early s l = after count_stage (λ r k. after lexical_stage (λ q m. after text_stage (λ p n. absurd (omega arith)) not_text q (omega arith)) not_lexical r (omega arith)) not_count s (omega arith)

-- ---- what is left out, and the limits on one token

kept_all : {ts : List Token} {p : ℕ} → every kept ts ≡ true → ¬ LeftOut ts p
kept_all {ts} e (left_out_word {t} {ts = us} {k} h m) =
    let a = and_l (kept t) (every kept us) e in
    let b = and_l (kept_word t) (named_out (name t) && plain t) a in
    not_true (eqb (terminal_f t) k) (every_at (λ (j : ℕ). not (eqb (terminal_f t) j)) left_out_words b k m) (eq-eqb (terminal_f t) k (terminal_is h))
kept_all e (left_out_functor {t} {o} {ts = us} q h m) =
    let a = and_l (kept t) (every kept (o ∷ us)) e in
    let b = and_l (named_out (name t)) (plain t) (and_r (kept_word t) (named_out (name t) && plain t) a) in
    not_true (same (name t) (bytes h.string)) (every_at (λ (s : String). not (same (name t) (bytes s))) left_out_functors b h.string h.listed) (subst (λ (v : List ℕ). same (name t) v ≡ true) h.same (same_self (name t)))
kept_all e (left_out_exponent {t} {ts = us} x) =
    let a = and_l (kept t) (every kept us) e in
    let b = and_r (named_out (name t)) (plain t) (and_r (kept_word t) (named_out (name t) && plain t) a) in
    x.1 ((match_law plain_float t.bytes).1 (ap (λ (r : Rule). plain_by r t.bytes) (sym x.0) ∙ b))
kept_all e (further_on {t} {ts = us} h) = kept_all (and_r (kept t) (every kept us) e) h

fits_token : {t : Token} → fits t ≡ true → ¬ TokenBreach t
fits_token {t} e (long_name q h) = let l = leb-true (length (name t)) Values.text_limit (ap (λ (r : Rule). fits_by r t.bytes) (sym q) ∙ e) in omega arith
fits_token {t} e (long_text q h) = let l = leb-true (length (name t)) Values.text_limit (ap (λ (r : Rule). fits_by r t.bytes) (sym q) ∙ e) in omega arith
fits_token {t} e (large_integer q h) = let l = leb-true (nat_abs (whole t.bytes)) integer_limit (ap (λ (r : Rule). fits_by r t.bytes) (sym q) ∙ e) in omega arith
fits_token {t} e (large_real q h) =
    let f = ap (λ (r : Rule). fits_by r t.bytes) (sym q) ∙ e in
    let l = leb-true (nat_abs (thousandths t.bytes)) real_limit (and_l (leb (nat_abs (thousandths t.bytes)) real_limit) (leb (length (behind_point t.bytes)) decimal_limit) f) in
    omega arith
fits_token {t} e (long_fraction q h) =
    let f = ap (λ (r : Rule). fits_by r t.bytes) (sym q) ∙ e in
    let l = leb-true (length (behind_point t.bytes)) decimal_limit (and_r (leb (nat_abs (thousandths t.bytes)) real_limit) (leb (length (behind_point t.bytes)) decimal_limit) f) in
    omega arith

-- .. and where the test fails, it is over its limit
over_token : {t : Token} (r : Rule) → t.rule ≡ r → fits_by r t.bytes ≡ false → TokenBreach t
over_token reserved_word q e = contra (sym e)
over_token {t} atom q e = long_name q (leb-false (length (name t)) Values.text_limit e)
over_token {t} integer q e = large_integer q (leb-false (nat_abs (whole t.bytes)) integer_limit e)
over_token {t} float q e = ⊎_elim
    (λ (l : leb (nat_abs (thousandths t.bytes)) real_limit ≡ true). long_fraction q (leb-false (length (behind_point t.bytes)) decimal_limit (subst (λ (b : Bool). b && leb (length (behind_point t.bytes)) decimal_limit ≡ false) l e)))
    (λ (l : leb (nat_abs (thousandths t.bytes)) real_limit ≡ false). large_real q (leb-false (nat_abs (thousandths t.bytes)) real_limit l))
    (two (leb (nat_abs (thousandths t.bytes)) real_limit))
over_token {t} double_quoted_string q e = long_text q (leb-false (length (name t)) Values.text_limit e)
over_token white_space q e = contra (sym e)
over_token comment q e = contra (sym e)

-- one of them fails the test
record Fails (ts : List Token) : Type 0 where
  pub index : ℕ
  pub token : Token
  pub there : At ts index token
  pub fails : fits token ≡ false

some_fails : (ts : List Token) → every fits ts ≡ false → Fails ts
some_fails [] e = contra (sym e)
some_fails (t ∷ ts) e = ⊎_elim
    (λ (f : fits t ≡ true). let r = some_fails ts (subst (λ (b : Bool). b && every fits ts ≡ false) f e) in record { index = suc r.index; token = r.token; there = at_later r.there; fails = r.fails })
    (λ (f : fits t ≡ false). record { index = 0; token = t; there = at_first; fails = f })
    (two (fits t))

-- ---- the tree, its type and its value

module _ {line : List ℕ} {ts : List Token} (its : Tokens line 0 ts) {e : Expr} (tree : Tree anywhere 1 ts [] e) (before : Before line 5) where
  large : fits_tree e ≡ false → LineAnswers line (refused 6)
  large q = ⊎_elim
      (λ (d : leb (depth e) depth_limit ≡ true). ⊎_elim
      (λ (l : leb (longest_list e) list_limit ≡ true). too_many_parts its tree before (leb-false (parts e) part_limit (subst (λ (b : Bool). b && leb (parts e) part_limit ≡ false) l (subst (λ (b : Bool). b && (leb (longest_list e) list_limit && leb (parts e) part_limit) ≡ false) d q))))
      (λ (l : leb (longest_list e) list_limit ≡ false). long_lists its tree before (leb-false (longest_list e) list_limit l))
      (two (leb (longest_list e) list_limit)))
      (λ (d : leb (depth e) depth_limit ≡ false). deep its tree before (leb-false (depth e) depth_limit d))
      (two (leb (depth e) depth_limit))

  small : every fits ts ≡ true → fits_tree e ≡ true → Before line 7
  small f g =
      let d = leb-true (depth e) depth_limit (and_l (leb (depth e) depth_limit) (leb (longest_list e) list_limit && leb (parts e) part_limit) g) in
      let h = and_r (leb (depth e) depth_limit) (leb (longest_list e) list_limit && leb (parts e) part_limit) g in
      let l = leb-true (longest_list e) list_limit (and_l (leb (longest_list e) list_limit) (leb (parts e) part_limit) h) in
      let m = leb-true (parts e) part_limit (and_r (leb (longest_list e) list_limit) (leb (parts e) part_limit) h) in
      within_limits its tree before (λ i t b. fits_token (at_every fits b f)) d l m

module _ {line : List ℕ} {ts : List Token} (its : Tokens line 0 ts) {a : LineAnswer} where
  module _ {e : Expr} (tree : Tree anywhere 1 ts [] e) (before : Before line 7) where
    valued_is : {t : Ty} (v : Answer (List Clause)) → eval_f no_items 0 e ≡ v → HasType no_items 0 e t → valued t v ≡ some a → LineAnswers line a
    valued_is {t} (Only.gives cs v) q h k =
        let z : gives t v ≡ a = cc in
        subst (LineAnswers line) z (given its tree before h (evaluates_if no_items 0 sound h q))
    valued_is Only.fails q h k = absurd (no_clash (cc))

    typed_is : (o : Option Ty) → type_f no_items 0 e ≡ o → typed e o ≡ some a → LineAnswers line a
    typed_is none q k =
        let z : refused 5 ≡ a = cc in
        subst (LineAnswers line) z (untyped its tree before (λ t h. no_clash (cc (type_only no_items 0 apart h))))
    typed_is (some t) q k = valued_is (eval_f no_items 0 e) refl (type_has no_items 0 e q) k

  module _ {e : Expr} (tree : Tree anywhere 1 ts [] e) (before : Before line 5) where
    past : LineAnswers line (refused 6) → some (refused 6) ≡ some a → LineAnswers line a
    past h k = let z : refused 6 ≡ a = cc in subst (LineAnswers line) z h

    sized_is : (b c : Bool) → every fits ts ≡ b → fits_tree e ≡ c → cond b (cond c (typed e (type_f no_items 0 e)) (some (refused 6))) (some (refused 6)) ≡ some a → LineAnswers line a
    sized_is true true f g k = typed_is tree (small its tree before f g) (type_f no_items 0 e) refl k
    sized_is true false f g k = past (large its tree before g) k
    sized_is false c f g k = let x = some_fails ts f in past (over_limit its before x.there (over_token x.token.rule refl x.fails)) k

  treed_is : {e : Expr} → Tree anywhere 1 ts [] e → Before line 5 → (o : Option (Expr × List Token)) → tree_f anywhere ts ≡ o → treed ts o ≡ some a → LineAnswers line a
  treed_is tree before none q k = absurd (no_clash (cc))
  treed_is {e} tree before (some x) q k =
      let z = tree_read tree nothing_behind in
      let y : ◌≡◌ {A = Expr × List Token} (e, []) x = cc in
      let s : e ≡ x.0 = ap (λ (p : Expr × List Token). p.0) y in
      sized_is (subst (λ (c : Expr). Tree anywhere 1 ts [] c) s tree) before (every fits ts) (fits_tree x.0) refl refl k

  read_is : Before line 3 → (o : Out) → run G (N ‹Expr› ∷ []) (map terminal_f ts) ≡ o → read ts o ≡ some a → LineAnswers line a
  read_is before accept q k =
      let p = passed (every kept ts) k in
      let d = accepts_sentence at_expression (map terminal_f ts) q in
      let are = have_terminals its in
      let n : (p : ℕ) → ¬ LeftOut ts p = λ i h. kept_all p.0 h in
      treed_is (some_expression are d n).1 (nothing_left_out its (sentence its are before d) n) (tree_f anywhere ts) refl p.1
  read_is before (refuse r) q k =
      let z : refused 3 ≡ a = cc in
      subst (LineAnswers line) z (no_sentence its (have_terminals its) before (λ d. refuses {r = r} (cc (sentence_accepted at_expression (map terminal_f ts) d))))
    where
      refuses : {r : List ℕ} → accept ≡ refuse r → ⊥
      refuses e = let z : ◌≡◌ {A = ℕ} 0 1 = cc in omega arith

cut_is : {line : List ℕ} {a : LineAnswer} → every (λ (b : ℕ). leb b 127) line ≡ true → length line ≤ guideline_limit → (x : Lexed) → Is line 0 x → cut x ≡ some a → LineAnswers line a
cut_is low short (stuck p) h k = absurd (no_clash (cc))
cut_is low short (tokens ts) h k =
    let few = leb (length ts) token_limit in
    let shut = leb (openings ts) bracket_limit in
    let p = passed (few && shut) k in
    read_is h (early h low short (leb-true (length ts) token_limit (and_l few shut p.0)) (leb-true (openings ts) bracket_limit (and_r few shut p.0))) (run G (N ‹Expr› ∷ []) (map terminal_f ts)) refl p.1

-- what is computed is the answer
pub computed : (line : List ℕ) {a : LineAnswer} → line_f line ≡ some a → LineAnswers line a
computed line e =
    let low = every (λ (b : ℕ). leb b 127) line in
    let short = leb (length line) guideline_limit in
    let p = passed (low && short) e in
    cut_is (and_l low short p.0) (leb-true (length line) guideline_limit (and_r low short p.0)) (lex_f line) (lexed line) p.1

-- ---- the tree alone, whatever its type

abbrev its_tree : Option (Expr × List Token) → Option Expr
its_tree none = none
its_tree (some x) = some x.0

abbrev tree_read_from : List Token → Out → Option Expr
tree_read_from ts accept = cond (every kept ts) (its_tree (tree_f anywhere ts)) none
tree_read_from ts (refuse r) = none

abbrev tree_cut : Lexed → Option Expr
tree_cut (stuck p) = none
tree_cut (tokens ts) = tree_read_from ts (run G (N ‹Expr› ∷ []) (map terminal_f ts))

abbrev pub tree_of : List ℕ → Option Expr
tree_of line = tree_cut (lex_f line)

module _ {line : List ℕ} {e : Expr} where
  tree_from_is : {ts : List Token} → Tokens line 0 ts → (o : Out) → run G (N ‹Expr› ∷ []) (map terminal_f ts) ≡ o → tree_read_from ts o ≡ some e → LineTree line e
  tree_from_is its (refuse r) q k = absurd (no_clash (cc))
  tree_from_is {ts} its accept q k =
      let p = passed (every kept ts) k in
      let x = some_expression (have_terminals its) (accepts_sentence at_expression (map terminal_f ts) q) (λ i h. kept_all p.0 h) in
      let z = tree_read x.1 nothing_behind in
      let y : x.0 ≡ e = same_tree (ap its_tree (sym z) ∙ p.1) in
      record { tokens = ts; its = its; tree = subst (λ (f : Expr). Tree anywhere 1 ts [] f) y x.1 }
    where
      same_tree : {f g : Expr} → some f ≡ some g → f ≡ g
      same_tree h = cc

  tree_cut_is : (x : Lexed) → Is line 0 x → tree_cut x ≡ some e → LineTree line e
  tree_cut_is (stuck p) h k = absurd (no_clash (cc))
  tree_cut_is (tokens ts) h k = tree_from_is h (run G (N ‹Expr› ∷ []) (map terminal_f ts)) refl k

-- what is computed is the tree of the line
pub tree_computed : (line : List ℕ) {e : Expr} → tree_of line ≡ some e → LineTree line e
tree_computed line k = tree_cut_is (lex_f line) (lexed line) k
