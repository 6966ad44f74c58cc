-- Form has the sentences of 3.2, by one computed test each way; and so the machine accepts exactly the sentences, and stops at the first token that no sentence can have there.
use Rattle.std.specs.Prelude.{ℕ, zero, suc, ◌≤◌, ◌<◌, ◌+◌, ◌≡◌, refl, Bool, true, false, cond, ◌&&◌, ◌||◌, not, ◌⊎◌, List, [], ◌∷◌, ◌++◌, map, eqb, ltb, length, get_or, take, drop}
use Rattle.std.proofs.Common.{sym, ap, subst, ◌∙◌, inl, inr, ⊎_elim, append_assoc, arith, take-append-drop, take-take, eqb-true, ltb-true, ltb-false}
use Rattle.std.proofs.Math.ListN.{get_or-eq_default}
use Rattle.std.proofs.lemmas.Bool.{eqb-false}
use Rattle.paper_expressions.proofs.Laws.Tests.{contra, and_l, and_r, two, every}
use Rattle.paper_tokens.specs.Tokens.{terminals}
use Rattle.paper_grammar.specs.Nonterminals.{⟨process⟩, ⟨expression⟩}
use Rattle.paper_grammar.specs.Grammar.{printed, no_and, atoms, grammar}
use Rattle.paper_grammar.specs.Sentence.{SentenceOf, Begins, FirstBad}
use Rattle.paper_grammar.proofs.Laws.Ll.{Sym, N, Alt, Out, accept, refuse, run, distinct, good_alts, apart, lawful}
use Rattle.paper_grammar.proofs.Laws.LlLaws.{Sentence, Viable, accepted, all_accepted, left_at, refused}
use Rattle.paper_grammar.proofs.Laws.Tagged.{Rule, Yields, tag, tags, tag_rules, left_is, derives_yields, yields_derives}
use Rattle.paper_grammar.proofs.Laws.Forward.{admits, forward}
use Rattle.paper_grammar.proofs.Laws.Backward.{candidates, candidates_in, from_start, alt_meant, meant, backward}
use Rattle.paper_grammar.proofs.Laws.Images.{image_of}
use Rattle.paper_grammar.proofs.Laws.Follow.{follow_of, word_alt, word_of}
use Rattle.paper_grammar.proofs.Laws.Form.{rows, blanks, G, count, ‹Process›, ‹Expr›, ‹Expr-tail›, ‹Xna›, ‹Xna-tail›, ‹Assertion-tail›}
use Rattle.paper_grammar.proofs.Laws.Meanings.{meanings}

-- a test at every symbol
abbrev upto : (ℕ → Bool) → ℕ → Bool
upto f zero = true
upto f (suc n) = f n && upto f n

upto_at : (f : ℕ → Bool) (n : ℕ) → upto f n ≡ true → (k : ℕ) → k < n → f k ≡ true
upto_at f zero h k l = absurd (omega arith)
upto_at f (suc n) h k l = ⊎_elim
    (λ (t : eqb k n ≡ true). subst (λ (j : ℕ). f j ≡ true) (sym (eqb-true k n t)) (and_l (f n) (upto f n) h))
    (λ (t : eqb k n ≡ false). let d = eqb-false k n t in upto_at f n (and_r (f n) (upto f n) h) k (omega arith))
    (two (eqb k n))

everywhere : (f : ℕ → Bool) → upto f count ≡ true → ((x : ℕ) → count ≤ x → f x ≡ true) → (x : ℕ) → f x ≡ true
everywhere f h g x = ⊎_elim
    (λ (t : ltb x count ≡ true). upto_at f count h x (ltb-true x count t))
    (λ (t : ltb x count ≡ false). g x (ltb-false x count t))
    (two (ltb x count))

row_none : (x : ℕ) → count ≤ x → get_or rows x [] ≡ []
unfolding rows
row_none x h = get_or-eq_default rows [] h

blank_none : (x : ℕ) → count ≤ x → get_or blanks x true ≡ true
unfolding blanks
blank_none x h = get_or-eq_default blanks true h

-- the start symbols, in 3.2 and in the form
pub data Starts : ℕ → ℕ → Type 0 where
  at_process : Starts ⟨process⟩ ‹Process›
  at_expression : Starts ⟨expression⟩ ‹Expr›

abbrev rules : List Rule
rules = tag_rules terminals grammar

lefts : every (left_is terminals) grammar ≡ true
unfolding grammar printed no_and atoms
lefts = refl

start_tag : {A X : ℕ} → Starts A X → tag terminals A ≡ N A
start_tag at_process = refl
start_tag at_expression = refl

-- 1. In 3.2, so in the form.
abbrev image : ℕ → List (List (Sym ℕ))
image a = image_of rules (map (λ (m : List ℕ × List ℕ). (tags terminals m.0, tags terminals m.1)) meanings) 9 a

abbrev tail : ℕ → ℕ
tail x = cond (eqb x ‹Expr›) ‹Expr-tail› (cond (eqb x ‹Xna›) ‹Xna-tail› ‹Assertion-tail›)

all_admitted : every (admits G 64 tail rules image) rules ≡ true
unfolding grammar printed no_and atoms rows blanks meanings
all_admitted = refl

start_image : {A X : ℕ} → Starts A X → image A ≡ (N X ∷ []) ∷ []
unfolding grammar printed no_and atoms meanings
start_image at_process = refl
start_image at_expression = refl

pub in_form : {A X : ℕ} → Starts A X → (w : List ℕ) → SentenceOf A w → Sentence G X w
unfolding SentenceOf Sentence
in_form {A} {X} s w d = forward G 64 tail rules image all_admitted A X (start_image s) (subst (λ (x : Sym ℕ). Yields rules (x ∷ []) w) (start_tag s) (derives_yields terminals grammar lefts d))

-- 2. In the form, so in 3.2.
abbrev before : ℕ → List (Sym ℕ)
before x = tags terminals (get_or meanings x ([], [])).0

abbrev beyond : ℕ → List (Sym ℕ)
beyond x = tags terminals (get_or meanings x ([], [])).1

meant_below : upto (meant rules G before beyond (candidates rules 256) 32) count ≡ true
unfolding grammar printed no_and atoms rows blanks meanings
meant_below = refl

no_meaning : (x : ℕ) → count ≤ x → get_or meanings x ([], []) ≡ ([], [])
unfolding meanings
no_meaning x h = get_or-eq_default meanings ([], []) h

all_meant : (x : ℕ) → meant rules G before beyond (candidates rules 256) 32 x ≡ true
all_meant = everywhere (meant rules G before beyond (candidates rules 256) 32) meant_below (λ x h.
    ap (λ (r : List (Alt ℕ)). every (alt_meant rules G before beyond (candidates rules 256) 32 x) r && (not (G.empty x) || from_start rules G before beyond (candidates rules 256) 32 (before x) [] (beyond x))) (row_none x h)
    ∙ ap (λ (b : Bool). not b || from_start rules G before beyond (candidates rules 256) 32 (before x) [] (beyond x)) (blank_none x h)
    ∙ ap (λ (m : List ℕ × List ℕ). from_start rules G before beyond (candidates rules 256) 32 (tags terminals m.0) [] (tags terminals m.1)) (no_meaning x h))

start_before : {A X : ℕ} → Starts A X → before X ≡ []
unfolding meanings
start_before at_process = refl
start_before at_expression = refl

start_beyond : {A X : ℕ} → Starts A X → beyond X ≡ N A ∷ []
unfolding meanings
start_beyond at_process = refl
start_beyond at_expression = refl

pub in_print : {A X : ℕ} → Starts A X → (w : List ℕ) → Sentence G X w → SentenceOf A w
unfolding SentenceOf Sentence
in_print {A} {X} s w d =
    let y = backward rules G before beyond (candidates rules 256) (candidates_in rules 256) 32 all_meant A X (start_before s) (start_beyond s) d in
    yields_derives terminals grammar lefts y (A ∷ []) (ap (λ (x : Sym ℕ). x ∷ []) (sym (start_tag s)))

-- 3. The form is lawful, and each of its symbols has a word.
abbrev follow : ℕ → List ℕ
follow = follow_of G count 7

abbrev a_word : ℕ → List ℕ
a_word = word_of G 12

lawful_below : upto (lawful G follow) count ≡ true
unfolding rows blanks
lawful_below = refl

pub law : (x : ℕ) → lawful G follow x ≡ true
law = everywhere (lawful G follow) lawful_below (λ x h.
    ap (λ (r : List (Alt ℕ)). distinct r && (good_alts G follow r (follow x) && (not (G.empty x) || apart r (follow x)))) (row_none x h)
    ∙ ap (λ (e : Bool). not e || true) (blank_none x h))

abbrev ok : Out → Bool
ok accept = true
ok (refuse r) = false

is_ok : (o : Out) → ok o ≡ true → o ≡ accept
is_ok accept e = refl
is_ok (refuse r) e = contra e

words_below : upto (λ x. ok (run G (N x ∷ []) (a_word x))) count ≡ true
unfolding rows blanks
words_below = refl

no_word : (x : ℕ) → count ≤ x → a_word x ≡ []
no_word x h = ap (λ (b : Bool). cond b [] (word_alt G (word_of G 11) (G.alts x))) (blank_none x h)

pub productive : (x : ℕ) → run G (N x ∷ []) (a_word x) ≡ accept
productive x = is_ok _ (everywhere (λ x. ok (run G (N x ∷ []) (a_word x))) words_below (λ x h.
    ap (λ (w : List ℕ). ok (run G (N x ∷ []) w)) (no_word x h) ∙ ap (λ (e : Bool). ok (cond (e && true) accept (refuse []))) (blank_none x h)) x)

-- 4. What the machine says of 3.2.
pub accepts_sentence : {A X : ℕ} → Starts A X → (w : List ℕ) → run G (N X ∷ []) w ≡ accept → SentenceOf A w
accepts_sentence {A} {X} s w e = in_print s w (accepted G follow law a_word productive X w e)

pub sentence_accepted : {A X : ℕ} → Starts A X → (w : List ℕ) → SentenceOf A w → run G (N X ∷ []) w ≡ accept
sentence_accepted {A} {X} s w d = all_accepted G follow law a_word productive X w (in_form s w d)

viable_begins : {A X : ℕ} → Starts A X → (u : List ℕ) → Viable G X u → Begins A u
unfolding Begins Viable Sentence
viable_begins s u v = (v.0, in_print s (u ++ v.0) v.1)

begins_viable : {A X : ℕ} → Starts A X → (u : List ℕ) → Begins A u → Viable G X u
unfolding Begins Viable Sentence
begins_viable s u v = (v.0, in_form s (u ++ v.0) v.1)

pub refuses_at : {A X : ℕ} → Starts A X → (w : List ℕ) (i : ℕ) → i ≤ length w → run G (N X ∷ []) w ≡ refuse (drop i w) → FirstBad A w i
refuses_at {A} {X} s w i h e =
    let r = refused G follow law a_word productive X w i h e in
    record {
      no_sentence = λ d. r.no_sentence (in_form s w d);
      within = r.within_it;
      so_far = viable_begins s (take i w) r.viable;
      no_further = λ l b. r.first_bad l (begins_viable s (take (i + 1) w) b);
    }

-- 5. Every list of tokens is a sentence or has a first bad place, and not two.
pub sentence_or_bad : {A X : ℕ} → Starts A X → (w : List ℕ) → SentenceOf A w ⊎ ((i : ℕ) × FirstBad A w i)
sentence_or_bad {A} {X} s w =
    let by : (o : Out) → run G (N X ∷ []) w ≡ o → SentenceOf A w ⊎ ((i : ℕ) × FirstBad A w i) = elim [
      | accept ↦ λ e. inl (accepts_sentence s w e)
      | refuse r ↦ λ e. let p = left_at G w (N X ∷ []) r e in inr (p.0, refuses_at s w p.0 p.1 (e ∙ ap refuse p.2))
    ] in
    by (run G (N X ∷ []) w) refl

begins_less : (A : ℕ) (w : List ℕ) (m n : ℕ) → m ≤ n → Begins A (take n w) → Begins A (take m w)
unfolding Begins
begins_less A w m n h b =
    let e : take n w ≡ take m w ++ drop m (take n w) = sym (take-append-drop m (take n w)) ∙ ap (λ (l : List ℕ). l ++ drop m (take n w)) (take-take m n w h) in
    (drop m (take n w) ++ b.0, subst (λ (l : List ℕ). SentenceOf A l) (ap (λ (l : List ℕ). l ++ b.0) e ∙ append_assoc (take m w) (drop m (take n w)) b.0) b.1)

not_before : {A : ℕ} {w : List ℕ} {i j : ℕ} → FirstBad A w i → FirstBad A w j → i < j → ⊥
not_before {A} {w} {i} {j} a b h =
    let l : i < length w = omega (arith, b.within) in
    let m : i + 1 ≤ j = omega arith in
    a.no_further l (begins_less A w (i + 1) j m b.so_far)

pub first_bad_one : {A : ℕ} {w : List ℕ} {i j : ℕ} → FirstBad A w i → FirstBad A w j → i ≡ j
first_bad_one {A} {w} {i} {j} a b = ⊎_elim
    (λ (t : ltb i j ≡ true). absurd (not_before a b (ltb-true i j t)))
    (λ (t : ltb i j ≡ false). ⊎_elim
    (λ (u : ltb j i ≡ true). absurd (not_before b a (ltb-true j i u)))
    (λ (u : ltb j i ≡ false). let x = ltb-false i j t in let y = ltb-false j i u in omega arith)
    (two (ltb j i)))
    (two (ltb i j))
