-- Laws: what specs/Lexer.antt finds are the text's tokens.
use Rattle.std.specs.Prelude.{ℕ, zero, suc, ◌+◌, ◌≤◌, ◌<◌, ◌≡◌, refl, Bool, true, false, cond, ◌&&◌, ◌||◌, eqb, length, take, drop}
use Prim.Native.String.{String}
use Rattle.std.proofs.Common.{arith, sym, ap, subst, ◌∙◌, ⊎_elim, length-drop, drop-drop, eqb-true}
use Rattle.std.proofs.Math.Option.{Option, none, some}
use mathlib.Core.List.{List, [], ◌∷◌, Memᴰ}
use Rattle.std.proofs.lemmas.Bool.{eqb-false}
use Rattle.paper_expressions.proofs.Laws.Tests.{Iff, contra, two, and_l, and_r, or_l, or_r, or_cases}
use Rattle.paper_expressions.specs.Bytes.{bytes}
use Rattle.paper_tokens.specs.Forms.{Form, never, empty, any, one, ◌then◌, ◌or◌, many, no}
use Rattle.paper_tokens.specs.Words.{reserved}
use Rattle.paper_tokens.specs.Lexical.{Rule, reserved_word, atom, integer, float, double_quoted_string, white_space, comment, order, bare_atom, quoted_atom, integer_form, float_form, string_form, white_form, comment_form}
use Rattle.paper_tokens.specs.Lexical.{Matches, Longest, Skipped, skips_white_space, skips_comment, Token, token, Tokens, at_end, skip, take_token}
use Rattle.paper_tokens.proofs.Laws.FormsLaws.{nul, deriv, match_f, match_law}
use Rattle.paper_tokens.proofs.Laws.LexicalLaws.{same_order}
use Rattle.paper_tokens.proofs.Laws.LexicalTwin.{same, same_is, same_self, skipped}
use Rattle.paper_worked.specs.Lexer.{Left, found, matches, words_behind, behind, whole_words, start, gone, no_word, dead, or_next, first_f, First, is_first, no_first, one_longer, or_here, longer, Most, LongestOf, a_longest, no_longest, with_token, goes, tokens_from, tokens_f, Are}

-- ---- what the rules still ask for, behind some bytes

cond_found : (b : ℕ) (w v : List ℕ) (l : List (List ℕ)) (t : Bool) → found (b ∷ w) l ≡ found w (words_behind b l)
    → (t && same w v) || found (b ∷ w) l ≡ found w (cond t (v ∷ words_behind b l) (words_behind b l))
cond_found b w v l true e = ap (λ (x : Bool). same w v || x) e
cond_found b w v l false e = e

found_behind : (b : ℕ) (w : List ℕ) (l : List (List ℕ)) → found (b ∷ w) l ≡ found w (words_behind b l)
found_behind b w [] = refl
found_behind b w ([] ∷ l) = found_behind b w l
found_behind b w ((c ∷ v) ∷ l) = cond_found b w v l (eqb b c) (found_behind b w l)

matches_behind : (r : Rule) (l : Left) (b : ℕ) (w : List ℕ) → matches r l (b ∷ w) ≡ matches r (behind b l) w
matches_behind reserved_word l b w = found_behind b w l.words
matches_behind atom l b w = refl
matches_behind integer l b w = refl
matches_behind float l b w = refl
matches_behind double_quoted_string l b w = refl
matches_behind white_space l b w = refl
matches_behind comment l b w = refl

-- ---- at the start of a token

listed : (w : List ℕ) (l : List (ℕ × String)) → found w (whole_words l) ≡ true → (k : ℕ) × (s : String) × Memᴰ (k, s) l × (w ≡ bytes s)
listed w [] e = contra e
listed w (x ∷ l) e = ⊎_elim
    (λ (h : same w (bytes x.1) ≡ true). (x.0, x.1, Memᴰ.head refl, same_is w (bytes x.1) h))
    (λ (h : found w (whole_words l) ≡ true). let r = listed w l h in (r.0, r.1, Memᴰ.tail r.2, r.3))
    (or_cases (same w (bytes x.1)) (found w (whole_words l)) e)

listed_found : {w : List ℕ} {k : ℕ} {s : String} {l : List (ℕ × String)} → Memᴰ (k, s) l → w ≡ bytes s → found w (whole_words l) ≡ true
listed_found {w} {s} (Memᴰ.head {x} {xs} h) e =
    let f : bytes s ≡ bytes x.1 = ap (λ (y : ℕ × String). bytes y.1) h in
    or_l (same w (bytes x.1)) (found w (whole_words xs)) (subst (λ (v : List ℕ). same w v ≡ true) (e ∙ f) (same_self w))
listed_found {w} (Memᴰ.tail {x} {xs} m) e = or_r (same w (bytes x.1)) (found w (whole_words xs)) (listed_found m e)

starts_as : (r : Rule) (w : List ℕ) → Iff (Matches r w) (matches r start w ≡ true)
unfolding Matches
starts_as reserved_word w = (λ m. listed_found m.1.listed m.1.same, λ e. let k = listed w reserved e in (k.0, record { string = k.1; listed = k.2; same = k.3 }))
starts_as atom w = match_law (bare_atom or quoted_atom) w
starts_as integer w = match_law integer_form w
starts_as float w = match_law float_form w
starts_as double_quoted_string w = match_law string_form w
starts_as white_space w = match_law white_form w
starts_as comment w = match_law comment_form w

-- ---- no rule can go on

never_more : (w : List ℕ) → match_f never w ≡ false
unfolding nul deriv
never_more [] = refl
never_more (b ∷ w) = never_more w

gone_more : (x : Form) (w : List ℕ) → gone x ≡ true → match_f x w ≡ false
gone_more never w e = never_more w
gone_more empty w e = contra e
gone_more any w e = contra e
gone_more (one ks) w e = contra e
gone_more (x then y) w e = contra e
gone_more (x or y) w e = contra e
gone_more (many x) w e = contra e
gone_more (no x) w e = contra e

no_found : (w : List ℕ) (l : List (List ℕ)) → no_word l ≡ true → found w l ≡ false
no_found w [] e = refl
no_found w (v ∷ l) e = contra e

dead_more : (l : Left) → dead l ≡ true → (r : Rule) (w : List ℕ) → matches r l w ≡ false
dead_more l e r w = go r
  where
    -- the tests, one after the other
    a : dead l ≡ true
    a = e

    ints : gone l.integers && (gone l.floats && (gone l.strings && (gone l.blanks && (gone l.comments && no_word l.words)))) ≡ true
    ints = and_r (gone l.atoms) _ a

    flts : gone l.floats && (gone l.strings && (gone l.blanks && (gone l.comments && no_word l.words))) ≡ true
    flts = and_r (gone l.integers) _ ints

    strs : gone l.strings && (gone l.blanks && (gone l.comments && no_word l.words)) ≡ true
    strs = and_r (gone l.floats) _ flts

    blks : gone l.blanks && (gone l.comments && no_word l.words) ≡ true
    blks = and_r (gone l.strings) _ strs

    cmts : gone l.comments && no_word l.words ≡ true
    cmts = and_r (gone l.blanks) _ blks

    go : (r : Rule) → matches r l w ≡ false
    go reserved_word = no_found w l.words (and_r (gone l.comments) _ cmts)
    go atom = gone_more l.atoms w (and_l (gone l.atoms) _ a)
    go integer = gone_more l.integers w (and_l (gone l.integers) _ ints)
    go float = gone_more l.floats w (and_l (gone l.floats) _ flts)
    go double_quoted_string = gone_more l.strings w (and_l (gone l.strings) _ strs)
    go white_space = gone_more l.blanks w (and_l (gone l.blanks) _ blks)
    go comment = gone_more l.comments w (and_l (gone l.comments) _ cmts)

-- ---- the first rule, in their order, that is matched here

is_or_later : {P : Type 0} (r s : Rule) → order r ≤ order s → (r ≡ s → P) → (suc (order r) ≤ order s → P) → P
is_or_later r s h f g = ⊎_elim
    (λ (e : eqb (order r) (order s) ≡ true). f (same_order (eqb-true (order r) (order s) e)))
    (λ (e : eqb (order r) (order s) ≡ false). let d = eqb-false (order r) (order s) e in g (omega arith))
    (two (eqb (order r) (order s)))

first_step : {p : Rule → Bool} (r : Rule) (t : Bool) {o : Option Rule} → p r ≡ t → First p (suc (order r)) o → First p (order r) (or_next t r o)
first_step r true e h = is_first e (λ s l m. l)
first_step {p} r false e (is_first {r = q} m b) = is_first m (λ s l n. is_or_later r s l (λ f. contra (sym e ∙ ap p f ∙ n)) (λ d. b s d n))
first_step {p} r false e (no_first b) = no_first (λ s l n. is_or_later r s l (λ f. contra (sym e ∙ ap p f ∙ n)) (λ d. b s d n))

below_seven : (r : Rule) → order r < 7
below_seven reserved_word = omega arith
below_seven atom = omega arith
below_seven integer = omega arith
below_seven float = omega arith
below_seven double_quoted_string = omega arith
below_seven white_space = omega arith
below_seven comment = omega arith

firsts : (l : Left) → First (λ r. matches r l []) 0 (first_f l)
firsts l =
    first_step reserved_word (matches reserved_word l []) refl
    (first_step atom (matches atom l []) refl
    (first_step integer (matches integer l []) refl
    (first_step float (matches float l []) refl
    (first_step double_quoted_string (matches double_quoted_string l []) refl
    (first_step white_space (matches white_space l []) refl
    (first_step comment (matches comment l []) refl (no_first (λ s i m. let b = below_seven s in omega arith))))))))

-- ---- the longest match, of these bytes or more

here_too : {l : Left} {w : List ℕ} {o : Option (Rule × ℕ)} {p : Option Rule} → LongestOf l w 1 o → First (λ r. matches r l []) 0 p → LongestOf l w 0 (or_here o p)
here_too {l} {w} (a_longest {b} h) f = a_longest {b = b} (record { fits = h.fits; enough = omega arith; inside = h.inside; most = most; first = h.first })
  where
    most : (s : Rule) (k : ℕ) → 0 ≤ k → k ≤ length w → matches s l (take k w) ≡ true → k ≤ b.1
    most s zero i j m = omega arith
    most s (suc k) i j m = h.most s (suc k) (omega arith) j m
here_too {l} {w} (no_longest n) (is_first {r} m b) = a_longest {b = (r, 0)} (record { fits = m; enough = omega arith; inside = omega arith; most = most; first = λ s q. b s (omega arith) q })
  where
    most : (s : Rule) (k : ℕ) → 0 ≤ k → k ≤ length w → matches s l (take k w) ≡ true → k ≤ 0
    most s zero i j q = omega arith
    most s (suc k) i j q = absurd (n s (suc k) (omega arith) j q)
here_too {l} {w} (no_longest n) (no_first b) = no_longest none_here
  where
    none_here : (s : Rule) (k : ℕ) → 0 ≤ k → k ≤ length w → matches s l (take k w) ≡ true → ⊥
    none_here s zero i j q = b s (omega arith) q
    none_here s (suc k) i j q = n s (suc k) (omega arith) j q

module _ (l : Left) (b : ℕ) (w : List ℕ) where
  longer_by_one : {o : Option (Rule × ℕ)} → LongestOf (behind b l) w 0 o → LongestOf l (b ∷ w) 1 (one_longer o)
  longer_by_one (a_longest {b = c} h) =
      let i = h.inside in
      a_longest {b = (c.0, suc c.1)} (record {
        fits = matches_behind c.0 l b (take c.1 w) ∙ h.fits;
        enough = omega arith;
        inside = omega arith;
        most = most;
        first = λ s q. h.first s (sym (matches_behind s l b (take c.1 w)) ∙ q);
      })
    where
      most : (s : Rule) (k : ℕ) → 1 ≤ k → k ≤ length (b ∷ w) → matches s l (take k (b ∷ w)) ≡ true → k ≤ suc c.1
      most s zero i j q = absurd (omega arith)
      most s (suc k) i j q = let m = h.most s k (omega arith) (omega arith) (sym (matches_behind s l b (take k w)) ∙ q) in omega arith
  longer_by_one (no_longest n) = no_longest nothing
    where
      nothing : (s : Rule) (k : ℕ) → 1 ≤ k → k ≤ length (b ∷ w) → matches s l (take k (b ∷ w)) ≡ true → ⊥
      nothing s zero i j q = omega arith
      nothing s (suc k) i j q = n s k (omega arith) (omega arith) (sym (matches_behind s l b (take k w)) ∙ q)

  dead_end : dead (behind b l) ≡ true → LongestOf l (b ∷ w) 1 none
  dead_end e = no_longest nothing
    where
      nothing : (s : Rule) (k : ℕ) → 1 ≤ k → k ≤ length (b ∷ w) → matches s l (take k (b ∷ w)) ≡ true → ⊥
      nothing s zero i j q = omega arith
      nothing s (suc k) i j q = contra (sym (dead_more (behind b l) e s (take k w)) ∙ sym (matches_behind s l b (take k w)) ∙ q)

  longer_step : (t : Bool) {o : Option (Rule × ℕ)} → dead (behind b l) ≡ t → LongestOf (behind b l) w 0 o → LongestOf l (b ∷ w) 1 (cond t none (one_longer o))
  longer_step true e h = dead_end e
  longer_step false e h = longer_by_one h

longest_is : (l : Left) (w : List ℕ) → LongestOf l w 1 (longer l w)
longest_is l [] = no_longest (λ s k i j q. omega arith)
longest_is l (b ∷ w) = longer_step l b w (dead (behind b l)) refl (here_too (longest_is (behind b l) w) (firsts (behind b l)))

-- ---- the tokens, in at most n steps; none where no rule matches

skipped_is : (r : Rule) → skipped r ≡ true → Skipped r
skipped_is reserved_word e = contra e
skipped_is atom e = contra e
skipped_is integer e = contra e
skipped_is float e = contra e
skipped_is double_quoted_string e = contra e
skipped_is white_space e = skips_white_space
skipped_is comment e = skips_comment

not_skipped : {r : Rule} → skipped r ≡ false → ¬ Skipped r
not_skipped e skips_white_space = contra (sym e)
not_skipped e skips_comment = contra (sym e)

module _ (text : List ℕ) (at : ℕ) (inside : at ≤ length text) where
  as_longest : {b : Rule × ℕ} → Most start (drop at text) 1 b → Longest text at b.0 b.1
  as_longest {b} h =
      let n = length-drop at text in
      let i = h.inside in
      record {
        fits = record { some_bytes = h.enough; inside = omega arith; matches = (starts_as b.0 (take b.1 (drop at text))).1 h.fits };
        longest = λ {s} {m} x. let j = x.inside in h.most s m x.some_bytes (omega arith) ((starts_as s (take m (drop at text))).0 x.matches);
        first = λ {s} x. h.first s ((starts_as s (take b.1 (drop at text))).0 x.matches);
      }

  goes_on : (r : Rule) (m : ℕ) (t : Bool) (o : Option (List Token)) → skipped r ≡ t → Longest text at r m → Are text (at + m) o → Are text at (cond t o (with_token (token text at r m) o))
  goes_on r m true none e h k = tt
  goes_on r m true (some ts) e h k = skip h (skipped_is r e) k
  goes_on r m false none e h k = tt
  goes_on r m false (some ts) e h k = take_token h (not_skipped e) k

  goes_is : (o : Option (Rule × ℕ)) (f : ℕ → Option (List Token)) → LongestOf start (drop at text) 1 o
      → ((m : ℕ) → at + m ≤ length text → Are text (at + m) (f m)) → Are text at (goes at (drop at text) o f)
  goes_is o f (no_longest n) k = tt
  goes_is o f (a_longest {b} h) k = let q = as_longest h in goes_on b.0 b.1 (skipped b.0) (f b.1) refl q (k b.1 q.fits.inside)

tokens_are_from : (text : List ℕ) (n at : ℕ) (w : List ℕ) → at ≤ length text → drop at text ≡ w → Are text at (tokens_from n at w)
tokens_are_from text zero at w l e = tt
tokens_are_from text (suc n) at [] l e = at_end {at = at} (let m = length-drop at text in let z : length (drop at text) ≡ 0 = ap length e in omega arith)
tokens_are_from text (suc n) at (b ∷ w) l e =
    subst (λ (v : List ℕ). Are text at (goes at v (longer start v) (λ m. tokens_from n (at + m) (drop m v)))) e
    (goes_is text at l (longer start (drop at text)) (λ m. tokens_from n (at + m) (drop m (drop at text))) (longest_is start (drop at text))
    (λ m i. tokens_are_from text n (at + m) (drop m (drop at text)) i (sym (drop-drop m at text))))

-- what is computed are the tokens of the text
pub tokens_are : {text : List ℕ} {ts : List Token} → tokens_f text ≡ some ts → Tokens text 0 ts
tokens_are {text} e = subst (Are text 0) e (tokens_are_from text (suc (length text)) 0 text (omega arith) refl)
