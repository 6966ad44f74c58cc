-- Reading can be computed: every text has its tokens, or a place where the reader comes and no rule matches. By trying each length from the longest down.
use Rattle.std.specs.Prelude.{ℕ, zero, suc, ◌+◌, ◌-◌, ◌≤◌, ◌<◌, ◌≡◌, refl, Bool, true, false, cond, ◌&&◌, ◌⊎◌, eqb, length}
use Prim.Native.String.{String}
use Rattle.std.proofs.Common.{arith, sym, ap, subst, ◌∙◌, inl, inr, ⊎_elim, eqb-true, eq-eqb}
use Rattle.std.proofs.Math.Option.{Option, none, some}
use mathlib.Core.List.{List, [], ◌∷◌, Memᴰ}
use Rattle.std.proofs.lemmas.Bool.{eqb-false}
use Rattle.paper_expressions.proofs.Laws.Tests.{Iff, contra, two, both}
use Rattle.paper_expressions.specs.Bytes.{bytes}
use Rattle.paper_tokens.specs.Forms.{◌or◌, Match}
use Rattle.paper_tokens.proofs.Laws.FormsLaws.{match_f, match_law}
use Rattle.paper_tokens.proofs.Laws.LexicalLaws.{by_order, by_its_order}
use Rattle.paper_tokens.specs.Words.{reserved}
use Rattle.paper_tokens.specs.Lexical.{Rule, reserved_word, atom, integer, float, double_quoted_string, white_space, comment, order, Reserved, bare_atom, quoted_atom, integer_form, float_form, string_form, white_form, comment_form, Matches, part, Fits, Longest, Skipped, skips_white_space, skips_comment, Token, token, Tokens, at_end, skip, take_token, Comes, starts, goes_on, Stuck}

-- ---- two byte strings are the same

abbrev pub same : List ℕ → List ℕ → Bool
same [] [] = true
same [] (b ∷ w) = false
same (a ∷ v) [] = false
same (a ∷ v) (b ∷ w) = eqb a b && same v w

and_both : (a b : Bool) → a && b ≡ true → (a ≡ true) × (b ≡ true)
and_both true b e = (refl, e)
and_both false b e = contra e

pub same_is : (v w : List ℕ) → same v w ≡ true → v ≡ w
same_is [] [] e = refl
same_is [] (b ∷ w) e = contra e
same_is (a ∷ v) [] e = contra e
same_is (a ∷ v) (b ∷ w) e =
    let p = and_both (eqb a b) (same v w) e in
    let h = eqb-true a b p.0 in
    let k = same_is v w p.1 in
    cc

pub same_self : (w : List ℕ) → same w w ≡ true
same_self [] = refl
same_self (b ∷ w) = both (eqb b b) (same w w) (eq-eqb b b refl) (same_self w)

-- ---- which reserved word it is

abbrev pub word_in : List ℕ → List (ℕ × String) → Option ℕ
word_in w [] = none
word_in w (e ∷ es) = cond (same w (bytes e.1)) (some e.0) (word_in w es)

abbrev pub word_f : List ℕ → Option ℕ
word_f w = word_in w reserved

-- the word k is among these, with these bytes
record Listed (w : List ℕ) (k : ℕ) (es : List (ℕ × String)) : Type 0 where
  pub string : String
  pub among : Memᴰ (k, string) es
  pub its : w ≡ bytes string

found_at : {w : List ℕ} {k : ℕ} {e : ℕ × String} {es : List (ℕ × String)} (t : Bool)
    → (t ≡ true → w ≡ bytes e.1) → (word_in w es ≡ some k → Listed w k es)
    → cond t (some e.0) (word_in w es) ≡ some k → Listed w k (e ∷ es)
found_at {k} {e} true s r h =
    let f : e.0 ≡ k = cc in
    record { string = e.1; among = Memᴰ.head (λ i. (sym f i, e.1)); its = s refl }
found_at false s r h = let l = r h in record { string = l.string; among = Memᴰ.tail l.among; its = l.its }

found_in : {w : List ℕ} {k : ℕ} (es : List (ℕ × String)) → word_in w es ≡ some k → Listed w k es
found_in [] h = absurd (let z : ◌≡◌ {A = ℕ} 0 1 = cc in omega arith)
found_in {w} (e ∷ es) h = found_at (same w (bytes e.1)) (same_is w (bytes e.1)) (found_in es) h

abbrev there : {A : Type 0} → Option A → Bool
there none = false
there (some a) = true

there_cond : (t : Bool) (a : ℕ) (o : Option ℕ) → (t ≡ true) ⊎ (there o ≡ true) → there (cond t (some a) o) ≡ true
there_cond true a o h = refl
there_cond false a o (inl h) = contra h
there_cond false a o (inr h) = h

listed_found : {w : List ℕ} {k : ℕ} {s : String} {es : List (ℕ × String)} → Memᴰ (k, s) es → w ≡ bytes s → there (word_in w es) ≡ true
listed_found {w} {s} (Memᴰ.head {x} {xs} h) e =
    let f : bytes s ≡ bytes x.1 = ap (λ (y : ℕ × String). bytes y.1) h in
    there_cond (same w (bytes x.1)) x.0 (word_in w xs) (inl (subst (λ (v : List ℕ). same w v ≡ true) (e ∙ f) (same_self w)))
listed_found {w} (Memᴰ.tail {x} {xs} m) e = there_cond (same w (bytes x.1)) x.0 (word_in w xs) (inr (listed_found m e))

pub word_found : {w : List ℕ} {k : ℕ} → word_f w ≡ some k → Reserved w k
word_found h = let l = found_in reserved h in record { string = l.string; listed = l.among; same = l.its }

reserved_if : {w : List ℕ} (o : Option ℕ) → word_f w ≡ o → there o ≡ true → (k : ℕ) × Reserved w k
reserved_if none h t = contra t
reserved_if (some k) h t = (k, word_found h)

-- ---- the rules

abbrev pub rule_f : Rule → List ℕ → Bool
rule_f reserved_word w = there (word_f w)
rule_f atom w = match_f (bare_atom or quoted_atom) w
rule_f integer w = match_f integer_form w
rule_f float w = match_f float_form w
rule_f double_quoted_string w = match_f string_form w
rule_f white_space w = match_f white_form w
rule_f comment w = match_f comment_form w

pub rule_law : (r : Rule) (w : List ℕ) → Iff (Matches r w) (rule_f r w ≡ true)
unfolding Matches
rule_law reserved_word w = (λ m. listed_found m.1.listed m.1.same, λ t. reserved_if (word_f w) refl t)
rule_law atom w = match_law (bare_atom or quoted_atom) w
rule_law integer w = match_law integer_form w
rule_law float w = match_law float_form w
rule_law double_quoted_string w = match_law string_form w
rule_law white_space w = match_law white_form w
rule_law comment w = match_law comment_form w

-- ---- the first rule, in their order, that matches

-- of the k rules from the i-th on
abbrev first_from : ℕ → ℕ → List ℕ → Option Rule
first_from zero i w = none
first_from (suc k) i w = cond (rule_f (by_order i) w) (some (by_order i)) (first_from k (suc i) w)

abbrev pub first_f : List ℕ → Option Rule
first_f w = first_from 7 0 w

below_seven : (r : Rule) → order r < 7
below_seven reserved_word = omega arith
below_seven atom = omega arith
below_seven integer = omega arith
below_seven float = omega arith
below_seven double_quoted_string = omega arith
below_seven white_space = omega arith
below_seven comment = omega arith

order_of : (i : ℕ) → i < 7 → order (by_order i) ≡ i
order_of zero h = refl
order_of (suc zero) h = refl
order_of (suc (suc zero)) h = refl
order_of (suc (suc (suc zero))) h = refl
order_of (suc (suc (suc (suc zero)))) h = refl
order_of (suc (suc (suc (suc (suc zero))))) h = refl
order_of (suc (suc (suc (suc (suc (suc zero)))))) h = refl
order_of (suc (suc (suc (suc (suc (suc (suc i))))))) h = absurd (omega arith)

record First (w : List ℕ) (i : ℕ) (r : Rule) : Type 0 where
  pub matches : rule_f r w ≡ true
  pub before : (s : Rule) → i ≤ order s → rule_f s w ≡ true → order r ≤ order s

-- a rule from the i-th on is the i-th or one from the next on
is_or_later : {P : Type 0} (i : ℕ) (s : Rule) → i ≤ order s → (by_order i ≡ s → P) → (suc i ≤ order s → P) → P
is_or_later i s h f g = ⊎_elim
    (λ (e : eqb i (order s) ≡ true). f (ap by_order (eqb-true i (order s) e) ∙ by_its_order s))
    (λ (e : eqb i (order s) ≡ false). let d = eqb-false i (order s) e in g (omega arith))
    (two (eqb i (order s)))

first_step : {w : List ℕ} (k i : ℕ) (r : Rule) (t : Bool) → i < 7 → rule_f (by_order i) w ≡ t
    → (first_from k (suc i) w ≡ some r → First w (suc i) r)
    → cond t (some (by_order i)) (first_from k (suc i) w) ≡ some r → First w i r
first_step {w} k i r true l e go h =
    let f : by_order i ≡ r = cc in
    let o = order_of i l in
    record { matches = subst (λ (q : Rule). rule_f q w ≡ true) f e; before = λ s b m. subst (λ (q : Rule). order q ≤ order s) f (rw o b) }
first_step {w} k i r false l e go h =
    let n = go h in
    record { matches = n.matches; before = λ s b m. is_or_later i s b (λ f. contra (sym e ∙ ap (λ (q : Rule). rule_f q w) f ∙ m)) (λ d. n.before s d m) }

first_is : {w : List ℕ} (k i : ℕ) (r : Rule) → k + i ≡ 7 → first_from k i w ≡ some r → First w i r
first_is zero i r l h = absurd (let z : ◌≡◌ {A = ℕ} 0 1 = cc in omega arith)
first_is {w} (suc k) i r l h = first_step k i r (rule_f (by_order i) w) (omega arith) refl (first_is k (suc i) r (omega arith)) h

none_step : {w : List ℕ} (k i : ℕ) (t : Bool) → rule_f (by_order i) w ≡ t
    → (first_from k (suc i) w ≡ none → (s : Rule) → suc i ≤ order s → ¬ (rule_f s w ≡ true))
    → cond t (some (by_order i)) (first_from k (suc i) w) ≡ none → (s : Rule) → i ≤ order s → ¬ (rule_f s w ≡ true)
none_step k i true e go h s b m = let z : ◌≡◌ {A = ℕ} 0 1 = cc in omega arith
none_step {w} k i false e go h s b m =
    is_or_later i s b (λ f. contra (sym e ∙ ap (λ (q : Rule). rule_f q w) f ∙ m)) (λ d. go h s d m)

first_none : (w : List ℕ) (k i : ℕ) → k + i ≡ 7 → first_from k i w ≡ none → (s : Rule) → i ≤ order s → ¬ (rule_f s w ≡ true)
first_none w zero i l h s b m = let z = below_seven s in omega arith
first_none w (suc k) i l h s b m = none_step k i (rule_f (by_order i) w) refl (first_none w k (suc i) (omega arith)) h s b m

-- ---- the longest match

abbrev or_shorter : Option Rule → ℕ → Option (Rule × ℕ) → Option (Rule × ℕ)
or_shorter (some r) n o = some (r, n)
or_shorter none n o = o

-- among the lengths up to this one
abbrev best_up_to : List ℕ → ℕ → ℕ → Option (Rule × ℕ)
best_up_to text at zero = none
best_up_to text at (suc n) = let o = best_up_to text at n in or_shorter (first_f (part text at (suc n))) (suc n) o

abbrev pub longest_f : List ℕ → ℕ → Option (Rule × ℕ)
longest_f text at = best_up_to text at (length text - at)

module _ (text : List ℕ) (at : ℕ) where
  record Best (n : ℕ) (b : Rule × ℕ) : Type 0 where
    pub fits : Fits text at b.0 b.1
    pub longest : (s : Rule) (m : ℕ) → m ≤ n → Fits text at s m → m ≤ b.1
    pub first : (s : Rule) → Fits text at s b.1 → order b.0 ≤ order s

  best_step : (n : ℕ) (o : Option Rule) (b : Rule × ℕ) → at + suc n ≤ length text → first_f (part text at (suc n)) ≡ o
      → (best_up_to text at n ≡ some b → Best n b)
      → or_shorter o (suc n) (best_up_to text at n) ≡ some b → Best (suc n) b
  best_step n (some r) b l e go h =
      let f : (r, suc n) ≡ b = cc in
      let k = first_is 7 0 r refl e in
      subst (Best (suc n)) f (record {
        fits = record { some_bytes = omega arith; inside = l; matches = (rule_law r (part text at (suc n))).1 k.matches };
        longest = λ s m d x. d;
        first = λ s x. k.before s (omega arith) ((rule_law s (part text at (suc n))).0 x.matches);
      })
  best_step n none b l e go h =
      let k = go h in
      let no_longer = first_none (part text at (suc n)) 7 0 refl e in
      record {
        fits = k.fits;
        longest = λ s m d x. ⊎_elim
            (λ (t : eqb m (suc n) ≡ true). absurd (no_longer s (omega arith)
            ((rule_law s (part text at (suc n))).0 (subst (λ (i : ℕ). Matches s (part text at i)) (eqb-true m (suc n) t) x.matches))))
            (λ (t : eqb m (suc n) ≡ false). let q = eqb-false m (suc n) t in k.longest s m (omega arith) x)
            (two (eqb m (suc n)));
        first = k.first;
      }

  best_is : (n : ℕ) (b : Rule × ℕ) → at + n ≤ length text → best_up_to text at n ≡ some b → Best n b
  best_is zero b l h = absurd (let z : ◌≡◌ {A = ℕ} 0 1 = cc in omega arith)
  best_is (suc n) b l h = best_step n (first_f (part text at (suc n))) b l refl (best_is n b (omega arith)) h

  none_fits_step : (n : ℕ) (o : Option Rule) → first_f (part text at (suc n)) ≡ o
      → (best_up_to text at n ≡ none → (s : Rule) (m : ℕ) → m ≤ n → ¬ Fits text at s m)
      → or_shorter o (suc n) (best_up_to text at n) ≡ none → (s : Rule) (m : ℕ) → m ≤ suc n → ¬ Fits text at s m
  none_fits_step n (some r) e go h s m d x = let z : ◌≡◌ {A = ℕ} 0 1 = cc in omega arith
  none_fits_step n none e go h s m d x = ⊎_elim
      (λ (t : eqb m (suc n) ≡ true). first_none (part text at (suc n)) 7 0 refl e s (omega arith)
      ((rule_law s (part text at (suc n))).0 (subst (λ (i : ℕ). Matches s (part text at i)) (eqb-true m (suc n) t) x.matches)))
      (λ (t : eqb m (suc n) ≡ false). let q = eqb-false m (suc n) t in go h s m (omega arith) x)
      (two (eqb m (suc n)))

  none_fits_up_to : (n : ℕ) → best_up_to text at n ≡ none → (s : Rule) (m : ℕ) → m ≤ n → ¬ Fits text at s m
  none_fits_up_to zero h s m d x = let b = x.some_bytes in omega arith
  none_fits_up_to (suc n) h s m d x = none_fits_step n (first_f (part text at (suc n))) refl (none_fits_up_to n) h s m d x

  pub longest_is : {b : Rule × ℕ} → at ≤ length text → longest_f text at ≡ some b → Longest text at b.0 b.1
  longest_is {b} l h =
      let k = best_is (length text - at) b (omega arith) h in
      record {
        fits = k.fits;
        longest = λ {s} {m} x. let i = x.inside in k.longest s m (omega arith) x;
        first = λ {s} x. k.first s x;
      }

  pub none_fits : longest_f text at ≡ none → (s : Rule) (m : ℕ) → ¬ Fits text at s m
  none_fits h s m x = let i = x.inside in none_fits_up_to (length text - at) h s m (omega arith) x

-- ---- the tokens, or where the reader stands still

pub data Lexed : Type 0 where
  tokens : List Token → Lexed
  stuck : ℕ → Lexed

abbrev with_token : Token → Lexed → Lexed
with_token t (tokens ts) = tokens (t ∷ ts)
with_token t (stuck p) = stuck p

abbrev pub skipped : Rule → Bool
skipped reserved_word = false
skipped atom = false
skipped integer = false
skipped float = false
skipped double_quoted_string = false
skipped white_space = true
skipped comment = true

skipped_is : (r : Rule) → skipped r ≡ true → Skipped r
skipped_is reserved_word e = contra e
skipped_is atom e = contra e
skipped_is integer e = contra e
skipped_is float e = contra e
skipped_is double_quoted_string e = contra e
skipped_is white_space e = skips_white_space
skipped_is comment e = skips_comment

not_skipped : {r : Rule} → skipped r ≡ false → ¬ Skipped r
not_skipped e skips_white_space = contra (sym e)
not_skipped e skips_comment = contra (sym e)

abbrev goes : List ℕ → ℕ → Option (Rule × ℕ) → (ℕ → Lexed) → Lexed
goes text at none f = stuck at
goes text at (some b) f = cond (skipped b.0) (f (at + b.1)) (with_token (token text at b.0 b.1) (f (at + b.1)))

-- from a place on, in at most n steps
abbrev lex_from : ℕ → List ℕ → ℕ → Lexed
lex_from zero text at = tokens []
lex_from (suc n) text at =
    elim (eqb at (length text)) [ true ↦ tokens [] | false ↦ goes text at (longest_f text at) (λ next. lex_from n text next) ]

abbrev pub lex_f : List ℕ → Lexed
lex_f text = lex_from (suc (length text)) text 0

abbrev pub Is : List ℕ → ℕ → Lexed → Type 0
Is text at (tokens ts) = Tokens text at ts
Is text at (stuck p) = Stuck text p

module _ (text : List ℕ) where
  skip_is : {at n : ℕ} {r : Rule} (x : Lexed) → Longest text at r n → Skipped r → Is text (at + n) x → Is text at x
  skip_is (tokens ts) h q k = skip h q k
  skip_is (stuck p) h q k = k

  token_is : {at n : ℕ} {r : Rule} (x : Lexed) → Longest text at r n → ¬ Skipped r → Is text (at + n) x → Is text at (with_token (token text at r n) x)
  token_is (tokens ts) h q k = take_token h q k
  token_is (stuck p) h q k = k

  goes_cond : {at n : ℕ} {r : Rule} (t : Bool) (x : Lexed) → skipped r ≡ t → Longest text at r n → Is text (at + n) x
      → Is text at (cond t x (with_token (token text at r n) x))
  goes_cond {r} true x e h k = skip_is x h (skipped_is r e) k
  goes_cond false x e h k = token_is x h (not_skipped e) k

  goes_is : (at : ℕ) (o : Option (Rule × ℕ)) (f : ℕ → Lexed) → longest_f text at ≡ o → Comes text at → at < length text
      → ((next : ℕ) → Comes text next → at < next → next ≤ length text → Is text next (f next)) → Is text at (goes text at o f)
  goes_is at none f e c l k = record { comes = c; inside = l; nothing = none_fits text at e }
  goes_is at (some b) f e c l k =
      let h = longest_is text at (omega arith) e in
      let i = h.fits.inside in
      let s = h.fits.some_bytes in
      goes_cond (skipped b.0) (f (at + b.1)) refl h (k (at + b.1) (goes_on c h) (omega arith) i)

  lex_is : (n at : ℕ) → Comes text at → at ≤ length text → length text < at + n → Is text at (lex_from n text at)
  lex_is zero at c l m = absurd (omega arith)
  lex_is (suc n) at c l m =
      let by : (t : Bool) → eqb at (length text) ≡ t → Is text at (elim t [ true ↦ tokens [] | false ↦ goes text at (longest_f text at) (λ next. lex_from n text next) ])
      = elim [
        | true ↦ λ e. at_end (eqb-true at (length text) e)
        | false ↦ λ e. let d = eqb-false at (length text) e in
            goes_is at (longest_f text at) (λ next. lex_from n text next) refl c (omega arith)
            (λ next cc' b l'. lex_is n next cc' l' (omega arith))
      ] in
      by (eqb at (length text)) refl

  -- what is computed is so: the tokens of the text, or a place where the reader is stuck
  pub lexed : Is text 0 (lex_f text)
  lexed = lex_is (suc (length text)) 0 starts (omega arith) (omega arith)
