-- A quote at which the reader is stuck is never closed: each later one of its kind stands right behind a backslash. Otherwise the first that does not would close it.
use Rattle.std.specs.Prelude.{ℕ, zero, suc, ◌+◌, ◌-◌, ◌≤◌, ◌<◌, ◌≡◌, Bool, true, false, cond, ◌&&◌, ◌||◌, ◌⊎◌, eqb, leb, length, take, drop, get_or}
use Rattle.std.proofs.Common.{le_of_suc-le-suc, not-suc-le-zero, arith, sym, subst, ◌∙◌, inl, inr, ⊎_elim, length-append, length-drop, drop-cons, get_or-drop, eqb-true}
use Rattle.std.proofs.Math.Path.{refl, ap}
use mathlib.Core.List.{List, [], ◌∷◌, ◌++◌}
use Rattle.std.proofs.Math.Seq.{take-append-add}
use Rattle.std.proofs.lemmas.Bool.{eqb-false}
use Rattle.paper_expressions.proofs.Laws.Tests.{two, contra, or_cases}
use Rattle.paper_tokens.specs.Kinds.{other, letter, power, digit, minus, point, quote, backslash, blank, slash, star, high, double_quote, kind_of}
use Rattle.paper_tokens.specs.Forms.{any, one, ◌then◌, ◌or◌, no, Match, is_in}
use Rattle.paper_tokens.specs.Lexical.{Rule, atom, double_quoted_string, enclosed, quoted_atom, string_form, Matches, part, Fits, Stuck}

-- no quote behind the place p closes the one there
abbrev pub Unclosed : List ℕ → ℕ → Type 0
Unclosed text p = (i : ℕ) → p < i → i < length text → get_or text i 0 ≡ get_or text p 0 → get_or text (i - 1) 0 ≡ 92

-- ---- the kinds of the quotes and of the backslash have one byte each

branch : {R : Type 0} (x : Bool) (n : ℕ) {m k : ℕ} → (x ≡ true → n ≡ k → R) → (m ≡ k → R) → cond x n m ≡ k → R
branch true n f g e = f refl e
branch false n f g e = g e

none : {R : Type 0} {n k : ℕ} {x : Bool} → eqb n k ≡ false → x ≡ true → n ≡ k → R
none {n} {k} f t e = absurd (eqb-false n k f e)

one_byte : (k c : ℕ) (b : ℕ)
    → eqb power k ≡ false → eqb letter k ≡ false → eqb digit k ≡ false → eqb minus k ≡ false → eqb point k ≡ false
    → eqb blank k ≡ false → eqb slash k ≡ false → eqb star k ≡ false → eqb high k ≡ false → eqb other k ≡ false
    → (eqb b 39 ≡ true → quote ≡ k → b ≡ c) → (eqb b 34 ≡ true → double_quote ≡ k → b ≡ c) → (eqb b 92 ≡ true → backslash ≡ k → b ≡ c)
    → kind_of b ≡ k → b ≡ c
unfolding kind_of
one_byte k c b f1 f2 f3 f4 f5 f6 f7 f8 f9 f10 g h l =
    branch (leb 68 b && leb b 69 || leb 100 b && leb b 101) power (none f1)
    (branch (leb 65 b && leb b 90 || eqb b 95 || leb 97 b && leb b 122) letter (none f2)
    (branch (leb 48 b && leb b 57) digit (none f3)
    (branch (eqb b 45) minus (none f4)
    (branch (eqb b 46) point (none f5)
    (branch (eqb b 39) quote g
    (branch (eqb b 34) double_quote h
    (branch (eqb b 92) backslash l
    (branch (leb 9 b && leb b 10 || eqb b 13 || eqb b 32) blank (none f6)
    (branch (eqb b 47) slash (none f7)
    (branch (eqb b 42) star (none f8)
    (branch (leb 128 b) high (none f9) (λ e. absurd (eqb-false other k f10 e)))))))))))))

of_kind : (k b : ℕ) → is_in (kind_of b) (k ∷ []) ≡ true → kind_of b ≡ k
of_kind k b h = ⊎_elim (λ (e : eqb (kind_of b) k ≡ true). eqb-true (kind_of b) k e) (λ (e : false ≡ true). contra e) (or_cases (eqb (kind_of b) k) false h)

quote_byte : (b : ℕ) → is_in (kind_of b) (quote ∷ []) ≡ true → b ≡ 39
quote_byte b h = one_byte quote 39 b refl refl refl refl refl refl refl refl refl refl (λ e _. eqb-true b 39 e) (λ _ e. absurd (eqb-false double_quote quote refl e)) (λ _ e. absurd (eqb-false backslash quote refl e)) (of_kind quote b h)

double_quote_byte : (b : ℕ) → is_in (kind_of b) (double_quote ∷ []) ≡ true → b ≡ 34
double_quote_byte b h = one_byte double_quote 34 b refl refl refl refl refl refl refl refl refl refl (λ _ e. absurd (eqb-false quote double_quote refl e)) (λ e _. eqb-true b 34 e) (λ _ e. absurd (eqb-false backslash double_quote refl e)) (of_kind double_quote b h)

backslash_byte : (b : ℕ) → is_in (kind_of b) (backslash ∷ []) ≡ true → b ≡ 92
backslash_byte b h = one_byte backslash 92 b refl refl refl refl refl refl refl refl refl refl (λ _ e. absurd (eqb-false quote backslash refl e)) (λ _ e. absurd (eqb-false double_quote backslash refl e)) (λ e _. eqb-true b 92 e) (of_kind backslash b h)

-- ---- the part up to the first quote that is not right behind a backslash

-- d, or the last byte where there is one
abbrev last : ℕ → List ℕ → ℕ
last d [] = d
last d (b ∷ w) = last b w

last_is : (d b : ℕ) (u : List ℕ) → last d (u ++ (b ∷ [])) ≡ b
last_is d b [] = refl
last_is d b (x ∷ u) = last_is x b u

record Ends (x : ℕ) (w : List ℕ) : Type 0 where
  front : List ℕ
  is : w ≡ front ++ (x ∷ [])

ends_in : (d x : ℕ) (w : List ℕ) → ¬ (d ≡ x) → last d w ≡ x → Ends x w
ends_in d x [] n e = absurd (n e)
ends_in d x (b ∷ []) n e = record { front = []; is = ap (λ (y : ℕ). y ∷ []) e }
ends_in d x (b ∷ c ∷ w) n e =
    let r = ends_of b c w e in
    record { front = b ∷ r.front; is = ap (λ (l : List ℕ). b ∷ l) r.is }
  where
    ends_of : (d c : ℕ) (w : List ℕ) → last d (c ∷ w) ≡ x → Ends x (c ∷ w)
    ends_of d c [] e = record { front = []; is = ap (λ (y : ℕ). y ∷ []) e }
    ends_of d c (y ∷ w) e = let r = ends_of c y w e in record { front = c ∷ r.front; is = ap (λ (l : List ℕ). c ∷ l) r.is }

-- behind the byte d the text w has m, and then a quote q that closes; no quote in m does
data Closing (q : ℕ) : ℕ → List ℕ → List ℕ → Type 0 where
  here : {d : ℕ} {w : List ℕ} → ¬ (d ≡ 92) → Closing q d (q ∷ w) []
  past : {d b : ℕ} {w m : List ℕ} → ¬ (b ≡ q) ⊎ (d ≡ 92) → Closing q b w m → Closing q d (b ∷ w) (b ∷ m)

record Closed (q d : ℕ) (w : List ℕ) : Type 0 where
  inside : List ℕ
  closing : Closing q d w inside

closed : (q d : ℕ) (w : List ℕ) (i : ℕ) → i < length w → get_or w i 0 ≡ q → ¬ (get_or (d ∷ w) i 0 ≡ 92) → Closed q d w
closed q d [] i h e n = absurd (not-suc-le-zero h)
closed q d (b ∷ w) zero h e n = record { inside = []; closing = subst (λ (x : ℕ). Closing q d (x ∷ w) []) (sym e) (here n) }
closed q d (b ∷ w) (suc i) h e n = further q d b w (closed q b w i (le_of_suc-le-suc h) e n)
  where
    further : (q d b : ℕ) (w : List ℕ) → Closed q b w → Closed q d (b ∷ w)
    further q d b w r = ⊎_elim
        (λ (f : eqb b q ≡ true). ⊎_elim
        (λ (g : eqb d 92 ≡ true). record { inside = b ∷ r.inside; closing = past (inr (eqb-true d 92 g)) r.closing })
        (λ (g : eqb d 92 ≡ false). record { inside = []; closing = subst (λ (x : ℕ). Closing q d (x ∷ w) []) (sym (eqb-true b q f)) (here (eqb-false d 92 g)) })
        (two (eqb d 92)))
        (λ (f : eqb b q ≡ false). record { inside = b ∷ r.inside; closing = past (inl (eqb-false b q f)) r.closing })
        (two (eqb b q))

record Rest (q : ℕ) (w m : List ℕ) : Type 0 where
  behind : List ℕ
  is : w ≡ m ++ (q ∷ behind)

rest : {q d : ℕ} {w m : List ℕ} → Closing q d w m → Rest q w m
rest (here {d} {w} n) = record { behind = w; is = refl }
rest (past {d} {b} o c) = let r = rest c in record { behind = r.behind; is = ap (λ (l : List ℕ). b ∷ l) r.is }

not_escaped : {q d : ℕ} {w m : List ℕ} → Closing q d w m → ¬ (last d m ≡ 92)
not_escaped (here n) = n
not_escaped (past o c) = not_escaped c

-- a quote in m stands behind a backslash
escaped : {q d : ℕ} {w m : List ℕ} (u v : List ℕ) → Closing q d w m → m ≡ u ++ (q ∷ v) → last d u ≡ 92
escaped [] v (here n) e = absurd (let z : ◌≡◌ {A = ℕ} 0 1 = cc in omega arith)
escaped (x ∷ u) v (here n) e = absurd (let z : ◌≡◌ {A = ℕ} 0 1 = cc in omega arith)
escaped {q} [] v (past {d} {b} o c) e = ⊎_elim (λ (n : ¬ (b ≡ q)). absurd (n (cc))) (λ (f : d ≡ 92). f) o
escaped {q} (x ∷ u) v (past {d} {b} {w} {m} o c) e =
    let f : b ≡ x = cc in
    let g : m ≡ u ++ (q ∷ v) = cc in
    subst (λ (y : ℕ). last y u ≡ 92) f (escaped u v c g)

-- ---- so it would be closed

module _ (q k : ℕ) (only : (b : ℕ) → is_in (kind_of b) (k ∷ []) ≡ true → b ≡ q) (is-k : is_in (kind_of q) (k ∷ []) ≡ true) (n : ¬ (q ≡ 92)) where
  is_backslash : is_in (kind_of 92) (backslash ∷ []) ≡ true
  unfolding kind_of
  is_backslash = refl

  fine : {w m : List ℕ} → Closing q q w m → Match (no ((no (any then one (backslash ∷ [])) then one (k ∷ []) then any) or (any then one (backslash ∷ [])))) m
  unfolding Match
  fine {w} {m} c (inl t) =
      let r = t.is_rest in
      let b = r.is_first in
      let e : m ≡ t.first ++ (q ∷ r.rest) =
      t.is ∙ ap (λ (l : List ℕ). t.first ++ l) (r.is ∙ ap (λ (l : List ℕ). l ++ r.rest) (b.is ∙ ap (λ (x : ℕ). x ∷ []) (only b.byte b.of_kind))) in
      let s = ends_in q 92 t.first n (escaped t.first r.rest c e) in
      t.is_first (record { first = s.front; rest = 92 ∷ []; is = s.is; is_first = tt; is_rest = record { byte = 92; is = refl; of_kind = is_backslash } })
  fine {w} {m} c (inr t) =
      let b = t.is_rest in
      let e : m ≡ t.first ++ (92 ∷ []) = t.is ∙ ap (λ (l : List ℕ). t.first ++ l) (b.is ∙ ap (λ (x : ℕ). x ∷ []) (backslash_byte b.byte b.of_kind)) in
      not_escaped c (ap (last q) e ∙ last_is q 92 t.first)

  is_one : Match (one (k ∷ [])) (q ∷ [])
  unfolding Match
  is_one = record { byte = q; is = refl; of_kind = is-k }

  whole : {w m : List ℕ} → Closing q q w m → Match (enclosed k) (q ∷ (m ++ (q ∷ [])))
  unfolding Match
  whole {w} {m} c = record {
    first = q ∷ [];
    rest = m ++ (q ∷ []);
    is = refl;
    is_first = is_one;
    is_rest = record { first = m; rest = q ∷ []; is = refl; is_first = fine c; is_rest = is_one };
  }

  -- what stands at p is q, behind it m and q
  taken : (text : List ℕ) (p : ℕ) {w m : List ℕ} → drop p text ≡ q ∷ w → (r : Rest q w m) → part text p (suc (suc (length m))) ≡ q ∷ (m ++ (q ∷ []))
  taken text p {w} {m} e r =
      ap (take (suc (suc (length m)))) (e ∙ ap (λ (l : List ℕ). q ∷ l) r.is)
      ∙ ap (λ (l : List ℕ). q ∷ l) (ap (λ (i : ℕ). take i (m ++ (q ∷ r.behind))) (let z : suc (length m) ≡ length m + 1 = omega arith in z) ∙ take-append-add m (q ∷ r.behind) 1)

  long : (text : List ℕ) (p : ℕ) {w m : List ℕ} → p ≤ length text → drop p text ≡ q ∷ w → (r : Rest q w m) → p + suc (suc (length m)) ≤ length text
  long text p {w} {m} h e r =
      let a = sym (length-drop p text) ∙ ap length (e ∙ ap (λ (l : List ℕ). q ∷ l) r.is) in
      let b = length-append m (q ∷ r.behind) in
      omega arith

  module _ (text : List ℕ) (p : ℕ) (rule : Rule) (is_rule : (w : List ℕ) → Match (enclosed k) w → Matches rule w) (h : p < length text) (e : get_or text p 0 ≡ q) where
    opened : drop p text ≡ q ∷ drop (suc p) text
    opened = drop-cons text p 0 h ∙ ap (λ (x : ℕ). x ∷ drop (suc p) text) e

    closes : Closed q q (drop (suc p) text) → (j : ℕ) × Fits text p rule j
    closes c =
        let r = rest c.closing in (
          suc (suc (length c.inside)),
          record {
            some_bytes = omega arith;
            inside = long text p (omega arith) opened r;
            matches = is_rule (part text p (suc (suc (length c.inside)))) (subst (Match (enclosed k)) (sym (taken text p opened r)) (whole c.closing));
          },
        )

    unclosed : Stuck text p → Unclosed text p
    unclosed s i l g f = ⊎_elim
        (λ (x : eqb (get_or text (i - 1) 0) 92 ≡ true). eqb-true (get_or text (i - 1) 0) 92 x)
        (λ (x : eqb (get_or text (i - 1) 0) 92 ≡ false).
        let j = i - p - 1 in
        let w = drop (suc p) text in
        let y : suc p + j ≡ i = omega arith in
        let z : p + j ≡ i - 1 = omega arith in
        let a : get_or w j 0 ≡ q = get_or-drop (suc p) text j 0 ∙ ap (λ (m : ℕ). get_or text m 0) y ∙ f ∙ e in
        let b : get_or (q ∷ w) j 0 ≡ get_or text (i - 1) 0 = ap (λ (v : List ℕ). get_or v j 0) (sym opened) ∙ get_or-drop p text j 0 ∙ ap (λ (m : ℕ). get_or text m 0) z in
        let v : j < length w = simp length-drop (omega arith) in
        let c = closes (closed q q w j v a (λ o. eqb-false (get_or text (i - 1) 0) 92 x (sym b ∙ o))) in
        absurd (s.nothing rule c.0 c.1))
        (two (eqb (get_or text (i - 1) 0) 92))

is_quote : is_in (kind_of 39) (quote ∷ []) ≡ true
unfolding kind_of
is_quote = refl

is_double_quote : is_in (kind_of 34) (double_quote ∷ []) ≡ true
unfolding kind_of
is_double_quote = refl

quoted : (w : List ℕ) → Match (enclosed quote) w → Matches atom w
unfolding Matches Match quoted_atom
quoted w m = inr m

string : (w : List ℕ) → Match (enclosed double_quote) w → Matches double_quoted_string w
unfolding Matches string_form
string w m = m

pub never_closed : {text : List ℕ} {p : ℕ} → Stuck text p → (get_or text p 0 ≡ 39) ⊎ (get_or text p 0 ≡ 34) → Unclosed text p
never_closed {text} {p} s o = ⊎_elim
    (λ (e : get_or text p 0 ≡ 39). unclosed 39 quote quote_byte is_quote (λ z. omega arith) text p atom quoted s.inside e s)
    (λ (e : get_or text p 0 ≡ 34). unclosed 34 double_quote double_quote_byte is_double_quote (λ z. omega arith) text p double_quoted_string string s.inside e s)
    o
