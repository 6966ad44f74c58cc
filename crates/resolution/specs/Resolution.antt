-- The choice among allowed types, over letters, as the code makes it; and the law that it is rule 10's choice.
-- An entry is four letters: up to three operands, blanks after them, and the result. By induction on the list of entries.
use Rattle.std.specs.Prelude.{◌≡◌, refl, Bool, true, false, cond, not, ◌&&◌, ◌||◌, List, [], ◌∷◌, ℕ, zero, suc, ◌≤◌, ◌<◌, eqb, leb, T, length}
use Rattle.std.proofs.Common.{sym, ap, subst, not-suc-le-zero, arith, leb-true}
use Rattle.paper_expressions.specs.Types.{Ty, Text, Integer, Real, SetofText, SetofReal, SetofInteger, SetofAnything, TruthValue, Promotes, promotion_1, promotion_2, promotion_3a, promotion_3b, promotion_3c}
use Rattle.paper_expressions.specs.Operators.{Allowed, ◌⇒◌}
use Rattle.paper_expressions.specs.Expressions.{Among, here, there, Reaches, reaches_none, reaches_same, reaches_by, First, first, next}
use Rattle.paper_expressions.proofs.Laws.Typing.{from_integer, from_integers, no_first, among_cases}
use Rattle.paper_expressions.proofs.Laws.Search.{Reflects, of_yes, of_no, reflects_iff, reflects_true, sameb, same_reflects, no_clash}
use Rattle.resolution.specs.Letters.{letter, Outcome, is, none, letter_reflects}

-- ---- what the code computes

-- 4.2: what setof_anything can be promoted to
abbrev pub set_of : ℕ → Bool
set_of u = cond (eqb u 116) true (cond (eqb u 105) true (cond (eqb u 114) true false))

abbrev pub promotes_of : ℕ → ℕ → Bool
promotes_of x u =
    cond (eqb x 73) (eqb u 82)
    (cond (eqb x 105) (eqb u 114)
    (cond (eqb x 97) (set_of u)
    false))

-- the operand x is what the entry asks, or, if p says so, is promoted to it
abbrev pub meets_of : Bool → ℕ → ℕ → Bool
meets_of p x u = eqb x u || (promotes_of x u && p)

abbrev pub all_meet : Bool → List ℕ → List ℕ → Bool
all_meet p [] us = true
all_meet p (x ∷ xs) [] = false
all_meet p (x ∷ xs) (u ∷ us) = meets_of p x u && all_meet p xs us

-- the result of the first entry that the operands meet, or 0
abbrev pub first_of : Bool → List ℕ → List ℕ → ℕ
first_of p xs [] = 0
first_of p xs (a ∷ []) = 0
first_of p xs (a ∷ b ∷ []) = 0
first_of p xs (a ∷ b ∷ c ∷ []) = 0
first_of p xs (a ∷ b ∷ c ∷ r ∷ l) = cond (all_meet p xs (a ∷ b ∷ c ∷ [])) r (first_of p xs l)

abbrev pub or_else : ℕ → ℕ → ℕ
or_else r s = cond (eqb r 0) s r

-- the exact entry first, then the first that promotion reaches
abbrev pub resolve_of : List ℕ → List ℕ → ℕ
resolve_of xs l = or_else (first_of false xs l) (first_of true xs l)

-- ---- types as letters

abbrev pub head : List Ty → ℕ
head [] = 32
head (t ∷ ts) = letter t

abbrev pub tail : List Ty → List Ty
tail [] = []
tail (t ∷ ts) = ts

-- the letters of the first n types, with blanks after the last
abbrev pub slots : ℕ → List Ty → List ℕ
slots zero ts = []
slots (suc n) ts = head ts ∷ slots n (tail ts)

abbrev pub entries : List Allowed → List ℕ
entries [] = []
entries ((us ⇒ t) ∷ l) = head us ∷ head (tail us) ∷ head (tail (tail us)) ∷ letter t ∷ entries l

-- no entry has more than three operands, and no two have the same
abbrev pub fresh : List Ty → List Allowed → Bool
fresh us [] = true
fresh us ((ws ⇒ t) ∷ l) = not (sameb (slots 3 us) (slots 3 ws)) && fresh us l

abbrev pub plain : List Allowed → Bool
plain [] = true
plain ((us ⇒ t) ∷ l) = leb (length us) 3 && (fresh us l && plain l)

-- ---- one operand

promotes_reflects : (t u : Ty) → Reflects (Promotes t u) (promotes_of (letter t) (letter u))
promotes_reflects Text u = of_no (λ h. elim h [ ])
promotes_reflects Integer u = reflects_iff (λ e. subst (Promotes Integer) (sym e) promotion_1) from_integer (letter_reflects u Real)
promotes_reflects Real u = of_no (λ h. elim h [ ])
promotes_reflects SetofText u = of_no (λ h. elim h [ ])
promotes_reflects SetofReal u = of_no (λ h. elim h [ ])
promotes_reflects SetofInteger u = reflects_iff (λ e. subst (Promotes SetofInteger) (sym e) promotion_2) from_integers (letter_reflects u SetofReal)
promotes_reflects SetofAnything Text = of_no (λ h. elim h [ ])
promotes_reflects SetofAnything Integer = of_no (λ h. elim h [ ])
promotes_reflects SetofAnything Real = of_no (λ h. elim h [ ])
promotes_reflects SetofAnything SetofText = of_yes promotion_3a
promotes_reflects SetofAnything SetofReal = of_yes promotion_3c
promotes_reflects SetofAnything SetofInteger = of_yes promotion_3b
promotes_reflects SetofAnything SetofAnything = of_no (λ h. elim h [ ])
promotes_reflects SetofAnything TruthValue = of_no (λ h. elim h [ ])
promotes_reflects TruthValue u = of_no (λ h. elim h [ ])

-- t is u, or, if p says so, is promoted to it
pub data Near (p : Bool) (t : Ty) : Ty → Type 0 where
  same : Near p t t
  by : {u : Ty} → p ≡ true → Promotes t u → Near p t u

near_cases : {p : Bool} {t u : Ty} → ¬ (t ≡ u) → ¬ (Promotes t u × (p ≡ true)) → ¬ Near p t u
near_cases n m same = n refl
near_cases n m (by e h) = m (h, e)

and_reflects : {P Q : Type 0} {b c : Bool} → Reflects P b → Reflects Q c → Reflects (P × Q) (b && c)
and_reflects (of_yes p) (of_yes q) = of_yes (p, q)
and_reflects (of_yes p) (of_no n) = of_no (λ h. n h.1)
and_reflects (of_no n) k = of_no (λ h. n h.0)

true_or_not : (p : Bool) → Reflects (p ≡ true) p
true_or_not true = of_yes refl
true_or_not false = of_no (λ e. no_clash (cc))

pub near_reflects : (p : Bool) (t u : Ty) → Reflects (Near p t u) (meets_of p (letter t) (letter u))
near_reflects p t u = go (letter_reflects t u) (and_reflects (promotes_reflects t u) (true_or_not p))
  where
    go : {b c : Bool} → Reflects (t ≡ u) b → Reflects (Promotes t u × (p ≡ true)) c → Reflects (Near p t u) (b || c)
    go (of_yes e) k = of_yes (subst (Near p t) e same)
    go (of_no n) (of_yes h) = of_yes (by h.1 h.0)
    go (of_no n) (of_no m) = of_no (near_cases n m)

-- a blank meets only a blank
blank_first : (p : Bool) (u : Ty) → meets_of p 32 (letter u) ≡ false
blank_first p Text = refl
blank_first p Integer = refl
blank_first p Real = refl
blank_first p SetofText = refl
blank_first p SetofReal = refl
blank_first p SetofInteger = refl
blank_first p SetofAnything = refl
blank_first p TruthValue = refl

blank_last : (p : Bool) (t : Ty) → meets_of p (letter t) 32 ≡ false
blank_last p Text = refl
blank_last p Integer = refl
blank_last p Real = refl
blank_last p SetofText = refl
blank_last p SetofReal = refl
blank_last p SetofInteger = refl
blank_last p SetofAnything = refl
blank_last p TruthValue = refl

-- ---- all operands

pub data AllNear (p : Bool) : List Ty → List Ty → Type 0 where
  near_none : AllNear p [] []
  near_more : {t u : Ty} {ts us : List Ty} → Near p t u → AllNear p ts us → AllNear p (t ∷ ts) (u ∷ us)

near_parts : {p : Bool} {t u : Ty} {ts us : List Ty} → AllNear p (t ∷ ts) (u ∷ us) → Near p t u × AllNear p ts us
near_parts (near_more h k) = (h, k)

all_reflects : (p : Bool) (n : ℕ) (ts us : List Ty) → length ts ≤ n → length us ≤ n → Reflects (AllNear p ts us) (all_meet p (slots n ts) (slots n us))
all_reflects p zero [] [] h k = of_yes near_none
all_reflects p zero [] (u ∷ us) h k = absurd (not-suc-le-zero k)
all_reflects p zero (t ∷ ts) us h k = absurd (not-suc-le-zero h)
all_reflects p (suc n) [] [] h k = all_reflects p n [] [] (omega arith) (omega arith)
all_reflects p (suc n) [] (u ∷ us) h k = rw (blank_first p u) (of_no (λ h. elim h [ ]))
all_reflects p (suc n) (t ∷ ts) [] h k = rw (blank_last p t) (of_no (λ h. elim h [ ]))
all_reflects p (suc n) (t ∷ ts) (u ∷ us) h k =
    reflects_iff (λ x. near_more x.0 x.1) near_parts (and_reflects (near_reflects p t u) (all_reflects p n ts us (omega arith) (omega arith)))

pub near_reaches : {ts us : List Ty} → AllNear true ts us → Reaches ts us
near_reaches near_none = reaches_none
near_reaches (near_more same k) = reaches_same (near_reaches k)
near_reaches (near_more (by e h) k) = reaches_by h (near_reaches k)

pub reaches_near : {ts us : List Ty} → Reaches ts us → AllNear true ts us
reaches_near reaches_none = near_none
reaches_near (reaches_same k) = near_more same (reaches_near k)
reaches_near (reaches_by h k) = near_more (by refl h) (reaches_near k)

near_same : {t u : Ty} → Near false t u → t ≡ u
near_same same = refl
near_same (by e h) = absurd (no_clash (cc))

near_equal : {ts us : List Ty} → AllNear false ts us → ts ≡ us
near_equal near_none = refl
near_equal (near_more h k) = let x = near_same h in let y = near_equal k in cc

equal_near : (ts : List Ty) → AllNear false ts ts
equal_near [] = near_none
equal_near (t ∷ ts) = near_more same (equal_near ts)

-- ---- the entries

split : (b c : Bool) → T (b && c) → T b × T c
split true c h = (tt, h)
split false c h = absurd h

short : (n : ℕ) → T (leb n 3) → n ≤ 3
short n h = go (leb n 3) refl h
  where
    go : (b : Bool) → leb n 3 ≡ b → T b → n ≤ 3
    go true e t = leb-true n 3 e
    go false e t = absurd t

module _ (ts : List Ty) (few : length ts ≤ 3) where
  pub exact_entry : (l : List Allowed) → T (plain l) → Outcome (λ t. Among (ts ⇒ t) l) (first_of false (slots 3 ts) (entries l))
  exact_entry [] h = none (λ t k. elim k [ ])
  exact_entry ((us ⇒ u) ∷ l) h =
      let a = split (leb (length us) 3) (fresh us l && plain l) h in
      go (all_reflects false 3 ts us few (short (length us) a.0)) (exact_entry l (split (fresh us l) (plain l) a.1).1)
    where
      go : {b : Bool} {r : ℕ} → Reflects (AllNear false ts us) b → Outcome (λ t. Among (ts ⇒ t) l) r → Outcome (λ t. Among (ts ⇒ t) ((us ⇒ u) ∷ l)) (cond b (letter u) r)
      go (of_yes m) k = is (subst (λ (x : List Ty). Among (x ⇒ u) ((us ⇒ u) ∷ l)) (sym (near_equal m)) here)
      go (of_no n) (is k) = is (there k)
      go (of_no n) (none f) = none (λ t k. f t (among_cases (λ e. n (subst (AllNear false ts) e (equal_near ts))) k))

  pub first_entry : (l : List Allowed) → T (plain l) → Outcome (First ts l) (first_of true (slots 3 ts) (entries l))
  first_entry [] h = none (λ t k. elim k [ ])
  first_entry ((us ⇒ u) ∷ l) h =
      let a = split (leb (length us) 3) (fresh us l && plain l) h in
      go (all_reflects true 3 ts us few (short (length us) a.0)) (first_entry l (split (fresh us l) (plain l) a.1).1)
    where
      go : {b : Bool} {r : ℕ} → Reflects (AllNear true ts us) b → Outcome (First ts l) r → Outcome (First ts ((us ⇒ u) ∷ l)) (cond b (letter u) r)
      go (of_yes m) k = is (first (near_reaches m))
      go (of_no n) (is k) = is (next (λ x. n (reaches_near x)) k)
      go (of_no n) (none f) = none (no_first (λ x. n (reaches_near x)) f)

-- no operands stand in two entries
not_fresh : {us : List Ty} {t : Ty} (l : List Allowed) → T (fresh us l) → ¬ Among (us ⇒ t) l
not_fresh {us} ((ws ⇒ w) ∷ l) h here = absurd (subst (λ (b : Bool). T (not b && fresh us l)) (reflects_true (same_reflects (slots 3 us) (slots 3 us)) refl) h)
not_fresh {us} ((ws ⇒ w) ∷ l) h (there k) = not_fresh l (split (not (sameb (slots 3 us) (slots 3 ws))) (fresh us l) h).1 k
not_fresh {us = us} {t = t} [] h x'' = elim x'' [ ]

-- at two lists of operands, which are the same
same_entry : {ts vs : List Ty} {t u : Ty} (l : List Allowed) → T (plain l) → Among (ts ⇒ t) l → Among (vs ⇒ u) l → ts ≡ vs → t ≡ u
same_entry [] h j k e = elim j [ ]
same_entry ((us ⇒ w) ∷ l) h here here e = refl
same_entry {u = u} ((us ⇒ w) ∷ l) h here (there k) e = absurd (not_fresh l (split (fresh us l) (plain l) (split (leb (length us) 3) (fresh us l && plain l) h).1).0 (subst (λ (x : List Ty). Among (x ⇒ u) l) (sym e) k))
same_entry {t = t} ((us ⇒ w) ∷ l) h (there k) here e = absurd (not_fresh l (split (fresh us l) (plain l) (split (leb (length us) 3) (fresh us l && plain l) h).1).0 (subst (λ (x : List Ty). Among (x ⇒ t) l) e k))
same_entry ((us ⇒ w) ∷ l) h (there j) (there k) e = same_entry l (split (fresh us l) (plain l) (split (leb (length us) 3) (fresh us l && plain l) h).1).1 j k e

pub one_entry : {ts : List Ty} {t u : Ty} (l : List Allowed) → T (plain l) → Among (ts ⇒ t) l → Among (ts ⇒ u) l → t ≡ u
one_entry l h j k = same_entry l h j k refl

-- more operands than any entry has
pub too_many : {ts : List Ty} {t : Ty} (l : List Allowed) → T (plain l) → 3 < length ts → ¬ Among (ts ⇒ t) l
too_many ((us ⇒ w) ∷ l) h m here = absurd (let k = short (length us) (split (leb (length us) 3) (fresh us l && plain l) h).0 in omega arith)
too_many ((us ⇒ w) ∷ l) h m (there k) = too_many l (split (fresh us l) (plain l) (split (leb (length us) 3) (fresh us l && plain l) h).1).1 m k
too_many {ts = ts} {t = t} [] h m x3 = elim x3 [ ]

as_many : {ts us : List Ty} → Reaches ts us → length ts ≡ length us
as_many reaches_none = refl
as_many (reaches_same k) = ap suc (as_many k)
as_many (reaches_by h k) = ap suc (as_many k)

pub too_many_first : {ts : List Ty} {t : Ty} (l : List Allowed) → T (plain l) → 3 < length ts → ¬ First ts l t
too_many_first ((us ⇒ w) ∷ l) h m (first k) = absurd (let j = short (length us) (split (leb (length us) 3) (fresh us l && plain l) h).0 in omega (arith, as_many k))
too_many_first ((us ⇒ w) ∷ l) h m (next n k) = too_many_first l (split (fresh us l) (plain l) (split (leb (length us) 3) (fresh us l && plain l) h).1).1 m k
too_many_first {ts = ts} {t = t} [] h m x3 = elim x3 [ ]
