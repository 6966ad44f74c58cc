-- A walk over the tokens finds the first place: by a test of each token that decides whether one breaks the stage there. Places rise.
-- Law: at most one reply meets the contract.
use Rattle.std.specs.Prelude.{ℕ, suc, ◌+◌, ◌≤◌, ◌<◌, ◌≡◌, refl, Bool, true, false, cond, ◌||◌, ◌⊎◌, List, [], ◌∷◌, leb, ltb, length, get_or, Option, Some, None}
use Rattle.std.proofs.Common.{sym, ap, subst, ◌∙◌, ⊎_elim, arith, ltb-true, ltb-false, le-leb}
use Rattle.std.proofs.lemmas.Bool.{lt-leb}
use Rattle.paper_expressions.proofs.Laws.Tests.{two}
use Rattle.paper_tokens.specs.Lexical.{Matches, Token, Tokens, at_end, skip, take_token}
use Rattle.parts.specs.Texts.{cells}
use Rattle.leaves.specs.Cells.{part_cells}
use Rattle.leaves.specs.Source
use Source.{Source, Here, Stand, at_token}
use Rattle.token_tests.specs.Reply.{First}

pub or_right : (a b : Bool) → b ≡ true → (a || b) ≡ true
or_right true b e = refl
or_right false b e = e

-- ---- one token

-- the token i of the columns is t, a token of section 2, and ts stand behind it
pub record Stands (c : Source) (i : ℕ) (t : Token) (ts : List Token) : Type 0 where
  pub here : Here c i t
  pub behind : Stand c (suc i) ts
  pub matches : Matches t.rule t.bytes

-- the test f of the bytes of the token i, where the columns have it inside the text
abbrev pub of_token : Source → ℕ → (List ℕ → Bool) → Bool
of_token c i f =
    cond (leb (get_or c.places i 0 + get_or c.lengths i 0) (length c.text)) (f (cells c.text (get_or c.places i 0) (get_or c.lengths i 0))) false

module _ (c : Source) (i : ℕ) (f : List ℕ → Bool) where
  pub of_bytes : {t : Token} → Here c i t → of_token c i f ≡ f t.bytes
  of_bytes h =
      let r = h.within in
      rw (le-leb (get_or c.places i 0 + get_or c.lengths i 0) (length c.text) r)
      (ap f (sym (h.bytes ∙ part_cells c.text (get_or c.places i 0) (get_or c.lengths i 0) r)))

  module _ (at n : ℕ) (p : at ≡ get_or c.places i 0) (l : n ≡ get_or c.lengths i 0) where
    pub of_inside : at + n ≤ length c.text → of_token c i f ≡ f (cells c.text at n)
    of_inside r = rw (sym p, sym l, le-leb (at + n) (length c.text) r)

    pub of_outside : ¬ (at + n ≤ length c.text) → of_token c i f ≡ false
    of_outside r = rw (sym p, sym l, lt-leb (at + n) (length c.text) (omega arith))

-- the test tells at which tokens P is broken
pub record Decides (P : List Token → ℕ → Type 0) (test : Source → ℕ → Bool) : Type 0 where
  pub none : {q : ℕ} → ¬ P [] q
  pub there : {t : Token} {ts : List Token} {q : ℕ} → P (t ∷ ts) q → (q ≡ t.place) ⊎ P ts q
  pub on : {t : Token} {ts : List Token} {q : ℕ} → P ts q → P (t ∷ ts) q
  pub yes : {c : Source} {i : ℕ} {t : Token} {ts : List Token} → Stands c i t ts → test c i ≡ true → P (t ∷ ts) t.place
  pub no : {c : Source} {i : ℕ} {t : Token} {ts : List Token} {q : ℕ} → Stands c i t ts → test c i ≡ false → P (t ∷ ts) q → P ts q

module _ {P : List Token → ℕ → Type 0} {test : Source → ℕ → Bool} (d : Decides P test) where
  later : {text : List ℕ} {at q : ℕ} {ts : List Token} → Tokens text at ts → P ts q → at ≤ q
  later (at_end e) h = absurd (d.none h)
  later (skip l s k) h = let g = later k h in omega arith
  later {q = q} (take_token {at} l s k) h = ⊎_elim (λ (e : q ≡ at). omega arith) (λ g. let z = later k g in omega arith) (d.there h)

  module _ (c : Source) where
    abbrev Smallest : List Token → ℕ → Type 0
    Smallest ts p = P ts p × ((q : ℕ) → P ts q → p ≤ q)

    first_from : {at i : ℕ} {ts : List Token} (m : ℕ) → Tokens c.text at ts → Stand c i ts → i ≤ m → m < length c.kinds
        → ((j : ℕ) → j < m → test c j ≡ false) → test c m ≡ true → Smallest ts (get_or c.places m 0)
    first_from m (at_end e) (Source.at_end f) l u b y = absurd (omega arith)
    first_from m (skip x s k) g l u b y = first_from m k g l u b y
    first_from {i = i} m (take_token {at} {ts = ts} x s k) (at_token {t = t} h g) l u b y =
        let here : Stands c i t ts = record { here = h; behind = g; matches = x.fits.matches } in
        ⊎_elim
        (λ (e : ltb i m ≡ true).
        let f = first_from m k g (ltb-true i m e) u b y in
        (d.on f.0, λ q a. f.1 q (d.no here (b i (ltb-true i m e)) a)))
        (λ (e : ltb i m ≡ false).
        let v = ltb-false i m e in
        let o : m ≡ i = omega arith in
        let p : t.place ≡ get_or c.places m 0 = h.place ∙ ap (λ (j : ℕ). get_or c.places j 0) (sym o) in (
          subst (P (t ∷ ts)) p (d.yes here (subst (λ (j : ℕ). test c j ≡ true) o y)),
          λ q a. ⊎_elim (λ (f : q ≡ t.place). omega arith) (λ f. let z = later k f in omega arith) (d.there a),
        ))
        (two (ltb i m))

    none_from : {at i : ℕ} {ts : List Token} → Tokens c.text at ts → Stand c i ts
        → ((j : ℕ) → j < length c.kinds → test c j ≡ false) → (q : ℕ) → ¬ P ts q
    none_from (at_end e) g b q a = d.none a
    none_from (skip x s k) g b q a = none_from k g b q a
    none_from {i = i} (take_token x s k) (at_token h g) b q a =
        none_from k g b q (d.no (record { here = h; behind = g; matches = x.fits.matches }) (b i h.inside) a)

    -- the m-th is the first that the test tells
    pub first_is : (m : ℕ) → m < length c.kinds → ((j : ℕ) → j < m → test c j ≡ false) → test c m ≡ true → First P c (Some (get_or c.places m 0))
    first_is m u b y ts k g = first_from m k g (omega arith) u b y

    pub none_is : ((j : ℕ) → j < length c.kinds → test c j ≡ false) → First P c None
    none_is b ts k g = none_from k g b

-- ---- at most one reply

pub one_found : (P : List Token → ℕ → Type 0) {c : Source} {ts : List Token} → Tokens c.text 0 ts → Stand c 0 ts
    → (r s : Option ℕ) → First P c r → First P c s → r ≡ s
one_found P {ts = ts} k g (Some p) (Some q) a b =
    let x = a ts k g in
    let y = b ts k g in
    let l = x.1 q y.0 in
    let u = y.1 p x.0 in
    ap Some (let e : p ≡ q = omega arith in e)
one_found P {ts = ts} k g (Some p) None a b = absurd (b ts k g p (a ts k g).0)
one_found P {ts = ts} k g None (Some q) a b = absurd (a ts k g q (b ts k g).0)
one_found P k g None None a b = refl
