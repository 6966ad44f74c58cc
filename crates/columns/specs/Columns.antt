-- The columns that the tokens are put into stand for these tokens. By induction on the tokens: each is a part of the text, at its place.
use Rattle.std.specs.Prelude.{ℕ, suc, ◌+◌, ◌-◌, ◌≤◌, ◌<◌, ◌≡◌, refl, List, [], ◌∷◌, map, length, take, drop, get_or, replicate}
use Rattle.std.proofs.Common.{arith, sym, ap, subst, ◌∙◌, length-drop, take_at, length-take-le}
use Rattle.std.proofs.Math.ListN.{get_or-append}
use Rattle.paper_tokens.specs.Lexical.{Token, token, part, Tokens, at_end, skip, take_token}
use Rattle.paper_tokens.specs.Terminals.{Terminal, Terminals, none, next}
use Rattle.paper_guideline.proofs.Laws.TreeLaws.{Each, all, ◌&◌}
use Rattle.tokens.specs.Reply.{filled, Accepted}
use Rattle.leaves.specs.Source.{Source, source, Stand}
use Rattle.leaves.specs.Source as Source
use Rattle.paper_guideline.specs.Refusals.{Stage, turn, Breach}

-- the columns stand for the tokens of the text, and it passes 1, 2 and 6 for tokens and brackets
pub record Lexed (text kinds places lengths : List ℕ) : Type 0 where
  pub tokens : List Token
  pub its : Tokens text 0 tokens
  pub are : Terminals tokens kinds
  pub stand : Stand (source text kinds places lengths) 0 tokens
  pub passed : (s : Stage) (q : ℕ) → turn s ≤ 2 → ¬ Breach ⊥ text s q

-- ---- a token is a part of the text

record Cut (text : List ℕ) (t : Token) : Type 0 where
  pub bytes : t.bytes ≡ part text t.place (length t.bytes)
  pub within : t.place + length t.bytes ≤ length text

cut : (text : List ℕ) {at : ℕ} {ts : List Token} → Tokens text at ts → Each (Cut text) ts
cut text (at_end e) = all
cut text (skip h s k) = cut text k
cut text {at} (take_token {n} {r} h s k) =
    let b = h.fits.inside in
    let d = length-drop at text in
    let e : length (part text at n) ≡ n = length-take-le n (drop at text) (omega arith) in
    let c : Cut text (token text at r n) = record { bytes = ap (part text at) (sym e); within = omega arith } in
    c & cut text k

-- ---- from the token i on, a column has these numbers

data Along (column : List ℕ) : ℕ → List ℕ → Type 0 where
  no_more : {i : ℕ} → Along column i []
  one_more : {i x : ℕ} {xs : List ℕ} → get_or column i 0 ≡ x → Along column (suc i) xs → Along column i (x ∷ xs)

along : (column xs : List ℕ) (i : ℕ) → ((j : ℕ) → j < length xs → get_or column (i + j) 0 ≡ get_or xs j 0) → Along column i xs
along column [] i h = no_more
along column (x ∷ xs) i h = one_more
    (subst (λ (n : ℕ). get_or column n 0 ≡ x) (let z : i + 0 ≡ i = omega arith in z) (h 0 (omega arith)))
    (along column xs (suc i) (λ j l. subst (λ (n : ℕ). get_or column n 0 ≡ get_or xs j 0) (let z : i + suc j ≡ suc i + j = omega arith in z) (h (suc j) (omega arith))))

none_before : (j : ℕ) → 0 + j ≡ j
none_before j = omega arith

filled_along : (column : List ℕ) (cells : ℕ) (xs : List ℕ) → column ≡ filled cells xs → Along column 0 xs
filled_along column cells xs e = along column xs 0 (λ j l. rw (none_before j) (ap (λ (w : List ℕ). get_or w j 0) e ∙ get_or-append xs (replicate (cells - length xs) 0) 0 j l))

self_along : (xs : List ℕ) → Along xs 0 xs
self_along xs = along xs xs 0 (λ j l. rw (none_before j))

abbrev places_of : List Token → List ℕ
places_of ts = map (λ (t : Token). t.place) ts

abbrev lengths_of : List Token → List ℕ
lengths_of ts = map (λ (t : Token). length t.bytes) ts

module _ (c : Source) where
  here : {i k : ℕ} {t : Token} → Cut c.text t → Terminal t k → i < length c.kinds → get_or c.kinds i 0 ≡ k
      → get_or c.places i 0 ≡ t.place → get_or c.lengths i 0 ≡ length t.bytes → Source.Here c i t
  here {t} h m b k p l =
      let w = h.within in
      record {
        inside = b;
        terminal = subst (Terminal t) (sym k) m;
        place = sym p;
        bytes = rw (p, l) h.bytes;
        within = omega arith;
      }

  stands : {ts : List Token} {ks : List ℕ} (i : ℕ) → Each (Cut c.text) ts → Terminals ts ks → i + length ts ≡ length c.kinds
      → Along c.kinds i ks → Along c.places i (places_of ts) → Along c.lengths i (lengths_of ts) → Stand c i ts
  stands i all none e k p l = let z : i ≡ length c.kinds = omega arith in Source.at_end z
  stands i (h & hs) (next m ms) e (one_more k ks) (one_more p ps) (one_more l ls) =
      Source.at_token (here h m (omega arith) k p l) (stands (suc i) hs ms (omega arith) ks ps ls)

-- ---- the tokens of a text, in the columns

pub as_many : {ts : List Token} {ks : List ℕ} → Terminals ts ks → length ts ≡ length ks
as_many none = refl
as_many (next m ms) = ap suc (as_many ms)

-- the terminals, the first n of their column
pub lexed : {text : List ℕ} {n k p l : ℕ} {kinds places lengths : List ℕ} → Accepted text n k p l kinds places lengths → Lexed text (take n kinds) places lengths
lexed {text} {n} {k} {p} {l} {kinds} {places} {lengths} a =
    let ks = a.terminals in
    let c : n ≡ length ks = a.count ∙ as_many a.are in
    let e : take n kinds ≡ ks = ap (take n) a.kinds_are ∙ take_at ks (replicate (k - length ks) 0) n (sym c) in
    subst (λ (w : List ℕ). Lexed text w places lengths) (sym e) (record {
      tokens = a.tokens;
      its = a.its;
      are = a.are;
      stand = stands (source text ks places lengths) 0 (cut text a.its) a.are (none_before (length a.tokens) ∙ as_many a.are) (self_along ks) (filled_along places p (places_of a.tokens) a.places_are) (filled_along lengths l (lengths_of a.tokens) a.lengths_are);
      passed = a.sound;
    })
