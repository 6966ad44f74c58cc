-- Each terminal as a person writes it, the table that holds the spellings, and that an entry of the table is what it should be.
use Rattle.std.specs.Prelude.{ℕ, zero, suc, ◌+◌, ◌*◌, ◌-◌, ◌≤◌, ◌<◌, ◌≡◌, refl, Bool, true, false, List, [], ◌∷◌, ◌++◌, map, leb, ltb, length, get_or}
use Prim.Native.String.{String}
use Rattle.std.proofs.Common.{arith, le_of_suc-le-suc, not-suc-le-zero, sym, ap, subst, ◌∙◌, ⊎_elim, get_or-append-add, leb-true, ltb-true, ltb-false}
use Rattle.std.proofs.Math.ListN.{get_or-append}
use Rattle.paper_expressions.proofs.Laws.Tests.{and_l, and_r, two, every}
use Rattle.paper_expressions.specs.Bytes.{bytes}
use Rattle.paper_tokens.specs.Words.{reserved}

-- the reserved strings by their terminals, and words for the tokens of the other kinds
unfoldable pub others : List String
others = "a name" ∷ "yes or no" ∷ "a data type" ∷ "an integer" ∷ "a float" ∷ "a text in double quotes" ∷ []

unfoldable pub spellings : List (List ℕ)
spellings = map (λ (e : ℕ × String). bytes e.1) reserved ++ map bytes others

-- ---- as a table

-- n bytes: those of w, and then blanks
abbrev pub padded : ℕ → List ℕ → List ℕ
padded zero w = []
padded (suc n) [] = 32 ∷ padded n []
padded (suc n) (b ∷ w) = b ∷ padded n w

abbrev pub cell : List ℕ → List ℕ
cell w = length w ∷ padded 23 w

abbrev pub joined : List (List ℕ) → List ℕ
joined [] = []
joined (l ∷ ls) = l ++ joined ls

unfoldable pub spellings_table : List ℕ
spellings_table = joined (map cell spellings)

-- ---- an entry of a table

padded_length : (n : ℕ) (w : List ℕ) → length (padded n w) ≡ n
padded_length zero w = refl
padded_length (suc n) [] = ap suc (padded_length n [])
padded_length (suc n) (b ∷ w) = ap suc (padded_length n w)

padded_at : (n : ℕ) (w : List ℕ) (j : ℕ) → j < n → j < length w → get_or (padded n w) j 0 ≡ get_or w j 0
padded_at zero w j h l = absurd (not-suc-le-zero h)
padded_at (suc n) [] j h l = absurd (not-suc-le-zero l)
padded_at (suc n) (b ∷ w) zero h l = refl
padded_at (suc n) (b ∷ w) (suc j) h l = padded_at n w j (le_of_suc-le-suc h) (le_of_suc-le-suc l)

cell_length : (w : List ℕ) → length (cell w) ≡ 24
cell_length w = ap suc (padded_length 23 w)

table_at : (l : List (List ℕ)) (a j n : ℕ) → n ≡ a * 24 + j → a < length l → j < 24 → get_or (joined (map cell l)) n 0 ≡ get_or (cell (get_or l a [])) j 0
table_at [] a j n e h k = absurd (not-suc-le-zero h)
table_at (x ∷ l) zero j n e h k =
    let m : n ≡ j = omega arith in
    ap (λ (i : ℕ). get_or (cell x ++ joined (map cell l)) i 0) m ∙ get_or-append (cell x) (joined (map cell l)) 0 j (subst (λ (i : ℕ). j < i) (sym (cell_length x)) k)
table_at (x ∷ l) (suc a) j n e h k =
    let r = cell_length x in
    let m : n ≡ length (cell x) + (n - 24) = omega arith in
    ap (λ (i : ℕ). get_or (cell x ++ joined (map cell l)) i 0) m ∙ get_or-append-add (cell x) (joined (map cell l)) (n - 24) 0
    ∙ table_at l a j (n - 24) (omega arith) (le_of_suc-le-suc h) k

how_many : length spellings ≡ 101
unfolding reserved others spellings
how_many = refl

pub size_at : (k : ℕ) → k ≤ 100 → get_or spellings_table (k * 24) 0 ≡ length (get_or spellings k [])
unfolding spellings_table
size_at k h = let m = how_many in let z : k * 24 ≡ k * 24 + 0 = omega arith in table_at spellings k 0 (k * 24) z (omega arith) (omega arith)

-- what holds of each entry of a list and of the default holds at each place
get_d_every : (f : List ℕ → Bool) (l : List (List ℕ)) → every f l ≡ true → f [] ≡ true → (a : ℕ) → f (get_or l a []) ≡ true
get_d_every f [] h e a = e
get_d_every f (y ∷ l) h e zero = and_l (f y) (every f l) h
get_d_every f (y ∷ l) h e (suc a) = get_d_every f l (and_r (f y) (every f l) h) e a

pub short : (k : ℕ) → length (get_or spellings k []) ≤ 23
unfolding reserved others spellings
short k = leb-true _ 23 (get_d_every (λ (w : List ℕ). leb (length w) 23) spellings refl refl k)

pub letter_at : (k j : ℕ) → k ≤ 100 → j < length (get_or spellings k []) → get_or spellings_table (k * 24 + 1 + j) 0 ≡ get_or (get_or spellings k []) j 0
unfolding spellings_table
letter_at k j h l =
    let m = how_many in
    let s = short k in
    let z : k * 24 + 1 + j ≡ k * 24 + suc j = omega arith in
    table_at spellings k (suc j) (k * 24 + 1 + j) z (omega arith) (omega arith)
    ∙ padded_at 23 (get_or spellings k []) j (omega arith) l

-- past the last terminal
get_d_past : (l : List (List ℕ)) (k : ℕ) → length l ≤ k → get_or l k [] ≡ []
get_d_past [] k h = refl
get_d_past (x ∷ l) zero h = absurd (not-suc-le-zero h)
get_d_past (x ∷ l) (suc k) h = get_d_past l k (le_of_suc-le-suc h)

pub size_past : (k : ℕ) → 100 < k → 0 ≡ length (get_or spellings k [])
size_past k h = let m = how_many in sym (ap length (get_d_past spellings k (omega arith)))

pub letter_past : (k j : ℕ) → length (get_or spellings k []) ≤ j → 0 ≡ get_or (get_or spellings k []) j 0
letter_past k j h = sym (past (get_or spellings k []) j h)
  where
    past : (w : List ℕ) (i : ℕ) → length w ≤ i → get_or w i 0 ≡ 0
    past [] i h = refl
    past (b ∷ w) zero h = absurd (not-suc-le-zero h)
    past (b ∷ w) (suc i) h = past w i (le_of_suc-le-suc h)

-- ---- as the code reads them

pub size_is : (k w r : ℕ) → k ≤ 100 → w ≡ k → r ≡ get_or spellings_table (w * 24) 0 → r ≡ length (get_or spellings k [])
size_is k w r h e g = g ∙ ap (λ (x : ℕ). get_or spellings_table (x * 24) 0) e ∙ size_at k h

pub letter_none : (k j z : ℕ) → z ≡ length (get_or spellings k []) → z ≤ j → 0 ≡ get_or (get_or spellings k []) j 0
letter_none k j z e h = letter_past k j (omega arith)

module _ (k w j z : ℕ) (e : w ≡ k) (f : z ≡ length (get_or spellings k [])) (h : j < z) where
  few : k ≤ 100
  few = ⊎_elim
      (λ (g : ltb 100 k ≡ true). let p = size_past k (ltb-true 100 k g) in absurd (omega arith))
      (λ (g : ltb 100 k ≡ false). ltb-false 100 k g)
      (two (ltb 100 k))

  pub index_fits : w * 24 + 1 + j < 2424
  index_fits = let a = few in let s = short k in omega arith

  pub letter_is : get_or spellings_table (w * 24 + 1 + j) 0 ≡ get_or (get_or spellings k []) j 0
  letter_is = ap (λ (x : ℕ). get_or spellings_table (x * 24 + 1 + j) 0) e ∙ letter_at k j few (omega arith)
