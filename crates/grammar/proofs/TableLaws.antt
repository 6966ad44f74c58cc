-- A byte of the tables is what Form has there: each table is made of Form's lists, so one law about such lists says it of every entry.
use Prim.Native.Nat.{ℕ, zero, suc, ◌<◌, ◌≤◌, ◌+◌, ◌-◌, ◌*◌}
use mathlib.Core.Path.{◌≡◌, refl, sym, ap, subst, ◌∙◌}
use mathlib.Core.Bool.{Bool, true, false, cond}
use mathlib.Core.Option.{none, some}
use mathlib.Core.Logic.{⊎_elim}
use mathlib.Core.List.{List, [], ◌∷◌, ◌++◌, map}
use native.Mathlib.Omega.{arith}
use native.Mathlib.Nat.{min-le_left, not-suc-le-zero, le_of_suc-le-suc}
use native.Mathlib.Numerals.{add-one}
use lib.Dec.{eqb, ltb, leb}
use lib.ListN.{length, get_or, take, drop, length-append, length-drop, length-take, drop_of_length-le, length-map, get_or-append, get_or-eq_default}
use lib.Seq.{ext_get_or, length-take-le, slice, slice-cons, take-append_seam, take-append-add, drop-append-add, get_or-append-add, get_or-take, get_or-drop}
use borrow.Author.Tests.{eq-eqb, ne_eqb, ltb-true, ltb-false, leb-true, le-ltb, lt-ltb}
use Rattle.paper_expressions.proofs.Laws.Tests.{and_l, and_r, two, every}
use Rattle.paper_grammar.proofs.Laws.Ll.{Sym, T, N, Alt, ◌⇒◌, find}
use Rattle.paper_grammar.proofs.Laws.Form.{rows, blanks, G}
use Rattle.grammar.specs.Tables.{code, sym_of, cells, record_of, side, first, joined, alternatives, offsets, alternatives_table, rows_table, empty_table, table, alt_of, byte_of, side_of, seek_in, choice_of}

-- the ten bytes of each alternative

cells_length : (n : ℕ) (β : List (Sym ℕ)) → length (cells n β) ≡ n
cells_length zero β = refl
cells_length (suc n) [] = ap suc (cells_length n [])
cells_length (suc n) (s ∷ β) = ap suc (cells_length n β)

cells_at : (n : ℕ) (β : List (Sym ℕ)) (j : ℕ) → j < n → j < length β → get_or (cells n β) j 0 ≡ get_or (map code β) j 0
cells_at zero β j h l = absurd (not-suc-le-zero h)
cells_at (suc n) [] j h l = absurd (not-suc-le-zero l)
cells_at (suc n) (s ∷ β) zero h l = refl
cells_at (suc n) (s ∷ β) (suc j) h l = cells_at n β j (le_of_suc-le-suc h) (le_of_suc-le-suc l)

record_length : (x : Alt ℕ) → length (record_of x) ≡ 10
record_length (k ⇒ β) = ap (λ (n : ℕ). suc (suc n)) (cells_length 8 β)

table_at : (l : List (Alt ℕ)) (a j n : ℕ) → n ≡ a * 10 + j → a < length l → j < 10 → get_or (joined (map record_of l)) n 0 ≡ get_or (record_of (get_or l a (0 ⇒ []))) j 0
table_at [] a j n e h k = absurd (not-suc-le-zero h)
table_at (x ∷ l) zero j n e h k =
    let m : n ≡ j = omega arith in
    ap (λ (i : ℕ). get_or (record_of x ++ joined (map record_of l)) i 0) m ∙ get_or-append (record_of x) (joined (map record_of l)) 0 j (subst (λ (i : ℕ). j < i) (sym (record_length x)) k)
table_at (x ∷ l) (suc a) j n e h k =
    let r = record_length x in
    let m : n ≡ length (record_of x) + (n - 10) = omega arith in
    ap (λ (i : ℕ). get_or (record_of x ++ joined (map record_of l)) i 0) m ∙ get_or-append-add (record_of x) (joined (map record_of l)) (n - 10) 0 ∙ table_at l a j (n - 10) (omega arith) (le_of_suc-le-suc h) k

pub how_many : length alternatives ≡ 210
unfolding rows alternatives
how_many = refl

byte_at : (a j : ℕ) → a < 210 → j < 10 → get_or alternatives_table (a * 10 + j) 0 ≡ byte_of a j
unfolding alternatives_table
byte_at a j h k = table_at alternatives a j (a * 10 + j) refl (subst (λ (n : ℕ). a < n) (sym how_many) h) k

pub first_is : (a : ℕ) → byte_of a 0 ≡ first (alt_of a)
first_is a = of (alt_of a)
  where
    of : (x : Alt ℕ) → get_or (record_of x) 0 0 ≡ first x
    of (k ⇒ β) = refl

width_is : (a : ℕ) → byte_of a 1 ≡ length (side (alt_of a))
width_is a = of (alt_of a)
  where
    of : (x : Alt ℕ) → get_or (record_of x) 1 0 ≡ length (side x)
    of (k ⇒ β) = refl

-- what holds of each entry of a list and of the default holds at each place
get_d_every : {A : Type 0} (f : A → Bool) (l : List A) (d : A) → every f l ≡ true → f d ≡ true → (a : ℕ) → f (get_or l a d) ≡ true
get_d_every f [] d h e a = e
get_d_every f (y ∷ l) d h e zero = and_l (f y) (every f l) h
get_d_every f (y ∷ l) d h e (suc a) = get_d_every f l d (and_r (f y) (every f l) h) e a

short : (a : ℕ) → length (side (alt_of a)) ≤ 8
unfolding rows alternatives
short a = leb-true _ 8 (get_d_every (λ (x : Alt ℕ). leb (length (side x)) 8) alternatives (0 ⇒ []) refl refl a)

symbol_is : (a j : ℕ) → j < length (side (alt_of a)) → byte_of a (j + 2) ≡ get_or (side_of a) j 0
symbol_is a j h = of (alt_of a) h (let s = short a in omega arith)
  where
    of : (x : Alt ℕ) → j < length (side x) → j < 8 → get_or (record_of x) (j + 2) 0 ≡ get_or (map code (side x)) j 0
    of (k ⇒ β) l m =
        let e : j + 2 ≡ suc (suc j) = omega arith in
        ap (λ (i : ℕ). get_or (record_of (k ⇒ β)) i 0) e ∙ cells_at 8 β j m l

side_length : (a : ℕ) → length (side_of a) ≡ length (side (alt_of a))
side_length a = length-map (side (alt_of a)) code

pub side_short : (a : ℕ) → length (side_of a) ≤ 8
side_short a = let e = side_length a in let s = short a in omega arith

-- a byte and its symbol
abbrev fits : Sym ℕ → Bool
fits (T k) = ltb k 128
fits (N x) = true

pub is_token : (c : ℕ) → c < 128 → sym_of c ≡ T c
is_token c h = ap (λ (b : Bool). cond b (T c) (N (c - 128))) (lt-ltb c 128 h)

pub is_symbol : (c : ℕ) → 128 ≤ c → sym_of c ≡ N (c - 128)
is_symbol c h = ap (λ (b : Bool). cond b (T c) (N (c - 128))) (le-ltb c 128 h)

coded : (s : Sym ℕ) → fits s ≡ true → sym_of (code s) ≡ s
coded (T k) h = is_token k (ltb-true k 128 h)
coded (N x) h = is_symbol (x + 128) (omega arith) ∙ ap N (omega arith)

map_coded : (β : List (Sym ℕ)) → every fits β ≡ true → map sym_of (map code β) ≡ β
map_coded [] h = refl
map_coded (s ∷ β) h = ap (λ (x : Sym ℕ). x ∷ map sym_of (map code β)) (coded s (and_l (fits s) (every fits β) h)) ∙ ap (λ (l : List (Sym ℕ)). s ∷ l) (map_coded β (and_r (fits s) (every fits β) h))

pub side_is : (a : ℕ) → map sym_of (side_of a) ≡ side (alt_of a)
unfolding rows alternatives
side_is a = map_coded (side (alt_of a)) (get_d_every (λ (x : Alt ℕ). every fits (side x)) alternatives (0 ⇒ []) refl refl a)

-- each symbol's part of the alternatives
module _ {A : Type 0} where
  offset_low : (ls : List (List A)) (n x : ℕ) → x ≤ length ls → n ≤ get_or (offsets n ls) x 0
  offset_low [] n zero h = omega arith
  offset_low [] n (suc x) h = absurd (not-suc-le-zero h)
  offset_low (l ∷ ls) n zero h = omega arith
  offset_low (l ∷ ls) n (suc x) h = let r = offset_low ls (n + length l) x (le_of_suc-le-suc h) in omega arith

  offset_high : (ls : List (List A)) (n x : ℕ) → x ≤ length ls → get_or (offsets n ls) x 0 ≤ n + length (joined ls)
  offset_high [] n zero h = omega arith
  offset_high [] n (suc x) h = absurd (not-suc-le-zero h)
  offset_high (l ∷ ls) n zero h = omega arith
  offset_high (l ∷ ls) n (suc x) h = let r = offset_high ls (n + length l) x (le_of_suc-le-suc h) in let e = length-append l (joined ls) in omega arith

  offset_next : (ls : List (List A)) (n x : ℕ) → x < length ls → get_or (offsets n ls) (suc x) 0 ≡ get_or (offsets n ls) x 0 + length (get_or ls x [])
  offset_next [] n x h = absurd (not-suc-le-zero h)
  offset_next (l ∷ []) n zero h = refl
  offset_next (l ∷ m ∷ ls) n zero h = refl
  offset_next (l ∷ ls) n (suc x) h = offset_next ls (n + length l) x (le_of_suc-le-suc h)

  part_is : (ls : List (List A)) (n x p : ℕ) → x < length ls → p ≡ get_or (offsets n ls) x 0 - n → slice p (p + length (get_or ls x [])) (joined ls) ≡ get_or ls x []
  part_is [] n x p h e = absurd (not-suc-le-zero h)
  part_is (l ∷ ls) n zero p h e =
      let z : p ≡ 0 = omega arith in
      let z' : p + length l ≡ length l = omega arith in
      ap (λ (i : ℕ). drop i (take (p + length l) (l ++ joined ls))) z ∙ ap (λ (i : ℕ). take i (l ++ joined ls)) z' ∙ take-append_seam l (joined ls)
  part_is (l ∷ ls) n (suc x) p h e =
      let b = offset_low ls (n + length l) x (omega arith) in
      let q = p - length l in
      let m : p ≡ length l + q = omega arith in
      let m' : p + length (get_or ls x []) ≡ length l + (q + length (get_or ls x [])) = omega arith in
      ap (λ (i : ℕ). drop p (take i (l ++ joined ls))) m'
      ∙ ap (drop p) (take-append-add l (joined ls) (q + length (get_or ls x [])))
      ∙ ap (λ (i : ℕ). drop i (l ++ take (q + length (get_or ls x [])) (joined ls))) m
      ∙ drop-append-add l (take (q + length (get_or ls x [])) (joined ls)) q
      ∙ part_is ls (n + length l) x q (le_of_suc-le-suc h) (omega arith)

rows_many : length rows ≡ 48
unfolding rows
rows_many = refl

row_none : (x : ℕ) → 48 ≤ x → G.alts x ≡ []
row_none x h = get_or-eq_default rows [] (subst (λ (n : ℕ). n ≤ x) (sym rows_many) h)

module _ (x : ℕ) (h : x < 48) where
  within : x < length rows
  within = subst (λ (n : ℕ). x < n) (sym rows_many) h

  pub row_ends : get_or rows_table (x + 1) 0 ≡ get_or rows_table x 0 + length (G.alts x)
  unfolding rows_table
  row_ends = ap (λ (i : ℕ). get_or (offsets 0 rows) i 0) (add-one x) ∙ offset_next rows 0 x within

  pub row_within : get_or rows_table (x + 1) 0 ≤ 210
  unfolding rows_table alternatives
  row_within =
      let b = offset_high rows 0 (x + 1) (let w = within in omega arith) in
      let e = how_many in
      omega arith

  pub row_part : slice (get_or rows_table x 0) (get_or rows_table (x + 1) 0) alternatives ≡ G.alts x
  unfolding rows_table alternatives
  row_part = ap (λ (i : ℕ). slice (get_or (offsets 0 rows) x 0) i (joined rows)) row_ends ∙ part_is rows 0 x (get_or (offsets 0 rows) x 0) within (omega arith)

  -- as the code reads it
  module _ (f t : ℕ) (ef : f ≡ get_or rows_table x 0) (et : t ≡ get_or rows_table (x + 1) 0) where
    pub row_bounds : (f ≤ t) × (t ≤ 210)
    row_bounds = let e = row_ends in let w = row_within in (omega arith, omega arith)

    pub row_choice : (k : ℕ) → seek_in k f (slice f t alternatives) ≡ choice_of x k
    row_choice k =
        ap (λ (i : ℕ). seek_in k i (slice i t alternatives)) ef ∙ ap (λ (i : ℕ). seek_in k (get_or rows_table x 0) (slice (get_or rows_table x 0) i alternatives)) et ∙ ap (seek_in k (get_or rows_table x 0)) row_part

-- the alternative that was found is the one that the machine of Ll finds
seek_none : (k a : ℕ) (l : List (Alt ℕ)) → seek_in k a l ≡ 0 → find k l ≡ none
seek_none k a [] e = refl
seek_none k a ((j ⇒ β) ∷ l) e = ⊎_elim
    (λ (t : eqb k j ≡ true). let z = sym (ap (λ (b : Bool). cond b (a + 1) (seek_in k (a + 1) l)) t) ∙ e in absurd (omega arith))
    (λ (t : eqb k j ≡ false). ap (λ (b : Bool). cond b (some β) (find k l)) t ∙ seek_none k (a + 1) l (sym (ap (λ (b : Bool). cond b (a + 1) (seek_in k (a + 1) l)) t) ∙ e))
    (two (eqb k j))

-- a list that has the alternatives from a on
seek_some : (k a r : ℕ) (l : List (Alt ℕ)) → ((i : ℕ) → i < length l → get_or l i (0 ⇒ []) ≡ alt_of (a + i)) → seek_in k a l ≡ r → (r ≡ 0 → ⊥) → (find k l ≡ some (side (alt_of (r - 1)))) × (r ≤ a + length l)
seek_some k a r [] g e z = absurd (z (sym e))
seek_some k a r ((j ⇒ β) ∷ l) g e z = ⊎_elim
    (λ (t : eqb k j ≡ true).
    let e' : a + 1 ≡ r = sym (ap (λ (b : Bool). cond b (a + 1) (seek_in k (a + 1) l)) t) ∙ e in
    let p : a + 0 ≡ r - 1 = omega arith in
    (ap (λ (b : Bool). cond b (some β) (find k l)) t ∙ ap (λ (x : Alt ℕ). some (side x)) (g 0 (omega arith) ∙ ap alt_of p), omega arith))
    (λ (t : eqb k j ≡ false).
    let g' : (i : ℕ) → i < length l → get_or l i (0 ⇒ []) ≡ alt_of (a + 1 + i) = λ i h. let p : a + suc i ≡ a + 1 + i = omega arith in g (suc i) (omega arith) ∙ ap alt_of p in
    let q = seek_some k (a + 1) r l g' (sym (ap (λ (b : Bool). cond b (a + 1) (seek_in k (a + 1) l)) t) ∙ e) z in
    let b = q.1 in
    (ap (λ (b : Bool). cond b (some β) (find k l)) t ∙ q.0, omega arith))
    (two (eqb k j))

pub choice_none : (x k : ℕ) → choice_of x k ≡ 0 → find k (G.alts x) ≡ none
choice_none x k e = seek_none k (get_or rows_table x 0) (G.alts x) e

chosen : (x k r : ℕ) → choice_of x k ≡ r → (r ≡ 0 → ⊥) → (find k (G.alts x) ≡ some (side (alt_of (r - 1)))) × (r ≤ 210)
chosen x k r e z = ⊎_elim
    (λ (t : ltb x 48 ≡ true).
    let h = ltb-true x 48 t in
    let lo = get_or rows_table x 0 in
    let hi = get_or rows_table (x + 1) 0 in
    let en = row_ends x h in
    let w = row_within x h in
    let g : (i : ℕ) → i < length (G.alts x) → get_or (G.alts x) i (0 ⇒ []) ≡ alt_of (lo + i) = λ i l. sym (ap (λ (q : List (Alt ℕ)). get_or q i (0 ⇒ [])) (row_part x h)) ∙ get_or-drop lo (take hi alternatives) i (0 ⇒ []) ∙ get_or-take hi alternatives (lo + i) (0 ⇒ []) (omega arith) in
    let q = seek_some k lo r (G.alts x) g e z in
    (q.0, let b = q.1 in omega arith))
    (λ (t : ltb x 48 ≡ false). absurd (z (sym e ∙ ap (seek_in k (get_or rows_table x 0)) (row_none x (ltb-false x 48 t)))))
    (two (ltb x 48))

pub choice_some : (x k a : ℕ) → choice_of x k ≡ a + 1 → (find k (G.alts x) ≡ some (side (alt_of a))) × (a < 210)
choice_some x k a e =
    let q = chosen x k (a + 1) e (λ z. omega arith) in
    let b = q.1 in
    let z : a + 1 - 1 ≡ a = omega arith in
    (q.0 ∙ ap (λ (i : ℕ). some (side (alt_of i))) z, omega arith)

pub no_choice : (x k : ℕ) → 48 ≤ x → choice_of x k ≡ 0
no_choice x k h = ap (seek_in k (get_or rows_table x 0)) (row_none x h)

-- which symbols may be empty
blanks_many : length blanks ≡ 48
unfolding blanks
blanks_many = refl

flag_at : (l : List Bool) (x : ℕ) → x < length l → eqb (get_or (map (λ (b : Bool). cond b 49 48) l) x 0) 49 ≡ get_or l x true
flag_at [] x h = absurd (not-suc-le-zero h)
flag_at (true ∷ l) zero h = refl
flag_at (false ∷ l) zero h = refl
flag_at (b ∷ l) (suc x) h = flag_at l x (le_of_suc-le-suc h)

empty_at : (x : ℕ) → x < 48 → eqb (get_or empty_table x 0) 49 ≡ G.empty x
unfolding empty_table
empty_at x h = flag_at blanks x (subst (λ (n : ℕ). x < n) (sym blanks_many) h)

pub empty_none : (x : ℕ) → 48 ≤ x → G.empty x ≡ true
unfolding blanks
empty_none x h = get_or-eq_default blanks true h

-- the search, step by step
module _ (k a to : ℕ) where
  at_first : a < to → to ≤ 210 → slice a to alternatives ≡ alt_of a ∷ slice (a + 1) to alternatives
  at_first h l = slice-cons a to alternatives (0 ⇒ []) h (subst (λ (n : ℕ). to ≤ n) (sym how_many) l) ∙ ap (λ (n : ℕ). alt_of a ∷ slice n to alternatives) (sym (add-one a))

  pub seek_hit : a < to → to ≤ 210 → byte_of a 0 ≡ k → seek_in k a (slice a to alternatives) ≡ a + 1
  seek_hit h l e = ap (seek_in k a) (at_first h l) ∙ ap (λ (b : Bool). cond b (a + 1) (seek_in k (a + 1) (slice (a + 1) to alternatives))) (eq-eqb k (first (alt_of a)) (sym e ∙ first_is a))

  pub seek_miss : a < to → to ≤ 210 → (byte_of a 0 ≡ k → ⊥) → seek_in k a (slice a to alternatives) ≡ seek_in k (a + 1) (slice (a + 1) to alternatives)
  seek_miss h l e = ap (seek_in k a) (at_first h l) ∙ ap (λ (b : Bool). cond b (a + 1) (seek_in k (a + 1) (slice (a + 1) to alternatives))) (ne_eqb k (first (alt_of a)) (λ q. e (first_is a ∙ sym q)))

  pub seek_end : to ≤ a → seek_in k a (slice a to alternatives) ≡ 0
  seek_end h =
      let e = length-take to alternatives in
      let l : length (take to alternatives) ≤ a = omega (arith, min-le_left to (length alternatives)) in
      ap (seek_in k a) (drop_of_length-le (take to alternatives) l)

-- the one table has each of the three

rows_long : length rows_table ≡ 49
unfolding rows rows_table
rows_long = refl

empty_long : length empty_table ≡ 48
unfolding blanks empty_table
empty_long = refl

pub row_at : (x : ℕ) → x < 49 → get_or table x 0 ≡ get_or rows_table x 0
unfolding table
row_at x h = get_or-append rows_table (empty_table ++ alternatives_table) 0 x (subst (λ (n : ℕ). x < n) (sym rows_long) h)

-- behind the rows
behind : (n : ℕ) → get_or table (49 + n) 0 ≡ get_or (empty_table ++ alternatives_table) n 0
unfolding table
behind n = ap (λ (m : ℕ). get_or (rows_table ++ (empty_table ++ alternatives_table)) (m + n) 0) (sym rows_long) ∙ get_or-append-add rows_table (empty_table ++ alternatives_table) n 0

pub blank_at : (x : ℕ) → x < 48 → eqb (get_or table (49 + x) 0) 49 ≡ G.empty x
blank_at x h =
    ap (λ (n : ℕ). eqb n 49) (behind x ∙ get_or-append empty_table alternatives_table 0 x (subst (λ (n : ℕ). x < n) (sym empty_long) h))
    ∙ empty_at x h

pub alternative_at : (a j : ℕ) → a < 210 → j < 10 → get_or table (97 + a * 10 + j) 0 ≡ byte_of a j
alternative_at a j h k =
    let m : 97 + a * 10 + j ≡ 49 + (48 + (a * 10 + j)) = omega arith in
    ap (λ (n : ℕ). get_or table n 0) m ∙ behind (48 + (a * 10 + j))
    ∙ ap (λ (n : ℕ). get_or (empty_table ++ alternatives_table) (n + (a * 10 + j)) 0) (sym empty_long)
    ∙ get_or-append-add empty_table alternatives_table (a * 10 + j) 0 ∙ byte_at a j h k

table_long : length table ≡ 2197
unfolding rows blanks alternatives alternatives_table rows_table empty_table table
table_long = refl

-- the symbols that follow the first token of an alternative stand behind their number
pub side_many : (a n : ℕ) → n ≡ byte_of a 1 → n ≡ length (side_of a)
side_many a n e = e ∙ width_is a ∙ sym (side_length a)

pub side_within : (a n : ℕ) → a < 210 → n ≡ byte_of a 1 → 97 + a * 10 + 2 + n ≤ length table
side_within a n h e = let w = side_many a n e in let s = side_short a in let t = table_long in omega arith

pub side_at : (a n : ℕ) → a < 210 → n ≡ byte_of a 1 → take n (drop (97 + a * 10 + 2) table) ≡ side_of a
side_at a n h e =
    let w = side_many a n e in
    let s = side_short a in
    let i = side_within a n h e in
    let l : length (take n (drop (97 + a * 10 + 2) table)) ≡ n = length-take-le n (drop (97 + a * 10 + 2) table) (omega (arith, length-drop (97 + a * 10 + 2) table)) in
    ext_get_or 0 (take n (drop (97 + a * 10 + 2) table)) (side_of a) (l ∙ w)
    (λ k b.
    let c : k < n = omega arith in
    let m : 97 + a * 10 + 2 + k ≡ 97 + a * 10 + (k + 2) = omega arith in
    get_or-take n (drop (97 + a * 10 + 2) table) k 0 c ∙ get_or-drop (97 + a * 10 + 2) table k 0 ∙ ap (λ (j : ℕ). get_or table j 0) m
    ∙ alternative_at a (k + 2) h (omega arith) ∙ symbol_is a k (let z = side_length a in omega arith))
