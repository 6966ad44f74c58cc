-- A part of a table of cells, and the columns that the evaluator reads as parts of the plan and of the state.
use Rattle.std.specs.Prelude.{ℕ, ◌+◌, ◌-◌, ◌<◌, ◌≤◌, ◌≡◌, refl, List, [], get_or, length, take, drop}
use Rattle.std.proofs.Common.{arith, sym, ap, ◌∙◌, length-take, length-drop, drop_of_length-le, get_or-take, get_or-drop, take_all}
use Rattle.std.proofs.Math.Decide.{dec_lt}
use Rattle.std.proofs.Math.Seq.{take-nil}
use Rattle.evaluator.specs.Columns.{Columns, columns}

-- shut, or antt would write a part of 1,088 cells out
unfoldable pub part_of : List ℕ → ℕ → ℕ → List ℕ
part_of s a n = take n (drop a s)

pub part_is : (s : List ℕ) (a n : ℕ) → take n (drop a s) ≡ part_of s a n
unfolding part_of
part_is s a n = refl

pub part_at : (s : List ℕ) (a n i : ℕ) → i < n → get_or (part_of s a n) i 0 ≡ get_or s (a + i) 0
unfolding part_of
part_at s a n i l = get_or-take n (drop a s) i 0 l ∙ get_or-drop a s i 0

pub part_size : (s : List ℕ) (a n : ℕ) → a + n ≤ length s → length (part_of s a n) ≡ n
unfolding part_of
part_size s a n l = simp (length-take, length-drop) (omega arith)

pub part_past : (s : List ℕ) (a n : ℕ) → length s ≤ a → [] ≡ part_of s a n
unfolding part_of
part_past s a n l = sym (ap (take n) (drop_of_length-le s l) ∙ take-nil n)

pub part_cut : (s : List ℕ) (a n m : ℕ) → m ≡ length s → a ≤ m → m - a < n → take (m - a) (drop a s) ≡ part_of s a n
unfolding part_of
part_cut s a n m e l k =
    let z : length (drop a s) ≡ m - a = length-drop a s ∙ ap (λ (y : ℕ). y - a) (sym e) in
    take_all (m - a) (drop a s) (omega arith) ∙ sym (take_all n (drop a s) (omega arith))

-- from a or the end on, n numbers or what there is of them
pub part_there : (s : List ℕ) (a n f k : ℕ) → (a ≤ length s → f ≡ a) → (length s ≤ a → f ≡ length s) → (n ≤ length s - f → k ≡ n) → (length s - f ≤ n → k ≡ length s - f) → take (f + k - f) (drop f s) ≡ part_of s a n
unfolding part_of
part_there s a n f k in_it past all cut = go (dec_lt (length s) a)
  where
    go : Dec (length s < a) → take (f + k - f) (drop f s) ≡ take n (drop a s)
    go (yes l) =
        let e : f ≡ length s = past (omega arith) in
        let z : f + k - f ≡ 0 = (let x = cut (omega arith) in omega arith) in
        rw z (part_past s a n (omega arith))
    go (no l) =
        let e : f ≡ a = in_it (omega arith) in
        near (dec_lt (length s - a) n) e
      where
        near : Dec (length s - a < n) → f ≡ a → take (f + k - f) (drop f s) ≡ take n (drop a s)
        near (yes j) e =
            let z : f + k - f ≡ length s - a = (let x = cut (omega arith) in omega arith) in
            rw (z, e) (part_cut s a n (length s) refl (omega arith) j)
        near (no j) e =
            let z : f + k - f ≡ n = (let x = all (omega arith) in omega arith) in
            rw (z, e) refl

-- the names of the data items and of the tasks, the items' values, the tasks' states
abbrev pub shown_by : List ℕ → List ℕ → Columns
shown_by f s = columns (part_of f 1256 (get_or f 1 0)) (part_of s 776 1088) (part_of s 1864 1088) (part_of f 1192 (get_or f 0 0)) (part_of s 40 32)

-- the parts that the code lends
pub lent : (f s : List ℕ) {n g m k z : List ℕ} {i j : ℕ} → i ≡ get_or f 1 0 → n ≡ part_of f 1256 i → g ≡ part_of s 776 1088 → m ≡ part_of s 1864 1088 → j ≡ get_or f 0 0 → k ≡ part_of f 1192 j → z ≡ part_of s 40 32
    → columns n g m k z ≡ shown_by f s
lent f s {n} {g} {m} {k} {z} a b c d e h i =
    ap (λ (x : List ℕ). columns x g m k z) (b ∙ ap (part_of f 1256) a)
    ∙ ap (λ (x : List ℕ). columns (part_of f 1256 (get_or f 1 0)) x m k z) c
    ∙ ap (λ (x : List ℕ). columns (part_of f 1256 (get_or f 1 0)) (part_of s 776 1088) x k z) d
    ∙ ap (λ (x : List ℕ). columns (part_of f 1256 (get_or f 1 0)) (part_of s 776 1088) (part_of s 1864 1088) x z) (h ∙ ap (part_of f 1192) e)
    ∙ ap (columns (part_of f 1256 (get_or f 1 0)) (part_of s 776 1088) (part_of s 1864 1088) (part_of f 1192 (get_or f 0 0))) i
