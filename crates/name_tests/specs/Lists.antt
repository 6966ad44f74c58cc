-- The rows that a test chooses, in a list: the one before which k others stand is the k-th. With what a search of the list says of the rows.
use Rattle.std.specs.Prelude.{ℕ, zero, suc, ◌+◌, ◌≤◌, ◌<◌, ◌≡◌, refl, Bool, true, false, ◌&&◌, ◌⊎◌, List, ltb, length, get_or, set}
use Rattle.std.proofs.Common.{sym, ap, subst, ◌∙◌, ⊎_elim, arith, add-one, length-set, get_or-set_same, get_or-set_other, lt-ltb, le-ltb, ltb-true}
use Rattle.std.proofs.Math.Decide.{dec_lt}
use Rattle.paper_expressions.specs.Bytes.{Alike}
use Rattle.paper_expressions.proofs.Laws.Tests.{contra, two, both, and_l, and_r}
use Rattle.paper_expressions.proofs.Laws.Search.{Reflects, sameb, alikeb, same_reflects, alike_reflects, true_reflects, reflects_true, reflects_iff}
use Rattle.parts.specs.Texts.{text_at_fn}
use Rattle.row_names.specs.Sheet.{task_kind}
use Rattle.row_names.specs.Flat.{is_data}
use Rattle.row_tests.specs.Table.{cell_of, kind_of}
use Rattle.row_tests.specs.Searched.{Some}

-- ---- definitions

-- tasks, or data items
abbrev pub chosen : Bool → ℕ → Bool
chosen true k = task_kind k
chosen false k = is_data k

abbrev one_if : Bool → ℕ
one_if true = 1
one_if false = 0

-- how many of the rows before i are chosen
abbrev pub tally : (ℕ → Bool) → List ℕ → ℕ → ℕ
tally c x zero = 0
tally c x (suc i) = tally c x i + one_if (c (kind_of x i))

-- of the rows before n, each that is chosen stands in the list, behind those before it, as far as there is room
abbrev pub Entered : (ℕ → Bool) → List ℕ → List ℕ → ℕ → Type 0
Entered c x l n = (j : ℕ) → j < n → c (kind_of x j) ≡ true → tally c x j < length l → get_or l (tally c x j) 0 ≡ j

pub record Puts (tasks : Bool) (x before after : List ℕ) (m i r : ℕ) : Type 0 where
  pub long : length after ≡ length before
  pub count : m ≡ tally (chosen tasks) x i → r ≡ tally (chosen tasks) x (suc i)
  pub few : r ≤ i + 1
  pub entered : m ≡ tally (chosen tasks) x i → Entered (chosen tasks) x before i → Entered (chosen tasks) x after (suc i)

pub record Gathers (tasks : Bool) (x : List ℕ) (n : ℕ) (before after : List ℕ) (r : ℕ) : Type 0 where
  pub long : length after ≡ length before
  pub count : r ≡ tally (chosen tasks) x n
  pub entered : Entered (chosen tasks) x after n

abbrev pub matched : List ℕ → Bool → ℕ → ℕ → Bool
matched b true g h = alikeb (text_at_fn b g) (text_at_fn b h)
matched b false g h = sameb (text_at_fn b g) (text_at_fn b h)

abbrev pub Matched : List ℕ → Bool → ℕ → ℕ → Type 0
Matched b true g h = Alike (text_at_fn b g) (text_at_fn b h)
Matched b false g h = text_at_fn b g ≡ text_at_fn b h

abbrev pub listed_at : List ℕ → List ℕ → List ℕ → ℕ → Bool → ℕ → ℕ → Bool
listed_at x b l to f h k = ltb (get_or l k 0) to && matched b f (cell_of x (get_or l k 0) 2) h

-- ---- one of the list

module _ (x b l : List ℕ) (to : ℕ) (f : Bool) (h k : ℕ) {i : ℕ} (ei : i ≡ get_or l k 0) where
  pub listed_beyond : to ≤ i → false ≡ listed_at x b l to f h k
  listed_beyond u = rw (le-ltb (get_or l k 0) to (subst (λ (z : ℕ). to ≤ z) ei u))

  pub listed_before : i < to → {g : ℕ} {r : Bool} → g ≡ cell_of x i 2 → r ≡ matched b f g h → r ≡ listed_at x b l to f h k
  listed_before u eg er =
      rw (lt-ltb (get_or l k 0) to (subst (λ (z : ℕ). z < to) ei u))
      (er ∙ ap (λ (z : ℕ). matched b f z h) (eg ∙ ap (λ (z : ℕ). cell_of x z 2) ei))

-- ---- counting

tally_yes : (c : ℕ → Bool) (x : List ℕ) (i : ℕ) → c (kind_of x i) ≡ true → tally c x (suc i) ≡ suc (tally c x i)
tally_yes c x i e = rw e (add-one (tally c x i))

tally_no : (c : ℕ → Bool) (x : List ℕ) (i : ℕ) → c (kind_of x i) ≡ false → tally c x (suc i) ≡ tally c x i
tally_no c x i e = rw e (let z : tally c x i + 0 ≡ tally c x i = omega arith in z)

tally_step : (c : ℕ → Bool) (x : List ℕ) (i : ℕ) → tally c x i ≤ tally c x (suc i)
tally_step c x i = omega arith

tally_up : (c : ℕ → Bool) (x : List ℕ) (i j : ℕ) → i ≤ j → tally c x i ≤ tally c x j
tally_up c x i zero h = let z : i ≡ 0 = omega arith in subst (λ (k : ℕ). tally c x k ≤ 0) (sym z) (omega arith)
tally_up c x i (suc j) h = go (dec_lt j i) (λ l. tally_up c x i j l)
  where
    go : Dec (j < i) → (i ≤ j → tally c x i ≤ tally c x j) → tally c x i ≤ tally c x (suc j)
    go (yes l) f = let z : suc j ≡ i = omega arith in subst (λ (k : ℕ). tally c x k ≤ tally c x (suc j)) z (omega arith)
    go (no l) f = omega (arith, f (omega arith), tally_step c x j)

pub tally_rise : (c : ℕ → Bool) (x : List ℕ) (i j : ℕ) → i < j → c (kind_of x i) ≡ true → tally c x i < tally c x j
tally_rise c x i j l e = omega (arith, tally_yes c x i e, tally_up c x (suc i) j l)

pub record Chosen (c : ℕ → Bool) (x : List ℕ) (n k : ℕ) : Type 0 where
  pub row : ℕ
  pub below : row < n
  pub is : c (kind_of x row) ≡ true
  pub rank : tally c x row ≡ k

pub tally_onto : (c : ℕ → Bool) (x : List ℕ) (n k : ℕ) → k < tally c x n → Chosen c x n k
tally_onto c x zero k h = absurd (omega arith)
tally_onto c x (suc n) k h = step (dec_lt k (tally c x n)) (two (c (kind_of x n))) (λ l. tally_onto c x n k l)
  where
    step : Dec (k < tally c x n) → (c (kind_of x n) ≡ true) ⊎ (c (kind_of x n) ≡ false) → (k < tally c x n → Chosen c x n k) → Chosen c x (suc n) k
    step (yes l) d f = let r = f l in record { row = r.row; below = let z = r.below in omega arith; is = r.is; rank = r.rank }
    step (no l) d f = ⊎_elim
        (λ e. record { row = n; below = omega arith; is = e; rank = let z = tally_yes c x n e in omega arith })
        (λ e. absurd (let z = tally_no c x n e in omega arith))
        d

-- ---- one row more

module _ (tasks : Bool) (x l : List ℕ) (m i : ℕ) where
  last : (l : List ℕ) → (c : ℕ → Bool) → ((j : ℕ) → j < i → c (kind_of x j) ≡ true → tally c x j < length l → get_or l (tally c x j) 0 ≡ j)
      → (c (kind_of x i) ≡ true → tally c x i < length l → get_or l (tally c x i) 0 ≡ i) → Entered c x l (suc i)
  last l c f g j a = go (dec_lt j i)
    where
      go : Dec (j < i) → c (kind_of x j) ≡ true → tally c x j < length l → get_or l (tally c x j) 0 ≡ j
      go (yes h) = f j h
      go (no h) = let z : i ≡ j = omega arith in subst (λ (k : ℕ). c (kind_of x k) ≡ true → tally c x k < length l → get_or l (tally c x k) 0 ≡ k) z g

  pub puts_not : chosen tasks (kind_of x i) ≡ false → m ≤ i → Puts tasks x l l m i m
  puts_not e u = record {
    long = refl;
    count = λ h. h ∙ sym (tally_no (chosen tasks) x i e);
    few = omega arith;
    entered = λ h f. last l (chosen tasks) f (λ q. contra (sym e ∙ q));
  }

  pub puts_room : chosen tasks (kind_of x i) ≡ true → m ≤ i → m < length l → Puts tasks x l (set l m i) m i (m + 1)
  puts_room e u v = record {
    long = length-set l m i;
    count = λ h. let z = tally_yes (chosen tasks) x i e in omega arith;
    few = omega arith;
    entered = λ h f. last (set l m i) (chosen tasks)
        (λ j a q r. let z = tally_rise (chosen tasks) x j i a q in
        get_or-set_other l m (tally (chosen tasks) x j) i 0 (λ w. omega arith) ∙ f j a q (subst (λ (n : ℕ). tally (chosen tasks) x j < n) (length-set l m i) r))
        (λ q r. subst (λ (k : ℕ). get_or (set l m i) k 0 ≡ i) h (get_or-set_same l m i 0 v));
  }

  pub puts_full : chosen tasks (kind_of x i) ≡ true → m ≤ i → length l ≤ m → Puts tasks x l l m i (m + 1)
  puts_full e u v = record {
    long = refl;
    count = λ h. let z = tally_yes (chosen tasks) x i e in omega arith;
    few = omega arith;
    entered = λ h f. last l (chosen tasks) f (λ q r. absurd (omega arith));
  }

-- the rows up to the next, and to the last
pub gather_more : {tasks : Bool} {x l k : List ℕ} {m i r : ℕ} → Puts tasks x l k m i r → m ≡ tally (chosen tasks) x i → Entered (chosen tasks) x l i
    → (r ≡ tally (chosen tasks) x (i + 1)) × Entered (chosen tasks) x k (i + 1)
gather_more {tasks} {x} {k = k} {i = i} {r = r} p e f =
    (subst (λ (j : ℕ). r ≡ tally (chosen tasks) x j) (sym (add-one i)) (p.count e), subst (Entered (chosen tasks) x k) (sym (add-one i)) (p.entered e f))

pub gathered : (tasks : Bool) (x : List ℕ) (n : ℕ) (before l : List ℕ) (m i : ℕ) → i ≡ n → length l ≡ length before → m ≡ tally (chosen tasks) x i → Entered (chosen tasks) x l i → Gathers tasks x n before l m
gathered tasks x n before l m i e len c f = record { long = len; count = subst (λ (j : ℕ). m ≡ tally (chosen tasks) x j) e c; entered = subst (Entered (chosen tasks) x l) e f }

-- ---- what a search of a full list says of the rows

pub record Lists (c : ℕ → Bool) (x : List ℕ) (n : ℕ) (l : List ℕ) (m : ℕ) : Type 0 where
  pub count : m ≡ tally c x n
  pub room : m ≤ length l
  pub entered : Entered c x l n

pub record Among (c : ℕ → Bool) (x b : List ℕ) (to : ℕ) (f : Bool) (h : ℕ) : Type 0 where
  pub row : ℕ
  pub below : row < to
  pub is : c (kind_of x row) ≡ true
  pub matches : Matched b f (cell_of x row 2) h

matched_reflects : (b : List ℕ) (f : Bool) (g h : ℕ) → Reflects (Matched b f g h) (matched b f g h)
matched_reflects b true g h = alike_reflects (text_at_fn b g) (text_at_fn b h)
matched_reflects b false g h = same_reflects (text_at_fn b g) (text_at_fn b h)

module _ {c : ℕ → Bool} {x l : List ℕ} {n m : ℕ} (t : Lists c x n l m) where
  -- the k-th of the list
  pub entry : (k : ℕ) → k < m → (j : ℕ) × (j < n) × (c (kind_of x j) ≡ true) × (tally c x j ≡ k) × (get_or l k 0 ≡ j)
  entry k h =
      let z = t.count in
      let y = t.room in
      let r = tally_onto c x n k (omega arith) in
      let e = r.rank in
      (r.row, r.below, r.is, e, subst (λ (i : ℕ). get_or l i 0 ≡ r.row) e (t.entered r.row r.below r.is (omega arith)))

  pub index : (j : ℕ) → j < n → c (kind_of x j) ≡ true → (tally c x j < m) × (get_or l (tally c x j) 0 ≡ j)
  index j h e =
      let z = t.count in
      let y = t.room in
      let w = tally_rise c x j n h e in
      (omega arith, t.entered j h e (omega arith))

  pub listed_rows : (b : List ℕ) (to : ℕ) (f : Bool) (h : ℕ) {r : Bool} → to ≤ n → Some (listed_at x b l to f h) 0 m r → Reflects (Among c x b to f h) r
  listed_rows b to f h u s = reflects_iff
      (λ o. let p = o.passes in
      let q = and_l (ltb (get_or l o.i 0) to) _ p in
      let e = entry o.i o.high in
      record {
        row = get_or l o.i 0;
        below = ltb-true (get_or l o.i 0) to q;
        is = subst (λ (k : ℕ). c (kind_of x k) ≡ true) (sym e.4) e.2;
        matches = true_reflects (matched_reflects b f (cell_of x (get_or l o.i 0) 2) h) (and_r (ltb (get_or l o.i 0) to) (matched b f (cell_of x (get_or l o.i 0) 2) h) p);
      })
      (λ a. let e = index a.row (let z = a.below in omega arith) a.is in
      record {
        i = tally c x a.row;
        low = omega arith;
        high = e.0;
        passes = subst (λ (k : ℕ). (ltb k to && matched b f (cell_of x k 2) h) ≡ true) (sym e.1)
            (both (ltb a.row to) (matched b f (cell_of x a.row 2) h) (lt-ltb a.row to a.below) (reflects_true (matched_reflects b f (cell_of x a.row 2) h) a.matches));
      })
      s
