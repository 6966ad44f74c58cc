-- What each search among the rows finds. With the steps of its loop, one row more.
use Rattle.std.specs.Prelude.{ℕ, zero, suc, ◌+◌, ◌-◌, ◌≤◌, ◌<◌, ◌≡◌, refl, Bool, true, false, ◌||◌, List}
use Rattle.std.proofs.Common.{sym, ap, subst, ◌∙◌, add-one, arith, eq-eqb, ne_eqb}
use Rattle.std.specs.List.{list_any, range_with_len}
use Rattle.std.proofs.Math.Decide.{dec_lt}
use Rattle.paper_expressions.proofs.Laws.Tests.{contra}
use Rattle.paper_expressions.proofs.Laws.Search.{Reflects, of_yes, of_no, sameb}
use Rattle.paper_tokens.specs.Tokens.{“component”}
use Rattle.row_names.specs.Sheet.{head_kind, parts_from}
use Rattle.parts.specs.Texts.{text_at_fn}
use Rattle.row_tests.specs.Table.{cell_of, kind_of, component_named}

pub parts_as : {k m l n : ℕ} {r : Bool} → r ≡ parts_from k m → k ≡ l → m ≡ n → r ≡ parts_from l n
parts_as {m = m} {l = l} e h g = e ∙ ap (λ z. parts_from z m) h ∙ ap (parts_from l) g

-- ---- one component

module _ (x b : List ℕ) (h i : ℕ) {k : ℕ} (e : k ≡ kind_of x i) where
  pub named_no : ¬ (k ≡ “component”) → false ≡ component_named x b h i
  named_no n = rw (ne_eqb (kind_of x i) “component” (λ q. n (e ∙ q)))

  pub named_yes : {g : ℕ} {r : Bool} → k ≡ “component” → g ≡ cell_of x i 2 → r ≡ sameb (text_at_fn b g) (text_at_fn b h) → r ≡ component_named x b h i
  named_yes q w s = rw (eq-eqb (kind_of x i) “component” (sym e ∙ q)) (s ∙ ap (λ (z : ℕ). sameb (text_at_fn b z) (text_at_fn b h)) w)

-- ---- some one passes the test

pub record One (f : ℕ → Bool) (from to : ℕ) : Type 0 where
  pub i : ℕ
  pub low : from ≤ i
  pub high : i < to
  pub passes : f i ≡ true

abbrev pub Some : (ℕ → Bool) → ℕ → ℕ → Bool → Type 0
Some f from to r = Reflects (One f from to) r

pub some_here : {f : ℕ → Bool} {from to i : ℕ} → from ≤ i → i < to → f i ≡ true → Some f from to true
some_here {i = i} l h e = of_yes (record { i = i; low = l; high = h; passes = e })

pub some_none : {f : ℕ → Bool} {from to : ℕ} → ((i : ℕ) → from ≤ i → i < to → f i ≡ false) → Some f from to false
some_none h = of_no (λ o. contra (sym (h o.i o.low o.high) ∙ o.passes))

-- the test of each number of a range
pub some_range : (f : ℕ → Bool) (n from to : ℕ) → to - from ≡ n → Some f from to (list_any f (range_with_len from n))
some_range f zero from to e = some_none (λ i l h. absurd (omega arith))
some_range f (suc n) from to e = rw (add-one from) (go (f from) (list_any f (range_with_len (suc from) n)) refl (some_range f n (suc from) to (omega arith)))
  where
    go : (b r : Bool) → f from ≡ b → Some f (suc from) to r → Some f from to (b || r)
    go true r h s = some_here (omega arith) (omega arith) h
    go false r h (of_yes o) = let l = o.low in of_yes (record { i = o.i; low = omega arith; high = o.high; passes = o.passes })
    go false r h (of_no none) = of_no (λ o. at o (dec_lt from o.i))
      where
        at : (o : One f from to) → Dec (from < o.i) → ⊥
        at o (yes l) = none (record { i = o.i; low = l; high = o.high; passes = o.passes })
        at o (no l) = let k = o.low in let z : o.i ≡ from = omega arith in contra (sym h ∙ ap f (sym z) ∙ o.passes)

-- ---- an earlier attribute of the same owner

module _ (x : List ℕ) where
  pub record Earlier (j : ℕ) : Type 0 where
    pub i : ℕ
    pub before : i < j
    pub same : kind_of x i ≡ kind_of x j
    pub still : (m : ℕ) → i < m → m < j → parts_from (kind_of x j) (kind_of x m) ≡ false

  abbrev pub Again : ℕ → Bool → Type 0
  Again j r = Reflects (Earlier j) r

  -- the rows from i on up to j are passed
  abbrev pub Passed : ℕ → ℕ → Type 0
  Passed i j = (m : ℕ) → i ≤ m → m < j → (¬ (kind_of x m ≡ kind_of x j)) × (parts_from (kind_of x j) (kind_of x m) ≡ false)

  pub again_none : {j : ℕ} → Passed 0 j → Again j false
  again_none p = of_no (λ e. (p e.i (omega arith) e.before).0 e.same)

  module _ {i j : ℕ} (l : 0 < i) (u : i ≤ j) (p : Passed i j) where
    pub again_here : kind_of x (i - 1) ≡ kind_of x j → Again j true
    again_here e = of_yes (record { i = i - 1; before = omega arith; same = e; still = λ m a b. (p m (omega arith) b).1 })

    pub again_stop : ¬ (kind_of x (i - 1) ≡ kind_of x j) → parts_from (kind_of x j) (kind_of x (i - 1)) ≡ true → Again j false
    again_stop n e = of_no (λ o. go o (dec_lt o.i (i - 1)) (dec_lt (i - 1) o.i))
      where
        go : (o : Earlier j) → Dec (o.i < i - 1) → Dec (i - 1 < o.i) → ⊥
        go o (yes a) b = contra (sym (o.still (i - 1) a (omega arith)) ∙ e)
        go o (no a) (yes b) = (p o.i (omega arith) o.before).0 o.same
        go o (no a) (no b) = let z : i - 1 ≡ o.i = omega arith in n (ap (kind_of x) z ∙ o.same)

    pub passed_more : ¬ (kind_of x (i - 1) ≡ kind_of x j) → parts_from (kind_of x j) (kind_of x (i - 1)) ≡ false → Passed (i - 1) j
    passed_more n e m a b = go (dec_lt (i - 1) m)
      where
        go : Dec (i - 1 < m) → (¬ (kind_of x m ≡ kind_of x j)) × (parts_from (kind_of x j) (kind_of x m) ≡ false)
        go (yes c) = p m (omega arith) b
        go (no c) = let z : i - 1 ≡ m = omega arith in (λ q. n (ap (kind_of x) z ∙ q), subst (λ (k : ℕ). parts_from (kind_of x j) (kind_of x k) ≡ false) z e)

  -- ---- the last component before a row

  pub record Nearest (j r : ℕ) : Type 0 where
    pub within : r ≤ j
    pub component : r < j → kind_of x r ≡ “component”
    pub between : (m : ℕ) → r < m → m < j → ¬ (kind_of x m ≡ “component”)
    pub none : r ≡ j → (m : ℕ) → m < j → ¬ (kind_of x m ≡ “component”)

  -- ---- the rows of one plan

  pub record Start (j r : ℕ) : Type 0 where
    pub within : r ≤ j
    pub clear : (m : ℕ) → r ≤ m → m < j → head_kind (kind_of x m) ≡ false
    pub head : 0 < r → head_kind (kind_of x (r - 1)) ≡ true

  pub record Finish (n j r : ℕ) : Type 0 where
    pub within : r ≤ n
    pub behind : j < n → j < r
    pub clear : (m : ℕ) → j < m → m < r → head_kind (kind_of x m) ≡ false
    pub head : r < n → j < n → head_kind (kind_of x r) ≡ true

  pub below_head : {i j : ℕ} → 0 < i → head_kind (kind_of x (i - 1)) ≡ false → ((m : ℕ) → i ≤ m → m < j → head_kind (kind_of x m) ≡ false)
      → (m : ℕ) → i - 1 ≤ m → m < j → head_kind (kind_of x m) ≡ false
  below_head {i} l e p m a b = go (dec_lt (i - 1) m)
    where
      go : Dec (i - 1 < m) → head_kind (kind_of x m) ≡ false
      go (yes c) = p m (omega arith) b
      go (no c) = let z : i - 1 ≡ m = omega arith in subst (λ (k : ℕ). head_kind (kind_of x k) ≡ false) z e

  pub below_component : {i j : ℕ} → 0 < i → ¬ (kind_of x (i - 1) ≡ “component”) → ((m : ℕ) → i ≤ m → m < j → ¬ (kind_of x m ≡ “component”))
      → (m : ℕ) → i - 1 ≤ m → m < j → ¬ (kind_of x m ≡ “component”)
  below_component {i} l n p m a b = go (dec_lt (i - 1) m)
    where
      go : Dec (i - 1 < m) → ¬ (kind_of x m ≡ “component”)
      go (yes c) = p m (omega arith) b
      go (no c) = let z : i - 1 ≡ m = omega arith in λ q. n (ap (kind_of x) z ∙ q)

-- one more index at the end
pub up_more : (P : ℕ → Type 0) {a i : ℕ} → ((m : ℕ) → a ≤ m → m < i → P m) → P i → (m : ℕ) → a ≤ m → m < i + 1 → P m
up_more P {i = i} f h m l u = go (dec_lt m i)
  where
    go : Dec (m < i) → P m
    go (yes b) = f m l b
    go (no b) = let z : i ≡ m = omega arith in subst P z h
