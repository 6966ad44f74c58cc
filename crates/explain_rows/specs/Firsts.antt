-- What each search for a row finds: the first that passes a test, and the last attribute of the same word before one. Definitions, and the steps of the loops.
use Rattle.std.specs.Prelude.{ℕ, ◌+◌, ◌-◌, ◌≤◌, ◌<◌, ◌≡◌, Bool, true, false, not, ◌&&◌, List, Option, Some, None, MatchOption, eqb}
use Rattle.std.proofs.Common.{sym, ap, subst, ◌∙◌, arith, eq-eqb, ne_eqb}
use Rattle.paper_tokens.specs.Tokens.{“data”, “component”}
use Rattle.row_names.specs.Sheet.{task_kind}
use Rattle.row_tests.specs.Table.{cell_of, kind_of}
use Rattle.row_tests.specs.Searched.{Passed, Again}
use Rattle.name_tests.specs.Lists.{matched}
use Rattle.names.specs.Verdict.{spot_of}
use Rattle.explain_rows.specs.declared.firsts.Sort.{Sort}
use Rattle.explain_rows.specs.declared.firsts.Sort.TheVariants.{Task, Item, Component}

-- ---- tests of one row

abbrev pub sort_kind : Sort → ℕ → Bool
sort_kind Task k = task_kind k
sort_kind Item k = eqb k “data”
sort_kind Component k = eqb k “component”

-- the row gives a name of this sort, and it is that of the handle h, byte by byte or with case ignored
abbrev pub named-at : List ℕ → List ℕ → Sort → Bool → ℕ → ℕ → Bool
named-at x b s folded h i = sort_kind s (kind_of x i) && matched b folded (cell_of x i 2) h

-- a flaw of the row would be told at the place p
abbrev pub spot_at : List ℕ → ℕ → ℕ → Bool
spot_at x p i = eqb (spot_of x i) p

-- the row has an expression, and it begins at the place p
abbrev pub begins_at : List ℕ → ℕ → ℕ → Bool
begins_at x p i = not (eqb (cell_of x i 6) 0) && eqb (cell_of x i 5) p

-- ---- the first that passes

-- r is the first below `to`, or `to`
pub record First (f : ℕ → Bool) (to r : ℕ) : Type 0 where
  pub within : r ≤ to
  pub passes : r < to → f r ≡ true
  pub earlier : (m : ℕ) → m < r → f m ≡ false

-- .. where there is one
abbrev pub FirstOf : (ℕ → Bool) → ℕ → Option ℕ → Type 0
FirstOf f to None = First f to to
FirstOf f to (Some i) = (i < to) × First f to i

-- ---- the last attribute of the same owner and word before j, or j

pub record Before (x : List ℕ) (j r : ℕ) : Type 0 where
  pub within : r ≤ j
  pub same : r < j → kind_of x r ≡ kind_of x j
  pub passed : r < j → Passed x (r + 1) j
  pub none : r ≡ j → Again x j false

-- .. where there is one
abbrev pub BeforeOf : List ℕ → ℕ → Option ℕ → Type 0
BeforeOf x j None = Before x j j
BeforeOf x j (Some i) = (i < j) × Before x j i

-- ---- steps

pub named_not : (x b : List ℕ) (s : Sort) (f : Bool) (h i : ℕ) {k : ℕ} {r : Bool} → k ≡ kind_of x i → r ≡ sort_kind s k → r ≡ false → false ≡ named-at x b s f h i
named_not x b s f h i ek er e = rw (sym (ap (sort_kind s) ek) ∙ sym er ∙ e)

pub named_so : (x b : List ℕ) (s : Sort) (f : Bool) (h i : ℕ) {k g : ℕ} {r t : Bool} → k ≡ kind_of x i → r ≡ sort_kind s k → r ≡ true → g ≡ cell_of x i 2 → t ≡ matched b f g h → t ≡ named-at x b s f h i
named_so x b s f h i ek er e eg et = rw (sym (ap (sort_kind s) ek) ∙ sym er ∙ e) (et ∙ ap (λ (z : ℕ). matched b f z h) eg)

module _ (x : List ℕ) (p i : ℕ) where
  pub begins_not : {e : ℕ} → e ≡ cell_of x i 6 → e ≡ 0 → false ≡ begins_at x p i
  begins_not ee z = rw (eq-eqb (cell_of x i 6) 0 (sym ee ∙ z))

  pub begins_so : {e g : ℕ} → e ≡ cell_of x i 6 → ¬ (e ≡ 0) → g ≡ cell_of x i 5 → eqb g p ≡ begins_at x p i
  begins_so ee z eg = rw (ne_eqb (cell_of x i 6) 0 (λ q. z (ee ∙ q))) (ap (λ (v : ℕ). eqb v p) eg)

-- another handle of the same number
pub first_as : (x b : List ℕ) (s : Sort) (f : Bool) {g h to r : ℕ} → g ≡ h → First (named-at x b s f g) to r → First (named-at x b s f h) to r
first_as x b s f {to = to} {r = r} e w = subst (λ (z : ℕ). First (named-at x b s f z) to r) e w

-- what a search of the numbers below n finds
pub first_of : (f : ℕ → Bool) (n : ℕ) (r : Option ℕ) → MatchOption r ((k : ℕ) → 0 ≤ k → k < n → f k ≡ false) (λ i. (0 ≤ i) × (i < n) × (f i ≡ true) × ((k : ℕ) → 0 ≤ k → k < i → f k ≡ false)) → FirstOf f n r
first_of f n None h = record { within = omega arith; passes = λ k. absurd (omega arith); earlier = λ m l. h m (omega arith) l }
first_of f n (Some i) h = (h.1, record { within = omega arith; passes = λ _. h.2; earlier = λ m l. h.3 m (omega arith) l })

-- no row up to the end passes
pub first_none : {f : ℕ → Bool} {to i : ℕ} → to ≤ i → ((m : ℕ) → m < i → f m ≡ false) → First f to to
first_none l h = record { within = omega arith; passes = λ k. absurd (omega arith); earlier = λ m k. h m (omega arith) }

-- the search came to the end
pub first_end : (x b : List ℕ) (s : Sort) (f : Bool) {g h to r : ℕ} → g ≡ h → to ≤ r → First (named-at x b s f g) to r → First (named-at x b s f h) to to
first_end x b s f {g} {h} {to} {r} q l w = let z = w.within in let e : r ≡ to = omega arith in subst (λ (i : ℕ). First (named-at x b s f h) to i) e (first_as x b s f q w)

module _ (x : List ℕ) {i j : ℕ} where
  pub before_here : 0 < i → i ≤ j → Passed x i j → kind_of x (i - 1) ≡ kind_of x j → Before x j (i - 1)
  before_here l u p e = record {
    within = omega arith;
    same = λ k. e;
    passed = λ k m a b. p m (omega arith) b;
    none = λ q. absurd (omega arith);
  }

pub before_none : (x : List ℕ) (j : ℕ) → Again x j false → Before x j j
before_none x j a = record { within = omega arith; same = λ k. absurd (omega arith); passed = λ k. absurd (omega arith); none = λ q. a }

pub before_end : (x : List ℕ) (j : ℕ) {r : ℕ} → j ≤ r → Before x j r → Before x j j
before_end x j l w = let z = w.within in before_none x j (w.none (omega arith))
