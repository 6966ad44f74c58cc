-- Law: enacting the computed rows of a cycle gives the computed table and flag; so a run from a kept table has the computed report, whatever the bound.
use Rattle.std.specs.Prelude.{ℕ, zero, suc, ◌+◌, ◌≤◌, ◌<◌, ◌≡◌, refl, Bool, not, ◌&&◌, ◌||◌, ◌⊎◌, List, [], ◌∷◌, eqb, ℤ, pos, negsuc}
use Rattle.std.proofs.Common.{arith, sym, ap, subst, ◌∙◌, inl, inr}
use Rattle.std.proofs.Math.Bool.{true, false}
use Rattle.std.proofs.Math.Option.{Option, none, some}
use Rattle.paper_expressions.proofs.Laws.Search.{no_clash, sameb}
use Rattle.paper_expressions.proofs.Laws.Tests.{contra, two}
use Rattle.paper_expressions.specs.Values.{Scalar, unknown, truth, integer, real, text, Value, one, sequence}
use Rattle.paper_expressions.specs.View.{At, at_first, at_later}
use Rattle.paper_guideline.specs.Structure.{TopLevel}
use Rattle.paper_rows.specs.Table
use Table.{Component, Property, RowValue, value_is, unknown_row, Table}
use Rattle.paper_engine.specs.Operations.{Changes}
use Rattle.paper_engine.specs.Cycle
use Cycle.{Rows, OnlyRow, Collision, Enacted, not_named, enact_c, enact_d, Cause, collides, Flagged, raised, as_it_was, EnactChanges, Ending, quiet, bounded, exception, Report, ends, SomeRow, State, Runs, stop_quiet, stop_bounded, stop_exception, repeat}
use Rattle.paper_rows.proofs.Laws.Booleans.{Tests, is_as, is_and, is_not, is_yes, is_no, is_equal, is_same, is_false, any_f, is_any}
use Rattle.paper_rows.proofs.Laws.Seen.{there_f, value_f, sees_value, is_there}
use Rattle.paper_rows.proofs.Laws.Ranks.{same_truth, is_same_truth}
use Rattle.paper_rows.proofs.Laws.RowLists.{Row, a_row, Listed, key_f, is_key, row_of}
use Rattle.paper_rows.proofs.Laws.Lawful.{Lawful}
use Rattle.paper_engine.proofs.Laws.CollisionLaws.{Valued, valued, changes_same}
use Rattle.paper_engine.proofs.Laws.Kept.{Kept, TypedRow}
use Rattle.paper_engine.proofs.Laws.KeptLaws.{cycle_kept, changes_typed}
use Rattle.paper_engine.proofs.Laws.RowsLaws.{changes_f, changes_listed}

-- ---- values compared: "equal here only if of the same kind and digits or bytes"

abbrev same_number : ℤ → ℤ → Bool
same_number (pos n) (pos m) = eqb n m
same_number (pos n) (negsuc m) = false
same_number (negsuc n) (pos m) = false
same_number (negsuc n) (negsuc m) = eqb n m

is_same_number : (n m : ℤ) → Tests (same_number n m) (n ≡ m)
is_same_number (pos n) (pos m) = is_as (λ e. ap pos e) (λ e. cc) (is_equal n m)
is_same_number (pos n) (negsuc m) = is_no (λ e. no_clash (cc))
is_same_number (negsuc n) (pos m) = is_no (λ e. no_clash (cc))
is_same_number (negsuc n) (negsuc m) = is_as (λ e. ap negsuc e) (λ e. cc) (is_equal n m)

abbrev same_scalar : Scalar → Scalar → Bool
same_scalar unknown unknown = true
same_scalar unknown (truth b') = false
same_scalar unknown (integer n') = false
same_scalar unknown (real n') = false
same_scalar unknown (text s') = false
same_scalar (truth b) unknown = false
same_scalar (truth b) (truth b') = same_truth b b'
same_scalar (truth b) (integer n') = false
same_scalar (truth b) (real n') = false
same_scalar (truth b) (text s') = false
same_scalar (integer n) unknown = false
same_scalar (integer n) (truth b') = false
same_scalar (integer n) (integer n') = same_number n n'
same_scalar (integer n) (real n') = false
same_scalar (integer n) (text s') = false
same_scalar (real n) unknown = false
same_scalar (real n) (truth b') = false
same_scalar (real n) (integer n') = false
same_scalar (real n) (real n') = same_number n n'
same_scalar (real n) (text s') = false
same_scalar (text s) unknown = false
same_scalar (text s) (truth b') = false
same_scalar (text s) (integer n') = false
same_scalar (text s) (real n') = false
same_scalar (text s) (text s') = sameb s s'

is_same_scalar : (a b : Scalar) → Tests (same_scalar a b) (a ≡ b)
is_same_scalar unknown unknown = is_yes refl
is_same_scalar unknown (truth b') = is_no (λ e. no_clash (cc))
is_same_scalar unknown (integer n') = is_no (λ e. no_clash (cc))
is_same_scalar unknown (real n') = is_no (λ e. no_clash (cc))
is_same_scalar unknown (text s') = is_no (λ e. no_clash (cc))
is_same_scalar (truth b) unknown = is_no (λ e. no_clash (cc))
is_same_scalar (truth b) (truth b') = is_as (λ e. ap truth e) (λ e. cc) (is_same_truth b b')
is_same_scalar (truth b) (integer n') = is_no (λ e. no_clash (cc))
is_same_scalar (truth b) (real n') = is_no (λ e. no_clash (cc))
is_same_scalar (truth b) (text s') = is_no (λ e. no_clash (cc))
is_same_scalar (integer n) unknown = is_no (λ e. no_clash (cc))
is_same_scalar (integer n) (truth b') = is_no (λ e. no_clash (cc))
is_same_scalar (integer n) (integer n') = is_as (λ e. ap integer e) (λ e. cc) (is_same_number n n')
is_same_scalar (integer n) (real n') = is_no (λ e. no_clash (cc))
is_same_scalar (integer n) (text s') = is_no (λ e. no_clash (cc))
is_same_scalar (real n) unknown = is_no (λ e. no_clash (cc))
is_same_scalar (real n) (truth b') = is_no (λ e. no_clash (cc))
is_same_scalar (real n) (integer n') = is_no (λ e. no_clash (cc))
is_same_scalar (real n) (real n') = is_as (λ e. ap real e) (λ e. cc) (is_same_number n n')
is_same_scalar (real n) (text s') = is_no (λ e. no_clash (cc))
is_same_scalar (text s) unknown = is_no (λ e. no_clash (cc))
is_same_scalar (text s) (truth b') = is_no (λ e. no_clash (cc))
is_same_scalar (text s) (integer n') = is_no (λ e. no_clash (cc))
is_same_scalar (text s) (real n') = is_no (λ e. no_clash (cc))
is_same_scalar (text s) (text s') = is_as (λ e. ap text e) (λ e. cc) (is_same s s')

abbrev same_scalars : List Scalar → List Scalar → Bool
same_scalars [] [] = true
same_scalars [] (y ∷ b) = false
same_scalars (x ∷ a) [] = false
same_scalars (x ∷ a) (y ∷ b) = same_scalar x y && same_scalars a b

is_same_scalars : (a b : List Scalar) → Tests (same_scalars a b) (a ≡ b)
is_same_scalars [] [] = is_yes refl
is_same_scalars [] (y ∷ b) = is_no (λ e. no_clash (cc))
is_same_scalars (x ∷ a) [] = is_no (λ e. no_clash (cc))
is_same_scalars (x ∷ a) (y ∷ b) =
    is_as (λ h. let p = h.0 in let q = h.1 in cc) (λ e. ((let z : x ≡ y = cc in z), (let z : a ≡ b = cc in z))) (is_and (is_same_scalar x y) (is_same_scalars a b))

abbrev pub same_value : Value → Value → Bool
same_value (one a) (one b) = same_scalar a b
same_value (one a) (sequence m) = false
same_value (sequence l) (one b) = false
same_value (sequence l) (sequence m) = same_scalars l m

pub is_same_value : (v w : Value) → Tests (same_value v w) (v ≡ w)
is_same_value (one a) (one b) = is_as (λ e. ap one e) (λ e. cc) (is_same_scalar a b)
is_same_value (one a) (sequence m) = is_no (λ e. no_clash (cc))
is_same_value (sequence l) (one b) = is_no (λ e. no_clash (cc))
is_same_value (sequence l) (sequence m) = is_as (λ e. ap sequence e) (λ e. cc) (is_same_scalars l m)

-- two rows that hold different values
abbrev pub differ_f : RowValue → RowValue → Bool
differ_f r q = there_f (value_f (some r)) (λ v. there_f (value_f (some q)) (λ w. not (same_value v w)))

-- ---- what becomes of one property of one component

-- the values that the rows of a list hold for it
abbrev pub hold_f : Bool → RowValue → List RowValue → List RowValue
hold_f true r l = r ∷ l
hold_f false r l = l

abbrev pub named_f : List Row → Component → Property → List RowValue
named_f [] c p = []
named_f (x ∷ l) c p = hold_f (key_f x c p) x.holds (named_f l c p)

abbrev pub choose_f : Bool → RowValue → RowValue
choose_f true r = unknown_row
choose_f false r = r

-- what the table holds afterwards, and whether the values collide
abbrev pub settled_f : List RowValue → Option RowValue → Option RowValue
settled_f [] o = o
settled_f (r ∷ l) o = some (choose_f (any_f (differ_f r) l) r)

abbrev pub collide_f : List RowValue → Bool
collide_f [] = false
collide_f (r ∷ l) = any_f (differ_f r) l

unfoldable pub enact_f : List Row → Table → Table
enact_f l t = λ c p. settled_f (named_f l c p) (t c p)

unfoldable pub collision_f : List Row → Bool
collision_f l = any_f (λ (x : Row). collide_f (named_f l x.of x.property)) l

abbrev pub some_row_f : List Row → Bool
some_row_f [] = false
some_row_f (x ∷ l) = true

module _ (c : Component) (p : Property) where
  named_has : (l : List Row) {i : ℕ} {r : RowValue} → At (named_f l c p) i r → (j : ℕ) × At l j (a_row c p r)
  named_has [] h = absurd (elim h [ ])
  named_has (x ∷ l) {i} {r} h = go (key_f x c p) refl h (λ j q. named_has l {i = j} q)
    where
      go : (b : Bool) → key_f x c p ≡ b → At (hold_f b x.holds (named_f l c p)) i r → ((j : ℕ) → At (named_f l c p) j r → (k : ℕ) × At l k (a_row c p r)) → (j : ℕ) × At (x ∷ l) j (a_row c p r)
      go false e q f = let z = f i q in (suc z.0, at_later z.1)
      go true e q f = cases q
        where
          cases : {i : ℕ} → At (x.holds ∷ named_f l c p) i r → (j : ℕ) × At (x ∷ l) j (a_row c p r)
          cases {i} q = by (first_or_later q)
            where
              first_or_later : {A : Type 0} {l : List A} {x y : A} {i : ℕ} → At (x ∷ l) i y → (x ≡ y) ⊎ ((j : ℕ) × At l j y)
              first_or_later at_first = inl refl
              first_or_later (at_later {i} h) = inr (i, h)

              by : (x.holds ≡ r) ⊎ ((j : ℕ) × At (named_f l c p) j r) → (j : ℕ) × At (x ∷ l) j (a_row c p r)
              by (inl z) = (0, subst (At (x ∷ l) 0) (row_of ((is_key x c p).0 e) ∙ ap (a_row c p) z) at_first)
              by (inr z) = let w = f z.0 z.1 in (suc w.0, at_later w.1)

  has_named : {l : List Row} {j : ℕ} {y : Row} → At l j y → (y.of ≡ c) × (y.property ≡ p) → (i : ℕ) × At (named_f l c p) i y.holds
  has_named (at_first {x} {l}) k = go (key_f x c p) refl
    where
      go : (b : Bool) → key_f x c p ≡ b → (i : ℕ) × At (hold_f b x.holds (named_f l c p)) i x.holds
      go true e = (0, at_first)
      go false e = contra (sym e ∙ (is_key x c p).1 k)
  has_named (at_later {y} {l} h) k = go (key_f y c p) (has_named h k)
    where
      go : {r : RowValue} (b : Bool) → (i : ℕ) × At (named_f l c p) i r → (i : ℕ) × At (hold_f b y.holds (named_f l c p)) i r
      go true z = (suc z.0, at_later z.1)
      go false z = z

first_or_later : {A : Type 0} {l : List A} {x y : A} {i : ℕ} → At (x ∷ l) i y → (x ≡ y) ⊎ ((j : ℕ) × At l j y)
first_or_later at_first = inl refl
first_or_later (at_later {i} h) = inr (i, h)

-- ---- all rows

module _ {N : Rows} {l : List Row} (listed : Listed N l) (agree : (c : Component) (p : Property) (r q : RowValue) → N c p r → N c p q → Tests (not (differ_f r q)) (q ≡ r)) where
  named : {c : Component} {p : Property} {r : RowValue} → N c p r → (i : ℕ) × At (named_f l c p) i r
  named {c} {p} h = has_named c p (listed.to h).1 (refl, refl)

  asked : {c : Component} {p : Property} {i : ℕ} {r : RowValue} → At (named_f l c p) i r → N c p r
  asked {c} {p} h = listed.back (named_has c p l h).1

  off : {b : Bool} → b ≡ false → not b ≡ true
  off e = cc

  on : {b : Bool} → b ≡ true → not b ≡ true → ⊥
  on e f = no_clash (cc)

  gone : {i : ℕ} {r : RowValue} → At [] i r → ⊥
  gone h = elim h [ ]

  is_differ : (r : RowValue) (m : List RowValue) → Tests (any_f (differ_f r) m) ((i : ℕ) × (q : RowValue) × At m i q × (differ_f r q ≡ true))
  is_differ r m = is_any (λ q. differ_f r q ≡ true) (differ_f r) (λ q. (λ z. z, λ z. z)) m

  module _ {c : Component} {p : Property} {r : RowValue} {m : List RowValue} (e : named_f l c p ≡ r ∷ m) where
    first : N c p r
    first = asked (subst (λ (x : List RowValue). At x 0 r) (sym e) at_first)

    row : {i : ℕ} {q : RowValue} → At m i q → N c p q
    row {i} {q} h = asked (subst (λ (x : List RowValue). At x (suc i) q) (sym e) (at_later h))

    clash : any_f (differ_f r) m ≡ true → Collision N c p
    clash f =
        let k = (is_differ r m).0 f in
        record { one = r; other = k.1; row = first; other_row = row k.2; differ = λ z. on k.3 ((agree c p r k.1 first (row k.2)).1 z) }

    only : any_f (differ_f r) m ≡ false → (q : RowValue) → N c p q → q ≡ r
    only f q h = let k = named h in which (first_or_later (subst (λ (x : List RowValue). At x k.0 q) e k.1))
      where
        which : (r ≡ q) ⊎ ((j : ℕ) × At m j q) → q ≡ r
        which (inl z) = sym z
        which (inr z) = same (two (differ_f r q))
          where
            same : (differ_f r q ≡ true) ⊎ (differ_f r q ≡ false) → q ≡ r
            same (inl d) = absurd (is_false (is_differ r m) f (z.0, q, z.1, d))
            same (inr d) = (agree c p r q first h).0 (off d)

  enacted : {c : Component} {p : Property} (o : Option RowValue) (m : List RowValue) → named_f l c p ≡ m → Enacted N c p o (settled_f m o)
  enacted {c} {p} o [] e = not_named (λ r h. let k = named h in gone (subst (λ (x : List RowValue). At x k.0 r) e k.1))
  enacted {c} {p} o (r ∷ m) e = go (any_f (differ_f r) m) refl
    where
      go : (b : Bool) → any_f (differ_f r) m ≡ b → Enacted N c p o (some (choose_f b r))
      go true f = enact_d (clash e f)
      go false f = enact_c (record { row = first e; only = only e f })

  is_collide : (c : Component) (p : Property) (m : List RowValue) → named_f l c p ≡ m → Tests (collide_f m) (Collision N c p)
  is_collide c p [] e = is_no (λ k. let z = named k.row in gone (subst (λ (x : List RowValue). At x z.0 k.one) e z.1))
  is_collide c p (r ∷ m) e = (λ f. clash e f, λ k. back k (two (any_f (differ_f r) m)))
    where
      back : Collision N c p → (any_f (differ_f r) m ≡ true) ⊎ (any_f (differ_f r) m ≡ false) → any_f (differ_f r) m ≡ true
      back k (inl f) = f
      back k (inr f) = absurd (k.differ (only e f k.other k.other_row ∙ sym (only e f k.one k.row)))

  is_cause : Tests (collision_f l) (Cause N)
  unfolding collision_f
  is_cause =
      is_as (λ h. collides h.3) back
      (is_any (λ (x : Row). Collision N x.of x.property) (λ (x : Row). collide_f (named_f l x.of x.property)) (λ x. is_collide x.of x.property (named_f l x.of x.property) refl) l)
    where
      back : Cause N → (i : ℕ) × (x : Row) × At l i x × Collision N x.of x.property
      back (collides {c} {p} k) = let z = listed.to k.row in (z.0, a_row c p k.one, z.1, k)

  pub enact : (t : Table) (f : Bool) → EnactChanges N t f (enact_f l t) (collision_f l || f)
  unfolding enact_f
  enact t f = record { rows = λ c p. enacted (t c p) (named_f l c p) refl; flag = go (collision_f l) is_cause }
    where
      go : (b : Bool) → Tests b (Cause N) → Flagged N f (b || f)
      go true h = raised (h.0 refl)
      go false h = as_it_was (is_false h refl)

  pub is_some_row : Tests (some_row_f l) (SomeRow N)
  is_some_row = go l refl
    where
      go : (m : List Row) → l ≡ m → Tests (some_row_f m) (SomeRow N)
      go [] e = is_no (λ s. let k = listed.to s.row in none (subst (λ (x : List Row). At x k.0 (a_row s.c s.p s.r)) e k.1))
        where
          none : {i : ℕ} {x : Row} → At [] i x → ⊥
          none h = elim h [ ]
      go (x ∷ m) e = is_yes (record { c = x.of; p = x.property; r = x.holds; row = listed.back (subst (λ (y : List Row). At y 0 x) (sym e) at_first) })

-- a row does not differ from itself
pub same_differ : (r : RowValue) → differ_f r r ≡ false
same_differ r = go (value_f (some r))
  where
    off : {b : Bool} → b ≡ true → not b ≡ false
    off e = cc

    go : (o : Option Value) → there_f o (λ v. there_f o (λ w. not (same_value v w))) ≡ false
    go none = refl
    go (some v) = off ((is_same_value v v).1 refl)

-- ---- the rows of a cycle

module _ {g : List TopLevel} {t : Table} (lawful : Lawful g) (kept : Kept g t) where
  not_not : {b : Bool} {P : Type 0} → Tests b P → Tests (not (not b)) P
  not_not {b} {P} h = go b h
    where
      go : (b : Bool) → Tests b P → Tests (not (not b)) P
      go true h = h
      go false h = h

  agree : {now : ℕ} (c : Component) (p : Property) (r q : RowValue) → Changes t now c p r → Changes t now c p q → Tests (not (differ_f r q)) (q ≡ r)
  agree {now} c p r q h k = go (changes_same h k) h k
    where
      off : {b : Bool} → b ≡ false → not b ≡ true
      off e = cc

      by_value : {d e : ℕ} → TypedRow t d r → TypedRow t e q → Tests (not (differ_f r q)) (q ≡ r)
      by_value x y = values x.held y.held x.is y.is
        where
          held_same : {v w : Value} → value_is v ≡ value_is w → v ≡ w
          held_same e = cc

          values : (v w : Value) → r ≡ value_is v → q ≡ value_is w → Tests (not (differ_f r q)) (q ≡ r)
          values v w e f =
              let z : Tests (not (differ_f (value_is v) (value_is w))) (v ≡ w) = not_not (is_same_value v w) in
              let y : Tests (not (differ_f r q)) (v ≡ w) = subst (λ (x : RowValue). Tests (not (differ_f x q)) (v ≡ w)) (sym e) (subst (λ (x : RowValue). Tests (not (differ_f (value_is v) x)) (v ≡ w)) (sym f) z) in
              is_as (λ a. f ∙ ap value_is (sym a) ∙ sym e) (λ a. sym (held_same (sym f ∙ a ∙ e))) y

      go : {c : Component} {p : Property} → (r ≡ q) ⊎ Valued c p → Changes t now c p r → Changes t now c p q → Tests (not (differ_f r q)) (q ≡ r)
      go (inl e) a b = (λ z. sym e, λ z. off (subst (λ (x : RowValue). differ_f r x ≡ false) e (same_differ r)))
      go (inr valued) a b = by_value (changes_typed lawful kept a) (changes_typed lawful kept b)

  pub cycle : (now : ℕ) (f : Bool) → EnactChanges (Changes t now) t f (enact_f (changes_f g t now) t) (collision_f (changes_f g t now) || f)
  cycle now f = enact (changes_listed lawful kept now) agree t f

  pub is_any_row : (now : ℕ) → Tests (some_row_f (changes_f g t now)) (SomeRow (Changes t now))
  is_any_row now = is_some_row (changes_listed lawful kept now) agree

-- ---- a run, with n cycles still allowed and k enacted

abbrev stop_f : Bool → ℕ → Table → Bool → State × Report
stop_f true k t f = (record { table = t; flag = f }, ends bounded k)
stop_f false k t f = (record { table = t; flag = f }, ends quiet k)

-- with the flag and the table after the cycle
abbrev next_f : Bool → ℕ → Table → State × Report → State × Report
next_f true k t r = (record { table = t; flag = true }, ends exception (suc k))
next_f false k t r = r

-- with the rows asked for, and what follows the cycle
abbrev cycle_f : List Row → ℕ → Table → Bool → (Table → State × Report) → State × Report
cycle_f [] k t f r = (record { table = t; flag = f }, ends quiet k)
cycle_f (x ∷ l) k t f r = next_f (collision_f (x ∷ l) || f) k (enact_f (x ∷ l) t) (r (enact_f (x ∷ l) t))

abbrev pub run_f : List TopLevel → ℕ → ℕ → ℕ → Table → Bool → State × Report
run_f g now zero k t f = stop_f (some_row_f (changes_f g t now)) k t f
run_f g now (suc n) k t f = cycle_f (changes_f g t now) k t f (λ u. run_f g now n (suc k) u false)

run_from : {g : List TopLevel} (lawful : Lawful g) (now n m k : ℕ) (t : Table) (f : Bool) → m ≡ n + k → Kept g t
    → Runs now m k (record { table = t; flag = f }) (run_f g now n k t f).0 (run_f g now n k t f).1
run_from {g} lawful now zero m k t f e kept = go (some_row_f (changes_f g t now)) (is_any_row lawful kept now)
  where
    go : (b : Bool) → Tests b (SomeRow (Changes t now)) → Runs now m k (record { table = t; flag = f }) (stop_f b k t f).0 (stop_f b k t f).1
    go true h = stop_bounded (h.0 refl) (let z : k ≡ m = omega arith in z)
    go false h = stop_quiet (is_false h refl)
run_from {g} lawful now (suc n) m k t f e kept =
    go (changes_f g t now) refl (λ u q. run_from lawful now n m (suc k) u false (let z : m ≡ n + suc k = omega arith in z) q)
  where
    go : (l : List Row) → changes_f g t now ≡ l → ((u : Table) → Kept g u → Runs now m (suc k) (record { table = u; flag = false }) (run_f g now n (suc k) u false).0 (run_f g now n (suc k) u false).1)
        → Runs now m k (record { table = t; flag = f }) (cycle_f l k t f (λ u. run_f g now n (suc k) u false)).0 (cycle_f l k t f (λ u. run_f g now n (suc k) u false)).1
    go [] q r = stop_quiet (is_false (is_any_row lawful kept now) (ap some_row_f q))
    go (x ∷ l) q r = next (collision_f (x ∷ l) || f) (subst (λ (z : List Row). EnactChanges (Changes t now) t f (enact_f z t) (collision_f z || f)) q (cycle lawful kept now f))
      where
        rows : SomeRow (Changes t now)
        rows = (is_any_row lawful kept now).0 (ap some_row_f q)

        not_yet : ¬ (k ≡ m)
        not_yet z = let w : ⊥ = omega arith in w

        next : (b : Bool) → EnactChanges (Changes t now) t f (enact_f (x ∷ l) t) b
            → Runs now m k (record { table = t; flag = f }) (next_f b k (enact_f (x ∷ l) t) (run_f g now n (suc k) (enact_f (x ∷ l) t) false)).0 (next_f b k (enact_f (x ∷ l) t) (run_f g now n (suc k) (enact_f (x ∷ l) t) false)).1
        next true c = stop_exception rows not_yet c
        next false c = repeat rows not_yet c (r (enact_f (x ∷ l) t) (cycle_kept lawful kept c))

-- every run from a kept table has a report and a state behind it, the computed ones
pub run : {g : List TopLevel} → Lawful g → (now n : ℕ) (t : Table) (f : Bool) → Kept g t → Runs now n 0 (record { table = t; flag = f }) (run_f g now n 0 t f).0 (run_f g now n 0 t f).1
run lawful now n t f kept = run_from lawful now n n 0 t f (let z : n ≡ n + 0 = omega arith in z) kept
