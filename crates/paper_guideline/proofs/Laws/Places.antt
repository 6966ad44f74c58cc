-- Lists of places, computed, and when a place is in one: what passes a test, the later of two that match, and what each of a list gives. The twins of what breaks a stage are made of these.
use Rattle.std.specs.Prelude.{ℕ, suc, ◌≤◌, ◌<◌, ◌≡◌, refl, Bool, true, false, ◌||◌, not, ◌⊎◌, leb}
use Rattle.std.proofs.Common.{arith, inl, inr, ⊎_elim, leb-true, leb-false}
use Rattle.std.proofs.Math.Option.{Option, none, some}
use mathlib.Core.List.{List, [], ◌∷◌, ◌++◌, Memᴰ}
use Rattle.paper_expressions.specs.View.{At, at_first, at_later}
use Rattle.paper_expressions.proofs.Laws.Tests.{contra, two, some_one}
use Rattle.paper_expressions.proofs.Laws.Search.{Reflects, of_yes, of_no, reflects_not, true_reflects, reflects_true}

-- ---- one place, if a test is passed

abbrev pub put : Bool → ℕ → List ℕ → List ℕ
put true p l = p ∷ l
put false p l = l

pub put_here : (b : Bool) (p : ℕ) (l : List ℕ) → b ≡ true → Memᴰ p (put b p l)
put_here true p l e = mathlib.Core.List.Memᴰ.head refl
put_here false p l e = contra e

pub put_on : {q : ℕ} {l : List ℕ} (b : Bool) (p : ℕ) → Memᴰ q l → Memᴰ q (put b p l)
put_on true p m = mathlib.Core.List.Memᴰ.tail m
put_on false p m = m

pub put_out : {p q : ℕ} {l : List ℕ} (b : Bool) → Memᴰ q (put b p l) → ((b ≡ true) × (q ≡ p)) ⊎ Memᴰ q l
put_out {p} {q} {l} true m = ⊎_elim (λ (e : q ≡ p). inl (refl, e)) (λ (n : Memᴰ q l). inr n) (mathlib.Core.List.Memᴰ.cases_cons m)
put_out false m = inr m

pub put_only : {p q : ℕ} (b : Bool) → Memᴰ q (put b p []) → (b ≡ true) × (q ≡ p)
put_only {p} {q} b m = ⊎_elim (λ (h : (b ≡ true) × (q ≡ p)). h) (λ (n : Memᴰ q []). absurd (mathlib.Core.List.Memᴰ.not-nil n)) (put_out b m)

module _ {A : Type 0} where
  -- ---- the places of those that pass a test

  abbrev pub chosen : (A → Bool) → (A → ℕ) → List A → List ℕ
  chosen f place [] = []
  chosen f place (x ∷ l) = put (f x) (place x) (chosen f place l)

  pub record Chosen (f : A → Bool) (place : A → ℕ) (l : List A) (p : ℕ) : Type 0 where
    pub i : ℕ
    pub x : A
    pub at : At l i x
    pub passes : f x ≡ true
    pub there : p ≡ place x

  pub chosen_in : {l : List A} {i : ℕ} {x : A} (f : A → Bool) (place : A → ℕ) → At l i x → f x ≡ true → Memᴰ (place x) (chosen f place l)
  chosen_in f place (at_first {x} {l}) e = put_here (f x) (place x) (chosen f place l) e
  chosen_in f place (at_later {y} h) e = put_on (f y) (place y) (chosen_in f place h e)

  pub chosen_out : {f : A → Bool} {place : A → ℕ} {p : ℕ} (l : List A) → Memᴰ p (chosen f place l) → Chosen f place l p
  chosen_out [] m = absurd (mathlib.Core.List.Memᴰ.not-nil m)
  chosen_out {f} {place} {p} (x ∷ l) m = ⊎_elim
      (λ (h : (f x ≡ true) × (p ≡ place x)). record { i = 0; x = x; at = at_first; passes = h.0; there = h.1 })
      (λ (n : Memᴰ p (chosen f place l)). let c = chosen_out l n in record { i = suc c.i; x = c.x; at = at_later c.at; passes = c.passes; there = c.there })
      (put_out (f x) m)

  -- ---- the later of two that match

  abbrev pub laters : (A → A → Bool) → (A → ℕ) → List A → List ℕ
  laters f place [] = []
  laters f place (x ∷ l) = chosen (f x) place l ++ laters f place l

  pub record Later (f : A → A → Bool) (place : A → ℕ) (l : List A) (p : ℕ) : Type 0 where
    pub i : ℕ
    pub j : ℕ
    pub x : A
    pub y : A
    pub in_order : i < j
    pub at_i : At l i x
    pub at_j : At l j y
    pub match : f x y ≡ true
    pub there : p ≡ place y

  pub laters_in : {l : List A} {i j : ℕ} {x y : A} (f : A → A → Bool) (place : A → ℕ) → i < j → At l i x → At l j y → f x y ≡ true → Memᴰ (place y) (laters f place l)
  laters_in f place h at_first at_first e = absurd (omega arith)
  laters_in f place h (at_first {x} {l}) (at_later k) e = mathlib.Core.List.Memᴰ.append_left (laters f place l) (chosen_in (f x) place k e)
  laters_in f place h (at_later k) at_first e = absurd (omega arith)
  laters_in f place h (at_later {y = z} {l} {i} k) (at_later {i = j} m) e =
      mathlib.Core.List.Memᴰ.append_right (chosen (f z) place l) (laters_in f place (let g : i < j = omega arith in g) k m e)

  pub laters_out : {f : A → A → Bool} {place : A → ℕ} {p : ℕ} (l : List A) → Memᴰ p (laters f place l) → Later f place l p
  laters_out [] m = absurd (mathlib.Core.List.Memᴰ.not-nil m)
  laters_out {f} {place} {p} (x ∷ l) m = ⊎_elim
      (λ (n : Memᴰ p (chosen (f x) place l)). let c = chosen_out l n in
      record { i = 0; j = suc c.i; x = x; y = c.x; in_order = omega arith; at_i = at_first; at_j = at_later c.at; match = c.passes; there = c.there })
      (λ (n : Memᴰ p (laters f place l)). let c = laters_out l n in
      record { i = suc c.i; j = suc c.j; x = c.x; y = c.y; in_order = (let h = c.in_order in omega arith); at_i = at_later c.at_i; at_j = at_later c.at_j; match = c.match; there = c.there })
      (mathlib.Core.List.Memᴰ.append_cases (chosen (f x) place l) m)

  -- ---- what each gives

  abbrev pub of_each : (A → List ℕ) → List A → List ℕ
  of_each f [] = []
  of_each f (x ∷ l) = f x ++ of_each f l

  pub record Given (f : A → List ℕ) (l : List A) (p : ℕ) : Type 0 where
    pub i : ℕ
    pub x : A
    pub at : At l i x
    pub given : Memᴰ p (f x)

  pub each_in : {l : List A} {i : ℕ} {x : A} {p : ℕ} (f : A → List ℕ) → At l i x → Memᴰ p (f x) → Memᴰ p (of_each f l)
  each_in f (at_first {l}) m = mathlib.Core.List.Memᴰ.append_left (of_each f l) m
  each_in f (at_later {y} h) m = mathlib.Core.List.Memᴰ.append_right (f y) (each_in f h m)

  pub each_out : {f : A → List ℕ} {p : ℕ} (l : List A) → Memᴰ p (of_each f l) → Given f l p
  each_out [] m = absurd (mathlib.Core.List.Memᴰ.not-nil m)
  each_out {f} {p} (x ∷ l) m = ⊎_elim
      (λ (n : Memᴰ p (f x)). record { i = 0; x = x; at = at_first; given = n })
      (λ (n : Memᴰ p (of_each f l)). let c = each_out l n in record { i = suc c.i; x = c.x; at = at_later c.at; given = c.given })
      (mathlib.Core.List.Memᴰ.append_cases (f x) m)

  -- ---- whether some one of a list, or none, is as a test asks

  pub record Some (P : A → Type 0) (l : List A) : Type 0 where
    pub i : ℕ
    pub x : A
    pub at : At l i x
    pub is : P x

  pub some_reflects : {P : A → Type 0} {f : A → Bool} → ((x : A) → Reflects (P x) (f x)) → (l : List A) → Reflects (Some P l) (some_one f l)
  some_reflects r [] = of_no (λ s. elim s.at [ ])
  some_reflects {P} {f} r (x ∷ l) = go (r x) (some_reflects r l)
    where
      in_rest : ¬ P x → Some P (x ∷ l) → Some P l
      in_rest n s = by s.at s.is
        where
          by : {i : ℕ} {y : A} → At (x ∷ l) i y → P y → Some P l
          by at_first p = absurd (n p)
          by (at_later {x = y} {i = k} h) p = record { i = k; x = y; at = h; is = p }

      go : {a b : Bool} → Reflects (P x) a → Reflects (Some P l) b → Reflects (Some P (x ∷ l)) (a || b)
      go (of_yes p) s = of_yes (record { i = 0; x = x; at = at_first; is = p })
      go (of_no n) (of_yes s) = of_yes (record { i = suc s.i; x = s.x; at = at_later s.at; is = s.is })
      go (of_no n) (of_no m) = of_no (λ s. m (in_rest n s))

  abbrev pub none_of : (A → Bool) → List A → Bool
  none_of f l = not (some_one f l)

  pub none_in : {P : A → Type 0} {f : A → Bool} → ((x : A) → Reflects (P x) (f x)) → (l : List A) → ((i : ℕ) (x : A) → At l i x → ¬ P x) → none_of f l ≡ true
  none_in r l n = reflects_true (reflects_not (some_reflects r l)) (λ s. n s.i s.x s.at s.is)

  pub none_out : {P : A → Type 0} {f : A → Bool} → ((x : A) → Reflects (P x) (f x)) → (l : List A) → none_of f l ≡ true → (i : ℕ) (x : A) → At l i x → ¬ P x
  none_out r l e i x h p = true_reflects (reflects_not (some_reflects r l)) e (record { i = i; x = x; at = h; is = p })

-- ---- the smallest

abbrev pub lesser : ℕ → Option ℕ → Option ℕ
lesser p none = some p
lesser p (some q) = elim (leb p q) [ true ↦ some p | false ↦ some q ]

abbrev pub least_f : List ℕ → Option ℕ
least_f [] = none
least_f (p ∷ l) = lesser p (least_f l)

-- the place, if there is one, is the smallest at which P holds; if there is none, P holds nowhere
pub data Least (P : ℕ → Type 0) : Option ℕ → Type 0 where
  least : {p : ℕ} → P p → ((q : ℕ) → P q → p ≤ q) → Least P (some p)
  nowhere : ((q : ℕ) → ¬ P q) → Least P none

pub least-of : (l : List ℕ) → Least (λ p. Memᴰ p l) (least_f l)
least-of [] = nowhere (λ q m. mathlib.Core.List.Memᴰ.not-nil m)
least-of (p ∷ l) = go (least_f l) (least-of l)
  where
    first_least : {q : ℕ} → p ≤ q → ((r : ℕ) → Memᴰ r l → q ≤ r) → (r : ℕ) → Memᴰ r (p ∷ l) → p ≤ r
    first_least h f r m = ⊎_elim (λ (e : r ≡ p). omega arith) (λ (n : Memᴰ r l). let k = f r n in omega arith) (mathlib.Core.List.Memᴰ.cases_cons m)

    rest_least : {q : ℕ} → q < p → ((r : ℕ) → Memᴰ r l → q ≤ r) → (r : ℕ) → Memᴰ r (p ∷ l) → q ≤ r
    rest_least h f r m = ⊎_elim (λ (e : r ≡ p). omega arith) (λ (n : Memᴰ r l). f r n) (mathlib.Core.List.Memᴰ.cases_cons m)

    only_one : ((r : ℕ) → ¬ Memᴰ r l) → (r : ℕ) → Memᴰ r (p ∷ l) → p ≤ r
    only_one f r m = ⊎_elim (λ (e : r ≡ p). omega arith) (λ (n : Memᴰ r l). absurd (f r n)) (mathlib.Core.List.Memᴰ.cases_cons m)

    by : {q : ℕ} → Memᴰ q l → ((r : ℕ) → Memᴰ r l → q ≤ r) → (b : Bool) → leb p q ≡ b
        → Least (λ r. Memᴰ r (p ∷ l)) (elim b [ true ↦ some p | false ↦ some q ])
    by {q} m f true e = least (mathlib.Core.List.Memᴰ.head refl) (first_least (leb-true p q e) f)
    by {q} m f false e = least (mathlib.Core.List.Memᴰ.tail m) (rest_least (leb-false p q e) f)

    go : (o : Option ℕ) → Least (λ r. Memᴰ r l) o → Least (λ r. Memᴰ r (p ∷ l)) (lesser p o)
    go o (nowhere f) = least (mathlib.Core.List.Memᴰ.head refl) (only_one f)
    go o (least {p = q} m f) = by m f (leb p q) refl

pub least_iff : {P Q : ℕ → Type 0} {o : Option ℕ} → ((p : ℕ) → P p → Q p) → ((p : ℕ) → Q p → P p) → Least P o → Least Q o
least_iff f g (least {p} m h) = least (f p m) (λ q k. h q (g q k))
least_iff f g (nowhere h) = nowhere (λ q k. h q (g q k))
