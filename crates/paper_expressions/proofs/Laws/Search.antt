-- Law: tests that tell whether something holds, and searches through lists, each with what it says. Shared by the laws below.
use Rattle.std.specs.Prelude.{◌≡◌, refl, Bool, true, false, cond, ◌&&◌, List, [], ◌∷◌, ℕ, zero, suc, ◌≤◌, ◌<◌, eqb, ltb}
use Rattle.std.proofs.Common.{ap, subst, arith, eqb-true, lt-ltb, le-ltb}
use Rattle.std.proofs.Math.Bool as Bool
use Rattle.std.proofs.Math.Option.{Option, none, some}
use Rattle.std.proofs.Math.Decide.{dec_lt}
use Rattle.std.proofs.lemmas.Bool.{eqb-false}
use Rattle.paper_expressions.specs.Bytes.{folded, Alike}
use Rattle.paper_expressions.specs.View.{At, at_first, at_later}
pub use Rattle.paper_expressions.specs.Promises.{Same, ExactlyOne}

pub no_clash : ◌≡◌ {A = ℕ} 0 1 → ⊥
no_clash z = omega arith

-- ---- the test b tells whether P

pub data Reflects (P : Type 0) : Bool → Type 0 where
  of_yes : P → Reflects P true
  of_no : ¬ P → Reflects P false

pub reflects_true : {P : Type 0} {b : Bool} → Reflects P b → P → b ≡ true
reflects_true (of_yes p) q = refl
reflects_true (of_no n) q = absurd (n q)

pub reflects_false : {P : Type 0} {b : Bool} → Reflects P b → ¬ P → b ≡ false
reflects_false (of_yes p) n = absurd (n p)
reflects_false (of_no n) m = refl

pub true_reflects : {P : Type 0} {b : Bool} → Reflects P b → b ≡ true → P
true_reflects (of_yes p) e = p
true_reflects (of_no n) e = absurd (no_clash (cc))

pub false_reflects : {P : Type 0} {b : Bool} → Reflects P b → b ≡ false → ¬ P
false_reflects (of_yes p) e = absurd (no_clash (cc))
false_reflects (of_no n) e = n

pub reflects_iff : {P Q : Type 0} {b : Bool} → (P → Q) → (Q → P) → Reflects P b → Reflects Q b
reflects_iff f g (of_yes p) = of_yes (f p)
reflects_iff f g (of_no n) = of_no (λ q. n (g q))

pub reflects_not : {P : Type 0} {b : Bool} → Reflects P b → Reflects (¬ P) (Bool.not b)
reflects_not (of_yes p) = of_no (λ n. n p)
reflects_not (of_no n) = of_yes n

pub reflects_dec : {P : Type 0} {b : Bool} → Reflects P b → Dec P
reflects_dec (of_yes p) = yes p
reflects_dec (of_no n) = no n

pub less_reflects : (i n : ℕ) → Reflects (i < n) (ltb i n)
less_reflects i n = go (dec_lt i n)
  where
    go : Dec (i < n) → Reflects (i < n) (ltb i n)
    go (yes h) = rw (lt-ltb i n h) (of_yes h)
    go (no h) = rw (le-ltb i n (let z : n ≤ i = omega arith in z)) (of_no h)

-- ---- texts

abbrev pub sameb : List ℕ → List ℕ → Bool
sameb [] [] = true
sameb [] (b ∷ t) = false
sameb (a ∷ s) [] = false
sameb (a ∷ s) (b ∷ t) = eqb a b && sameb s t

pub same_reflects : (s t : List ℕ) → Reflects (s ≡ t) (sameb s t)
same_reflects [] [] = of_yes refl
same_reflects [] (b ∷ t) = of_no (λ e. no_clash (cc))
same_reflects (a ∷ s) [] = of_no (λ e. no_clash (cc))
same_reflects (a ∷ s) (b ∷ t) = go (eqb a b) (sameb s t) refl (same_reflects s t)
  where
    go : (x y : Bool) → eqb a b ≡ x → Reflects (s ≡ t) y → Reflects (a ∷ s ≡ b ∷ t) (x && y)
    go true y h (of_yes e) = let k = eqb-true a b h in of_yes (cc)
    go true y h (of_no n) = of_no (λ e. n (cc))
    go false y h r = of_no (λ e. eqb-false a b h (cc))

abbrev pub alikeb : List ℕ → List ℕ → Bool
alikeb s t = sameb (folded s) (folded t)

pub alike_reflects : (s t : List ℕ) → Reflects (Alike s t) (alikeb s t)
alike_reflects s t = same_reflects (folded s) (folded t)

-- ---- lists of components

abbrev pub step_f : Option ℕ → Option ℕ
step_f none = none
step_f (some i) = some (suc i)

module _ {A : Type 0} where
  abbrev pub at_f : List A → ℕ → Option A
  at_f [] i = none
  at_f (x ∷ l) zero = some x
  at_f (x ∷ l) (suc i) = at_f l i

  pub at_only : {l : List A} {i : ℕ} {x : A} → At l i x → at_f l i ≡ some x
  at_only at_first = refl
  at_only (at_later h) = at_only h

  pub at_one : {l : List A} {i : ℕ} {x y : A} → At l i x → At l i y → x ≡ y
  at_one h k = cc (at_only h, at_only k)

  pub at_has : (l : List A) (i : ℕ) {x : A} → at_f l i ≡ some x → At l i x
  at_has [] i e = absurd (no_clash (cc))
  at_has (y ∷ l) zero {x} e = subst (At (y ∷ l) zero) (cc) at_first
  at_has (y ∷ l) (suc i) e = at_later (at_has l i e)

  -- the index of the first that passes the test
  abbrev pub index_f : (A → Bool) → List A → Option ℕ
  index_f p [] = none
  index_f p (x ∷ l) = cond (p x) (some 0) (step_f (index_f p l))

  pub data Looked (P : A → Type 0) (l : List A) : Option ℕ → Type 0 where
    found : {i : ℕ} {x : A} → At l i x → P x → Looked P l (some i)
    missing : ((i : ℕ) (x : A) → At l i x → ¬ P x) → Looked P l none

  none_in : {P : A → Type 0} {x : A} {l : List A} → ¬ P x → ((i : ℕ) (y : A) → At l i y → ¬ P y) → (i : ℕ) (y : A) → At (x ∷ l) i y → ¬ P y
  none_in n m i y at_first = n
  none_in n m i y (at_later {i = k} h) = m k y h

  pub looked : (P : A → Type 0) (p : A → Bool) → ((x : A) → Reflects (P x) (p x)) → (l : List A) → Looked P l (index_f p l)
  looked P p r [] = missing (λ i x h. elim h [ ])
  looked P p r (x ∷ l) = go (p x) (index_f p l) (r x) (looked P p r l)
    where
      go : (b : Bool) (o : Option ℕ) → Reflects (P x) b → Looked P l o → Looked P (x ∷ l) (cond b (some 0) (step_f o))
      go b o (of_yes q) k = found at_first q
      go b o (of_no n) (found h q) = found (at_later h) q
      go b o (of_no n) (missing m) = missing (none_in n m)

-- ---- the numbers below n

pub last_case : (P : ℕ → Type 0) (n : ℕ) → P n → ((i : ℕ) → i < n → P i) → (i : ℕ) → i < suc n → P i
last_case P n p f i h = go (dec_lt i n)
  where
    go : Dec (i < n) → P i
    go (yes k) = f i k
    go (no k) = let e : n ≡ i = omega arith in subst P e p

abbrev pub allb : ℕ → (ℕ → Bool) → Bool
allb zero f = true
allb (suc n) f = allb n f && f n

pub all_reflects : (P : ℕ → Type 0) (f : ℕ → Bool) (n : ℕ) → ((i : ℕ) → Reflects (P i) (f i)) → Reflects ((i : ℕ) → i < n → P i) (allb n f)
all_reflects P f zero h = of_yes (λ i k. absurd (let z : ⊥ = omega arith in z))
all_reflects P f (suc n) h = go (allb n f) (f n) (all_reflects P f n h) (h n)
  where
    go : (a b : Bool) → Reflects ((i : ℕ) → i < n → P i) a → Reflects (P n) b → Reflects ((i : ℕ) → i < suc n → P i) (a && b)
    go a b (of_yes g) (of_yes p) = of_yes (last_case P n p g)
    go a b (of_yes g) (of_no m) = of_no (λ k. m (k n (let z : n < suc n = omega arith in z)))
    go a b (of_no m) p = of_no (λ k. m (λ i q. k i (let z : i < suc n = omega arith in z)))

abbrev pub or_else : Option ℕ → Option ℕ → Option ℕ
or_else none o = o
or_else (some i) o = some i

-- the first that passes the test
abbrev pub firstb : ℕ → (ℕ → Bool) → Option ℕ
firstb zero f = none
firstb (suc n) f = or_else (firstb n f) (cond (f n) (some n) none)

pub data FirstOf (P : ℕ → Type 0) (n : ℕ) : Option ℕ → Type 0 where
  first_is : {i : ℕ} → i < n → P i → ((k : ℕ) → k < i → ¬ P k) → FirstOf P n (some i)
  no_first : ((i : ℕ) → i < n → ¬ P i) → FirstOf P n none

pub first_of : (P : ℕ → Type 0) (f : ℕ → Bool) → ((i : ℕ) → Reflects (P i) (f i)) → (n : ℕ) → FirstOf P n (firstb n f)
first_of P f r zero = no_first (λ i h. absurd (let z : ⊥ = omega arith in z))
first_of P f r (suc n) = go (firstb n f) (f n) (first_of P f r n) (r n)
  where
    go : (o : Option ℕ) (b : Bool) → FirstOf P n o → Reflects (P n) b → FirstOf P (suc n) (or_else o (cond b (some n) none))
    go o b (first_is {i} h p g) q = first_is {i = i} (omega arith) p g
    go o b (no_first g) (of_yes p) = first_is {i = n} (omega arith) p g
    go o b (no_first g) (of_no m) = no_first (last_case (λ (k : ℕ). ¬ P k) n m g)

-- two first ones are the same
pub first_same : {P : ℕ → Type 0} {n i : ℕ} {o : Option ℕ} → FirstOf P n o → i < n → P i → ((k : ℕ) → k < i → ¬ P k) → o ≡ some i
first_same {i} (first_is {i = j} h p g) b q m = ap some (go (dec_lt j i) (dec_lt i j))
  where
    go : Dec (j < i) → Dec (i < j) → j ≡ i
    go (yes k) d = absurd (m j k p)
    go (no k) (yes l) = absurd (g i l q)
    go (no k) (no l) = omega arith
first_same {i} (no_first g) b q m = absurd (g i b q)

pub first_none : {P : ℕ → Type 0} {n : ℕ} {o : Option ℕ} → FirstOf P n o → ((i : ℕ) → ¬ P i) → o ≡ none
first_none (first_is h p g) m = absurd (m _ p)
first_none (no_first g) m = refl
