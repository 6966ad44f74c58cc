-- Sets of rows as computed lists: how the lists of parts make the list of the whole, and what a look into one finds.
use Rattle.std.specs.Prelude.{ℕ, zero, suc, ◌+◌, ◌≤◌, ◌≡◌, refl, Bool, true, false, ◌&&◌, ◌↔◌, ◌⊎◌, List, [], ◌∷◌, ◌++◌, length}
use Rattle.std.proofs.Common.{arith, sym, ap, subst, ◌∙◌, inl, inr, length-append}
use Rattle.std.proofs.Math.Option.{Option, none, some}
use Rattle.paper_expressions.proofs.Laws.Search.{no_clash}
use Rattle.paper_expressions.proofs.Laws.Tests.{contra, two}
use Rattle.paper_expressions.specs.View.{At, at_first, at_later}
use Rattle.paper_rows.specs.Table.{Component, Property, RowValue}
use Rattle.paper_rows.proofs.Laws.Booleans.{Tests, is_and}
use Rattle.paper_rows.proofs.Laws.Lists.{no_element, at_left, at_right, parted}
use Rattle.paper_rows.proofs.Laws.Ranks.{same_component, is_same_component, same_property, is_same_property}
use Rattle.paper_rows.proofs.Laws.Seen.{Sees, unseen, seen_one}

-- a set of rows
abbrev pub Rows : Type 1
Rows = Component → Property → RowValue → Type 0

pub record Row : Type 0 where
  pub of : Component
  pub property : Property
  pub holds : RowValue

abbrev pub a_row : Component → Property → RowValue → Row
a_row c p r = record { of = c; property = p; holds = r }

-- the rows N are those of the list
pub record Listed (N : Rows) (l : List Row) : Type 0 where
  pub to : {c : Component} {p : Property} {r : RowValue} → N c p r → (i : ℕ) × At l i (a_row c p r)
  pub back : {i : ℕ} {x : Row} → At l i x → N x.of x.property x.holds

pub data Only (c : Component) (p : Property) (r : RowValue) : Component → Property → RowValue → Type 0 where
  it : Only c p r c p r

pub listed_only : (c : Component) (p : Property) (r : RowValue) → Listed (Only c p r) (a_row c p r ∷ [])
listed_only c p r = record { to = to; back = back }
  where
    to : {d : Component} {q : Property} {s : RowValue} → Only c p r d q s → (i : ℕ) × At (a_row c p r ∷ []) i (a_row d q s)
    to it = (0, at_first)

    back : {i : ℕ} {x : Row} → At (a_row c p r ∷ []) i x → Only c p r x.of x.property x.holds
    back at_first = it
    back (at_later h) = absurd (no_element h)

pub listed_none : {N : Rows} → ((c : Component) (p : Property) (r : RowValue) → ¬ N c p r) → Listed N []
listed_none n = record { to = λ {c} {p} {r} h. absurd (n c p r h); back = λ h. absurd (no_element h) }

pub listed_as : {N M : Rows} {l : List Row} → ((c : Component) (p : Property) (r : RowValue) → N c p r → M c p r) → ((c : Component) (p : Property) (r : RowValue) → M c p r → N c p r) → Listed N l → Listed M l
listed_as f g h = record { to = λ {c} {p} {r} q. h.to (g c p r q); back = λ {i} {x} q. f x.of x.property x.holds (h.back q) }

infixr 40 ◌or◌
abbrev pub ◌or◌ : Rows → Rows → Rows
◌or◌ N M = λ c p r. N c p r ⊎ M c p r

pub listed_or : {N M : Rows} {l m : List Row} → Listed N l → Listed M m → Listed (N or M) (l ++ m)
listed_or {N} {M} {l} {m} h k = record { to = to; back = λ q. back (parted l q) }
  where
    to : {c : Component} {p : Property} {r : RowValue} → N c p r ⊎ M c p r → (i : ℕ) × At (l ++ m) i (a_row c p r)
    to (inl q) = let z = h.to q in (z.0, at_left m z.1)
    to (inr q) = let z = k.to q in (length l + z.0, at_right l z.1)

    back : {x : Row} → ((j : ℕ) × At l j x) ⊎ ((j : ℕ) × At m j x) → N x.of x.property x.holds ⊎ M x.of x.property x.holds
    back (inl z) = inl (h.back z.1)
    back (inr z) = inr (k.back z.1)

-- under a condition that is tested
abbrev pub only_if : {A : Type 0} → Bool → List A → List A
only_if true l = l
only_if false l = []

pub listed_if : {b : Bool} {P : Type 0} {N : Rows} {l : List Row} → Tests b P → Listed N l → Listed (λ c p r. P × N c p r) (only_if b l)
listed_if {b} {P} {N} {l} h k = go b refl
  where
    go : (a : Bool) → b ≡ a → Listed (λ c p r. P × N c p r) (only_if a l)
    go true e = listed_as (λ c p r q. (h.0 e, q)) (λ c p r q. q.1) k
    go false e = listed_none (λ c p r q. contra (sym e ∙ h.1 q.0))

-- of what a row holds
abbrev pub what_f : {A B : Type 0} → Option A → (A → List B) → List B
what_f none f = []
what_f (some a) f = f a

pub listed_held : {A : Type 0} {f : A → RowValue} {see : Option RowValue → Option A} {N : A → Rows} {l : A → List Row} → Sees f see → (o : Option RowValue)
    → ((a : A) → o ≡ some (f a) → Listed (N a) (l a)) → Listed (λ c p r. (a : A) × (o ≡ some (f a)) × N a c p r) (what_f (see o) l)
listed_held {A} {f} {see} {N} {l} sees o k = go (see o) refl
  where
    go : (s : Option A) → see o ≡ s → Listed (λ c p r. (a : A) × (o ≡ some (f a)) × N a c p r) (what_f s l)
    go none q = listed_none (λ c p r z. unseen sees q z.1)
    go (some a) q = let e = sees.has o a q in listed_as (λ c p r z. (a, e, z)) (λ c p r z. subst (λ x. N x c p r) (seen_one sees z.1 e) z.2) (k a e)

-- of the elements of a list, by number
abbrev pub Each : {A : Type 0} → (ℕ → A → Rows) → List A → Rows
Each {A} F l = λ c p r. (i : ℕ) × (a : A) × At l i a × F i a c p r

abbrev pub each_f : {A B : Type 0} → (ℕ → A → List B) → List A → List B
each_f f [] = []
each_f f (a ∷ l) = f 0 a ++ each_f (λ i. f (suc i)) l

pub listed_each : {A : Type 0} (F : ℕ → A → Rows) (f : ℕ → A → List Row) (l : List A) → ((i : ℕ) (a : A) → At l i a → Listed (F i a) (f i a)) → Listed (Each F l) (each_f f l)
listed_each F f [] k = listed_none (λ c p r q. no_element q.2)
listed_each {A} F f (a ∷ l) k = listed_as to (λ c p r h. back h.2 h.3) (listed_or (k 0 a at_first) (listed_each (λ i. F (suc i)) (λ i. f (suc i)) l (λ i x h. k (suc i) x (at_later h))))
  where
    to : (c : Component) (p : Property) (r : RowValue) → F 0 a c p r ⊎ Each (λ i. F (suc i)) l c p r → Each F (a ∷ l) c p r
    to c p r (inl h) = (0, a, at_first, h)
    to c p r (inr h) = (suc h.0, h.1, at_later h.2, h.3)

    back : {c : Component} {p : Property} {r : RowValue} {i : ℕ} {x : A} → At (a ∷ l) i x → F i x c p r → F 0 a c p r ⊎ Each (λ i. F (suc i)) l c p r
    back at_first h = inl h
    back (at_later {x} {i} q) h = inr (i, x, q, h)

-- how many
abbrev pub total : {A : Type 0} → (A → ℕ) → List A → ℕ
total b [] = 0
total b (a ∷ l) = b a + total b l

pub each_most : {A B : Type 0} (f : ℕ → A → List B) (b : A → ℕ) (l : List A) → ((i : ℕ) (a : A) → At l i a → length (f i a) ≤ b a) → length (each_f f l) ≤ total b l
each_most f b [] k = omega arith
each_most f b (a ∷ l) k =
    omega (arith, length-append (f 0 a) (each_f (λ i. f (suc i)) l), k 0 a at_first, each_most (λ i. f (suc i)) b l (λ i x h. k (suc i) x (at_later h)))

pub if_most : {A : Type 0} (b : Bool) (l : List A) → length (only_if b l) ≤ length l
if_most true l = omega arith
if_most false l = omega arith

pub what_most : {A B : Type 0} (o : Option A) (f : A → List B) (n : ℕ) → ((a : A) → o ≡ some a → length (f a) ≤ n) → length (what_f o f) ≤ n
what_most none f n k = omega arith
what_most (some a) f n k = k a refl

-- ---- a look into a list

abbrev pub key_f : Row → Component → Property → Bool
key_f x c p = same_component x.of c && same_property x.property p

pub is_key : (x : Row) (c : Component) (p : Property) → Tests (key_f x c p) ((x.of ≡ c) × (x.property ≡ p))
is_key x c p = is_and (is_same_component x.of c) (is_same_property x.property p)

pub row_of : {x : Row} {c : Component} {p : Property} → (x.of ≡ c) × (x.property ≡ p) → x ≡ a_row c p x.holds
row_of {x} h = λ i. record { of = h.0 i; property = h.1 i; holds = x.holds }

abbrev pub or_f : {A : Type 0} → Bool → A → Option A → Option A
or_f true a o = some a
or_f false a o = o

abbrev pub look_f : List Row → Component → Property → Option RowValue
look_f [] c p = none
look_f (x ∷ l) c p = or_f (key_f x c p) x.holds (look_f l c p)

pub look_has : (l : List Row) (c : Component) (p : Property) {r : RowValue} → look_f l c p ≡ some r → (i : ℕ) × At l i (a_row c p r)
look_has [] c p e = absurd (no_clash (cc))
look_has (x ∷ l) c p {r} e = go (key_f x c p) refl e (λ q. look_has l c p q)
  where
    held : {q : RowValue} → some q ≡ some r → q ≡ r
    held e = cc

    go : (b : Bool) → key_f x c p ≡ b → or_f b x.holds (look_f l c p) ≡ some r → (look_f l c p ≡ some r → (i : ℕ) × At l i (a_row c p r)) → (i : ℕ) × At (x ∷ l) i (a_row c p r)
    go true k h f = (0, subst (At (x ∷ l) 0) (row_of ((is_key x c p).0 k) ∙ ap (a_row c p) (held h)) at_first)
    go false k h f = let z = f h in (suc z.0, at_later z.1)

first_or_later : {A : Type 0} {l : List A} {x y : A} {i : ℕ} → At (x ∷ l) i y → (x ≡ y) ⊎ ((j : ℕ) × At l j y)
first_or_later at_first = inl refl
first_or_later (at_later {i} h) = inr (i, h)

pub look_none : (l : List Row) (c : Component) (p : Property) {r : RowValue} → look_f l c p ≡ none → (i : ℕ) → ¬ At l i (a_row c p r)
look_none [] c p e i h = no_element h
look_none (x ∷ l) c p {r} e i h = go (key_f x c p) refl e (first_or_later h) (λ q j k. look_none l c p q j k)
  where
    go : (b : Bool) → key_f x c p ≡ b → or_f b x.holds (look_f l c p) ≡ none → (x ≡ a_row c p r) ⊎ ((j : ℕ) × At l j (a_row c p r)) → (look_f l c p ≡ none → (n : ℕ) → ¬ At l n (a_row c p r)) → ⊥
    go true k q z f = no_clash (cc)
    go false k q (inl z) f = contra (sym k ∙ (is_key x c p).1 (ap (λ (y : Row). y.of) z, ap (λ (y : Row). y.property) z))
    go false k q (inr z) f = f q z.0 z.1

-- where no component and property has two rows, the look finds each
pub look_rows : {N : Rows} {l : List Row} → Listed N l → ((c : Component) (p : Property) (r q : RowValue) → N c p r → N c p q → r ≡ q) → (c : Component) (p : Property) (r : RowValue) → look_f l c p ≡ some r ↔ N c p r
look_rows {N} {l} listed once c p r = (λ e. listed.back (look_has l c p e).1, λ h. go (look_f l c p) refl h)
  where
    go : (o : Option RowValue) → look_f l c p ≡ o → N c p r → o ≡ some r
    go none e h = absurd (let k = listed.to h in look_none l c p e k.0 k.1)
    go (some q) e h = ap some (once c p q r (listed.back (look_has l c p e).1) h)
