-- The elements of a list that a choice keeps, in order: the rank of one among them and its index in the list rise together. By induction on the list.
use Rattle.std.specs.Prelude.{ℕ, zero, suc, ◌<◌, ◌≡◌, refl, List, [], ◌∷◌, ◌++◌}
use Rattle.std.proofs.Common.{sym, ap, subst, ◌∙◌, arith}
use Rattle.std.proofs.Math.Option.{Option, none, some}
use Rattle.paper_expressions.specs.View.{At, at_first, at_later}
use Rattle.paper_expressions.proofs.Laws.Search.{no_clash}

abbrev pub keep : {B : Type 0} → Option B → List B → List B
keep none l = l
keep (some b) l = b ∷ l

abbrev pub select : {A B : Type 0} → (A → Option B) → List A → List B
select f [] = []
select f (a ∷ l) = keep (f a) (select f l)

keep_append : {B : Type 0} (o : Option B) (xs ys : List B) → keep o (xs ++ ys) ≡ keep o xs ++ ys
keep_append none xs ys = refl
keep_append (some b) xs ys = refl

pub select_append : {A B : Type 0} (f : A → Option B) (xs ys : List A) → select f (xs ++ ys) ≡ select f xs ++ select f ys
select_append f [] ys = refl
select_append f (x ∷ xs) ys = ap (keep (f x)) (select_append f xs ys) ∙ keep_append (f x) (select f xs) (select f ys)

-- the k-th that is kept is b, of the j-th element
pub data Kept {A B : Type 0} (f : A → Option B) : List A → ℕ → ℕ → B → Type 0 where
  kept_here : {a : A} {b : B} {l : List A} → f a ≡ some b → Kept f (a ∷ l) zero zero b
  kept_past : {a : A} {b c : B} {l : List A} {k j : ℕ} → f a ≡ some c → Kept f l k j b → Kept f (a ∷ l) (suc k) (suc j) b
  kept_over : {a : A} {b : B} {l : List A} {k j : ℕ} → f a ≡ none → Kept f l k j b → Kept f (a ∷ l) k (suc j) b

module _ {A B : Type 0} (f : A → Option B) where
  pub kept_rank : {l : List A} {k j : ℕ} {b : B} → Kept f l k j b → At (select f l) k b
  kept_rank (kept_here e) = rw e at_first
  kept_rank (kept_past e h) = rw e (at_later (kept_rank h))
  kept_rank (kept_over e h) = rw e (kept_rank h)

  pub kept_index : {l : List A} {k j : ℕ} {b : B} → Kept f l k j b → (a : A) × At l j a × (f a ≡ some b)
  kept_index (kept_here {a} e) = (a, at_first, e)
  kept_index (kept_past e h) = let r = kept_index h in (r.0, at_later r.1, r.2)
  kept_index (kept_over e h) = let r = kept_index h in (r.0, at_later r.1, r.2)

  kept_with : {a : A} {l : List A} (o : Option B) → f a ≡ o → ((k : ℕ) (b : B) → At (select f l) k b → (j : ℕ) × Kept f l k j b)
      → {k : ℕ} {b : B} → At (keep o (select f l)) k b → (j : ℕ) × Kept f (a ∷ l) k j b
  kept_with none e g {k} {b} h = let r = g k b h in (suc r.0, kept_over e r.1)
  kept_with (some c) e g at_first = (zero, kept_here e)
  kept_with (some c) e g {b = b} (at_later {i = i} h) = let r = g i b h in (suc r.0, kept_past e r.1)

  pub kept_at : (l : List A) (k : ℕ) (b : B) → At (select f l) k b → (j : ℕ) × Kept f l k j b
  kept_at [] k b h = elim h [ ]
  kept_at (a ∷ l) k b h = kept_with (f a) refl (λ i c q. kept_at l i c q) h

  kept_under : {y : A} {l : List A} {j : ℕ} {b : B} (o : Option B) → f y ≡ o → (k : ℕ) × Kept f l k j b → (k : ℕ) × Kept f (y ∷ l) k (suc j) b
  kept_under none q r = (r.0, kept_over q r.1)
  kept_under (some c) q r = (suc r.0, kept_past q r.1)

  pub kept_of : {l : List A} {j : ℕ} {a : A} {b : B} → At l j a → f a ≡ some b → (k : ℕ) × Kept f l k j b
  kept_of at_first e = (zero, kept_here e)
  kept_of (at_later {y = y} h) e = kept_under (f y) refl (kept_of h e)

  pub rise : {l : List A} {k j m i : ℕ} {b c : B} → Kept f l k j b → Kept f l m i c → k < m → j < i
  rise (kept_here e) (kept_here q) h = absurd (omega arith)
  rise (kept_here e) (kept_past q t) h = omega arith
  rise (kept_here e) (kept_over q t) h = absurd (no_clash (cc))
  rise (kept_past e s) (kept_here q) h = absurd (omega arith)
  rise (kept_past e s) (kept_past q t) h = let z = rise s t (omega arith) in omega arith
  rise (kept_past e s) (kept_over q t) h = absurd (no_clash (cc))
  rise (kept_over e s) (kept_here q) h = absurd (no_clash (cc))
  rise (kept_over e s) (kept_past q t) h = absurd (no_clash (cc))
  rise (kept_over e s) (kept_over q t) h = let z = rise s t h in omega arith

  pub rank_rise : {l : List A} {k j m i : ℕ} {b c : B} → Kept f l k j b → Kept f l m i c → j < i → k < m
  rank_rise (kept_here e) (kept_here q) h = absurd (omega arith)
  rank_rise (kept_here e) (kept_past q t) h = omega arith
  rank_rise (kept_here e) (kept_over q t) h = absurd (no_clash (cc))
  rank_rise (kept_past e s) (kept_here q) h = absurd (omega arith)
  rank_rise (kept_past e s) (kept_past q t) h = let z = rank_rise s t (omega arith) in omega arith
  rank_rise (kept_past e s) (kept_over q t) h = absurd (no_clash (cc))
  rank_rise (kept_over e s) (kept_here q) h = absurd (omega arith)
  rank_rise (kept_over e s) (kept_past q t) h = absurd (no_clash (cc))
  rank_rise (kept_over e s) (kept_over q t) h = rank_rise s t (omega arith)
