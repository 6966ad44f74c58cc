-- Law: whether a task is reached from the root is decided: by as many steps as there are tasks, for with each step that is not the last one more is reached.
use Rattle.std.specs.Prelude.{ℕ, zero, suc, ◌+◌, ◌<◌, ◌≤◌, ◌≡◌, refl, ◌⊎◌, List, [], ◌∷◌, length}
use Rattle.std.proofs.Common.{arith, sym, ap, subst, ◌∙◌, inl, inr}
use Rattle.std.proofs.Math.Decide.{ℕ_discrete}
use Rattle.std.proofs.Math.Option.{Option, none, some}
use Rattle.paper_expressions.proofs.Laws.Search.{no_clash, reflects_dec, same_reflects, at_f, at_only, at_has, at_one}
use Rattle.paper_expressions.specs.View.{At, at_first, at_later}
use Rattle.paper_guideline.specs.Structure.{TopLevel, Task, tasks}
use Rattle.paper_guideline.specs.Parts.{Component, components_of}
use Rattle.paper_guideline.specs.Names.{Names, Reached, the_root, by_component}
use Rattle.paper_rows.specs.Load.{InstantiateTask, load_5, component_6, InstantiateComponent, task_5}
use Rattle.paper_rows.proofs.Laws.Deciding.{both?, either?, not?, as?, some?, below-some?}

-- ---- counting the numbers below n for which something holds

abbrev pub one_if : {P : Type 0} → Dec P → ℕ
one_if (yes p) = 1
one_if (no n) = 0

abbrev pub tally : {P : ℕ → Type 0} → ((i : ℕ) → Dec (P i)) → ℕ → ℕ
tally d zero = 0
tally d (suc n) = tally d n + one_if (d n)

one_most : {P : Type 0} (d : Dec P) → one_if d ≤ 1
one_most (yes p) = omega arith
one_most (no n) = omega arith

pub tally_most : {P : ℕ → Type 0} (d : (i : ℕ) → Dec (P i)) (n : ℕ) → tally d n ≤ n
tally_most d zero = omega arith
tally_most d (suc n) = omega (arith, tally_most d n, one_most (d n))

one_more : {P Q : Type 0} (a : Dec P) (b : Dec Q) → (P → Q) → one_if a ≤ one_if b
one_more (yes p) (yes q) f = omega arith
one_more (yes p) (no n) f = absurd (n (f p))
one_more (no n) b f = omega arith

one_new : {P Q : Type 0} (a : Dec P) (b : Dec Q) → ¬ P → Q → one_if a < one_if b
one_new (yes p) b n q = absurd (n p)
one_new (no n) (yes q) m r = omega arith
one_new (no n) (no k) m r = absurd (k r)

module _ {P Q : ℕ → Type 0} (a : (i : ℕ) → Dec (P i)) (b : (i : ℕ) → Dec (Q i)) (f : (i : ℕ) → P i → Q i) where
  pub tally_more : (n : ℕ) → tally a n ≤ tally b n
  tally_more zero = omega arith
  tally_more (suc n) = omega (arith, tally_more n, one_more (a n) (b n) (f n))

  pub tally_new : (n : ℕ) {j : ℕ} → j < n → ¬ P j → Q j → tally a n < tally b n
  tally_new zero h m q = absurd (let z : ⊥ = omega arith in z)
  tally_new (suc n) {j} h m q = go (ℕ_discrete j n) (λ (l : j < n). tally_new n l m q)
    where
      go : Dec (j ≡ n) → (j < n → tally a n < tally b n) → tally a (suc n) < tally b (suc n)
      go (yes e) r = omega (arith, tally_more n, one_new (a n) (b n) (λ p. m (subst P (sym e) p)) (subst Q e q))
      go (no k) r = omega (arith, r (let z : j < n = omega arith in z), one_more (a n) (b n) (f n))

-- ---- reached in n steps

module _ (N : ℕ) (Step : ℕ → ℕ → Type 0) (step? : (i j : ℕ) → Dec (Step i j)) where
  abbrev In : ℕ → ℕ → Type 0
  In zero j = j ≡ 0
  In (suc n) j = In n j ⊎ ((i : ℕ) × (i < N) × (In n i × Step i j))

  in? : (n j : ℕ) → Dec (In n j)
  in? zero j = ℕ_discrete j 0
  in? (suc n) j = either? (in? n j) (below-some? (λ i. In n i × Step i j) (λ i. both? (in? n i) (step? i j)) N)

  abbrev Stable : ℕ → Type 0
  Stable n = (j : ℕ) → j < N → In (suc n) j → In n j

  first_in : (n : ℕ) → In n 0
  first_in zero = refl
  first_in (suc n) = inl (first_in n)

  new? : (n : ℕ) → Dec ((j : ℕ) × (j < N) × (In (suc n) j × (¬ In n j)))
  new? n = below-some? (λ j. In (suc n) j × (¬ In n j)) (λ j. both? (in? (suc n) j) (not? (in? n j))) N

  stable : (f n : ℕ) → N < tally (in? n) N + f → (m : ℕ) × Stable m
  stable zero n h = absurd (let k = tally_most (in? n) N in let z : ⊥ = omega arith in z)
  stable (suc f) n h = go (new? n) (stable f (suc n))
    where
      go : Dec ((j : ℕ) × (j < N) × (In (suc n) j × (¬ In n j))) → (N < tally (in? (suc n)) N + f → (m : ℕ) × Stable m) → (m : ℕ) × Stable m
      go (yes k) r =
          let q = tally_new (in? n) (in? (suc n)) (λ i p. inl p) N k.1 k.2.1 k.2.0 in
          r (let z : N < tally (in? (suc n)) N + f = omega arith in z)
      go (no m) r = (n, λ j l i. sure j l i (in? n j))
        where
          sure : (j : ℕ) → j < N → In (suc n) j → Dec (In n j) → In n j
          sure j l i (yes p) = p
          sure j l i (no q) = absurd (m (j, l, (i, q)))

  pub some_stable : (m : ℕ) × Stable m
  some_stable = stable (suc N) 0 (let k = tally_most (in? 0) N in let z : N < tally (in? 0) N + suc N = omega arith in z)

-- ---- the steps from a plan to what its components name

module _ (g : List TopLevel) where
  abbrev Step : ℕ → ℕ → Type 0
  Step i j = (p : Task) × (t : Task) × At (tasks g) i p × At (tasks g) j t × ((k : ℕ) × (c : Component) × At (components_of p) k c × Names c t)

  step_from : (i j : ℕ) (o u : Option Task) → at_f (tasks g) i ≡ o → at_f (tasks g) j ≡ u → Dec (Step i j)
  step_from i j none u e f = no (λ h. no_clash (cc (at_only h.2)))
  step_from i j (some p) none e f = no (λ h. no_clash (cc (at_only h.3)))
  step_from i j (some p) (some t) e f =
      as? (λ h. (p, t, at_has (tasks g) i e, at_has (tasks g) j f, h)) back
      (some? (λ c. Names c t) (λ c. reflects_dec (same_reflects c.named.spelt t.named.spelt)) (components_of p))
    where
      back : Step i j → (k : ℕ) × (c : Component) × At (components_of p) k c × Names c t
      back h =
          let a : h.0 ≡ p = at_one h.2 (at_has (tasks g) i e) in
          let b : h.1 ≡ t = at_one h.3 (at_has (tasks g) j f) in
          let q = h.4 in
          (q.0, q.1, subst (λ (x : Task). At (components_of x) q.0 q.1) a q.2, subst (Names q.1) b q.3)

  step? : (i j : ℕ) → Dec (Step i j)
  step? i j = step_from i j (at_f (tasks g) i) (at_f (tasks g) j) refl refl

  abbrev N : ℕ
  N = length (tasks g)

  below : {i : ℕ} {t : Task} → At (tasks g) i t → i < N
  below h = go h
    where
      go : {A : Type 0} {l : List A} {i : ℕ} {x : A} → At l i x → i < length l
      go at_first = omega arith
      go (at_later h) = let k = go h in omega arith

  reached_in : (m : ℕ) {j : ℕ} → Stable N Step step? m → Reached g j → In N Step step? m j
  reached_in m s the_root = first_in N Step step? m
  reached_in m s (by_component {i} {j} {k} {p} {t} {c} r a b d e) = s j (below d) (inr (i, below a, (reached_in m s r, (p, t, a, d, (k, c, b, e)))))

  in_reached : (n j : ℕ) → In N Step step? n j → Reached g j
  in_reached zero j e = subst (Reached g) (sym e) the_root
  in_reached (suc n) j (inl h) = in_reached n j h
  in_reached (suc n) j (inr h) = let q = h.2.1 in by_component (in_reached n h.0 h.2.0) q.2 q.4.2 q.3 q.4.3

  pub reached? : (j : ℕ) → Dec (Reached g j)
  reached? j = let s = some_stable N Step step? in as? (in_reached s.0 j) (reached_in s.0 s.1) (in? N Step step? s.0 j)

-- ---- a task that is reached is instantiated

pub reached_instantiated : {g : List TopLevel} {j : ℕ} {t : Task} → Reached g j → At (tasks g) j t → InstantiateTask g t j
reached_instantiated the_root h = load_5 h
reached_instantiated (by_component r a b d e) h = component_6 (task_5 (reached_instantiated r a) b d e) h
