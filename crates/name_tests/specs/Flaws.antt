-- The flaws of a row by its kind, and what each test of the code says of them.
use Rattle.std.specs.Prelude.{ℕ, ◌-◌, ◌≤◌, ◌<◌, ◌≡◌, refl, Bool, true, false, cond, not, List, [], ◌∷◌, eqb}
use Rattle.std.proofs.Common.{sym, ap, subst, ◌∙◌, arith, eq-eqb, ne_eqb, eqb-true}
use Rattle.std.proofs.Math.Decide.{dec_lt}
use Rattle.paper_expressions.specs.Bytes.{folded, Alike}
use Rattle.paper_expressions.proofs.Laws.Tests.{contra, and_l, and_r, both}
use Rattle.paper_expressions.proofs.Laws.Search.{Reflects, of_yes, of_no, reflects_iff, reflects_not, true_reflects, false_reflects, reflects_true, same_reflects, sameb}
use Rattle.paper_tokens.specs.Tokens
use Tokens.{“data”, “=”, “caption”, “description”, “precondition”, “wait-condition”, “postcondition”, “terminate”, “trigger”, “component”, “source”, “schedule-constraint”, “terminal”, “mandatory”}
use Rattle.parts.specs.Texts.{text_at_fn}
use Rattle.row_names.specs.Sheet
use Sheet.{Sheet, task_kind, head_kind, once, parts_from, Task, Of, Same, Own, Beside, Flaw}
use Sheet.{task_again, item_again, attribute_again, component_of_none, component_of_root, component_again, constraint_of_itself, constraint_of_none, target_of_none, source_of_none}
use Rattle.row_names.specs.Flat.{is_data}
use Rattle.row_names.specs.Agreement.{in_list}
use Rattle.row_tests.specs.Table.{cell_of, kind_of, sheet, component_named}
use Rattle.row_tests.specs.Searched.{One, Some, Again, Nearest, Start, Finish}
use Rattle.name_tests.specs.Lists.{Lists, Among, listed_rows, listed_at}

-- ---- the flaws by kind

pub data Sort : Type 0 where
  a_task an_item a_component a_constraint a_source a_target another : Sort

abbrev sort_of : ℕ → Sort
sort_of k =
    cond (task_kind k) a_task
    (cond (eqb k “data”) an_item
    (cond (eqb k “component”) a_component (cond (eqb k “schedule-constraint”) a_constraint (cond (eqb k “source”) a_source (cond (eqb k “=”) a_target another)))))

abbrev is_another : Sort → Bool
is_another a_task = false
is_another an_item = false
is_another a_component = false
is_another a_constraint = false
is_another a_source = false
is_another a_target = false
is_another another = true

another_is : (s : Sort) → is_another s ≡ true → s ≡ another
another_is a_task e = contra e
another_is an_item e = contra e
another_is a_component e = contra e
another_is a_constraint e = contra e
another_is a_source e = contra e
another_is a_target e = contra e
another_is another e = refl

-- an earlier one of a kind whose name is alike
pub record AlikeBefore (s : Sheet) (is : ℕ → Type 0) (j : ℕ) : Type 0 where
  pub i : ℕ
  pub before : i < j
  pub of : is i
  pub alike : Alike (s.spelt i) (s.spelt j)

pub data ComponentFlaw (s : Sheet) (j : ℕ) : Type 0 where
  of_root : Same s j 0 → ComponentFlaw s j
  earlier : {i : ℕ} → i < j → Of s “component” i → Same s i j → ComponentFlaw s j
  of_none : ((t : ℕ) → Task s t → ¬ Same s j t) → ComponentFlaw s j

pub data ConstraintFlaw (s : Sheet) (j : ℕ) : Type 0 where
  of_itself : {c : ℕ} → Own s j c → Same s j c → ConstraintFlaw s j
  of_none : ((c : ℕ) → Beside s j c → ¬ Same s j c) → ConstraintFlaw s j

pub record AttributeFlaw (s : Sheet) (j : ℕ) : Type 0 where
  pub i : ℕ
  pub before : i < j
  pub stands_once : once (s.kind j) ≡ true
  pub same : s.kind i ≡ s.kind j
  pub still : (m : ℕ) → i < m → m < j → parts_from (s.kind j) (s.kind m) ≡ false

abbrev FlawBy : Sheet → ℕ → Sort → Type 0
FlawBy s j a_task = AlikeBefore s (Task s) j
FlawBy s j an_item = AlikeBefore s (Of s “data”) j
FlawBy s j a_component = ComponentFlaw s j
FlawBy s j a_constraint = ConstraintFlaw s j
FlawBy s j a_source = (d : ℕ) → Of s “data” d → ¬ Same s j d
FlawBy s j a_target = (d : ℕ) → Of s “data” d → ¬ Alike (s.spelt j) (s.spelt d)
FlawBy s j another = AttributeFlaw s j

module _ (s : Sheet) (j : ℕ) where
  sort_task : task_kind (s.kind j) ≡ true → sort_of (s.kind j) ≡ a_task
  sort_task e = rw e

  sort_once : once (s.kind j) ≡ true → sort_of (s.kind j) ≡ another
  sort_once e =
      another_is (sort_of (s.kind j))
      (in_list (λ (k : ℕ). is_another (sort_of k))
      (“caption” ∷ “description” ∷ “precondition” ∷ “wait-condition” ∷ “postcondition” ∷ “terminate” ∷ “trigger” ∷ “terminal” ∷ “mandatory” ∷ []) (s.kind j) refl e)

  onto : {t : Sort} → sort_of (s.kind j) ≡ t → FlawBy s j t → FlawBy s j (sort_of (s.kind j))
  onto e h = subst (FlawBy s j) (sym e) h

  flaw_by : Flaw s j → FlawBy s j (sort_of (s.kind j))
  flaw_by (task_again l h k e) = onto (sort_task k.1) (record { i = _; before = l; of = h; alike = e })
  flaw_by (item_again l h k e) = onto (ap sort_of k.1) (record { i = _; before = l; of = h; alike = e })
  flaw_by (attribute_again l u o e f) = onto (sort_once o) (record { i = _; before = l; stands_once = o; same = e; still = f })
  flaw_by (component_of_none h f) = onto (ap sort_of h.1) (of_none f)
  flaw_by (component_of_root h e) = onto (ap sort_of h.1) (of_root e)
  flaw_by (component_again l h k e) = onto (ap sort_of k.1) (earlier l h e)
  flaw_by (constraint_of_itself h o e) = onto (ap sort_of h.1) (of_itself o e)
  flaw_by (constraint_of_none h f) = onto (ap sort_of h.1) (of_none f)
  flaw_by (target_of_none h f) = onto (ap sort_of h.1) f
  flaw_by (source_of_none h f) = onto (ap sort_of h.1) f

  by : {t : Sort} → sort_of (s.kind j) ≡ t → Flaw s j → FlawBy s j t
  by e f = subst (FlawBy s j) e (flaw_by f)

  module _ (u : j < s.count) {r : Bool} where
    pub task_flaw : task_kind (s.kind j) ≡ true → Reflects (AlikeBefore s (Task s) j) r → Reflects (Flaw s j) r
    task_flaw e = reflects_iff (λ h. task_again h.before h.of (u, e) h.alike) (by (sort_task e))

    pub item_flaw : s.kind j ≡ “data” → Reflects (AlikeBefore s (Of s “data”) j) r → Reflects (Flaw s j) r
    item_flaw e = reflects_iff (λ h. item_again h.before h.of (u, e) h.alike) (by (ap sort_of e))

    pub component_flaw : s.kind j ≡ “component” → Reflects (ComponentFlaw s j) r → Reflects (Flaw s j) r
    component_flaw e = reflects_iff flaw (by (ap sort_of e))
      where
        flaw : ComponentFlaw s j → Flaw s j
        flaw (of_root h) = component_of_root (u, e) h
        flaw (earlier l h k) = component_again l h (u, e) k
        flaw (of_none f) = component_of_none (u, e) f

    pub constraint_flaw : s.kind j ≡ “schedule-constraint” → Reflects (ConstraintFlaw s j) r → Reflects (Flaw s j) r
    constraint_flaw e = reflects_iff flaw (by (ap sort_of e))
      where
        flaw : ConstraintFlaw s j → Flaw s j
        flaw (of_itself o h) = constraint_of_itself (u, e) o h
        flaw (of_none f) = constraint_of_none (u, e) f

    pub source_flaw : s.kind j ≡ “source” → Reflects ((d : ℕ) → Of s “data” d → ¬ Same s j d) r → Reflects (Flaw s j) r
    source_flaw e = reflects_iff (source_of_none (u, e)) (by (ap sort_of e))

    pub target_flaw : s.kind j ≡ “=” → Reflects ((d : ℕ) → Of s “data” d → ¬ Alike (s.spelt j) (s.spelt d)) r → Reflects (Flaw s j) r
    target_flaw e = reflects_iff (target_of_none (u, e)) (by (ap sort_of e))

    pub other_flaw : task_kind (s.kind j) ≡ false → ¬ (s.kind j ≡ “data”) → ¬ (s.kind j ≡ “component”) → ¬ (s.kind j ≡ “schedule-constraint”) → ¬ (s.kind j ≡ “source”) → ¬ (s.kind j ≡ “=”)
        → Reflects (AttributeFlaw s j) r → Reflects (Flaw s j) r
    other_flaw a b c d e f =
        reflects_iff (λ h. attribute_again h.before u h.stands_once h.same h.still)
        (by {t = another} (rw (a, ne_eqb (s.kind j) “data” b, ne_eqb (s.kind j) “component” c, ne_eqb (s.kind j) “schedule-constraint” d, ne_eqb (s.kind j) “source” e, ne_eqb (s.kind j) “=” f)))

-- ---- what the code tests

module _ (x : List ℕ) (n : ℕ) (b : List ℕ) where
  abbrev rows : Sheet
  rows = sheet x n b

  abbrev pub Component : List ℕ → ℕ → ℕ → Bool → Type 0
  Component l m j r = Lists task_kind x n l m → j < n → Reflects (ComponentFlaw rows j) r

  abbrev pub Constraint : ℕ → Bool → Type 0
  Constraint j r = j < n → Reflects (ConstraintFlaw rows j) r

  -- no component of the plan around the row has the name
  pub record Unnamed (j h : ℕ) (r : Bool) : Type 0 where
    pub a : ℕ
    pub z : ℕ
    pub found : Bool
    pub start : Start x j a
    pub finish : Finish x n j z
    pub some_one : Some (component_named x b h) a z found
    pub is : r ≡ not found

  abbrev pub Attribute : ℕ → Bool → Type 0
  Attribute j r = Reflects (AttributeFlaw rows j) r

  abbrev pub Flawed : List ℕ → ℕ → List ℕ → ℕ → ℕ → Bool → Type 0
  Flawed tasks m items d j r = Lists task_kind x n tasks m → Lists is_data x n items d → j < n → Reflects (Flaw rows j) r

  -- the name of the row j, and of another
  module _ (j : ℕ) {h : ℕ} (eh : h ≡ cell_of x j 2) where
    same_is : (i : ℕ) → sameb (text_at_fn b (cell_of x i 2)) (text_at_fn b h) ≡ true → Same rows i j
    same_is i e = true_reflects (same_reflects (text_at_fn b (cell_of x i 2)) (text_at_fn b h)) e ∙ ap (text_at_fn b) eh

    same_not : (i : ℕ) → sameb (text_at_fn b (cell_of x i 2)) (text_at_fn b h) ≡ false → ¬ Same rows i j
    same_not i e q = false_reflects (same_reflects (text_at_fn b (cell_of x i 2)) (text_at_fn b h)) e (q ∙ ap (text_at_fn b) (sym eh))

    is_same : (i : ℕ) → Same rows i j → sameb (text_at_fn b (cell_of x i 2)) (text_at_fn b h) ≡ true
    is_same i q = reflects_true (same_reflects (text_at_fn b (cell_of x i 2)) (text_at_fn b h)) (q ∙ ap (text_at_fn b) (sym eh))

    pub found_kind : {from to : ℕ} (o : One (component_named x b h) from to) → kind_of x o.i ≡ “component”
    found_kind o = eqb-true (kind_of x o.i) “component” (and_l (eqb (kind_of x o.i) “component”) _ o.passes)

    pub found_same : {from to : ℕ} (o : One (component_named x b h) from to) → Same rows o.i j
    found_same o = same_is o.i (and_r (eqb (kind_of x o.i) “component”) (sameb (text_at_fn b (cell_of x o.i 2)) (text_at_fn b h)) o.passes)

    pub passes : (i : ℕ) → kind_of x i ≡ “component” → Same rows i j → component_named x b h i ≡ true
    passes i k q = both (eqb (kind_of x i) “component”) (sameb (text_at_fn b (cell_of x i 2)) (text_at_fn b h)) (eq-eqb (kind_of x i) “component” k) (is_same i q)

    -- ---- a component

    pub component_root : {l : List ℕ} {m g : ℕ} → g ≡ cell_of x 0 2 → sameb (text_at_fn b g) (text_at_fn b h) ≡ true → Component l m j true
    component_root eg e t u = of_yes (of_root (sym (same_is 0 (ap (λ (z : ℕ). sameb (text_at_fn b z) (text_at_fn b h)) (sym eg) ∙ e))))

    pub component_earlier : {l : List ℕ} {m : ℕ} {r : Bool} → Some (component_named x b h) 0 j r → r ≡ true → Component l m j true
    component_earlier s e t u = let o = true_reflects s e in of_yes (earlier o.high (let z = o.high in omega arith, found_kind o) (found_same o))

    pub component_rest : {l : List ℕ} {m g : ℕ} {r q : Bool} → g ≡ cell_of x 0 2 → sameb (text_at_fn b g) (text_at_fn b h) ≡ false
        → Some (component_named x b h) 0 j r → r ≡ false → Some (listed_at x b l n false h) 0 m q → Component l m j (not q)
    component_rest eg e s f p t u = reflects_iff flaw back (reflects_not (listed_rows t b n false h (omega arith) p))
      where
        flaw : ¬ Among task_kind x b n false h → ComponentFlaw rows j
        flaw f = of_none (λ t k q. f (record { row = t; below = k.0; is = k.1; matches = sym q ∙ ap (text_at_fn b) (sym eh) }))

        back : ComponentFlaw rows j → ¬ Among task_kind x b n false h
        back (of_root q) a = same_not 0 (ap (λ (z : ℕ). sameb (text_at_fn b z) (text_at_fn b h)) (sym eg) ∙ e) (sym q)
        back (earlier {i} l k q) a = false_reflects s f (record { i = i; low = omega arith; high = l; passes = passes i k.1 q })
        back (of_none g) a = g a.row (a.below, a.is) (sym (a.matches ∙ ap (text_at_fn b) eh))

    -- ---- a schedule constraint

    pub constraint_itself : {c : ℕ} → Nearest x j c → c < j → {g : ℕ} → g ≡ cell_of x c 2 → sameb (text_at_fn b g) (text_at_fn b h) ≡ true → Constraint j true
    constraint_itself {c} o l eg e u =
        of_yes (of_itself (l, (omega arith, o.component l), o.between) (sym (same_is c (ap (λ (z : ℕ). sameb (text_at_fn b z) (text_at_fn b h)) (sym eg) ∙ e))))

    module _ {a z : ℕ} {r : Bool} (st : Start x j a) (fi : Finish x n j z) (s : Some (component_named x b h) a z r) where
      beside_one : j < n → (o : One (component_named x b h) a z) → Beside rows j o.i
      beside_one u o =
          let y = fi.within in
          let w = o.high in
          let v = o.low in
          ((omega arith, found_kind o), λ l m p q. st.clear m (omega arith) q, λ l m p q. fi.clear m p (omega arith))

      not_head : (c : ℕ) → kind_of x c ≡ “component” → head_kind (kind_of x c) ≡ false
      not_head c e = ap head_kind e

      one_beside : j < n → (c : ℕ) → Beside rows j c → Same rows j c → One (component_named x b h) a z
      one_beside u c d q = record { i = c; low = low (dec_lt c a); high = high (dec_lt c z); passes = passes c d.0.1 (sym q) }
        where
          low : Dec (c < a) → a ≤ c
          low (no l) = omega arith
          low (yes l) = absurd (go (dec_lt c (a - 1)))
            where
              inside : c < j
              inside = let y = st.within in omega arith

              go : Dec (c < a - 1) → ⊥
              go (yes k) = let y = st.within in contra (sym (d.1 inside (a - 1) k (omega arith)) ∙ st.head (omega arith))
              go (no k) = let e : a - 1 ≡ c = omega arith in contra (sym (not_head c d.0.1) ∙ subst (λ (i : ℕ). head_kind (kind_of x i) ≡ true) e (st.head (omega arith)))

          high : Dec (c < z) → c < z
          high (yes l) = l
          high (no l) = absurd (go (dec_lt z c))
            where
              beyond : j < z
              beyond = fi.behind u

              go : Dec (z < c) → ⊥
              go (yes k) = let y = d.0.0 in contra (sym (d.2 (let w = beyond in omega arith) z beyond k) ∙ fi.head (omega arith) u)
              go (no k) = let e : z ≡ c = omega arith in let y = d.0.0 in contra (sym (not_head c d.0.1) ∙ subst (λ (i : ℕ). head_kind (kind_of x i) ≡ true) e (fi.head (omega arith) u))

      constraint_rest : ((c : ℕ) → Own rows j c → ¬ Same rows j c) → Constraint j (not r)
      constraint_rest never u = reflects_iff flaw back (reflects_not s)
        where
          flaw : ¬ One (component_named x b h) a z → ConstraintFlaw rows j
          flaw f = of_none (λ c d q. f (one_beside u c d q))

          back : ConstraintFlaw rows j → ¬ One (component_named x b h) a z
          back (of_itself {c} o q) p = never c o q
          back (of_none f) p = f p.i (beside_one u p) (sym (found_same p))

      -- no component before it
      pub constraint_alone : {c : ℕ} → Nearest x j c → ¬ (c < j) → Constraint j (not r)
      constraint_alone {c} o l = constraint_rest (λ d k q. let y = o.within in o.none (omega arith) d k.0 k.1.1)

      pub constraint_other : {c : ℕ} → Nearest x j c → c < j → {g : ℕ} → g ≡ cell_of x c 2 → sameb (text_at_fn b g) (text_at_fn b h) ≡ false → Constraint j (not r)
      constraint_other {c} o l eg e = constraint_rest (λ d k q. go d k q (dec_lt c d) (dec_lt d c))
        where
          go : (d : ℕ) → Own rows j d → Same rows j d → Dec (c < d) → Dec (d < c) → ⊥
          go d k q (yes m) f = o.between d m k.0 k.1.1
          go d k q (no m) (yes w) = k.2 c w l (o.component l)
          go d k q (no m) (no w) = let y : c ≡ d = omega arith in same_not c (ap (λ (v : ℕ). sameb (text_at_fn b v) (text_at_fn b h)) (sym eg) ∙ e) (sym (subst (λ (v : ℕ). Same rows j v) (sym y) q))

    pub constraint_none : {c : ℕ} {r : Bool} → Nearest x j c → ¬ (c < j) → Unnamed j h r → Constraint j r
    constraint_none o l w = subst (Constraint j) (sym w.is) (constraint_alone w.start w.finish w.some_one o l)

    pub constraint_else : {c g : ℕ} {r : Bool} → Nearest x j c → c < j → g ≡ cell_of x c 2 → sameb (text_at_fn b g) (text_at_fn b h) ≡ false → Unnamed j h r → Constraint j r
    constraint_else o l eg e w = subst (Constraint j) (sym w.is) (constraint_other w.start w.finish w.some_one o l eg e)

    -- ---- the lists

    module _ {c : ℕ → Bool} {l : List ℕ} {m : ℕ} (t : Lists c x n l m) {r : Bool} where
      pub alike_before : (is : ℕ → Type 0) → ((i : ℕ) → i < n → c (kind_of x i) ≡ true → is i) → ((i : ℕ) → is i → c (kind_of x i) ≡ true) → j < n
          → Some (listed_at x b l j true h) 0 m r → Reflects (AlikeBefore rows is j) r
      alike_before is to from u s = reflects_iff
          (λ a. record { i = a.row; before = a.below; of = to a.row (let z = a.below in omega arith) a.is; alike = a.matches ∙ ap (λ (z : ℕ). folded (text_at_fn b z)) eh })
          (λ a. record { row = a.i; below = a.before; is = from a.i a.of; matches = a.alike ∙ ap (λ (z : ℕ). folded (text_at_fn b z)) (sym eh) })
          (listed_rows t b j true h (omega arith) s)

      pub same_none : ((i : ℕ) → Of rows “data” i → c (kind_of x i) ≡ true) → ((i : ℕ) → i < n → c (kind_of x i) ≡ true → Of rows “data” i)
          → Some (listed_at x b l n false h) 0 m r → Reflects ((d : ℕ) → Of rows “data” d → ¬ Same rows j d) (not r)
      same_none to from s = reflects_iff
          (λ f d k q. f (record { row = d; below = k.0; is = to d k; matches = sym q ∙ ap (text_at_fn b) (sym eh) }))
          (λ f a. f a.row (from a.row a.below a.is) (sym (a.matches ∙ ap (text_at_fn b) eh)))
          (reflects_not (listed_rows t b n false h (omega arith) s))

      pub alike_none : ((i : ℕ) → Of rows “data” i → c (kind_of x i) ≡ true) → ((i : ℕ) → i < n → c (kind_of x i) ≡ true → Of rows “data” i)
          → Some (listed_at x b l n true h) 0 m r → Reflects ((d : ℕ) → Of rows “data” d → ¬ Alike (rows.spelt j) (rows.spelt d)) (not r)
      alike_none to from s = reflects_iff
          (λ f d k q. f (record { row = d; below = k.0; is = to d k; matches = sym q ∙ ap (λ (z : ℕ). folded (text_at_fn b z)) (sym eh) }))
          (λ f a. f a.row (from a.row a.below a.is) (sym (a.matches ∙ ap (λ (z : ℕ). folded (text_at_fn b z)) eh)))
          (reflects_not (listed_rows t b n true h (omega arith) s))

  -- ---- an attribute

  pub attribute_not : {j k : ℕ} {r : Bool} → k ≡ kind_of x j → r ≡ once k → r ≡ false → Attribute j false
  attribute_not ek er e = of_no (λ f. contra (sym e ∙ er ∙ ap once ek ∙ f.stands_once))

  pub attribute_again_is : {j k : ℕ} {q r : Bool} → k ≡ kind_of x j → q ≡ once k → q ≡ true → Again x j r → Attribute j r
  attribute_again_is ek er e = reflects_iff
      (λ a. record { i = a.i; before = a.before; stands_once = sym (ap once ek) ∙ sym er ∙ e; same = a.same; still = a.still })
      (λ f. record { i = f.i; before = f.before; same = f.same; still = f.still })

-- ---- one row, by its kind

module _ (x : List ℕ) (n : ℕ) (b : List ℕ) where
  data_of : (i : ℕ) → i < n → is_data (kind_of x i) ≡ true → Of (sheet x n b) “data” i
  data_of i l e = (l, eqb-true (kind_of x i) “data” e)

  of_data : (i : ℕ) → Of (sheet x n b) “data” i → is_data (kind_of x i) ≡ true
  of_data i o = eq-eqb (kind_of x i) “data” o.1

module _ (x : List ℕ) (n : ℕ) (b : List ℕ) {tasks items : List ℕ} {m d : ℕ} (j : ℕ) {h k : ℕ} {r : Bool} (eh : h ≡ cell_of x j 2) (ek : k ≡ kind_of x j) where
  pub flawed_task : task_kind k ≡ true → Some (listed_at x b tasks j true h) 0 m r → Flawed x n b tasks m items d j r
  flawed_task e s t i u =
      task_flaw (sheet x n b) j u (ap task_kind (sym ek) ∙ e) (alike_before x n b j eh t (Task (sheet x n b)) (λ v l q. (l, q)) (λ v q. q.1) u s)

  pub flawed_item : k ≡ “data” → Some (listed_at x b items j true h) 0 d r → Flawed x n b tasks m items d j r
  flawed_item e s t i u = item_flaw (sheet x n b) j u (sym ek ∙ e) (alike_before x n b j eh i (Of (sheet x n b) “data”) (data_of x n b) (of_data x n b) u s)

  pub flawed_component : k ≡ “component” → Component x n b tasks m j r → Flawed x n b tasks m items d j r
  flawed_component e f t i u = component_flaw (sheet x n b) j u (sym ek ∙ e) (f t u)

  pub flawed_constraint : k ≡ “schedule-constraint” → Constraint x n b j r → Flawed x n b tasks m items d j r
  flawed_constraint e f t i u = constraint_flaw (sheet x n b) j u (sym ek ∙ e) (f u)

  pub flawed_source : k ≡ “source” → Some (listed_at x b items n false h) 0 d r → Flawed x n b tasks m items d j (not r)
  flawed_source e s t i u = source_flaw (sheet x n b) j u (sym ek ∙ e) (same_none x n b j eh i (of_data x n b) (data_of x n b) s)

  pub flawed_target : k ≡ “=” → Some (listed_at x b items n true h) 0 d r → Flawed x n b tasks m items d j (not r)
  flawed_target e s t i u = target_flaw (sheet x n b) j u (sym ek ∙ e) (alike_none x n b j eh i (of_data x n b) (data_of x n b) s)

  pub flawed_other : task_kind k ≡ false → ¬ (k ≡ “data”) → ¬ (k ≡ “component”) → ¬ (k ≡ “schedule-constraint”) → ¬ (k ≡ “source”) → ¬ (k ≡ “=”)
      → Attribute x n b j r → Flawed x n b tasks m items d j r
  flawed_other a1 a2 a3 a4 a5 a6 f t i u =
      other_flaw (sheet x n b) j u (ap task_kind (sym ek) ∙ a1) (λ e. a2 (ek ∙ e)) (λ e. a3 (ek ∙ e)) (λ e. a4 (ek ∙ e)) (λ e. a5 (ek ∙ e)) (λ e. a6 (ek ∙ e)) f
