-- The rules on names, computed: `broken-at g r` lists the places at which a guideline breaks a rule, `name-places g` those of all rules; both ways tied to NameBreach. Reached tasks are marked in rounds: a round that marks none more is the last, and there are no more rounds than tasks.
use Rattle.std.specs.Prelude.{ℕ, zero, suc, ◌+◌, ◌≤◌, ◌<◌, ◌≡◌, refl, Bool, true, false, ◌&&◌, ◌||◌, not, ◌⊎◌, eqb, length}
use Rattle.std.proofs.Common.{arith, sym, ap, subst, ◌∙◌, inl, inr, ⊎_elim, eqb-true, eq-eqb}
use mathlib.Core.List.{List, [], ◌∷◌, Memᴰ}
use Rattle.paper_expressions.specs.Bytes.{Alike}
use Rattle.paper_expressions.specs.View.{At, at_first, at_later}
use Rattle.paper_expressions.proofs.Laws.Tests.{contra, and_l, and_r, both, or_cases, or_l, or_r, some_one}
use Rattle.paper_expressions.proofs.Laws.Search.{Reflects, of_yes, of_no, true_reflects, reflects_true, reflects_not, sameb, same_reflects, alikeb, alike_reflects}
use Rattle.paper_tokens.specs.Tokens.{“component”, “source”, “schedule-constraint”}
use Rattle.paper_guideline.specs.Structure
use Structure.{Name, Placed, Assignment, ComponentAttribute, schedule_constraint, terminal, Task, DataItem, TopLevel, tasks, data_items}
use Rattle.paper_guideline.specs.Parts.{assignments, Component, components_of, components, Source, sources}
use Rattle.paper_guideline.specs.Names
use Names.{generic_word, word_of, component_word, source_word, MayRepeat, component_may, constraint_may, source_may, Repeated, Names, Reached, the_root, by_component, NameBreach}
use Names.{task_twice, data_item_twice, task_attribute_twice, component_attribute_twice, source_attribute_twice, data_attribute_twice, component_of_no_task, component_is_root, component_twice, no_component, not_reached}
use Names.{constraint_on_itself, constraint_on_none, target_no_item, source_no_item}
use Rattle.paper_guideline.proofs.Laws.Places
use Places.{put, put_here, put_on, put_only, put_out, chosen, chosen_in, chosen_out, laters, laters_in, laters_out, of_each, each_in, each_out, some_reflects, none_of, none_in, none_out, least_f, Least, least-of, least_iff}

-- ---- names

abbrev pub spelt_same : Name → Name → Bool
spelt_same n m = sameb n.spelt m.spelt

abbrev pub spelt_alike : Name → Name → Bool
spelt_alike n m = alikeb n.spelt m.spelt

same_spelt : (n m : Name) → Reflects (n.spelt ≡ m.spelt) (spelt_same n m)
same_spelt n m = same_reflects n.spelt m.spelt

alike_spelt : (n m : Name) → Reflects (Alike n.spelt m.spelt) (spelt_alike n m)
alike_spelt n m = alike_reflects n.spelt m.spelt

-- ---- repeated attributes

abbrev pub may_repeat : ℕ → Bool
may_repeat w = eqb w “component” || (eqb w “schedule-constraint” || eqb w “source”)

may_be : (w : ℕ) → may_repeat w ≡ true → MayRepeat w
may_be w e = ⊎_elim
    (λ (h : eqb w “component” ≡ true). subst MayRepeat (sym (eqb-true w “component” h)) component_may)
    (λ (h : eqb w “schedule-constraint” || eqb w “source” ≡ true). ⊎_elim
    (λ (k : eqb w “schedule-constraint” ≡ true). subst MayRepeat (sym (eqb-true w “schedule-constraint” k)) constraint_may)
    (λ (k : eqb w “source” ≡ true). subst MayRepeat (sym (eqb-true w “source” k)) source_may)
    (or_cases (eqb w “schedule-constraint”) (eqb w “source”) h))
    (or_cases (eqb w “component”) (eqb w “schedule-constraint” || eqb w “source”) e)

may_true : {w : ℕ} → MayRepeat w → may_repeat w ≡ true
may_true component_may = refl
may_true constraint_may = refl
may_true source_may = refl

pub may_reflects : (w : ℕ) → Reflects (MayRepeat w) (may_repeat w)
may_reflects w = go (may_repeat w) refl
  where
    go : (b : Bool) → may_repeat w ≡ b → Reflects (MayRepeat w) b
    go true e = of_yes (may_be w e)
    go false e = of_no (λ m. contra (sym e ∙ may_true m))

module _ {A : Type 0} (word : A → ℕ) where
  abbrev pub repeats : Placed A → Placed A → Bool
  repeats a b = eqb (word a.what) (word b.what) && not (may_repeat (word a.what))

  abbrev pub repeated : List (Placed A) → List ℕ
  repeated l = laters repeats (λ (a : Placed A). a.word) l

  pub repeated_in : {l : List (Placed A)} {p : ℕ} → Repeated word l p → Memᴰ p (repeated l)
  repeated_in {l} r =
      let w = word r.earlier.what in
      let e = eq-eqb w (word r.later.what) r.same in
      let n = reflects_true (reflects_not (may_reflects w)) r.once in
      subst (λ (q : ℕ). Memᴰ q (repeated l)) (sym r.there)
      (laters_in repeats (λ (a : Placed A). a.word) r.in_order r.at_i r.at_j (both (eqb w (word r.later.what)) (not (may_repeat w)) e n))

  pub repeated_out : {p : ℕ} (l : List (Placed A)) → Memᴰ p (repeated l) → Repeated word l p
  repeated_out l m =
      let c = laters_out l m in
      let w = word c.x.what in
      let v = word c.y.what in
      record {
        i = c.i;
        j = c.j;
        earlier = c.x;
        later = c.y;
        in_order = c.in_order;
        at_i = c.at_i;
        at_j = c.at_j;
        same = eqb-true w v (and_l (eqb w v) (not (may_repeat w)) c.match);
        once = true_reflects (reflects_not (may_reflects w)) (and_r (eqb w v) (not (may_repeat w)) c.match);
        there = c.there;
      }

-- ---- components and tasks

abbrev pub names? : Component → Task → Bool
names? c t = spelt_same c.named t.named

names_reflects : (c : Component) (t : Task) → Reflects (Names c t) (names? c t)
names_reflects c t = same_spelt c.named t.named

-- some component of the plan names the task
abbrev pub has_component : Task → Task → Bool
has_component p t = some_one (λ c. names? c t) (components_of p)

-- ---- the tasks that are reached: one mark for each task

-- some task that is marked has a component that names this one
abbrev pub from_marked : List Task → List Bool → Task → Bool
from_marked [] ms t = false
from_marked (p ∷ ps) [] t = false
from_marked (p ∷ ps) (m ∷ ms) t = (m && has_component p t) || from_marked ps ms t

-- one round: of these tasks with these marks, those that a marked one of all tasks has for a component
abbrev round_of : List Task → List Bool → List Task → List Bool → List Bool
round_of all marks [] ms = []
round_of all marks (t ∷ ts) [] = from_marked all marks t ∷ round_of all marks ts []
round_of all marks (t ∷ ts) (m ∷ ms) = (m || from_marked all marks t) ∷ round_of all marks ts ms

abbrev pub round : List Task → List Bool → List Bool
round ts ms = round_of ts ms ts ms

abbrev pub rounds : List Task → ℕ → List Bool → List Bool
rounds ts zero ms = ms
rounds ts (suc n) ms = rounds ts n (round ts ms)

-- at first the root alone
abbrev unmarked : List Task → List Bool
unmarked [] = []
unmarked (t ∷ ts) = false ∷ unmarked ts

abbrev pub root_marked : List Task → List Bool
root_marked [] = []
root_marked (t ∷ ts) = true ∷ unmarked ts

abbrev pub reached : List Task → List Bool
reached ts = rounds ts (length ts) (root_marked ts)

-- the places of those that are not marked
abbrev pub unreached : List Task → List Bool → List ℕ
unreached [] ms = []
unreached (t ∷ ts) [] = t.named.place ∷ unreached ts []
unreached (t ∷ ts) (m ∷ ms) = put (not m) t.named.place (unreached ts ms)

-- what is marked is reached

marked_plan : (ps : List Task) (ms : List Bool) (t : Task) → from_marked ps ms t ≡ true
    → (i : ℕ) × (p : Task) × At ms i true × At ps i p × (has_component p t ≡ true)
marked_plan [] ms t e = contra e
marked_plan (p ∷ ps) [] t e = contra e
marked_plan (p ∷ ps) (m ∷ ms) t e = ⊎_elim
    (λ (h : m && has_component p t ≡ true).
    (0, p, subst (λ (b : Bool). At (m ∷ ms) 0 b) (and_l m (has_component p t) h) at_first, at_first, and_r m (has_component p t) h))
    (λ (h : from_marked ps ms t ≡ true). let k = marked_plan ps ms t h in (suc k.0, k.1, at_later k.2, at_later k.3, k.4))
    (or_cases (m && has_component p t) (from_marked ps ms t) e)

no_at : {A : Type 0} {i : ℕ} {a : A} → ¬ At [] i a
no_at h = elim h [ ]

module _ (all : List Task) (marks : List Bool) where
  abbrev Newly : List Task → ℕ → Type 0
  Newly ts j = (t : Task) × At ts j t × (from_marked all marks t ≡ true)

  round_out : (ts : List Task) (xs : List Bool) {j : ℕ} {b : Bool} → At (round_of all marks ts xs) j b → b ≡ true → At xs j true ⊎ Newly ts j
  round_out [] xs h e = absurd (no_at h)
  round_out (t ∷ ts) [] at_first e = inr (t, at_first, e)
  round_out (t ∷ ts) [] (at_later {i = j} h) e = ⊎_elim
      (λ (k : At [] j true). absurd (no_at k))
      (λ (k : Newly ts j). inr (k.0, at_later k.1, k.2))
      (round_out ts [] h e)
  round_out (t ∷ ts) (m ∷ ms) at_first e = ⊎_elim
      (λ (k : m ≡ true). inl (subst (λ (b : Bool). At (m ∷ ms) 0 b) k at_first))
      (λ (k : from_marked all marks t ≡ true). inr (t, at_first, k))
      (or_cases m (from_marked all marks t) e)
  round_out (t ∷ ts) (m ∷ ms) (at_later {i = j} h) e = ⊎_elim
      (λ (k : At ms j true). inl (at_later k))
      (λ (k : Newly ts j). inr (k.0, at_later k.1, k.2))
      (round_out ts ms h e)

  round_in : {j : ℕ} {t : Task} {ts : List Task} (xs : List Bool) → At ts j t → from_marked all marks t ≡ true → At (round_of all marks ts xs) j true
  round_in [] (at_first {x = t} {l = ts}) e = subst (λ (b : Bool). At (from_marked all marks t ∷ round_of all marks ts []) 0 b) e at_first
  round_in [] (at_later h) e = at_later (round_in [] h e)
  round_in (m ∷ ms) (at_first {x = t} {l = ts}) e =
      subst (λ (b : Bool). At ((m || from_marked all marks t) ∷ round_of all marks ts ms) 0 b) (or_r m (from_marked all marks t) e) at_first
  round_in (m ∷ ms) (at_later h) e = at_later (round_in ms h e)

  round_kept : {j : ℕ} {b : Bool} {t : Task} {ts : List Task} {xs : List Bool} → At ts j t → At xs j b → b ≡ true → At (round_of all marks ts xs) j true
  round_kept (at_first {x = t} {l = ts}) (at_first {x = m} {l = ms}) e =
      subst (λ (b : Bool). At ((m || from_marked all marks t) ∷ round_of all marks ts ms) 0 b) (or_l m (from_marked all marks t) e) at_first
  round_kept (at_later h) (at_later k) e = at_later (round_kept h k e)

  round_length : (ts : List Task) (xs : List Bool) → length (round_of all marks ts xs) ≡ length ts
  round_length [] xs = refl
  round_length (t ∷ ts) [] = ap suc (round_length ts [])
  round_length (t ∷ ts) (m ∷ ms) = ap suc (round_length ts ms)

-- how many are marked
abbrev count : List Bool → ℕ
count [] = 0
count (true ∷ ms) = suc (count ms)
count (false ∷ ms) = count ms

few : (ms : List Bool) → count ms ≤ length ms
few [] = omega arith
few (true ∷ ms) = let h = few ms in omega arith
few (false ∷ ms) = let h = few ms in omega arith

-- nothing new, or more are marked
abbrev Grown : List Bool → List Bool → Type 0
Grown xs ys = (ys ≡ xs) ⊎ (count xs < count ys)

grown : (xs ys : List Bool) (m f : Bool) → Grown xs ys → Grown (m ∷ xs) ((m || f) ∷ ys)
grown xs ys true f (inl e) = inl (cc)
grown xs ys true f (inr h) = inr (omega arith)
grown xs ys false true (inl e) = inr (let h = ap count e in omega arith)
grown xs ys false true (inr h) = inr (omega arith)
grown xs ys false false (inl e) = inl (cc)
grown xs ys false false (inr h) = inr h

grows : (all : List Task) (marks : List Bool) (ts : List Task) (xs : List Bool) → length xs ≡ length ts → Grown xs (round_of all marks ts xs)
grows all marks [] [] e = inl refl
grows all marks [] (m ∷ ms) e = absurd (omega arith)
grows all marks (t ∷ ts) [] e = absurd (omega arith)
grows all marks (t ∷ ts) (m ∷ ms) e = grown ms (round_of all marks ts ms) m (from_marked all marks t) (grows all marks ts ms (let h : length ms ≡ length ts = omega arith in h))

fixed : (ts : List Task) (n : ℕ) (ms : List Bool) → round ts ms ≡ ms → rounds ts n ms ≡ ms
fixed ts zero ms e = refl
fixed ts (suc n) ms e = ap (rounds ts n) e ∙ fixed ts n ms e

-- in as many rounds as there are tasks not marked, no more are found
settled : (ts : List Task) (n : ℕ) (ms : List Bool) → length ms ≡ length ts → length ms ≤ n + count ms → round ts (rounds ts n ms) ≡ rounds ts n ms
settled ts zero ms l b = ⊎_elim
    (λ (e : round ts ms ≡ ms). e)
    (λ (h : count ms < count (round ts ms)). absurd (let k = few (round ts ms) in let q = round_length ts ms ts ms in omega arith))
    (grows ts ms ts ms l)
settled ts (suc n) ms l b = ⊎_elim
    (λ (e : round ts ms ≡ ms). subst (λ (x : List Bool). round ts (rounds ts n x) ≡ rounds ts n x) (sym e) (let f = fixed ts n ms e in ap (round ts) f ∙ e ∙ sym f))
    (λ (h : count ms < count (round ts ms)). let q = round_length ts ms ts ms in settled ts n (round ts ms) q (let z : length (round ts ms) ≤ n + count (round ts ms) = omega arith in z))
    (grows ts ms ts ms l)

unmarked_length : (ts : List Task) → length (unmarked ts) ≡ length ts
unmarked_length [] = refl
unmarked_length (t ∷ ts) = ap suc (unmarked_length ts)

root_length : (ts : List Task) → length (root_marked ts) ≡ length ts
root_length [] = refl
root_length (t ∷ ts) = ap suc (unmarked_length ts)

none_marked : {j : ℕ} {b : Bool} (ts : List Task) → At (unmarked ts) j b → b ≡ false
none_marked [] h = absurd (no_at h)
none_marked (t ∷ ts) at_first = refl
none_marked (t ∷ ts) (at_later h) = none_marked ts h

root_only : {j : ℕ} {b : Bool} (ts : List Task) → At (root_marked ts) j b → b ≡ true → j ≡ 0
root_only [] h e = absurd (no_at h)
root_only (t ∷ ts) at_first e = refl
root_only (t ∷ ts) (at_later h) e = contra (sym (none_marked ts h) ∙ e)

root_is : {t : Task} {ts : List Task} → At ts 0 t → At (root_marked ts) 0 true
root_is at_first = at_first

marked_in : {i : ℕ} {b : Bool} {p : Task} {ps : List Task} {ms : List Bool} (t : Task) → At ps i p → At ms i b → b ≡ true → has_component p t ≡ true → from_marked ps ms t ≡ true
marked_in t (at_first {x = p} {l = ps}) (at_first {x = m} {l = ms}) e h = or_l (m && has_component p t) (from_marked ps ms t) (both m (has_component p t) e h)
marked_in t (at_later {y = p} {l = ps} k) (at_later {y = m} {l = ms} q) e h = or_r (m && has_component p t) (from_marked ps ms t) (marked_in t k q e h)

module _ (g : List TopLevel) where
  abbrev AllReached : List Bool → Type 0
  AllReached ms = (j : ℕ) → At ms j true → Reached g j

  round_reached : (ms : List Bool) → AllReached ms → AllReached (round (tasks g) ms)
  round_reached ms f j h = ⊎_elim (λ (k : At ms j true). f j k) (λ (k : Newly (tasks g) ms (tasks g) j). new k) (round_out (tasks g) ms (tasks g) ms h refl)
    where
      new : Newly (tasks g) ms (tasks g) j → Reached g j
      new k =
          let q = marked_plan (tasks g) ms k.0 k.2 in
          let s = true_reflects (some_reflects (λ c. names_reflects c k.0) (components_of q.1)) q.4 in
          by_component (f q.0 q.2) q.3 s.at k.1 s.is

  rounds_reached : (n : ℕ) (ms : List Bool) → AllReached ms → AllReached (rounds (tasks g) n ms)
  rounds_reached zero ms f = f
  rounds_reached (suc n) ms f = rounds_reached n (round (tasks g) ms) (round_reached ms f)

  rounds_kept : {j : ℕ} {t : Task} (n : ℕ) (ms : List Bool) → At (tasks g) j t → At ms j true → At (rounds (tasks g) n ms) j true
  rounds_kept zero ms h k = k
  rounds_kept (suc n) ms h k = rounds_kept n (round (tasks g) ms) h (round_kept (tasks g) ms h k refl)

  pub marked_reached : (j : ℕ) → At (reached (tasks g)) j true → Reached g j
  marked_reached = rounds_reached (length (tasks g)) (root_marked (tasks g)) (λ j h. subst (Reached g) (sym (root_only (tasks g) h refl)) the_root)

  last_round : round (tasks g) (reached (tasks g)) ≡ reached (tasks g)
  last_round = settled (tasks g) (length (tasks g)) (root_marked (tasks g)) (root_length (tasks g)) (let e = root_length (tasks g) in omega arith)

  pub reached_marked : {j : ℕ} {t : Task} → Reached g j → At (tasks g) j t → At (reached (tasks g)) j true
  reached_marked the_root h = rounds_kept (length (tasks g)) (root_marked (tasks g)) h (root_is h)
  reached_marked {j} (by_component {p} {t = u} r k c h n) h' =
      let m = reached_marked r k in
      let s = reflects_true (some_reflects (λ d. names_reflects d u) (components_of p)) (record { i = _; x = _; at = c; is = n }) in
      subst (λ (ms : List Bool). At ms j true) last_round (round_in (tasks g) (reached (tasks g)) (reached (tasks g)) h (marked_in u k m refl s))

-- ---- the rules, each with the places at which it is broken

pub data NameRule : Type 0 where
  tasks_twice data_items_twice : NameRule
  task_attributes component_attributes source_attributes data_attributes : NameRule
  components_of_no_task components_of_root components_twice tasks_of_no_component tasks_not_reached : NameRule
  constraints targets sources_of_no_item : NameRule

abbrev pub name_rules : List NameRule
name_rules =
    tasks_twice ∷ data_items_twice
    ∷ task_attributes ∷ component_attributes ∷ source_attributes ∷ data_attributes
    ∷ components_of_no_task ∷ components_of_root ∷ components_twice ∷ tasks_of_no_component ∷ tasks_not_reached
    ∷ constraints ∷ targets ∷ sources_of_no_item
    ∷ []

abbrev task_place : Task → ℕ
task_place t = t.named.place

abbrev item_place : DataItem → ℕ
item_place d = d.named.place

abbrev component_place : Component → ℕ
component_place c = c.named.place

-- the component names the first of these tasks
abbrev pub names_first : List Task → Component → Bool
names_first [] c = false
names_first (t ∷ ts) c = names? c t

abbrev pub but_first : List Task → List Task
but_first [] = []
but_first (t ∷ ts) = ts

-- a schedule constraint of the component c that names c itself or none of these
abbrev pub wrong_constraint : List Component → Component → Name → Bool
wrong_constraint cs c n = spelt_same n c.named || none_of (λ (d : Component). spelt_same n d.named) cs

abbrev pub constraint_place : List Component → Component → ComponentAttribute → List ℕ
constraint_place cs c (schedule_constraint n) = put (wrong_constraint cs c n) n.place []
constraint_place cs c (terminal b) = []

abbrev pub constraints_of_component : List Component → Component → List ℕ
constraints_of_component cs c = of_each (λ (a : Placed ComponentAttribute). constraint_place cs c a.what) c.attributes

abbrev pub constraints_of_plan : Task → List ℕ
constraints_of_plan p = of_each (constraints_of_component (components_of p)) (components_of p)

abbrev pub no_item_alike : List DataItem → Assignment → Bool
no_item_alike ds a = none_of (λ (d : DataItem). spelt_alike a.target d.named) ds

abbrev pub no_item_named : List DataItem → Source → Bool
no_item_named ds s = none_of (λ (d : DataItem). spelt_same s.named d.named) ds

abbrev pub broken_at : List TopLevel → NameRule → List ℕ
broken_at g tasks_twice = laters (λ (s t : Task). spelt_alike s.named t.named) task_place (tasks g)
broken_at g data_items_twice = laters (λ (s t : DataItem). spelt_alike s.named t.named) item_place (data_items g)
broken_at g task_attributes = of_each (λ (t : Task). repeated word_of t.attributes) (tasks g)
broken_at g component_attributes = of_each (λ (c : Component). repeated component_word c.attributes) (components g)
broken_at g source_attributes = of_each (λ (s : Source). repeated source_word s.attributes) (sources g)
broken_at g data_attributes = of_each (λ (d : DataItem). repeated generic_word d.attributes) (data_items g)
broken_at g components_of_no_task = chosen (λ (c : Component). none_of (λ (t : Task). names? c t) (tasks g)) component_place (components g)
broken_at g components_of_root = chosen (names_first (tasks g)) component_place (components g)
broken_at g components_twice = laters (λ (c d : Component). spelt_same c.named d.named) component_place (components g)
broken_at g tasks_of_no_component = chosen (λ (t : Task). none_of (λ (c : Component). names? c t) (components g)) task_place (but_first (tasks g))
broken_at g tasks_not_reached = unreached (tasks g) (reached (tasks g))
broken_at g constraints = of_each constraints_of_plan (tasks g)
broken_at g targets = chosen (no_item_alike (data_items g)) (λ (a : Assignment). a.target.place) (assignments g)
broken_at g sources_of_no_item = chosen (no_item_named (data_items g)) (λ (s : Source). s.named.place) (sources g)

abbrev pub name_places : List TopLevel → List ℕ
name_places g = of_each (broken_at g) name_rules

-- ---- what is broken is a breach, and each breach breaks its rule

root_named : {root : Task} {ts : List Task} (c : Component) → At ts 0 root → Names c root → names_first ts c ≡ true
root_named c (at_first {x = t}) e = reflects_true (names_reflects c t) e

root_there : (ts : List Task) (c : Component) → names_first ts c ≡ true → (root : Task) × At ts 0 root × Names c root
root_there [] c e = contra e
root_there (t ∷ ts) c e = (t, at_first, true_reflects (names_reflects c t) e)

in_rest : {j : ℕ} {t : Task} {ts : List Task} → 0 < j → At ts j t → (i : ℕ) × At (but_first ts) i t
in_rest h at_first = absurd (omega arith)
in_rest h (at_later {i} k) = (i, k)

of_rest : {i : ℕ} {t : Task} (ts : List Task) → At (but_first ts) i t → At ts (suc i) t
of_rest [] h = absurd (no_at h)
of_rest (t ∷ ts) h = at_later h

unreached_in : {j : ℕ} {t : Task} {ts : List Task} (ms : List Bool) → At ts j t → ¬ At ms j true → Memᴰ t.named.place (unreached ts ms)
unreached_in [] at_first n = mathlib.Core.List.Memᴰ.head refl
unreached_in [] (at_later h) n = mathlib.Core.List.Memᴰ.tail (unreached_in [] h (λ k. no_at k))
unreached_in (m ∷ ms) (at_first {x = t} {l = ts}) n = put_here (not m) t.named.place (unreached ts ms) (by m (λ e. n (subst (λ (b : Bool). At (m ∷ ms) 0 b) e at_first)))
  where
    by : (b : Bool) → ¬ (b ≡ true) → not b ≡ true
    by true h = absurd (h refl)
    by false h = refl
unreached_in (m ∷ ms) (at_later {y = u} h) n = put_on (not m) u.named.place (unreached_in ms h (λ k. n (at_later k)))

record Unreached (ts : List Task) (ms : List Bool) (p : ℕ) : Type 0 where
  pub j : ℕ
  pub t : Task
  pub at : At ts j t
  pub unmarked : ¬ At ms j true
  pub there : p ≡ t.named.place

unreached_out : {p : ℕ} (ts : List Task) (ms : List Bool) → Memᴰ p (unreached ts ms) → Unreached ts ms p
unreached_out [] ms m = absurd (mathlib.Core.List.Memᴰ.not-nil m)
unreached_out {p} (t ∷ ts) [] m = ⊎_elim
    (λ (e : p ≡ t.named.place). record { j = 0; t = t; at = at_first; unmarked = λ k. no_at k; there = e })
    (λ (n : Memᴰ p (unreached ts [])). let u = unreached_out ts [] n in record { j = suc u.j; t = u.t; at = at_later u.at; unmarked = λ k. no_at k; there = u.there })
    (mathlib.Core.List.Memᴰ.cases_cons m)
unreached_out {p} (t ∷ ts) (b ∷ bs) m = ⊎_elim
    (λ (h : (not b ≡ true) × (p ≡ t.named.place)). record { j = 0; t = t; at = at_first; unmarked = first_is h.0; there = h.1 })
    (λ (n : Memᴰ p (unreached ts bs)). let u = unreached_out ts bs n in record { j = suc u.j; t = u.t; at = at_later u.at; unmarked = λ k. u.unmarked (rest_of k); there = u.there })
    (put_out (not b) m)
  where
    first-at : {c : Bool} {i : ℕ} {d : Bool} → At (c ∷ bs) i d → i ≡ 0 → c ≡ d
    first-at at_first e = refl
    first-at (at_later h) e = absurd (omega arith)

    first_is : not b ≡ true → ¬ At (b ∷ bs) 0 true
    first_is e k = contra (ap not (sym (first-at k refl)) ∙ e)

    rest_of : {i : ℕ} → At (b ∷ bs) (suc i) true → At bs i true
    rest_of (at_later k) = k

module _ (g : List TopLevel) where
  constraint_broken : {p : ℕ} {i j k : ℕ} {plan : Task} {c : Component} (w : ℕ) (a : ComponentAttribute) → At (tasks g) i plan → At (components_of plan) j c
      → At c.attributes k (record { word = w; what = a }) → Memᴰ p (constraint_place (components_of plan) c a) → NameBreach g p
  constraint_broken {plan} {c} w (schedule_constraint n) h m q b =
      let r = put_only (wrong_constraint (components_of plan) c n) b in
      subst (NameBreach g) (sym r.1) (⊎_elim
      (λ (e : spelt_same n c.named ≡ true). constraint_on_itself h m q (true_reflects (same_spelt n c.named) e))
      (λ (e : none_of (λ (d : Component). spelt_same n d.named) (components_of plan) ≡ true).
      constraint_on_none h m q (none_out (λ d. same_spelt n d.named) (components_of plan) e))
      (or_cases (spelt_same n c.named) (none_of (λ (d : Component). spelt_same n d.named) (components_of plan)) r.0))
  constraint_broken w (terminal x) h m q b = absurd (mathlib.Core.List.Memᴰ.not-nil b)

  constraint_in : {i j k : ℕ} {plan : Task} {c : Component} {n : Name} {w : ℕ} → At (tasks g) i plan → At (components_of plan) j c
      → At c.attributes k (record { word = w; what = schedule_constraint n }) → wrong_constraint (components_of plan) c n ≡ true → Memᴰ n.place (broken_at g constraints)
  constraint_in {plan} {c} {n} h m q e =
      each_in constraints_of_plan h
      (each_in (constraints_of_component (components_of plan)) m
      (each_in (λ (a : Placed ComponentAttribute). constraint_place (components_of plan) c a.what) q (put_here (wrong_constraint (components_of plan) c n) n.place [] e)))

  pub broken_breach : {p : ℕ} (r : NameRule) → Memᴰ p (broken_at g r) → NameBreach g p
  broken_breach tasks_twice m =
      let c = laters_out (tasks g) m in
      subst (NameBreach g) (sym c.there) (task_twice c.in_order c.at_i c.at_j (true_reflects (alike_spelt c.x.named c.y.named) c.match))
  broken_breach data_items_twice m =
      let c = laters_out (data_items g) m in
      subst (NameBreach g) (sym c.there) (data_item_twice c.in_order c.at_i c.at_j (true_reflects (alike_spelt c.x.named c.y.named) c.match))
  broken_breach task_attributes m = let c = each_out (tasks g) m in task_attribute_twice c.at (repeated_out word_of c.x.attributes c.given)
  broken_breach component_attributes m = let c = each_out (components g) m in component_attribute_twice c.at (repeated_out component_word c.x.attributes c.given)
  broken_breach source_attributes m = let c = each_out (sources g) m in source_attribute_twice c.at (repeated_out source_word c.x.attributes c.given)
  broken_breach data_attributes m = let c = each_out (data_items g) m in data_attribute_twice c.at (repeated_out generic_word c.x.attributes c.given)
  broken_breach components_of_no_task m =
      let c = chosen_out (components g) m in
      subst (NameBreach g) (sym c.there) (component_of_no_task c.at (none_out (λ t. names_reflects c.x t) (tasks g) c.passes))
  broken_breach components_of_root m =
      let c = chosen_out (components g) m in
      let r = root_there (tasks g) c.x c.passes in
      subst (NameBreach g) (sym c.there) (component_is_root c.at r.1 r.2)
  broken_breach components_twice m =
      let c = laters_out (components g) m in
      subst (NameBreach g) (sym c.there) (component_twice c.in_order c.at_i c.at_j (true_reflects (same_spelt c.x.named c.y.named) c.match))
  broken_breach tasks_of_no_component m =
      let c = chosen_out (but_first (tasks g)) m in
      subst (NameBreach g) (sym c.there) (no_component {j = suc c.i} (omega arith) (of_rest (tasks g) c.at) (none_out (λ d. names_reflects d c.x) (components g) c.passes))
  broken_breach tasks_not_reached m =
      let u = unreached_out (tasks g) (reached (tasks g)) m in
      subst (NameBreach g) (sym u.there) (not_reached u.at (λ r. u.unmarked (reached_marked g r u.at)))
  broken_breach constraints m =
      let a = each_out (tasks g) m in
      let b = each_out (components_of a.x) a.given in
      let c = each_out b.x.attributes b.given in
      constraint_broken c.x.word c.x.what a.at b.at c.at c.given
  broken_breach targets m =
      let c = chosen_out (assignments g) m in
      subst (NameBreach g) (sym c.there) (target_no_item c.at (none_out (λ d. alike_spelt c.x.target d.named) (data_items g) c.passes))
  broken_breach sources_of_no_item m =
      let c = chosen_out (sources g) m in
      subst (NameBreach g) (sym c.there) (source_no_item c.at (none_out (λ d. same_spelt c.x.named d.named) (data_items g) c.passes))

  pub breach_broken : {p : ℕ} → NameBreach g p → (r : NameRule) × Memᴰ p (broken_at g r)
  breach_broken (task_twice {s} {t} l h k e) =
      (tasks_twice, laters_in (λ (s t : Task). spelt_alike s.named t.named) task_place l h k (reflects_true (alike_spelt s.named t.named) e))
  breach_broken (data_item_twice {s} {t} l h k e) =
      (data_items_twice, laters_in (λ (s t : DataItem). spelt_alike s.named t.named) item_place l h k (reflects_true (alike_spelt s.named t.named) e))
  breach_broken (task_attribute_twice h r) = (task_attributes, each_in (λ (t : Task). repeated word_of t.attributes) h (repeated_in word_of r))
  breach_broken (component_attribute_twice h r) = (component_attributes, each_in (λ (c : Component). repeated component_word c.attributes) h (repeated_in component_word r))
  breach_broken (source_attribute_twice h r) = (source_attributes, each_in (λ (s : Source). repeated source_word s.attributes) h (repeated_in source_word r))
  breach_broken (data_attribute_twice h r) = (data_attributes, each_in (λ (d : DataItem). repeated generic_word d.attributes) h (repeated_in generic_word r))
  breach_broken (component_of_no_task {c} h n) =
      (components_of_no_task, chosen_in (λ (c : Component). none_of (λ (t : Task). names? c t) (tasks g)) component_place h (none_in (λ t. names_reflects c t) (tasks g) n))
  breach_broken (component_is_root {c} h r e) = (components_of_root, chosen_in (names_first (tasks g)) component_place h (root_named c r e))
  breach_broken (component_twice {c} {d} l h k e) =
      (components_twice, laters_in (λ (c d : Component). spelt_same c.named d.named) component_place l h k (reflects_true (same_spelt c.named d.named) e))
  breach_broken (no_component {t} l h n) =
      let r = in_rest l h in
      (tasks_of_no_component, chosen_in (λ (t : Task). none_of (λ (c : Component). names? c t) (components g)) task_place r.1 (none_in (λ c. names_reflects c t) (components g) n))
  breach_broken (not_reached {j} h n) = (tasks_not_reached, unreached_in (reached (tasks g)) h (λ m. n (marked_reached g j m)))
  breach_broken (constraint_on_itself {p = plan} {c} {n} h m q e) =
      (constraints, constraint_in h m q (or_l (spelt_same n c.named) (none_of (λ (d : Component). spelt_same n d.named) (components_of plan)) (reflects_true (same_spelt n c.named) e)))
  breach_broken (constraint_on_none {p = plan} {c} {n} h m q f) =
      (constraints, constraint_in h m q (or_r (spelt_same n c.named) (none_of (λ (d : Component). spelt_same n d.named) (components_of plan)) (none_in (λ d. same_spelt n d.named) (components_of plan) f)))
  breach_broken (target_no_item {a} h n) =
      (targets, chosen_in (no_item_alike (data_items g)) (λ (a : Assignment). a.target.place) h (none_in (λ d. alike_spelt a.target d.named) (data_items g) n))
  breach_broken (source_no_item {s} h n) =
      (sources_of_no_item, chosen_in (no_item_named (data_items g)) (λ (s : Source). s.named.place) h (none_in (λ d. same_spelt s.named d.named) (data_items g) n))

  -- ---- all rules together

  abbrev turn : NameRule → ℕ
  turn tasks_twice = 0
  turn data_items_twice = 1
  turn task_attributes = 2
  turn component_attributes = 3
  turn source_attributes = 4
  turn data_attributes = 5
  turn components_of_no_task = 6
  turn components_of_root = 7
  turn components_twice = 8
  turn tasks_of_no_component = 9
  turn tasks_not_reached = 10
  turn constraints = 11
  turn targets = 12
  turn sources_of_no_item = 13

  among : (r : NameRule) → At name_rules (turn r) r
  among tasks_twice = at_first
  among data_items_twice = at_later at_first
  among task_attributes = at_later (at_later at_first)
  among component_attributes = at_later (at_later (at_later at_first))
  among source_attributes = at_later (at_later (at_later (at_later at_first)))
  among data_attributes = at_later (at_later (at_later (at_later (at_later at_first))))
  among components_of_no_task = at_later (at_later (at_later (at_later (at_later (at_later at_first)))))
  among components_of_root = at_later (at_later (at_later (at_later (at_later (at_later (at_later at_first))))))
  among components_twice = at_later (at_later (at_later (at_later (at_later (at_later (at_later (at_later at_first)))))))
  among tasks_of_no_component = at_later (at_later (at_later (at_later (at_later (at_later (at_later (at_later (at_later at_first))))))))
  among tasks_not_reached = at_later (at_later (at_later (at_later (at_later (at_later (at_later (at_later (at_later (at_later at_first)))))))))
  among constraints = at_later (at_later (at_later (at_later (at_later (at_later (at_later (at_later (at_later (at_later (at_later at_first))))))))))
  among targets = at_later (at_later (at_later (at_later (at_later (at_later (at_later (at_later (at_later (at_later (at_later (at_later at_first)))))))))))
  among sources_of_no_item = at_later (at_later (at_later (at_later (at_later (at_later (at_later (at_later (at_later (at_later (at_later (at_later (at_later at_first))))))))))))

  -- a place is among those computed exactly if a rule on names is broken there
  pub name_breach_if : {p : ℕ} → Memᴰ p (name_places g) → NameBreach g p
  name_breach_if m = let r = each_out {f = broken_at g} name_rules m in broken_breach r.x r.given

  pub name_breach_in : {p : ℕ} → NameBreach g p → Memᴰ p (name_places g)
  name_breach_in b = let r = breach_broken b in each_in (broken_at g) (among r.0) r.1

  -- the smallest such place, or none
  pub least_name_breach : Least (NameBreach g) (least_f (name_places g))
  least_name_breach = least_iff (λ p m. name_breach_if m) (λ p b. name_breach_in b) (least-of (name_places g))
