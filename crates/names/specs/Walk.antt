-- The walk from the root: marks 0 not reached so far, 1 reached, 2 reached and its components followed. Every mark is a reached task; when none is 1, every reached task is marked.
use Rattle.std.specs.Prelude.{ℕ, zero, suc, ◌+◌, ◌-◌, ◌≤◌, ◌<◌, ◌≡◌, refl, Bool, true, false, List, [], ◌∷◌, length, get_or, set}
use Rattle.std.proofs.Common.{sym, ap, subst, ◌∙◌, arith, length-set, get_or-set_same, get_or-set_other}
use Rattle.std.proofs.Math.Decide.{dec_lt}
use Rattle.paper_expressions.proofs.Laws.Tests.{contra}
use Rattle.paper_expressions.proofs.Laws.Search.{Reflects, reflects_iff, true_reflects, false_reflects}
use Rattle.row_names.specs.Sheet
use Sheet.{Sheet, task_kind, head_kind, Task, Same, Holds, Reached, the_root, by_component}
use Rattle.row_tests.specs.Table.{cell_of, kind_of, sheet, component_named}
use Rattle.row_tests.specs.Searched.{One, Some, Finish}
use Rattle.name_tests.specs.Lists.{Lists, entry, index, tally}
use Rattle.name_tests.specs.Flaws.{found_kind, found_same, passes}

-- ---- one plan's component names a task

pub record Leads (s : Sheet) (t j : ℕ) : Type 0 where
  pub c : ℕ
  pub holds : Holds s t c
  pub same : Same s c j

-- r tells whether the plan at the row t leads to the k-th task
abbrev pub Follows : List ℕ → ℕ → List ℕ → List ℕ → ℕ → ℕ → Bool → Type 0
Follows x n b tasks t k r = t < n → Reflects (Leads (sheet x n b) t (get_or tasks k 0)) r

module _ (x : List ℕ) (n : ℕ) (b : List ℕ) where
  pub follows : (t j : ℕ) {h z : ℕ} {r : Bool} → h ≡ cell_of x j 2 → Finish x n t z → Some (component_named x b h) (t + 1) z r → t < n → Reflects (Leads (sheet x n b) t j) r
  follows t j {h} {z} e fi s u = reflects_iff to from s
    where
      to : One (component_named x b h) (t + 1) z → Leads (sheet x n b) t j
      to o =
          let y = fi.within in
          let w = o.high in
          let v = o.low in
          record { c = o.i; holds = (omega arith, (omega arith, found_kind x n b j e o), λ m p q. fi.clear m p (omega arith)); same = found_same x n b j e o }

      from : Leads (sheet x n b) t j → One (component_named x b h) (t + 1) z
      from l = record { i = l.c; low = let w = l.holds.0 in omega arith; high = high (dec_lt l.c z); passes = passes x n b j e l.c l.holds.1.1 l.same }
        where
          high : Dec (l.c < z) → l.c < z
          high (yes w) = w
          high (no w) = absurd (go (dec_lt z l.c))
            where
              below : l.c < n
              below = l.holds.1.0

              go : Dec (z < l.c) → ⊥
              go (yes k) = let y = below in contra (sym (l.holds.2 z (fi.behind u) k) ∙ fi.head (omega arith) u)
              go (no k) =
                  let y = below in
                  let q : z ≡ l.c = omega arith in
                  contra (sym (ap head_kind l.holds.1.1) ∙ subst (λ (i : ℕ). head_kind (kind_of x i) ≡ true) q (fi.head (omega arith) u))

-- ---- marks

-- the k-th mark is as it was, or new
pub data OrNew (s : Sheet) (tasks : List ℕ) (t k before after : ℕ) : Type 0 where
  as_it_was : after ≡ before → OrNew s tasks t k before after
  marked : before ≡ 0 → after ≡ 1 → Leads s t (get_or tasks k 0) → OrNew s tasks t k before after

-- after: those before m to which the plan at t leads are marked
pub record Spread (s : Sheet) (tasks : List ℕ) (m t : ℕ) (before after : List ℕ) : Type 0 where
  pub long : length after ≡ length before
  pub each : (k : ℕ) → OrNew s tasks t k (get_or before k 0) (get_or after k 0)
  pub beyond : (k : ℕ) → m ≤ k → get_or after k 0 ≡ get_or before k 0
  pub all : (k : ℕ) → k < m → k < length before → Leads s t (get_or tasks k 0) → 1 ≤ get_or after k 0

-- no mark is lost
pub record Up (before after : List ℕ) : Type 0 where
  pub over : (i : ℕ) → get_or before i 0 ≤ get_or after i 0

abbrev pub Spreads : List ℕ → ℕ → List ℕ → List ℕ → ℕ → ℕ → List ℕ → List ℕ → Type 0
Spreads x n b tasks m t before after = (length after ≡ length before) × Up before after × (t < n → Spread (sheet x n b) tasks m t before after)

-- the k-th alone
abbrev pub Marks : List ℕ → ℕ → List ℕ → List ℕ → ℕ → ℕ → List ℕ → List ℕ → Type 0
Marks x n b tasks t k before after =
    (length after ≡ length before) × Up before after
    × (t < n → (OrNew (sheet x n b) tasks t k (get_or before k 0) (get_or after k 0)) × ((i : ℕ) → ¬ (i ≡ k) → get_or after i 0 ≡ get_or before i 0)
    × (k < length before → Leads (sheet x n b) t (get_or tasks k 0) → 1 ≤ get_or after k 0))

pub up : {s : Sheet} {tasks : List ℕ} {t k a b : ℕ} → OrNew s tasks t k a b → a ≤ b
up (as_it_was e) = omega arith
up (marked e f l) = omega arith

module _ (x : List ℕ) (n : ℕ) (b tasks : List ℕ) (t k : ℕ) (l : List ℕ) where
  pub mark_not : (k < length l → ¬ (get_or l k 0 ≡ 0)) → Marks x n b tasks t k l l
  mark_not f = (refl, record { over = λ i. omega arith }, λ u. (as_it_was refl, λ i e. refl, λ v w. some_mark (get_or l k 0) (f v)))
    where
      some_mark : (v : ℕ) → ¬ (v ≡ 0) → 1 ≤ v
      some_mark zero h = absurd (h refl)
      some_mark (suc v) h = omega arith

  pub mark_no : {r : Bool} → Follows x n b tasks t k r → r ≡ false → Marks x n b tasks t k l l
  mark_no f e = (refl, record { over = λ i. omega arith }, λ u. (as_it_was refl, λ i e. refl, λ v w. absurd (false_reflects (f u) e w)))

  pub mark_yes : {r : Bool} → k < length l → get_or l k 0 ≡ 0 → Follows x n b tasks t k r → r ≡ true → Marks x n b tasks t k l (set l k 1)
  mark_yes v z f e = (
    length-set l k 1,
    record { over = λ i. over i (dec_lt i k) (dec_lt k i) },
    λ u. (marked z (get_or-set_same l k 1 0 v) (true_reflects (f u) e), λ i q. get_or-set_other l k i 1 0 q, λ w y. let d = get_or-set_same l k 1 0 v in omega arith),
  )
    where
      over : (i : ℕ) → Dec (i < k) → Dec (k < i) → get_or l i 0 ≤ get_or (set l k 1) i 0
      over i (yes a) b = let y = get_or-set_other l k i 1 0 (λ q. omega arith) in omega arith
      over i (no a) (yes b) = let y = get_or-set_other l k i 1 0 (λ q. omega arith) in omega arith
      over i (no a) (no b) = let q : k ≡ i = omega arith in subst (λ (j : ℕ). get_or l j 0 ≤ get_or (set l k 1) j 0) q (let y = z in omega arith)

pub spread_none : (s : Sheet) (tasks : List ℕ) (t : ℕ) (l : List ℕ) → Spread s tasks 0 t l l
spread_none s tasks t l = record { long = refl; each = λ k. as_it_was refl; beyond = λ k h. refl; all = λ k h. absurd (omega arith) }

pub spread_more : {s : Sheet} {tasks : List ℕ} {m t : ℕ} {before middle after : List ℕ} → Spread s tasks m t before middle → length after ≡ length middle
    → OrNew s tasks t m (get_or middle m 0) (get_or after m 0) → ((i : ℕ) → ¬ (i ≡ m) → get_or after i 0 ≡ get_or middle i 0)
    → (m < length middle → Leads s t (get_or tasks m 0) → 1 ≤ get_or after m 0) → Spread s tasks (m + 1) t before after
spread_more {s} {tasks} {m} {t} {before} {middle} {after} p n o f g = record {
  long = n ∙ p.long;
  each = λ k. each k (dec_lt k m) (dec_lt m k);
  beyond = λ k h. f k (λ e. omega arith) ∙ p.beyond k (omega arith);
  all = λ k h u l. all k h u l (dec_lt k m);
}
  where
    each : (k : ℕ) → Dec (k < m) → Dec (m < k) → OrNew s tasks t k (get_or before k 0) (get_or after k 0)
    each k (yes h) d = subst (λ (z : ℕ). OrNew s tasks t k (get_or before k 0) z) (sym (f k (λ e. omega arith))) (p.each k)
    each k (no h) (yes d) = as_it_was (f k (λ e. omega arith) ∙ p.beyond k (omega arith))
    each k (no h) (no d) =
        let e : m ≡ k = omega arith in
        subst (λ (z : ℕ). OrNew s tasks t z (get_or before z 0) (get_or after z 0)) e (subst (λ (z : ℕ). OrNew s tasks t m z (get_or after m 0)) (p.beyond m (omega arith)) o)

    all : (k : ℕ) → k < m + 1 → k < length before → Leads s t (get_or tasks k 0) → Dec (k < m) → 1 ≤ get_or after k 0
    all k h u l (yes d) = let z = p.all k d u l in let e = f k (λ q. omega arith) in omega arith
    all k h u l (no d) =
        let e : k ≡ m = omega arith in
        let n = p.long in
        subst (λ (z : ℕ). 1 ≤ get_or after z 0) (sym e) (g (omega arith) (subst (λ (z : ℕ). Leads s t (get_or tasks z 0)) e l))

-- r is the first that waits, or their number
pub record Waits (marks : List ℕ) (r : ℕ) : Type 0 where
  pub within : r ≤ length marks
  pub found : r < length marks → get_or marks r 0 ≡ 1
  pub none : length marks ≤ r → (k : ℕ) → k < length marks → ¬ (get_or marks k 0 ≡ 1)

-- ---- the measure: what the marks lack

abbrev pub lack : List ℕ → ℕ
lack [] = 0
lack (a ∷ l) = (2 - a) + lack l

pub lack_up : (l k : List ℕ) → length k ≡ length l → ((i : ℕ) → get_or l i 0 ≤ get_or k i 0) → lack k ≤ lack l
lack_up [] [] e h = omega arith
lack_up [] (b ∷ k) e h = absurd (omega arith)
lack_up (a ∷ l) [] e h = absurd (omega arith)
lack_up (a ∷ l) (b ∷ k) e h = let z = h 0 in let y = lack_up l k (omega arith) (λ i. h (suc i)) in omega arith

pub lack_set : (l : List ℕ) (i : ℕ) → i < length l → get_or l i 0 ≡ 1 → lack (set l i 2) < lack l
lack_set [] i h e = absurd (omega arith)
lack_set (a ∷ l) zero h e = omega arith
lack_set (a ∷ l) (suc i) h e = let z = lack_set l i (omega arith) e in omega arith

-- ---- the walk

pub record Walked (s : Sheet) (tasks : List ℕ) (m : ℕ) (marks : List ℕ) : Type 0 where
  pub sound : (k : ℕ) → k < m → 1 ≤ get_or marks k 0 → Reached s (get_or tasks k 0)
  pub closed : (k j : ℕ) → k < m → j < m → 2 ≤ get_or marks k 0 → Leads s (get_or tasks k 0) (get_or tasks j 0) → 1 ≤ get_or marks j 0
  pub root : 1 ≤ get_or marks 0 0
  pub beyond : (k : ℕ) → m ≤ k → get_or marks k 0 ≡ 0

-- what the code may rely on
pub record Begun (x : List ℕ) (n : ℕ) (b tasks : List ℕ) (m : ℕ) (marks : List ℕ) : Type 0 where
  pub lists : Lists task_kind x n tasks m
  pub first : Task (sheet x n b) 0
  pub room : m ≤ length marks
  pub blank : (k : ℕ) → get_or marks k 0 ≡ 0

-- at the end a task is marked exactly if it is reached
pub record Told (s : Sheet) (tasks : List ℕ) (m : ℕ) (marks : List ℕ) : Type 0 where
  pub yes_if : (k : ℕ) → k < m → ¬ (get_or marks k 0 ≡ 0) → Reached s (get_or tasks k 0)
  pub no_if : (k : ℕ) → k < m → get_or marks k 0 ≡ 0 → ¬ Reached s (get_or tasks k 0)

pub record Reaches (x : List ℕ) (n : ℕ) (b tasks : List ℕ) (m : ℕ) (before after : List ℕ) : Type 0 where
  pub long : length after ≡ length before
  pub told : Begun x n b tasks m before → Told (sheet x n b) tasks m after

module _ {x : List ℕ} {n : ℕ} {b tasks : List ℕ} {m : ℕ} {blank : List ℕ} (g : Begun x n b tasks m blank) where
  some_task : 0 < m
  some_task = let z = index g.lists 0 g.first.0 g.first.1 in let y = z.0 in omega arith

  first_row : get_or tasks 0 0 ≡ 0
  first_row = (index g.lists 0 g.first.0 g.first.1).1

  task_at : (k : ℕ) → k < m → Task (sheet x n b) (get_or tasks k 0)
  task_at k h = let e = entry g.lists k h in (subst (λ (i : ℕ). i < n) (sym e.4) e.1, subst (λ (i : ℕ). task_kind (kind_of x i) ≡ true) (sym e.4) e.2)

  -- the root
  pub walk_first : Walked (sheet x n b) tasks m (set blank 0 1)
  walk_first =
      let l = some_task in
      let r = g.room in
      let at = get_or-set_same blank 0 1 0 (omega arith) in
      record {
        sound = λ k h e. start k e (dec_lt 0 k);
        closed = λ k j h i e. absurd (never k e (dec_lt 0 k));
        root = omega arith;
        beyond = λ k h. get_or-set_other blank 0 k 1 0 (λ e. omega arith) ∙ g.blank k;
      }
    where
      start : (k : ℕ) → 1 ≤ get_or (set blank 0 1) k 0 → Dec (0 < k) → Reached (sheet x n b) (get_or tasks k 0)
      start k e (yes l) = absurd (let z = get_or-set_other blank 0 k 1 0 (λ q. omega arith) in let y = g.blank k in omega arith)
      start k e (no l) = let z : 0 ≡ k = omega arith in subst (λ (i : ℕ). Reached (sheet x n b) (get_or tasks i 0)) z (subst (Reached (sheet x n b)) (sym first_row) the_root)

      never : (k : ℕ) → 2 ≤ get_or (set blank 0 1) k 0 → Dec (0 < k) → ⊥
      never k e (yes l) = let z = get_or-set_other blank 0 k 1 0 (λ q. omega arith) in let y = g.blank k in omega arith
      never k e (no l) =
          let z : k ≡ 0 = omega arith in
          let q = some_task in
          let r = g.room in
          let y = ap (λ (i : ℕ). get_or (set blank 0 1) i 0) z ∙ get_or-set_same blank 0 1 0 (omega arith) in
          omega arith

  -- one task is followed
  module _ {marks next : List ℕ} {i : ℕ} (w : Walked (sheet x n b) tasks m marks) (room : m ≤ length marks) (u : i < length marks) (e : get_or marks i 0 ≡ 1)
      (p : Spread (sheet x n b) tasks m (get_or tasks i 0) (set marks i 2) next) where
    inside : i < m
    inside = go (dec_lt i m)
      where
        go : Dec (i < m) → i < m
        go (yes h) = h
        go (no h) = absurd (let z = w.beyond i (omega arith) in omega arith)

    at_i : get_or (set marks i 2) i 0 ≡ 2
    at_i = get_or-set_same marks i 2 0 u

    other : (k : ℕ) → ¬ (k ≡ i) → get_or (set marks i 2) k 0 ≡ get_or marks k 0
    other k h = get_or-set_other marks i k 2 0 h

    kept : (k : ℕ) → get_or marks k 0 ≤ get_or next k 0
    kept k = let z = up (p.each k) in go (dec_lt k i) (dec_lt i k) z
      where
        go : Dec (k < i) → Dec (i < k) → get_or (set marks i 2) k 0 ≤ get_or next k 0 → get_or marks k 0 ≤ get_or next k 0
        go (yes h) d z = let y = other k (λ q. omega arith) in omega arith
        go (no h) (yes d) z = let y = other k (λ q. omega arith) in omega arith
        go (no h) (no d) z =
            let q : i ≡ k = omega arith in
            let y = subst (λ (v : ℕ). get_or (set marks i 2) v 0 ≡ 2) q at_i in
            let v = subst (λ (v : ℕ). get_or marks v 0 ≡ 1) q e in
            omega arith

    sound_was : (k : ℕ) → k < m → 1 ≤ get_or (set marks i 2) k 0 → Reached (sheet x n b) (get_or tasks k 0)
    sound_was k h l = go (dec_lt k i) (dec_lt i k)
      where
        go : Dec (k < i) → Dec (i < k) → Reached (sheet x n b) (get_or tasks k 0)
        go (yes d) f = w.sound k h (let y = other k (λ q. omega arith) in omega arith)
        go (no d) (yes f) = w.sound k h (let y = other k (λ q. omega arith) in omega arith)
        go (no d) (no f) = let q : i ≡ k = omega arith in subst (λ (v : ℕ). Reached (sheet x n b) (get_or tasks v 0)) q (w.sound i inside (omega arith))

    sound_now : (k : ℕ) → k < m → {a c : ℕ} → OrNew (sheet x n b) tasks (get_or tasks i 0) k a c → a ≡ get_or (set marks i 2) k 0 → 1 ≤ c → Reached (sheet x n b) (get_or tasks k 0)
    sound_now k h (as_it_was q) r l = sound_was k h (omega arith)
    sound_now k h (marked q f d) r l = by_component (w.sound i inside (omega arith)) (task_at i inside) d.holds (task_at k h) d.same

    two_was : (k : ℕ) → {a c : ℕ} → OrNew (sheet x n b) tasks (get_or tasks i 0) k a c → 2 ≤ c → 2 ≤ a
    two_was k (as_it_was q) l = omega arith
    two_was k (marked q f d) l = absurd (omega arith)

    closed_now : (k j : ℕ) → k < m → j < m → 2 ≤ get_or next k 0 → Leads (sheet x n b) (get_or tasks k 0) (get_or tasks j 0) → 1 ≤ get_or next j 0
    closed_now k j h d l f = go (dec_lt k i) (dec_lt i k)
      where
        was : 2 ≤ get_or (set marks i 2) k 0
        was = two_was k (p.each k) l

        old : ¬ (k ≡ i) → 1 ≤ get_or next j 0
        old q = let z = w.closed k j h d (let y = other k q in let v = was in omega arith) f in let y = kept j in omega arith

        go : Dec (k < i) → Dec (i < k) → 1 ≤ get_or next j 0
        go (yes v) y = old (λ q. omega arith)
        go (no v) (yes y) = old (λ q. omega arith)
        go (no v) (no y) =
            let q : k ≡ i = omega arith in
            p.all j d (simp length-set (omega arith)) (subst (λ (r : ℕ). Leads (sheet x n b) (get_or tasks r 0) (get_or tasks j 0)) q f)

    pub walk_more : Walked (sheet x n b) tasks m next
    walk_more = record {
      sound = λ k h l. sound_now k h (p.each k) refl l;
      closed = closed_now;
      root = let z = kept 0 in let y = w.root in omega arith;
      beyond = λ k h. p.beyond k h ∙ other k (λ q. let z = inside in omega arith) ∙ w.beyond k h;
    }

  -- no task waits
  module _ {marks : List ℕ} (w : Walked (sheet x n b) tasks m marks) (none : (k : ℕ) → k < length marks → ¬ (get_or marks k 0 ≡ 1)) (room : m ≤ length marks) where
    marked_all : {j : ℕ} → Reached (sheet x n b) j → (k : ℕ) → k < m → get_or tasks k 0 ≡ j → 1 ≤ get_or marks k 0
    marked_all the_root k h e = go (dec_lt 0 k)
      where
        go : Dec (0 < k) → 1 ≤ get_or marks k 0
        go (no l) = let z : 0 ≡ k = omega arith in subst (λ (i : ℕ). 1 ≤ get_or marks i 0) z w.root
        go (yes l) =
            let f = entry g.lists k h in
            let z = f.3 in
            absurd (let y = ap (tally task_kind x) (sym f.4 ∙ e) in omega arith)
    marked_all (by_component {i} {j} {c} r ti hold tj e) k h q =
        let f = index g.lists i ti.0 ti.1 in
        let z = marked_all r (tally task_kind x i) f.0 f.1 in
        let y = none (tally task_kind x i) (let v = f.0 in omega arith) in
        w.closed (tally task_kind x i) k f.0 h (two_of z y)
        (record { c = c; holds = subst (λ (v : ℕ). Holds (sheet x n b) v c) (sym f.1) hold; same = subst (λ (v : ℕ). Same (sheet x n b) c v) (sym q) e })
      where
        two_of : {v : ℕ} → 1 ≤ v → ¬ (v ≡ 1) → 2 ≤ v
        two_of {v} l o = go (dec_lt 1 v)
          where
            go : Dec (1 < v) → 2 ≤ v
            go (yes d) = omega arith
            go (no d) = absurd (o (omega arith))

    pub walk_told : Told (sheet x n b) tasks m marks
    walk_told = record {
      yes_if = λ k h e. w.sound k h (some_mark e);
      no_if = λ k h e r. let z = marked_all r k h refl in omega arith;
    }
      where
        some_mark : {v : ℕ} → ¬ (v ≡ 0) → 1 ≤ v
        some_mark {v} o = go (dec_lt 0 v)
          where
            go : Dec (0 < v) → 1 ≤ v
            go (yes d) = omega arith
            go (no d) = absurd (o (omega arith))

-- ---- what the code does

pub no_marks : {x : List ℕ} {n : ℕ} {b tasks : List ℕ} {m : ℕ} {blank : List ℕ} → Begun x n b tasks m blank → length blank ≡ 0 → ⊥
no_marks g e = let z = some_task g in let y = g.room in omega arith

pub lacks : {marks next : List ℕ} {i : ℕ} → Waits marks i → i < length marks → length next ≡ length (set marks i 2) → Up (set marks i 2) next → lack next < lack marks
lacks {marks} {next} {i} w u e h = let z = lack_up (set marks i 2) next e h.over in let y = lack_set marks i u (w.found u) in omega arith

module _ {x : List ℕ} {n : ℕ} {b tasks : List ℕ} {m : ℕ} {blank : List ℕ} (g : Begun x n b tasks m blank) {marks : List ℕ} {i : ℕ}
    (w : Walked (sheet x n b) tasks m marks) (v : Waits marks i) (same : length marks ≡ length blank) where
  pub walk_next : i < length marks → {t : ℕ} {next : List ℕ} → t ≡ get_or tasks i 0 → Spreads x n b tasks m t (set marks i 2) next → Walked (sheet x n b) tasks m next
  walk_next u {t} {next} et s =
      let r = g.room in
      let f = v.found u in
      let below = inside_of (dec_lt i m) f in
      let k = task_at g i below in
      walk_more g w (omega arith) u f (subst (λ (z : ℕ). Spread (sheet x n b) tasks m z (set marks i 2) next) et (s.2 (subst (λ (z : ℕ). z < n) (sym et) k.0)))
    where
      inside_of : Dec (i < m) → get_or marks i 0 ≡ 1 → i < m
      inside_of (yes l) f = l
      inside_of (no l) f = absurd (let z = w.beyond i (omega arith) in omega arith)

  pub walk_end : length marks ≤ i → Told (sheet x n b) tasks m marks
  walk_end u = walk_told g w (v.none u) (let r = g.room in omega arith)
