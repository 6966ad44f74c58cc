-- The laws of the answer that Verdict.antt promises, with the steps of the two loops.
use Rattle.std.specs.Prelude.{ℕ, zero, suc, ◌+◌, ◌≤◌, ◌<◌, ◌≡◌, refl, Bool, true, false, ◌⊎◌, List, length, get_or, replicate, Option, Some, None}
use Rattle.std.proofs.Common.{sym, ap, subst, ◌∙◌, inl, inr, ⊎_elim, arith, eqb-true}
use Rattle.std.proofs.Math.Decide.{dec_lt}
use Rattle.paper_expressions.proofs.Laws.Search.{true_reflects, false_reflects}
use Rattle.paper_tokens.specs.Tokens.{“data”}
use Rattle.parts.specs.ItemLaws.{index_of}
use Rattle.paper_guideline.specs.Structure.{Name, TopLevel, tasks, data_items}
use Rattle.paper_guideline.specs.Limits.{task_limit, data_item_limit}
use Rattle.paper_guideline.specs.Names.{NameBreach}
use Rattle.guideline_rows.specs.Rows.{flatten}
use Rattle.row_names.specs.Selected.{Kept, rank_rise}
use Rattle.row_names.specs.Sheet
use Sheet.{Sheet, task_kind, once, Flaw, Bad, flawed, unreached}
use Rattle.row_names.specs.Shape.{Shaped}
use Rattle.row_names.specs.Flat.{of_kind, is_data}
use Rattle.row_names.specs.Agreement.{Agrees}
use Rattle.row_names.proofs.NameLaw.{to_row, from_row, row_task, row_item, root_row, task_of, task_not_once}
use Rattle.row_tests.specs.Table.{row_limit, cell_of, kind_of, sheet}
use Rattle.name_tests.specs.Lists.{Lists, Gathers, tally, tally_onto, entry, index}
use Rattle.row_tests.specs.Least.{Least, nearer, least_as, least_more}
use Rattle.name_tests.specs.Flaws.{Flawed}
use Rattle.names.specs.Walk.{Begun, Told, Reaches}
use Rattle.names.specs.Verdict.{ToldOf, Judged, spot_of, FlawsTo, AllFlaws, Judges, OrUnmarked, Tells, TellsOne}

-- ---- the loop over the rows

module _ (x : List ℕ) (n : ℕ) (b : List ℕ) where
  pub flaws_none : Least (FlawsTo x n b 0) (spot_of x) None
  flaws_none j h = let z = h.0 in omega arith

  last_row : {i : ℕ} (j : ℕ) → FlawsTo x n b (i + 1) j → FlawsTo x n b i j ⊎ (j ≡ i)
  last_row {i} j h = go (dec_lt j i)
    where
      go : Dec (j < i) → FlawsTo x n b i j ⊎ (j ≡ i)
      go (yes l) = inl (l, h.1)
      go (no l) = inr (let z = h.0 in omega arith)

  pub judge_yes : (i : ℕ) (r : Option ℕ) {p : ℕ} → Flaw (sheet x n b) i → p ≡ spot_of x i → Least (FlawsTo x n b i) (spot_of x) r → Least (FlawsTo x n b (i + 1)) (spot_of x) (nearer r p)
  judge_yes i r f e h =
      subst (λ (p : ℕ). Least (FlawsTo x n b (i + 1)) (spot_of x) (nearer r p)) (sym e)
      (least_more (FlawsTo x n b i) (FlawsTo x n b (i + 1)) (spot_of x) i r (λ j q. (let z = q.0 in omega arith, q.1)) last_row (omega arith, f) h)

  pub judge_no : (i : ℕ) (r : Option ℕ) → ¬ Flaw (sheet x n b) i → Least (FlawsTo x n b i) (spot_of x) r → Least (FlawsTo x n b (i + 1)) (spot_of x) r
  judge_no i r f h =
      least_as (FlawsTo x n b i) (FlawsTo x n b (i + 1)) (spot_of x) r (λ j q. (let z = q.0 in omega arith, q.1))
      (λ j q. ⊎_elim (λ y. y) (λ e. absurd (f (subst (Flaw (sheet x n b)) e q.1))) (last_row j q)) h

-- ---- the loop over the tasks

module _ (x tasks marks : List ℕ) where
  pub tells_none : (m : ℕ) (best : Option ℕ) → Tells x tasks marks m 0 best best
  tells_none m best n b t h = least_as (FlawsTo x n b n) (OrUnmarked x n b tasks marks 0) (spot_of x) best (λ j q. inl q) (λ j. ⊎_elim (λ q. q) (λ u. absurd (let z = u.below in omega arith))) h

  last_task : (n : ℕ) (b : List ℕ) {i : ℕ} (j : ℕ) → OrUnmarked x n b tasks marks (i + 1) j → OrUnmarked x n b tasks marks i j ⊎ ((j ≡ get_or tasks i 0) × (get_or marks i 0 ≡ 0))
  last_task n b j (inl q) = inl (inl q)
  last_task n b {i} j (inr u) = go (dec_lt u.k i)
    where
      go : Dec (u.k < i) → OrUnmarked x n b tasks marks i j ⊎ ((j ≡ get_or tasks i 0) × (get_or marks i 0 ≡ 0))
      go (yes l) = inl (inr (record { k = u.k; below = l; row = u.row; blank = u.blank }))
      go (no l) =
          let z = u.below in
          let e : u.k ≡ i = omega arith in
          inr (sym u.row ∙ ap (λ (v : ℕ). get_or tasks v 0) e, sym (ap (λ (v : ℕ). get_or marks v 0) e) ∙ u.blank)

  more : (n : ℕ) (b : List ℕ) {i : ℕ} (j : ℕ) → OrUnmarked x n b tasks marks i j → OrUnmarked x n b tasks marks (i + 1) j
  more n b j (inl q) = inl q
  more n b j (inr u) = inr (record { k = u.k; below = let z = u.below in omega arith; row = u.row; blank = u.blank })

  pub tells_yes : (m i : ℕ) (best r : Option ℕ) {p t : ℕ} → i < m → t ≡ get_or tasks i 0 → p ≡ cell_of x t 3 → get_or marks i 0 ≡ 0 → Tells x tasks marks m i best r → Tells x tasks marks m (i + 1) best (nearer r p)
  tells_yes m i best r l et ep e f n b t h =
      let y = entry t i l in
      let q = task_not_once (kind_of x (get_or tasks i 0)) (subst (λ (v : ℕ). task_kind (kind_of x v) ≡ true) (sym y.4) y.2) in
      subst (λ (v : ℕ). Least (OrUnmarked x n b tasks marks (i + 1)) (spot_of x) (nearer r v)) (sym (ep ∙ ap (λ (v : ℕ). cell_of x v 3) et ∙ sym (spot_place (get_or tasks i 0) q)))
      (least_more (OrUnmarked x n b tasks marks i) (OrUnmarked x n b tasks marks (i + 1)) (spot_of x) (get_or tasks i 0) r (more n b)
      (λ j u. ⊎_elim (λ v. inl v) (λ v. inr v.0) (last_task n b j u))
      (inr (record { k = i; below = omega arith; row = refl; blank = e })) (f n b t h))
    where
      spot_place : (j : ℕ) → once (cell_of x j 0) ≡ false → spot_of x j ≡ cell_of x j 3
      spot_place j e = rw e

  pub tells_no : (m i : ℕ) (best r : Option ℕ) → ¬ (get_or marks i 0 ≡ 0) → Tells x tasks marks m i best r → Tells x tasks marks m (i + 1) best r
  tells_no m i best r e f n b t h =
      least_as (OrUnmarked x n b tasks marks i) (OrUnmarked x n b tasks marks (i + 1)) (spot_of x) r (more n b) (λ j u. ⊎_elim (λ v. v) (λ v. absurd (e v.1)) (last_task n b j u)) (f n b t h)

-- ---- one row, one task

pub spot_word : (x : List ℕ) (j : ℕ) {k w : ℕ} {o : Bool} → k ≡ cell_of x j 0 → o ≡ once k → o ≡ true → w ≡ cell_of x j 1 → w ≡ spot_of x j
spot_word x j ek eo e h = rw (sym (ap once ek) ∙ sym eo ∙ e) h

pub spot_name : (x : List ℕ) (j : ℕ) {k w : ℕ} {o : Bool} → k ≡ cell_of x j 0 → o ≡ once k → o ≡ false → w ≡ cell_of x j 3 → w ≡ spot_of x j
spot_name x j ek eo e h = rw (sym (ap once ek) ∙ sym eo ∙ e) h

module _ (x : List ℕ) (n : ℕ) (b l : List ℕ) (m : ℕ) (k : List ℕ) (d j : ℕ) (best : Option ℕ) {q : Bool} (f : Flawed x n b l m k d j q) where
  pub judges_yes : {r : Option ℕ} {p : ℕ} → q ≡ true → p ≡ spot_of x j → r ≡ nearer best p → Judges x n b l m k d j best r
  judges_yes e ep er u h t i = subst (Least (FlawsTo x n b (j + 1)) (spot_of x)) (sym er) (judge_yes x n b j best (true_reflects (f t i u) e) ep (h t i))

  pub judges_no : q ≡ false → Judges x n b l m k d j best best
  judges_no e u h t i = judge_no x n b j best (false_reflects (f t i u) e) (h t i)

module _ (x tasks marks : List ℕ) (k : ℕ) (best : Option ℕ) {a : ℕ} (ea : a ≡ get_or marks k 0) where
  pub tell_yes : {r : Option ℕ} {p t : ℕ} → a ≡ 0 → t ≡ get_or tasks k 0 → p ≡ cell_of x t 3 → r ≡ nearer best p → TellsOne x tasks marks k best r
  tell_yes {p = p} e et ep er m from l h = subst (λ (r : Option ℕ). Tells x tasks marks m (k + 1) from r) (sym er) (tells_yes x tasks marks m k from best l et ep (sym ea ∙ e) h)

  pub tell_no : ¬ (a ≡ 0) → TellsOne x tasks marks k best best
  tell_no e m from l h = tells_no x tasks marks m k from best (λ q. e (ea ∙ q)) h

-- ---- the whole

flaw_below : {s : Sheet} {j : ℕ} → Flaw s j → j < s.count
flaw_below (Sheet.task_again l h k e) = k.0
flaw_below (Sheet.item_again l h k e) = k.0
flaw_below (Sheet.attribute_again l u o e f) = u
flaw_below (Sheet.component_of_none h f) = h.0
flaw_below (Sheet.component_of_root h e) = h.0
flaw_below (Sheet.component_again l h k e) = k.0
flaw_below (Sheet.constraint_of_itself h o e) = h.0
flaw_below (Sheet.constraint_of_none h f) = h.0
flaw_below (Sheet.target_of_none h f) = h.0
flaw_below (Sheet.source_of_none h f) = h.0

bad_below : {s : Sheet} {j : ℕ} → Bad s j → j < s.count
bad_below (flawed f) = flaw_below f
bad_below (unreached h f) = h.0

module _ (x : List ℕ) (n : ℕ) (b : List ℕ) (g : List TopLevel) (shape : Shaped g) (a : Agrees (sheet x n b) (flatten g)) where
  -- no more rows of tasks than tasks, and so of data items
  ranked : (c : ℕ → Bool) (k : ℕ) → ((j : ℕ) → j < n → c (kind_of x j) ≡ true → (i : ℕ) × (m : Name) × Kept (of_kind c) (flatten g) i j m)
      → (j : ℕ) → tally c x j ≡ k → {i : ℕ} {m : Name} → Kept (of_kind c) (flatten g) i j m → j < n → k ≤ i
  ranked c zero f j e h u = omega arith
  ranked c (suc k) f j e h u =
      let r = tally_onto c x j k (omega arith) in
      let l = r.below in
      let y = f r.row (omega arith) r.is in
      let z = ranked c k f r.row r.rank y.2 (omega arith) in
      omega (arith, rank_rise (of_kind c) y.2 h r.below)

  few : (c : ℕ → Bool) {A : Type 0} (things : List A) → ((j : ℕ) → j < n → c (kind_of x j) ≡ true → (i : ℕ) × (m : Name) × Kept (of_kind c) (flatten g) i j m × (i < length things))
      → tally c x n ≤ length things
  few c things f = go (dec_lt (length things) (tally c x n))
    where
      go : Dec (length things < tally c x n) → tally c x n ≤ length things
      go (no l) = omega arith
      go (yes l) =
          let r = tally_onto c x n (length things) l in
          let y = f r.row r.below r.is in
          let w = y.3 in
          absurd (let z = ranked c (length things) (λ j u e. let q = f j u e in (q.0, q.1, q.2)) r.row r.rank y.2 r.below in omega arith)

  pub few_tasks : tally task_kind x n ≤ length (tasks g)
  few_tasks = few task_kind (tasks g) (λ j u e. let y = row_task g (sheet x n b) a shape j (u, e) in (y.i, y.thing.named, y.row.kept, index_of y.at))

  pub few_items : tally is_data x n ≤ length (data_items g)
  few_items = few is_data (data_items g) (λ j u e. let y = row_item g (sheet x n b) a shape j (u, eqb-true (kind_of x j) “data” e) in (y.i, y.thing.named, y.row.kept, index_of y.at))

  pub first_task : Sheet.Task (sheet x n b) 0
  first_task = task_of g (sheet x n b) a shape (root_row g (sheet x n b) a shape)

  -- flaws and unmarked tasks are the bad rows
  module _ {l m : List ℕ} {k : ℕ} (t : Lists task_kind x n l k) (w : Told (sheet x n b) l k m) where
    bad : (j : ℕ) → OrUnmarked x n b l m k j → Bad (sheet x n b) j
    bad j (inl f) = flawed f.1
    bad j (inr u) =
        let y = entry t u.k u.below in
        let e = sym y.4 ∙ u.row in
        unreached (subst (λ (i : ℕ). i < n) e y.1, subst (λ (i : ℕ). task_kind (kind_of x i) ≡ true) e y.2) (subst (λ (i : ℕ). ¬ Sheet.Reached (sheet x n b) i) u.row (w.no_if u.k u.below u.blank))

    row : (j : ℕ) → j < n → Bad (sheet x n b) j → OrUnmarked x n b l m k j
    row j u (flawed f) = inl (u, f)
    row j u (unreached h f) =
        let y = index t j h.0 h.1 in
        inr (record { k = tally task_kind x j; below = y.0; row = y.1; blank = zero_or (get_or m (tally task_kind x j) 0) (λ e. f (subst (Sheet.Reached (sheet x n b)) y.1 (w.yes_if (tally task_kind x j) y.0 e))) })
      where
        zero_or : (v : ℕ) → ¬ ¬ (v ≡ 0) → v ≡ 0
        zero_or zero h = refl
        zero_or (suc v) h = absurd (h (λ e. omega arith))

    pub told : (r : Option ℕ) → Least (OrUnmarked x n b l m k) (spot_of x) r → ToldOf g r
    told (Some p) h = (
      subst (NameBreach g) (sym h.0.2) (from_row g (sheet x n b) a shape (bad h.0.0 h.0.1)),
      λ q c. let y = to_row g (sheet x n b) a shape c in let z = h.1 y.0 (row y.0 (bad_below y.1) y.1) in let e = y.2 in omega arith,
    )
    told None h = λ q c. let y = to_row g (sheet x n b) a shape c in h y.0 (row y.0 (bad_below y.1) y.1)

-- ---- what the code does with the lists

pub blank_all : (n k : ℕ) → ◌≡◌ {A = ℕ} (get_or (replicate n 0) k 0) 0
blank_all zero k = refl
blank_all (suc n) zero = refl
blank_all (suc n) (suc k) = blank_all n k

pub too_long : (x : List ℕ) (n : ℕ) (b : List ℕ) → row_limit < n → Judged x n b None
too_long x n b l g shape a u = absurd (omega arith)

pub too_many_tasks : {x : List ℕ} {n : ℕ} (b : List ℕ) {before after : List ℕ} {m : ℕ} → Gathers true x n before after m → task_limit < m → Judged x n b None
too_many_tasks {x} {n} b c l g shape a u few1 few2 = absurd (let z = few_tasks x n b g shape a in let y = c.count in omega arith)

pub too_many_items : {x : List ℕ} {n : ℕ} (b : List ℕ) {before after : List ℕ} {d : ℕ} → Gathers false x n before after d → data_item_limit < d → Judged x n b None
too_many_items {x} {n} b c l g shape a u few1 few2 = absurd (let z = few_items x n b g shape a in let y = c.count in omega arith)

pub concluded : {x : List ℕ} {n : ℕ} (b : List ℕ) {t0 t1 i0 i1 w0 w1 : List ℕ} {m d : ℕ} (best r : Option ℕ)
    → Gathers true x n t0 t1 m → length t0 ≡ task_limit → m ≤ task_limit → Gathers false x n i0 i1 d → length i0 ≡ data_item_limit → d ≤ data_item_limit
    → Reaches x n b t1 m w0 w1 → length w0 ≡ task_limit → ((k : ℕ) → get_or w0 k 0 ≡ 0)
    → AllFlaws x n b t1 m i1 d n best → Tells x t1 w1 m m best r → Judged x n b r
concluded {x} {n} b {t1 = t1} {i1 = i1} {w0 = w0} {m = m} {d = d} best r c lt um ci li ud w lw z f h g shape a u few1 few2 =
    let y = c.long in
    let v = ci.long in
    let t : Lists task_kind x n t1 m = record { count = c.count; room = omega arith; entered = c.entered } in
    let i : Lists is_data x n i1 d = record { count = ci.count; room = omega arith; entered = ci.entered } in
    let s : Begun x n b t1 m w0 = record { lists = t; first = first_task x n b g shape a; room = omega arith; blank = z } in
    told x n b g shape a t (w.told s) r (h n b t (f t i))

-- at most one answer
pub one_told : (g : List TopLevel) (r s : Option ℕ) → ToldOf g r → ToldOf g s → r ≡ s
one_told g (Some p) (Some q) h k = ap Some (let a = h.1 q k.0 in let b = k.1 p h.0 in let e : p ≡ q = omega arith in e)
one_told g (Some p) None h k = absurd (k p h.0)
one_told g None (Some q) h k = absurd (h q k.0)
one_told g None None h k = refl
