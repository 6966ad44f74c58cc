-- A call that makes rows of one property of tasks true: which cells it writes, and that the tables then hold the table that it leaves. By the columns of the state table.
use Rattle.std.specs.Prelude.{ℕ, ◌+◌, ◌*◌, ◌<◌, ◌≤◌, ◌≡◌, refl, Bool, true, false, cond, ◌||◌, List, eqb, get_or, set, length}
use Rattle.std.proofs.Common.{arith, sym, ap, subst, ◌∙◌, inl, inr, length-set, get_or-set_same, get_or-set_other, eq-eqb, ne_eqb}
use Rattle.std.proofs.Math.Decide.{dec_lt, ℕ_discrete}
use Rattle.std.proofs.Math.Option.{Option, none, some}
use Rattle.paper_expressions.proofs.Laws.Search.{no_clash}
use Rattle.paper_guideline.specs.Structure.{TopLevel}
use Rattle.paper_rows.specs.Table.{task, data_item, Component, ◌№◌, Property, state, trigger_active, confirmed, cycle_count, nbr_cycles_value, start_at, in_progress_time, discarded_time, completed_time, actual_procedure, value, requested, RowValue, truth_row, Table}
use Rattle.paper_rows.proofs.Laws.Seen.{value_f}
use Rattle.paper_calls.specs.Calls.{Sets, Replaced, replaced, kept, Replaces}
use Rattle.paper_calls.proofs.Laws.CallLaws.{Mild, sets_good}
use Rattle.state.specs.Cell.{Cell, plain_truth}
use Rattle.state.specs.Layout.{Rows, TaskColumn, state_column, trigger_column, confirmed_column, count_column, cycles_column, start_column, in_progress_column, discarded_column, completed_column, procedure_column}
use Rattle.blocks.specs.Blocks.{Outside}
use Rattle.holding.specs.Holding.{Holds, ItemAt}
use Rattle.replying.specs.Replying.{Elsewhere}
use Rattle.replying.specs.Moved.{holds_moved, item_stays, cell_stays, column_below}

-- ---- the cells

-- the column that begins at c says true of the tasks that are hit, and is else as it was
pub record Trues (s : List ℕ) (c : ℕ) (hit : ℕ → Bool) (s' : List ℕ) : Type 0 where
  pub size : length s' ≡ length s
  pub hits : (T : ℕ) → T < 32 → hit T ≡ true → c + 64 ≤ length s → (get_or s' (c + T) 0 ≡ 2) × (get_or s' (c + 32 + T) 0 ≡ 1)
  pub misses : (T : ℕ) → T < 32 → hit T ≡ false → (get_or s' (c + T) 0 ≡ get_or s (c + T) 0) × (get_or s' (c + 32 + T) 0 ≡ get_or s (c + 32 + T) 0)
  pub other : (i : ℕ) → Outside c 64 i → get_or s' i 0 ≡ get_or s i 0

abbrev pub put_true : List ℕ → ℕ → ℕ → List ℕ
put_true s c T = set (set s (c + T) 2) (c + 32 + T) 1

pub trues_none : (s : List ℕ) (c : ℕ) → Trues s c (λ T. false) s
trues_none s c = record { size = refl; hits = λ T l e. absurd (no_clash (cc)); misses = λ T l e. (refl, refl); other = λ i o. refl }

pub trues_as : {s v : List ℕ} {c : ℕ} {h k : ℕ → Bool} → ((T : ℕ) → T < 32 → k T ≡ h T) → Trues s c h v → Trues s c k v
trues_as e m = record { size = m.size; hits = λ T l z. m.hits T l (sym (e T l) ∙ z); misses = λ T l z. m.misses T l (sym (e T l) ∙ z); other = m.other }

-- one task more
pub trues_more : {s v v' : List ℕ} {c : ℕ} {h : ℕ → Bool} (U : ℕ) → U < 32 → v' ≡ put_true v c U → Trues s c h v → Trues s c (λ T. eqb T U || h T) v'
trues_more {s} {v} {v'} {c} {h} U l q m = record { size = size; hits = λ T i e. hits T i (ℕ_discrete T U) e; misses = misses; other = other }
  where
    away : (i : ℕ) → ¬ (i ≡ c + U) → ¬ (i ≡ c + 32 + U) → get_or v' i 0 ≡ get_or v i 0
    away i a b = ap (λ (y : List ℕ). get_or y i 0) q ∙ get_or-set_other (set v (c + U) 2) (c + 32 + U) i 1 0 b ∙ get_or-set_other v (c + U) i 2 0 a

    size : length v' ≡ length s
    size = ap length q ∙ length-set (set v (c + U) 2) (c + 32 + U) 1 ∙ length-set v (c + U) 2 ∙ m.size

    before : (T : ℕ) → ¬ (T ≡ U) → eqb T U || h T ≡ true → h T ≡ true
    before T n e = ap (λ (y : Bool). y || h T) (sym (ne_eqb T U n)) ∙ e

    own : c + 64 ≤ length s → (get_or v' (c + U) 0 ≡ 2) × (get_or v' (c + 32 + U) 0 ≡ 1)
    own n =
        let z = m.size in (
          ap (λ (y : List ℕ). get_or y (c + U) 0) q ∙ get_or-set_other (set v (c + U) 2) (c + 32 + U) (c + U) 1 0 (λ y. omega arith) ∙ get_or-set_same v (c + U) 2 0 (omega arith),
          ap (λ (y : List ℕ). get_or y (c + 32 + U) 0) q ∙ get_or-set_same (set v (c + U) 2) (c + 32 + U) 1 0 (simp length-set (omega arith)),
        )

    hits : (T : ℕ) → T < 32 → Dec (T ≡ U) → eqb T U || h T ≡ true → c + 64 ≤ length s → (get_or v' (c + T) 0 ≡ 2) × (get_or v' (c + 32 + T) 0 ≡ 1)
    hits T i (yes d) e n = subst (λ (y : ℕ). (get_or v' (c + y) 0 ≡ 2) × (get_or v' (c + 32 + y) 0 ≡ 1)) (sym d) (own n)
    hits T i (no d) e n =
        let z = m.hits T i (before T d e) n in
        (away (c + T) (λ y. d (omega arith)) (λ y. omega arith) ∙ z.0, away (c + 32 + T) (λ y. omega arith) (λ y. d (omega arith)) ∙ z.1)

    apart : (T : ℕ) → eqb T U || h T ≡ false → ¬ (T ≡ U)
    apart T e d = no_clash (let z = sym (ap (λ (y : Bool). y || h T) (eq-eqb T U d)) ∙ e in cc)

    misses : (T : ℕ) → T < 32 → eqb T U || h T ≡ false → (get_or v' (c + T) 0 ≡ get_or s (c + T) 0) × (get_or v' (c + 32 + T) 0 ≡ get_or s (c + 32 + T) 0)
    misses T i e =
        let d = apart T e in
        let z = m.misses T i (ap (λ (y : Bool). y || h T) (sym (ne_eqb T U d)) ∙ e) in
        (away (c + T) (λ y. d (omega arith)) (λ y. omega arith) ∙ z.0, away (c + 32 + T) (λ y. omega arith) (λ y. d (omega arith)) ∙ z.1)

    other : (i : ℕ) → Outside c 64 i → get_or v' i 0 ≡ get_or s i 0
    other i (inl o) = away i (λ y. omega arith) (λ y. omega arith) ∙ m.other i (inl o)
    other i (inr o) = away i (λ y. omega arith) (λ y. omega arith) ∙ m.other i (inr o)

pub trues_elsewhere : {b s s' : List ℕ} {c : ℕ} {hit : ℕ → Bool} {p : Property} → TaskColumn c p → Trues s c hit s' → Elsewhere b s b s'
trues_elsewhere k m = let j = column_below k in let e = j.1 in let l = j.2 in record { cells = m.size; bytes = refl; behind = λ i n. m.other i (inr (omega arith)); own = λ i n. refl; past = λ i n. refl }

-- ---- the rows

-- the rows that are set: those of the property p, true, of the tasks that are hit
pub record Only (N : Sets) (p : Property) (hit : ℕ → Bool) : Type 0 where
  pub of : (c : Component) (q : Property) (o : Option RowValue) → N c q o → (T : ℕ) × (c ≡ task № T) × (q ≡ p) × (o ≡ some (truth_row true)) × (T < 32) × (hit T ≡ true)
  pub all : (T : ℕ) → T < 32 → hit T ≡ true → N (task № T) p (some (truth_row true))

column_same : {b c : ℕ} {p : Property} → TaskColumn b p → TaskColumn c p → b ≡ c
column_same state_column state_column = refl
column_same trigger_column trigger_column = refl
column_same confirmed_column confirmed_column = refl
column_same count_column count_column = refl
column_same cycles_column cycles_column = refl
column_same start_column start_column = refl
column_same in_progress_column in_progress_column = refl
column_same discarded_column discarded_column = refl
column_same completed_column completed_column = refl
column_same procedure_column procedure_column = refl

abbrev property_at : ℕ → Property
property_at c =
    cond (eqb c 8) state (cond (eqb c 72) trigger_active (cond (eqb c 136) confirmed (cond (eqb c 200) cycle_count (cond (eqb c 264) nbr_cycles_value
    (cond (eqb c 328) start_at (cond (eqb c 392) in_progress_time (cond (eqb c 456) discarded_time (cond (eqb c 520) completed_time actual_procedure))))))))

its_property : {c : ℕ} {p : Property} → TaskColumn c p → property_at c ≡ p
its_property state_column = refl
its_property trigger_column = refl
its_property confirmed_column = refl
its_property count_column = refl
its_property cycles_column = refl
its_property start_column = refl
its_property in_progress_column = refl
its_property discarded_column = refl
its_property completed_column = refl
its_property procedure_column = refl

same_task : {T U : ℕ} → task № T ≡ task № U → T ≡ U
same_task e = cc

no_task : {d U : ℕ} → data_item № d ≡ task № U → ⊥
no_task e = no_clash (cc)

two : (x : Bool) → (x ≡ true → x ≡ false) → x ≡ false
two true f = f refl
two false f = refl

module _ {g : List TopLevel} {x b f : List ℕ} {w : List (List Bool)} {s : List ℕ} {t : Table} {flag : Bool} {time : ℕ} (h : Holds g x b f w s t flag time)
    {c : ℕ} {p : Property} (k : TaskColumn c p) {hit : ℕ → Bool} {s' : List ℕ} (m : Trues s c hit s')
    {N : Sets} {t' : Table} (only : Only N p hit) (mild : Mild g t N) (r : Replaces N t t') where
  -- of a task
  task_cell : {c' : ℕ} {q : Property} {T : ℕ} {o o' : Option RowValue} → TaskColumn c' q → T < 32 → Cell (get_or s (c' + T) 0) (get_or s (c' + 32 + T) 0) o → Replaced N (task № T) q o o'
      → Cell (get_or s' (c' + T) 0) (get_or s' (c' + 32 + T) 0) o'
  task_cell {c'} {q} {T} j l z (replaced {after = o} n) =
      let i = only.of (task № T) q o n in
      let e = column_same (subst (TaskColumn c') i.2 j) k in
      let u = same_task i.1 in
      let a = column_below k in
      let d = a.1 in
      let v = a.2 in
      let y = h.cells in
      let full = m.hits T l (ap hit u ∙ i.5) (omega arith) in
      subst (λ (a : ℕ). Cell (get_or s' (a + T) 0) (get_or s' (a + 32 + T) 0) o) (sym e)
      (subst (Cell (get_or s' (c + T) 0) (get_or s' (c + 32 + T) 0)) (sym i.3) (record { plain = plain_truth true; its_tag = full.0; its_number = full.1 }))
  task_cell {c'} {q} {T} {o} j l z (kept n) = go (ℕ_discrete c' c)
    where
      go : Dec (c' ≡ c) → Cell (get_or s' (c' + T) 0) (get_or s' (c' + 32 + T) 0) o
      go (yes e) =
          let same : q ≡ p = sym (its_property j) ∙ ap property_at e ∙ its_property k in
          let missed = two (hit T) (λ a. absurd (n (some (truth_row true)) (subst (λ (y : Property). N (task № T) y (some (truth_row true))) (sym same) (only.all T l a)))) in
          let y = m.misses T l missed in
          cell_stays (ap (λ (a : ℕ). get_or s' (a + T) 0) e ∙ y.0 ∙ sym (ap (λ (a : ℕ). get_or s (a + T) 0) e)) (ap (λ (a : ℕ). get_or s' (a + 32 + T) 0) e ∙ y.1 ∙ sym (ap (λ (a : ℕ). get_or s (a + 32 + T) 0) e)) refl z
      go (no e) =
          let a = column_below j in
          let b = column_below k in
          let a1 = a.1 in
          let b1 = b.1 in
          let apart : ¬ (a.0 ≡ b.0) = λ y. e (omega arith) in
          cell_stays (m.other (c' + T) (side a.0 b.0 T a1 b1 apart (omega arith))) (m.other (c' + 32 + T) (side2 a.0 b.0 T a1 b1 apart l)) refl z
        where
          side : (i j' y : ℕ) → c' ≡ 8 + 64 * i → c ≡ 8 + 64 * j' → ¬ (i ≡ j') → y < 64 → Outside c 64 (c' + y)
          side i j' y e1 e2 n1 l1 = pick (dec_lt i j')
            where
              pick : Dec (i < j') → Outside c 64 (c' + y)
              pick (yes u) = inl (omega arith)
              pick (no u) = inr (omega arith)

          side2 : (i j' y : ℕ) → c' ≡ 8 + 64 * i → c ≡ 8 + 64 * j' → ¬ (i ≡ j') → y < 32 → Outside c 64 (c' + 32 + y)
          side2 i j' y e1 e2 n1 l1 = let z1 : c' + (32 + y) ≡ c' + 32 + y = omega arith in subst (Outside c 64) z1 (side i j' (32 + y) e1 e2 n1 (omega arith))

  -- of what is no task of the table
  past_row : {q : Property} {T : ℕ} {o o' : Option RowValue} → 32 < T + 1 → o ≡ none → Replaced N (task № T) q o o' → o' ≡ none
  past_row {q} {T} l e (replaced {after = o} n) =
      let i = only.of (task № T) q o n in
      let u = same_task i.1 in
      let v = i.4 in
      absurd (let z : ⊥ = omega arith in z)
  past_row l e (kept n) = e

  -- of a data item
  item_row : {q : Property} {d : ℕ} {o o' : Option RowValue} → Replaced N (data_item № d) q o o' → o' ≡ o
  item_row {q} {d} (replaced {after = o} n) = absurd (no_task (only.of (data_item № d) q o n).1)
  item_row (kept n) = refl

  behind : (i : ℕ) → 648 ≤ i → get_or s' i 0 ≡ get_or s i 0
  behind i l = let a = column_below k in let e = a.1 in let d = a.2 in m.other i (inr (omega arith))

  front : (i : ℕ) → i < 8 → get_or s' i 0 ≡ get_or s i 0
  front i l = let a = column_below k in let e = a.1 in m.other i (inl (omega arith))

  rows : Rows s' t'
  rows =
      record {
        tasks = λ {c = d} {p = q} {T} j l. task_cell j l (h.rows.tasks j l) (r (task № T) q);
        past = λ {c = d} {p = q} T j l. past_row l (h.rows.past T j l) (r (task № T) q);
        asked = λ {d} l. cell_stays (behind (648 + d) (omega arith)) (behind (712 + d) (omega arith)) (item_row (r (data_item № d) requested)) (h.rows.asked l);
      }

  pub holds_trues : Holds g x b f w s' t' flag time
  holds_trues =
      holds_moved h (trues_elsewhere k m) (sets_good h.good mild r) h.timely
      (record { loaded = front 0 (omega arith); flagged = front 1 (omega arith); timed = front 2 (omega arith) ∙ h.timed; spare = λ i l n. front i n })
      rows
      (λ d l. item_stays d (λ j n. behind (776 + 17 * d + j) (omega arith)) (λ j n. behind (1864 + 17 * d + j) (omega arith)) (λ i n. refl)
      (subst (λ (o : Option RowValue). ItemAt s b d (value_f o)) (sym (item_row (r (data_item № d) value))) (h.values d l)))
