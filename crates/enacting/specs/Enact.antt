-- 8.4 for all rows but values: the state table after every row of the Changes table is written shows the table after EnactChanges. By the rows passed.
use Rattle.std.specs.Prelude.{ℕ, ◌+◌, ◌*◌, ◌-◌, ◌<◌, ◌≤◌, ◌≡◌, refl, Bool, true, false, cond, ◌↔◌, ◌⊎◌, List, eqb, get_or, set, length}
use Rattle.std.proofs.Common.{arith, not-suc-le-zero, sym, ap, subst, ◌∙◌, inl, inr, length-set, get_or-set_same, get_or-set_other}
use Rattle.std.proofs.Math.Decide.{dec_lt, ℕ_discrete}
use Rattle.std.proofs.Math.Option.{Option, none, some}
use Rattle.paper_expressions.proofs.Laws.Search.{no_clash}
use Rattle.paper_rows.specs.Table.{Kind, task, data_item, candidate, argument, parameter, source, warning_condition, Component, ◌№◌, Property, state, trigger_active, confirmed, cycle_count, nbr_cycles_value, start_at, in_progress_time, discarded_time, completed_time, actual_procedure, requested, value, RowValue, unknown_row, Table}
use Rattle.paper_engine.specs.Cycle.{OnlyRow, Collision, Enacted, not_named, enact_c, enact_d}
use Rattle.paper_engine.specs.Cycle as Cycle
use Rattle.state.specs.Cell.{Cell, one_row}
use Rattle.state.specs.Layout.{Rows, TaskColumn, state_column, trigger_column, confirmed_column, count_column, cycles_column, start_column, in_progress_column, discarded_column, completed_column, procedure_column}
use Rattle.changes.specs.Row.{component_code, Column, state_at, trigger-at, confirmed_at, count_at, cycles_at, start_at_at, in_progress_at, discarded_at, completed_at, procedure_at, requested_at, value-at, property_at, said_property, Says}

-- ---- columns and properties

column_place : {c : ℕ} {p : Property} → TaskColumn c p → (j : ℕ) × (c ≡ 8 + 64 * j) × (j < 10)
column_place state_column = (0, refl, omega arith)
column_place trigger_column = (1, refl, omega arith)
column_place confirmed_column = (2, refl, omega arith)
column_place count_column = (3, refl, omega arith)
column_place cycles_column = (4, refl, omega arith)
column_place start_column = (5, refl, omega arith)
column_place in_progress_column = (6, refl, omega arith)
column_place discarded_column = (7, refl, omega arith)
column_place completed_column = (8, refl, omega arith)
column_place procedure_column = (9, refl, omega arith)

said_place : {b : ℕ} {p : Property} → Column p b → (j : ℕ) × (b ≡ 8 + 64 * j) × (j < 13)
said_place state_at = (0, refl, omega arith)
said_place trigger-at = (1, refl, omega arith)
said_place confirmed_at = (2, refl, omega arith)
said_place count_at = (3, refl, omega arith)
said_place cycles_at = (4, refl, omega arith)
said_place start_at_at = (5, refl, omega arith)
said_place in_progress_at = (6, refl, omega arith)
said_place discarded_at = (7, refl, omega arith)
said_place completed_at = (8, refl, omega arith)
said_place procedure_at = (9, refl, omega arith)
said_place requested_at = (10, refl, omega arith)
said_place value-at = (12, refl, omega arith)

column_at : {c : ℕ} {p : Property} → TaskColumn c p → Column p c
column_at state_column = state_at
column_at trigger_column = trigger-at
column_at confirmed_column = confirmed_at
column_at count_column = count_at
column_at cycles_column = cycles_at
column_at start_column = start_at_at
column_at in_progress_column = in_progress_at
column_at discarded_column = discarded_at
column_at completed_column = completed_at
column_at procedure_column = procedure_at

column_same : {b c : ℕ} {p : Property} → Column p b → Column p c → b ≡ c
column_same state_at state_at = refl
column_same trigger-at trigger-at = refl
column_same confirmed_at confirmed_at = refl
column_same count_at count_at = refl
column_same cycles_at cycles_at = refl
column_same start_at_at start_at_at = refl
column_same in_progress_at in_progress_at = refl
column_same discarded_at discarded_at = refl
column_same completed_at completed_at = refl
column_same procedure_at procedure_at = refl
column_same requested_at requested_at = refl
column_same value-at value-at = refl

-- ---- where a row that is no value stands in the state table: the cell of its tag, and that of its number

pub data Spot : Component → Property → ℕ → ℕ → Type 0 where
  of_task : {c : ℕ} {p : Property} {T : ℕ} → TaskColumn c p → T < 32 → Spot (task № T) p (c + T) (c + 32 + T)
  of_item : {d : ℕ} → d < 64 → Spot (data_item № d) requested (648 + d) (712 + d)

-- the numbers a and b of a row stand for the component and the property of a spot
pub data Numbered (a b x y : ℕ) : Type 0 where
  as_task : (j : ℕ) → j < 10 → b ≡ 8 + 64 * j → a < 32 → x ≡ b + a → y ≡ b + a + 32 → Numbered a b x y
  as_item : b ≡ 648 → (d : ℕ) → d < 64 → a ≡ 65536 + d → x ≡ 648 + d → y ≡ 712 + d → Numbered a b x y

not_task : (k : Kind) (m T : ℕ) → T < 32 → component_code (k № m) ≡ T → k № m ≡ task № T
not_task task m T l e = let z : m ≡ T = omega arith in ap (λ (y : ℕ). task № y) z
not_task data_item m T l e = absurd (let z : ⊥ = omega arith in z)
not_task candidate m T l e = absurd (let z : ⊥ = omega arith in z)
not_task argument m T l e = absurd (let z : ⊥ = omega arith in z)
not_task parameter m T l e = absurd (let z : ⊥ = omega arith in z)
not_task source m T l e = absurd (let z : ⊥ = omega arith in z)
not_task warning_condition m T l e = absurd (let z : ⊥ = omega arith in z)

-- a number of a row, of a component that has one in the tables
pub record Small (c : Component) : Type 0 where
  pub few : (k : Kind) (m : ℕ) → c ≡ k № m → m < 65536

same_kind : (k : Kind) (m d : ℕ) → d < 64 → m < 65536 → component_code (k № m) ≡ 65536 + d → k № m ≡ data_item № d
same_kind task m d l i e = absurd (let z : ⊥ = omega arith in z)
same_kind data_item m d l i e = let z : m ≡ d = omega arith in ap (λ (y : ℕ). data_item № y) z
same_kind candidate m d l i e = absurd (let z : ⊥ = omega arith in z)
same_kind argument m d l i e = absurd (let z : ⊥ = omega arith in z)
same_kind parameter m d l i e = absurd (let z : ⊥ = omega arith in z)
same_kind source m d l i e = absurd (let z : ⊥ = omega arith in z)
same_kind warning_condition m d l i e = absurd (let z : ⊥ = omega arith in z)

pub column_of : {c : Component} {p : Property} {x y : ℕ} → Spot c p x y → (b : ℕ) × Column p b × Numbered (component_code c) b x y
column_of (of_task {c} {p} {T} k l) =
    let z = column_place k in
    (c, column_at k, as_task z.0 z.2 z.1 (omega arith) (omega arith) (omega arith))
column_of (of_item {d} l) = (648, requested_at, as_item refl d l (omega arith) refl refl)

a_component : {c e : Component} {p : Property} {x y : ℕ} → Spot c p x y → Small e → component_code e ≡ component_code c → e ≡ c
a_component {e = k № m} (of_task {T = T} h l) f q = not_task k m T l (q ∙ (let z : component_code (task № T) ≡ T = omega arith in z))
a_component {e = k № m} (of_item {d} l) f q = same_kind k m d l (f.few k m refl) (q ∙ (let z : component_code (data_item № d) ≡ 65536 + d = omega arith in z))

-- ---- the rows

-- each of the n rows of the Changes table is some row
abbrev pub Readable : List ℕ → ℕ → Type 0
Readable o n = (i : ℕ) → i < n → (c : Component) × (p : Property) × (r : RowValue) × Says o i c p r × Small c

-- one of the first k rows gives the property p of c the value r
abbrev pub Named : List ℕ → ℕ → Component → Property → RowValue → Type 0
Named o k c p r = (i : ℕ) × (i < k) × Says o i c p r

-- the cells x and y in v: those of the last row that named (c, p), or of s
pub data Point (s o : List ℕ) (k : ℕ) (v : List ℕ) (c : Component) (p : Property) (x y : ℕ) : Type 0 where
  given : (r : RowValue) → Named o k c p r → Cell (get_or v x 0) (get_or v y 0) (some r) → Point s o k v c p x y
  stays : ((r : RowValue) → ¬ Named o k c p r) → get_or v x 0 ≡ get_or s x 0 → get_or v y 0 ≡ get_or s y 0 → Point s o k v c p x y

abbrev pub Upto : List ℕ → List ℕ → ℕ → ℕ → List ℕ → Type 0
Upto s o n k v = Readable o n → 776 ≤ length s → (c : Component) (p : Property) (x y : ℕ) → Spot c p x y → Point s o k v c p x y

pub upto_none : (s o : List ℕ) (n : ℕ) → Upto s o n 0 s
upto_none s o n h l c p x y z = stays (λ r w. not-suc-le-zero w.1) refl refl

-- ---- one row more

-- what the code writes for a row with the component code a, the column b, the tag k and the number n
pub record Writes (s : List ℕ) (a b k n : ℕ) (q : List ℕ) : Type 0 where
  pub size : length q ≡ length s
  pub of_task : a < 32 → b < 648 → b + a + 32 < length s → q ≡ set (set s (b + a) k) (b + a + 32) n
  pub of_item : (d : ℕ) → d < 64 → a ≡ 65536 + d → b ≡ 648 → 712 + d < length s → q ≡ set (set s (648 + d) k) (712 + d) n
  pub other : ¬ ((a < 32) × (b < 648)) → ¬ ((d : ℕ) × (d < 64) × (a ≡ 65536 + d) × (b ≡ 648)) → q ≡ s
  -- nothing behind the rows is written
  pub behind : (i : ℕ) → 776 ≤ i → get_or q i 0 ≡ get_or s i 0
  pub front : (i : ℕ) → i < 8 → 8 ≤ b → get_or q i 0 ≡ get_or s i 0

-- a tag and a number
pub record Puts (s : List ℕ) (i j k n : ℕ) (q : List ℕ) : Type 0 where
  pub size : length q ≡ length s
  pub both : i < length s → j < length s → q ≡ set (set s i k) j n
  pub other : (m : ℕ) → ¬ (m ≡ i) → ¬ (m ≡ j) → get_or q m 0 ≡ get_or s m 0

pub writes_task : (s : List ℕ) (a b k n : ℕ) (q : List ℕ) {i : ℕ} → a < 32 → b < 648 → i ≡ b + a → Puts s i (i + 32) k n q → Writes s a b k n q
writes_task s a b k n q {i} l m e w =
    record {
      size = w.size;
      of_task = λ x y z. subst (λ (j : ℕ). q ≡ set (set s j k) (j + 32) n) e (w.both (omega arith) (omega arith));
      of_item = λ d x y z u. absurd (let v : ⊥ = omega arith in v);
      other = λ x y. absurd (x (l, m));
      behind = λ j x. w.other j (λ z. omega arith) (λ z. omega arith);
      front = λ j x y. w.other j (λ z. omega arith) (λ z. omega arith);
    }

pub writes_item : (s : List ℕ) (a b k n : ℕ) (q : List ℕ) {d : ℕ} → ¬ (a < 32) → b ≡ 648 → 65536 ≤ a → a < 65600 → d ≡ a - 65536 → Puts s (648 + d) (712 + d) k n q → Writes s a b k n q
writes_item s a b k n q {d} l e m o f w =
    record {
      size = w.size;
      of_task = λ x y z. absurd (l x);
      of_item = λ c x y z u. (let v : d ≡ c = omega arith in subst (λ (j : ℕ). q ≡ set (set s (648 + j) k) (712 + j) n) v (w.both (omega arith) (omega arith)));
      other = λ x y. absurd (y (d, omega arith, omega arith, e));
      behind = λ j x. w.other j (λ z. omega arith) (λ z. omega arith);
      front = λ j x y. w.other j (λ z. omega arith) (λ z. omega arith);
    }

pub writes_none : (s : List ℕ) (a b k n : ℕ) → ¬ ((a < 32) × (b < 648)) → ¬ ((65536 ≤ a) × (a < 65600) × (b ≡ 648)) → Writes s a b k n s
writes_none s a b k n f g =
    record {
      size = refl;
      of_task = λ x y z. absurd (f (x, y));
      of_item = λ d x y z u. absurd (g (omega arith, omega arith, z));
      other = λ x y. refl;
      behind = λ j x. refl;
      front = λ j x y. refl;
    }

pub two_set : (s : List ℕ) (i j k n m : ℕ) → ¬ (m ≡ i) → ¬ (m ≡ j) → get_or (set (set s i k) j n) m 0 ≡ get_or s m 0
two_set s i j k n m e f = get_or-set_other (set s i k) j m n 0 f ∙ get_or-set_other s i m k 0 e

-- two cells stay
abbrev Kept : List ℕ → List ℕ → ℕ → ℕ → Type 0
Kept s q x y = (get_or q x 0 ≡ get_or s x 0) × (get_or q y 0 ≡ get_or s y 0)

same : (s q : List ℕ) (x y : ℕ) → q ≡ s → Kept s q x y
same s q x y e = (ap (λ (i : List ℕ). get_or i x 0) e, ap (λ (i : List ℕ). get_or i y 0) e)

module _ (s : List ℕ) (a b k n : ℕ) (q : List ℕ) (w : Writes s a b k n q) (room : 776 ≤ length s) {α β x y : ℕ} where
  -- the row is that of the spot
  written : Numbered α β x y → a ≡ α → b ≡ β → (get_or q x 0 ≡ k) × (get_or q y 0 ≡ n)
  written (as_task j lj eb la ex ey) e f =
      let q' = w.of_task (omega arith) (omega arith) (omega arith) in
      let u : x ≡ b + a = omega arith in
      let v : y ≡ b + a + 32 = omega arith in (
        ap (λ (i : List ℕ). get_or i x 0) q' ∙ ap (λ (i : ℕ). get_or (set (set s (b + a) k) (b + a + 32) n) i 0) u ∙ get_or-set_other (set s (b + a) k) (b + a + 32) (b + a) n 0 (λ z. omega arith) ∙ get_or-set_same s (b + a) k 0 (omega arith),
        ap (λ (i : List ℕ). get_or i y 0) q' ∙ ap (λ (i : ℕ). get_or (set (set s (b + a) k) (b + a + 32) n) i 0) v ∙ get_or-set_same (set s (b + a) k) (b + a + 32) n 0 (simp length-set (omega arith)),
      )
  written (as_item eb d ld ea ex ey) e f =
      let q' = w.of_item d ld (e ∙ ea) (f ∙ eb) (omega arith) in (
        ap (λ (i : List ℕ). get_or i x 0) q' ∙ ap (λ (i : ℕ). get_or (set (set s (648 + d) k) (712 + d) n) i 0) ex ∙ get_or-set_other (set s (648 + d) k) (712 + d) (648 + d) n 0 (λ z. omega arith) ∙ get_or-set_same s (648 + d) k 0 (omega arith),
        ap (λ (i : List ℕ). get_or i y 0) q' ∙ ap (λ (i : ℕ). get_or (set (set s (648 + d) k) (712 + d) n) i 0) ey ∙ get_or-set_same (set s (648 + d) k) (712 + d) n 0 (simp length-set (omega arith)),
      )

  -- it is another's
  left : Numbered α β x y → (j : ℕ) → b ≡ 8 + 64 * j → ¬ ((a ≡ α) × (b ≡ β)) → Kept s q x y
  left h j eb off = go (dec_lt a 32) (dec_lt b 648)
    where
      task_away : a < 32 → b < 648 → Numbered α β x y → (¬ (x ≡ b + a)) × (¬ (x ≡ b + a + 32)) × (¬ (y ≡ b + a)) × (¬ (y ≡ b + a + 32))
      task_away l m (as_task i li ei la ex ey) = (λ z. off (omega arith, omega arith), λ z. omega arith, λ z. omega arith, λ z. off (omega arith, omega arith))
      task_away l m (as_item ei d ld ea ex ey) = (λ z. omega arith, λ z. omega arith, λ z. omega arith, λ z. omega arith)

      item_away : (d : ℕ) → d < 64 → a ≡ 65536 + d → b ≡ 648 → Numbered α β x y → (¬ (x ≡ 648 + d)) × (¬ (x ≡ 712 + d)) × (¬ (y ≡ 648 + d)) × (¬ (y ≡ 712 + d))
      item_away d l m e (as_task i li ei la ex ey) = (λ z. omega arith, λ z. omega arith, λ z. omega arith, λ z. omega arith)
      item_away d l m e (as_item ei c ld ea ex ey) = (λ z. off (omega arith, omega arith), λ z. omega arith, λ z. omega arith, λ z. off (omega arith, omega arith))

      item : Dec ((d : ℕ) × (d < 64) × (a ≡ 65536 + d) × (b ≡ 648)) → ¬ ((a < 32) × (b < 648)) → Kept s q x y
      item (yes z) m =
          let e = w.of_item z.0 z.1 z.2 z.3 (let i = z.1 in omega arith) in
          let f = item_away z.0 z.1 z.2 z.3 h in
          (ap (λ (i : List ℕ). get_or i x 0) e ∙ two_set s (648 + z.0) (712 + z.0) k n x f.0 f.1, ap (λ (i : List ℕ). get_or i y 0) e ∙ two_set s (648 + z.0) (712 + z.0) k n y f.2 f.3)
      item (no z) m = same s q x y (w.other m z)

      item? : Dec ((d : ℕ) × (d < 64) × (a ≡ 65536 + d) × (b ≡ 648))
      item? = at (dec_lt a 65536) (dec_lt a 65600) (ℕ_discrete b 648)
        where
          at : Dec (a < 65536) → Dec (a < 65600) → Dec (b ≡ 648) → Dec ((d : ℕ) × (d < 64) × (a ≡ 65536 + d) × (b ≡ 648))
          at (yes u) v m = no (λ z. let i = z.2 in omega arith)
          at (no u) (no v) m = no (λ z. let i = z.2 in let i2 = z.1 in omega arith)
          at (no u) (yes v) (no m) = no (λ z. m z.3)
          at (no u) (yes v) (yes m) = yes (a - 65536, omega arith, omega arith, m)

      go : Dec (a < 32) → Dec (b < 648) → Kept s q x y
      go (yes l) (yes m) =
          let e = w.of_task l m (omega arith) in
          let f = task_away l m h in
          (ap (λ (i : List ℕ). get_or i x 0) e ∙ two_set s (b + a) (b + a + 32) k n x f.0 f.1, ap (λ (i : List ℕ). get_or i y 0) e ∙ two_set s (b + a) (b + a + 32) k n y f.2 f.3)
      go (yes l) (no m) = item item? (λ z. m z.1)
      go (no l) m = item item? (λ z. l z.0)

pub upto_more : (s o : List ℕ) (n k : ℕ) (v q : List ℕ) {a b g u : ℕ} → k < n → length v ≡ length s → a ≡ get_or o (4 * k) 0 → b ≡ get_or o (4 * k + 1) 0 → g ≡ get_or o (4 * k + 2) 0 → u ≡ get_or o (4 * k + 3) 0
    → Writes v a b g u q → Upto s o n k v → Upto s o n (k + 1) q
upto_more s o n k v q {a} {b} {g} {u} lk len ea eb eg eu wr h read room c p x y spot = split (ℕ_discrete a (component_code c)) (ℕ_discrete b mine.0)
  where
    before : Point s o k v c p x y
    before = h read room c p x y spot

    says : (d : Component) × (i : Property) × (r : RowValue) × Says o k d i r × Small d
    says = read k lk

    place : (j : ℕ) × (b ≡ 8 + 64 * j) × (j < 13)
    place = let z = said_place says.3.property in (z.0, eb ∙ z.1, z.2)

    mine : (i : ℕ) × Column p i × Numbered (component_code c) i x y
    mine = column_of spot

    wide : 776 ≤ length v
    wide = omega arith

    carried : ((r : RowValue) → ¬ Says o k c p r) → (get_or q x 0 ≡ get_or v x 0) × (get_or q y 0 ≡ get_or v y 0) → Point s o k v c p x y → Point s o (k + 1) q c p x y
    carried never e (given r z d) =
        given r (z.0, (let i = z.1 in omega arith), z.2) (subst (λ (i : ℕ). Cell i (get_or q y 0) (some r)) (sym e.0) (subst (λ (i : ℕ). Cell (get_or v x 0) i (some r)) (sym e.1) d))
    carried never e (stays z d f) = stays unnamed (e.0 ∙ d) (e.1 ∙ f)
      where
        unnamed : (r : RowValue) → ¬ Named o (k + 1) c p r
        unnamed r i = go (dec_lt i.0 k)
          where
            go : Dec (i.0 < k) → ⊥
            go (yes m) = z r (i.0, m, i.2)
            go (no m) = let j : i.0 ≡ k = (let l = i.1 in omega arith) in never r (subst (λ (w : ℕ). Says o w c p r) j i.2)

    stay : ¬ ((a ≡ component_code c) × (b ≡ mine.0)) → Point s o (k + 1) q c p x y
    stay off =
        carried (λ r z. off (ea ∙ z.component, eb ∙ column_same z.property mine.1))
        (left v a b g u q wr wide mine.2 place.0 place.1 off) before

    split : Dec (a ≡ component_code c) → Dec (b ≡ mine.0) → Point s o (k + 1) q c p x y
    split (yes e) (yes f) =
        let r = says.2 in
        let z = written v a b g u q wr wide mine.2 e f in
        let is : says.0 ≡ c = a_component spot says.4 (sym says.3.component ∙ sym ea ∙ e) in
        let to : says.1 ≡ p = sym (said_property says.3.property) ∙ ap property_at (sym eb ∙ f) ∙ said_property mine.1 in
        let own : Says o k c p r = subst (λ (i : Property). Says o k c i r) to (subst (λ (i : Component). Says o k i says.1 r) is says.3) in
        given r (k, omega arith, own) (subst (λ (i : ℕ). Cell i (get_or q y 0) (some r)) (sym (z.0 ∙ eg)) (subst (λ (i : ℕ). Cell (get_or o (4 * k + 2) 0) i (some r)) (sym (z.1 ∙ eu)) own.cell))
    split (yes e) (no f) = stay (λ z. f z.1)
    split (no e) f = stay (λ z. e z.0)

-- ---- all rows; behind and in front of the rows nothing changes

pub record Enacts (s o : List ℕ) (n : ℕ) (v : List ℕ) : Type 0 where
  pub size : length v ≡ length s
  pub rows : 4 * n ≤ length o → Upto s o n n v
  pub behind : (i : ℕ) → 776 ≤ i → get_or v i 0 ≡ get_or s i 0
  pub front : 4 * n ≤ length o → Readable o n → (i : ℕ) → i < 8 → get_or v i 0 ≡ get_or s i 0

pub record SoFar (s o : List ℕ) (n k : ℕ) (v : List ℕ) : Type 0 where
  pub size : length v ≡ length s
  pub rows : Upto s o n k v
  pub behind : (i : ℕ) → 776 ≤ i → get_or v i 0 ≡ get_or s i 0
  pub front : Readable o n → (i : ℕ) → i < 8 → get_or v i 0 ≡ get_or s i 0

pub far_none : (s o : List ℕ) (n : ℕ) → SoFar s o n 0 s
far_none s o n = record { size = refl; rows = upto_none s o n; behind = λ i l. refl; front = λ r i l. refl }

pub far_more : (s o : List ℕ) (n k : ℕ) (v q : List ℕ) {a b g u : ℕ} → k < n → a ≡ get_or o (4 * k) 0 → b ≡ get_or o (4 * k + 1) 0 → g ≡ get_or o (4 * k + 2) 0 → u ≡ get_or o (4 * k + 3) 0
    → Writes v a b g u q → SoFar s o n k v → SoFar s o n (k + 1) q
far_more s o n k v q l ea eb eg eu w h =
    record { size = w.size ∙ h.size; rows = upto_more s o n k v q l h.size ea eb eg eu w h.rows; behind = λ i m. w.behind i m ∙ h.behind i m; front = λ r i m. (let z = said_place (r k l).3.property in let e = z.1 in w.front i m (omega arith) ∙ h.front r i m) }

pub far_all : (s o : List ℕ) (n m k : ℕ) (v : List ℕ) → (4 * n ≤ length o → m ≡ n) → k ≡ m → SoFar s o m k v → Enacts s o n v
far_all s o n m k v e f h =
    record {
      size = h.size;
      rows = λ l. (let i : m ≡ n = e l in let j : k ≡ n = f ∙ i in subst (λ (y : ℕ). Upto s o n y v) j (subst (λ (y : ℕ). Upto s o y k v) i h.rows));
      behind = h.behind;
      front = λ l r. (let i : m ≡ n = e l in h.front (subst (Readable o) (sym i) r));
    }

-- ---- what the state table then shows

-- the rows of the Changes table, n of them, are exactly those of R
pub record Holds (o : List ℕ) (n : ℕ) (R : Cycle.Rows) : Type 0 where
  pub asked : (i : ℕ) → i < n → (c : Component) × (p : Property) × (r : RowValue) × Says o i c p r × R c p r
  pub all : (c : Component) (p : Property) (r : RowValue) → R c p r → (i : ℕ) × (i < n) × Says o i c p r

-- the cells of every spot are those of the row
abbrev pub Spots : List ℕ → Table → Type 0
Spots s t = (c : Component) (p : Property) (x y : ℕ) → Spot c p x y → Cell (get_or s x 0) (get_or s y 0) (t c p)

same_row : {a b : RowValue} → ◌≡◌ {A = Option RowValue} (some a) (some b) → a ≡ b
same_row e = cc

-- R are the rows of the table o, N the published ones: of a spot the same
module _ (s o v : List ℕ) (n : ℕ) (t u : Table) (R N : Cycle.Rows) (held : Holds o n R) (small : (c : Component) (p : Property) (r : RowValue) → R c p r → Small c)
    (agree : (c : Component) (p : Property) (x y : ℕ) (r : RowValue) → Spot c p x y → R c p r ↔ N c p r) (room : 4 * n ≤ length o) (size : 776 ≤ length s)
    (shown : Spots s t) (apart : (c : Component) (p : Property) (x y : ℕ) → Spot c p x y → ¬ Collision N c p) (enacts : Enacts s o n v) (after : (c : Component) (p : Property) → Enacted N c p (t c p) (u c p)) where
  asked_of : {c : Component} {p : Property} {x y i : ℕ} {r : RowValue} → Spot c p x y → i < n → Says o i c p r → N c p r
  asked_of {c} {p} {x} {y} {i} {r} spot m says =
      let z = held.asked i m in
      let w = z.3 in
      let is : z.0 ≡ c = a_component spot (small z.0 z.1 z.2 z.4) (sym w.component ∙ says.component) in
      let to : z.1 ≡ p = sym (said_property w.property) ∙ said_property says.property in
      let eq : z.2 ≡ r = same_row (one_row w.cell says.cell) in
      (agree c p x y r spot).0 (subst (λ (j : RowValue). R c p j) eq (subst (λ (j : Property). R c j z.2) to (subst (λ (j : Component). R j z.1 z.2) is z.4)))

  pub enacted : Spots v u
  enacted c p x y spot = go (enacts.rows room (λ i m. (let z = held.asked i m in (z.0, z.1, z.2, z.3, small z.0 z.1 z.2 z.4))) size c p x y spot) (after c p)
    where
      go : Point s o n v c p x y → {w : Option RowValue} → Enacted N c p (t c p) w → Cell (get_or v x 0) (get_or v y 0) w
      go (given r z d) (not_named f) = absurd (f r (asked_of spot z.1 z.2))
      go (given r z d) (enact_c {r = q} f) = subst (λ (j : RowValue). Cell (get_or v x 0) (get_or v y 0) (some j)) (f.only r (asked_of spot z.1 z.2)) d
      go (given r z d) (enact_d f) = absurd (apart c p x y spot f)
      go (stays z e f) (not_named g) = let d = shown c p x y spot in record { plain = d.plain; its_tag = e ∙ d.its_tag; its_number = f ∙ d.its_number }
      go (stays z e f) (enact_c {r = q} g) = absurd (z q (held.all c p q ((agree c p x y q spot).1 g.row)))
      go (stays z e f) (enact_d g) = absurd (apart c p x y spot g)
