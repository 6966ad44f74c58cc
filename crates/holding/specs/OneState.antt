-- The tables hold one state only: one Properties table, one flag, one time. Rows that move by their cells, all others by load.
use Rattle.std.specs.Prelude.{ℕ, ◌+◌, ◌*◌, ◌<◌, ◌≤◌, ◌≡◌, refl, Bool, true, false, ◌⊎◌, List}
use Rattle.std.proofs.Common.{arith, sym, ap, subst, ◌∙◌, inl, inr}
use Rattle.std.proofs.Math.Decide.{dec_lt}
use Rattle.std.proofs.Math.Path.{fun_ext}
use Rattle.std.proofs.Math.Option.{Option, none, some}
use Rattle.paper_expressions.proofs.Laws.Search.{no_clash}
use Rattle.paper_expressions.specs.Values.{Value}
use Rattle.paper_guideline.specs.Structure.{TopLevel}
use Rattle.paper_rows.specs.Table
use Table.{task, data_item, candidate, argument, parameter, source, warning_condition, Component, ◌№◌, Property, state, trigger_active, confirmed, cycle_count, nbr_cycles_value, start_at, in_progress_time, discarded_time, completed_time, actual_procedure, value, requested, RowValue, value_is}
use Rattle.paper_rows.proofs.Laws.Seen.{value_f}
use Rattle.paper_rows.proofs.Laws.Lists.{at_below}
use Rattle.paper_rows.proofs.Laws.Ranks.{same_property, is_same_property}
use Rattle.paper_engine.proofs.Laws.Kept.{Kept, Moving, state_moves, trigger_moves, confirmed_moves, count_moves, cycles_move, start_moves, in_progress_moves, discarded_moves, completed_moves, procedure_moves, value_moves, requested_moves, There, item_there}
use Rattle.state.specs.Cell.{one_row}
use Rattle.state.specs.Items.{one_value, bit_once}
use Rattle.state.specs.Layout.{TaskColumn, state_column, trigger_column, confirmed_column, count_column, cycles_column, start_column, in_progress_column, discarded_column, completed_column, procedure_column}
use Rattle.holding.specs.Holding.{Holds}
use Rattle.holding.specs.Shown.{kept}

-- ---- which rows move

same? : (p q : Property) → Dec (p ≡ q)
same? p q = go (same_property p q) refl
  where
    go : (b : Bool) → same_property p q ≡ b → Dec (p ≡ q)
    go true e = yes ((is_same_property p q).0 e)
    go false e = no (λ z. no_clash (let y = (is_same_property p q).1 z in cc))

-- a property of tasks has a column, or no row of it moves
column? : (p : Property) → ((c : ℕ) × TaskColumn c p) ⊎ ((T : ℕ) → ¬ Moving (task № T) p)
column? p =
    go (same? p state) (same? p trigger_active) (same? p confirmed) (same? p cycle_count) (same? p nbr_cycles_value) (same? p start_at) (same? p in_progress_time) (same? p discarded_time) (same? p completed_time) (same? p actual_procedure)
  where
    go : Dec (p ≡ state) → Dec (p ≡ trigger_active) → Dec (p ≡ confirmed) → Dec (p ≡ cycle_count) → Dec (p ≡ nbr_cycles_value) → Dec (p ≡ start_at) → Dec (p ≡ in_progress_time) → Dec (p ≡ discarded_time)
        → Dec (p ≡ completed_time) → Dec (p ≡ actual_procedure) → ((c : ℕ) × TaskColumn c p) ⊎ ((T : ℕ) → ¬ Moving (task № T) p)
    go (yes z) b c d e f g h i j = inl (8, subst (TaskColumn 8) (sym z) state_column)
    go (no a) (yes z) c d e f g h i j = inl (72, subst (TaskColumn 72) (sym z) trigger_column)
    go (no a) (no b) (yes z) d e f g h i j = inl (136, subst (TaskColumn 136) (sym z) confirmed_column)
    go (no a) (no b) (no c) (yes z) e f g h i j = inl (200, subst (TaskColumn 200) (sym z) count_column)
    go (no a) (no b) (no c) (no d) (yes z) f g h i j = inl (264, subst (TaskColumn 264) (sym z) cycles_column)
    go (no a) (no b) (no c) (no d) (no e) (yes z) g h i j = inl (328, subst (TaskColumn 328) (sym z) start_column)
    go (no a) (no b) (no c) (no d) (no e) (no f) (yes z) h i j = inl (392, subst (TaskColumn 392) (sym z) in_progress_column)
    go (no a) (no b) (no c) (no d) (no e) (no f) (no g) (yes z) i j = inl (456, subst (TaskColumn 456) (sym z) discarded_column)
    go (no a) (no b) (no c) (no d) (no e) (no f) (no g) (no h) (yes z) j = inl (520, subst (TaskColumn 520) (sym z) completed_column)
    go (no a) (no b) (no c) (no d) (no e) (no f) (no g) (no h) (no i) (yes z) = inl (584, subst (TaskColumn 584) (sym z) procedure_column)
    go (no a) (no b) (no c) (no d) (no e) (no f) (no g) (no h) (no i) (no j) = inr (λ T m. none_moves T m refl)
      where
        none_moves : (T : ℕ) {q : Property} → Moving (task № T) q → p ≡ q → ⊥
        none_moves T state_moves k = a k
        none_moves T trigger_moves k = b k
        none_moves T confirmed_moves k = c k
        none_moves T count_moves k = d k
        none_moves T cycles_move k = e k
        none_moves T start_moves k = f k
        none_moves T in_progress_moves k = g k
        none_moves T discarded_moves k = h k
        none_moves T completed_moves k = i k
        none_moves T procedure_moves k = j k

-- a property of data items is value, requested, or no row of it moves
item? : (p : Property) → (p ≡ value) ⊎ ((p ≡ requested) ⊎ ((d : ℕ) → ¬ Moving (data_item № d) p))
item? p = go (same? p value) (same? p requested)
  where
    go : Dec (p ≡ value) → Dec (p ≡ requested) → (p ≡ value) ⊎ ((p ≡ requested) ⊎ ((d : ℕ) → ¬ Moving (data_item № d) p))
    go (yes e) b = inl e
    go (no a) (yes e) = inr (inl e)
    go (no a) (no b) = inr (inr (λ d m. none_moves d m refl))
      where
        none_moves : (d : ℕ) {q : Property} → Moving (data_item № d) q → p ≡ q → ⊥
        none_moves d value_moves k = a k
        none_moves d requested_moves k = b k

-- ---- one row

same_option : (o q : Option RowValue) → ((r : RowValue) → o ≡ some r → q ≡ some r) → ((r : RowValue) → q ≡ some r → o ≡ some r) → o ≡ q
same_option none none f g = refl
same_option none (some r) f g = g r refl
same_option (some r) q f g = sym (f r refl)

a_value : {r : RowValue} {v : Value} → value_f none ≡ value_f (some r) → r ≡ value_is v → ⊥
a_value {r} {v} e f = let z : value_f none ≡ value_f (some (value_is v)) = subst (λ (y : RowValue). value_f none ≡ value_f (some y)) f e in no_clash (cc)

two_values : {r u : RowValue} {v w : Value} → value_f (some r) ≡ value_f (some u) → r ≡ value_is v → u ≡ value_is w → r ≡ u
two_values {r} {u} {v} {w} e f k =
    let z : value_f (some (value_is v)) ≡ value_f (some (value_is w)) = subst (λ (y : RowValue). value_f (some (value_is v)) ≡ value_f (some y)) k (subst (λ (y : RowValue). value_f (some y) ≡ value_f (some u)) f e) in
    let y : v ≡ w = cc in
    f ∙ ap value_is y ∙ sym k

same_held : (o q : Option RowValue) → ((r : RowValue) → o ≡ some r → (v : Value) × (r ≡ value_is v)) → ((r : RowValue) → q ≡ some r → (v : Value) × (r ≡ value_is v)) → value_f o ≡ value_f q → o ≡ q
same_held none none f g e = refl
same_held none (some r) f g e = absurd (a_value e (g r refl).1)
same_held (some r) none f g e = absurd (a_value (sym e) (f r refl).1)
same_held (some r) (some u) f g e = ap some (two_values e (f r refl).1 (g u refl).1)

nothing : (o : Option RowValue) → ((r : RowValue) → ¬ (o ≡ some r)) → o ≡ none
nothing none f = refl
nothing (some r) f = absurd (f r refl)

module _ {g : List TopLevel} {x b f : List ℕ} {w : List (List Bool)} {s : List ℕ} {t : Table.Table} {flag : Bool} {time : ℕ} (h : Holds g x b f w s t flag time) where
  -- what is past the 64 items has no row that moves
  past_items : (d : ℕ) (p : Property) → ¬ (d < 64) → Moving (data_item № d) p → t (data_item № d) p ≡ none
  past_items d p n m = nothing (t (data_item № d) p) (λ r e. n (few ((kept h).there m e)))
    where
      few : There g (data_item № d) → d < 64
      few (item_there k) = let z = at_below k in let l = h.sized.few_items in omega arith

  held : (d : ℕ) (r : RowValue) → t (data_item № d) value ≡ some r → (v : Value) × (r ≡ value_is v)
  held d r e = let z = (kept h).values e in (z.held, z.is)

module _ {g : List TopLevel} {x b f : List ℕ} {w : List (List Bool)} {s : List ℕ} {t t' : Table.Table} {flag flag' : Bool} {time time' : ℕ}
    (h : Holds g x b f w s t flag time) (k : Holds g x b f w s t' flag' time') where
  fixed : (c : Component) (p : Property) → ¬ Moving c p → t c p ≡ t' c p
  fixed c p n = same_option (t c p) (t' c p) (λ r e. ((kept k).fixed n).1 (((kept h).fixed n).0 e)) (λ r e. ((kept h).fixed n).1 (((kept k).fixed n).0 e))

  of_task : (T : ℕ) (p : Property) → ((c : ℕ) × TaskColumn c p) ⊎ ((U : ℕ) → ¬ Moving (task № U) p) → Dec (T < 32) → t (task № T) p ≡ t' (task № T) p
  of_task T p (inr n) l = fixed (task № T) p (n T)
  of_task T p (inl z) (yes l) = one_row (h.rows.tasks z.1 l) (k.rows.tasks z.1 l)
  of_task T p (inl z) (no l) = h.rows.past T z.1 (omega arith) ∙ sym (k.rows.past T z.1 (omega arith))

  of_value : (d : ℕ) → Dec (d < 64) → t (data_item № d) value ≡ t' (data_item № d) value
  of_value d (yes l) = same_held (t (data_item № d) value) (t' (data_item № d) value) (held h d) (held k d) (one_value (h.values d l) (k.values d l) (λ j i. refl) (λ j i. refl) (λ j i. refl))
  of_value d (no l) = past_items h d value l value_moves ∙ sym (past_items k d value l value_moves)

  of_request : (d : ℕ) → Dec (d < 64) → t (data_item № d) requested ≡ t' (data_item № d) requested
  of_request d (yes l) = one_row (h.rows.asked l) (k.rows.asked l)
  of_request d (no l) = past_items h d requested l requested_moves ∙ sym (past_items k d requested l requested_moves)

  of_item : (d : ℕ) (p : Property) → (p ≡ value) ⊎ ((p ≡ requested) ⊎ ((e : ℕ) → ¬ Moving (data_item № e) p)) → t (data_item № d) p ≡ t' (data_item № d) p
  of_item d p (inl e) = subst (λ (q : Property). t (data_item № d) q ≡ t' (data_item № d) q) (sym e) (of_value d (dec_lt d 64))
  of_item d p (inr (inl e)) = subst (λ (q : Property). t (data_item № d) q ≡ t' (data_item № d) q) (sym e) (of_request d (dec_lt d 64))
  of_item d p (inr (inr n)) = fixed (data_item № d) p (n d)

  row : (c : Component) (p : Property) → t c p ≡ t' c p
  row (task № T) p = of_task T p (column? p) (dec_lt T 32)
  row (data_item № d) p = of_item d p (item? p)
  row (candidate № n) p = fixed (candidate № n) p (λ m. elim m [ ])
  row (argument № n) p = fixed (argument № n) p (λ m. elim m [ ])
  row (parameter № n) p = fixed (parameter № n) p (λ m. elim m [ ])
  row (source № n) p = fixed (source № n) p (λ m. elim m [ ])
  row (warning_condition № n) p = fixed (warning_condition № n) p (λ m. elim m [ ])

  pub one_state : (t ≡ t') × (flag ≡ flag') × (time ≡ time')
  one_state = (fun_ext (λ c. fun_ext (λ p. row c p)), bit_once flag flag' (sym h.flagged ∙ k.flagged), sym h.timed ∙ k.timed)
