-- Law: the opened table holds the rows of the initial table that calls and cycles change. By the property of a row: of these load adds the state alone.
use Rattle.std.specs.Prelude.{ℕ, ◌+◌, ◌*◌, ◌<◌, ◌≤◌, ◌≡◌, refl, List, get_or, length}
use Rattle.std.proofs.Common.{arith, sym, ap, subst, ◌∙◌, inl, inr}
use Rattle.std.proofs.Math.Decide.{dec_lt}
use Rattle.std.proofs.Math.Option.{Option, none, some}
use Rattle.paper_expressions.specs.Values.{dormant}
use Rattle.paper_expressions.proofs.Laws.Search.{no_clash}
use Rattle.paper_guideline.specs.Structure.{TopLevel, tasks}
use Rattle.paper_rows.specs.Table.{task, data_item, Component, ◌№◌, Property, state, value, RowValue, state_is, Table}
use Rattle.paper_rows.specs.Load.{Adds, task_3, Initial}
use Rattle.paper_rows.proofs.Laws.Lists.{at_below, below_at}
use Rattle.paper_rows.proofs.Laws.Lawful.{Lawful, defined}
use Rattle.state.specs.Cell.{Cell, absent, plain_state}
use Rattle.state.specs.Layout.{Rows, TaskColumn, state_column, trigger_column, confirmed_column, count_column, cycles_column, start_column, in_progress_column, discarded_column, completed_column, procedure_column}
use Rattle.state.specs.Items.{Holds}
use Rattle.opening.specs.Opened.{Opened}

-- a row that load doesn't add is not there
no_added : {g : List TopLevel} {t : Table} {c : Component} {p : Property} → Initial g t → ((r : RowValue) → ¬ Adds g c p r) → t c p ≡ none
no_added {g} {t} {c} {p} h f = go (t c p) refl
  where
    go : (o : Option RowValue) → t c p ≡ o → t c p ≡ none
    go none e = e
    go (some r) e = absurd (f r ((h.rows c p r).0 e))

-- no row: no tag, no number
nothing : {k x : ℕ} {o : Option RowValue} → o ≡ none → k ≡ 0 → x ≡ 0 → Cell k x o
nothing {k} {x} e f g = subst (Cell k x) (sym e) (record { plain = absent; its_tag = f; its_number = g })

module _ {g : List TopLevel} {t : Table} {s : List ℕ} (lawful : Lawful g) (first : Initial g t) (small : length (tasks g) ≤ 32) (opened : Opened (length (tasks g)) s) where
  state_there : (T : ℕ) → T < length (tasks g) → t (task № T) state ≡ some (state_is dormant)
  state_there T l = let k = below_at (tasks g) T l in (first.rows (task № T) state (state_is dormant)).1 (task_3 (lawful.reached k.1))

  no_state : (T : ℕ) → ¬ (T < length (tasks g)) → t (task № T) state ≡ none
  no_state T l = no_added first (λ r z. none_added r z)
    where
      none_added : (r : RowValue) → ¬ Adds g (task № T) state r
      none_added r (task_3 z) = l (at_below (defined z))

  cell_at : (T : ℕ) → T < 32 → Dec (T < length (tasks g)) → Cell (get_or s (8 + T) 0) (get_or s (8 + 32 + T) 0) (t (task № T) state)
  cell_at T l (yes k) =
      subst (Cell (get_or s (8 + T) 0) (get_or s (8 + 32 + T) 0)) (sym (state_there T k)) (record { plain = plain_state dormant; its_tag = opened.tags T k; its_number = opened.numbers T k })
  cell_at T l (no k) = nothing (no_state T k) (opened.rest (8 + T) (λ z. omega arith) (inr (omega arith)) (inl (omega arith))) (opened.rest (40 + T) (λ z. omega arith) (inr (omega arith)) (inr (omega arith)))

  -- a column behind that of the states
  empty_at : (c T : ℕ) → 72 ≤ c → {p : Property} → ((r : RowValue) → ¬ Adds g (task № T) p r) → Cell (get_or s (c + T) 0) (get_or s (c + 32 + T) 0) (t (task № T) p)
  empty_at c T l f =
      nothing (no_added first f) (opened.rest (c + T) (λ z. omega arith) (inr (omega arith)) (inr (omega arith))) (opened.rest (c + 32 + T) (λ z. omega arith) (inr (omega arith)) (inr (omega arith)))

  column : {c : ℕ} {p : Property} (T : ℕ) → TaskColumn c p → T < 32 → Cell (get_or s (c + T) 0) (get_or s (c + 32 + T) 0) (t (task № T) p)
  column T state_column l = cell_at T l (dec_lt T (length (tasks g)))
  column T trigger_column l = empty_at 72 T (omega arith) (λ r z. elim z [ ])
  column T confirmed_column l = empty_at 136 T (omega arith) (λ r z. elim z [ ])
  column T count_column l = empty_at 200 T (omega arith) (λ r z. elim z [ ])
  column T cycles_column l = empty_at 264 T (omega arith) (λ r z. elim z [ ])
  column T start_column l = empty_at 328 T (omega arith) (λ r z. elim z [ ])
  column T in_progress_column l = empty_at 392 T (omega arith) (λ r z. elim z [ ])
  column T discarded_column l = empty_at 456 T (omega arith) (λ r z. elim z [ ])
  column T completed_column l = empty_at 520 T (omega arith) (λ r z. elim z [ ])
  column T procedure_column l = empty_at 584 T (omega arith) (λ r z. elim z [ ])

  past_all : {c : ℕ} {p : Property} (T : ℕ) → TaskColumn c p → 32 < T + 1 → t (task № T) p ≡ none
  past_all T state_column l = no_state T (λ k. omega arith)
  past_all T trigger_column l = no_added first (λ r z. elim z [ ])
  past_all T confirmed_column l = no_added first (λ r z. elim z [ ])
  past_all T count_column l = no_added first (λ r z. elim z [ ])
  past_all T cycles_column l = no_added first (λ r z. elim z [ ])
  past_all T start_column l = no_added first (λ r z. elim z [ ])
  past_all T in_progress_column l = no_added first (λ r z. elim z [ ])
  past_all T discarded_column l = no_added first (λ r z. elim z [ ])
  past_all T completed_column l = no_added first (λ r z. elim z [ ])
  past_all T procedure_column l = no_added first (λ r z. elim z [ ])

  pub first_rows : Rows s t
  first_rows =
      record {
        tasks = λ {c} {p} {T} k l. column T k l;
        past = λ T k l. past_all T k l;
        asked = λ {d} l. nothing (no_added first (λ r z. elim z [ ])) (opened.rest (648 + d) (λ z. omega arith) (inr (omega arith)) (inr (omega arith))) (opened.rest (712 + d) (λ z. omega arith) (inr (omega arith)) (inr (omega arith)));
      }

  pub no_value : (d : ℕ) → t (data_item № d) value ≡ none
  no_value d = no_added first (λ r z. elim z [ ])

  -- no value, where the bytes of texts are zero
  pub first_items : (b : List ℕ) (d e p : ℕ) → d < 64 → ((i : ℕ) → get_or b (e + i) 0 ≡ 0) → Holds s (776 + 17 * d) (1864 + 17 * d) b e p none
  first_items b d e p l z =
      record {
        limited = λ w y. absurd (no_clash (cc));
        shape = zero_at (776 + 17 * d) (omega arith);
        there = zero_at (1864 + 17 * d) (omega arith);
        tags = λ j k. zero_at (776 + 17 * d + 1 + j) (omega arith);
        numbers = λ j k. zero_at (1864 + 17 * d + 1 + j) (omega arith);
        bytes = λ j k m n. (let i : e + 48 * j + k ≡ e + (48 * j + k) = omega arith in ap (λ (y : ℕ). get_or b y 0) i ∙ z (48 * j + k));
      }
    where
      zero_at : (i : ℕ) → 776 ≤ i → get_or s i 0 ≡ 0
      zero_at i k = opened.rest i (λ y. omega arith) (inr (omega arith)) (inr (omega arith))
