-- Law: every cycle, every run and every call keeps the table: the rows of load stay, every task is in one of the four states,
-- every row that moves is of a component that is there and holds an allowed value, and every data item holds unknown or a value of its declared type.
use Rattle.std.specs.Prelude.{ℕ, suc, ◌+◌, ◌≡◌, refl, Bool, true, false, ◌↔◌, ◌⊎◌, List, [], ◌∷◌, ℤ, pos, ◌+ℤ◌}
use Rattle.std.proofs.Common.{sym, ap, subst, ◌∙◌, inl, inr}
use Rattle.std.proofs.Math.Option.{Option, none, some}
use Rattle.paper_expressions.specs.Bytes.{folded, Alike}
use Rattle.paper_expressions.proofs.Laws.Search.{no_clash, at_one}
use Rattle.paper_expressions.specs.Values.{Value, one, unknown, TaskState, dormant, in_progress, discarded, completed}
use Rattle.paper_expressions.specs.Types.{Ty, Declared, inferred, Of, of_scalar, unknown_of_any, Promotes}
use Rattle.paper_expressions.specs.Clauses as Evaluation
use Rattle.paper_expressions.specs.View.{View, Item, At, ResolveData, resolve_data_2}
use Rattle.paper_expressions.specs.Expressions.{Expr, HasType}
use Rattle.paper_expressions.proofs.Laws.Finds.{promote}
use Rattle.paper_guideline.specs.Structure.{TopLevel, DataItem, data_items}
use Rattle.paper_guideline.specs.Refusals.{declared_items}
use Rattle.paper_rows.specs.Table
use Table.{task, data_item, Component, ◌№◌, Property, class, state, cycle_count, data_item_of, nbr_cycles_value, start_at, postcondition, type, value, requested, confirmed, trigger_active}
use Table.{Allowed, allowed_unknown, allowed_state, allowed_count, allowed_cycles, allowed_trigger_active, allowed_requested, allowed_discarded_time, allowed_value, allowed_completed_time, allowed_start_at, allowed_in_progress_time, allowed_confirmed}
use Table.{RowValue, value_is, state_is, class_is, type_is, time_is, assertion_is, component_is, unknown_row, truth_row, integer_row, Table, Contains, TaskId, ViewOf, Assigns}
use Rattle.paper_rows.specs.Load.{Adds, data_item_4b, source_7, Initial}
use Rattle.paper_engine.specs.Conditions.{Evaluate, CycleConditions}
use Rattle.paper_engine.specs.Operations
use Operations.{Initialise, initialise_1, initialise_2, initialise_3, initialise_4, initialise_5, initialise_9a, InitialiseSource, initialise_source, Start, start_1, start_2, start_3, start_4, start_8, start_9, start_12}
use Operations.{Discard, discard_1, discard_3, ResolveTarget, target_2, as_it_is, EnactAssignment, assertion_1, EnactAssertion, assertion_2, SetStartAt, start_at_2, Complete, complete_1, complete_2, complete_3, complete_4, complete_5, Asks, asks_1, asks_2, asks_3, asks_4, Changes, asked_by}
use Rattle.paper_engine.specs.Cycle
use Cycle.{Rows, OnlyRow, Collision, Enacted, not_named, enact_c, enact_d, EnactChanges, Report, State, Runs, stop_quiet, stop_bounded, stop_exception, repeat}
use Rattle.paper_engine.proofs.Laws.CollisionLaws.{Place, own, of_request, of_value, place, Valued, valued, not_valued, changes_same}
use Rattle.paper_rows.proofs.Laws.Lawful.{Lawful, defined}
use Rattle.paper_rows.proofs.Laws.Lists.{at_indexed}
use Rattle.paper_engine.proofs.Laws.Kept
use Kept.{Moving, state_moves, trigger_moves, confirmed_moves, count_moves, cycles_move, start_moves, in_progress_moves, discarded_moves, completed_moves, procedure_moves, value_moves, requested_moves}
use Kept.{There, task_there, item_there, TypedRow, Kept, adds, has, instantiated, fixed_class, fixed_type, fixed_postcondition, item_view, view_f, view_of, view_sound, same_items, one_view}
use Rattle.paper_engine.proofs.Laws.Attached.{Assigned, assigned_typed}
use Rattle.paper_engine.proofs.Laws.ReviewLaws.{ValuedOnce, valued_once}

-- ---- rows that do no harm

-- what the table holds for (C, P) afterwards: what it held, a row that N names, or unknown in a value row
pub data After (N : Rows) (c : Component) (p : Property) (before : Option RowValue) : Option RowValue → Type 0 where
  stays : After N c p before before
  becomes : {r : RowValue} → N c p r → After N c p before (some r)
  lost : {r : RowValue} → Valued c p → N c p r → After N c p before (some unknown_row)

pub record Harmless (g : List TopLevel) (t : Table) (N : Rows) : Type 0 where
  pub moving : {c : Component} {p : Property} {r : RowValue} → N c p r → Moving c p
  pub there : {c : Component} {p : Property} {r : RowValue} → N c p r → There g c
  pub allowed : {c : Component} {p : Property} {r : RowValue} → N c p r → Allowed p r
  pub state_row : {T : ℕ} {r : RowValue} → N (task № T) state r → (s : TaskState) × (r ≡ state_is s)
  pub no_time : {T x : ℕ} → ¬ N (task № T) start_at (time_is x)
  pub no_number : {T : ℕ} {n : ℤ} → ¬ N (task № T) nbr_cycles_value (integer_row n)
  pub typed : {d : ℕ} {r : RowValue} → N (data_item № d) value r → TypedRow t d r

module _ {g : List TopLevel} {t t' : Table} {N : Rows} (kept : Kept g t) (harmless : Harmless g t N) (after : (c : Component) (p : Property) → After N c p (t c p) (t' c p)) where
  still : {c : Component} {p : Property} {o o' : Option RowValue} → ¬ Moving c p → After N c p o o' → o' ≡ o
  still n stays = refl
  still n (becomes h) = absurd (n (harmless.moving h))
  still n (lost v h) = absurd (n (harmless.moving h))

  same_row : (c : Component) (p : Property) → ¬ Moving c p → t' c p ≡ t c p
  same_row c p n = still n (after c p)

  task_still : {T : ℕ} → TaskId t' T → TaskId t T
  task_still {T} h = record { its = h.its; row = sym (same_row (task № T) class fixed_class) ∙ h.row; task_class = h.task_class }

  state_after : {T : ℕ} {o o' : Option RowValue} → After N (task № T) state o o' → (s : TaskState) × (o ≡ some (state_is s)) → (s : TaskState) × (o' ≡ some (state_is s))
  state_after stays k = k
  state_after (becomes h) k = let z = harmless.state_row h in (z.0, ap some z.1)
  state_after (lost v q) k = absurd (not_valued v)

  start_after : {T x : ℕ} {o o' : Option RowValue} → After N (task № T) start_at o o' → ¬ (o ≡ some (time_is x)) → ¬ (o' ≡ some (time_is x))
  start_after stays n e = n e
  start_after {T} {x} (becomes h) n e = harmless.no_time {x = x} (subst (N (task № T) start_at) (cc) h)
  start_after (lost v q) n e = absurd (not_valued v)

  number_after : {T : ℕ} {x : ℤ} {o o' : Option RowValue} → After N (task № T) nbr_cycles_value o o' → ¬ (o ≡ some (integer_row x)) → ¬ (o' ≡ some (integer_row x))
  number_after stays n e = n e
  number_after {T} {x} (becomes h) n e = harmless.no_number {n = x} (subst (N (task № T) nbr_cycles_value) (cc) h)
  number_after (lost v q) n e = absurd (not_valued v)

  value_after : {d : ℕ} {o o' : Option RowValue} {r : RowValue} → After N (data_item № d) value o o' → ((q : RowValue) → o ≡ some q → TypedRow t d q) → o' ≡ some r → TypedRow t d r
  value_after stays f e = f _ e
  value_after {d} (becomes h) f e = subst (TypedRow t d) (cc) (harmless.typed h)
  value_after {d} (lost v q) f e = record { held = one unknown; is = cc; typed = λ k h. of_scalar unknown_of_any }

  typed_still : {d : ℕ} {r : RowValue} → TypedRow t d r → TypedRow t' d r
  typed_still {d} h = record { held = h.held; is = h.is; typed = λ k q. h.typed k (sym (same_row (data_item № d) type fixed_type) ∙ q) }

  there_after : {c : Component} {p : Property} {r : RowValue} {o o' : Option RowValue} → After N c p o o' → (o ≡ some r → There g c) → o' ≡ some r → There g c
  there_after stays f e = f e
  there_after (becomes h) f e = harmless.there h
  there_after (lost v h) f e = harmless.there h

  allowed_after : {c : Component} {p : Property} {r : RowValue} {o o' : Option RowValue} → After N c p o o' → (o ≡ some r → Allowed p r) → o' ≡ some r → Allowed p r
  allowed_after stays f e = f e
  allowed_after {p} (becomes h) f e = subst (Allowed p) (cc) (harmless.allowed h)
  allowed_after {p} (lost v h) f e = subst (Allowed p) (cc) (allowed_unknown {p = p})

  pub after_kept : Kept g t'
  after_kept =
      record {
        fixed = λ {c} {p} {r} n. (λ h. (kept.fixed n).0 (sym (same_row c p n) ∙ h), λ h. same_row c p n ∙ (kept.fixed n).1 h);
        there = λ {c} {p} m h. there_after (after c p) (λ e. kept.there m e) h;
        allowed = λ {c} {p} m h. allowed_after (after c p) (λ e. kept.allowed m e) h;
        states = λ {T} h. state_after (after (task № T) state) (kept.states (task_still h));
        no_start = λ {T} {r} h. start_after (after (task № T) start_at) kept.no_start h;
        no_cycles = λ {T} {n} h. number_after (after (task № T) nbr_cycles_value) kept.no_cycles h;
        values = λ {d} {r} h. typed_still (value_after (after (data_item № d) value) (λ q e. kept.values e) h);
      }

-- ---- the rows of a cycle

initialise_moving : {t : Table} {now T : ℕ} {c : Component} {p : Property} {r : RowValue} → Initialise t now T c p r → Moving c p × Allowed p r
initialise_moving initialise_1 = (state_moves, allowed_state)
initialise_moving initialise_2 = (count_moves, allowed_count)
initialise_moving initialise_3 = (start_moves, allowed_unknown)
initialise_moving initialise_4 = (trigger_moves, allowed_trigger_active)
initialise_moving initialise_5 = (cycles_move, allowed_unknown)
initialise_moving (initialise_9a h) = (procedure_moves, allowed_unknown)

source_moving : {t : Table} {S c : Component} {p : Property} {r : RowValue} → InitialiseSource t S c p r → Moving c p × Allowed p r
source_moving (initialise_source h n) = (requested_moves, allowed_requested)

discard_moving : {t : Table} {now T : ℕ} {c : Component} {p : Property} {r : RowValue} → Discard t now T c p r → Moving c p × Allowed p r
discard_moving discard_1 = (state_moves, allowed_state)
discard_moving discard_3 = (discarded_moves, allowed_discarded_time)

assertion_moving : {t : Table} {T : ℕ} {l : List Assigns} {c : Component} {p : Property} {r : RowValue} → EnactAssertion t T l c p r → Moving c p × Allowed p r
assertion_moving (assertion_2 i (assertion_1 v d e s)) = (value_moves, allowed_value)

complete_moving : {t : Table} {now T : ℕ} {c : Component} {p : Property} {r : RowValue} → Complete t now T c p r → Moving c p × Allowed p r
complete_moving complete_1 = (state_moves, allowed_state)
complete_moving complete_2 = (completed_moves, allowed_completed_time)
complete_moving (complete_3 a h) = assertion_moving h
complete_moving (complete_4 a (start_at_2 n)) = (start_moves, allowed_start_at)
complete_moving (complete_5 n) = (start_moves, allowed_unknown)

-- a state row

no_source_row : {t : Table} {S : Component} {T : ℕ} {p : Property} {r : RowValue} → ¬ InitialiseSource t S (task № T) p r
no_source_row h = elim h [ ]

no_assertion_row : {t : Table} {T U : ℕ} {l : List Assigns} {p : Property} {r : RowValue} → ¬ EnactAssertion t U l (task № T) p r
no_assertion_row (assertion_2 i h) = elim h [ ]

no_start_at_row : {t : Table} {now U T : ℕ} {r : RowValue} → ¬ SetStartAt t now U (task № T) state r
no_start_at_row h = elim h [ ]

start_state : {t : Table} {now U T : ℕ} {r : RowValue} → Start t now U (task № T) state r → (s : TaskState) × (r ≡ state_is s)
start_state start_1 = (in_progress, refl)
start_state (start_9 a b i h) = absurd (no_source_row h)

complete_state : {t : Table} {now U T : ℕ} {r : RowValue} → Complete t now U (task № T) state r → (s : TaskState) × (r ≡ state_is s)
complete_state complete_1 = (completed, refl)
complete_state (complete_3 a h) = absurd (no_assertion_row h)
complete_state (complete_4 a h) = absurd (no_start_at_row h)

initialise_state : {t : Table} {now U T : ℕ} {r : RowValue} → Initialise t now U (task № T) state r → (s : TaskState) × (r ≡ state_is s)
initialise_state initialise_1 = (dormant, refl)

discard_state : {t : Table} {now U T : ℕ} {r : RowValue} → Discard t now U (task № T) state r → (s : TaskState) × (r ≡ state_is s)
discard_state discard_1 = (discarded, refl)

pub asks_state : {t : Table} {now U T : ℕ} {r : RowValue} → Asks t now U (task № T) state r → (s : TaskState) × (r ≡ state_is s)
asks_state (asks_1 v h) = initialise_state h
asks_state (asks_2 v h) = start_state h
asks_state (asks_3 v h) = discard_state h
asks_state (asks_4 v h) = complete_state h

-- a start_at row, a nbr_cycles_value row

initialise_no_time : {t : Table} {now U T x : ℕ} → ¬ Initialise t now U (task № T) start_at (time_is x)
initialise_no_time h = elim h [ ]

start_no_time : {t : Table} {now U T x : ℕ} → ¬ Start t now U (task № T) start_at (time_is x)
start_no_time (start_9 a b i h) = no_source_row h

discard_no_time : {t : Table} {now U T : ℕ} {r : RowValue} → ¬ Discard t now U (task № T) start_at r
discard_no_time h = elim h [ ]

complete_no_time : {t : Table} {now U T x : ℕ} → ¬ CycleConditions t U → ¬ Complete t now U (task № T) start_at (time_is x)
complete_no_time n (complete_3 a h) = no_assertion_row h
complete_no_time n (complete_4 a h) = n a

initialise_no_number : {t : Table} {now U T : ℕ} {n : ℤ} → ¬ Initialise t now U (task № T) nbr_cycles_value (integer_row n)
initialise_no_number h = elim h [ ]

start_no_number : {t : Table} {now U T : ℕ} {r : RowValue} → ¬ Start t now U (task № T) nbr_cycles_value r
start_no_number (start_9 a b i h) = no_source_row h

discard_no_number : {t : Table} {now U T : ℕ} {r : RowValue} → ¬ Discard t now U (task № T) nbr_cycles_value r
discard_no_number h = elim h [ ]

no_start_at_number : {t : Table} {now U T : ℕ} {r : RowValue} → ¬ SetStartAt t now U (task № T) nbr_cycles_value r
no_start_at_number h = elim h [ ]

complete_no_number : {t : Table} {now U T : ℕ} {r : RowValue} → ¬ Complete t now U (task № T) nbr_cycles_value r
complete_no_number (complete_3 a h) = no_assertion_row h
complete_no_number (complete_4 a h) = no_start_at_number h

asks_no_number : {t : Table} {now U T : ℕ} {n : ℤ} → ¬ Asks t now U (task № T) nbr_cycles_value (integer_row n)
asks_no_number (asks_1 v h) = initialise_no_number h
asks_no_number (asks_2 v h) = start_no_number h
asks_no_number (asks_3 v h) = discard_no_number h
asks_no_number (asks_4 v h) = complete_no_number h

module _ {g : List TopLevel} {t : Table} (lawful : Lawful g) (kept : Kept g t) where
  pub never_cycles : {T : ℕ} → ¬ CycleConditions t T
  never_cycles c = kept.no_cycles c.clause_1b

  asks_no_time : {now U T x : ℕ} → ¬ Asks t now U (task № T) start_at (time_is x)
  asks_no_time (asks_1 v h) = initialise_no_time h
  asks_no_time (asks_2 v h) = start_no_time h
  asks_no_time (asks_3 v h) = discard_no_time h
  asks_no_time (asks_4 v h) = complete_no_time never_cycles h

  -- ---- a value row is typed

  -- the value of an expression that has a type
  value_typed : {T : ℕ} {e : Expr} {u : Ty} {w : Value} → HasType (declared_items g) T e u → Evaluate t e T w → Of w u
  value_typed {T} {e} {u} {w} h z = let k = valued_once lawful kept h in subst (λ (x : Value). Of x u) (sym (k.only w z)) k.typed

  fitting_value : {w : Value} {u y : Ty} → Of w u → (u ≡ y) ⊎ Promotes u y → Of w y
  fitting_value {w} h (inl e) = subst (Of w) e h
  fitting_value h (inr p) = promote p h

  -- the item that an assigned name resolves to
  resolved : {T d : ℕ} {a : Assigns} {v : View} (k : Assigned g T a) → ViewOf t v → ResolveTarget v a.target d → k.number ≡ d
  resolved {T} {d} {a} {v} k o r =
      go k.resolves (subst (λ (x : View). ResolveTarget x a.target d) (one_view o (view_of lawful kept)) r)
    where
      go : {m d : ℕ} {b : Evaluation.Clause} → ResolveData (declared_items g) T a.target b (some m) → ResolveTarget (view_f g t) a.target d → m ≡ d
      go (resolve_data_2 h e) (target_2 i f) =
          let y = (same_items lawful kept).to h in
          (view_sound lawful kept).apart.items y.1 i (ap folded y.2 ∙ e ∙ sym f)

  -- its declared type is that of its row
  type_row_is : {d : ℕ} {x : Item} {k : Declared} → At (declared_items g).items d x → Contains t (data_item № d) type (type_is k) → x.declared ≡ k
  type_row_is {d} {x} {k} h r =
      let y = (same_items lawful kept).to h in
      let z = (((view_of lawful kept).items d y.0).0 y.1).type_row in
      sym y.3 ∙ same_declared (sym z ∙ r)
    where
      same_declared : {a b : Declared} → some (type_is a) ≡ some (type_is b) → a ≡ b
      same_declared e = cc

  assignment_typed : {T d : ℕ} {a : Assigns} {r : RowValue} → Assigned g T a → EnactAssignment t T a (data_item № d) value r → TypedRow t d r
  assignment_typed {T} k (assertion_1 {d} {w} o v e as_it_is) =
      record {
        held = w;
        is = refl;
        typed = λ b q.
            let h = subst (λ (x : ℕ). At (declared_items g).items x k.item) (resolved k o v) k.at in
            subst (λ (x : Declared). Of w (inferred x)) (type_row_is h q) (fitting_value (value_typed k.has_type e) k.fits);
      }

  assertion_typed : {T d : ℕ} {l : List Assigns} {r : RowValue} → Contains t (task № T) postcondition (assertion_is l) → EnactAssertion t T l (data_item № d) value r → TypedRow t d r
  assertion_typed h (assertion_2 i k) = assignment_typed (assigned_typed lawful (adds kept fixed_postcondition h) i) k

  no_source_value : {S : Component} {d : ℕ} {r : RowValue} → ¬ InitialiseSource t S (data_item № d) value r
  no_source_value h = elim h [ ]

  no_initialise_value : {now T d : ℕ} {r : RowValue} → ¬ Initialise t now T (data_item № d) value r
  no_initialise_value h = elim h [ ]

  no_start_value : {now T d : ℕ} {r : RowValue} → ¬ Start t now T (data_item № d) value r
  no_start_value (start_9 a b i h) = no_source_value h

  no_discard_value : {now T d : ℕ} {r : RowValue} → ¬ Discard t now T (data_item № d) value r
  no_discard_value h = elim h [ ]

  no_start_at_value : {now T d : ℕ} {r : RowValue} → ¬ SetStartAt t now T (data_item № d) value r
  no_start_at_value h = elim h [ ]

  complete_typed : {now T d : ℕ} {r : RowValue} → Complete t now T (data_item № d) value r → TypedRow t d r
  complete_typed (complete_3 h k) = assertion_typed h k
  complete_typed (complete_4 a h) = absurd (no_start_at_value h)

  asks_typed : {now T d : ℕ} {r : RowValue} → Asks t now T (data_item № d) value r → TypedRow t d r
  asks_typed (asks_1 v h) = absurd (no_initialise_value h)
  asks_typed (asks_2 v h) = absurd (no_start_value h)
  asks_typed (asks_3 v h) = absurd (no_discard_value h)
  asks_typed (asks_4 v h) = complete_typed h

  -- ---- a cycle

  pub changes_typed : {now d : ℕ} {r : RowValue} → Changes t now (data_item № d) value r → TypedRow t d r
  changes_typed (asked_by i h) = asks_typed h

  -- where the rows of a review stand: its own task, or a data item that is there
  asks_there : {now T : ℕ} {c : Component} {p : Property} {r : RowValue} → TaskId t T → Asks t now T c p r → There g c
  asks_there i h = go (place h) i h
    where
      item_of : {S : Component} {d : ℕ} → Contains t S data_item_of (component_is (data_item № d)) → There g (data_item № d)
      item_of q = from (adds kept fixed_item q)
        where
          fixed_item : {S : Component} → ¬ Moving S data_item_of
          fixed_item h = elim h [ ]

          from : {S : Component} {d : ℕ} → Adds g S data_item_of (component_is (data_item № d)) → There g (data_item № d)
          from (source_7 a b e) = item_there b

      requested_of : {now T d : ℕ} {r : RowValue} → Start t now T (data_item № d) requested r → There g (data_item № d)
      requested_of (start_9 a b i (initialise_source q n)) = item_of q

      asked_request : {now T d : ℕ} {r : RowValue} → Asks t now T (data_item № d) requested r → There g (data_item № d)
      asked_request (asks_1 v q) = absurd (elim q [ ])
      asked_request (asks_2 v q) = requested_of q
      asked_request (asks_3 v q) = absurd (elim q [ ])
      asked_request (asks_4 v q) = absurd (none q)
        where
          none : {now T d : ℕ} {r : RowValue} → ¬ Complete t now T (data_item № d) requested r
          none (complete_3 a (assertion_2 i q)) = elim q [ ]
          none (complete_4 a q) = elim q [ ]

      assigned_there : {T d : ℕ} {l : List Assigns} {r : RowValue} → EnactAssertion t T l (data_item № d) value r → There g (data_item № d)
      assigned_there (assertion_2 i (assertion_1 {v} {d} o (target_2 {x} q e) w s)) = view_item (((view_of lawful kept).items d x).1 ((o.items d x).0 q))
        where
          view_item : {d : ℕ} {x : Item} → At (view_f g t).items d x → There g (data_item № d)
          view_item q = item_there (at_indexed (item_view t) (data_items g) q).1

      asked_value : {now T d : ℕ} {r : RowValue} → Asks t now T (data_item № d) value r → There g (data_item № d)
      asked_value (asks_1 v q) = absurd (elim q [ ])
      asked_value (asks_2 v q) = absurd (none q)
        where
          none : {now T d : ℕ} {r : RowValue} → ¬ Start t now T (data_item № d) value r
          none (start_9 a b i q) = elim q [ ]
      asked_value (asks_3 v q) = absurd (elim q [ ])
      asked_value (asks_4 v (complete_3 a q)) = assigned_there q
      asked_value (asks_4 v (complete_4 a q)) = absurd (elim q [ ])

      go : {now T : ℕ} {c : Component} {p : Property} {r : RowValue} → Place T c p r → TaskId t T → Asks t now T c p r → There g c
      go own i h = task_there (defined (instantiated kept i).1)
      go of_request i h = asked_request h
      go of_value i h = asked_value h

  -- a cycle_count that Start asks for is no negative number, for none is
  counted : {T : ℕ} {n : ℤ} → Contains t (task № T) cycle_count (integer_row n) → (m : ℕ) × (n ≡ pos m)
  counted h = go (kept.allowed count_moves h) refl
    where
      go : {p : Property} {n : ℤ} → Allowed p (integer_row n) → p ≡ cycle_count → (m : ℕ) × (n ≡ pos m)
      go (allowed_count {n = m}) e = (m, refl)
      go (allowed_cycles {n = m}) e = (suc m, refl)
      go allowed_value e = absurd (no_clash (cc))

  one_more : (m : ℕ) → pos m +ℤ pos 1 ≡ pos (m + 1)
  one_more m = refl

  start_moving : {now T : ℕ} {c : Component} {p : Property} {r : RowValue} → Start t now T c p r → Moving c p × Allowed p r
  start_moving start_1 = (state_moves, allowed_state)
  start_moving start_2 = (start_moves, allowed_unknown)
  start_moving start_3 = (in_progress_moves, allowed_in_progress_time)
  start_moving (start_4 {n} h) = let k = counted h in (count_moves, subst (λ (x : ℤ). Allowed cycle_count (integer_row (x +ℤ pos 1))) (sym k.1) (subst (λ (x : ℤ). Allowed cycle_count (integer_row x)) (sym (one_more k.0)) allowed_count))
  start_moving start_8 = (confirmed_moves, allowed_confirmed)
  start_moving (start_9 a b i h) = source_moving h
  start_moving (start_12 h n) = (procedure_moves, allowed_unknown)

  asks_moving : {now T : ℕ} {c : Component} {p : Property} {r : RowValue} → Asks t now T c p r → Moving c p × Allowed p r
  asks_moving (asks_1 v h) = initialise_moving h
  asks_moving (asks_2 v h) = start_moving h
  asks_moving (asks_3 v h) = discard_moving h
  asks_moving (asks_4 v h) = complete_moving h

  changes_harmless : (now : ℕ) → Harmless g t (Changes t now)
  changes_harmless now = record { moving = moving; there = there; allowed = allowed; state_row = state_row; no_time = no_time; no_number = no_number; typed = changes_typed }
    where
      moving : {c : Component} {p : Property} {r : RowValue} → Changes t now c p r → Moving c p
      moving (asked_by i h) = (asks_moving h).0

      there : {c : Component} {p : Property} {r : RowValue} → Changes t now c p r → There g c
      there (asked_by i h) = asks_there i h

      allowed : {c : Component} {p : Property} {r : RowValue} → Changes t now c p r → Allowed p r
      allowed (asked_by i h) = (asks_moving h).1

      state_row : {T : ℕ} {r : RowValue} → Changes t now (task № T) state r → (s : TaskState) × (r ≡ state_is s)
      state_row (asked_by i h) = asks_state h

      no_time : {T x : ℕ} → ¬ Changes t now (task № T) start_at (time_is x)
      no_time (asked_by i h) = asks_no_time h

      no_number : {T : ℕ} {n : ℤ} → ¬ Changes t now (task № T) nbr_cycles_value (integer_row n)
      no_number (asked_by i h) = asks_no_number h

  -- only a value row is lost
  enacted_after : {now : ℕ} {c : Component} {p : Property} {o o' : Option RowValue} → Enacted (Changes t now) c p o o' → After (Changes t now) c p o o'
  enacted_after (not_named n) = stays
  enacted_after (enact_c h) = becomes h.row
  enacted_after {now} {c} {p} (enact_d h) = go (changes_same h.other_row h.row)
    where
      go : {o : Option RowValue} → (h.other ≡ h.one) ⊎ Valued c p → After (Changes t now) c p o (some unknown_row)
      go (inl e) = absurd (h.differ e)
      go (inr v) = lost v h.row

  pub cycle_kept : {now : ℕ} {t' : Table} {f f' : Bool} → EnactChanges (Changes t now) t f t' f' → Kept g t'
  cycle_kept {now} h = after_kept kept (changes_harmless now) (λ c p. enacted_after (h.rows c p))

-- ---- a run

pub run_kept : {g : List TopLevel} {now n k : ℕ} {s s' : State} {r : Report} → Lawful g → Kept g s.table → Runs now n k s s' r → Kept g s'.table
run_kept lawful kept (stop_quiet h) = kept
run_kept lawful kept (stop_bounded h p) = kept
run_kept lawful kept (stop_exception h p y) = cycle_kept lawful kept y
run_kept lawful kept (repeat h p y r) = run_kept lawful (cycle_kept lawful kept y) r
