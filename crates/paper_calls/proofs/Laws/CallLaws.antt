-- Laws: one invariant, `Good`, of every state that a series of calls from the empty guideline reaches, refused calls included; and of every call one reply and one state.
use Rattle.std.specs.Prelude.{ℕ, suc, ◌≤◌, ◌<◌, ◌≡◌, refl, Bool, true, false, ◌⊎◌, List, [], ◌∷◌, ℤ}
use Rattle.std.proofs.Common.{arith, sym, ap, subst, ◌∙◌, inl, inr}
use Rattle.std.proofs.Math.Path.{fun_ext}
use Rattle.std.proofs.Math.Option.{Option, none, some}
use Rattle.paper_expressions.proofs.Laws.Search.{no_clash, at_one}
use Rattle.paper_expressions.specs.Values.{Scalar, Value, TaskState, dormant}
use Rattle.paper_expressions.specs.Types.{Declared, inferred, Of}
use Rattle.paper_expressions.specs.View.{At, at_first, at_later}
use Rattle.paper_expressions.proofs.Laws.WithinLimits as Within
use Rattle.paper_guideline.specs.Structure.{TopLevel, Structure}
use Rattle.paper_guideline.proofs.Laws.StructureLaws.{one_structure}
use Rattle.paper_tokens.specs.Lexical.{Token}
use Rattle.paper_tokens.proofs.Laws.LexicalLaws.{one_list}
use Rattle.paper_guideline.specs.Refusals.{Read, Answer, loads, refused, Answers}
use Rattle.paper_guideline.proofs.Laws.RefusalLaws.{one_answer}
use Rattle.paper_rows.specs.Table
use Table.{Allowed, allowed_confirmed, allowed_value, allowed_requested, allowed_trigger_active}
use Table.{Kind, kinds, task, data_item, Component, ◌№◌, Property, properties, state, cycle_count, nbr_cycles_value, parent_plan, trigger, type, value, requested, confirmed, trigger_active, Class}
use Table.{RowValue, value_is, state_is, type_is, time_is, truth_row, text_row, component_is, integer_row, Table, Contains, TaskId, DataItemId}
use Rattle.paper_rows.specs.Bare.{bare_guideline}
use Rattle.paper_rows.specs.Load.{Adds, attribute_5_trigger, task_4, data_item_3, Initial}
use Rattle.paper_engine.specs.Cycle.{Rows, Report}
use Rattle.paper_engine.specs.Cycle as Cycle
use Rattle.paper_calls.specs.Calls
use Calls.{Guideline, State, empty, loaded, Shown, Reply, done, ran, row, refuses, time_limit, SmallText, SmallScalar, small_unknown, small_truth, small_integer, small_real, small_text, Small, small_one, small_list}
use Calls.{Sets, Replaced, replaced, kept, Replaces, ConfirmTask, confirm_2, AddDataValue, add_2a, add_2b, SendTrigger, trigger_1}
use Calls.{ShownAs, shown_value, shown_state, shown_class, shown_type, shown_time, shown_component, there_expression, there_assertion, there_components, RowAt, Reads, a_row, without_row}
use Calls.{Call, Unready, nothing_loaded, flag_set, Calls, Series, no_call, then_call}
use Calls.{load_done, load_refused, run_7, run_6_bound, run_6_lent, run_done, time_7, time_6, time_done, confirm_7, confirm_8, confirm_done, add_7, add_8, add_9, add_9_none, add_6, add_done, trigger_7, trigger_6, trigger_done, read_7, read_done}
use Rattle.paper_rows.proofs.Laws.Lawful.{Lawful, defined}
use Rattle.paper_rows.proofs.Laws.LoadLaws.{lawful}
use Rattle.paper_rows.proofs.Laws.BareLaws.{bare_lawful}
use Rattle.paper_rows.proofs.Laws.InitialLaws.{one_initial}
use Rattle.paper_rows.proofs.Laws.Sized.{Sized, bare_sized}
use Rattle.paper_rows.proofs.Laws.FineLaws.{sized}
use Rattle.paper_rows.proofs.Laws.Seen.{same_some, seen_one, sees_type}
use Rattle.paper_engine.proofs.Laws.CycleLaws.{SameRun, one_run}
use Rattle.paper_engine.proofs.Laws.Kept
use Kept.{Moving, confirmed_moves, value_moves, requested_moves, trigger_moves, There, task_there, item_there, TypedRow, Kept, adds, instantiated, initial_kept, fixed_class}
use Rattle.paper_engine.proofs.Laws.KeptLaws.{After, stays, becomes, Harmless, after_kept, run_kept}
use Rattle.paper_engine.proofs.Laws.StateLaws.{DormantBelow, initial_dormant, run_dormant}
use Rattle.paper_engine.proofs.Laws.CountLaws.{Counted, initial_counted, run_counted}
use Rattle.paper_engine.proofs.Laws.Spelling.{Spelt, spelt_unknown, spelt_truth, spelt_integer, spelt_real, spelt_text, EachSpelt, none_spelt, more_spelt, WellSpelt, one_spelt, list_spelt}
use Rattle.paper_engine.proofs.Laws.LimitLaws as Limit
use Limit.{Fits, initial_fits, run_fits}
use Rattle.paper_engine.proofs.Laws.TimeLaws.{Timely, initial_timely, run_timely}

-- ---- the invariant

pub record GoodTable (g : List TopLevel) (t : Table) : Type 0 where
  -- load's rows stay; each other row is of a component that is there and holds an allowed value; data items are unknown or of their type; no start time yet
  pub kept : Kept g t
  -- and within the limits
  pub fits : Fits t
  -- cycle_count is 0 or 1
  pub counted : Counted t
  -- a dormant task's components are dormant
  pub dormant : DormantBelow t
  -- no row holds a time beyond the limit
  pub timely : Timely time_limit t

pub data Good : State → Type 0 where
  good_empty : Good empty
  good_loaded : {g : Guideline} → Lawful g.structure → Sized g.structure → GoodTable g.structure g.table → g.time ≤ time_limit → Good (loaded g)

-- ---- a run

run_good : {g : List TopLevel} {now n k : ℕ} {s s' : Cycle.State} {r : Report} → Lawful g → Sized g → now ≤ time_limit → GoodTable g s.table → Cycle.Runs now n k s s' r → GoodTable g s'.table
run_good l z m t r =
    record {
      kept = run_kept l t.kept r;
      fits = run_fits l z t.kept t.fits r;
      counted = run_counted l t.kept t.counted r;
      dormant = run_dormant l t.kept t.dormant r;
      timely = run_timely m t.timely r;
    }

-- ---- rows that a call sets

-- none removed, and none of a state, a count or a time
pub record Mild (g : List TopLevel) (t : Table) (N : Sets) : Type 0 where
  pub never_none : {c : Component} {p : Property} → ¬ N c p none
  pub harmless : Harmless g t (λ c p r. N c p (some r))
  pub no_state : {c : Component} {o : Option RowValue} → ¬ N c state o
  pub no_count : {c : Component} {o : Option RowValue} → ¬ N c cycle_count o
  pub no_parent : {c : Component} {o : Option RowValue} → ¬ N c parent_plan o
  pub no_time : {c : Component} {p : Property} {n : ℕ} → ¬ N c p (some (time_is n))
  pub small : {d : ℕ} {w : Value} → N (data_item № d) value (some (value_is w)) → Limit.Within w

module _ {g : List TopLevel} {t t' : Table} {N : Sets} (good : GoodTable g t) (mild : Mild g t N) (sets : Replaces N t t') where
  after : {c : Component} {p : Property} {o o' : Option RowValue} → Replaced N c p o o' → After (λ c p r. N c p (some r)) c p o o'
  after (replaced {after = none} h) = absurd (mild.never_none h)
  after (replaced {after = some r} h) = becomes h
  after (kept n) = stays

  untouched : {c : Component} {p : Property} {o o' : Option RowValue} → ((q : Option RowValue) → ¬ N c p q) → Replaced N c p o o' → o' ≡ o
  untouched n (replaced {after = q} h) = absurd (n q h)
  untouched n (kept m) = refl

  state_same : (c : Component) → t' c state ≡ t c state
  state_same c = untouched (λ q. mild.no_state) (sets c state)

  count_same : (c : Component) → t' c cycle_count ≡ t c cycle_count
  count_same c = untouched (λ q. mild.no_count) (sets c cycle_count)

  parent_same : (c : Component) → t' c parent_plan ≡ t c parent_plan
  parent_same c = untouched (λ q. mild.no_parent) (sets c parent_plan)

  fits_after : {d : ℕ} {w : Value} {o : Option RowValue} → Replaced N (data_item № d) value (t (data_item № d) value) o → o ≡ some (value_is w) → Limit.Within w
  fits_after (replaced {after = none} h) e = absurd (mild.never_none h)
  fits_after {d} (replaced {after = some r} h) e = mild.small (subst (λ (x : RowValue). N (data_item № d) value (some x)) (same_some e) h)
  fits_after (kept n) e = good.fits.fits e

  times_after : {c : Component} {p : Property} {n : ℕ} {o : Option RowValue} → Replaced N c p (t c p) o → o ≡ some (time_is n) → n ≤ time_limit
  times_after (replaced {after = none} h) e = absurd (mild.never_none h)
  times_after {c} {p} (replaced {after = some r} h) e = absurd (mild.no_time (subst (λ (x : RowValue). N c p (some x)) (same_some e) h))
  times_after (kept n) e = good.timely.times e

  pub sets_good : GoodTable g t'
  sets_good =
      record {
        kept = after_kept good.kept mild.harmless (λ c p. after (sets c p));
        fits = record { fits = λ {d} e. fits_after (sets (data_item № d) value) e };
        counted = record {
          small = λ {T} {r} h. good.counted.small (sym (count_same (task № T)) ∙ h);
          fresh = λ {T} {r} h k. good.counted.fresh (sym (count_same (task № T)) ∙ h) (sym (state_same (task № T)) ∙ k);
        };
        dormant = record { below = λ {C} {P} h k. state_same (task № C) ∙ good.dormant.below (sym (parent_same (task № C)) ∙ h) (sym (state_same (task № P)) ∙ k) };
        timely = record { times = λ {c} {p} e. times_after (sets c p) e };
      }

-- so the table stays kept
pub sets_kept : {g : List TopLevel} {t t' : Table} {N : Sets} → Kept g t → Mild g t N → Replaces N t t' → Kept g t'
sets_kept {N = N} k mild sets = after_kept k mild.harmless (λ c p. after (sets c p))
  where
    after : {c : Component} {p : Property} {o o' : Option RowValue} → Replaced N c p o o' → After (λ c p r. N c p (some r)) c p o o'
    after (replaced {after = none} h) = absurd (mild.never_none h)
    after (replaced {after = some r} h) = becomes h
    after (kept n) = stays

-- ---- each call's rows are mild

pub confirm_mild : {g : List TopLevel} {t : Table} {T : ℕ} → Kept g t → TaskId t T → Mild g t (ConfirmTask T)
confirm_mild {g} {t} {T} k i =
    record {
      never_none = never_none;
      harmless = record { moving = moving; there = there; allowed = allowed; state_row = λ h. absurd (no_state h); no_time = no_time; no_number = no_number; typed = λ h. absurd (no_value h) };
      no_state = no_state;
      no_count = no_count;
      no_parent = no_parent;
      no_time = no_time;
      small = λ h. absurd (no_value h);
    }
  where
    never_none : {c : Component} {p : Property} → ¬ ConfirmTask T c p none
    never_none h = elim h [ ]

    no_state : {c : Component} {o : Option RowValue} → ¬ ConfirmTask T c state o
    no_state h = elim h [ ]

    no_count : {c : Component} {o : Option RowValue} → ¬ ConfirmTask T c cycle_count o
    no_count h = elim h [ ]

    no_parent : {c : Component} {o : Option RowValue} → ¬ ConfirmTask T c parent_plan o
    no_parent h = elim h [ ]

    no_time : {c : Component} {p : Property} {n : ℕ} → ¬ ConfirmTask T c p (some (time_is n))
    no_time h = elim h [ ]

    no_number : {c : Component} {o : Option RowValue} → ¬ ConfirmTask T c nbr_cycles_value o
    no_number h = elim h [ ]

    no_value : {c : Component} {o : Option RowValue} → ¬ ConfirmTask T c value o
    no_value h = elim h [ ]

    moving : {c : Component} {p : Property} {r : RowValue} → ConfirmTask T c p (some r) → Moving c p
    moving confirm_2 = confirmed_moves

    there : {c : Component} {p : Property} {r : RowValue} → ConfirmTask T c p (some r) → There g c
    there confirm_2 = task_there (defined (instantiated k i).1)

    allowed : {c : Component} {p : Property} {r : RowValue} → ConfirmTask T c p (some r) → Allowed p r
    allowed confirm_2 = allowed_confirmed

-- a value that is added

small_scalar : {s : Scalar} → SmallScalar s → Within.Small s
small_scalar small_unknown = Within.unknown_small
small_scalar small_truth = Within.truth_small
small_scalar (small_integer h) = Within.integer_small h
small_scalar (small_real h) = Within.real_small h
small_scalar (small_text h) = Within.text_small h.short

spelt_scalar : {s : Scalar} → SmallScalar s → Spelt s
spelt_scalar small_unknown = spelt_unknown
spelt_scalar small_truth = spelt_truth
spelt_scalar (small_integer h) = spelt_integer
spelt_scalar (small_real h) = spelt_real
spelt_scalar (small_text h) = spelt_text (λ i b q. h.ascii q)

each_small : (l : List Scalar) → ((i : ℕ) (s : Scalar) → At l i s → SmallScalar s) → Within.EachSmall l × EachSpelt l
each_small [] f = (Within.none_small, none_spelt)
each_small (s ∷ l) f = let k = each_small l (λ i x h. f (suc i) x (at_later h)) in (Within.more_small (small_scalar (f 0 s at_first)) k.0, more_spelt (spelt_scalar (f 0 s at_first)) k.1)

pub small_within : {w : Value} → Small w → Limit.Within w
small_within (small_one h) = record { limited = Within.one_limited (small_scalar h); spelt = one_spelt (spelt_scalar h) }
small_within (small_list {l} h f) = let k = each_small l f in record { limited = Within.list_limited h k.0; spelt = list_spelt k.1 }

item_defined : {g : List TopLevel} {d : ℕ} {r : RowValue} → Adds g (data_item № d) Table.class r → There g (data_item № d)
item_defined (data_item_3 h) = item_there h

pub add_mild : {g : List TopLevel} {t : Table} {d : ℕ} {w : Value} {k : Declared} → Kept g t → DataItemId t d → Contains t (data_item № d) type (type_is k) → Of w (inferred k) → Small w → Mild g t (AddDataValue d w)
add_mild {g} {t} {d} {w} {k} q i h o s =
    record {
      never_none = never_none;
      harmless = record { moving = moving; there = there; allowed = allowed; state_row = λ x. absurd (no_state x); no_time = no_time; no_number = no_number; typed = typed };
      no_state = no_state;
      no_count = no_count;
      no_parent = no_parent;
      no_time = no_time;
      small = small;
    }
  where
    never_none : {c : Component} {p : Property} → ¬ AddDataValue d w c p none
    never_none h = elim h [ ]

    no_state : {c : Component} {o : Option RowValue} → ¬ AddDataValue d w c state o
    no_state h = elim h [ ]

    no_count : {c : Component} {o : Option RowValue} → ¬ AddDataValue d w c cycle_count o
    no_count h = elim h [ ]

    no_parent : {c : Component} {o : Option RowValue} → ¬ AddDataValue d w c parent_plan o
    no_parent h = elim h [ ]

    no_time : {c : Component} {p : Property} {n : ℕ} → ¬ AddDataValue d w c p (some (time_is n))
    no_time h = elim h [ ]

    no_number : {c : Component} {o : Option RowValue} → ¬ AddDataValue d w c nbr_cycles_value o
    no_number h = elim h [ ]

    moving : {c : Component} {p : Property} {r : RowValue} → AddDataValue d w c p (some r) → Moving c p
    moving add_2a = value_moves
    moving add_2b = requested_moves

    there : {c : Component} {p : Property} {r : RowValue} → AddDataValue d w c p (some r) → There g c
    there add_2a = item_defined (adds q fixed_class i)
    there add_2b = item_defined (adds q fixed_class i)

    allowed : {c : Component} {p : Property} {r : RowValue} → AddDataValue d w c p (some r) → Allowed p r
    allowed add_2a = allowed_value
    allowed add_2b = allowed_requested

    typed : {e : ℕ} {r : RowValue} → AddDataValue d w (data_item № e) value (some r) → TypedRow t e r
    typed add_2a = record { held = w; is = refl; typed = λ b z. subst (λ (x : Declared). Of w (inferred x)) (seen_one sees_type h z) o }

    small : {e : ℕ} {v : Value} → AddDataValue d w (data_item № e) value (some (value_is v)) → Limit.Within v
    small add_2a = small_within s

pub trigger_mild : {g : List TopLevel} {t : Table} (trig : List ℕ) → Kept g t → Mild g t (SendTrigger t trig)
trigger_mild {g} {t} trig k =
    record {
      never_none = never_none;
      harmless = record { moving = moving; there = there; allowed = allowed; state_row = λ h. absurd (no_state h); no_time = no_time; no_number = no_number; typed = λ h. absurd (no_value h) };
      no_state = no_state;
      no_count = no_count;
      no_parent = no_parent;
      no_time = no_time;
      small = λ h. absurd (no_value h);
    }
  where
    never_none : {c : Component} {p : Property} → ¬ SendTrigger t trig c p none
    never_none h = elim h [ ]

    no_state : {c : Component} {o : Option RowValue} → ¬ SendTrigger t trig c state o
    no_state h = elim h [ ]

    no_count : {c : Component} {o : Option RowValue} → ¬ SendTrigger t trig c cycle_count o
    no_count h = elim h [ ]

    no_parent : {c : Component} {o : Option RowValue} → ¬ SendTrigger t trig c parent_plan o
    no_parent h = elim h [ ]

    no_time : {c : Component} {p : Property} {n : ℕ} → ¬ SendTrigger t trig c p (some (time_is n))
    no_time h = elim h [ ]

    no_number : {c : Component} {o : Option RowValue} → ¬ SendTrigger t trig c nbr_cycles_value o
    no_number h = elim h [ ]

    no_value : {c : Component} {o : Option RowValue} → ¬ SendTrigger t trig c value o
    no_value h = elim h [ ]

    moving : {c : Component} {p : Property} {r : RowValue} → SendTrigger t trig c p (some r) → Moving c p
    moving (trigger_1 h q l) = trigger_moves

    its_task : {T : ℕ} {r : RowValue} → Adds g (task № T) trigger r → There g (task № T)
    its_task (attribute_5_trigger (task_4 h q)) = task_there (defined h)

    there : {c : Component} {p : Property} {r : RowValue} → SendTrigger t trig c p (some r) → There g c
    there (trigger_1 h q l) = its_task (adds k (λ x. elim x [ ]) h)

    allowed : {c : Component} {p : Property} {r : RowValue} → SendTrigger t trig c p (some r) → Allowed p r
    allowed (trigger_1 h q l) = allowed_trigger_active

-- ---- every call keeps a good state good

table_of : {g : Guideline} → Good (loaded g) → GoodTable g.structure g.table
table_of (good_loaded l z t m) = t

with_table_good : {g : Guideline} {t : Table} → Good (loaded g) → GoodTable g.structure t → Good (loaded (record { structure = g.structure; table = t; flag = g.flag; time = g.time }))
with_table_good (good_loaded l z t m) k = good_loaded l z k m

after_run : {g : Guideline} {n : ℕ} {t : Table} {f : Bool} {r : Report} → Good (loaded g) → Cycle.Runs g.time n 0 (record { table = g.table; flag = g.flag }) (record { table = t; flag = f }) r
    → Good (loaded (record { structure = g.structure; table = t; flag = f; time = g.time }))
after_run (good_loaded l z t m) r = good_loaded l z (run_good l z m t r) m

after_time : {g : Guideline} {x : ℕ} → Good (loaded g) → x ≤ time_limit → Good (loaded (record { structure = g.structure; table = g.table; flag = g.flag; time = x }))
after_time (good_loaded l z t m) b = good_loaded l z t b

pub load_good : {Short : Type 0} {text : List ℕ} {g : List TopLevel} {t : Table} → Answers Short text loads → Read text g → Initial (bare_guideline g) t
    → Good (loaded (record { structure = bare_guideline g; table = t; flag = false; time = 0 }))
load_good {g} {t} a r i =
    let l = bare_lawful (lawful a r) in
    let k = initial_kept i in
    good_loaded {g = record { structure = bare_guideline g; table = t; flag = false; time = 0 }} l (bare_sized (sized a r)) (record { kept = k; fits = initial_fits i; counted = initial_counted i; dormant = initial_dormant l i k; timely = initial_timely time_limit i }) (let z : 0 ≤ time_limit = omega arith in z)

pub calls_good : {c : Call} {s s' : State} {r : Reply} → Good s → Calls c s r s' → Good s'
calls_good h (load_done a r i) = load_good a r i
calls_good h (load_refused a) = good_empty
calls_good h (run_7 u) = h
calls_good h (run_6_bound n b) = h
calls_good h (run_6_lent n b) = h
calls_good h (run_done n b l r) = after_run h r
calls_good h (time_7 u) = h
calls_good h (time_6 n b) = h
calls_good h (time_done n b) = after_time h b
calls_good h (confirm_7 u) = h
calls_good h (confirm_8 n b) = h
calls_good h (confirm_done n b r) = with_table_good h (sets_good (table_of h) (confirm_mild (table_of h).kept b) r)
calls_good h (add_7 u) = h
calls_good h (add_8 n b) = h
calls_good h (add_9 n b t o) = h
calls_good h (add_9_none n b) = h
calls_good h (add_6 n b t o m) = h
calls_good h (add_done n b t o m r) = with_table_good h (sets_good (table_of h) (add_mild (table_of h).kept b t o m) r)
calls_good h (trigger_7 u) = h
calls_good h (trigger_6 n b) = h
calls_good h (trigger_done {trig} n b r) = with_table_good h (sets_good (table_of h) (trigger_mild trig (table_of h).kept) r)
calls_good h read_7 = h
calls_good h (read_done r) = h

pub series_good : {s : State} → Series s → Good s
series_good no_call = good_empty
series_good (then_call h k) = calls_good (series_good h) k

-- ---- one reply, one state

pub record SameCall (r : Reply) (s : State) (r' : Reply) (s' : State) : Type 0 where
  pub replies : r ≡ r'
  pub states : s ≡ s'

same : {r : Reply} {s : State} → SameCall r s r s
same = record { replies = refl; states = refl }

replaced_one : {N : Sets} {c : Component} {p : Property} {o a b : Option RowValue} → ((r q : Option RowValue) → N c p r → N c p q → r ≡ q) → Replaced N c p o a → Replaced N c p o b → a ≡ b
replaced_one f (replaced {after = r} h) (replaced {after = q} k) = f r q h k
replaced_one f (replaced {after = r} h) (kept n) = absurd (n r h)
replaced_one f (kept n) (replaced {after = r} h) = absurd (n r h)
replaced_one f (kept n) (kept m) = refl

replaces_one : {N : Sets} {t a b : Table} → ((c : Component) (p : Property) (r q : Option RowValue) → N c p r → N c p q → r ≡ q) → Replaces N t a → Replaces N t b → a ≡ b
replaces_one f h k = fun_ext (λ c. fun_ext (λ p. replaced_one (f c p) (h c p) (k c p)))

confirm_one : {T U : ℕ} (c : Component) (p : Property) (r q : Option RowValue) → ConfirmTask T c p r → ConfirmTask U c p q → r ≡ q
confirm_one c p r q confirm_2 confirm_2 = refl

add_one : {d e : ℕ} {w : Value} (c : Component) (p : Property) (r q : Option RowValue) → AddDataValue d w c p r → AddDataValue e w c p q → r ≡ q
add_one c p r q add_2a add_2a = refl
add_one c p r q add_2b add_2b = refl

trigger_one : {t : Table} {trig : List ℕ} (c : Component) (p : Property) (r q : Option RowValue) → SendTrigger t trig c p r → SendTrigger t trig c p q → r ≡ q
trigger_one c p r q (trigger_1 h k l) (trigger_1 h' k' l') = refl

with_one : (g : Guideline) {t u : Table} → t ≡ u → loaded (record { structure = g.structure; table = t; flag = g.flag; time = g.time }) ≡ loaded (record { structure = g.structure; table = u; flag = g.flag; time = g.time })
with_one g e = ap (λ (x : Table). loaded (record { structure = g.structure; table = x; flag = g.flag; time = g.time })) e

shown_one : {p : Property} {r : RowValue} {a b : Shown} → ShownAs p r a → ShownAs p r b → a ≡ b
shown_one shown_value shown_value = refl
shown_one shown_state shown_state = refl
shown_one shown_class shown_class = refl
shown_one shown_type shown_type = refl
shown_one shown_time shown_time = refl
shown_one shown_component shown_component = refl
shown_one there_expression there_expression = refl
shown_one there_assertion there_assertion = refl
shown_one there_components there_components = refl

reads_one : {t : Table} {k n p : ℕ} {a b : Shown} → Reads t k n p a → Reads t k n p b → a ≡ b
reads_one {t} {n} {a} (a_row {q = x} {r = y} r h) (a_row {q = z} {r = w} q k) =
    let e = at_one r.kind_at q.kind_at in
    let f = at_one r.property_at q.property_at in
    let u : Contains t (q.kind № n) z y = subst (λ (v : Property). Contains t (q.kind № n) v y) f (subst (λ (v : Kind). Contains t (v № n) x y) e r.row) in
    shown_one (subst (λ (v : RowValue). ShownAs z v a) (same_some (sym u ∙ q.row)) (subst (λ (v : Property). ShownAs v y a) f h)) k
reads_one (a_row r h) (without_row n) = absurd (n _ _ r)
reads_one (without_row n) (a_row r h) = absurd (n _ _ r)
reads_one (without_row n) (without_row m) = refl

pub one_reading : {text : List ℕ} {g h : List TopLevel} → Read text g → Read text h → g ≡ h
one_reading {g} a b = one_structure a.structure (subst (λ (x : List Token). Structure x _) (one_list b.its a.its) b.structure)

initial_same : {g h : List TopLevel} {t u : Table} → g ≡ h → Initial g t → Initial h u → t ≡ u
initial_same {t} e i j = one_initial (subst (λ (x : List TopLevel). Initial x t) e i) j

other_type : {o : Option RowValue} {k m : Declared} {w : Value} → o ≡ some (type_is k) → o ≡ some (type_is m) → Of w (inferred k) → Of w (inferred m)
other_type {w} h q o = subst (λ (x : Declared). Of w (inferred x)) (seen_one sees_type h q) o

load_state : {g h : List TopLevel} {t u : Table} → g ≡ h → t ≡ u → loaded (record { structure = g; table = t; flag = false; time = 0 }) ≡ loaded (record { structure = h; table = u; flag = false; time = 0 })
load_state e f = λ i. loaded (record { structure = e i; table = f i; flag = false; time = 0 })

run_state : (l : List TopLevel) (x : ℕ) {a b : Cycle.State} → a ≡ b
    → loaded (record { structure = l; table = a.table; flag = a.flag; time = x }) ≡ loaded (record { structure = l; table = b.table; flag = b.flag; time = x })
run_state l x e = ap (λ (s : Cycle.State). loaded (record { structure = l; table = s.table; flag = s.flag; time = x })) e

same_refusal : {n p m q : ℕ} → refused n p ≡ refused m q → refuses n p 0 ≡ refuses m q 0
same_refusal {n} {p} {m} {q} e =
    let a : n ≡ m = cc in
    let b : p ≡ q = cc in
    λ i. refuses (a i) (b i) 0

not_refused : {n p : ℕ} → loads ≡ refused n p → ⊥
not_refused e = no_clash (cc)

pub one_call : {c : Call} {s a b : State} {r q : Reply} → Calls c s r a → Calls c s q b → SameCall r a q b
one_call (load_done a r i) (load_done b q j) = let e = ap bare_guideline (one_reading r q) in record { replies = refl; states = load_state e (initial_same e i j) }
one_call (load_done a r i) (load_refused b) = absurd (not_refused (one_answer a b))
one_call (load_refused a) (load_done b q j) = absurd (not_refused (one_answer b a))
one_call (load_refused a) (load_refused b) = record { replies = same_refusal (one_answer a b); states = refl }
one_call (run_7 u) (run_7 u') = same
one_call (run_7 u) (run_6_bound n' b') = absurd (n' u)
one_call (run_7 u) (run_6_lent n' b') = absurd (n' u)
one_call (run_7 u) (run_done n' b' l' r') = absurd (n' u)
one_call (run_6_bound n b) (run_7 u') = absurd (n u')
one_call (run_6_bound n b) (run_6_bound n' b') = same
one_call (run_6_bound n b) (run_6_lent n' b') = same
one_call (run_6_bound n b) (run_done n' b' l' r') = absurd (let z : ⊥ = omega arith in z)
one_call (run_6_lent n b) (run_7 u') = absurd (n u')
one_call (run_6_lent n b) (run_6_bound n' b') = same
one_call (run_6_lent n b) (run_6_lent n' b') = same
one_call (run_6_lent n b) (run_done n' b' l' r') = absurd (let z : ⊥ = omega arith in z)
one_call (run_done n b l r) (run_7 u') = absurd (n u')
one_call (run_done n b l r) (run_6_bound n' b') = absurd (let z : ⊥ = omega arith in z)
one_call (run_done n b l r) (run_6_lent n' b') = absurd (let z : ⊥ = omega arith in z)
one_call (run_done {g} n b l r) (run_done n' b' l' r') = let k = one_run r r' in record { replies = ap ran k.reports; states = run_state g.structure g.time k.states }
one_call (time_7 u) (time_7 u') = same
one_call (time_7 u) (time_6 n' b') = absurd (n' u)
one_call (time_7 u) (time_done n' b') = absurd (n' u)
one_call (time_6 n b) (time_7 u') = absurd (n u')
one_call (time_6 n b) (time_6 n' b') = same
one_call (time_6 n b) (time_done n' b') = absurd (let z : ⊥ = omega arith in z)
one_call (time_done n b) (time_7 u') = absurd (n u')
one_call (time_done n b) (time_6 n' b') = absurd (let z : ⊥ = omega arith in z)
one_call (time_done n b) (time_done n' b') = same
one_call (confirm_7 u) (confirm_7 u') = same
one_call (confirm_7 u) (confirm_8 n' b') = absurd (n' u)
one_call (confirm_7 u) (confirm_done n' b' r') = absurd (n' u)
one_call (confirm_8 n b) (confirm_7 u') = absurd (n u')
one_call (confirm_8 n b) (confirm_8 n' b') = same
one_call (confirm_8 n b) (confirm_done n' b' r') = absurd (b b')
one_call (confirm_done n b r) (confirm_7 u') = absurd (n u')
one_call (confirm_done n b r) (confirm_8 n' b') = absurd (b' b)
one_call (confirm_done {g} n b r) (confirm_done n' b' r') = record { replies = refl; states = with_one g (replaces_one confirm_one r r') }
one_call (add_7 u) (add_7 u') = same
one_call (add_7 u) (add_8 n' b') = absurd (n' u)
one_call (add_7 u) (add_9 n' b' t' o') = absurd (n' u)
one_call (add_7 u) (add_9_none n' b') = absurd (n' u)
one_call (add_7 u) (add_6 n' b' t' o' m') = absurd (n' u)
one_call (add_7 u) (add_done n' b' t' o' m' r') = absurd (n' u)
one_call (add_8 n b) (add_7 u') = absurd (n u')
one_call (add_8 n b) (add_8 n' b') = same
one_call (add_8 n b) (add_9 n' b' t' o') = absurd (b b')
one_call (add_8 n b) (add_9_none n' b') = absurd (b b')
one_call (add_8 n b) (add_6 n' b' t' o' m') = absurd (b b')
one_call (add_8 n b) (add_done n' b' t' o' m' r') = absurd (b b')
one_call (add_9 n b t o) (add_7 u') = absurd (n u')
one_call (add_9 n b t o) (add_8 n' b') = absurd (b' b)
one_call (add_9 n b t o) (add_9 n' b' t' o') = same
one_call (add_9 n b t o) (add_6 n' b' t' o' m') = absurd (o (other_type t' t o'))
one_call (add_9 n b t o) (add_done n' b' t' o' m' r') = absurd (o (other_type t' t o'))
one_call (add_9_none n b) (add_7 u') = absurd (n u')
one_call (add_9_none n b) (add_8 n' b') = absurd (b' b)
one_call (add_9_none n b) (add_9_none n' b') = same
one_call (add_6 n b t o m) (add_7 u') = absurd (n u')
one_call (add_6 n b t o m) (add_8 n' b') = absurd (b' b)
one_call (add_6 n b t o m) (add_9 n' b' t' o') = absurd (o' (other_type t t' o))
one_call (add_6 n b t o m) (add_6 n' b' t' o' m') = same
one_call (add_6 n b t o m) (add_done n' b' t' o' m' r') = absurd (m m')
one_call (add_done n b t o m r) (add_7 u') = absurd (n u')
one_call (add_done n b t o m r) (add_8 n' b') = absurd (b' b)
one_call (add_done n b t o m r) (add_9 n' b' t' o') = absurd (o' (other_type t t' o))
one_call (add_done n b t o m r) (add_6 n' b' t' o' m') = absurd (m' m)
one_call (add_done {g} n b t o m r) (add_done n' b' t' o' m' r') = record { replies = refl; states = with_one g (replaces_one add_one r r') }
one_call (trigger_7 u) (trigger_7 u') = same
one_call (trigger_7 u) (trigger_6 n' b') = absurd (n' u)
one_call (trigger_7 u) (trigger_done n' b' r') = absurd (n' u)
one_call (trigger_6 n b) (trigger_7 u') = absurd (n u')
one_call (trigger_6 n b) (trigger_6 n' b') = same
one_call (trigger_6 n b) (trigger_done n' b' r') = absurd (b b')
one_call (trigger_done n b r) (trigger_7 u') = absurd (n u')
one_call (trigger_done n b r) (trigger_6 n' b') = absurd (b' b)
one_call (trigger_done {g} n b r) (trigger_done n' b' r') = record { replies = refl; states = with_one g (replaces_one trigger_one r r') }
one_call read_7 read_7 = same
one_call (read_done r) (read_done r') = record { replies = ap row (reads_one r r'); states = refl }
