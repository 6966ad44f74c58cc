-- Law: in every table that cycles come to, no value row passes a limit, as none of the guideline's expressions does.
use Rattle.std.specs.Prelude.{ℕ, suc, ◌≡◌, refl, Bool, ◌⊎◌, List, [], ◌∷◌}
use Rattle.std.proofs.Common.{sym, ap, subst, ◌∙◌, inl, inr}
use Rattle.std.proofs.Math.Option.{Option, none, some}
use Rattle.paper_expressions.proofs.Laws.Search.{no_clash}
use Rattle.paper_expressions.specs.Values.{Scalar, Value, one, sequence, unknown}
use Rattle.paper_expressions.specs.View.{View, Item, At, at_first, at_later}
use Rattle.paper_expressions.proofs.Laws.WithinLimits.{Small, unknown_small, truth_small, integer_small, real_small, text_small, EachSmall, none_small, more_small, Limited, one_limited, list_limited, Modest, Held, limited}
use Rattle.paper_expressions.specs.Expressions.{Expr}
use Rattle.paper_guideline.specs.Structure.{TopLevel}
use Rattle.paper_rows.specs.Table.{task, data_item, Component, ◌№◌, Property, value, postcondition, RowValue, value_is, assertion_is, unknown_row, Table, Contains, ValueRow, no_value, a_value, ViewOf, Assigns}
use Rattle.paper_rows.specs.Load.{Adds, Initial}
use Rattle.paper_engine.specs.Conditions.{Evaluate}
use Rattle.paper_engine.specs.Operations
use Operations.{Initialise, Start, start_9, Discard, as_it_is, EnactAssignment, assertion_1, EnactAssertion, assertion_2, Complete, complete_3, complete_4, Asks, asks_1, asks_2, asks_3, asks_4, Changes, asked_by}
use Rattle.paper_engine.specs.Cycle
use Cycle.{Enacted, not_named, enact_c, enact_d, EnactChanges, Report, State, Runs, stop_quiet, stop_bounded, stop_exception, repeat}
use Rattle.paper_rows.proofs.Laws.Lawful.{Lawful}
use Rattle.paper_rows.proofs.Laws.Sized.{Plain, Sized}
use Rattle.paper_engine.proofs.Laws.Kept.{Kept, adds, fixed_postcondition}
use Rattle.paper_engine.proofs.Laws.Attached.{assigned_at}
use Rattle.paper_engine.proofs.Laws.Spelling.{Spelt, spelt_unknown, WellSpelt, one_spelt, Read, well_spelt}
use Rattle.paper_engine.proofs.Laws.KeptLaws.{cycle_kept}

-- every value that is held is within the limits: numbers, lists, texts of at most 48 bytes, none over 127
pub record Within (w : Value) : Type 0 where
  pub limited : Limited w
  pub spelt : WellSpelt w

pub record Fits (t : Table) : Type 0 where
  pub fits : {d : ℕ} {w : Value} → Contains t (data_item № d) value (value_is w) → Within w

no_value_added : {g : List TopLevel} {d : ℕ} {r : RowValue} → ¬ Adds g (data_item № d) value r
no_value_added h = elim h [ ]

pub initial_fits : {g : List TopLevel} {t : Table} → Initial g t → Fits t
initial_fits i = record { fits = λ {d} {w} h. absurd (no_value_added ((i.rows (data_item № d) value (value_is w)).0 h)) }

held_row : {o : Option RowValue} {w : Option Value} {v : Value} → ValueRow o w → w ≡ some v → o ≡ some (value_is v)
held_row no_value e = absurd (no_clash (cc))
held_row a_value e = cc

pub view_held : {t : Table} {v : View} → Fits t → ViewOf t v → Held v
view_held f o = record { held = λ {i} {x} h e. (f.fits (held_row ((o.items i x).0 h).value_row e)).limited }

pub view_read : {t : Table} {v : View} → Fits t → ViewOf t v → Read v
view_read f o = record { held = λ {i} {x} h e. (f.fits (held_row ((o.items i x).0 h).value_row e)).spelt }

module _ {g : List TopLevel} {t : Table} (sized : Sized g) (kept : Kept g t) (within : Fits t) where
  pub value_within : {T : ℕ} {e : Expr} {w : Value} → Modest e → Plain e → Evaluate t e T w → Within w
  value_within {T} m p z = record { limited = limited z.view T z.evaluates (view_held within z.its) m; spelt = well_spelt z.view T (view_read within z.its) z.evaluates p }

  assignment_limited : {T d : ℕ} {a : Assigns} {w : Value} → Modest a.assigned → Plain a.assigned → EnactAssignment t T a (data_item № d) value (value_is w) → Within w
  assignment_limited m p (assertion_1 o r e as_it_is) = value_within m p e

  assertion_limited : {T d : ℕ} {l : List Assigns} {w : Value} → Contains t (task № T) postcondition (assertion_is l) → EnactAssertion t T l (data_item № d) value (value_is w) → Within w
  assertion_limited h (assertion_2 i k) =
      let q = assigned_at (adds kept fixed_postcondition h) i in
      assignment_limited (subst Modest q.2.1 (sized.modest q.1.1)) (subst Plain q.2.1 (sized.plain q.1.1)) k

  no_start_value : {now T d : ℕ} {r : RowValue} → ¬ Start t now T (data_item № d) value r
  no_start_value (start_9 a b i h) = elim h [ ]

  complete_limited : {now T d : ℕ} {w : Value} → Complete t now T (data_item № d) value (value_is w) → Within w
  complete_limited (complete_3 h k) = assertion_limited h k
  complete_limited (complete_4 a h) = absurd (elim h [ ])

  changes_limited : {now d : ℕ} {w : Value} → Changes t now (data_item № d) value (value_is w) → Within w
  changes_limited (asked_by i (asks_1 v h)) = absurd (elim h [ ])
  changes_limited (asked_by i (asks_2 v h)) = absurd (no_start_value h)
  changes_limited (asked_by i (asks_3 v h)) = absurd (elim h [ ])
  changes_limited (asked_by i (asks_4 v h)) = complete_limited h

  same_row : {a b : RowValue} → some a ≡ some b → a ≡ b
  same_row e = cc

  unknown_limited : {w : Value} → some unknown_row ≡ some (value_is w) → Within w
  unknown_limited {w} e = subst Within (let z : one unknown ≡ w = cc in z) (record { limited = one_limited unknown_small; spelt = one_spelt spelt_unknown })

  pub cycle_fits : {now : ℕ} {t' : Table} {f f' : Bool} → EnactChanges (Changes t now) t f t' f' → Fits t'
  cycle_fits {now} h = record { fits = λ {d} e. go (h.rows (data_item № d) value) e }
    where
      go : {d : ℕ} {o : Option RowValue} {w : Value} → Enacted (Changes t now) (data_item № d) value (t (data_item № d) value) o → o ≡ some (value_is w) → Within w
      go (not_named n) e = within.fits e
      go {d} (enact_c q) e = changes_limited (subst (Changes t now (data_item № d) value) (same_row e) q.row)
      go (enact_d q) e = unknown_limited e

pub run_fits : {g : List TopLevel} {now n k : ℕ} {s s' : State} {r : Report} → Lawful g → Sized g → Kept g s.table → Fits s.table → Runs now n k s s' r → Fits s'.table
run_fits lawful sized kept f (stop_quiet h) = f
run_fits lawful sized kept f (stop_bounded h p) = f
run_fits lawful sized kept f (stop_exception h p y) = cycle_fits sized kept f y
run_fits lawful sized kept f (repeat h p y r) = run_fits lawful sized (cycle_kept lawful kept y) (cycle_fits sized kept f y) r
