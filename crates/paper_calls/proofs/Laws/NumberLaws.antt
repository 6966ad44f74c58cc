-- Law: no two cases of an answer have one number, and no two numbers lead to one kind or property. By the list of the cases in the order of their numbers.
use Rattle.std.specs.Prelude.{ℕ, zero, suc, ◌+◌, ◌≡◌, refl, List, [], ◌∷◌, map}
use Rattle.std.proofs.Common.{arith, sym, ap, subst, ◌∙◌}
use Rattle.std.proofs.Math.Option.{Option, some}
use Rattle.paper_expressions.proofs.Laws.Search.{at_f}
use Rattle.paper_expressions.proofs.Laws.Tests.{from}
use Rattle.paper_expressions.specs.View.{At, at_first, at_later}
use Rattle.paper_expressions.specs.Values.{unknown, one, TaskState, dormant, in_progress, discarded, completed}
use Rattle.paper_expressions.specs.Types.{Declared, a_text, an_integer, a_boolean, a_datetime, a_date, a_time, a_real, a_setof_text, a_setof_integer, a_setof_real}
use Rattle.paper_rows.specs.Table.{Kind, kinds, Property, properties, task, ◌№◌, Class, a_data_item, a_generic_task, a_plan, a_decision, an_enquiry, an_action, a_source, a_candidate, a_parameter, a_warning_flag}
use Rattle.paper_rows.proofs.Laws.Lists.{no_element, at_map}
use Rattle.paper_rows.proofs.Laws.Ranks.{kind_rank, property_rank}
use Rattle.paper_rows.proofs.Laws.Seen.{same_some}
use Rattle.paper_engine.specs.Cycle.{Ending, quiet, bounded, exception}
use Rattle.paper_calls.specs.Calls.{Shown, no_row, there, shows_value, shows_state, shows_class, shows_type, shows_time, shows_component}
use Rattle.paper_calls.specs.Numbers.{ending_number, state_number, class_number, type_number, shown_number}

apart : {A : Type 0} (number : A → ℕ) (all : ℕ → Option A) → ((x : A) → all (number x) ≡ some x) → (x y : A) → number x ≡ number y → x ≡ y
apart number all f x y e = same_some (sym (f x) ∙ ap all e ∙ f y)

abbrev endings : ℕ → Option Ending
endings n = at_f (quiet ∷ quiet ∷ bounded ∷ exception ∷ []) n

ending_at : (x : Ending) → endings (ending_number x) ≡ some x
ending_at quiet = refl
ending_at bounded = refl
ending_at exception = refl

pub endings_apart : (x y : Ending) → ending_number x ≡ ending_number y → x ≡ y
endings_apart = apart ending_number endings ending_at

abbrev states : ℕ → Option TaskState
states n = at_f (dormant ∷ dormant ∷ in_progress ∷ discarded ∷ completed ∷ []) n

state_at : (x : TaskState) → states (state_number x) ≡ some x
state_at dormant = refl
state_at in_progress = refl
state_at discarded = refl
state_at completed = refl

pub states_apart : (x y : TaskState) → state_number x ≡ state_number y → x ≡ y
states_apart = apart state_number states state_at

abbrev classes : ℕ → Option Class
classes n = at_f (a_plan ∷ a_data_item ∷ a_generic_task ∷ a_plan ∷ a_decision ∷ an_enquiry ∷ an_action ∷ a_source ∷ a_candidate ∷ a_parameter ∷ a_warning_flag ∷ []) n

class_at : (x : Class) → classes (class_number x) ≡ some x
class_at a_data_item = refl
class_at a_generic_task = refl
class_at a_plan = refl
class_at a_decision = refl
class_at an_enquiry = refl
class_at an_action = refl
class_at a_source = refl
class_at a_candidate = refl
class_at a_parameter = refl
class_at a_warning_flag = refl

pub classes_apart : (x y : Class) → class_number x ≡ class_number y → x ≡ y
classes_apart = apart class_number classes class_at

abbrev types : ℕ → Option Declared
types n = at_f (a_text ∷ a_text ∷ an_integer ∷ a_boolean ∷ a_datetime ∷ a_date ∷ a_time ∷ a_real ∷ a_setof_text ∷ a_setof_integer ∷ a_setof_real ∷ []) n

type-at : (x : Declared) → types (type_number x) ≡ some x
type-at a_text = refl
type-at an_integer = refl
type-at a_boolean = refl
type-at a_datetime = refl
type-at a_date = refl
type-at a_time = refl
type-at a_real = refl
type-at a_setof_text = refl
type-at a_setof_integer = refl
type-at a_setof_real = refl

pub types_apart : (x y : Declared) → type_number x ≡ type_number y → x ≡ y
types_apart = apart type_number types type-at

-- what reading a row answers: an answer's case, whatever it shows
abbrev pub case_of : Shown → Shown
case_of no_row = no_row
case_of there = there
case_of (shows_value w) = shows_value (one unknown)
case_of (shows_state s) = shows_state dormant
case_of (shows_class k) = shows_class a_plan
case_of (shows_type d) = shows_type a_text
case_of (shows_time n) = shows_time 0
case_of (shows_component c) = shows_component (task № 0)

abbrev cases : ℕ → Option Shown
cases n = at_f (no_row ∷ there ∷ shows_value (one unknown) ∷ shows_state dormant ∷ shows_class a_plan ∷ shows_type a_text ∷ shows_time 0 ∷ shows_component (task № 0) ∷ []) n

case_at : (x : Shown) → cases (shown_number x) ≡ some (case_of x)
case_at no_row = refl
case_at there = refl
case_at (shows_value w) = refl
case_at (shows_state s) = refl
case_at (shows_class k) = refl
case_at (shows_type d) = refl
case_at (shows_time n) = refl
case_at (shows_component c) = refl

pub shown_apart : (x y : Shown) → shown_number x ≡ shown_number y → case_of x ≡ case_of y
shown_apart x y e = same_some (sym (case_at x) ∙ ap cases e ∙ case_at y)

-- ---- kinds and properties: the number of each is its rank, and no two have one (Ranks); and no number but its rank leads to it

numbers_at : (s n : ℕ) {i k : ℕ} → At (from s n) i k → k ≡ s + i
numbers_at s zero h = absurd (no_element h)
numbers_at s (suc n) at_first = omega arith
numbers_at s (suc n) (at_later h) = let e = numbers_at (suc s) n h in omega arith

ranks_at : {A : Type 0} (rank : A → ℕ) (all : List A) (n : ℕ) → map rank all ≡ from 0 n → {i : ℕ} {x : A} → At all i x → rank x ≡ i
ranks_at rank all n e {i} {x} h = let k = numbers_at 0 n (subst (λ (l : List ℕ). At l i (rank x)) e (at_map rank h)) in omega arith

pub kinds_apart : {i : ℕ} {k : Kind} → At kinds i k → kind_rank k ≡ i
unfolding kinds
kinds_apart = ranks_at kind_rank kinds 7 refl

pub properties_apart : {i : ℕ} {p : Property} → At properties i p → property_rank p ≡ i
unfolding properties
properties_apart = ranks_at property_rank properties 59 refl
