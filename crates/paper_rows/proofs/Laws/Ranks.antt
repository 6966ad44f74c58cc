-- Enums compared by rank: each has a list of all its cases, and the case at its own rank is itself.
use Rattle.std.specs.Prelude.{ℕ, ◌≡◌, refl, Bool, true, false, ◌&&◌, List, [], ◌∷◌, eqb}
use Rattle.std.proofs.Common.{sym, ap, subst, ◌∙◌}
use Rattle.std.proofs.Math.Option.{Option, none, some}
use Rattle.paper_expressions.proofs.Laws.Search.{no_clash, at_f}
use Rattle.paper_expressions.specs.Values.{TaskState, dormant, in_progress, discarded, completed}
use Rattle.paper_rows.specs.Table
use Table.{Kind, kinds, Component, ◌№◌, Class, a_data_item, a_generic_task, a_plan, a_decision, an_enquiry, an_action, a_source, a_candidate, a_parameter, a_warning_flag}
use Table.{task, data_item, candidate, argument, parameter, source, warning_condition}
use Table.{Property, properties, class, name, caption, actual_caption, description, actual_description, state, antecedent_tasks, goal, precondition, wait_condition, trigger, trigger_active, postcondition, parameters, parent_plan, confirmatory, confirmed, cycle_count, nbr_cycles_value, nbr_cycles_expression, cycle_until, cycle_interval, cycle_interval_units, start_at, optional, terminal, lwth, context, in_progress_time, discarded_time, completed_time, terminate_condition, abort_condition, candidates, sources, support_mode, choice_mode, result, procedure, actual_procedure, type, value, range_values, range_expressions, default_value, mandatory_validation, warning_conditions, derivation_rule, unit, requested, recommendation, priority, arguments, support, expression, data_item_of, mandatory, activated}
use Rattle.paper_rows.proofs.Laws.Booleans.{Tests, is_as, is_and, is_yes, is_no, is_equal}

same_some : {A : Type 0} {a b : A} → some a ≡ some b → a ≡ b
same_some e = cc

by_rank : {A : Type 0} (rank : A → ℕ) (all : List A) → ((x : A) → at_f all (rank x) ≡ some x) → (x y : A) → Tests (eqb (rank x) (rank y)) (x ≡ y)
by_rank rank all ranked x y = is_as (λ e. same_some (sym (ranked x) ∙ ap (at_f all) e ∙ ranked y)) (λ e. ap rank e) (is_equal (rank x) (rank y))

-- ---- TaskState

abbrev pub state_rank : TaskState → ℕ
state_rank dormant = 0
state_rank in_progress = 1
state_rank discarded = 2
state_rank completed = 3

abbrev states : List TaskState
states = dormant ∷ in_progress ∷ discarded ∷ completed ∷ []

pub state_ranked : (x : TaskState) → at_f states (state_rank x) ≡ some x
state_ranked dormant = refl
state_ranked in_progress = refl
state_ranked discarded = refl
state_ranked completed = refl

abbrev pub same_state : TaskState → TaskState → Bool
same_state x y = eqb (state_rank x) (state_rank y)

pub is_same_state : (x y : TaskState) → Tests (same_state x y) (x ≡ y)
is_same_state = by_rank state_rank states state_ranked

-- ---- Class

abbrev pub class_rank : Class → ℕ
class_rank a_data_item = 0
class_rank a_generic_task = 1
class_rank a_plan = 2
class_rank a_decision = 3
class_rank an_enquiry = 4
class_rank an_action = 5
class_rank a_source = 6
class_rank a_candidate = 7
class_rank a_parameter = 8
class_rank a_warning_flag = 9

abbrev classes : List Class
classes = a_data_item ∷ a_generic_task ∷ a_plan ∷ a_decision ∷ an_enquiry ∷ an_action ∷ a_source ∷ a_candidate ∷ a_parameter ∷ a_warning_flag ∷ []

pub class_ranked : (x : Class) → at_f classes (class_rank x) ≡ some x
class_ranked a_data_item = refl
class_ranked a_generic_task = refl
class_ranked a_plan = refl
class_ranked a_decision = refl
class_ranked an_enquiry = refl
class_ranked an_action = refl
class_ranked a_source = refl
class_ranked a_candidate = refl
class_ranked a_parameter = refl
class_ranked a_warning_flag = refl

abbrev pub same_class : Class → Class → Bool
same_class x y = eqb (class_rank x) (class_rank y)

pub is_same_class : (x y : Class) → Tests (same_class x y) (x ≡ y)
is_same_class = by_rank class_rank classes class_ranked

-- ---- Kind

abbrev pub kind_rank : Kind → ℕ
kind_rank task = 0
kind_rank data_item = 1
kind_rank candidate = 2
kind_rank argument = 3
kind_rank parameter = 4
kind_rank source = 5
kind_rank warning_condition = 6

pub kind_ranked : (x : Kind) → at_f kinds (kind_rank x) ≡ some x
unfolding kinds
kind_ranked task = refl
kind_ranked data_item = refl
kind_ranked candidate = refl
kind_ranked argument = refl
kind_ranked parameter = refl
kind_ranked source = refl
kind_ranked warning_condition = refl

abbrev pub same_kind : Kind → Kind → Bool
same_kind x y = eqb (kind_rank x) (kind_rank y)

pub is_same_kind : (x y : Kind) → Tests (same_kind x y) (x ≡ y)
is_same_kind = by_rank kind_rank kinds kind_ranked

-- ---- Property

abbrev pub property_rank : Property → ℕ
property_rank class = 0
property_rank name = 1
property_rank caption = 2
property_rank actual_caption = 3
property_rank description = 4
property_rank actual_description = 5
property_rank state = 6
property_rank antecedent_tasks = 7
property_rank goal = 8
property_rank precondition = 9
property_rank wait_condition = 10
property_rank trigger = 11
property_rank trigger_active = 12
property_rank postcondition = 13
property_rank parameters = 14
property_rank parent_plan = 15
property_rank confirmatory = 16
property_rank confirmed = 17
property_rank cycle_count = 18
property_rank nbr_cycles_value = 19
property_rank nbr_cycles_expression = 20
property_rank cycle_until = 21
property_rank cycle_interval = 22
property_rank cycle_interval_units = 23
property_rank start_at = 24
property_rank optional = 25
property_rank terminal = 26
property_rank lwth = 27
property_rank context = 28
property_rank in_progress_time = 29
property_rank discarded_time = 30
property_rank completed_time = 31
property_rank terminate_condition = 32
property_rank abort_condition = 33
property_rank candidates = 34
property_rank sources = 35
property_rank support_mode = 36
property_rank choice_mode = 37
property_rank result = 38
property_rank procedure = 39
property_rank actual_procedure = 40
property_rank type = 41
property_rank value = 42
property_rank range_values = 43
property_rank range_expressions = 44
property_rank default_value = 45
property_rank mandatory_validation = 46
property_rank warning_conditions = 47
property_rank derivation_rule = 48
property_rank unit = 49
property_rank requested = 50
property_rank recommendation = 51
property_rank priority = 52
property_rank arguments = 53
property_rank support = 54
property_rank expression = 55
property_rank data_item_of = 56
property_rank mandatory = 57
property_rank activated = 58

pub property_ranked : (x : Property) → at_f properties (property_rank x) ≡ some x
unfolding properties
property_ranked class = refl
property_ranked name = refl
property_ranked caption = refl
property_ranked actual_caption = refl
property_ranked description = refl
property_ranked actual_description = refl
property_ranked state = refl
property_ranked antecedent_tasks = refl
property_ranked goal = refl
property_ranked precondition = refl
property_ranked wait_condition = refl
property_ranked trigger = refl
property_ranked trigger_active = refl
property_ranked postcondition = refl
property_ranked parameters = refl
property_ranked parent_plan = refl
property_ranked confirmatory = refl
property_ranked confirmed = refl
property_ranked cycle_count = refl
property_ranked nbr_cycles_value = refl
property_ranked nbr_cycles_expression = refl
property_ranked cycle_until = refl
property_ranked cycle_interval = refl
property_ranked cycle_interval_units = refl
property_ranked start_at = refl
property_ranked optional = refl
property_ranked terminal = refl
property_ranked lwth = refl
property_ranked context = refl
property_ranked in_progress_time = refl
property_ranked discarded_time = refl
property_ranked completed_time = refl
property_ranked terminate_condition = refl
property_ranked abort_condition = refl
property_ranked candidates = refl
property_ranked sources = refl
property_ranked support_mode = refl
property_ranked choice_mode = refl
property_ranked result = refl
property_ranked procedure = refl
property_ranked actual_procedure = refl
property_ranked type = refl
property_ranked value = refl
property_ranked range_values = refl
property_ranked range_expressions = refl
property_ranked default_value = refl
property_ranked mandatory_validation = refl
property_ranked warning_conditions = refl
property_ranked derivation_rule = refl
property_ranked unit = refl
property_ranked requested = refl
property_ranked recommendation = refl
property_ranked priority = refl
property_ranked arguments = refl
property_ranked support = refl
property_ranked expression = refl
property_ranked data_item_of = refl
property_ranked mandatory = refl
property_ranked activated = refl

abbrev pub same_property : Property → Property → Bool
same_property x y = eqb (property_rank x) (property_rank y)

pub is_same_property : (x y : Property) → Tests (same_property x y) (x ≡ y)
is_same_property = by_rank property_rank properties property_ranked

-- ---- components and truth values

abbrev pub same_component : Component → Component → Bool
same_component (k № n) (j № m) = same_kind k j && eqb n m

pub is_same_component : (x y : Component) → Tests (same_component x y) (x ≡ y)
is_same_component (k № n) (j № m) = is_as (λ h. let p = h.0 in let q = h.1 in cc) (λ e. ((let z : k ≡ j = cc in z), (let z : n ≡ m = cc in z))) (is_and (is_same_kind k j) (is_equal n m))

abbrev pub same_truth : Bool → Bool → Bool
same_truth true true = true
same_truth true false = false
same_truth false true = false
same_truth false false = true

pub is_same_truth : (x y : Bool) → Tests (same_truth x y) (x ≡ y)
is_same_truth true true = is_yes refl
is_same_truth true false = is_no (λ e. no_clash (cc))
is_same_truth false true = is_no (λ e. no_clash (cc))
is_same_truth false false = is_yes refl
