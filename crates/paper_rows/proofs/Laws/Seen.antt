-- What a row holds, seen by a computed test: the value under one constructor, or none; and what tests on what is seen say.
use Rattle.std.specs.Prelude.{ℕ, ◌≡◌, refl, Bool, true, false, not, ◌&&◌, ◌||◌, ◌↔◌, ◌⊎◌, List, [], ◌∷◌, eqb, ℤ}
use Rattle.std.proofs.Common.{sym, ap, subst, ◌∙◌, inl, inr}
use Rattle.std.proofs.Math.Option.{Option, none, some}
use Rattle.paper_expressions.proofs.Laws.Search.{no_clash}
use Rattle.paper_expressions.proofs.Laws.Tests.{contra, two}
use Rattle.paper_expressions.specs.Values.{Scalar, unknown, truth, integer, real, text, Value, one, sequence, TaskState, dormant, in_progress, discarded, completed}
use Rattle.paper_expressions.specs.Types.{Declared}
use Rattle.paper_expressions.specs.Expressions.{Expr}
use Rattle.paper_rows.specs.Table
use Table.{Kind, task, data_item, candidate, argument, parameter, source, warning_condition, Component, ◌№◌, Class, a_data_item, a_generic_task, a_plan, a_decision, an_enquiry, an_action, a_source, a_candidate, a_parameter, a_warning_flag, Assigns}
use Table.{RowValue, value_is, state_is, class_is, type_is, time_is, expression_is, assertion_is, component_is, components_are, truth_row, integer_row, text_row}
use Rattle.paper_rows.proofs.Laws.Booleans.{Tests, is_as, is_yes, is_no, is_equal}

-- ---- f is what is seen

pub record Sees {A : Type 0} (f : A → RowValue) (see : Option RowValue → Option A) : Type 0 where
  pub has : (o : Option RowValue) (x : A) → see o ≡ some x → o ≡ some (f x)
  pub only : (x : A) → see (some (f x)) ≡ some x

-- tests on what is seen: if anything is, and that something is
abbrev pub when_f : {A : Type 0} → Option A → (A → Bool) → Bool
when_f none f = true
when_f (some a) f = f a

abbrev pub there_f : {A : Type 0} → Option A → (A → Bool) → Bool
there_f none f = false
there_f (some a) f = f a

abbrev pub absent_f : {A : Type 0} → Option A → Bool
absent_f none = true
absent_f (some a) = false

none_some : {A : Type 0} {x : A} → ◌≡◌ {A = Option A} none (some x) → ⊥
none_some e = no_clash (cc)

pub same_some : {A : Type 0} {a b : A} → some a ≡ some b → a ≡ b
same_some e = cc

module _ {A : Type 0} {f : A → RowValue} {see : Option RowValue → Option A} (sees : Sees f see) where
  pub seen : {o : Option RowValue} {x : A} → o ≡ some (f x) → see o ≡ some x
  seen e = ap see e ∙ sees.only _

  pub seen_one : {o : Option RowValue} {x y : A} → o ≡ some (f x) → o ≡ some (f y) → x ≡ y
  seen_one e h = same_some (sym (seen e) ∙ seen h)

  pub unseen : {o : Option RowValue} {x : A} → see o ≡ none → ¬ (o ≡ some (f x))
  unseen q e = none_some (sym q ∙ seen e)

  pub is_when : {b : A → Bool} {Q : A → Type 0} (o : Option RowValue) → ((a : A) → o ≡ some (f a) → Tests (b a) (Q a)) → Tests (when_f (see o) b) ((a : A) → o ≡ some (f a) → Q a)
  is_when {b} {Q} o k = go (see o) refl
    where
      go : (s : Option A) → see o ≡ s → Tests (when_f s b) ((a : A) → o ≡ some (f a) → Q a)
      go none q = is_yes (λ a e. absurd (unseen q e))
      go (some x) q = is_as (λ h a e. subst Q (seen_one (sees.has o x q) e) h) (λ h. h x (sees.has o x q)) (k x (sees.has o x q))

  pub is_there : {b : A → Bool} {Q : A → Type 0} (o : Option RowValue) → ((a : A) → o ≡ some (f a) → Tests (b a) (Q a)) → Tests (there_f (see o) b) ((a : A) × (o ≡ some (f a)) × Q a)
  is_there {b} {Q} o k = go (see o) refl
    where
      go : (s : Option A) → see o ≡ s → Tests (there_f s b) ((a : A) × (o ≡ some (f a)) × Q a)
      go none q = is_no (λ h. unseen q h.1)
      go (some x) q = is_as (λ h. (x, sees.has o x q, h)) (λ h. subst Q (seen_one h.1 (sees.has o x q)) h.2) (k x (sees.has o x q))

  pub is_absent : (o : Option RowValue) → Tests (absent_f (see o)) ((a : A) → ¬ (o ≡ some (f a)))
  is_absent o = go (see o) refl
    where
      go : (s : Option A) → see o ≡ s → Tests (absent_f s) ((a : A) → ¬ (o ≡ some (f a)))
      go none q = is_yes (λ a e. unseen q e)
      go (some x) q = is_no (λ n. n x (sees.has o x q))

  pub is_held : {same : A → A → Bool} → ((x y : A) → Tests (same x y) (x ≡ y)) → (o : Option RowValue) (x : A) → Tests (there_f (see o) (λ y. same y x)) (o ≡ some (f x))
  is_held {same} k o x = is_as (λ h. subst (λ (y : A). o ≡ some (f y)) h.2 h.1) (λ e. (x, e, refl)) (is_there {Q = λ y. y ≡ x} o (λ y e. k y x))

  -- by cases
  pub see_cases : (o : Option RowValue) → ((a : A) × (o ≡ some (f a))) ⊎ ((a : A) → ¬ (o ≡ some (f a)))
  see_cases o = go (see o) refl
    where
      go : (s : Option A) → see o ≡ s → ((a : A) × (o ≡ some (f a))) ⊎ ((a : A) → ¬ (o ≡ some (f a)))
      go none q = inr (λ a e. unseen q e)
      go (some x) q = inl (x, sees.has o x q)

-- ---- what is seen under each constructor

-- a value
abbrev pub value_f : Option RowValue → Option Value
value_f none = none
value_f (some (value_is w)) = some w
value_f (some (state_is s)) = none
value_f (some (class_is k)) = none
value_f (some (type_is d)) = none
value_f (some (time_is n)) = none
value_f (some (expression_is e)) = none
value_f (some (assertion_is a)) = none
value_f (some (component_is c)) = none
value_f (some (components_are l)) = none

value_has : (o : Option RowValue) (x : Value) → value_f o ≡ some x → o ≡ some (value_is x)
value_has none x q = absurd (no_clash (cc))
value_has (some (value_is w)) x q = cc
value_has (some (state_is s)) x q = absurd (no_clash (cc))
value_has (some (class_is k)) x q = absurd (no_clash (cc))
value_has (some (type_is d)) x q = absurd (no_clash (cc))
value_has (some (time_is n)) x q = absurd (no_clash (cc))
value_has (some (expression_is e)) x q = absurd (no_clash (cc))
value_has (some (assertion_is a)) x q = absurd (no_clash (cc))
value_has (some (component_is c)) x q = absurd (no_clash (cc))
value_has (some (components_are l)) x q = absurd (no_clash (cc))

-- a state
abbrev pub state_f : Option RowValue → Option TaskState
state_f none = none
state_f (some (value_is w)) = none
state_f (some (state_is s)) = some s
state_f (some (class_is k)) = none
state_f (some (type_is d)) = none
state_f (some (time_is n)) = none
state_f (some (expression_is e)) = none
state_f (some (assertion_is a)) = none
state_f (some (component_is c)) = none
state_f (some (components_are l)) = none

state_has : (o : Option RowValue) (x : TaskState) → state_f o ≡ some x → o ≡ some (state_is x)
state_has none x q = absurd (no_clash (cc))
state_has (some (value_is w)) x q = absurd (no_clash (cc))
state_has (some (state_is s)) x q = cc
state_has (some (class_is k)) x q = absurd (no_clash (cc))
state_has (some (type_is d)) x q = absurd (no_clash (cc))
state_has (some (time_is n)) x q = absurd (no_clash (cc))
state_has (some (expression_is e)) x q = absurd (no_clash (cc))
state_has (some (assertion_is a)) x q = absurd (no_clash (cc))
state_has (some (component_is c)) x q = absurd (no_clash (cc))
state_has (some (components_are l)) x q = absurd (no_clash (cc))

-- a class
abbrev pub class_f : Option RowValue → Option Class
class_f none = none
class_f (some (value_is w)) = none
class_f (some (state_is s)) = none
class_f (some (class_is k)) = some k
class_f (some (type_is d)) = none
class_f (some (time_is n)) = none
class_f (some (expression_is e)) = none
class_f (some (assertion_is a)) = none
class_f (some (component_is c)) = none
class_f (some (components_are l)) = none

class_has : (o : Option RowValue) (x : Class) → class_f o ≡ some x → o ≡ some (class_is x)
class_has none x q = absurd (no_clash (cc))
class_has (some (value_is w)) x q = absurd (no_clash (cc))
class_has (some (state_is s)) x q = absurd (no_clash (cc))
class_has (some (class_is k)) x q = cc
class_has (some (type_is d)) x q = absurd (no_clash (cc))
class_has (some (time_is n)) x q = absurd (no_clash (cc))
class_has (some (expression_is e)) x q = absurd (no_clash (cc))
class_has (some (assertion_is a)) x q = absurd (no_clash (cc))
class_has (some (component_is c)) x q = absurd (no_clash (cc))
class_has (some (components_are l)) x q = absurd (no_clash (cc))

-- an engine time
abbrev pub time_f : Option RowValue → Option ℕ
time_f none = none
time_f (some (value_is w)) = none
time_f (some (state_is s)) = none
time_f (some (class_is k)) = none
time_f (some (type_is d)) = none
time_f (some (time_is n)) = some n
time_f (some (expression_is e)) = none
time_f (some (assertion_is a)) = none
time_f (some (component_is c)) = none
time_f (some (components_are l)) = none

time_has : (o : Option RowValue) (x : ℕ) → time_f o ≡ some x → o ≡ some (time_is x)
time_has none x q = absurd (no_clash (cc))
time_has (some (value_is w)) x q = absurd (no_clash (cc))
time_has (some (state_is s)) x q = absurd (no_clash (cc))
time_has (some (class_is k)) x q = absurd (no_clash (cc))
time_has (some (type_is d)) x q = absurd (no_clash (cc))
time_has (some (time_is n)) x q = cc
time_has (some (expression_is e)) x q = absurd (no_clash (cc))
time_has (some (assertion_is a)) x q = absurd (no_clash (cc))
time_has (some (component_is c)) x q = absurd (no_clash (cc))
time_has (some (components_are l)) x q = absurd (no_clash (cc))

-- a declared type
abbrev pub type_f : Option RowValue → Option Declared
type_f none = none
type_f (some (value_is w)) = none
type_f (some (state_is s)) = none
type_f (some (class_is k)) = none
type_f (some (type_is d)) = some d
type_f (some (time_is n)) = none
type_f (some (expression_is e)) = none
type_f (some (assertion_is a)) = none
type_f (some (component_is c)) = none
type_f (some (components_are l)) = none

type_has : (o : Option RowValue) (x : Declared) → type_f o ≡ some x → o ≡ some (type_is x)
type_has none x q = absurd (no_clash (cc))
type_has (some (value_is w)) x q = absurd (no_clash (cc))
type_has (some (state_is s)) x q = absurd (no_clash (cc))
type_has (some (class_is k)) x q = absurd (no_clash (cc))
type_has (some (type_is d)) x q = cc
type_has (some (time_is n)) x q = absurd (no_clash (cc))
type_has (some (expression_is e)) x q = absurd (no_clash (cc))
type_has (some (assertion_is a)) x q = absurd (no_clash (cc))
type_has (some (component_is c)) x q = absurd (no_clash (cc))
type_has (some (components_are l)) x q = absurd (no_clash (cc))

-- an expression
abbrev pub expression_f : Option RowValue → Option Expr
expression_f none = none
expression_f (some (value_is w)) = none
expression_f (some (state_is s)) = none
expression_f (some (class_is k)) = none
expression_f (some (type_is d)) = none
expression_f (some (time_is n)) = none
expression_f (some (expression_is e)) = some e
expression_f (some (assertion_is a)) = none
expression_f (some (component_is c)) = none
expression_f (some (components_are l)) = none

pub expression_has : (o : Option RowValue) (x : Expr) → expression_f o ≡ some x → o ≡ some (expression_is x)
expression_has none x q = absurd (no_clash (cc))
expression_has (some (value_is w)) x q = absurd (no_clash (cc))
expression_has (some (state_is s)) x q = absurd (no_clash (cc))
expression_has (some (class_is k)) x q = absurd (no_clash (cc))
expression_has (some (type_is d)) x q = absurd (no_clash (cc))
expression_has (some (time_is n)) x q = absurd (no_clash (cc))
expression_has (some (expression_is e)) x q = cc
expression_has (some (assertion_is a)) x q = absurd (no_clash (cc))
expression_has (some (component_is c)) x q = absurd (no_clash (cc))
expression_has (some (components_are l)) x q = absurd (no_clash (cc))

-- an assertion
abbrev pub assertion_f : Option RowValue → Option (List Assigns)
assertion_f none = none
assertion_f (some (value_is w)) = none
assertion_f (some (state_is s)) = none
assertion_f (some (class_is k)) = none
assertion_f (some (type_is d)) = none
assertion_f (some (time_is n)) = none
assertion_f (some (expression_is e)) = none
assertion_f (some (assertion_is a)) = some a
assertion_f (some (component_is c)) = none
assertion_f (some (components_are l)) = none

assertion_has : (o : Option RowValue) (x : (List Assigns)) → assertion_f o ≡ some x → o ≡ some (assertion_is x)
assertion_has none x q = absurd (no_clash (cc))
assertion_has (some (value_is w)) x q = absurd (no_clash (cc))
assertion_has (some (state_is s)) x q = absurd (no_clash (cc))
assertion_has (some (class_is k)) x q = absurd (no_clash (cc))
assertion_has (some (type_is d)) x q = absurd (no_clash (cc))
assertion_has (some (time_is n)) x q = absurd (no_clash (cc))
assertion_has (some (expression_is e)) x q = absurd (no_clash (cc))
assertion_has (some (assertion_is a)) x q = cc
assertion_has (some (component_is c)) x q = absurd (no_clash (cc))
assertion_has (some (components_are l)) x q = absurd (no_clash (cc))

-- a component
abbrev pub component_f : Option RowValue → Option Component
component_f none = none
component_f (some (value_is w)) = none
component_f (some (state_is s)) = none
component_f (some (class_is k)) = none
component_f (some (type_is d)) = none
component_f (some (time_is n)) = none
component_f (some (expression_is e)) = none
component_f (some (assertion_is a)) = none
component_f (some (component_is c)) = some c
component_f (some (components_are l)) = none

component_has : (o : Option RowValue) (x : Component) → component_f o ≡ some x → o ≡ some (component_is x)
component_has none x q = absurd (no_clash (cc))
component_has (some (value_is w)) x q = absurd (no_clash (cc))
component_has (some (state_is s)) x q = absurd (no_clash (cc))
component_has (some (class_is k)) x q = absurd (no_clash (cc))
component_has (some (type_is d)) x q = absurd (no_clash (cc))
component_has (some (time_is n)) x q = absurd (no_clash (cc))
component_has (some (expression_is e)) x q = absurd (no_clash (cc))
component_has (some (assertion_is a)) x q = absurd (no_clash (cc))
component_has (some (component_is c)) x q = cc
component_has (some (components_are l)) x q = absurd (no_clash (cc))

-- a sequence of components
abbrev pub components_f : Option RowValue → Option (List Component)
components_f none = none
components_f (some (value_is w)) = none
components_f (some (state_is s)) = none
components_f (some (class_is k)) = none
components_f (some (type_is d)) = none
components_f (some (time_is n)) = none
components_f (some (expression_is e)) = none
components_f (some (assertion_is a)) = none
components_f (some (component_is c)) = none
components_f (some (components_are l)) = some l

components_has : (o : Option RowValue) (x : (List Component)) → components_f o ≡ some x → o ≡ some (components_are x)
components_has none x q = absurd (no_clash (cc))
components_has (some (value_is w)) x q = absurd (no_clash (cc))
components_has (some (state_is s)) x q = absurd (no_clash (cc))
components_has (some (class_is k)) x q = absurd (no_clash (cc))
components_has (some (type_is d)) x q = absurd (no_clash (cc))
components_has (some (time_is n)) x q = absurd (no_clash (cc))
components_has (some (expression_is e)) x q = absurd (no_clash (cc))
components_has (some (assertion_is a)) x q = absurd (no_clash (cc))
components_has (some (component_is c)) x q = absurd (no_clash (cc))
components_has (some (components_are l)) x q = cc

-- true or false, a text, an integer
abbrev pub truth_f : Option RowValue → Option Bool
truth_f none = none
truth_f (some (value_is (one unknown))) = none
truth_f (some (value_is (one (truth b)))) = some b
truth_f (some (value_is (one (integer n)))) = none
truth_f (some (value_is (one (real n)))) = none
truth_f (some (value_is (one (text s)))) = none
truth_f (some (value_is (sequence l))) = none
truth_f (some (state_is s)) = none
truth_f (some (class_is k)) = none
truth_f (some (type_is d)) = none
truth_f (some (time_is n)) = none
truth_f (some (expression_is e)) = none
truth_f (some (assertion_is a)) = none
truth_f (some (component_is c)) = none
truth_f (some (components_are l)) = none

truth_has : (o : Option RowValue) (x : Bool) → truth_f o ≡ some x → o ≡ some (value_is (one (truth x)))
truth_has none x q = absurd (no_clash (cc))
truth_has (some (value_is (one unknown))) x q = absurd (no_clash (cc))
truth_has (some (value_is (one (truth b)))) x q = cc
truth_has (some (value_is (one (integer n)))) x q = absurd (no_clash (cc))
truth_has (some (value_is (one (real n)))) x q = absurd (no_clash (cc))
truth_has (some (value_is (one (text s)))) x q = absurd (no_clash (cc))
truth_has (some (value_is (sequence l))) x q = absurd (no_clash (cc))
truth_has (some (state_is s)) x q = absurd (no_clash (cc))
truth_has (some (class_is k)) x q = absurd (no_clash (cc))
truth_has (some (type_is d)) x q = absurd (no_clash (cc))
truth_has (some (time_is n)) x q = absurd (no_clash (cc))
truth_has (some (expression_is e)) x q = absurd (no_clash (cc))
truth_has (some (assertion_is a)) x q = absurd (no_clash (cc))
truth_has (some (component_is c)) x q = absurd (no_clash (cc))
truth_has (some (components_are l)) x q = absurd (no_clash (cc))

abbrev pub text_f : Option RowValue → Option (List ℕ)
text_f none = none
text_f (some (value_is (one unknown))) = none
text_f (some (value_is (one (truth b)))) = none
text_f (some (value_is (one (integer n)))) = none
text_f (some (value_is (one (real n)))) = none
text_f (some (value_is (one (text s)))) = some s
text_f (some (value_is (sequence l))) = none
text_f (some (state_is s)) = none
text_f (some (class_is k)) = none
text_f (some (type_is d)) = none
text_f (some (time_is n)) = none
text_f (some (expression_is e)) = none
text_f (some (assertion_is a)) = none
text_f (some (component_is c)) = none
text_f (some (components_are l)) = none

text_has : (o : Option RowValue) (x : (List ℕ)) → text_f o ≡ some x → o ≡ some (value_is (one (text x)))
text_has none x q = absurd (no_clash (cc))
text_has (some (value_is (one unknown))) x q = absurd (no_clash (cc))
text_has (some (value_is (one (truth b)))) x q = absurd (no_clash (cc))
text_has (some (value_is (one (integer n)))) x q = absurd (no_clash (cc))
text_has (some (value_is (one (real n)))) x q = absurd (no_clash (cc))
text_has (some (value_is (one (text s)))) x q = cc
text_has (some (value_is (sequence l))) x q = absurd (no_clash (cc))
text_has (some (state_is s)) x q = absurd (no_clash (cc))
text_has (some (class_is k)) x q = absurd (no_clash (cc))
text_has (some (type_is d)) x q = absurd (no_clash (cc))
text_has (some (time_is n)) x q = absurd (no_clash (cc))
text_has (some (expression_is e)) x q = absurd (no_clash (cc))
text_has (some (assertion_is a)) x q = absurd (no_clash (cc))
text_has (some (component_is c)) x q = absurd (no_clash (cc))
text_has (some (components_are l)) x q = absurd (no_clash (cc))

abbrev pub integer_f : Option RowValue → Option ℤ
integer_f none = none
integer_f (some (value_is (one unknown))) = none
integer_f (some (value_is (one (truth b)))) = none
integer_f (some (value_is (one (integer n)))) = some n
integer_f (some (value_is (one (real n)))) = none
integer_f (some (value_is (one (text s)))) = none
integer_f (some (value_is (sequence l))) = none
integer_f (some (state_is s)) = none
integer_f (some (class_is k)) = none
integer_f (some (type_is d)) = none
integer_f (some (time_is n)) = none
integer_f (some (expression_is e)) = none
integer_f (some (assertion_is a)) = none
integer_f (some (component_is c)) = none
integer_f (some (components_are l)) = none

integer_has : (o : Option RowValue) (x : ℤ) → integer_f o ≡ some x → o ≡ some (value_is (one (integer x)))
integer_has none x q = absurd (no_clash (cc))
integer_has (some (value_is (one unknown))) x q = absurd (no_clash (cc))
integer_has (some (value_is (one (truth b)))) x q = absurd (no_clash (cc))
integer_has (some (value_is (one (integer n)))) x q = cc
integer_has (some (value_is (one (real n)))) x q = absurd (no_clash (cc))
integer_has (some (value_is (one (text s)))) x q = absurd (no_clash (cc))
integer_has (some (value_is (sequence l))) x q = absurd (no_clash (cc))
integer_has (some (state_is s)) x q = absurd (no_clash (cc))
integer_has (some (class_is k)) x q = absurd (no_clash (cc))
integer_has (some (type_is d)) x q = absurd (no_clash (cc))
integer_has (some (time_is n)) x q = absurd (no_clash (cc))
integer_has (some (expression_is e)) x q = absurd (no_clash (cc))
integer_has (some (assertion_is a)) x q = absurd (no_clash (cc))
integer_has (some (component_is c)) x q = absurd (no_clash (cc))
integer_has (some (components_are l)) x q = absurd (no_clash (cc))

-- a task, by its number
abbrev pub task_number_f : Option Component → Option ℕ
task_number_f none = none
task_number_f (some (task № n)) = some n
task_number_f (some (data_item № n)) = none
task_number_f (some (candidate № n)) = none
task_number_f (some (argument № n)) = none
task_number_f (some (parameter № n)) = none
task_number_f (some (source № n)) = none
task_number_f (some (warning_condition № n)) = none

task_number_has : (o : Option Component) (x : ℕ) → task_number_f o ≡ some x → o ≡ some (task № x)
task_number_has none x q = absurd (no_clash (cc))
task_number_has (some (task № n)) x q = cc
task_number_has (some (data_item № n)) x q = absurd (no_clash (cc))
task_number_has (some (candidate № n)) x q = absurd (no_clash (cc))
task_number_has (some (argument № n)) x q = absurd (no_clash (cc))
task_number_has (some (parameter № n)) x q = absurd (no_clash (cc))
task_number_has (some (source № n)) x q = absurd (no_clash (cc))
task_number_has (some (warning_condition № n)) x q = absurd (no_clash (cc))

abbrev pub item_number_f : Option Component → Option ℕ
item_number_f none = none
item_number_f (some (task № n)) = none
item_number_f (some (data_item № n)) = some n
item_number_f (some (candidate № n)) = none
item_number_f (some (argument № n)) = none
item_number_f (some (parameter № n)) = none
item_number_f (some (source № n)) = none
item_number_f (some (warning_condition № n)) = none

item_number_has : (o : Option Component) (x : ℕ) → item_number_f o ≡ some x → o ≡ some (data_item № x)
item_number_has none x q = absurd (no_clash (cc))
item_number_has (some (task № n)) x q = absurd (no_clash (cc))
item_number_has (some (data_item № n)) x q = cc
item_number_has (some (candidate № n)) x q = absurd (no_clash (cc))
item_number_has (some (argument № n)) x q = absurd (no_clash (cc))
item_number_has (some (parameter № n)) x q = absurd (no_clash (cc))
item_number_has (some (source № n)) x q = absurd (no_clash (cc))
item_number_has (some (warning_condition № n)) x q = absurd (no_clash (cc))

-- ---- each is seen

abbrev pub task_is : ℕ → RowValue
task_is n = component_is (task № n)

abbrev pub item_is : ℕ → RowValue
item_is n = component_is (data_item № n)

abbrev pub task_f : Option RowValue → Option ℕ
task_f o = task_number_f (component_f o)

abbrev pub item_f : Option RowValue → Option ℕ
item_f o = item_number_f (component_f o)

pub sees_value : Sees value_is value_f
sees_value = record { has = value_has; only = λ x. refl }

pub sees_state : Sees state_is state_f
sees_state = record { has = state_has; only = λ x. refl }

pub sees_class : Sees class_is class_f
sees_class = record { has = class_has; only = λ x. refl }

pub sees_type : Sees type_is type_f
sees_type = record { has = type_has; only = λ x. refl }

pub sees_time : Sees time_is time_f
sees_time = record { has = time_has; only = λ x. refl }

pub sees_expression : Sees expression_is expression_f
sees_expression = record { has = expression_has; only = λ x. refl }

pub sees_assertion : Sees assertion_is assertion_f
sees_assertion = record { has = assertion_has; only = λ x. refl }

pub sees_components : Sees components_are components_f
sees_components = record { has = components_has; only = λ x. refl }

pub sees_truth : Sees truth_row truth_f
sees_truth = record { has = truth_has; only = λ x. refl }

pub sees_text : Sees text_row text_f
sees_text = record { has = text_has; only = λ x. refl }

pub sees_integer : Sees integer_row integer_f
sees_integer = record { has = integer_has; only = λ x. refl }

pub sees_task : Sees task_is task_f
sees_task = record { has = λ o x q. component_has o (task № x) (task_number_has (component_f o) x q); only = λ x. refl }

pub sees_item : Sees item_is item_f
sees_item = record { has = λ o x q. component_has o (data_item № x) (item_number_has (component_f o) x q); only = λ x. refl }
