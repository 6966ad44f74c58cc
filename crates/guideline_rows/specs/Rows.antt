-- The structure of a guideline as one list of rows in the order of the text: a row for each thing that begins with a word, and one for each assignment.
-- Definitions only.
-- Whose attribute a row is follows from the rows before it: the last task or data item's, the last component's, the last source's.
use Rattle.std.specs.Prelude.{ℕ, Bool, true, false, List, [], ◌∷◌, ◌++◌, map}
use Rattle.std.proofs.Math.Option.{Option, none, some}
use Rattle.paper_expressions.specs.Types.{Declared}
use Rattle.paper_tokens.specs.Tokens.{“data”, “=”, “caption”, “description”, “precondition”, “wait-condition”, “postcondition”, “trigger”, “terminate”, “component”, “source”, “schedule-constraint”, “terminal”, “mandatory”}
use Rattle.paper_tokens.specs.Lexical.{Token}
use Rattle.paper_tokens.specs.Terminals.{name}
use Rattle.paper_guideline.specs.Structure
use Structure.{Name, Outermost, Placed, Assignment, ComponentAttribute, schedule_constraint, terminal, Generic, caption, description, SourceAttribute, source_generic, mandatory}
use Structure.{Attribute, generic, precondition, wait_condition, terminate, postcondition, trigger, component, source, Class, class_word, TopLevel, task, data_item}
use Rattle.parts.specs.Codes.{declared_code}

-- the name that a token is
abbrev pub named : Token → Name
named t = record { spelt = name t; place = t.place }

pub data Row : Type 0 where
  a_task : Class → Name → Row
  a_data_item : Name → Declared → Row
  -- an attribute, by the terminal and the place of its word: with an expression, with a name, with yes or no
  with_expression : ℕ → ℕ → Outermost → Row
  with_name : ℕ → ℕ → Name → Row
  with_answer : ℕ → ℕ → Bool → Row
  -- the word of a postcondition, and then its assignments
  a_postcondition : ℕ → Row
  an_assignment : Assignment → Row

-- ---- the rows of a guideline

abbrev pub generic_row : ℕ → Generic → Row
generic_row p (caption x) = with_expression “caption” p x
generic_row p (description x) = with_expression “description” p x

abbrev pub component_row : ℕ → ComponentAttribute → Row
component_row p (schedule_constraint n) = with_name “schedule-constraint” p n
component_row p (terminal b) = with_answer “terminal” p b

abbrev pub source_row : ℕ → SourceAttribute → Row
source_row p (source_generic g) = generic_row p g
source_row p (mandatory b) = with_answer “mandatory” p b

-- each placed thing's row
abbrev pub placed_rows : {A : Type 0} → (ℕ → A → Row) → List (Placed A) → List Row
placed_rows f [] = []
placed_rows f (x ∷ xs) = f x.word x.what ∷ placed_rows f xs

abbrev pub attribute_rows : ℕ → Attribute → List Row
attribute_rows p (generic g) = generic_row p g ∷ []
attribute_rows p (precondition x) = with_expression “precondition” p x ∷ []
attribute_rows p (wait_condition x) = with_expression “wait-condition” p x ∷ []
attribute_rows p (terminate x) = with_expression “terminate” p x ∷ []
attribute_rows p (postcondition xs) = a_postcondition p ∷ map an_assignment xs
attribute_rows p (trigger n) = with_name “trigger” p n ∷ []
attribute_rows p (component n xs) = with_name “component” p n ∷ placed_rows component_row xs
attribute_rows p (source n xs) = with_name “source” p n ∷ placed_rows source_row xs

abbrev pub attributes_rows : List (Placed Attribute) → List Row
attributes_rows [] = []
attributes_rows (x ∷ xs) = attribute_rows x.word x.what ++ attributes_rows xs

abbrev pub flatten : List TopLevel → List Row
flatten [] = []
flatten (task t ∷ g) = a_task t.class t.named ∷ (attributes_rows t.attributes ++ flatten g)
flatten (data_item d ∷ g) = a_data_item d.named d.declared ∷ (placed_rows generic_row d.attributes ++ flatten g)

-- ---- what a row's cells say

-- the terminal of its word, "=" for an assignment
abbrev pub kind-of : Row → ℕ
kind-of (a_task k n) = class_word k
kind-of (a_data_item n d) = “data”
kind-of (with_expression k p x) = k
kind-of (with_name k p n) = k
kind-of (with_answer k p b) = k
kind-of (a_postcondition p) = “postcondition”
kind-of (an_assignment a) = “=”

-- the place of an attribute's word; 0 for the others
abbrev pub word_of : Row → ℕ
word_of (a_task k n) = 0
word_of (a_data_item n d) = 0
word_of (with_expression k p x) = p
word_of (with_name k p n) = p
word_of (with_answer k p b) = p
word_of (a_postcondition p) = p
word_of (an_assignment a) = 0

abbrev pub name_of : Row → Option Name
name_of (a_task k n) = some n
name_of (a_data_item n d) = some n
name_of (with_expression k p x) = none
name_of (with_name k p n) = some n
name_of (with_answer k p b) = none
name_of (a_postcondition p) = none
name_of (an_assignment a) = some a.target

abbrev pub expression_of : Row → Option Outermost
expression_of (a_task k n) = none
expression_of (a_data_item n d) = none
expression_of (with_expression k p x) = some x
expression_of (with_name k p n) = none
expression_of (with_answer k p b) = none
expression_of (a_postcondition p) = none
expression_of (an_assignment a) = some a.value

-- 1 for yes and 2 for no
abbrev pub answer_code : Bool → ℕ
answer_code true = 1
answer_code false = 2

-- yes or no, or the declared type; 0 for the others
abbrev pub flag_of : Row → ℕ
flag_of (a_task k n) = 0
flag_of (a_data_item n d) = declared_code d
flag_of (with_expression k p x) = 0
flag_of (with_name k p n) = 0
flag_of (with_answer k p b) = answer_code b
flag_of (a_postcondition p) = 0
flag_of (an_assignment a) = 0
