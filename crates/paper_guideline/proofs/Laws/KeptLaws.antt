-- Tokens that have a structure hold no word that is left out: each clause of a structure takes only words that are not, and what it is made of does too.
use Rattle.std.specs.Prelude.{ℕ, ◌≡◌, refl, Bool, true, false, not}
use Rattle.std.proofs.Common.{sym, subst, ◌∙◌}
use mathlib.Core.List.{List, [], ◌∷◌, Memᴰ}
use Rattle.paper_expressions.specs.Types.{Declared}
use Rattle.paper_expressions.specs.Operators.{Op}
use Rattle.paper_expressions.specs.Expressions.{Expr}
use Rattle.paper_expressions.specs.View.{At, at_first, at_later}
use Rattle.paper_expressions.proofs.Laws.Tests.{contra, every, every_at}
use Rattle.paper_expressions.proofs.Laws.Search.{reflects_true}
use Rattle.paper_tokens.specs.Lexical.{Token, atom}
use Rattle.paper_tokens.specs.Terminals.{Terminal}
use Rattle.paper_tokens.specs.Terminals as Terminals
use Rattle.paper_tokens.proofs.Laws.TerminalLaws.{terminal_f, terminal_is, atom-kind}
use Rattle.paper_grammar.proofs.Laws.Ll.{is_in}
use Rattle.paper_guideline.specs.LeftOut.{left_out_words}
use Rattle.paper_guideline.specs.Tree
use Tree.{infixes, Where, Tree, infix_operator, looser, unary_minus, an_atom, an_integer, a_float, a_string, parentheses, a_list, a_call, empty, nonempty, last, then_more}
use Rattle.paper_guideline.specs.Structure
use Structure.{Placed, Outermost, Name, Assignment, Class, plan, action, enquiry, Task, DataItem, TopLevel, ComponentAttribute, Generic, SourceAttribute, Attribute}
use Structure.{Says, says, YesOrNo, is_yes, is_no, SaysYesOrNo, says_yes_or_no, SaysName, says_name, Series, none, and_more, Assertion, assignment, both, in_parentheses}
use Structure.{ComponentAttributeAt, constraint, is_terminal, GenericAt, a_caption, a_description, SourceAttributeAt, a_source_generic, is_mandatory}
use Structure.{AttributeAt, a_precondition, a_wait_condition, a_postcondition, a_trigger, a_component, a_terminate_condition, a_source, class_word, TaskAt, a_task}
use Structure.{DataType, data_type, DataItemAt, a_data_item, TopLevelAt, a_top_task, a_top_data_item, Structure, guideline}
use Rattle.paper_guideline.proofs.Laws.StageTwin.{in_reflects}

-- the word is not left out
data Fine (t : Token) : Type 0 where
  is_fine : is_in (terminal_f t) left_out_words ≡ false → Fine t

-- all tokens of w before r are so
data Kept : List Token → List Token → Type 0 where
  no_more : {r : List Token} → Kept r r
  ◌&◌ : {t : Token} {w r : List Token} → Fine t → Kept w r → Kept (t ∷ w) r

infixr 5 ◌&◌
◌then◌ : {w m r : List Token} → Kept w m → Kept m r → Kept w r
no_more then k = k
(f & h) then k = f & (h then k)

infixr 4 ◌then◌
fine : {t : Token} {k : ℕ} → Terminal t k → is_in k left_out_words ≡ false → Fine t
fine h e = is_fine (subst (λ (j : ℕ). is_in j left_out_words ≡ false) (sym (terminal_is h)) e)

fine_atom : {t : Token} → t.rule ≡ atom → Fine t
unfolding left_out_words
fine_atom {t} e = is_fine (atom-kind t e (λ (k : ℕ). is_in k left_out_words ≡ false) refl refl refl)

-- ---- expressions

all_infix : every (λ (x : ℕ × ℕ × Op). not (is_in x.1 left_out_words)) infixes ≡ true
unfolding infixes left_out_words
all_infix = refl

not_not : (b : Bool) → not b ≡ true → b ≡ false
not_not true e = contra e
not_not false e = refl

fine_infix : {l k : ℕ} {o : Op} {t : Token} → Memᴰ (l, k, o) infixes → Terminal t k → Fine t
fine_infix {l} {k} {o} m h = fine h (not_not (is_in k left_out_words) (every_at (λ (x : ℕ × ℕ × Op). not (is_in x.1 left_out_words)) infixes all_infix (l, k, o) m))

tree_kept : {a : Where} {l : ℕ} {w r : List Token} {e : Expr} → Tree a l w r e → Kept w r
unfolding left_out_words
tree_kept x = elim x as (λ a l w r e x. Kept w r) (λ w r es x. Kept w r) (λ w r es x. Kept w r) [
  | infix_operator m t s (x → f) (y → g) ↦ f then fine_infix m t & g
  | looser (x → f) ↦ f
  | unary_minus t (x → f) ↦ fine t refl & f
  | an_atom e ↦ fine_atom e & no_more
  | an_integer e ↦ fine (Terminals.an_integer e) refl & no_more
  | a_float e ↦ fine (Terminals.a_float e) refl & no_more
  | a_string e ↦ fine (Terminals.a_string e) refl & no_more
  | parentheses t (x → f) c ↦ fine t refl & (f then fine c refl & no_more)
  | a_list t (x → f) c ↦ fine t refl & (f then fine c refl & no_more)
  | a_call e n t (x → f) c ↦ fine_atom e & fine t refl & (f then fine c refl & no_more)
  | empty ↦ no_more
  | nonempty (x → f) ↦ f
  | last (x → f) ↦ f
  | then_more (x → f) t (y → g) ↦ f then fine t refl & g
]

-- ---- what begins with a word

abbrev Plain : ℕ → Type 0
Plain k = is_in k left_out_words ≡ false

says_kept : {word : ℕ} {w r : List Token} {x : Placed Outermost} → Plain word → Says word w r x → Kept w r
unfolding left_out_words
says_kept e (says t c x s) = fine t e & fine c refl & (tree_kept x then fine s refl & no_more)

yes_or_no_kept : {t : Token} {b : Bool} → YesOrNo t b → Fine t
unfolding left_out_words
yes_or_no_kept (is_yes h e) = fine h refl
yes_or_no_kept (is_no h e) = fine h refl

says_yes_or_no_kept : {word : ℕ} {w r : List Token} {x : Placed Bool} → Plain word → SaysYesOrNo word w r x → Kept w r
unfolding left_out_words
says_yes_or_no_kept e (says_yes_or_no t c y s) = fine t e & fine c refl & yes_or_no_kept y & fine s refl & no_more

says_name_kept : {word : ℕ} {w r : List Token} {x : Placed Name} → Plain word → SaysName word w r x → Kept w r
unfolding left_out_words
says_name_kept e (says_name t c n s) = fine t e & fine c refl & fine_atom n & fine s refl & no_more

series_kept : {A : Type 0} {X : List Token → List Token → A → Type 0} → ((w r : List Token) (x : A) → X w r x → Kept w r)
    → {w r : List Token} {xs : List A} → Series X w r xs → Kept w r
series_kept f none = no_more
series_kept f (and_more {w} {m} {a} x xs) = f w m a x then series_kept f xs

assertion_kept : {w r : List Token} {xs : List Assignment} → Assertion w r xs → Kept w r
unfolding left_out_words
assertion_kept (assignment t q x) = fine_atom t & fine q refl & tree_kept x
assertion_kept (both x t y) = assertion_kept x then fine t refl & assertion_kept y
assertion_kept (in_parentheses t x c) = fine t refl & (assertion_kept x then fine c refl & no_more)

component_attribute_kept : (w r : List Token) (x : Placed ComponentAttribute) → ComponentAttributeAt w r x → Kept w r
unfolding left_out_words
component_attribute_kept w r x (constraint t c d o n p s) = fine t refl & fine c refl & fine d refl & fine o refl & fine_atom n & fine p refl & fine s refl & no_more
component_attribute_kept w r x (is_terminal h) = says_yes_or_no_kept refl h

generic_kept : (w r : List Token) (x : Placed Generic) → GenericAt w r x → Kept w r
unfolding left_out_words
generic_kept w r x (a_caption h) = says_kept refl h
generic_kept w r x (a_description h) = says_kept refl h

source_attribute_kept : (w r : List Token) (x : Placed SourceAttribute) → SourceAttributeAt w r x → Kept w r
unfolding left_out_words
source_attribute_kept w r x (a_source_generic h) = generic_kept w r _ h
source_attribute_kept w r x (is_mandatory h) = says_yes_or_no_kept refl h

attribute_kept : (k : Class) (w r : List Token) (x : Placed Attribute) → AttributeAt k w r x → Kept w r
unfolding left_out_words
attribute_kept k w r x (a_precondition h) = says_kept refl h
attribute_kept k w r x (a_wait_condition h) = says_kept refl h
attribute_kept k w r x (a_postcondition t c h s) = fine t refl & fine c refl & (assertion_kept h then fine s refl & no_more)
attribute_kept k w r x (a_trigger h) = says_name_kept refl h
attribute_kept k w r x (a_component h xs) = says_name_kept refl h then series_kept component_attribute_kept xs
attribute_kept k w r x (a_terminate_condition h) = says_kept refl h
attribute_kept k w r x (a_source h xs) = says_name_kept refl h then series_kept source_attribute_kept xs

plain_class : (k : Class) → Plain (class_word k)
unfolding left_out_words
plain_class plan = refl
plain_class action = refl
plain_class enquiry = refl

task_kept : {w r : List Token} {x : Task} → TaskAt w r x → Kept w r
unfolding left_out_words
task_kept (a_task {k} h gs xs e f d) =
    says_name_kept (plain_class k) h then series_kept generic_kept gs then series_kept (attribute_kept k) xs then fine e refl & fine f (plain_class k) & fine d refl & no_more

type_kept : {t : Token} {d : Declared} → DataType t d → Fine t
unfolding left_out_words
type_kept (data_type h e) = fine h refl

data_item_kept : {w r : List Token} {x : DataItem} → DataItemAt w r x → Kept w r
unfolding left_out_words
data_item_kept (a_data_item h t c y s gs e f d) =
    says_name_kept refl h then fine t refl & fine c refl & type_kept y & fine s refl & (series_kept generic_kept gs then fine e refl & fine f refl & fine d refl & no_more)

top_kept : (w r : List Token) (x : TopLevel) → TopLevelAt w r x → Kept w r
top_kept w r x (a_top_task h) = task_kept h
top_kept w r x (a_top_data_item h) = data_item_kept h

structure_kept : {ts : List Token} {g : List TopLevel} → Structure ts g → Kept ts []
structure_kept (guideline h e xs) = task_kept h then series_kept top_kept xs

each_fine : {ts : List Token} {i : ℕ} {t : Token} → Kept ts [] → At ts i t → Fine t
each_fine (f & k) at_first = f
each_fine (f & k) (at_later h) = each_fine k h
each_fine {i = i} {t = t} no_more x4 = elim x4 [ ]

-- no token of a structure is a word that is left out
pub no_word_left_out : {ts : List Token} {g : List TopLevel} {i k : ℕ} {t : Token} → Structure ts g → At ts i t → Terminal t k → ¬ Memᴰ k left_out_words
no_word_left_out {k} {t} s h e m = not_out (each_fine (structure_kept s) h)
  where
    not_out : Fine t → ⊥
    not_out (is_fine f) = contra (sym f ∙ subst (λ (j : ℕ). is_in j left_out_words ≡ true) (sym (terminal_is e)) (reflects_true (in_reflects k left_out_words) m))
