-- Whatever has a structure is a guideline by the productions of 3.2: each construct derives its tokens before any others that are derived, so derivations compose by themselves.
use Rattle.std.specs.Prelude.{ℕ, ◌≡◌, refl, Bool, true, ◌&&◌, ◌||◌, eqb}
use Rattle.std.proofs.Common.{sym, subst, ⊎_elim, arith, eqb-true}
use mathlib.Core.List.{List, [], ◌∷◌, map, Memᴰ}
use Rattle.paper_expressions.proofs.Laws.Tests.{every, every_at, some_one, some_at, and_l, and_r, or_cases}
use Rattle.paper_expressions.specs.Types.{Declared}
use Rattle.paper_expressions.specs.Operators.{Op}
use Rattle.paper_expressions.specs.Expressions.{Expr}
use Rattle.paper_tokens.specs.Tokens
use Tokens.{“data”, “type”, “end”, “::”, “semicolon”, “dot”, “open”, “close”, “[”, “]”, “comma”, “=”, “and”, “-”}
use Tokens.{“caption”, “description”, “precondition”, “wait-condition”, “postcondition”, “trigger”, “terminate”, “component”, “source”}
use Tokens.{“schedule-constraint”, “completed”, “terminal”, “mandatory”, ‘other-atom’, ‘yes-or-no’, ‘data-type’, ‘integer’, ‘float’, ‘double-quoted-string’, terminals}
use Rattle.paper_grammar.specs.Nonterminals
use Nonterminals.{⟨process⟩, ⟨optional-directives⟩, ⟨top-level-component-list⟩, ⟨top-level-component⟩, ⟨task⟩, ⟨plan-task⟩, ⟨action-task⟩, ⟨enquiry-task⟩}
use Nonterminals.{⟨data-item⟩, ⟨data-name⟩, ⟨data-type⟩, ⟨data-type-definition⟩, ⟨data-attribute-list⟩, ⟨generic-attribute⟩, ⟨generic-attribute-list⟩, ⟨caption⟩, ⟨description⟩}
use Nonterminals.{⟨plan-attribute⟩, ⟨action-attribute⟩, ⟨enquiry-attribute⟩, ⟨plan-attribute-list⟩, ⟨action-attribute-list⟩, ⟨enquiry-attribute-list⟩, ⟨task-attribute⟩}
use Nonterminals.{⟨precondition⟩, ⟨wait-condition⟩, ⟨postcondition⟩, ⟨trigger⟩, ⟨terminate-condition⟩, ⟨component⟩, ⟨component-attribute⟩, ⟨component-attribute-list⟩}
use Nonterminals.{⟨schedule-constraint⟩, ⟨terminal-att⟩, ⟨source⟩, ⟨source-attribute⟩, ⟨source-attribute-list⟩, ⟨mandatory⟩, ⟨yes-or-no⟩, ⟨assertion⟩}
use Nonterminals.{⟨expression⟩, ⟨expression-no-and⟩, ⟨expression-list⟩, ⟨nonempty-expression-list⟩, ⟨functor-name⟩, ⟨atom⟩, ⟨empty⟩}
use Rattle.paper_grammar.specs.Cfg.{Prod, ◌::=◌, Derives, done, token, rule}
use Rattle.paper_grammar.specs.Grammar.{grammar, printed, no_and, atoms}
use Rattle.paper_grammar.specs.Sentence.{SentenceOf, Guideline}
use Rattle.paper_tokens.specs.Lexical.{Token, atom}
use Rattle.paper_tokens.specs.Terminals.{Terminal, Terminals}
use Rattle.paper_tokens.specs.Terminals
use Rattle.paper_guideline.specs.Tree
use Tree.{infixes, Where, anywhere, assigned, MayStand, any_operator, but_and, Tree, infix_operator, looser, unary_minus, an_atom, an_integer, a_float, a_string, parentheses, a_list, a_call, empty, nonempty, last, then_more}
use Rattle.paper_guideline.specs.Structure
use Structure.{Outermost, Placed, Name, Assignment, Generic, ComponentAttribute, SourceAttribute, Attribute, Class, plan, action, enquiry, Task, DataItem, TopLevel}
use Structure.{Says, says, YesOrNo, is_yes, is_no, SaysYesOrNo, says_yes_or_no, SaysName, says_name, Series, none, and_more, Assertion, assignment, both, in_parentheses}
use Structure.{ComponentAttributeAt, constraint, is_terminal, GenericAt, a_caption, a_description, SourceAttributeAt, a_source_generic, is_mandatory}
use Structure.{AttributeAt, a_precondition, a_wait_condition, a_postcondition, a_trigger, a_component, a_terminate_condition, a_source, class_word, TaskAt, a_task}
use Structure.{DataType, data_type, DataItemAt, a_data_item, TopLevelAt, a_top_task, a_top_data_item, Structure, guideline}
use Rattle.paper_tokens.proofs.Laws.LexicalTwin.{same, same_is}
use Rattle.paper_tokens.proofs.Laws.TerminalLaws.{terminal_f, terminal_is, terminals_are, is_terminal as below, atom-kind}

-- ---- looking a production up

abbrev alike : Prod → Prod → Bool
alike (A ::= α) (B ::= β) = eqb A B && same α β

alike_is : (p q : Prod) → alike p q ≡ true → p ≡ q
alike_is (A ::= α) (B ::= β) h =
    let e = eqb-true A B (and_l (eqb A B) (same α β) h) in
    let f = same_is α β (and_r (eqb A B) (same α β) h) in
    cc

abbrev listed : Prod → Bool
listed p = some_one (alike p) grammar

in_print : (p : Prod) → listed p ≡ true → Memᴰ p grammar
in_print p h =
    let x = some_at (alike p) grammar h in
    subst (λ (q : Prod). Memᴰ q grammar) (sym (alike_is p x.0 x.2)) x.1

-- ---- tokens

abbrev kinds : List Token → List ℕ
kinds w = map terminal_f w

-- these tokens come of these symbols by the productions of 3.2
abbrev pub D : List ℕ → List ℕ → Type 0
D α w = Derives terminals grammar α w

tok : {t : Token} {k : ℕ} {α w : List ℕ} → Terminal t k → D α w → D (k ∷ α) (terminal_f t ∷ w)
tok {k} {α} {w} h d = subst (λ (j : ℕ). D (k ∷ α) (j ∷ w)) (sym (terminal_is h)) (token (below h) d)

from_atom : {α w : List ℕ} (t : Token) → t.rule ≡ atom → D α w → D (⟨atom⟩ ∷ α) (terminal_f t ∷ w)
unfolding grammar printed no_and atoms
from_atom {α} {w} t h d = atom-kind t h (λ (k : ℕ). D (⟨atom⟩ ∷ α) (k ∷ w))
    (rule (in_print (⟨atom⟩ ::= ‘other-atom’ ∷ []) refl) (token (omega arith) d))
    (rule (in_print (⟨atom⟩ ::= ‘yes-or-no’ ∷ []) refl) (token (omega arith) d))
    (rule (in_print (⟨atom⟩ ::= ‘data-type’ ∷ []) refl) (token (omega arith) d))

nothing : {α w : List ℕ} → D α w → D (⟨empty⟩ ∷ α) w
unfolding grammar printed no_and atoms
nothing d = rule (in_print (⟨empty⟩ ::= []) refl) d

-- ---- expressions

abbrev expression : Where → ℕ
expression anywhere = ⟨expression⟩
expression assigned = ⟨expression-no-and⟩

-- a production that both kinds of expression have
either : (a : Where) (β : List ℕ) → listed (⟨expression⟩ ::= β) ≡ true → listed (⟨expression-no-and⟩ ::= β) ≡ true → Memᴰ (expression a ::= β) grammar
either anywhere β h g = in_print (⟨expression⟩ ::= β) h
either assigned β h g = in_print (⟨expression-no-and⟩ ::= β) g

minus_rule : (a : Where) → Memᴰ (expression a ::= “-” ∷ expression a ∷ []) grammar
unfolding grammar printed no_and atoms
minus_rule anywhere = in_print (⟨expression⟩ ::= “-” ∷ ⟨expression⟩ ∷ []) refl
minus_rule assigned = in_print (⟨expression-no-and⟩ ::= “-” ∷ ⟨expression-no-and⟩ ∷ []) refl

abbrev infix_listed : ℕ → ℕ → Bool
infix_listed A k = listed (A ::= A ∷ k ∷ A ∷ [])

all_anywhere : every (λ (x : ℕ × ℕ × Op). infix_listed ⟨expression⟩ x.1) infixes ≡ true
unfolding grammar printed no_and atoms infixes
all_anywhere = refl

all_assigned : every (λ (x : ℕ × ℕ × Op). eqb x.1 “and” || infix_listed ⟨expression-no-and⟩ x.1) infixes ≡ true
unfolding grammar printed no_and atoms infixes
all_assigned = refl

infix_rule : {a : Where} {l k : ℕ} {o : Op} → Memᴰ (l, k, o) infixes → MayStand a k → Memᴰ (expression a ::= expression a ∷ k ∷ expression a ∷ []) grammar
infix_rule {l} {k} {o} m any_operator =
    in_print (⟨expression⟩ ::= ⟨expression⟩ ∷ k ∷ ⟨expression⟩ ∷ []) (every_at (λ (x : ℕ × ℕ × Op). infix_listed ⟨expression⟩ x.1) infixes all_anywhere (l, k, o) m)
infix_rule {l} {k} {o} m (but_and n) = ⊎_elim
    (λ (e : eqb k “and” ≡ true). absurd (n (eqb-true k “and” e)))
    (λ (e : infix_listed ⟨expression-no-and⟩ k ≡ true). in_print (⟨expression-no-and⟩ ::= ⟨expression-no-and⟩ ∷ k ∷ ⟨expression-no-and⟩ ∷ []) e)
    (or_cases (eqb k “and”) (infix_listed ⟨expression-no-and⟩ k)
    (every_at (λ (x : ℕ × ℕ × Op). eqb x.1 “and” || infix_listed ⟨expression-no-and⟩ x.1) infixes all_assigned (l, k, o) m))

from_tree : {a : Where} {l : ℕ} {w r : List Token} {e : Expr} → Tree a l w r e → (α : List ℕ) → D α (kinds r) → D (expression a ∷ α) (kinds w)
unfolding grammar printed no_and atoms
from_tree x = elim x as
    (λ a l w r e x. (α : List ℕ) → D α (kinds r) → D (expression a ∷ α) (kinds w))
    (λ w r es x. (α : List ℕ) → D α (kinds r) → D (⟨expression-list⟩ ∷ α) (kinds w))
    (λ w r es x. (α : List ℕ) → D α (kinds r) → D (⟨nonempty-expression-list⟩ ∷ α) (kinds w)) [
      | infix_operator {a} {k} i h p (x → f) (y → g) ↦ λ α d. rule (infix_rule i p) (f (k ∷ expression a ∷ α) (tok h (g α d)))
      | looser (x → f) ↦ f
      | unary_minus {a} h (x → f) ↦ λ α d. rule (minus_rule a) (tok h (f α d))
      | an_atom {a} {t} h ↦ λ α d. rule (either a (⟨atom⟩ ∷ []) refl refl) (from_atom t h d)
      | an_integer {a} h ↦ λ α d. rule (either a (‘integer’ ∷ []) refl refl) (tok (Terminals.an_integer h) d)
      | a_float {a} h ↦ λ α d. rule (either a (‘float’ ∷ []) refl refl) (tok (Terminals.a_float h) d)
      | a_string {a} h ↦ λ α d. rule (either a (‘double-quoted-string’ ∷ []) refl refl) (tok (Terminals.a_string h) d)
      | parentheses {a} h (x → f) k ↦ λ α d. rule (either a (“open” ∷ ⟨expression⟩ ∷ “close” ∷ []) refl refl) (tok h (f (“close” ∷ α) (tok k d)))
      | a_list {a} h (x → f) k ↦ λ α d. rule (either a (“[” ∷ ⟨expression-list⟩ ∷ “]” ∷ []) refl refl) (tok h (f (“]” ∷ α) (tok k d)))
      | a_call {a} {f} e o h (x → g) k ↦ λ α d. rule (either a (⟨functor-name⟩ ∷ “open” ∷ ⟨expression-list⟩ ∷ “close” ∷ []) refl refl)
          (rule (in_print (⟨functor-name⟩ ::= ⟨atom⟩ ∷ []) refl) (from_atom f e (tok h (g (“close” ∷ α) (tok k d)))))
      | empty ↦ λ α d. rule (in_print (⟨expression-list⟩ ::= ⟨empty⟩ ∷ []) refl) (nothing d)
      | nonempty (x → f) ↦ λ α d. rule (in_print (⟨expression-list⟩ ::= ⟨nonempty-expression-list⟩ ∷ []) refl) (f α d)
      | last (x → f) ↦ λ α d. rule (in_print (⟨nonempty-expression-list⟩ ::= ⟨expression⟩ ∷ []) refl) (f α d)
      | then_more (x → f) h (y → g) ↦ λ α d. rule (in_print (⟨nonempty-expression-list⟩ ::= ⟨expression⟩ ∷ “comma” ∷ ⟨nonempty-expression-list⟩ ∷ []) refl)
          (f (“comma” ∷ ⟨nonempty-expression-list⟩ ∷ α) (tok h (g α d)))
    ]

-- ---- attributes

from_says : {word : ℕ} {w r : List Token} {x : Placed Outermost} → Says word w r x → (α : List ℕ) → D α (kinds r)
    → D (word ∷ “::” ∷ ⟨expression⟩ ∷ “semicolon” ∷ α) (kinds w)
from_says (says t c x s) α d = tok t (tok c (from_tree x (“semicolon” ∷ α) (tok s d)))

from_says_name : {word : ℕ} {w r : List Token} {x : Placed Name} → SaysName word w r x → (α : List ℕ) → D α (kinds r)
    → D (word ∷ “::” ∷ ⟨atom⟩ ∷ “semicolon” ∷ α) (kinds w)
from_says_name (says_name {n} t c h s) α d = tok t (tok c (from_atom n h (tok s d)))

-- where the name is a <data_name>
from_says_data : {word : ℕ} {w r : List Token} {x : Placed Name} → SaysName word w r x → (α : List ℕ) → D α (kinds r)
    → D (word ∷ “::” ∷ ⟨data-name⟩ ∷ “semicolon” ∷ α) (kinds w)
unfolding grammar printed no_and atoms
from_says_data (says_name {n} t c h s) α d = tok t (tok c (rule (in_print (⟨data-name⟩ ::= ⟨atom⟩ ∷ []) refl) (from_atom n h (tok s d))))

from_yes_or_no : {t : Token} {b : Bool} {α w : List ℕ} → YesOrNo t b → D α w → D (⟨yes-or-no⟩ ∷ α) (terminal_f t ∷ w)
unfolding grammar printed no_and atoms
from_yes_or_no (is_yes h e) d = rule (in_print (⟨yes-or-no⟩ ::= ‘yes-or-no’ ∷ []) refl) (tok h d)
from_yes_or_no (is_no h e) d = rule (in_print (⟨yes-or-no⟩ ::= ‘yes-or-no’ ∷ []) refl) (tok h d)

from_says_yes_or_no : {word : ℕ} {w r : List Token} {x : Placed Bool} → SaysYesOrNo word w r x → (α : List ℕ) → D α (kinds r)
    → D (word ∷ “::” ∷ ⟨yes-or-no⟩ ∷ “semicolon” ∷ α) (kinds w)
from_says_yes_or_no (says_yes_or_no t c y s) α d = tok t (tok c (from_yes_or_no y (tok s d)))

from_series : {A : Type 0} {One : List Token → List Token → A → Type 0} {w r : List Token} {xs : List A} (L B : ℕ)
    → listed (L ::= B ∷ L ∷ []) ≡ true → listed (L ::= ⟨empty⟩ ∷ []) ≡ true
    → ((w r : List Token) (x : A) → One w r x → (α : List ℕ) → D α (kinds r) → D (B ∷ α) (kinds w))
    → Series One w r xs → (α : List ℕ) → D α (kinds r) → D (L ∷ α) (kinds w)
from_series L B h e f none α d = rule (in_print (L ::= ⟨empty⟩ ∷ []) e) (nothing d)
from_series L B h e f (and_more {w} {m} {a} x xs) α d =
    rule (in_print (L ::= B ∷ L ∷ []) h) (f w m a x (L ∷ α) (from_series L B h e f xs α d))

from_assertion : {w r : List Token} {xs : List Assignment} → Assertion w r xs → (α : List ℕ) → D α (kinds r) → D (⟨assertion⟩ ∷ α) (kinds w)
unfolding grammar printed no_and atoms
from_assertion (assignment {t} h q x) α d = rule (in_print (⟨assertion⟩ ::= ⟨atom⟩ ∷ “=” ∷ ⟨expression-no-and⟩ ∷ []) refl) (from_atom t h (tok q (from_tree x α d)))
from_assertion (both x h y) α d =
    rule (in_print (⟨assertion⟩ ::= ⟨assertion⟩ ∷ “and” ∷ ⟨assertion⟩ ∷ []) refl) (from_assertion x (“and” ∷ ⟨assertion⟩ ∷ α) (tok h (from_assertion y α d)))
from_assertion (in_parentheses h x k) α d = rule (in_print (⟨assertion⟩ ::= “open” ∷ ⟨assertion⟩ ∷ “close” ∷ []) refl) (tok h (from_assertion x (“close” ∷ α) (tok k d)))

from_generic : (w r : List Token) (x : Placed Generic) → GenericAt w r x → (α : List ℕ) → D α (kinds r) → D (⟨generic-attribute⟩ ∷ α) (kinds w)
unfolding grammar printed no_and atoms
from_generic w r x (a_caption h) α d =
    rule (in_print (⟨generic-attribute⟩ ::= ⟨caption⟩ ∷ []) refl)
    (rule (in_print (⟨caption⟩ ::= “caption” ∷ “::” ∷ ⟨expression⟩ ∷ “semicolon” ∷ []) refl) (from_says h α d))
from_generic w r x (a_description h) α d =
    rule (in_print (⟨generic-attribute⟩ ::= ⟨description⟩ ∷ []) refl)
    (rule (in_print (⟨description⟩ ::= “description” ∷ “::” ∷ ⟨expression⟩ ∷ “semicolon” ∷ []) refl) (from_says h α d))

from_generics : {w r : List Token} {xs : List (Placed Generic)} → Series GenericAt w r xs → (α : List ℕ) → D α (kinds r) → D (⟨generic-attribute-list⟩ ∷ α) (kinds w)
unfolding grammar printed no_and atoms
from_generics xs = from_series ⟨generic-attribute-list⟩ ⟨generic-attribute⟩ refl refl from_generic xs

from_component_attribute : (w r : List Token) (x : Placed ComponentAttribute) → ComponentAttributeAt w r x → (α : List ℕ) → D α (kinds r) → D (⟨component-attribute⟩ ∷ α) (kinds w)
unfolding grammar printed no_and atoms
from_component_attribute w r x (constraint {n} t c e o h p s) α d =
    rule (in_print (⟨component-attribute⟩ ::= ⟨schedule-constraint⟩ ∷ []) refl)
    (rule (in_print (⟨schedule-constraint⟩ ::= “schedule-constraint” ∷ “::” ∷ “completed” ∷ “open” ∷ ⟨atom⟩ ∷ “close” ∷ “semicolon” ∷ []) refl)
    (tok t (tok c (tok e (tok o (from_atom n h (tok p (tok s d))))))))
from_component_attribute w r x (is_terminal h) α d =
    rule (in_print (⟨component-attribute⟩ ::= ⟨terminal-att⟩ ∷ []) refl)
    (rule (in_print (⟨terminal-att⟩ ::= “terminal” ∷ “::” ∷ ⟨yes-or-no⟩ ∷ “semicolon” ∷ []) refl) (from_says_yes_or_no h α d))

from_source_attribute : (w r : List Token) (x : Placed SourceAttribute) → SourceAttributeAt w r x → (α : List ℕ) → D α (kinds r) → D (⟨source-attribute⟩ ∷ α) (kinds w)
unfolding grammar printed no_and atoms
from_source_attribute w r x (a_source_generic {x = g} h) α d = rule (in_print (⟨source-attribute⟩ ::= ⟨generic-attribute⟩ ∷ []) refl) (from_generic w r g h α d)
from_source_attribute w r x (is_mandatory h) α d =
    rule (in_print (⟨source-attribute⟩ ::= ⟨mandatory⟩ ∷ []) refl)
    (rule (in_print (⟨mandatory⟩ ::= “mandatory” ∷ “::” ∷ ⟨yes-or-no⟩ ∷ “semicolon” ∷ []) refl) (from_says_yes_or_no h α d))

-- ---- tasks and data items

abbrev task_symbol : Class → ℕ
task_symbol plan = ⟨plan-task⟩
task_symbol action = ⟨action-task⟩
task_symbol enquiry = ⟨enquiry-task⟩

abbrev attribute_symbol : Class → ℕ
attribute_symbol plan = ⟨plan-attribute⟩
attribute_symbol action = ⟨action-attribute⟩
attribute_symbol enquiry = ⟨enquiry-attribute⟩

abbrev attributes_symbol : Class → ℕ
attributes_symbol plan = ⟨plan-attribute-list⟩
attributes_symbol action = ⟨action-attribute-list⟩
attributes_symbol enquiry = ⟨enquiry-attribute-list⟩

-- a production with the symbols of a class
per_class : (k : Class) (p : Class → Prod) → listed (p plan) ≡ true → listed (p action) ≡ true → listed (p enquiry) ≡ true → Memᴰ (p k) grammar
per_class plan p a b c = in_print (p plan) a
per_class action p a b c = in_print (p action) b
per_class enquiry p a b c = in_print (p enquiry) c

any_task : {α w : List ℕ} (k : Class) → D (⟨task-attribute⟩ ∷ α) w → D (attribute_symbol k ∷ α) w
unfolding grammar printed no_and atoms
any_task k d = rule (per_class k (λ c. attribute_symbol c ::= ⟨task-attribute⟩ ∷ []) refl refl refl) d

from_attribute : (k : Class) (w r : List Token) (x : Placed Attribute) → AttributeAt k w r x → (α : List ℕ) → D α (kinds r) → D (attribute_symbol k ∷ α) (kinds w)
unfolding grammar printed no_and atoms
from_attribute k w r x (a_precondition h) α d =
    any_task k (rule (in_print (⟨task-attribute⟩ ::= ⟨precondition⟩ ∷ []) refl)
    (rule (in_print (⟨precondition⟩ ::= “precondition” ∷ “::” ∷ ⟨expression⟩ ∷ “semicolon” ∷ []) refl) (from_says h α d)))
from_attribute k w r x (a_wait_condition h) α d =
    any_task k (rule (in_print (⟨task-attribute⟩ ::= ⟨wait-condition⟩ ∷ []) refl)
    (rule (in_print (⟨wait-condition⟩ ::= “wait-condition” ∷ “::” ∷ ⟨expression⟩ ∷ “semicolon” ∷ []) refl) (from_says h α d)))
from_attribute k w r x (a_postcondition t c y s) α d =
    any_task k (rule (in_print (⟨task-attribute⟩ ::= ⟨postcondition⟩ ∷ []) refl)
    (rule (in_print (⟨postcondition⟩ ::= “postcondition” ∷ “::” ∷ ⟨assertion⟩ ∷ “semicolon” ∷ []) refl) (tok t (tok c (from_assertion y (“semicolon” ∷ α) (tok s d))))))
from_attribute k w r x (a_trigger h) α d =
    any_task k (rule (in_print (⟨task-attribute⟩ ::= ⟨trigger⟩ ∷ []) refl)
    (rule (in_print (⟨trigger⟩ ::= “trigger” ∷ “::” ∷ ⟨atom⟩ ∷ “semicolon” ∷ []) refl) (from_says_name h α d)))
from_attribute k w r x (a_component h xs) α d =
    rule (in_print (⟨plan-attribute⟩ ::= ⟨component⟩ ∷ []) refl)
    (rule (in_print (⟨component⟩ ::= “component” ∷ “::” ∷ ⟨atom⟩ ∷ “semicolon” ∷ ⟨component-attribute-list⟩ ∷ []) refl)
    (from_says_name h (⟨component-attribute-list⟩ ∷ α) (from_series ⟨component-attribute-list⟩ ⟨component-attribute⟩ refl refl from_component_attribute xs α d)))
from_attribute k w r x (a_terminate_condition h) α d =
    rule (in_print (⟨plan-attribute⟩ ::= ⟨terminate-condition⟩ ∷ []) refl)
    (rule (in_print (⟨terminate-condition⟩ ::= “terminate” ∷ “::” ∷ ⟨expression⟩ ∷ “semicolon” ∷ []) refl) (from_says h α d))
from_attribute k w r x (a_source h xs) α d =
    rule (in_print (⟨enquiry-attribute⟩ ::= ⟨source⟩ ∷ []) refl)
    (rule (in_print (⟨source⟩ ::= “source” ∷ “::” ∷ ⟨data-name⟩ ∷ “semicolon” ∷ ⟨source-attribute-list⟩ ∷ []) refl)
    (from_says_data h (⟨source-attribute-list⟩ ∷ α) (from_series ⟨source-attribute-list⟩ ⟨source-attribute⟩ refl refl from_source_attribute xs α d)))

from_attributes : {w r : List Token} {xs : List (Placed Attribute)} (k : Class) → Series (AttributeAt k) w r xs
    → (α : List ℕ) → D α (kinds r) → D (attributes_symbol k ∷ α) (kinds w)
unfolding grammar printed no_and atoms
from_attributes plan xs = from_series ⟨plan-attribute-list⟩ ⟨plan-attribute⟩ refl refl (from_attribute plan) xs
from_attributes action xs = from_series ⟨action-attribute-list⟩ ⟨action-attribute⟩ refl refl (from_attribute action) xs
from_attributes enquiry xs = from_series ⟨enquiry-attribute-list⟩ ⟨enquiry-attribute⟩ refl refl (from_attribute enquiry) xs

from_task : {w r : List Token} {x : Task} → TaskAt w r x → (α : List ℕ) → D α (kinds r) → D (task_symbol x.class ∷ α) (kinds w)
unfolding grammar printed no_and atoms
from_task (a_task {k} h gs xs e f p) α d =
    rule (per_class k (λ c. task_symbol c ::= class_word c ∷ “::” ∷ ⟨atom⟩ ∷ “semicolon” ∷ ⟨generic-attribute-list⟩ ∷ attributes_symbol c ∷ “end” ∷ class_word c ∷ “dot” ∷ []) refl refl refl)
    (from_says_name h (⟨generic-attribute-list⟩ ∷ attributes_symbol k ∷ “end” ∷ class_word k ∷ “dot” ∷ α)
    (from_generics gs (attributes_symbol k ∷ “end” ∷ class_word k ∷ “dot” ∷ α)
    (from_attributes k xs (“end” ∷ class_word k ∷ “dot” ∷ α) (tok e (tok f (tok p d))))))

from_data_type : {t : Token} {k : Declared} {α w : List ℕ} → DataType t k → D α w → D (⟨data-type⟩ ∷ α) (terminal_f t ∷ w)
unfolding grammar printed no_and atoms
from_data_type (data_type h e) d = rule (in_print (⟨data-type⟩ ::= ‘data-type’ ∷ []) refl) (tok h d)

from_data_item : {w r : List Token} {x : DataItem} → DataItemAt w r x → (α : List ℕ) → D α (kinds r) → D (⟨data-item⟩ ∷ α) (kinds w)
unfolding grammar printed no_and atoms
from_data_item (a_data_item h t c y s gs e f p) α d =
    rule (in_print (⟨data-item⟩ ::= “data” ∷ “::” ∷ ⟨data-name⟩ ∷ “semicolon” ∷ ⟨data-type-definition⟩ ∷ ⟨generic-attribute-list⟩ ∷ ⟨data-attribute-list⟩ ∷ “end” ∷ “data” ∷ “dot” ∷ []) refl)
    (from_says_data h (⟨data-type-definition⟩ ∷ ⟨generic-attribute-list⟩ ∷ ⟨data-attribute-list⟩ ∷ “end” ∷ “data” ∷ “dot” ∷ α)
    (rule (in_print (⟨data-type-definition⟩ ::= “type” ∷ “::” ∷ ⟨data-type⟩ ∷ “semicolon” ∷ []) refl)
    (tok t (tok c (from_data_type y (tok s
    (from_generics gs (⟨data-attribute-list⟩ ∷ “end” ∷ “data” ∷ “dot” ∷ α)
    (rule (in_print (⟨data-attribute-list⟩ ::= ⟨empty⟩ ∷ []) refl) (nothing (tok e (tok f (tok p d))))))))))))

-- ---- the guideline

from_top_level : (w r : List Token) (x : TopLevel) → TopLevelAt w r x → (α : List ℕ) → D α (kinds r) → D (⟨top-level-component⟩ ∷ α) (kinds w)
unfolding grammar printed no_and atoms
from_top_level w r x (a_top_task {t} h) α d =
    rule (in_print (⟨top-level-component⟩ ::= ⟨task⟩ ∷ []) refl)
    (rule (per_class t.class (λ c. ⟨task⟩ ::= task_symbol c ∷ []) refl refl refl) (from_task h α d))
from_top_level w r x (a_top_data_item h) α d = rule (in_print (⟨top-level-component⟩ ::= ⟨data-item⟩ ∷ []) refl) (from_data_item h α d)

from_structure : {ts : List Token} {g : List TopLevel} → Structure ts g → D (⟨process⟩ ∷ []) (kinds ts)
unfolding grammar printed no_and atoms
from_structure (guideline {w} h e tops) =
    rule (in_print (⟨process⟩ ::= ⟨optional-directives⟩ ∷ ⟨plan-task⟩ ∷ ⟨top-level-component-list⟩ ∷ []) refl)
    (rule (in_print (⟨optional-directives⟩ ::= ⟨empty⟩ ∷ []) refl) (nothing
    (subst (λ (k : Class). D (task_symbol k ∷ ⟨top-level-component-list⟩ ∷ []) (kinds w)) e
    (from_task h (⟨top-level-component-list⟩ ∷ []) (from_series ⟨top-level-component-list⟩ ⟨top-level-component⟩ refl refl from_top_level tops [] done)))))

pub structured_sentence : {ts : List Token} {ks : List ℕ} {g : List TopLevel} → Structure ts g → Terminals ts ks → Guideline ks
unfolding SentenceOf
structured_sentence h t = subst (D (⟨process⟩ ∷ [])) (sym (terminals_are t)) (from_structure h)

-- an expression alone, as a line of the small program holds it
pub tree_sentence : {l : ℕ} {ts : List Token} {ks : List ℕ} {e : Expr} → Tree anywhere l ts [] e → Terminals ts ks → SentenceOf ⟨expression⟩ ks
unfolding SentenceOf
tree_sentence x t = subst (D (⟨expression⟩ ∷ [])) (sym (terminals_are t)) (from_tree x [] done)
