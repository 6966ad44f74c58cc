-- The structure of a guideline, read from its tokens by recursive descent. Each function gives, with what it read, that the production has it there; fuel bounds it.
use Rattle.std.specs.Prelude.{ℕ, zero, suc, ◌≡◌, refl, Bool, true, false, ◌&&◌, not, eqb, length}
use Rattle.std.proofs.Common.{sym, ap, subst, ◌∙◌, eqb-true}
use Rattle.std.proofs.Math.Option.{Option, none, some}
use mathlib.Core.List.{List, [], ◌∷◌, ◌++◌, map, Memᴰ}
use Rattle.paper_expressions.proofs.Laws.Tests.{contra, and_l, and_r}
use Rattle.paper_expressions.specs.Bytes.{bytes}
use Rattle.paper_expressions.specs.Types.{Declared, a_text, an_integer, a_boolean, a_datetime, a_date, a_time, a_real, a_setof_text, a_setof_integer, a_setof_real}
use Rattle.paper_expressions.specs.Syntax.{Op, Expr, Atom, IntegerLit, FloatLit, StringLit, Paren, Listing, Apply, ε, ◌▸◌}
use Rattle.paper_expressions.specs.Syntax as Syntax
use Rattle.paper_expressions.proofs.Laws.Functors.{functor_f, functor_fits}
use Rattle.paper_tokens.specs.Tokens
use Tokens.{“data”, “type”, “end”, “::”, “semicolon”, “dot”, “open”, “close”, “[”, “]”, “comma”, “=”, “-”, “and”}
use Tokens.{“caption”, “description”, “precondition”, “wait-condition”, “postcondition”, “trigger”, “terminate”, “component”, “source”, “schedule-constraint”, “completed”, “terminal”, “mandatory”}
use Rattle.paper_tokens.specs.Words.{yes_or_no, data_types}
use Rattle.paper_tokens.specs.Lexical.{Rule, reserved_word, atom, integer, float, double_quoted_string, order, Token}
use Rattle.paper_tokens.specs.Literals.{whole, thousandths}
use Rattle.paper_tokens.specs.Terminals.{Terminal, a_reserved_word, yes_no, a_data_type, name}
use Rattle.paper_tokens.proofs.Laws.LexicalLaws.{same_order}
use Rattle.paper_tokens.proofs.Laws.LexicalTwin.{same, same_is, word_f, word_found}
use Rattle.paper_tokens.proofs.Laws.TerminalLaws.{one_of, one_of_is}
use Rattle.paper_guideline.specs.Tree.{infixes, Where, anywhere, assigned, MayStand, any_operator, but_and, Tree, infix_operator, looser, unary_minus, an_atom, a_float, a_string, parentheses, a_list, a_call, Trees, empty, nonempty, SomeTrees, last, then_more}
use Rattle.paper_guideline.specs.Tree as Tree
use Rattle.paper_guideline.specs.Structure
use Structure.{Name, Placed, Assignment, Generic, Class, plan, action, enquiry, Task, TopLevel}
use Structure.{Says, says, YesOrNo, is_yes, is_no, SaysYesOrNo, says_yes_or_no, SaysName, says_name, Series, and_more, Assertion, assignment, both, in_parentheses}
use Structure.{ComponentAttributeAt, constraint, is_terminal, GenericAt, a_caption, a_description, SourceAttributeAt, a_source_generic, is_mandatory}
use Structure.{AttributeAt, a_precondition, a_wait_condition, a_postcondition, a_trigger, a_component, a_terminate_condition, a_source}
use Structure.{written, class_word, TaskAt, a_task, DataType, data_type, DataItemAt, a_data_item, TopLevelAt, a_top_task, a_top_data_item, Structure, guideline}

-- ---- reading on where something was found

abbrev then : {A B : Type 0} → Option A → (A → Option B) → Option B
then none f = none
then (some a) f = f a

abbrev or_else : {A : Type 0} → Option A → Option A → Option A
or_else none o = o
or_else (some a) o = some a

abbrev test : {A : Type 0} (b : Bool) → (b ≡ true → Option A) → Option A
test true f = f refl
test false f = none

-- a production off the front of w, what is left, and what it says
abbrev pub Got : {A : Type 0} → (List Token → List Token → A → Type 0) → List Token → Type 0
Got {A} One w = (r : List Token) × (a : A) × One w r a

-- ---- one token

abbrev of_rule : Rule → Token → Bool
of_rule r t = eqb (order t.rule) (order r)

pub rule_is : (r : Rule) (t : Token) → of_rule r t ≡ true → t.rule ≡ r
rule_is r t e = same_order (eqb-true (order t.rule) (order r) e)

abbrev is_number : Option ℕ → ℕ → Bool
is_number none k = false
is_number (some j) k = eqb j k

abbrev is_word : ℕ → Token → Bool
is_word k t = of_rule reserved_word t && is_number (word_f t.bytes) k

number_is : (o : Option ℕ) (k : ℕ) → is_number o k ≡ true → o ≡ some k
number_is none k e = contra e
number_is (some j) k e = ap some (eqb-true j k e)

pub word_is : (k : ℕ) (t : Token) → is_word k t ≡ true → Terminal t k
word_is k t e =
    a_reserved_word (rule_is reserved_word t (and_l (of_rule reserved_word t) (is_number (word_f t.bytes) k) e))
    (word_found (number_is (word_f t.bytes) k (and_r (of_rule reserved_word t) (is_number (word_f t.bytes) k) e)))

-- the word k at the front
abbrev word : (Q : List Token → Type 0) (k : ℕ) (w : List Token) → ((t : Token) (v : List Token) → Terminal t k → Option (Q (t ∷ v))) → Option (Q w)
word Q k [] f = none
word Q k (t ∷ w) f = test (is_word k t) (λ e. f t w (word_is k t e))

-- the word k behind something that was read up to u
abbrev word_behind : {G : Type 0} (R : List Token → Type 0) (k : ℕ) (u : List Token) → R u → ((t : Token) (v : List Token) → Terminal t k → R (t ∷ v) → Option G) → Option G
word_behind R k [] h f = none
word_behind R k (t ∷ w) h f = test (is_word k t) (λ e. f t w (word_is k t e) h)

-- an atom at the front
abbrev name_first : (Q : List Token → Type 0) (w : List Token) → ((t : Token) (v : List Token) → t.rule ≡ atom → Option (Q (t ∷ v))) → Option (Q w)
name_first Q [] f = none
name_first Q (t ∷ w) f = test (of_rule atom t) (λ e. f t w (rule_is atom t e))

pub yes_is : (t : Token) → of_rule atom t ≡ true → one_of (name t) yes_or_no ≡ true → same (name t) (bytes "yes") ≡ true → YesOrNo t true
yes_is t a o s = is_yes (yes_no (rule_is atom t a) (one_of_is (name t) yes_or_no o)) (same_is (name t) (bytes "yes") s)

pub no_is : (t : Token) → of_rule atom t ≡ true → one_of (name t) yes_or_no ≡ true → same (name t) (bytes "no") ≡ true → YesOrNo t false
no_is t a o s = is_no (yes_no (rule_is atom t a) (one_of_is (name t) yes_or_no o)) (same_is (name t) (bytes "no") s)

abbrev yes_or_no_first : (Q : List Token → Type 0) (w : List Token) → ((t : Token) (v : List Token) (b : Bool) → YesOrNo t b → Option (Q (t ∷ v))) → Option (Q w)
yes_or_no_first Q [] f = none
yes_or_no_first Q (t ∷ w) f =
    test (of_rule atom t) (λ a. test (one_of (name t) yes_or_no) (λ o.
    or_else (test (same (name t) (bytes "yes")) (λ s. f t w true (yes_is t a o s))) (test (same (name t) (bytes "no")) (λ s. f t w false (no_is t a o s)))))

pub type_is : (t : Token) (d : Declared) → of_rule atom t ≡ true → one_of (name t) data_types ≡ true → same (name t) (bytes (written d)) ≡ true → DataType t d
type_is t d a o s = data_type (a_data_type (rule_is atom t a) (one_of_is (name t) data_types o)) (same_is (name t) (bytes (written d)) s)

abbrev one_type : (t : Token) → of_rule atom t ≡ true → one_of (name t) data_types ≡ true → List Declared → Option ((d : Declared) × DataType t d)
one_type t a o [] = none
one_type t a o (d ∷ l) = or_else (test (same (name t) (bytes (written d))) (λ s. some (d, type_is t d a o s))) (one_type t a o l)

abbrev all_types : List Declared
all_types = a_text ∷ an_integer ∷ a_boolean ∷ a_datetime ∷ a_date ∷ a_time ∷ a_real ∷ a_setof_text ∷ a_setof_integer ∷ a_setof_real ∷ []

-- a type behind something that was read up to u
abbrev type_behind : {G : Type 0} (R : List Token → Type 0) (u : List Token) → R u → ((t : Token) (v : List Token) (d : Declared) → DataType t d → R (t ∷ v) → Option G) → Option G
type_behind R [] h f = none
type_behind R (t ∷ w) h f = test (of_rule atom t) (λ a. test (one_of (name t) data_types) (λ o. then (one_type t a o all_types) (λ x. f t w x.0 x.1 h)))

-- ---- operators

-- the operator of a level that a word is
record Operator (a : Where) (l : ℕ) (t : Token) : Type 0 where
  pub k : ℕ
  pub op : Op
  pub listed : Memᴰ (l, k, op) infixes
  pub its : Terminal t k
  pub may : MayStand a k

pub listed_first : (l k : ℕ) (e : ℕ × ℕ × Op) (x : List (ℕ × ℕ × Op)) → eqb l e.0 && eqb k e.1 ≡ true → Memᴰ (l, k, e.2) (e ∷ x)
listed_first l k e x h =
    let p = eqb-true l e.0 (and_l (eqb l e.0) (eqb k e.1) h) in
    let q = eqb-true k e.1 (and_r (eqb l e.0) (eqb k e.1) h) in
    Memᴰ.head (λ i. (p i, q i, e.2))

abbrev operator_in : (l k : ℕ) (x : List (ℕ × ℕ × Op)) → Option ((o : Op) × Memᴰ (l, k, o) x)
operator_in l k [] = none
operator_in l k (e ∷ x) =
    or_else (test (eqb l e.0 && eqb k e.1) (λ h. some (e.2, listed_first l k e x h))) (then (operator_in l k x) (λ m. some (m.0, Memᴰ.tail m.1)))

pub not_and : (k : ℕ) → not (eqb k “and”) ≡ true → MayStand assigned k
not_and k e = but_and (λ h. contra (sym (subst (λ (j : ℕ). not (eqb j “and”) ≡ false) (sym h) refl) ∙ e))

abbrev may_stand : (a : Where) (k : ℕ) → Option (MayStand a k)
may_stand anywhere k = some any_operator
may_stand assigned k = test (not (eqb k “and”)) (λ e. some (not_and k e))

abbrev operator : (a : Where) (l : ℕ) (t : Token) → Option (Operator a l t)
operator a l t =
    then (word_f t.bytes) (λ k. test (is_word k t) (λ e. then (operator_in l k infixes) (λ m. then (may_stand a k) (λ y.
    some (record { k = k; op = m.0; listed = m.1; its = word_is k t e; may = y })))))

-- ---- expressions

abbrev Expression : Where → ℕ → List Token → Type 0
Expression a l w = Got (Tree a l) w

-- operators of the level l behind what was read, each with a right operand
abbrev operands : (n : ℕ) (a : Where) (l : ℕ) → ((v : List Token) → Option (Expression a (suc l) v)) → (w r : List Token) (e : Expr) → Tree a l w r e → Option (Expression a l w)
operands zero a l next w r e h = some (r, e, h)
operands (suc n) a l next w [] e h = some ([], e, h)
operands (suc n) a l next w (t ∷ v) e h =
    or_else
    (then (operator a l t) (λ o. then (next v) (λ x. operands n a l next w x.0 (Apply o.op (e ▸ x.1 ▸ ε)) (infix_operator o.listed o.its o.may h x.2))))
    (some (t ∷ v, e, h))

abbrev level : (n : ℕ) (a : Where) (l : ℕ) → ((v : List Token) → Option (Expression a (suc l) v)) → (w : List Token) → Option (Expression a l w)
level n a l next w = then (next w) (λ x. operands n a l next w x.0 x.1 (looser x.2))

abbrev minuses : (n : ℕ) (a : Where) → ((v : List Token) → Option (Expression a 8 v)) → (w : List Token) → Option (Expression a 7 w)
minuses zero a next w = none
minuses (suc n) a next w =
    or_else (word (Expression a 7) “-” w (λ t v h. then (minuses n a next v) (λ x. some (x.0, Apply Syntax.negate (x.1 ▸ ε), unary_minus h x.2))))
    (then (next w) (λ x. some (x.0, x.1, looser x.2)))

-- the seven levels over what holds tightest
abbrev levels : (n : ℕ) (a : Where) → ((v : List Token) → Option (Expression a 8 v)) → (w : List Token) → Option (Expression a 1 w)
levels n a next w = level n a 1 (level n a 2 (level n a 3 (level n a 4 (level n a 5 (level n a 6 (minuses n a next)))))) w

abbrev some_trees : (n : ℕ) → ((v : List Token) → Option (Expression anywhere 1 v)) → (w : List Token) → Option (Got SomeTrees w)
some_trees zero tree w = none
some_trees (suc n) tree w =
    then (tree w) (λ x. or_else
    (word_behind (λ u. Tree anywhere 1 w u x.1) “comma” x.0 x.2 (λ c v h t. then (some_trees n tree v) (λ y. some (y.0, x.1 ▸ y.1, then_more t h y.2))))
    (some (x.0, x.1 ▸ ε, last x.2)))

abbrev trees : (n : ℕ) → ((v : List Token) → Option (Expression anywhere 1 v)) → (w : List Token) → Option (Got Trees w)
trees n tree w = or_else (then (some_trees n tree w) (λ x. some (x.0, x.1, nonempty x.2))) (some (w, ε, empty))

-- an atom, a number, a string; brackets and calls, with the expressions inside
abbrev leaf : (a : Where) (w : List Token) → Option (Expression a 8 w)
leaf a [] = none
leaf a (t ∷ w) =
    or_else (test (of_rule atom t) (λ e. some (w, Atom (name t), an_atom (rule_is atom t e))))
    (or_else (test (of_rule integer t) (λ e. some (w, IntegerLit (whole t.bytes), Tree.an_integer (rule_is integer t e))))
    (or_else (test (of_rule float t) (λ e. some (w, FloatLit (thousandths t.bytes), a_float (rule_is float t e))))
    (test (of_rule double_quoted_string t) (λ e. some (w, StringLit (name t), a_string (rule_is double_quoted_string t e))))))

abbrev brackets : (n : ℕ) (a : Where) → ((v : List Token) → Option (Expression anywhere 1 v)) → (w : List Token) → Option (Expression a 8 w)
brackets n a tree w =
    or_else (word (Expression a 8) “open” w (λ t v h. then (tree v) (λ x.
    word_behind (λ u. Tree anywhere 1 v u x.1) “close” x.0 x.2 (λ c r k e. some (r, Paren x.1, parentheses h e k)))))
    (or_else (word (Expression a 8) “[” w (λ t v h. then (trees n tree v) (λ x.
    word_behind (λ u. Trees v u x.1) “]” x.0 x.2 (λ c r k e. some (r, Listing x.1, a_list h e k)))))
    (name_first (Expression a 8) w (λ f u i. word (λ z. Expression a 8 (f ∷ z)) “open” u (λ t v h. then (trees n tree v) (λ x.
    word_behind (λ z. Trees v z x.1) “close” x.0 x.2 (λ c r k e. some (r, Apply (functor_f (name f)) x.1, a_call i (functor_fits (name f)) h e k)))))))

abbrev tightest : (n : ℕ) (a : Where) (w : List Token) → Option (Expression a 8 w)
tightest zero a w = none
tightest (suc n) a w = or_else (brackets n a (levels n anywhere (tightest n anywhere)) w) (leaf a w)

-- brackets within brackets, operators of a level, minuses in a row, elements: at most so many
abbrev fuel : ℕ
fuel = 24

abbrev expression : (a : Where) (w : List Token) → Option (Expression a 1 w)
expression a w = levels fuel a (tightest fuel a) w

-- ---- attributes

-- a token at the front
abbrev token_first : (Q : List Token → Type 0) (w : List Token) → ((t : Token) (v : List Token) → Option (Q (t ∷ v))) → Option (Q w)
token_first Q [] f = none
token_first Q (t ∷ w) f = f t w

abbrev named : Token → Name
named t = record { spelt = name t; place = t.place }

abbrev at_word : {A : Type 0} → Token → A → Placed A
at_word t a = record { word = t.place; what = a }

abbrev placed : {A : Type 0} → ℕ → A → Placed A
placed p a = record { word = p; what = a }

abbrev says_at : (k : ℕ) (w : List Token) → Option (Got (Says k) w)
says_at k w =
    word (Got (Says k)) k w (λ t w1 h. word (λ v. Got (Says k) (t ∷ v)) “::” w1 (λ c w2 i. token_first (λ v. Got (Says k) (t ∷ c ∷ v)) w2 (λ x w3.
    then (expression anywhere (x ∷ w3)) (λ e. word_behind (λ u. Tree anywhere 1 (x ∷ w3) u e.1) “semicolon” e.0 e.2 (λ s r k y.
    some (r, at_word t (record { start = x.place; tree = e.1 }), says h i y k))))))

abbrev says_yes_or_no_at : (k : ℕ) (w : List Token) → Option (Got (SaysYesOrNo k) w)
says_yes_or_no_at k w =
    word (Got (SaysYesOrNo k)) k w (λ t w1 h. word (λ v. Got (SaysYesOrNo k) (t ∷ v)) “::” w1 (λ c w2 i. yes_or_no_first (λ v. Got (SaysYesOrNo k) (t ∷ c ∷ v)) w2 (λ y w3 b j.
    word (λ v. Got (SaysYesOrNo k) (t ∷ c ∷ y ∷ v)) “semicolon” w3 (λ s r l. some (r, at_word t b, says_yes_or_no h i j l)))))

abbrev says_name_at : (k : ℕ) (w : List Token) → Option (Got (SaysName k) w)
says_name_at k w =
    word (Got (SaysName k)) k w (λ t w1 h. word (λ v. Got (SaysName k) (t ∷ v)) “::” w1 (λ c w2 i. name_first (λ v. Got (SaysName k) (t ∷ c ∷ v)) w2 (λ n w3 j.
    word (λ v. Got (SaysName k) (t ∷ c ∷ n ∷ v)) “semicolon” w3 (λ s r l. some (r, at_word t (named n), says_name h i j l)))))

abbrev series : {A : Type 0} (n : ℕ) (One : List Token → List Token → A → Type 0) → ((v : List Token) → Option (Got One v)) → (w : List Token) → Option (Got (Series One) w)
series zero One one w = some (w, [], Structure.none)
series (suc n) One one w = or_else (then (one w) (λ x. then (series n One one x.0) (λ y. some (y.0, x.1 ∷ y.1, and_more x.2 y.2)))) (some (w, [], Structure.none))

-- <assertion>: assignments and parentheses, joined by "and"
abbrev joined : (n : ℕ) → ((v : List Token) → Option (Got Assertion v)) → (w r : List Token) (xs : List Assignment) → Assertion w r xs → Option (Got Assertion w)
joined zero one w r xs h = some (r, xs, h)
joined (suc n) one w r xs h =
    or_else (word_behind (λ u. Assertion w u xs) “and” r h (λ t v k a. then (one v) (λ y. joined n one w y.0 (xs ++ y.1) (both a k y.2)))) (some (r, xs, h))

abbrev assignment_at : (w : List Token) → Option (Got Assertion w)
assignment_at w =
    name_first (Got Assertion) w (λ t w1 h. word (λ v. Got Assertion (t ∷ v)) “=” w1 (λ q w2 i. token_first (λ v. Got Assertion (t ∷ q ∷ v)) w2 (λ x w3.
    then (expression assigned (x ∷ w3)) (λ e. some (e.0, record { target = named t; value = record { start = x.place; tree = e.1 } } ∷ [], assignment h i e.2)))))

abbrev bracketed : ((v : List Token) → Option (Got Assertion v)) → (w : List Token) → Option (Got Assertion w)
bracketed inside w =
    word (Got Assertion) “open” w (λ t v h. then (inside v) (λ x. word_behind (λ u. Assertion v u x.1) “close” x.0 x.2 (λ c r k a. some (r, x.1, in_parentheses h a k))))

abbrev assertion : (n : ℕ) (w : List Token) → Option (Got Assertion w)
assertion zero w = none
assertion (suc n) w =
    let one : (v : List Token) → Option (Got Assertion v) = λ v. or_else (assignment_at v) (bracketed (assertion n) v) in
    then (one w) (λ x. joined n one w x.0 x.1 x.2)

abbrev component_attribute : (w : List Token) → Option (Got ComponentAttributeAt w)
component_attribute w =
    or_else (then (says_yes_or_no_at “terminal” w) (λ x. some (x.0, placed x.1.word (Structure.terminal x.1.what), is_terminal x.2)))
    (word (Got ComponentAttributeAt) “schedule-constraint” w (λ t w1 h. word (λ v. Got ComponentAttributeAt (t ∷ v)) “::” w1 (λ c w2 i.
    word (λ v. Got ComponentAttributeAt (t ∷ c ∷ v)) “completed” w2 (λ d w3 j. word (λ v. Got ComponentAttributeAt (t ∷ c ∷ d ∷ v)) “open” w3 (λ o w4 k.
    name_first (λ v. Got ComponentAttributeAt (t ∷ c ∷ d ∷ o ∷ v)) w4 (λ n w5 l. word (λ v. Got ComponentAttributeAt (t ∷ c ∷ d ∷ o ∷ n ∷ v)) “close” w5 (λ p w6 m.
    word (λ v. Got ComponentAttributeAt (t ∷ c ∷ d ∷ o ∷ n ∷ p ∷ v)) “semicolon” w6 (λ s r q. some (r, at_word t (Structure.schedule_constraint (named n)), constraint h i j k l m q)))))))))

abbrev generic_attribute : (w : List Token) → Option (Got GenericAt w)
generic_attribute w =
    or_else (then (says_at “caption” w) (λ x. some (x.0, placed x.1.word (Structure.caption x.1.what), a_caption x.2)))
    (then (says_at “description” w) (λ x. some (x.0, placed x.1.word (Structure.description x.1.what), a_description x.2)))

abbrev source_attribute : (w : List Token) → Option (Got SourceAttributeAt w)
source_attribute w =
    or_else (then (generic_attribute w) (λ x. some (x.0, placed x.1.word (Structure.source_generic x.1.what), a_source_generic x.2)))
    (then (says_yes_or_no_at “mandatory” w) (λ x. some (x.0, placed x.1.word (Structure.mandatory x.1.what), is_mandatory x.2)))

-- of any task
abbrev task_attribute : (k : Class) (w : List Token) → Option (Got (AttributeAt k) w)
task_attribute k w =
    or_else (then (says_at “precondition” w) (λ x. some (x.0, placed x.1.word (Structure.precondition x.1.what), a_precondition x.2)))
    (or_else (then (says_at “wait-condition” w) (λ x. some (x.0, placed x.1.word (Structure.wait_condition x.1.what), a_wait_condition x.2)))
    (or_else (then (says_name_at “trigger” w) (λ x. some (x.0, placed x.1.word (Structure.trigger x.1.what), a_trigger x.2)))
    (word (Got (AttributeAt k)) “postcondition” w (λ t w1 h. word (λ v. Got (AttributeAt k) (t ∷ v)) “::” w1 (λ c w2 i.
    then (assertion fuel w2) (λ x. word_behind (λ u. Assertion w2 u x.1) “semicolon” x.0 x.2 (λ s r l a. some (r, at_word t (Structure.postcondition x.1), a_postcondition h i a l))))))))

abbrev attribute : (k : Class) (w : List Token) → Option (Got (AttributeAt k) w)
attribute plan w =
    or_else (task_attribute plan w)
    (or_else (then (says_at “terminate” w) (λ x. some (x.0, placed x.1.word (Structure.terminate x.1.what), a_terminate_condition x.2)))
    (then (says_name_at “component” w) (λ x. then (series fuel ComponentAttributeAt component_attribute x.0) (λ y.
    some (y.0, placed x.1.word (Structure.component x.1.what y.1), a_component x.2 y.2)))))
attribute action w = task_attribute action w
attribute enquiry w =
    or_else (task_attribute enquiry w)
    (then (says_name_at “source” w) (λ x. then (series fuel SourceAttributeAt source_attribute x.0) (λ y.
    some (y.0, placed x.1.word (Structure.source x.1.what y.1), a_source x.2 y.2))))

-- ---- tasks, data items, the guideline

-- "end", the word k, "." behind what was read
abbrev ended : {G : Type 0} (R : List Token → Type 0) (k : ℕ) (u : List Token) → R u
    → ((e f d : Token) (r : List Token) → Terminal e “end” → Terminal f k → Terminal d “dot” → R (e ∷ f ∷ d ∷ r) → Option G) → Option G
ended R k u h g =
    word_behind R “end” u h (λ e v a x. word_behind (λ z. R (e ∷ z)) k v x (λ f m b y. word_behind (λ z. R (e ∷ f ∷ z)) “dot” m y (λ d r c z. g e f d r a b c z)))

abbrev task_at : (k : Class) (w : List Token) → Option (Got TaskAt w)
task_at k w =
    then (says_name_at (class_word k) w) (λ x. then (series fuel GenericAt generic_attribute x.0) (λ g. then (series fuel (AttributeAt k) (attribute k) g.0) (λ y.
    ended (λ u. Series (AttributeAt k) g.0 u y.1) (class_word k) y.0 y.2 (λ e f d r a b c z. some (
      r,
      record { class = k; named = x.1.what; attributes = map (λ (p : Placed Generic). placed p.word (Structure.generic p.what)) g.1 ++ y.1 },
      a_task {k = k} x.2 g.2 z a b c,
    )))))

abbrev data_item_at : (w : List Token) → Option (Got DataItemAt w)
data_item_at w =
    then (says_name_at “data” w) (λ x. word_behind (λ u. SaysName “data” w u x.1) “type” x.0 x.2 (λ t w1 h n1.
    word_behind (λ u. SaysName “data” w (t ∷ u) x.1) “::” w1 n1 (λ c w2 i n2. type_behind (λ u. SaysName “data” w (t ∷ c ∷ u) x.1) w2 n2 (λ y w3 k j n3.
    word_behind (λ u. SaysName “data” w (t ∷ c ∷ y ∷ u) x.1) “semicolon” w3 n3 (λ s m l n4. then (series fuel GenericAt generic_attribute m) (λ g.
    ended (λ u. Series GenericAt m u g.1) “data” g.0 g.2 (λ e f d r a b o z.
    some (r, record { named = x.1.what; declared = k; attributes = g.1 }, a_data_item n4 h i j l z a b o))))))))

abbrev top_level : (w : List Token) → Option (Got TopLevelAt w)
top_level w =
    or_else (then (or_else (task_at plan w) (or_else (task_at action w) (task_at enquiry w))) (λ x. some (x.0, Structure.task x.1, a_top_task x.2)))
    (then (data_item_at w) (λ x. some (x.0, Structure.data_item x.1, a_top_data_item x.2)))

-- a plan, the root, and the rest up to the last token
abbrev rooted : (w m : List Token) (root : Task) (k : Class) → root.class ≡ k → TaskAt w m root → (r : List Token) (tops : List TopLevel) → Series TopLevelAt m r tops → Option ((g : List TopLevel) × Structure w g)
rooted w m root plan e h [] tops s = some (Structure.task root ∷ tops, guideline h e s)
rooted w m root plan e h (t ∷ r) tops s = none
rooted w m root action e h r tops s = none
rooted w m root enquiry e h r tops s = none

abbrev pub structure_f : (w : List Token) → Option ((g : List TopLevel) × Structure w g)
structure_f w = then (task_at plan w) (λ x. then (series (length w) TopLevelAt top_level x.0) (λ y. rooted w x.0 x.1 x.1.class refl x.2 y.0 y.1 y.2))
