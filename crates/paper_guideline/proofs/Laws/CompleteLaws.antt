-- Every guideline in which nothing is left out has a structure: a derivation by the productions of 3.2 uses only those that the first edition runs, and each of these is a step from what its symbols mean to what it means.
use Rattle.std.specs.Prelude.{ℕ, ◌≤◌, ◌≡◌, refl, Bool, true, false, cond, ◌&&◌, ◌||◌, not, eqb, leb, ltb}
use Prim.Native.String.{String}
use Rattle.std.proofs.Common.{sym, ap, subst, ◌∙◌, ⊎_elim, arith, eqb-true, lt-ltb, leb-true, le-ltb}
use mathlib.Core.List.{List, [], ◌∷◌, ◌++◌, Memᴰ}
use Rattle.std.proofs.lemmas.Bool.{eqb-false}
use Rattle.paper_expressions.proofs.Laws.Tests.{contra, two, every, every_at, some_one, some_at, and_l, and_r, or_cases, not_both}
use Rattle.paper_expressions.specs.Bytes.{bytes}
use Rattle.paper_expressions.specs.Types.{Declared, a_text, an_integer, a_boolean, a_datetime, a_date, a_time, a_real, a_setof_text, a_setof_integer, a_setof_real}
use Rattle.paper_expressions.specs.Operators.{Op}
use Rattle.paper_expressions.proofs.Laws.Functors.{functor_fits}
use Rattle.paper_expressions.specs.Expressions.{Expr}
use Rattle.paper_tokens.specs.Tokens
use Tokens.{“plan”, “action”, “enquiry”, “data”, “type”, “end”, “::”, “semicolon”, “dot”, “open”, “close”, “[”, “]”, “comma”, “=”, “and”, “-”}
use Tokens.{“caption”, “description”, “precondition”, “wait-condition”, “postcondition”, “trigger”, “terminate”, “component”, “source”}
use Tokens.{“schedule-constraint”, “completed”, “terminal”, “mandatory”, ‘other-atom’, ‘yes-or-no’, ‘data-type’, ‘integer’, ‘float’, ‘double-quoted-string’, terminals, reserved_count}
use Rattle.paper_grammar.specs.Nonterminals
use Nonterminals.{⟨process⟩, ⟨optional-directives⟩, ⟨top-level-component-list⟩, ⟨top-level-component⟩, ⟨task⟩, ⟨plan-task⟩, ⟨action-task⟩, ⟨enquiry-task⟩}
use Nonterminals.{⟨data-item⟩, ⟨data-name⟩, ⟨data-type⟩, ⟨data-type-definition⟩, ⟨data-attribute-list⟩, ⟨generic-attribute⟩, ⟨generic-attribute-list⟩, ⟨caption⟩, ⟨description⟩}
use Nonterminals.{⟨plan-attribute⟩, ⟨action-attribute⟩, ⟨enquiry-attribute⟩, ⟨plan-attribute-list⟩, ⟨action-attribute-list⟩, ⟨enquiry-attribute-list⟩, ⟨task-attribute⟩}
use Nonterminals.{⟨precondition⟩, ⟨wait-condition⟩, ⟨postcondition⟩, ⟨trigger⟩, ⟨terminate-condition⟩, ⟨component⟩, ⟨component-attribute⟩, ⟨component-attribute-list⟩}
use Nonterminals.{⟨schedule-constraint⟩, ⟨terminal-att⟩, ⟨source⟩, ⟨source-attribute⟩, ⟨source-attribute-list⟩, ⟨mandatory⟩, ⟨yes-or-no⟩, ⟨assertion⟩}
use Nonterminals.{⟨expression⟩, ⟨expression-no-and⟩, ⟨expression-list⟩, ⟨nonempty-expression-list⟩, ⟨functor-name⟩, ⟨atom⟩, ⟨empty⟩}
use Nonterminals.{⟨abort-condition⟩, ⟨autonomous⟩, ⟨complex-atom⟩, ⟨context⟩, ⟨cycle-repeat⟩, ⟨cycle-until⟩, ⟨data-attribute⟩, ⟨decision-task⟩, ⟨default-value⟩}
use Nonterminals.{⟨derivation⟩, ⟨false-value⟩, ⟨generic-task⟩, ⟨goal⟩, ⟨ltwh⟩, ⟨mandatory-validation⟩, ⟨number-of-cycles⟩, ⟨optional⟩, ⟨param-value⟩}
use Nonterminals.{⟨parameter-declarations⟩, ⟨procedure⟩, ⟨range⟩, ⟨true-value⟩, ⟨unit⟩, ⟨warning-condition⟩}
use Rattle.paper_grammar.specs.Cfg.{Prod, ◌::=◌, done, token, rule}
use Rattle.paper_grammar.specs.Grammar.{grammar, printed, no_and, atoms}
use Rattle.paper_grammar.specs.Sentence.{SentenceOf, Guideline}
use Rattle.paper_tokens.specs.Words.{yes_or_no, data_types}
use Rattle.paper_tokens.specs.Lexical.{Token, atom, integer, float, double_quoted_string, Reserved}
use Rattle.paper_tokens.specs.Terminals.{Terminal, Terminals, next, name, a_reserved_word, yes_no, a_data_type, another_atom}
use Rattle.paper_tokens.specs.Terminals
use Rattle.paper_guideline.specs.LeftOut.{left_out_words, LeftOut, left_out_word, further_on}
use Rattle.paper_guideline.specs.Tree
use Tree.{infixes, Where, anywhere, assigned, MayStand, any_operator, but_and, Tree, looser, unary_minus, an_atom, an_integer as an-integer-tree, a_float, a_string, parentheses, a_list, a_call, Trees, empty, nonempty, SomeTrees, last, then_more}
use Rattle.paper_guideline.specs.Structure
use Structure.{task, Class, plan, action, enquiry, Task, TopLevel}
use Structure.{Says, says, YesOrNo, is_yes, is_no, SaysYesOrNo, says_yes_or_no, SaysName, says_name, Series, none, and_more, Assertion, assignment, both, in_parentheses}
use Structure.{ComponentAttributeAt, constraint, is_terminal, GenericAt, a_caption, a_description, SourceAttributeAt, a_source_generic, is_mandatory}
use Structure.{AttributeAt, a_precondition, a_wait_condition, a_postcondition, a_trigger, a_component, a_terminate_condition, a_source, written, class_word, TaskAt, a_task}
use Structure.{DataType, data_type, DataItemAt, a_data_item, TopLevelAt, a_top_task, a_top_data_item, Structure, guideline}
use Rattle.paper_grammar.proofs.Laws.Ll.{is_in}
use Rattle.paper_tokens.proofs.Laws.TerminalLaws.{reserved_below, is_terminal as below}
use Rattle.paper_guideline.proofs.Laws.SentenceLaws.{D}
use Rattle.paper_guideline.proofs.Laws.StructureLaws.{in_list, one_structure}
use Rattle.paper_guideline.proofs.Laws.TreeLaws.{Each, all, ◌&◌, each_at, Chain, single, joined, some_tree, shorter}

-- ---- what needs no step: a symbol that derives nothing without a word that is left out

abbrev dead : List ℕ
dead =
    left_out_words
    ++ (⟨abort-condition⟩ ∷ ⟨autonomous⟩ ∷ ⟨complex-atom⟩ ∷ ⟨context⟩ ∷ ⟨cycle-repeat⟩ ∷ ⟨cycle-until⟩ ∷ ⟨data-attribute⟩ ∷ ⟨decision-task⟩
    ∷ ⟨default-value⟩ ∷ ⟨derivation⟩ ∷ ⟨false-value⟩ ∷ ⟨generic-task⟩ ∷ ⟨goal⟩ ∷ ⟨ltwh⟩ ∷ ⟨mandatory-validation⟩ ∷ ⟨number-of-cycles⟩ ∷ ⟨optional⟩
    ∷ ⟨param-value⟩ ∷ ⟨parameter-declarations⟩ ∷ ⟨procedure⟩ ∷ ⟨range⟩ ∷ ⟨true-value⟩ ∷ ⟨unit⟩ ∷ ⟨warning-condition⟩ ∷ [])

abbrev live : ℕ → Bool
live k = not (is_in k dead)

-- a dead symbol's productions have a dead symbol each
abbrev kills : Prod → Bool
kills (A ::= β) = live A || not (every live β)

all_kill : every kills grammar ≡ true
unfolding grammar printed no_and atoms left_out_words
all_kill = refl

every_l : (f : ℕ → Bool) (α β : List ℕ) → every f (α ++ β) ≡ true → every f α ≡ true
every_l f [] β h = refl
every_l f (k ∷ α) β h = rw (and_l (f k) (every f (α ++ β)) h) (every_l f α β (and_r (f k) (every f (α ++ β)) h))

every_r : (f : ℕ → Bool) (α β : List ℕ) → every f (α ++ β) ≡ true → every f β ≡ true
every_r f [] β h = h
every_r f (k ∷ α) β h = every_r f α β (and_r (f k) (every f (α ++ β)) h)

alive : {α w : List ℕ} → D α w → every live w ≡ true → every live α ≡ true
alive done h = refl
alive (token {k} {α} {w} l d) h = rw (and_l (live k) (every live w) h) (alive d (and_r (live k) (every live w) h))
alive (rule {A} {α} {β} m d) h =
    let b = alive d h in
    rw (⊎_elim (λ (e : live A ≡ true). e) (λ (e : not (every live β) ≡ true). not_both (every live β) e (every_l live β α b)) (or_cases (live A) (not (every live β)) (every_at kills grammar all_kill (A ::= β) m)))
    (every_r live β α b)

-- the tokens of a text in which nothing is left out
dead_words : every (λ k. leb terminals k || is_in k left_out_words) dead ≡ true
unfolding left_out_words
dead_words = refl

word_alive : {t : Token} {ts : List Token} {k : ℕ} → Terminal t k → ¬ LeftOut (t ∷ ts) t.place → is_in k dead ≡ false
word_alive {t} {ts} {k} x h = ⊎_elim
    (λ (e : is_in k dead ≡ true). ⊎_elim
    (λ (l : leb terminals k ≡ true). let a = leb-true terminals k l in let b = below x in absurd (omega arith))
    (λ (l : is_in k left_out_words ≡ true). absurd (h (left_out_word x (in_list left_out_words k l))))
    (or_cases (leb terminals k) (is_in k left_out_words) (every_at (λ k. leb terminals k || is_in k left_out_words) dead dead_words k (in_list dead k e))))
    (λ (e : is_in k dead ≡ false). e)
    (two (is_in k dead))

tokens_alive : {ts : List Token} {ks : List ℕ} → Terminals ts ks → ((p : ℕ) → ¬ LeftOut ts p) → every live ks ≡ true
tokens_alive Terminals.none h = refl
tokens_alive (next {t} x xs) h = rw (word_alive x (h t.place)) (tokens_alive xs (λ p l. h p (further_on l)))

-- ---- what the symbols mean

abbrev Rel : Type 1
Rel = List Token → List Token → Type 0

data At (k : ℕ) : List Token → List Token → Type 0 where
  at : {t : Token} {r : List Token} → Terminal t k → At k (t ∷ r) r

data Same : List Token → List Token → Type 0 where
  no_token : {r : List Token} → Same r r

data AtAtom : List Token → List Token → Type 0 where
  at_atom : {t : Token} {r : List Token} → t.rule ≡ atom → AtAtom (t ∷ r) r

data AtYesOrNo : List Token → List Token → Type 0 where
  at_yes_or_no : {t : Token} {r : List Token} {b : Bool} → YesOrNo t b → AtYesOrNo (t ∷ r) r

data AtType : List Token → List Token → Type 0 where
  at_type : {t : Token} {r : List Token} {d : Declared} → DataType t d → AtType (t ∷ r) r

data AtDefinition : List Token → List Token → Type 0 where
  at_definition : {t c y s : Token} {r : List Token} {d : Declared} → Terminal t “type” → Terminal c “::” → DataType y d → Terminal s “semicolon”
      → AtDefinition (t ∷ c ∷ y ∷ s ∷ r) r

data Some {A : Type 0} (X : List Token → List Token → A → Type 0) : List Token → List Token → Type 0 where
  some : {w r : List Token} {x : A} → X w r x → Some X w r

data AnyTask : List Token → List Token → Type 0 where
  any_task : {w r : List Token} → ((k : Class) → Some (AttributeAt k) w r) → AnyTask w r

data Tasked (k : Class) : List Token → List Token → Type 0 where
  tasked : {w r : List Token} {t : Task} → TaskAt w r t → t.class ≡ k → Tasked k w r

data Whole : List Token → List Token → Type 0 where
  whole : {w m r : List Token} {root : Task} {tops : List TopLevel} → TaskAt w m root → root.class ≡ plan → Series TopLevelAt m r tops → Whole w r

abbrev meanings : List (ℕ × Rel)
meanings =
    (⟨empty⟩, Same)
    ∷ (⟨optional-directives⟩, Same)
    ∷ (⟨data-attribute-list⟩, Same)
    ∷ (⟨atom⟩, AtAtom)
    ∷ (⟨data-name⟩, AtAtom)
    ∷ (⟨functor-name⟩, AtAtom)
    ∷ (⟨yes-or-no⟩, AtYesOrNo)
    ∷ (⟨data-type⟩, AtType)
    ∷ (⟨data-type-definition⟩, AtDefinition)
    ∷ (⟨expression⟩, Chain anywhere)
    ∷ (⟨expression-no-and⟩, Chain assigned)
    ∷ (⟨expression-list⟩, Some Trees)
    ∷ (⟨nonempty-expression-list⟩, Some SomeTrees)
    ∷ (⟨assertion⟩, Some Assertion)
    ∷ (⟨caption⟩, Some (Says “caption”))
    ∷ (⟨description⟩, Some (Says “description”))
    ∷ (⟨generic-attribute⟩, Some GenericAt)
    ∷ (⟨generic-attribute-list⟩, Some (Series GenericAt))
    ∷ (⟨precondition⟩, Some (Says “precondition”))
    ∷ (⟨wait-condition⟩, Some (Says “wait-condition”))
    ∷ (⟨terminate-condition⟩, Some (Says “terminate”))
    ∷ (⟨trigger⟩, Some (SaysName “trigger”))
    ∷ (⟨postcondition⟩, AnyTask)
    ∷ (⟨task-attribute⟩, AnyTask)
    ∷ (⟨terminal-att⟩, Some (SaysYesOrNo “terminal”))
    ∷ (⟨schedule-constraint⟩, Some ComponentAttributeAt)
    ∷ (⟨component-attribute⟩, Some ComponentAttributeAt)
    ∷ (⟨component-attribute-list⟩, Some (Series ComponentAttributeAt))
    ∷ (⟨component⟩, Some (AttributeAt plan))
    ∷ (⟨mandatory⟩, Some (SaysYesOrNo “mandatory”))
    ∷ (⟨source-attribute⟩, Some SourceAttributeAt)
    ∷ (⟨source-attribute-list⟩, Some (Series SourceAttributeAt))
    ∷ (⟨source⟩, Some (AttributeAt enquiry))
    ∷ (⟨plan-attribute⟩, Some (AttributeAt plan))
    ∷ (⟨action-attribute⟩, Some (AttributeAt action))
    ∷ (⟨enquiry-attribute⟩, Some (AttributeAt enquiry))
    ∷ (⟨plan-attribute-list⟩, Some (Series (AttributeAt plan)))
    ∷ (⟨action-attribute-list⟩, Some (Series (AttributeAt action)))
    ∷ (⟨enquiry-attribute-list⟩, Some (Series (AttributeAt enquiry)))
    ∷ (⟨plan-task⟩, Tasked plan)
    ∷ (⟨action-task⟩, Tasked action)
    ∷ (⟨enquiry-task⟩, Tasked enquiry)
    ∷ (⟨task⟩, Some TaskAt)
    ∷ (⟨data-item⟩, Some DataItemAt)
    ∷ (⟨top-level-component⟩, Some TopLevelAt)
    ∷ (⟨top-level-component-list⟩, Some (Series TopLevelAt))
    ∷ (⟨process⟩, Whole)
    ∷ []

abbrev pick : Bool → Rel → Rel → Rel
pick true a b = a
pick false a b = b

abbrev known : ℕ → List (ℕ × Rel) → Bool
known k [] = false
known k (x ∷ l) = eqb k x.0 || known k l

abbrev anything : Rel
anything w r = Unit {0}

abbrev meaning_in : ℕ → List (ℕ × Rel) → Rel
meaning_in k [] = anything
meaning_in k (x ∷ l) = pick (eqb k x.0) x.1 (meaning_in k l)

-- a token; what the table says; of the symbols of what is left out, nothing
abbrev Means : ℕ → Rel
Means k = pick (ltb k terminals) (At k) (meaning_in k meanings)

infixr 5 ◌▹◌
data Mean : List ℕ → List Token → List Token → Type 0 where
  end : {r : List Token} → Mean [] r r
  ◌▹◌ : {A : ℕ} {α : List ℕ} {w m r : List Token} → Means A w m → Mean α m r → Mean (A ∷ α) w r

abbrev Step : Prod → Type 0
Step (A ::= β) = (w r : List Token) → Mean β w r → Means A w r

-- ---- tokens

token_at : {w r : List Token} (k : ℕ) → ltb k terminals ≡ true → Means k w r → At k w r
token_at {w} {r} k h x = subst (λ (b : Bool). pick b (At k) (meaning_in k meanings) w r) h x

not_reserved : {A : Type 0} {w : List ℕ} {k : ℕ} → reserved_count ≤ k → Reserved w k → A
not_reserved l r = let h = reserved_below r in absurd (omega arith)

integer_rule : {t : Token} → Terminal t ‘integer’ → t.rule ≡ integer
integer_rule (a_reserved_word e r) = not_reserved (omega arith) r
integer_rule (Terminals.an_integer e) = e

float_rule : {t : Token} → Terminal t ‘float’ → t.rule ≡ float
float_rule (a_reserved_word e r) = not_reserved (omega arith) r
float_rule (Terminals.a_float e) = e

string_rule : {t : Token} → Terminal t ‘double-quoted-string’ → t.rule ≡ double_quoted_string
string_rule (a_reserved_word e r) = not_reserved (omega arith) r
string_rule (Terminals.a_string e) = e

other_atom_step : (w r : List Token) → Mean (‘other-atom’ ∷ []) w r → AtAtom w r
other_atom_step w r (at (a_reserved_word e h) ▹ end) = not_reserved (omega arith) h
other_atom_step w r (at (another_atom e n m) ▹ end) = at_atom e

yes_or_no_atom_step : (w r : List Token) → Mean (‘yes-or-no’ ∷ []) w r → AtAtom w r
yes_or_no_atom_step w r (at (a_reserved_word e h) ▹ end) = not_reserved (omega arith) h
yes_or_no_atom_step w r (at (yes_no e o) ▹ end) = at_atom e

data_type_atom_step : (w r : List Token) → Mean (‘data-type’ ∷ []) w r → AtAtom w r
data_type_atom_step w r (at (a_reserved_word e h) ▹ end) = not_reserved (omega arith) h
data_type_atom_step w r (at (a_data_type e o) ▹ end) = at_atom e

both_words : Each (λ (s : String). (b : Bool) × ((t : Token) → Terminal t ‘yes-or-no’ → name t ≡ bytes s → YesOrNo t b)) yes_or_no
unfolding yes_or_no
both_words = (true, λ t h e. is_yes h e) & (false, λ t h e. is_no h e) & all

yes_or_no_step : (w r : List Token) → Mean (‘yes-or-no’ ∷ []) w r → AtYesOrNo w r
yes_or_no_step w r (at (a_reserved_word e h) ▹ end) = not_reserved (omega arith) h
yes_or_no_step w r (at {t} (yes_no e o) ▹ end) = at_yes_or_no ((each_at both_words o.listed).1 t (yes_no e o) o.same)

all_types : Each (λ (s : String). (d : Declared) × (s ≡ written d)) data_types
unfolding data_types
all_types =
    (a_text, refl) & (an_integer, refl) & (a_boolean, refl) & (a_datetime, refl) & (a_date, refl) & (a_time, refl) & (a_real, refl) & (a_setof_text, refl)
    & (a_setof_integer, refl) & (a_setof_real, refl) & all

data_type_step : (w r : List Token) → Mean (‘data-type’ ∷ []) w r → AtType w r
data_type_step w r (at (a_reserved_word e h) ▹ end) = not_reserved (omega arith) h
data_type_step w r (at (a_data_type e o) ▹ end) = let d = each_at all_types o.listed in at_type {d = d.0} (data_type (a_data_type e o) (o.same ∙ ap bytes d.1))

definition_step : (w r : List Token) → Mean (“type” ∷ “::” ∷ ⟨data-type⟩ ∷ “semicolon” ∷ []) w r → AtDefinition w r
definition_step w r (at t ▹ at c ▹ at_type y ▹ at s ▹ end) = at_definition t c y s

-- ---- expressions

loosest : {a : Where} {w r : List Token} {e : Expr} → Tree a 8 w r e → Chain a w r
loosest x = single (looser x)

module _ (a : Where) where
  atom_step : (w r : List Token) → Mean (⟨atom⟩ ∷ []) w r → Chain a w r
  atom_step w r (at_atom h ▹ end) = loosest (an_atom h)

  integer_step : (w r : List Token) → Mean (‘integer’ ∷ []) w r → Chain a w r
  integer_step w r (at h ▹ end) = loosest (an-integer-tree (integer_rule h))

  float_step : (w r : List Token) → Mean (‘float’ ∷ []) w r → Chain a w r
  float_step w r (at h ▹ end) = loosest (a_float (float_rule h))

  string_step : (w r : List Token) → Mean (‘double-quoted-string’ ∷ []) w r → Chain a w r
  string_step w r (at h ▹ end) = loosest (a_string (string_rule h))

  parentheses_step : (w r : List Token) → Mean (“open” ∷ ⟨expression⟩ ∷ “close” ∷ []) w r → Chain a w r
  parentheses_step w r (at h ▹ x ▹ at k ▹ end) = loosest (parentheses h (some_tree x).1 k)

  list_step : (w r : List Token) → Mean (“[” ∷ ⟨expression-list⟩ ∷ “]” ∷ []) w r → Chain a w r
  list_step w r (at h ▹ some x ▹ at k ▹ end) = loosest (a_list h x k)

  call_step : (w r : List Token) → Mean (⟨functor-name⟩ ∷ “open” ∷ ⟨expression-list⟩ ∷ “close” ∷ []) w r → Chain a w r
  call_step w r (at_atom {t} e ▹ at h ▹ some x ▹ at k ▹ end) = loosest (a_call e (functor_fits (name t)) h x k)

  minus : {t : Token} {w r : List Token} → Terminal t “-” → Chain a w r → Chain a (t ∷ w) r
  minus h (single x) = single (unary_minus h x)
  minus h (joined c i g p x) = joined (minus h c) i g p x

  join : {l k : ℕ} {o : Op} {t : Token} {w m r : List Token} → Memᴰ (l, k, o) infixes → MayStand a k → Chain a w (t ∷ m) → Terminal t k → Chain a m r → Chain a w r
  join i p c h (single x) = joined c i h p x
  join i p c h (joined d j g q x) = joined (join i p c h d) j g q x

-- between two operands
infix_of : {a : Where} {k : ℕ} {w m n r : List Token} → (l : ℕ) (o : Op) → Memᴰ (l, k, o) infixes → MayStand a k → Chain a w m → At k m n → Chain a n r → Chain a w r
infix_of {a} l o i p c (at h) d = join a i p c h d

abbrev is_infix : ℕ → Bool
is_infix k = ltb k terminals && some_one (λ (x : ℕ × ℕ × Op). eqb x.1 k) infixes

infix_step : {a : Where} {w m n r : List Token} (k : ℕ) → is_infix k ≡ true → MayStand a k → Chain a w m → Means k m n → Chain a n r → Chain a w r
infix_step k h p c x d =
    let l = and_l (ltb k terminals) (some_one (λ (x : ℕ × ℕ × Op). eqb x.1 k) infixes) h in
    let i = some_at (λ (x : ℕ × ℕ × Op). eqb x.1 k) infixes (and_r (ltb k terminals) (some_one (λ (x : ℕ × ℕ × Op). eqb x.1 k) infixes) h) in
    infix_of i.0.0 i.0.2 (subst (λ (j : ℕ). Memᴰ (i.0.0, j, i.0.2) infixes) (eqb-true i.0.1 k i.2) i.1) p c (token_at k l x) d

any_step : {k : ℕ} → is_infix k ≡ true → (w r : List Token) → Mean (⟨expression⟩ ∷ k ∷ ⟨expression⟩ ∷ []) w r → Chain anywhere w r
any_step {k} h w r (c ▹ x ▹ d ▹ end) = infix_step k h any_operator c x d

assigned_step : {k : ℕ} → is_infix k ≡ true → eqb k “and” ≡ false → (w r : List Token) → Mean (⟨expression-no-and⟩ ∷ k ∷ ⟨expression-no-and⟩ ∷ []) w r → Chain assigned w r
assigned_step {k} h e w r (c ▹ x ▹ d ▹ end) = infix_step k h (but_and (eqb-false k “and” e)) c x d

minus_step : (w r : List Token) → Mean (“-” ∷ ⟨expression⟩ ∷ []) w r → Chain anywhere w r
minus_step w r (at h ▹ c ▹ end) = minus anywhere h c

assigned_minus_step : (w r : List Token) → Mean (“-” ∷ ⟨expression-no-and⟩ ∷ []) w r → Chain assigned w r
assigned_minus_step w r (at h ▹ c ▹ end) = minus assigned h c

no_expression_step : (w r : List Token) → Mean (⟨empty⟩ ∷ []) w r → Some Trees w r
no_expression_step w r (no_token ▹ end) = some empty

expressions_step : (w r : List Token) → Mean (⟨nonempty-expression-list⟩ ∷ []) w r → Some Trees w r
expressions_step w r (some x ▹ end) = some (nonempty x)

last_step : (w r : List Token) → Mean (⟨expression⟩ ∷ []) w r → Some SomeTrees w r
last_step w r (c ▹ end) = some (last (some_tree c).1)

then_more_step : (w r : List Token) → Mean (⟨expression⟩ ∷ “comma” ∷ ⟨nonempty-expression-list⟩ ∷ []) w r → Some SomeTrees w r
then_more_step w r (c ▹ at h ▹ some x ▹ end) = some (then_more (some_tree c).1 h x)

-- ---- attributes

says_of : {word : ℕ} {t c s : Token} {r : List Token} {e : Expr} (w : List Token)
    → Terminal t word → Terminal c “::” → Tree anywhere 1 w (s ∷ r) e → Terminal s “semicolon” → Some (Says word) (t ∷ c ∷ w) r
says_of [] t c x s = let l = shorter x in absurd (omega arith)
says_of (y ∷ w) t c x s = some (says t c x s)

says_at : {word : ℕ} {w m n o r : List Token} → At word w m → At “::” m n → Chain anywhere n o → At “semicolon” o r → Some (Says word) w r
says_at {n} (at t) (at c) x (at s) = says_of n t c (some_tree x).1 s

says_step : {word : ℕ} → ltb word terminals ≡ true → (w r : List Token) → Mean (word ∷ “::” ∷ ⟨expression⟩ ∷ “semicolon” ∷ []) w r → Some (Says word) w r
says_step {word} l w r (t ▹ c ▹ x ▹ s ▹ end) = says_at (token_at word l t) c x s

name_at : {word : ℕ} {w m n o r : List Token} → At word w m → At “::” m n → AtAtom n o → At “semicolon” o r → Some (SaysName word) w r
name_at (at t) (at c) (at_atom h) (at s) = some (says_name t c h s)

trigger_step : (w r : List Token) → Mean (“trigger” ∷ “::” ∷ ⟨atom⟩ ∷ “semicolon” ∷ []) w r → Some (SaysName “trigger”) w r
trigger_step w r (t ▹ c ▹ n ▹ s ▹ end) = name_at t c n s

yes_or_no_at : {word : ℕ} {w m n o r : List Token} → At word w m → At “::” m n → AtYesOrNo n o → At “semicolon” o r → Some (SaysYesOrNo word) w r
yes_or_no_at (at t) (at c) (at_yes_or_no y) (at s) = some (says_yes_or_no t c y s)

terminal_step : (w r : List Token) → Mean (“terminal” ∷ “::” ∷ ⟨yes-or-no⟩ ∷ “semicolon” ∷ []) w r → Some (SaysYesOrNo “terminal”) w r
terminal_step w r (t ▹ c ▹ y ▹ s ▹ end) = yes_or_no_at t c y s

mandatory_step : (w r : List Token) → Mean (“mandatory” ∷ “::” ∷ ⟨yes-or-no⟩ ∷ “semicolon” ∷ []) w r → Some (SaysYesOrNo “mandatory”) w r
mandatory_step w r (t ▹ c ▹ y ▹ s ▹ end) = yes_or_no_at t c y s

constraint_step : (w r : List Token) → Mean (“schedule-constraint” ∷ “::” ∷ “completed” ∷ “open” ∷ ⟨atom⟩ ∷ “close” ∷ “semicolon” ∷ []) w r → Some ComponentAttributeAt w r
constraint_step w r (at t ▹ at c ▹ at d ▹ at o ▹ at_atom h ▹ at p ▹ at s ▹ end) = some (constraint t c d o h p s)

assign_of : {t q : Token} {r : List Token} {e : Expr} (w : List Token) → t.rule ≡ atom → Terminal q “=” → Tree assigned 1 w r e → Some Assertion (t ∷ q ∷ w) r
assign_of [] h q x = let l = shorter x in absurd (omega arith)
assign_of (y ∷ w) h q x = some (assignment h q x)

assign_step : (w r : List Token) → Mean (⟨atom⟩ ∷ “=” ∷ ⟨expression-no-and⟩ ∷ []) w r → Some Assertion w r
assign_step w r (at_atom h ▹ at {r = m} q ▹ x ▹ end) = assign_of m h q (some_tree x).1

both_step : (w r : List Token) → Mean (⟨assertion⟩ ∷ “and” ∷ ⟨assertion⟩ ∷ []) w r → Some Assertion w r
both_step w r (some x ▹ at h ▹ some y ▹ end) = some (both x h y)

enclosed_step : (w r : List Token) → Mean (“open” ∷ ⟨assertion⟩ ∷ “close” ∷ []) w r → Some Assertion w r
enclosed_step w r (at h ▹ some x ▹ at k ▹ end) = some (in_parentheses h x k)

postcondition_step : (w r : List Token) → Mean (“postcondition” ∷ “::” ∷ ⟨assertion⟩ ∷ “semicolon” ∷ []) w r → AnyTask w r
postcondition_step w r (at t ▹ at c ▹ some x ▹ at s ▹ end) = any_task (λ k. some (a_postcondition t c x s))

component-of : {w m r : List Token} → Some (SaysName “component”) w m → Some (Series ComponentAttributeAt) m r → Some (AttributeAt plan) w r
component-of (some n) (some xs) = some (a_component n xs)

component_step : (w r : List Token) → Mean (“component” ∷ “::” ∷ ⟨atom⟩ ∷ “semicolon” ∷ ⟨component-attribute-list⟩ ∷ []) w r → Some (AttributeAt plan) w r
component_step w r (t ▹ c ▹ n ▹ s ▹ xs ▹ end) = component-of (name_at t c n s) xs

source_of : {w m r : List Token} → Some (SaysName “source”) w m → Some (Series SourceAttributeAt) m r → Some (AttributeAt enquiry) w r
source_of (some n) (some xs) = some (a_source n xs)

source_step : (w r : List Token) → Mean (“source” ∷ “::” ∷ ⟨data-name⟩ ∷ “semicolon” ∷ ⟨source-attribute-list⟩ ∷ []) w r → Some (AttributeAt enquiry) w r
source_step w r (t ▹ c ▹ n ▹ s ▹ xs ▹ end) = source_of (name_at t c n s) xs

-- ---- tasks and data items

task_of : {w m o p q u r : List Token} (k : Class) → Some (SaysName (class_word k)) w m → Some (Series GenericAt) m o → Some (Series (AttributeAt k)) o p
    → At “end” p q → At (class_word k) q u → At “dot” u r → Tasked k w r
task_of k (some n) (some gs) (some xs) (at e) (at f) (at d) = tasked (a_task n gs xs e f d) refl

plan_step : (w r : List Token)
    → Mean (“plan” ∷ “::” ∷ ⟨atom⟩ ∷ “semicolon” ∷ ⟨generic-attribute-list⟩ ∷ ⟨plan-attribute-list⟩ ∷ “end” ∷ “plan” ∷ “dot” ∷ []) w r → Tasked plan w r
plan_step w r (t ▹ c ▹ n ▹ s ▹ gs ▹ xs ▹ e ▹ f ▹ d ▹ end) = task_of plan (name_at t c n s) gs xs e f d

action_step : (w r : List Token)
    → Mean (“action” ∷ “::” ∷ ⟨atom⟩ ∷ “semicolon” ∷ ⟨generic-attribute-list⟩ ∷ ⟨action-attribute-list⟩ ∷ “end” ∷ “action” ∷ “dot” ∷ []) w r → Tasked action w r
action_step w r (t ▹ c ▹ n ▹ s ▹ gs ▹ xs ▹ e ▹ f ▹ d ▹ end) = task_of action (name_at t c n s) gs xs e f d

enquiry_step : (w r : List Token)
    → Mean (“enquiry” ∷ “::” ∷ ⟨atom⟩ ∷ “semicolon” ∷ ⟨generic-attribute-list⟩ ∷ ⟨enquiry-attribute-list⟩ ∷ “end” ∷ “enquiry” ∷ “dot” ∷ []) w r → Tasked enquiry w r
enquiry_step w r (t ▹ c ▹ n ▹ s ▹ gs ▹ xs ▹ e ▹ f ▹ d ▹ end) = task_of enquiry (name_at t c n s) gs xs e f d

data_item_of : {w m n o p q r : List Token} → Some (SaysName “data”) w m → AtDefinition m n → Some (Series GenericAt) n o → At “end” o p → At “data” p q → At “dot” q r → Some DataItemAt w r
data_item_of (some n) (at_definition t c y s) (some gs) (at e) (at f) (at d) = some (a_data_item n t c y s gs e f d)

data_item_step : (w r : List Token)
    → Mean (“data” ∷ “::” ∷ ⟨data-name⟩ ∷ “semicolon” ∷ ⟨data-type-definition⟩ ∷ ⟨generic-attribute-list⟩ ∷ ⟨data-attribute-list⟩ ∷ “end” ∷ “data” ∷ “dot” ∷ []) w r → Some DataItemAt w r
data_item_step w r (t ▹ c ▹ n ▹ s ▹ y ▹ gs ▹ no_token ▹ e ▹ f ▹ d ▹ end) = data_item_of (name_at t c n s) y gs e f d

process_step : (w r : List Token) → Mean (⟨optional-directives⟩ ∷ ⟨plan-task⟩ ∷ ⟨top-level-component-list⟩ ∷ []) w r → Whole w r
process_step w r (no_token ▹ tasked t e ▹ some xs ▹ end) = whole t e xs

-- ---- one thing that is another, and series

-- what A means is X
abbrev Is : ℕ → Rel → Type 0
Is A X = (w r : List Token) → Means A w r → X w r

alone : {Y : Rel} (A : ℕ) → Is A Y → (w r : List Token) → Mean (A ∷ []) w r → Y w r
alone A f w r (x ▹ end) = f w r x

mapped : {T U : Type 0} {X : List Token → List Token → T → Type 0} {Y : List Token → List Token → U → Type 0}
    → ((w r : List Token) (x : T) → X w r x → Some Y w r) → (w r : List Token) → Some X w r → Some Y w r
mapped f w r (some {x} h) = f w r x h

none_step : {T : Type 0} {X : List Token → List Token → T → Type 0} (w r : List Token) → Mean (⟨empty⟩ ∷ []) w r → Some (Series X) w r
none_step w r (no_token ▹ end) = some none

more_of : {T : Type 0} {X : List Token → List Token → T → Type 0} {w m r : List Token} → Some X w m → Some (Series X) m r → Some (Series X) w r
more_of (some x) (some xs) = some (and_more x xs)

more_step : {T : Type 0} {X : List Token → List Token → T → Type 0} (A L : ℕ) → Is A (Some X) → Is L (Some (Series X))
    → (w r : List Token) → Mean (A ∷ L ∷ []) w r → Some (Series X) w r
more_step A L f g w r (◌▹◌ {m} x (xs ▹ end)) = more_of (f w m x) (g m r xs)

of_class : (k : Class) (w r : List Token) → AnyTask w r → Some (AttributeAt k) w r
of_class k w r (any_task f) = f k

any_class : {T : Type 0} {X : List Token → List Token → T → Type 0}
    → ((k : Class) (w r : List Token) (x : T) → X w r x → Some (AttributeAt k) w r) → (w r : List Token) → Some X w r → AnyTask w r
any_class f w r (some {x} h) = any_task (λ k. f k w r x h)

a_task_of : {k : Class} (w r : List Token) → Tasked k w r → Some TaskAt w r
a_task_of w r (tasked t e) = some t

empty_step : (w r : List Token) → Mean [] w r → Same w r
empty_step w r end = no_token

-- ---- a step for every production that is needed, in the order of the print

abbrev needed : Prod → Bool
needed (A ::= β) = every live β && known A meanings

abbrev keep : (Prod → Bool) → List Prod → List Prod
keep f [] = []
keep f (p ∷ l) = cond (f p) (p ∷ keep f l) (keep f l)

steps : Each Step (keep needed grammar)
unfolding grammar printed no_and atoms left_out_words infixes
steps =
    alone ⟨task-attribute⟩ (of_class action)
    & more_step ⟨action-attribute⟩ ⟨action-attribute-list⟩ (λ w r x. x) (λ w r x. x)
    & none_step
    & action_step
    & assign_step
    & both_step
    & enclosed_step
    & says_step refl
    & component_step
    & alone ⟨terminal-att⟩ (mapped (λ w r x h. some (is_terminal h)))
    & alone ⟨schedule-constraint⟩ (λ w r x. x)
    & more_step ⟨component-attribute⟩ ⟨component-attribute-list⟩ (λ w r x. x) (λ w r x. x)
    & none_step
    & alone ⟨empty⟩ (λ w r x. x)
    & data_item_step
    & alone ⟨atom⟩ (λ w r x. x)
    & data_type_step
    & definition_step
    & says_step refl
    & empty_step
    & alone ⟨task-attribute⟩ (of_class enquiry)
    & alone ⟨source⟩ (λ w r x. x)
    & more_step ⟨enquiry-attribute⟩ ⟨enquiry-attribute-list⟩ (λ w r x. x) (λ w r x. x)
    & none_step
    & enquiry_step
    & atom_step anywhere
    & integer_step anywhere
    & float_step anywhere
    & string_step anywhere
    & parentheses_step anywhere
    & any_step refl
    & any_step refl
    & any_step refl
    & any_step refl
    & any_step refl
    & any_step refl
    & any_step refl
    & any_step refl
    & any_step refl
    & any_step refl
    & any_step refl
    & any_step refl
    & any_step refl
    & any_step refl
    & any_step refl
    & any_step refl
    & any_step refl
    & any_step refl
    & any_step refl
    & minus_step
    & call_step anywhere
    & list_step anywhere
    & no_expression_step
    & expressions_step
    & alone ⟨atom⟩ (λ w r x. x)
    & alone ⟨caption⟩ (mapped (λ w r x h. some (a_caption h)))
    & alone ⟨description⟩ (mapped (λ w r x h. some (a_description h)))
    & more_step ⟨generic-attribute⟩ ⟨generic-attribute-list⟩ (λ w r x. x) (λ w r x. x)
    & none_step
    & mandatory_step
    & last_step
    & then_more_step
    & alone ⟨empty⟩ (λ w r x. x)
    & alone ⟨task-attribute⟩ (of_class plan)
    & alone ⟨component⟩ (λ w r x. x)
    & alone ⟨terminate-condition⟩ (mapped (λ w r x h. some (a_terminate_condition h)))
    & more_step ⟨plan-attribute⟩ ⟨plan-attribute-list⟩ (λ w r x. x) (λ w r x. x)
    & none_step
    & plan_step
    & postcondition_step
    & says_step refl
    & process_step
    & constraint_step
    & source_step
    & more_step ⟨source-attribute⟩ ⟨source-attribute-list⟩ (λ w r x. x) (λ w r x. x)
    & none_step
    & alone ⟨generic-attribute⟩ (mapped (λ w r x h. some (a_source_generic h)))
    & alone ⟨mandatory⟩ (mapped (λ w r x h. some (is_mandatory h)))
    & alone ⟨plan-task⟩ a_task_of
    & alone ⟨action-task⟩ a_task_of
    & alone ⟨enquiry-task⟩ a_task_of
    & alone ⟨precondition⟩ (any_class (λ k w r x h. some (a_precondition h)))
    & alone ⟨wait-condition⟩ (any_class (λ k w r x h. some (a_wait_condition h)))
    & alone ⟨postcondition⟩ (λ w r x. x)
    & alone ⟨trigger⟩ (any_class (λ k w r x h. some (a_trigger h)))
    & terminal_step
    & says_step refl
    & alone ⟨task⟩ (mapped (λ w r x h. some (a_top_task h)))
    & alone ⟨data-item⟩ (mapped (λ w r x h. some (a_top_data_item h)))
    & more_step ⟨top-level-component⟩ ⟨top-level-component-list⟩ (λ w r x. x) (λ w r x. x)
    & none_step
    & trigger_step
    & says_step refl
    & yes_or_no_step
    & atom_step assigned
    & integer_step assigned
    & float_step assigned
    & string_step assigned
    & parentheses_step assigned
    & assigned_step refl refl
    & assigned_step refl refl
    & assigned_step refl refl
    & assigned_step refl refl
    & assigned_step refl refl
    & assigned_step refl refl
    & assigned_step refl refl
    & assigned_step refl refl
    & assigned_step refl refl
    & assigned_step refl refl
    & assigned_step refl refl
    & assigned_step refl refl
    & assigned_step refl refl
    & assigned_step refl refl
    & assigned_step refl refl
    & assigned_step refl refl
    & assigned_step refl refl
    & assigned_step refl refl
    & assigned_minus_step
    & call_step assigned
    & list_step assigned
    & other_atom_step
    & yes_or_no_atom_step
    & data_type_atom_step
    & all

-- ---- every derivation takes these steps

kept : {p : Prod} {l : List Prod} (f : Prod → Bool) → Memᴰ p l → f p ≡ true → Memᴰ p (keep f l)
kept f (Memᴰ.head {x} e) h = rw (ap f (sym e) ∙ h) (Memᴰ.head e)
kept {p} f (Memᴰ.tail {x} {xs} m) h =
    let by : (b : Bool) → Memᴰ p (cond b (x ∷ keep f xs) (keep f xs)) = elim [ true ↦ Memᴰ.tail (kept f m h) | false ↦ kept f m h ] in
    by (f x)

unknown : (k : ℕ) (l : List (ℕ × Rel)) (w r : List Token) → known k l ≡ false → meaning_in k l w r
unknown k [] w r h = tt
unknown k (x ∷ l) w r h =
    let by : (b : Bool) → b || known k l ≡ false → pick b x.1 (meaning_in k l) w r = elim [ true ↦ λ g. contra (sym g) | false ↦ λ g. unknown k l w r g ] in
    by (eqb k x.0) h

abbrev above : Prod → Bool
above (A ::= β) = leb terminals A

all_nonterminals : every above grammar ≡ true
unfolding grammar printed no_and atoms
all_nonterminals = refl

does : (A : ℕ) (β : List ℕ) → Memᴰ (A ::= β) grammar → every live β ≡ true → (w r : List Token) → Mean β w r → Means A w r
does A β m h w r x = ⊎_elim
    (λ (e : known A meanings ≡ true). each_at steps (kept needed m (rw (h, e))) w r x)
    (λ (e : known A meanings ≡ false).
    rw (le-ltb A terminals (leb-true terminals A (every_at above grammar all_nonterminals (A ::= β) m))) (unknown A meanings w r e))
    (two (known A meanings))

split : {α : List ℕ} {w r : List Token} (β : List ℕ) → Mean (β ++ α) w r → (m : List Token) × Mean β w m × Mean α m r
split {w} [] x = (w, end, x)
split (A ∷ β) (x ▹ xs) = let p = split β xs in (p.0, x ▹ p.1, p.2)

means_token : {t : Token} {k : ℕ} (r : List Token) → Terminal t k → Means k (t ∷ r) r
means_token {k} r h = rw (lt-ltb k terminals (below h)) (at h)

means : {α ks : List ℕ} {ts : List Token} → D α ks → Terminals ts ks → every live ks ≡ true → Mean α ts []
means done Terminals.none l = end
means (token {k} {w} b d) (next {ts} h hs) l = means_token ts h ▹ means d hs (and_r (live k) (every live w) l)
means {ts} (rule {A} {α} {β} m d) hs l =
    let p = split β (means d hs l) in
    does A β m (every_l live β α (alive d l)) ts p.0 p.1 ▹ p.2

finished : {w r : List Token} → Whole w r → r ≡ [] → (g : List TopLevel) × Structure w g
finished (whole {m} {root} {tops} t e xs) q = (task root ∷ tops, guideline t e (subst (λ (r : List Token). Series TopLevelAt m r tops) q xs))

only : {w r : List Token} → Mean (⟨process⟩ ∷ []) w r → Whole w r
only (x ▹ end) = x

pub some_structure : {ts : List Token} {ks : List ℕ} → Terminals ts ks → Guideline ks → ((p : ℕ) → ¬ LeftOut ts p) → (g : List TopLevel) × Structure ts g
unfolding SentenceOf
some_structure t d h = finished (only (means d t (tokens_alive t h))) refl

pub exactly_one : {ts : List Token} {ks : List ℕ} → Terminals ts ks → Guideline ks → ((p : ℕ) → ¬ LeftOut ts p)
    → (g : List TopLevel) × Structure ts g × ((h : List TopLevel) → Structure ts h → h ≡ g)
exactly_one t d h = let s = some_structure t d h in (s.0, s.1, λ g x. one_structure x s.1)

only_expression : {w r : List Token} → Mean (⟨expression⟩ ∷ []) w r → Chain anywhere w r
only_expression (x ▹ end) = x

pub some_expression : {ts : List Token} {ks : List ℕ} → Terminals ts ks → SentenceOf ⟨expression⟩ ks → ((p : ℕ) → ¬ LeftOut ts p) → (e : Expr) × Tree anywhere 1 ts [] e
unfolding SentenceOf
some_expression t d h = some_tree (only_expression (means d t (tokens_alive t h)))
