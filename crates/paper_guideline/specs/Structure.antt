-- The structure of a guideline: what the productions of 3.2 that the first edition runs make of its tokens. Definitions only.
-- The other productions have no place here: a text that uses one is refused with 10 before its structure is asked for.
use Rattle.std.specs.Prelude.{ℕ, ◌≡◌, Bool, true, false, List, [], ◌∷◌, ◌++◌, map}
use Prim.Native.String.{String}
use Rattle.paper_expressions.specs.Bytes.{bytes}
use Rattle.paper_expressions.specs.Types.{Declared, a_text, an_integer, a_boolean, a_datetime, a_date, a_time, a_real, a_setof_text, a_setof_integer, a_setof_real}
use Rattle.paper_expressions.specs.Expressions.{Expr}
use Rattle.paper_tokens.specs.Tokens
use Tokens.{“plan”, “action”, “enquiry”, “data”, “type”, “end”, “::”, “semicolon”, “dot”, “open”, “close”, “=”, “and”}
use Tokens.{“caption”, “description”, “precondition”, “wait-condition”, “postcondition”, “trigger”, “terminate”, “component”, “source”}
use Tokens.{“schedule-constraint”, “completed”, “terminal”, “mandatory”, ‘yes-or-no’, ‘data-type’}
use Rattle.paper_tokens.specs.Lexical.{Token, atom}
use Rattle.paper_tokens.specs.Terminals.{Terminal, name}
use Rattle.paper_guideline.specs.Tree.{anywhere, assigned, Tree}

-- ---- what a guideline is made of; a place is that of a token's first byte

-- a name, and where it stands
pub record Name : Type 0 where
  pub spelt : List ℕ
  pub place : ℕ

-- an outermost expression: where it starts, and its tree
pub record Outermost : Type 0 where
  pub start : ℕ
  pub tree : Expr

-- an attribute, and where its word stands
pub record Placed (A : Type 0) : Type 0 where
  pub word : ℕ
  pub what : A

pub record Assignment : Type 0 where
  pub target : Name
  pub value : Outermost

pub data ComponentAttribute : Type 0 where
  schedule_constraint : Name → ComponentAttribute
  terminal : Bool → ComponentAttribute

pub data Generic : Type 0 where
  caption description : Outermost → Generic

pub data SourceAttribute : Type 0 where
  source_generic : Generic → SourceAttribute
  mandatory : Bool → SourceAttribute

pub data Attribute : Type 0 where
  generic : Generic → Attribute
  precondition wait_condition terminate : Outermost → Attribute
  postcondition : List Assignment → Attribute
  trigger : Name → Attribute
  component : Name → List (Placed ComponentAttribute) → Attribute
  source : Name → List (Placed SourceAttribute) → Attribute

pub data Class : Type 0 where
  plan action enquiry : Class

pub record Task : Type 0 where
  pub class : Class
  pub named : Name
  pub attributes : List (Placed Attribute)

pub record DataItem : Type 0 where
  pub named : Name
  pub declared : Declared
  pub attributes : List (Placed Generic)

pub data TopLevel : Type 0 where
  task : Task → TopLevel
  data_item : DataItem → TopLevel

-- ---- the productions; X w r x: of the tokens w, those before r are an X, and x is what it says

abbrev named : Token → Name
named t = record { spelt = name t; place = t.place }

abbrev placed : {A : Type 0} → ℕ → A → Placed A
placed p a = record { word = p; what = a }

abbrev at_word : {A : Type 0} → Token → A → Placed A
at_word t a = placed t.place a

-- word "::" <expression> ";"
pub data Says (word : ℕ) : List Token → List Token → Placed Outermost → Type 0 where
  says : {t c x s : Token} {w r : List Token} {e : Expr}
      → Terminal t word → Terminal c “::” → Tree anywhere 1 (x ∷ w) (s ∷ r) e → Terminal s “semicolon”
      → Says word (t ∷ c ∷ x ∷ w) r (at_word t (record { start = x.place; tree = e }))

-- <yes_or_no>
pub data YesOrNo : Token → Bool → Type 0 where
  is_yes : {t : Token} → Terminal t ‘yes-or-no’ → name t ≡ bytes "yes" → YesOrNo t true
  is_no : {t : Token} → Terminal t ‘yes-or-no’ → name t ≡ bytes "no" → YesOrNo t false

-- word "::" <yes_or_no> ";"
pub data SaysYesOrNo (word : ℕ) : List Token → List Token → Placed Bool → Type 0 where
  says_yes_or_no : {t c y s : Token} {r : List Token} {b : Bool}
      → Terminal t word → Terminal c “::” → YesOrNo y b → Terminal s “semicolon” → SaysYesOrNo word (t ∷ c ∷ y ∷ s ∷ r) r (at_word t b)

-- word "::" <atom> ";"
pub data SaysName (word : ℕ) : List Token → List Token → Placed Name → Type 0 where
  says_name : {t c n s : Token} {r : List Token}
      → Terminal t word → Terminal c “::” → n.rule ≡ atom → Terminal s “semicolon” → SaysName word (t ∷ c ∷ n ∷ s ∷ r) r (at_word t (named n))

-- zero or more, one after the other
pub data Series {A : Type 0} (One : List Token → List Token → A → Type 0) : List Token → List Token → List A → Type 0 where
  none : {r : List Token} → Series One r r []
  and_more : {w m r : List Token} {a : A} {xs : List A} → One w m a → Series One m r xs → Series One w r (a ∷ xs)

-- <assertion>, <assignment>
pub data Assertion : List Token → List Token → List Assignment → Type 0 where
  assignment : {t q x : Token} {w r : List Token} {e : Expr}
      → t.rule ≡ atom → Terminal q “=” → Tree assigned 1 (x ∷ w) r e
      → Assertion (t ∷ q ∷ x ∷ w) r (record { target = named t; value = record { start = x.place; tree = e } } ∷ [])
  both : {t : Token} {w m r : List Token} {xs ys : List Assignment}
      → Assertion w (t ∷ m) xs → Terminal t “and” → Assertion m r ys → Assertion w r (xs ++ ys)
  in_parentheses : {t c : Token} {w r : List Token} {xs : List Assignment}
      → Terminal t “open” → Assertion w (c ∷ r) xs → Terminal c “close” → Assertion (t ∷ w) r xs

-- <component_attribute>
pub data ComponentAttributeAt : List Token → List Token → Placed ComponentAttribute → Type 0 where
  constraint : {t c d o n p s : Token} {r : List Token}
      → Terminal t “schedule-constraint” → Terminal c “::” → Terminal d “completed” → Terminal o “open” → n.rule ≡ atom → Terminal p “close” → Terminal s “semicolon”
      → ComponentAttributeAt (t ∷ c ∷ d ∷ o ∷ n ∷ p ∷ s ∷ r) r (at_word t (schedule_constraint (named n)))
  is_terminal : {w r : List Token} {b : Placed Bool} → SaysYesOrNo “terminal” w r b
      → ComponentAttributeAt w r (placed b.word (terminal b.what))

-- <generic_attribute>
pub data GenericAt : List Token → List Token → Placed Generic → Type 0 where
  a_caption : {w r : List Token} {x : Placed Outermost} → Says “caption” w r x → GenericAt w r (placed x.word (caption x.what))
  a_description : {w r : List Token} {x : Placed Outermost} → Says “description” w r x → GenericAt w r (placed x.word (description x.what))

-- <source_attribute>
pub data SourceAttributeAt : List Token → List Token → Placed SourceAttribute → Type 0 where
  a_source_generic : {w r : List Token} {x : Placed Generic} → GenericAt w r x → SourceAttributeAt w r (placed x.word (source_generic x.what))
  is_mandatory : {w r : List Token} {b : Placed Bool} → SaysYesOrNo “mandatory” w r b → SourceAttributeAt w r (placed b.word (mandatory b.what))

-- <plan_attribute>, <action_attribute>, <enquiry_attribute>
pub data AttributeAt : Class → List Token → List Token → Placed Attribute → Type 0 where
  -- <task_attribute>
  a_precondition : {k : Class} {w r : List Token} {x : Placed Outermost} → Says “precondition” w r x
      → AttributeAt k w r (placed x.word (precondition x.what))
  a_wait_condition : {k : Class} {w r : List Token} {x : Placed Outermost} → Says “wait-condition” w r x
      → AttributeAt k w r (placed x.word (wait_condition x.what))
  a_postcondition : {k : Class} {t c s : Token} {w r : List Token} {xs : List Assignment}
      → Terminal t “postcondition” → Terminal c “::” → Assertion w (s ∷ r) xs → Terminal s “semicolon”
      → AttributeAt k (t ∷ c ∷ w) r (at_word t (postcondition xs))
  a_trigger : {k : Class} {w r : List Token} {n : Placed Name} → SaysName “trigger” w r n
      → AttributeAt k w r (placed n.word (trigger n.what))
  -- of a plan
  a_component : {w m r : List Token} {n : Placed Name} {xs : List (Placed ComponentAttribute)}
      → SaysName “component” w m n → Series ComponentAttributeAt m r xs
      → AttributeAt plan w r (placed n.word (component n.what xs))
  a_terminate_condition : {w r : List Token} {x : Placed Outermost} → Says “terminate” w r x
      → AttributeAt plan w r (placed x.word (terminate x.what))
  -- of an enquiry
  a_source : {w m r : List Token} {n : Placed Name} {xs : List (Placed SourceAttribute)}
      → SaysName “source” w m n → Series SourceAttributeAt m r xs
      → AttributeAt enquiry w r (placed n.word (source n.what xs))

-- the names of the types (4.3)
abbrev pub written : Declared → String
written a_text = "text"
written an_integer = "integer"
written a_boolean = "boolean"
written a_datetime = "datetime"
written a_date = "date"
written a_time = "time"
written a_real = "real"
written a_setof_text = "setof_text"
written a_setof_integer = "setof_integer"
written a_setof_real = "setof_real"

abbrev pub class_word : Class → ℕ
class_word plan = “plan”
class_word action = “action”
class_word enquiry = “enquiry”

-- <plan_task>, <action_task>, <enquiry_task>
pub data TaskAt : List Token → List Token → Task → Type 0 where
  a_task : {k : Class} {e f d : Token} {w m o r : List Token} {n : Placed Name} {gs : List (Placed Generic)} {xs : List (Placed Attribute)}
      → SaysName (class_word k) w m n → Series GenericAt m o gs → Series (AttributeAt k) o (e ∷ f ∷ d ∷ r) xs
      → Terminal e “end” → Terminal f (class_word k) → Terminal d “dot”
      → TaskAt w r (record { class = k; named = n.what; attributes = map (λ (g : Placed Generic). placed g.word (generic g.what)) gs ++ xs })

-- <data_type>: the ten, by their names
pub data DataType : Token → Declared → Type 0 where
  data_type : {t : Token} {d : Declared} → Terminal t ‘data-type’ → name t ≡ bytes (written d) → DataType t d

-- <data_item>, <data_type_definition>
pub data DataItemAt : List Token → List Token → DataItem → Type 0 where
  a_data_item : {t c y s e f d : Token} {w m r : List Token} {n : Placed Name} {k : Declared} {gs : List (Placed Generic)}
      → SaysName “data” w (t ∷ c ∷ y ∷ s ∷ m) n
      → Terminal t “type” → Terminal c “::” → DataType y k → Terminal s “semicolon”
      → Series GenericAt m (e ∷ f ∷ d ∷ r) gs
      → Terminal e “end” → Terminal f “data” → Terminal d “dot”
      → DataItemAt w r (record { named = n.what; declared = k; attributes = gs })

-- <top_level_component>
pub data TopLevelAt : List Token → List Token → TopLevel → Type 0 where
  a_top_task : {w r : List Token} {t : Task} → TaskAt w r t → TopLevelAt w r (task t)
  a_top_data_item : {w r : List Token} {d : DataItem} → DataItemAt w r d → TopLevelAt w r (data_item d)

-- <process>: a plan, the root, and then zero or more top level components
pub data Structure : List Token → List TopLevel → Type 0 where
  guideline : {w m : List Token} {root : Task} {tops : List TopLevel}
      → TaskAt w m root → root.class ≡ plan → Series TopLevelAt m [] tops → Structure w (task root ∷ tops)

-- ---- its parts, in the order of the text

abbrev pub tasks : List TopLevel → List Task
tasks [] = []
tasks (task t ∷ g) = t ∷ tasks g
tasks (data_item d ∷ g) = tasks g

abbrev pub data_items : List TopLevel → List DataItem
data_items [] = []
data_items (task t ∷ g) = data_items g
data_items (data_item d ∷ g) = d ∷ data_items g
