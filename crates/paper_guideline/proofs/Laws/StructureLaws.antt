-- A list of tokens has at most one structure: the first token of each construct says which it is, and its own last token, or a word that begins no further member, where it ends.
use Rattle.std.specs.Prelude.{ℕ, ◌≡◌, refl, Bool, true, false, cond, not, eqb, length}
use Rattle.std.proofs.Common.{sym, ap, subst, ◌∙◌, ⊎_elim, arith, eqb-true, eq-eqb}
use mathlib.Core.List.{List, [], ◌∷◌, ◌++◌, append_assoc, append-nil, map, Memᴰ}
use Rattle.std.proofs.lemmas.Bool.{not-true}
use Rattle.paper_expressions.proofs.Laws.Tests.{contra, two, every, every_at, or_cases}
use Rattle.paper_expressions.specs.Bytes.{bytes}
use Rattle.paper_expressions.specs.Types.{Declared, a_text, an_integer, a_boolean, a_datetime, a_date, a_time, a_real, a_setof_text, a_setof_integer, a_setof_real}
use Rattle.paper_expressions.specs.Expressions.{Expr}
use Rattle.paper_tokens.specs.Tokens
use Tokens.{“plan”, “action”, “enquiry”, “data”, “end”, “semicolon”, “open”, “close”, “=”, “and”, terminals}
use Tokens.{“caption”, “description”, “precondition”, “wait-condition”, “postcondition”, “trigger”, “terminate”, “component”, “source”}
use Tokens.{“schedule-constraint”, “terminal”, “mandatory”}
use Rattle.paper_tokens.specs.Lexical.{Token, atom}
use Rattle.paper_tokens.specs.Terminals.{Terminal, name}
use Rattle.paper_guideline.specs.Tree.{anywhere, assigned, Tree}
use Rattle.paper_guideline.specs.Structure
use Structure.{Outermost, Placed, Name, Assignment, Generic, ComponentAttribute, SourceAttribute}
use Structure.{Attribute, generic, precondition, wait_condition, terminate, postcondition, trigger, component, source, Class, plan, action, enquiry, Task, DataItem, TopLevel}
use Structure.{Says, says, YesOrNo, is_yes, is_no, SaysYesOrNo, says_yes_or_no, SaysName, says_name, Series, none, and_more, Assertion, assignment, both, in_parentheses}
use Structure.{ComponentAttributeAt, constraint, is_terminal, GenericAt, a_caption, a_description, SourceAttributeAt, a_source_generic, is_mandatory}
use Structure.{AttributeAt, a_precondition, a_wait_condition, a_postcondition, a_trigger, a_component, a_terminate_condition, a_source, written, class_word, TaskAt, a_task}
use Structure.{DataType, data_type, DataItemAt, a_data_item, TopLevelAt, a_top_task, a_top_data_item, Structure, guideline}
use Rattle.paper_grammar.proofs.Laws.Ll.{is_in}
use Rattle.paper_tokens.proofs.Laws.LexicalTwin.{same}
use Rattle.paper_tokens.proofs.Laws.TerminalLaws.{terminal_f, terminal_is, one_terminal, atom-kind}
use Rattle.paper_guideline.proofs.Laws.TreeLaws.{infix_f, Ends, ends_at, one_end}

-- ---- the first token

abbrev head : List Token → ℕ
head [] = terminals
head (t ∷ w) = terminal_f t

-- the head is one of these terminals
abbrev Heads : List ℕ → List Token → Type 0
Heads ks w = is_in (head w) ks ≡ true

heads : {t : Token} {k : ℕ} (ks : List ℕ) → Terminal t k → is_in k ks ≡ true → is_in (terminal_f t) ks ≡ true
heads ks h e = subst (λ (j : ℕ). is_in j ks ≡ true) (sym (terminal_is h)) e

pub in_list : (ks : List ℕ) (k : ℕ) → is_in k ks ≡ true → Memᴰ k ks
in_list [] k h = contra h
in_list (j ∷ ks) k h = ⊎_elim
    (λ (e : eqb k j ≡ true). Memᴰ.head (eqb-true k j e))
    (λ (e : is_in k ks ≡ true). Memᴰ.tail (in_list ks k e))
    (or_cases (eqb k j) (is_in k ks) h)

in_every : (f : ℕ → Bool) (ks : List ℕ) (k : ℕ) → every f ks ≡ true → is_in k ks ≡ true → f k ≡ true
in_every f ks k h i = every_at f ks h k (in_list ks k i)

-- ---- one way to end, and one thing said

abbrev One : {A : Type 0} → List Token → List Token → A → A → Type 0
One r s x y = (r ≡ s) × (x ≡ y)

at_semicolon : {t : Token} (r : List Token) → Terminal t “semicolon” → Ends anywhere (t ∷ r)
unfolding infix_f
at_semicolon r h = ends_at r h refl refl

says_one : {word : ℕ} {w r s : List Token} {x y : Placed Outermost} → Says word w r x → Says word w s y → One r s x y
says_one (says {r} t c x p) (says {r = s} t' c' x' p') = let e = one_end x (at_semicolon r p) x' (at_semicolon s p') in (cc, cc)

yes_or_no_one : {t : Token} {b c : Bool} → YesOrNo t b → YesOrNo t c → b ≡ c
yes_or_no_one (is_yes h e) (is_yes k f) = refl
yes_or_no_one (is_yes h e) (is_no k f) = absurd (let z = ap length (sym e ∙ f) in omega arith)
yes_or_no_one (is_no h e) (is_yes k f) = absurd (let z = ap length (sym e ∙ f) in omega arith)
yes_or_no_one (is_no h e) (is_no k f) = refl

says_yes_or_no_one : {word : ℕ} {w r s : List Token} {x y : Placed Bool} → SaysYesOrNo word w r x → SaysYesOrNo word w s y → One r s x y
says_yes_or_no_one (says_yes_or_no t c y p) (says_yes_or_no t' c' y' p') = let e = yes_or_no_one y y' in (refl, cc)

says_name_one : {word : ℕ} {w r s : List Token} {x y : Placed Name} → SaysName word w r x → SaysName word w s y → One r s x y
says_name_one (says_name t c h p) (says_name t' c' h' p') = (refl, refl)

-- ---- a series: its members begin with certain words, and behind it stands another

-- what stands behind may have to be of a kind, as a component takes all attributes of components that follow it
record Stops (words : List ℕ) (follows : ℕ → Bool) (r : List Token) : Type 0 where
  pub begins_none : is_in (head r) words ≡ false
  pub may_follow : follows (head r) ≡ true

stops : {t : Token} {k : ℕ} (words : List ℕ) (follows : ℕ → Bool) (r : List Token) → Terminal t k → is_in k words ≡ false → follows k ≡ true → Stops words follows (t ∷ r)
stops words follows r h e f = record {
  begins_none = subst (λ (j : ℕ). is_in j words ≡ false) (sym (terminal_is h)) e;
  may_follow = subst (λ (j : ℕ). follows j ≡ true) (sym (terminal_is h)) f;
}

module _ {A : Type 0} (X : List Token → List Token → A → Type 0) (words : List ℕ) (follows : ℕ → Bool)
    (begins : (w r : List Token) (x : A) → X w r x → Heads words w)
    (one : (w r s : List Token) (x y : A) → X w r x → follows (head r) ≡ true → X w s y → follows (head s) ≡ true → One r s x y)
    (fine : every follows words ≡ true) where
  next_follows : {w r : List Token} {xs : List A} → Series X w r xs → Stops words follows r → follows (head w) ≡ true
  next_follows none e = e.may_follow
  next_follows (and_more {w} {m} {a} x xs) e = in_every follows words (head w) fine (begins w m a x)

  series_one : {w r s : List Token} {xs ys : List A} → Series X w r xs → Stops words follows r → Series X w s ys → Stops words follows s → One r s xs ys
  series_one none e none f = (refl, refl)
  series_one none e (and_more {w} {m} {a} y ys) f = contra (sym e.begins_none ∙ begins w m a y)
  series_one (and_more {w} {m} {a} x xs) e none f = contra (sym f.begins_none ∙ begins w m a x)
  series_one (and_more {w} {m} {a} x xs) e (and_more {m = n} {r = s} {a = b} {xs = zs} y ys) f =
      let p = one w m n a b x (next_follows xs e) y (next_follows ys f) in
      let q = series_one xs e (subst (λ (v : List Token). Series X v s zs) (sym p.0) ys) f in
      (q.0, cc)

abbrev anything : ℕ → Bool
anything k = true

-- ---- captions and descriptions

abbrev generic_words : List ℕ
generic_words = “caption” ∷ “description” ∷ []

generic_begins : (w r : List Token) (x : Placed Generic) → GenericAt w r x → Heads generic_words w
generic_begins w r x (a_caption (says t c e s)) = heads generic_words t refl
generic_begins w r x (a_description (says t c e s)) = heads generic_words t refl

-- one token has not two terminals
clash : {A : Type 0} {t : Token} {k j : ℕ} → Terminal t k → Terminal t j → eqb k j ≡ false → A
clash {k} {j} h g e = contra (sym e ∙ eq-eqb k j (one_terminal h g))

generic_one : {w r s : List Token} {x y : Placed Generic} → GenericAt w r x → GenericAt w s y → One r s x y
generic_one (a_caption h) (a_caption k) = let e = says_one h k in (e.0, cc)
generic_one (a_caption (says t c x p)) (a_description (says t' c' x' p')) = clash t t' refl
generic_one (a_description (says t c x p)) (a_caption (says t' c' x' p')) = clash t t' refl
generic_one (a_description h) (a_description k) = let e = says_one h k in (e.0, cc)

generics_one : {w r s : List Token} {xs ys : List (Placed Generic)}
    → Series GenericAt w r xs → Stops generic_words anything r → Series GenericAt w s ys → Stops generic_words anything s → One r s xs ys
generics_one = series_one GenericAt generic_words anything generic_begins (λ w r s x y h e k f. generic_one h k) refl

-- ---- attributes of components and of sources

abbrev component_words : List ℕ
component_words = “schedule-constraint” ∷ “terminal” ∷ []

component_begins : (w r : List Token) (x : Placed ComponentAttribute) → ComponentAttributeAt w r x → Heads component_words w
component_begins w r x (constraint t c d o h p s) = heads component_words t refl
component_begins w r x (is_terminal (says_yes_or_no t c y s)) = heads component_words t refl

component_one : {w r s : List Token} {x y : Placed ComponentAttribute} → ComponentAttributeAt w r x → ComponentAttributeAt w s y → One r s x y
component_one (constraint t c d o h p s) (constraint t' c' d' o' h' p' s') = (refl, refl)
component_one (constraint t c d o h p s) (is_terminal (says_yes_or_no t' c' y s')) = clash t t' refl
component_one (is_terminal (says_yes_or_no t c y s)) (constraint t' c' d o h p s') = clash t t' refl
component_one (is_terminal h) (is_terminal k) = let e = says_yes_or_no_one h k in (e.0, cc)

abbrev source_words : List ℕ
source_words = “caption” ∷ “description” ∷ “mandatory” ∷ []

source_begins : (w r : List Token) (x : Placed SourceAttribute) → SourceAttributeAt w r x → Heads source_words w
source_begins w r x (a_source_generic {x = g} h) = in_every (λ k. is_in k source_words) generic_words (head w) refl (generic_begins w r g h)
source_begins w r x (is_mandatory (says_yes_or_no t c y s)) = heads source_words t refl

not_generic : {A : Type 0} {t : Token} {k : ℕ} {v r : List Token} {x : Placed Generic} → GenericAt (t ∷ v) r x → Terminal t k → is_in k generic_words ≡ false → A
not_generic {t} {v} {r} {x} h g e = contra (sym e ∙ subst (λ (j : ℕ). is_in j generic_words ≡ true) (terminal_is g) (generic_begins (t ∷ v) r x h))

source_one : {w r s : List Token} {x y : Placed SourceAttribute} → SourceAttributeAt w r x → SourceAttributeAt w s y → One r s x y
source_one (a_source_generic h) (a_source_generic k) = let e = generic_one h k in (e.0, cc)
source_one (a_source_generic h) (is_mandatory (says_yes_or_no t c y s)) = not_generic h t refl
source_one (is_mandatory (says_yes_or_no t c y s)) (a_source_generic h) = not_generic h t refl
source_one (is_mandatory h) (is_mandatory k) = let e = says_yes_or_no_one h k in (e.0, cc)

-- ---- assertions: first an assignment or parentheses, then what stands behind; how the `and`s are grouped is gone

data Place : Type 0 where
  front behind : Place

data Closed : List Token → Type 0 where
  by_semicolon : {t : Token} {r : List Token} → Terminal t “semicolon” → Closed (t ∷ r)
  by_close : {t : Token} {r : List Token} → Terminal t “close” → Closed (t ∷ r)

data Flat : Place → List Token → List Token → List Assignment → Type 0 where
  assigns : {t q x : Token} {w m r : List Token} {e : Expr} {ys : List Assignment}
      → t.rule ≡ atom → Terminal q “=” → Tree assigned 1 (x ∷ w) m e → Flat behind m r ys
      → Flat front (t ∷ q ∷ x ∷ w) r (record { target = record { spelt = name t; place = t.place }; value = record { start = x.place; tree = e } } ∷ ys)
  encloses : {t c : Token} {w m r : List Token} {xs ys : List Assignment}
      → Terminal t “open” → Flat front w (c ∷ m) xs → Terminal c “close” → Flat behind m r ys → Flat front (t ∷ w) r (xs ++ ys)
  stop : {r : List Token} → Closed r → Flat behind r r []
  and_on : {t : Token} {m r : List Token} {ys : List Assignment} → Terminal t “and” → Flat front m r ys → Flat behind (t ∷ m) r ys

flat : {w r s : List Token} {xs ys : List Assignment} → Assertion w r xs → Flat behind r s ys → Flat front w s (xs ++ ys)
flat (assignment h q x) b = assigns h q x b
flat {s} {ys} (both {w} {xs = xs} {ys = zs} x h y) b = rw append_assoc (flat x (and_on h (flat y b)))
flat (in_parentheses {c} {w} {r} {xs} h x k) b =
    encloses h (subst (λ (l : List Assignment). Flat front w (c ∷ r) l) (append-nil xs) (flat x (stop (by_close k)))) k b

closed_ends : {r : List Token} → Closed r → Ends assigned r
unfolding infix_f
closed_ends (by_semicolon {r} h) = ends_at r h refl refl
closed_ends (by_close {r} h) = ends_at r h refl refl

behind_ends : {m r : List Token} {ys : List Assignment} → Flat behind m r ys → Ends assigned m
unfolding infix_f
behind_ends (stop c) = closed_ends c
behind_ends (and_on {m} h x) = ends_at m h refl refl

not_closed : {A : Type 0} {t : Token} {m : List Token} → Closed (t ∷ m) → Terminal t “and” → A
not_closed (by_semicolon h) k = clash h k refl
not_closed (by_close h) k = clash h k refl

no_atom : {A : Type 0} {t : Token} → t.rule ≡ atom → Terminal t “open” → A
no_atom {t} h k = absurd (atom-kind t h (λ (j : ℕ). ¬ (j ≡ “open”)) (λ e. omega arith) (λ e. omega arith) (λ e. omega arith) (terminal_is k))

flat_one : {p : Place} {w r s : List Token} {xs ys : List Assignment} → Flat p w r xs → Flat p w s ys → One r s xs ys
flat_one (assigns h q x b) (assigns {r = s} {ys = ys} h' q' x' b') =
    let e = one_end x (behind_ends b) x' (behind_ends b') in
    let f = flat_one b (subst (λ (m : List Token). Flat behind m s ys) (sym e.0) b') in
    (f.0, cc)
flat_one (assigns h q x b) (encloses t y c b') = no_atom h t
flat_one (encloses t y c b) (assigns h q x b') = no_atom h t
flat_one (encloses {m} t y c b) (encloses {m = n} {r = s} {ys = ys} t' y' c' b') =
    let e = flat_one y y' in
    let g : m ≡ n = cc in
    let f = flat_one b (subst (λ (v : List Token). Flat behind v s ys) (sym g) b') in
    (f.0, cc)
flat_one (stop c) (stop c') = (refl, refl)
flat_one (stop c) (and_on h x) = not_closed c h
flat_one (and_on h x) (stop c) = not_closed c h
flat_one (and_on h x) (and_on h' x') = flat_one x x'

assertion_one : {w r s : List Token} {xs ys : List Assignment} → Assertion w r xs → Closed r → Assertion w s ys → Closed s → One r s xs ys
assertion_one {xs} {ys} x c y d = let e = flat_one (flat x (stop c)) (flat y (stop d)) in (e.0, sym (append-nil xs) ∙ e.1 ∙ append-nil ys)

-- ---- attributes of tasks, by their words

abbrev attribute_words : List ℕ
attribute_words = “precondition” ∷ “wait-condition” ∷ “postcondition” ∷ “trigger” ∷ “component” ∷ “terminate” ∷ “source” ∷ []

-- behind an attribute stands none of a component or a source
abbrev attribute_follows : ℕ → Bool
attribute_follows k = not (is_in k (component_words ++ source_words))

data ByWord : ℕ → List Token → List Token → Placed Attribute → Type 0 where
  of_precondition : {w r : List Token} {x : Placed Outermost} → Says “precondition” w r x
      → ByWord “precondition” w r (record { word = x.word; what = precondition x.what })
  of_wait_condition : {w r : List Token} {x : Placed Outermost} → Says “wait-condition” w r x
      → ByWord “wait-condition” w r (record { word = x.word; what = wait_condition x.what })
  of_postcondition : {t c s : Token} {w r : List Token} {xs : List Assignment} → Assertion w (s ∷ r) xs → Terminal s “semicolon”
      → ByWord “postcondition” (t ∷ c ∷ w) r (record { word = t.place; what = postcondition xs })
  of_trigger : {w r : List Token} {n : Placed Name} → SaysName “trigger” w r n
      → ByWord “trigger” w r (record { word = n.word; what = trigger n.what })
  of_component : {w m r : List Token} {n : Placed Name} {xs : List (Placed ComponentAttribute)}
      → SaysName “component” w m n → Series ComponentAttributeAt m r xs
      → ByWord “component” w r (record { word = n.word; what = component n.what xs })
  of_terminate : {w r : List Token} {x : Placed Outermost} → Says “terminate” w r x
      → ByWord “terminate” w r (record { word = x.word; what = terminate x.what })
  of_source : {w m r : List Token} {n : Placed Name} {xs : List (Placed SourceAttribute)}
      → SaysName “source” w m n → Series SourceAttributeAt m r xs
      → ByWord “source” w r (record { word = n.word; what = source n.what xs })

says_head : {word : ℕ} {w r : List Token} {x : Placed Outermost} → Says word w r x → head w ≡ word
says_head (says t c x s) = terminal_is t

says_name_head : {word : ℕ} {w r : List Token} {x : Placed Name} → SaysName word w r x → head w ≡ word
says_name_head (says_name t c h s) = terminal_is t

record Worded (w r : List Token) (x : Placed Attribute) : Type 0 where
  pub word : ℕ
  pub is : head w ≡ word
  pub among : is_in word attribute_words ≡ true
  pub by : ByWord word w r x

by-word : {k : Class} {w r : List Token} {x : Placed Attribute} → AttributeAt k w r x → Worded w r x
by-word (a_precondition h) = record { word = “precondition”; is = says_head h; among = refl; by = of_precondition h }
by-word (a_wait_condition h) = record { word = “wait-condition”; is = says_head h; among = refl; by = of_wait_condition h }
by-word (a_postcondition t c x s) = record { word = “postcondition”; is = terminal_is t; among = refl; by = of_postcondition x s }
by-word (a_trigger h) = record { word = “trigger”; is = says_name_head h; among = refl; by = of_trigger h }
by-word (a_component h xs) = record { word = “component”; is = says_name_head h; among = refl; by = of_component h xs }
by-word (a_terminate_condition h) = record { word = “terminate”; is = says_head h; among = refl; by = of_terminate h }
by-word (a_source h xs) = record { word = “source”; is = says_name_head h; among = refl; by = of_source h xs }

follows_none : (ks : List ℕ) (k : ℕ) → every (λ j. is_in j (component_words ++ source_words)) ks ≡ true → attribute_follows k ≡ true → is_in k ks ≡ false
follows_none ks k h e = ⊎_elim
    (λ (i : is_in k ks ≡ true). contra (sym (ap not (in_every (λ j. is_in j (component_words ++ source_words)) ks k h i)) ∙ e))
    (λ (i : is_in k ks ≡ false). i)
    (two (is_in k ks))

by_word_one : {word : ℕ} {w r s : List Token} {x y : Placed Attribute}
    → ByWord word w r x → attribute_follows (head r) ≡ true → ByWord word w s y → attribute_follows (head s) ≡ true → One r s x y
by_word_one (of_precondition h) e (of_precondition k) f = let g = says_one h k in (g.0, cc)
by_word_one (of_wait_condition h) e (of_wait_condition k) f = let g = says_one h k in (g.0, cc)
by_word_one (of_postcondition x c) e (of_postcondition y d) f = let g = assertion_one x (by_semicolon c) y (by_semicolon d) in (cc, cc)
by_word_one (of_trigger h) e (of_trigger k) f = let g = says_name_one h k in (g.0, cc)
by_word_one {r} {s} (of_component (says_name t c h p) xs) e (of_component (says_name t' c' h' p') ys) f =
    let g = series_one ComponentAttributeAt component_words anything component_begins (λ w r s x y h e k f. component_one h k) refl
    xs (record { begins_none = follows_none component_words (head r) refl e; may_follow = refl })
    ys (record { begins_none = follows_none component_words (head s) refl f; may_follow = refl }) in
    (g.0, cc)
by_word_one (of_terminate h) e (of_terminate k) f = let g = says_one h k in (g.0, cc)
by_word_one {r} {s} (of_source (says_name t c h p) xs) e (of_source (says_name t' c' h' p') ys) f =
    let g = series_one SourceAttributeAt source_words anything source_begins (λ w r s x y h e k f. source_one h k) refl
    xs (record { begins_none = follows_none source_words (head r) refl e; may_follow = refl })
    ys (record { begins_none = follows_none source_words (head s) refl f; may_follow = refl }) in
    (g.0, cc)

attribute_one : (k : Class) (w r s : List Token) (x y : Placed Attribute)
    → AttributeAt k w r x → attribute_follows (head r) ≡ true → AttributeAt k w s y → attribute_follows (head s) ≡ true → One r s x y
attribute_one k w r s x y a e b f =
    let p = by-word a in
    let q = by-word b in
    by_word_one p.by e (subst (λ (j : ℕ). ByWord j w s y) (sym q.is ∙ p.is) q.by) f

attribute_begins : (k : Class) (w r : List Token) (x : Placed Attribute) → AttributeAt k w r x → Heads attribute_words w
attribute_begins k w r x h = let p = by-word h in subst (λ (j : ℕ). is_in j attribute_words ≡ true) (sym p.is) p.among

-- ---- tasks and data items

-- behind captions and descriptions, where other attributes follow and then an end
behind_generics : {w r : List Token} {xs : List (Placed Attribute)} {e : Token} (k : Class) → Series (AttributeAt k) w (e ∷ r) xs → Terminal e “end” → Stops generic_words anything w
behind_generics k none h = stops generic_words anything _ h refl refl
behind_generics k (and_more {w} {m} {a} x xs) h =
    record { begins_none = not-true (is_in (head w) generic_words) (in_every (λ j. not (is_in j generic_words)) attribute_words (head w) refl (attribute_begins k w m a x)); may_follow = refl }

data ByClass : Class → List Token → List Token → Task → Type 0 where
  of_class : {k : Class} {e f d : Token} {w m o r : List Token} {n : Placed Name} {gs : List (Placed Generic)} {xs : List (Placed Attribute)}
      → SaysName (class_word k) w m n → Series GenericAt m o gs → Series (AttributeAt k) o (e ∷ f ∷ d ∷ r) xs → Terminal e “end”
      → ByClass k w r (record { class = k; named = n.what; attributes = map (λ (g : Placed Generic). record { word = g.word; what = generic g.what }) gs ++ xs })

by_class_one : {k : Class} {w r s : List Token} {x y : Task} → ByClass k w r x → ByClass k w s y → One r s x y
by_class_one {k} {r} {s} (of_class {f} {d} (says_name t c h p) gs xs e) (of_class {e = e₂} {f = f₂} {d = d₂} {xs = ys} (says_name t' c' h' p') gs' xs' e') =
    let g = generics_one gs (behind_generics k xs e) gs' (behind_generics k xs' e') in
    let a = series_one (AttributeAt k) attribute_words attribute_follows (attribute_begins k) (attribute_one k) refl
    xs (stops attribute_words attribute_follows (f ∷ d ∷ r) e refl refl)
    (subst (λ (o : List Token). Series (AttributeAt k) o (e₂ ∷ f₂ ∷ d₂ ∷ s) ys) (sym g.0) xs')
    (stops attribute_words attribute_follows (f₂ ∷ d₂ ∷ s) e' refl refl) in
    (cc, cc)

abbrev class_f : ℕ → Class
class_f k = cond (eqb k “plan”) plan (cond (eqb k “action”) action enquiry)

class_is : (k : Class) → class_f (class_word k) ≡ k
class_is plan = refl
class_is action = refl
class_is enquiry = refl

record Classed (w r : List Token) (x : Task) : Type 0 where
  pub class : Class
  pub is : head w ≡ class_word class
  pub by : ByClass class w r x

by_class : {w r : List Token} {x : Task} → TaskAt w r x → Classed w r x
by_class (a_task {k} h gs xs e f d) = record { class = k; is = says_name_head h; by = of_class h gs xs e }

task_one : {w r s : List Token} {x y : Task} → TaskAt w r x → TaskAt w s y → One r s x y
task_one {w} {s} {y} h g =
    let p = by_class h in
    let q = by_class g in
    let e : q.class ≡ p.class = sym (class_is q.class) ∙ ap class_f (sym q.is ∙ p.is) ∙ class_is p.class in
    by_class_one p.by (subst (λ (k : Class). ByClass k w s y) e q.by)

abbrev declared_in : List ℕ → List Declared → Declared
declared_in w [] = a_text
declared_in w (d ∷ ds) = cond (same w (bytes (written d))) d (declared_in w ds)

abbrev declared_f : List ℕ → Declared
declared_f w = declared_in w (an_integer ∷ a_boolean ∷ a_datetime ∷ a_date ∷ a_time ∷ a_real ∷ a_setof_text ∷ a_setof_integer ∷ a_setof_real ∷ [])

declared_is : (d : Declared) → declared_f (bytes (written d)) ≡ d
declared_is a_text = refl
declared_is an_integer = refl
declared_is a_boolean = refl
declared_is a_datetime = refl
declared_is a_date = refl
declared_is a_time = refl
declared_is a_real = refl
declared_is a_setof_text = refl
declared_is a_setof_integer = refl
declared_is a_setof_real = refl

data_type_one : {t : Token} {k j : Declared} → DataType t k → DataType t j → k ≡ j
data_type_one {k} {j} (data_type h e) (data_type g f) = sym (declared_is k) ∙ ap declared_f (sym e ∙ f) ∙ declared_is j

data_item_one : {w r s : List Token} {x y : DataItem} → DataItemAt w r x → DataItemAt w s y → One r s x y
data_item_one {r} {s} (a_data_item {f} {d} (says_name t c h p) t₁ c₁ y s₁ gs e f₁ d₁) (a_data_item {f = f₂} {d = d₂} (says_name t' c' h' p') t₂ c₂ y' s₂ gs' e' f₃ d₃) =
    let k = data_type_one y y' in
    let g = generics_one gs (stops generic_words anything (f ∷ d ∷ r) e refl refl) gs' (stops generic_words anything (f₂ ∷ d₂ ∷ s) e' refl refl) in
    (cc, cc)

-- ---- the guideline

abbrev task_words : List ℕ
task_words = “plan” ∷ “action” ∷ “enquiry” ∷ []

class_among : (k : Class) → is_in (class_word k) task_words ≡ true
class_among plan = refl
class_among action = refl
class_among enquiry = refl

task_begins : {w r : List Token} {x : Task} → TaskAt w r x → Heads task_words w
task_begins h = let p = by_class h in subst (λ (j : ℕ). is_in j task_words ≡ true) (sym p.is) (class_among p.class)

data_item_begins : {w r : List Token} {x : DataItem} → DataItemAt w r x → head w ≡ “data”
data_item_begins (a_data_item h t c y s gs e f d) = says_name_head h

task_or_data : {A : Type 0} {w r s : List Token} {x : Task} {y : DataItem} → TaskAt w r x → DataItemAt w s y → A
task_or_data h g = contra (subst (λ (j : ℕ). is_in j task_words ≡ true) (data_item_begins g) (task_begins h))

abbrev top_words : List ℕ
top_words = “data” ∷ task_words

top_begins : (w r : List Token) (x : TopLevel) → TopLevelAt w r x → Heads top_words w
top_begins w r x (a_top_task h) = in_every (λ k. is_in k top_words) task_words (head w) refl (task_begins h)
top_begins w r x (a_top_data_item h) = subst (λ (j : ℕ). is_in j top_words ≡ true) (sym (data_item_begins h)) refl

top_one : {w r s : List Token} {x y : TopLevel} → TopLevelAt w r x → TopLevelAt w s y → One r s x y
top_one (a_top_task h) (a_top_task g) = let e = task_one h g in (e.0, cc)
top_one (a_top_task h) (a_top_data_item g) = task_or_data h g
top_one (a_top_data_item h) (a_top_task g) = task_or_data g h
top_one (a_top_data_item h) (a_top_data_item g) = let e = data_item_one h g in (e.0, cc)

pub one_structure : {ts : List Token} {g h : List TopLevel} → Structure ts g → Structure ts h → g ≡ h
one_structure (guideline x c xs) (guideline {tops = ys'} y d ys) =
    let e = task_one x y in
    let f = series_one TopLevelAt top_words anything top_begins (λ w r s x y h e k f. top_one h k) refl
    xs (record { begins_none = refl; may_follow = refl })
    (subst (λ (m : List Token). Series TopLevelAt m [] ys') (sym e.0) ys) (record { begins_none = refl; may_follow = refl }) in
    cc
