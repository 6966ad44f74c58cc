-- Laws: the rows of a guideline ask for the types of exactly its expressions, and declare exactly its data items; whether an expression fits does not depend on its task. By recursion over the structure.
use Rattle.std.specs.Prelude.{ℕ, suc, ◌≡◌, refl, Bool, true, false, ◌||◌, List, [], ◌∷◌, ◌++◌, map, eqb}
use Rattle.std.proofs.Common.{sym, ap, subst, ◌∙◌, arith, eq-eqb, ne_eqb}
use Rattle.std.proofs.Math.Option.{none, some}
use Rattle.paper_expressions.specs.Types.{Ty}
use Rattle.paper_expressions.specs.View.{View, Item, At, at_first, at_later, resolve_data_2}
use Rattle.paper_expressions.specs.Expressions.{Expr, Exprs, HasType, rule_1b, rule_1c, rule_2, rule_3, rule_4, rule_5, rule_8_9, rule_10, HaveTypes, types_none, types_more}
use Rattle.paper_expressions.proofs.Laws.Tests.{contra}
use Rattle.paper_tokens.specs.Tokens.{“data”, “=”, “caption”, “description”}
use Rattle.paper_guideline.specs.Structure
use Structure.{Name, Outermost, Placed, Assignment, ComponentAttribute, schedule_constraint, terminal, Generic, caption, description, SourceAttribute, source_generic, mandatory}
use Structure.{Attribute, generic, precondition, wait_condition, terminate, postcondition, trigger, component, source, Class, plan, action, enquiry, DataItem, TopLevel, task, data_item, data_items}
use Rattle.paper_guideline.specs.Parts.{Role, condition, wording, assigned_to, Typed, expressions}
use Rattle.paper_guideline.specs.Refusals.{declared_items, Fitting, fits_condition, fits_wording, fits_assigned}
use Rattle.guideline_rows.specs.Rows
use Rows.{Row, a_task, a_data_item, with_expression, with_name, with_answer, a_postcondition, an_assignment, kind-of, name_of, flag_of, generic_row, component_row, source_row, placed_rows, attribute_rows, attributes_rows, flatten}
use Rattle.parts.specs.Codes.{declared_code}
use Rattle.row_names.specs.Selected.{select, select_append}
use Rattle.row_names.specs.Sheet.{head_kind}
use Rattle.row_names.specs.Flat
use Flat.{top_rows, body_inside}
use Rattle.row_names.specs.Agreement.{top_of}
use Rattle.row_tests.specs.Table.{cell_of}
use Rattle.typer.specs.declared.fitting.Role.TheVariants.{Condition, Wording, Assigned}
use Rattle.types.specs.Roles.{wording_kind, rooted, asks, item_of, role_of}

-- ---- as the definitions of a guideline's parts have them

abbrev each : {A B : Type 0} → (A → List B) → List A → List B
each f [] = []
each f (a ∷ l) = f a ++ each f l

abbrev typed : ℕ → Role → Outermost → List Typed
typed t r x = record { expression = x; role = r; attached = t } ∷ []

abbrev of_generic : ℕ → Generic → List Typed
of_generic t (caption x) = typed t wording x
of_generic t (description x) = typed t wording x

abbrev of_source : ℕ → SourceAttribute → List Typed
of_source t (source_generic g) = of_generic t g
of_source t (mandatory b) = []

abbrev of_attribute : ℕ → Attribute → List Typed
of_attribute t (generic g) = of_generic t g
of_attribute t (precondition x) = typed t condition x
of_attribute t (wait_condition x) = typed t condition x
of_attribute t (terminate x) = typed t condition x
of_attribute t (postcondition xs) = each (λ (a : Assignment). typed t (assigned_to a.target) a.value) xs
of_attribute t (trigger n) = []
of_attribute t (component n xs) = []
of_attribute t (source n xs) = each (λ (a : Placed SourceAttribute). of_source t a.what) xs

abbrev expressions_from : ℕ → List TopLevel → List Typed
expressions_from t [] = []
expressions_from t (task k ∷ g) = each (λ (a : Placed Attribute). of_attribute t a.what) k.attributes ++ expressions_from (suc t) g
expressions_from t (data_item d ∷ g) = each (λ (a : Placed Generic). of_generic 0 a.what) d.attributes ++ expressions_from t g

-- ---- the expressions

map_append : (a b : List Typed) → map rooted (a ++ b) ≡ map rooted a ++ map rooted b
map_append [] b = refl
map_append (x ∷ a) b = ap (λ (l : List Typed). rooted x ∷ l) (map_append a b)

joined : (u v : List Row) (a b : List Typed) → select asks u ≡ map rooted a → select asks v ≡ map rooted b → select asks (u ++ v) ≡ map rooted (a ++ b)
joined u v a b e f = select_append asks u v ∙ ap (λ (l : List Typed). l ++ select asks v) e ∙ ap (λ (l : List Typed). map rooted a ++ l) f ∙ sym (map_append a b)

generic_asks : (t p : ℕ) (g : Generic) (rest : List Row) (l : List Typed) → select asks rest ≡ map rooted l → select asks (generic_row p g ∷ rest) ≡ map rooted (of_generic t g ++ l)
generic_asks t p (caption x) rest l e = ap (λ (z : List Typed). record { expression = x; role = wording; attached = 0 } ∷ z) e
generic_asks t p (description x) rest l e = ap (λ (z : List Typed). record { expression = x; role = wording; attached = 0 } ∷ z) e

generics_ask : (t : ℕ) (xs : List (Placed Generic)) → select asks (placed_rows generic_row xs) ≡ map rooted (each (λ (a : Placed Generic). of_generic t a.what) xs)
generics_ask t [] = refl
generics_ask t (x ∷ xs) = generic_asks t x.word x.what (placed_rows generic_row xs) (each (λ (a : Placed Generic). of_generic t a.what) xs) (generics_ask t xs)

source_asks : (t p : ℕ) (a : SourceAttribute) (rest : List Row) (l : List Typed) → select asks rest ≡ map rooted l → select asks (source_row p a ∷ rest) ≡ map rooted (of_source t a ++ l)
source_asks t p (source_generic g) rest l e = generic_asks t p g rest l e
source_asks t p (mandatory b) rest l e = e

sources_ask : (t : ℕ) (xs : List (Placed SourceAttribute)) → select asks (placed_rows source_row xs) ≡ map rooted (each (λ (a : Placed SourceAttribute). of_source t a.what) xs)
sources_ask t [] = refl
sources_ask t (x ∷ xs) = source_asks t x.word x.what (placed_rows source_row xs) (each (λ (a : Placed SourceAttribute). of_source t a.what) xs) (sources_ask t xs)

assigned_ask : (t : ℕ) (xs : List Assignment) → select asks (map an_assignment xs) ≡ map rooted (each (λ (a : Assignment). typed t (assigned_to a.target) a.value) xs)
assigned_ask t [] = refl
assigned_ask t (x ∷ xs) = ap (λ (z : List Typed). record { expression = x.value; role = assigned_to x.target; attached = 0 } ∷ z) (assigned_ask t xs)

component_asks : (p : ℕ) (a : ComponentAttribute) → asks (component_row p a) ≡ none
component_asks p (schedule_constraint n) = refl
component_asks p (terminal b) = refl

components_ask : (xs : List (Placed ComponentAttribute)) → select asks (placed_rows component_row xs) ≡ []
components_ask [] = refl
components_ask (x ∷ xs) = rw (component_asks x.word x.what) (components_ask xs)

attribute_asks : (t p : ℕ) (a : Attribute) → select asks (attribute_rows p a) ≡ map rooted (of_attribute t a)
attribute_asks t p (generic (caption x)) = refl
attribute_asks t p (generic (description x)) = refl
attribute_asks t p (precondition x) = refl
attribute_asks t p (wait_condition x) = refl
attribute_asks t p (terminate x) = refl
attribute_asks t p (postcondition xs) = assigned_ask t xs
attribute_asks t p (trigger n) = refl
attribute_asks t p (component n xs) = components_ask xs
attribute_asks t p (source n xs) = sources_ask t xs

attributes_ask : (t : ℕ) (xs : List (Placed Attribute)) → select asks (attributes_rows xs) ≡ map rooted (each (λ (a : Placed Attribute). of_attribute t a.what) xs)
attributes_ask t [] = refl
attributes_ask t (x ∷ xs) = joined (attribute_rows x.word x.what) (attributes_rows xs) (of_attribute t x.what) (each (λ (a : Placed Attribute). of_attribute t a.what) xs) (attribute_asks t x.word x.what) (attributes_ask t xs)

rows_ask : (t : ℕ) (g : List TopLevel) → select asks (flatten g) ≡ map rooted (expressions_from t g)
rows_ask t [] = refl
rows_ask t (task k ∷ g) = joined (attributes_rows k.attributes) (flatten g) (each (λ (a : Placed Attribute). of_attribute t a.what) k.attributes) (expressions_from (suc t) g) (attributes_ask t k.attributes) (rows_ask (suc t) g)
rows_ask t (data_item d ∷ g) = joined (placed_rows generic_row d.attributes) (flatten g) (each (λ (a : Placed Generic). of_generic 0 a.what) d.attributes) (expressions_from t g) (generics_ask 0 d.attributes) (rows_ask t g)

pub asked_all : (g : List TopLevel) → select asks (flatten g) ≡ map rooted (expressions g)
asked_all g = rows_ask 0 g

-- ---- the data items

item_plain : (r : Row) → head_kind (kind-of r) ≡ false → item_of r ≡ none
item_plain (a_task k n) e = refl
item_plain (a_data_item n d) e = contra (sym e)
item_plain (with_expression k p x) e = refl
item_plain (with_name k p n) e = refl
item_plain (with_answer k p b) e = refl
item_plain (a_postcondition p) e = refl
item_plain (an_assignment a) e = refl

none_of : (l : List Row) → ((i : ℕ) (r : Row) → At l i r → item_of r ≡ none) → select item_of l ≡ []
none_of [] f = refl
none_of (r ∷ l) f = rw (f 0 r at_first) (none_of l (λ i q h. f (suc i) q (at_later h)))

behind : (l rest : List Row) → select item_of l ≡ [] → select item_of (l ++ rest) ≡ select item_of rest
behind l rest e = select_append item_of l rest ∙ ap (λ (z : List Item). z ++ select item_of rest) e

abbrev as_item : DataItem → Item
as_item d = record { name = d.named.spelt; declared = d.declared; value = none }

declared_all : (g : List TopLevel) → select item_of (flatten g) ≡ map as_item (data_items g)
declared_all [] = refl
declared_all (task t ∷ g) = behind (attributes_rows t.attributes) (flatten g) (none_of (attributes_rows t.attributes) (λ i r h. item_plain r (body_inside (task t) h).plain)) ∙ declared_all g
declared_all (data_item d ∷ g) = ap (λ (z : List Item). as_item d ∷ z) (behind (placed_rows generic_row d.attributes) (flatten g) (none_of (placed_rows generic_row d.attributes) (λ i r h. item_plain r (body_inside (data_item d) h).plain)) ∙ declared_all g)

pub declared_rows : (g : List TopLevel) → select item_of (flatten g) ≡ (declared_items g).items
declared_rows g = declared_all g

-- a row of the kind declares an item, and only such a row does
nothing : {A B : Type 0} {x : A} → none ≡ some x → B
nothing e = absurd (let z : ◌≡◌ {A = ℕ} 0 1 = cc in omega arith)

head_item : (x : TopLevel) {m : ℕ} {r : Row} → At (top_rows x) m r → kind-of r ≡ “data” → (y : Item) × (item_of r ≡ some y)
head_item (task t) at_first e = absurd (not_data t.class e)
  where
    not_data : (k : Class) → Structure.class_word k ≡ “data” → ⊥
    not_data plan e = omega arith
    not_data action e = omega arith
    not_data enquiry e = omega arith
head_item (data_item d) at_first e = (as_item d, refl)
head_item x (at_later h) e = contra (sym (body_inside x h).plain ∙ ap head_kind e)

pub data_row : (g : List TopLevel) {j : ℕ} {r : Row} → At (flatten g) j r → kind-of r ≡ “data” → (y : Item) × (item_of r ≡ some y)
data_row g h e = let p = top_of g h in head_item p.element p.at e

pub record Declares (r : Row) (y : Item) : Type 0 where
  pub kind : kind-of r ≡ “data”
  pub named : Name
  pub name : name_of r ≡ some named
  pub spelt : named.spelt ≡ y.name
  pub flag : flag_of r ≡ declared_code y.declared

pub declares : (r : Row) {y : Item} → item_of r ≡ some y → Declares r y
declares (a_task k n) e = nothing e
declares (a_data_item n d) {y} e =
    let z : record { name = n.spelt; declared = d; value = none } ≡ y = cc in
    subst (Declares (a_data_item n d)) z (record { kind = refl; named = n; name = refl; spelt = refl; flag = refl })
declares (with_expression k p x) e = nothing e
declares (with_name k p n) e = nothing e
declares (with_answer k p b) e = nothing e
declares (a_postcondition p) e = nothing e
declares (an_assignment a) e = nothing e

-- ---- the task doesn't matter

module _ {v : View} {T U : ℕ} where
  mutual
    retask : {e : Expr} {t : Ty} → HasType v T e t → HasType v U e t
    retask (rule_1b h k e) = rule_1b h k e
    retask (rule_1c m) = rule_1c m
    retask rule_2 = rule_2
    retask rule_3 = rule_3
    retask rule_4 = rule_4
    retask (rule_5 h) = rule_5 (retask h)
    retask (rule_8_9 hs h) = rule_8_9 (retasks hs) h
    retask (rule_10 hs h) = rule_10 (retasks hs) h

    retasks : {es : Exprs} {ts : List Ty} → HaveTypes v T es ts → HaveTypes v U es ts
    retasks types_none = types_none
    retasks (types_more h hs) = types_more (retask h) (retasks hs)

module _ {v : View} where
  pub from_root : (x : Typed) {r : Role} → Fitting v (rooted x) r → Fitting v x r
  from_root x (fits_condition h) = fits_condition (retask h)
  from_root x (fits_wording h) = fits_wording (retask h)
  from_root x (fits_assigned (resolve_data_2 h a) k g near) = fits_assigned (resolve_data_2 h a) k (retask g) near

  pub to_root : (x : Typed) {r : Role} → Fitting v x r → Fitting v (rooted x) r
  to_root x (fits_condition h) = fits_condition (retask h)
  to_root x (fits_wording h) = fits_wording (retask h)
  to_root x (fits_assigned (resolve_data_2 h a) k g near) = fits_assigned (resolve_data_2 h a) k (retask g) near

-- ---- the role by the cells, case by case

or_none : (b : Bool) → b || false ≡ b
or_none true = refl
or_none false = refl

pub is_caption : (k : ℕ) → k ≡ “caption” → true ≡ wording_kind k
is_caption k e = rw (eq-eqb k “caption” e)

pub or_description : (k : ℕ) → ¬ (k ≡ “caption”) → eqb k “description” ≡ wording_kind k
or_description k n = rw (ne_eqb k “caption” n) (sym (or_none (eqb k “description”)))

module _ (x : List ℕ) (j : ℕ) {k : ℕ} (ek : k ≡ cell_of x j 0) where
  pub role_assigned : {h : ℕ} → k ≡ “=” → h ≡ cell_of x j 2 → Assigned h ≡ role_of x j
  role_assigned e eh = rw (eq-eqb (cell_of x j 0) “=” (sym ek ∙ e)) (ap Assigned eh)

  pub role_wording : {w : Bool} → ¬ (k ≡ “=”) → w ≡ wording_kind k → w ≡ true → Wording ≡ role_of x j
  role_wording n ew e = rw (ne_eqb (cell_of x j 0) “=” (λ q. n (ek ∙ q)), sym (ap wording_kind ek) ∙ sym ew ∙ e)

  pub role_condition : {w : Bool} → ¬ (k ≡ “=”) → w ≡ wording_kind k → w ≡ false → Condition ≡ role_of x j
  role_condition n ew e = rw (ne_eqb (cell_of x j 0) “=” (λ q. n (ek ∙ q)), sym (ap wording_kind ek) ∙ sym ew ∙ e)
