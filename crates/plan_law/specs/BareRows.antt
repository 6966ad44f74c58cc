-- The rows of a guideline without its places and parentheses are the rows of the guideline without theirs. By induction on the guideline.
use Rattle.std.specs.Prelude.{ℕ, ◌≡◌, refl, List, [], ◌∷◌, ◌++◌, map}
use Rattle.std.proofs.Common.{arith, sym, ap, ◌∙◌}
use Rattle.std.proofs.Math.Option.{none, some}
use Rattle.paper_expressions.specs.Expressions.{Expr, Exprs, Atom, IntegerLit, FloatLit, StringLit, Paren, Listing, Apply, ε, ◌▸◌}
use Rattle.paper_expressions.proofs.Laws.Parentheses.{bare, bares}
use Rattle.paper_tokens.specs.Tokens.{“component”, “source”}
use Rattle.paper_guideline.specs.Structure
use Structure.{Name, Outermost, Placed, Assignment, ComponentAttribute, Generic, SourceAttribute, Attribute, TopLevel, task, data_item}
use Rattle.paper_rows.specs.Bare.{bare_name, bare_expression, bare_placed, bare_assignment, bare_component, bare_generic, bare_source, bare_attribute, bare_guideline}
use Rattle.guideline_rows.specs.Rows
use Rows.{Row, a_task, a_data_item, with_expression, with_name, with_answer, a_postcondition, an_assignment, generic_row, component_row, source_row, placed_rows, attribute_rows, attributes_rows, flatten, kind-of, name_of, expression_of, flag_of}

abbrev pub bare_row : Row → Row
bare_row (a_task k n) = a_task k (bare_name n)
bare_row (a_data_item n d) = a_data_item (bare_name n) d
bare_row (with_expression k p x) = with_expression k 0 (bare_expression x)
bare_row (with_name k p n) = with_name k 0 (bare_name n)
bare_row (with_answer k p b) = with_answer k 0 b
bare_row (a_postcondition p) = a_postcondition 0
bare_row (an_assignment a) = an_assignment (bare_assignment a)

-- ---- of the rows of each thing

map_both : {A B : Type 0} (f : A → B) (l m : List A) → map f (l ++ m) ≡ map f l ++ map f m
map_both f [] m = refl
map_both f (x ∷ l) m = ap (λ r. f x ∷ r) (map_both f l m)

placed_bare : {A : Type 0} (f : ℕ → A → Row) (h : A → A) → ((p : ℕ) (a : A) → f 0 (h a) ≡ bare_row (f p a)) → (xs : List (Placed A)) → placed_rows f (map (bare_placed h) xs) ≡ map bare_row (placed_rows f xs)
placed_bare f h e [] = refl
placed_bare f h e (x ∷ xs) = let p = e x.word x.what in let q = placed_bare f h e xs in cc

generic_bare : (p : ℕ) (x : Generic) → generic_row 0 (bare_generic x) ≡ bare_row (generic_row p x)
generic_bare p (Structure.caption x) = refl
generic_bare p (Structure.description x) = refl

component_bare : (p : ℕ) (x : ComponentAttribute) → component_row 0 (bare_component x) ≡ bare_row (component_row p x)
component_bare p (Structure.schedule_constraint n) = refl
component_bare p (Structure.terminal b) = refl

source_bare : (p : ℕ) (x : SourceAttribute) → source_row 0 (bare_source x) ≡ bare_row (source_row p x)
source_bare p (Structure.source_generic x) = generic_bare p x
source_bare p (Structure.mandatory b) = refl

assigned_bare : (xs : List Assignment) → map an_assignment (map bare_assignment xs) ≡ map bare_row (map an_assignment xs)
assigned_bare [] = refl
assigned_bare (x ∷ xs) = ap (λ (l : List Row). an_assignment (bare_assignment x) ∷ l) (assigned_bare xs)

attribute_bare : (p : ℕ) (a : Attribute) → attribute_rows 0 (bare_attribute a) ≡ map bare_row (attribute_rows p a)
attribute_bare p (Structure.generic x) = ap (λ (r : Row). r ∷ []) (generic_bare p x)
attribute_bare p (Structure.precondition x) = refl
attribute_bare p (Structure.wait_condition x) = refl
attribute_bare p (Structure.terminate x) = refl
attribute_bare p (Structure.postcondition xs) = ap (λ (l : List Row). a_postcondition 0 ∷ l) (assigned_bare xs)
attribute_bare p (Structure.trigger n) = refl
attribute_bare p (Structure.component n xs) = ap (λ (l : List Row). with_name “component” 0 (bare_name n) ∷ l) (placed_bare component_row bare_component component_bare xs)
attribute_bare p (Structure.source n xs) = ap (λ (l : List Row). with_name “source” 0 (bare_name n) ∷ l) (placed_bare source_row bare_source source_bare xs)

attributes_bare : (xs : List (Placed Attribute)) → attributes_rows (map (bare_placed bare_attribute) xs) ≡ map bare_row (attributes_rows xs)
attributes_bare [] = refl
attributes_bare (x ∷ xs) =
    (let p = attribute_bare x.word x.what in let q = attributes_bare xs in
    let z : attribute_rows 0 (bare_attribute x.what) ++ attributes_rows (map (bare_placed bare_attribute) xs) ≡ map bare_row (attribute_rows x.word x.what) ++ map bare_row (attributes_rows xs) = cc in z)
    ∙ sym (map_both bare_row (attribute_rows x.word x.what) (attributes_rows xs))

-- ---- of the guideline

pub flatten_bare : (g : List TopLevel) → flatten (bare_guideline g) ≡ map bare_row (flatten g)
flatten_bare [] = refl
flatten_bare (task t ∷ g) =
    ap (λ (l : List Row). a_task t.class (bare_name t.named) ∷ l)
    ((let p = attributes_bare t.attributes in let q = flatten_bare g in
    let z : attributes_rows (map (bare_placed bare_attribute) t.attributes) ++ flatten (bare_guideline g) ≡ map bare_row (attributes_rows t.attributes) ++ map bare_row (flatten g) = cc in z)
    ∙ sym (map_both bare_row (attributes_rows t.attributes) (flatten g)))
flatten_bare (data_item d ∷ g) =
    ap (λ (l : List Row). a_data_item (bare_name d.named) d.declared ∷ l)
    ((let p = placed_bare generic_row bare_generic generic_bare d.attributes in let q = flatten_bare g in
    let z : placed_rows generic_row (map (bare_placed bare_generic) d.attributes) ++ flatten (bare_guideline g) ≡ map bare_row (placed_rows generic_row d.attributes) ++ map bare_row (flatten g) = cc in z)
    ∙ sym (map_both bare_row (placed_rows generic_row d.attributes) (flatten g)))

-- ---- what is read of a row stays

pub kind_bare : (r : Row) → kind-of (bare_row r) ≡ kind-of r
kind_bare (a_task k n) = refl
kind_bare (a_data_item n d) = refl
kind_bare (with_expression k p x) = refl
kind_bare (with_name k p n) = refl
kind_bare (with_answer k p b) = refl
kind_bare (a_postcondition p) = refl
kind_bare (an_assignment a) = refl

pub flag_bare : (r : Row) → flag_of (bare_row r) ≡ flag_of r
flag_bare (a_task k n) = refl
flag_bare (a_data_item n d) = refl
flag_bare (with_expression k p x) = refl
flag_bare (with_name k p n) = refl
flag_bare (with_answer k p b) = refl
flag_bare (a_postcondition p) = refl
flag_bare (an_assignment a) = refl

same_name : (a : Name) {b : Name} → some (bare_name a) ≡ some b → a.spelt ≡ b.spelt
same_name a {b} e = let z : bare_name a ≡ b = cc in ap (λ (n : Name). n.spelt) z

no_some : {A B : Type 0} {x : A} → none ≡ some x → B
no_some e = absurd (let z : ◌≡◌ {A = ℕ} 0 1 = cc in omega arith)

pub name_bare : (r : Row) {n : Name} → name_of (bare_row r) ≡ some n → (m : Name) × (name_of r ≡ some m) × (m.spelt ≡ n.spelt)
name_bare (a_task k m) e = (m, refl, same_name m e)
name_bare (a_data_item m d) e = (m, refl, same_name m e)
name_bare (with_expression k p x) e = no_some e
name_bare (with_name k p m) e = (m, refl, same_name m e)
name_bare (with_answer k p b) e = no_some e
name_bare (a_postcondition p) e = no_some e
name_bare (an_assignment a) e = (a.target, refl, same_name a.target e)

-- without its parentheses twice is once
mutual
  pub bare_bare : (e : Expr) → bare (bare e) ≡ bare e
  bare_bare (Atom a) = refl
  bare_bare (IntegerLit n) = refl
  bare_bare (FloatLit n) = refl
  bare_bare (StringLit s) = refl
  bare_bare (Paren e) = bare_bare e
  bare_bare (Listing es) = ap Listing (bares_bares es)
  bare_bare (Apply o es) = ap (Apply o) (bares_bares es)

  bares_bares : (es : Exprs) → bares (bares es) ≡ bares es
  bares_bares ε = refl
  bares_bares (e ▸ es) = let p = bare_bare e in let q = bares_bares es in cc

same_tree : (x : Outermost) {y : Outermost} → some (bare_expression x) ≡ some y → bare x.tree ≡ bare y.tree
same_tree x {y} e = let z : bare_expression x ≡ y = cc in sym (bare_bare x.tree) ∙ ap (λ (u : Outermost). bare u.tree) z

pub expression_bare : (r : Row) {y : Outermost} → expression_of (bare_row r) ≡ some y → (x : Outermost) × (expression_of r ≡ some x) × (bare x.tree ≡ bare y.tree)
expression_bare (a_task k n) e = no_some e
expression_bare (a_data_item n d) e = no_some e
expression_bare (with_expression k p x) e = (x, refl, same_tree x e)
expression_bare (with_name k p n) e = no_some e
expression_bare (with_answer k p b) e = no_some e
expression_bare (a_postcondition p) e = no_some e
expression_bare (an_assignment a) e = (a.value, refl, same_tree a.value e)
