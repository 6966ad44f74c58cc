-- Laws on flat rows: the tokens of a structure give its rows, in the order of the text; there is a row for at most every third token.
-- By recursion over the structure, with what stands behind as an argument.
use Rattle.std.specs.Prelude.{ℕ, ◌+◌, ◌*◌, ◌≤◌, ◌≡◌, refl, Bool, true, false, cond, List, [], ◌∷◌, ◌++◌, map, eqb, length}
use Rattle.std.proofs.Common.{sym, ap, subst, ◌∙◌, append_assoc, arith, length-append}
use Rattle.paper_tokens.specs.Tokens
use Tokens.{“semicolon”, “open”, “close”, “and”}
use Rattle.paper_tokens.specs.Lexical.{Token}
use Rattle.paper_tokens.specs.Terminals.{Terminal}
use Rattle.paper_guideline.specs.Tree.{anywhere, assigned}
use Rattle.paper_guideline.specs.Structure
use Structure.{Name, Outermost, Placed, Assignment, ComponentAttribute, Generic, SourceAttribute, Attribute, generic, Class, plan, action, enquiry, Task, DataItem, TopLevel}
use Structure.{Says, says, SaysYesOrNo, says_yes_or_no, SaysName, says_name, Series, none, and_more, Assertion, assignment, both, in_parentheses}
use Structure.{ComponentAttributeAt, constraint, is_terminal, GenericAt, a_caption, a_description, SourceAttributeAt, a_source_generic, is_mandatory}
use Structure.{AttributeAt, a_precondition, a_wait_condition, a_postcondition, a_trigger, a_component, a_terminate_condition, a_source, class_word, TaskAt, a_task}
use Structure.{DataItemAt, a_data_item, TopLevelAt, a_top_task, a_top_data_item, Structure, guideline}
use Rattle.paper_tokens.proofs.Laws.TerminalLaws.{terminal_is, atom-kind}
use Rattle.paper_guideline.proofs.Laws.TreeLaws.{infix_f, Ends, ends_at, shorter}
use Rattle.expression_steps.specs.Levels.{kind_of}
use Rattle.guideline_rows.specs.Rows
use Rows.{named, Row, with_expression, with_name, with_answer, an_assignment, generic_row, component_row, source_row, placed_rows, attribute_rows, attributes_rows, flatten}
use Rattle.guideline_rows.specs.Flat
use Flat.{Mode, outside, front, behind, Shape, shape, Turn, Flat, at_end, turn}
use Flat.{task_line, data_lines, expression_line, name_line, answer_line, constraint_line, postcondition_word, end_line, opening, assignment_there, closing, going_on, finish}
use Flat.{a_task_line, some_data_lines, an_expression_line, a_name_line, an_answer_line, a_constraint_line, a_postcondition_word, an_end_line, opens, assigns, closes, goes_on, finishes}

-- ---- one turn, by the terminal of its first token

turn_at : {m n : Mode} {k : ℕ} {s : Shape} {t : Token} {w r : List Token} {rs rows : List Row}
    → Terminal t k → shape m k ≡ s → Turn s (t ∷ w) r n rs → Flat n r rows → Flat m (t ∷ w) (rs ++ rows)
turn_at {m} h e x f = turn (ap (shape m) (terminal_is h) ∙ e) x f

says_flat : {word : ℕ} {w r : List Token} {x : Placed Outermost} {rows : List Row}
    → shape outside word ≡ expression_line → Says word w r x → Flat outside r rows → Flat outside w (with_expression word x.word x.what ∷ rows)
says_flat e (says t c x s) f = turn_at t e (an_expression_line t e x s) f

answer_flat : {word : ℕ} {w r : List Token} {x : Placed Bool} {rows : List Row}
    → shape outside word ≡ answer_line → SaysYesOrNo word w r x → Flat outside r rows → Flat outside w (with_answer word x.word x.what ∷ rows)
answer_flat e (says_yes_or_no t c y s) f = turn_at t e (an_answer_line t y) f

name_flat : {word : ℕ} {w r : List Token} {x : Placed Name} {rows : List Row}
    → shape outside word ≡ name_line → SaysName word w r x → Flat outside r rows → Flat outside w (with_name word x.word x.what ∷ rows)
name_flat e (says_name t c n s) f = turn_at t e (a_name_line t n) f

-- ---- attributes, each in front of what is behind it

generic_flat : {w r : List Token} {x : Placed Generic} {rows : List Row} → GenericAt w r x → Flat outside r rows → Flat outside w (generic_row x.word x.what ∷ rows)
generic_flat (a_caption h) f = says_flat refl h f
generic_flat (a_description h) f = says_flat refl h f

component_flat : {w r : List Token} {x : Placed ComponentAttribute} {rows : List Row} → ComponentAttributeAt w r x → Flat outside r rows → Flat outside w (component_row x.word x.what ∷ rows)
component_flat (constraint t c d o n p s) f = turn_at t refl (a_constraint_line n) f
component_flat (is_terminal h) f = answer_flat refl h f

source_flat : {w r : List Token} {x : Placed SourceAttribute} {rows : List Row} → SourceAttributeAt w r x → Flat outside r rows → Flat outside w (source_row x.word x.what ∷ rows)
source_flat (a_source_generic h) f = generic_flat h f
source_flat (is_mandatory h) f = answer_flat refl h f

series_flat : {A : Type 0} {One : List Token → List Token → Placed A → Type 0} (row : ℕ → A → Row)
    → ((w r : List Token) (x : Placed A) (rows : List Row) → One w r x → Flat outside r rows → Flat outside w (row x.word x.what ∷ rows))
    → {w r : List Token} {xs : List (Placed A)} {rows : List Row} → Series One w r xs → Flat outside r rows → Flat outside w (placed_rows row xs ++ rows)
series_flat row one none f = f
series_flat row one {rows = rows} (and_more {w = w} {m = m} {a = a} {xs = xs} x s) f = one w m a (placed_rows row xs ++ rows) x (series_flat row one s f)

-- ---- assertions

assigned_rows : (xs ys : List Assignment) (rows : List Row) → map an_assignment (xs ++ ys) ++ rows ≡ map an_assignment xs ++ (map an_assignment ys ++ rows)
assigned_rows [] ys rows = refl
assigned_rows (x ∷ xs) ys rows = ap (λ (l : List Row). an_assignment x ∷ l) (assigned_rows xs ys rows)

and_ends : {t : Token} (r : List Token) → Terminal t “and” → Ends assigned (t ∷ r)
unfolding infix_f
and_ends r h = ends_at r h refl refl

close_ends : {t : Token} (r : List Token) → Terminal t “close” → Ends assigned (t ∷ r)
unfolding infix_f
close_ends r h = ends_at r h refl refl

semicolon_ends : {t : Token} (r : List Token) → Terminal t “semicolon” → Ends assigned (t ∷ r)
unfolding infix_f
semicolon_ends r h = ends_at r h refl refl

pub line_ends : {t : Token} (r : List Token) → Terminal t “semicolon” → Ends anywhere (t ∷ r)
unfolding infix_f
line_ends r h = ends_at r h refl refl

assertion_flat : {w r : List Token} {xs : List Assignment} {rows : List Row} → Assertion w r xs → Ends assigned r → Flat behind r rows → Flat front w (map an_assignment xs ++ rows)
assertion_flat (assignment {t = t} h q x) e f = turn (atom-kind t h (λ (k : ℕ). shape front k ≡ assignment_there) refl refl refl) (assigns h x e) f
assertion_flat {w} {rows = rows} (both {m = m} {xs = xs} {ys = ys} x h y) e f =
    subst (Flat front w) (sym (assigned_rows xs ys rows)) (assertion_flat x (and_ends m h) (turn_at h refl goes_on (assertion_flat y e f)))
assertion_flat (in_parentheses {r = r} h x c) e f = turn_at h refl opens (assertion_flat x (close_ends r c) (turn_at c refl closes f))

-- ---- attributes of tasks

attribute_flat : {k : Class} {w r : List Token} {x : Placed Attribute} {rows : List Row} → AttributeAt k w r x → Flat outside r rows → Flat outside w (attribute_rows x.word x.what ++ rows)
attribute_flat (a_precondition h) f = says_flat refl h f
attribute_flat (a_wait_condition h) f = says_flat refl h f
attribute_flat (a_postcondition {r = r} t c x s) f = turn_at t refl a_postcondition_word (assertion_flat x (semicolon_ends r s) (turn_at s refl finishes f))
attribute_flat (a_trigger h) f = name_flat refl h f
attribute_flat (a_component h xs) f = name_flat refl h (series_flat component_row (λ w r x rows y g. component_flat y g) xs f)
attribute_flat (a_terminate_condition h) f = says_flat refl h f
attribute_flat (a_source h xs) f = name_flat refl h (series_flat source_row (λ w r x rows y g. source_flat y g) xs f)

attributes_flat : {k : Class} {w r : List Token} {xs : List (Placed Attribute)} {rows : List Row} → Series (AttributeAt k) w r xs → Flat outside r rows → Flat outside w (attributes_rows xs ++ rows)
attributes_flat none f = f
attributes_flat {w = w} {rows = rows} (and_more {a = a} {xs = xs} x s) f =
    subst (Flat outside w) (sym (append_assoc (attribute_rows a.word a.what) (attributes_rows xs) rows)) (attribute_flat x (attributes_flat s f))

-- ---- tasks and data items

-- captions and descriptions come first
generics_first : (gs : List (Placed Generic)) (xs : List (Placed Attribute))
    → attributes_rows (map (λ (g : Placed Generic). record { word = g.word; what = generic g.what }) gs ++ xs) ≡ placed_rows generic_row gs ++ attributes_rows xs
generics_first [] xs = refl
generics_first (g ∷ gs) xs = ap (λ (l : List Row). generic_row g.word g.what ∷ l) (generics_first gs xs)

class_shape : (k : Class) → shape outside (class_word k) ≡ task_line
class_shape plan = refl
class_shape action = refl
class_shape enquiry = refl

task_flat : {w r : List Token} {x : Task} {rows : List Row} → TaskAt w r x → Flat outside r rows
    → Flat outside w (Rows.a_task x.class x.named ∷ (attributes_rows x.attributes ++ rows))
task_flat {w} {r} {rows = rows} (a_task {k = k} {m = m} {gs = gs} {xs = xs} (says_name {n = n} t c h s) g x e f d) b =
    let y = series_flat generic_row (λ w r x rows y g. generic_flat y g) g (attributes_flat x (turn_at e refl an_end_line b)) in
    turn_at t (class_shape k) (a_task_line t h)
    (subst (Flat outside m) (sym (append_assoc (placed_rows generic_row gs) (attributes_rows xs) rows) ∙ ap (λ (l : List Row). l ++ rows) (sym (generics_first gs xs))) y)

data_item_flat : {w r : List Token} {x : DataItem} {rows : List Row} → DataItemAt w r x → Flat outside r rows
    → Flat outside w (Rows.a_data_item x.named x.declared ∷ (placed_rows generic_row x.attributes ++ rows))
data_item_flat (a_data_item (says_name t c h s) u v y z g e f d) b =
    turn_at t refl (some_data_lines h y) (series_flat generic_row (λ w r x rows y g. generic_flat y g) g (turn_at e refl an_end_line b))

tops_flat : {w : List Token} {g : List TopLevel} → Series TopLevelAt w [] g → Flat outside w (flatten g)
tops_flat none = at_end
tops_flat (and_more (a_top_task x) s) = task_flat x (tops_flat s)
tops_flat (and_more (a_top_data_item x) s) = data_item_flat x (tops_flat s)

-- the tokens of a structure give its rows
pub structure_flat : {ts : List Token} {g : List TopLevel} → Structure ts g → Flat outside ts (flatten g)
structure_flat (guideline x c s) = task_flat x (tops_flat s)

-- ---- how many rows there are

-- tokens that are still to come in a postcondition and give no row
abbrev debt : Mode → ℕ
debt outside = 0
debt front = 1
debt behind = 1

abbrev due : Shape → ℕ
due task_line = 0
due data_lines = 0
due expression_line = 0
due name_line = 0
due answer_line = 0
due constraint_line = 0
due postcondition_word = 0
due end_line = 0
due opening = 1
due assignment_there = 1
due closing = 1
due going_on = 1
due finish = 1

debt_due : (m : Mode) (k : ℕ) → debt m ≤ due (shape m k)
debt_due outside k = omega arith
debt_due front k =
    let by : (b : Bool) → 1 ≤ due (cond b opening assignment_there) = elim [ true ↦ omega arith | false ↦ omega arith ] in by (eqb k “open”)
debt_due behind k =
    let by : (a b : Bool) → 1 ≤ due (cond a closing (cond b going_on finish)) = elim [ true ↦ λ b. omega arith | false ↦ elim [ true ↦ omega arith | false ↦ omega arith ] ] in
    by (eqb k “close”) (eqb k “and”)

turn_length : {s : Shape} {w r : List Token} {m : Mode} {rs : List Row} → Turn s w r m rs → 3 * length rs + length r + due s ≤ length w + debt m
turn_length (a_task_line h n) = omega arith
turn_length (some_data_lines n d) = omega arith
turn_length (an_expression_line h q x s) = let l = shorter x in omega arith
turn_length (a_name_line h n) = omega arith
turn_length (an_answer_line h y) = omega arith
turn_length (a_constraint_line n) = omega arith
turn_length a_postcondition_word = omega arith
turn_length an_end_line = omega arith
turn_length opens = omega arith
turn_length (assigns h x e) = let l = shorter x in omega arith
turn_length closes = omega arith
turn_length goes_on = omega arith
turn_length finishes = omega arith

flat_length : {m : Mode} {w : List Token} {rows : List Row} → Flat m w rows → 3 * length rows + debt m ≤ length w
flat_length at_end = omega arith
flat_length (turn {m = m} {w = w} {rs = rs} {rows = rows} e x f) =
    let i = flat_length f in
    let l = turn_length x in
    let d = subst (λ (s : Shape). debt m ≤ due s) e (debt_due m (kind_of w)) in
    let a = length-append rs rows in
    omega arith

pub few_rows : {ts : List Token} {g : List TopLevel} → Structure ts g → 3 * length (flatten g) ≤ length ts
few_rows s = let l = flat_length (structure_flat s) in omega arith
