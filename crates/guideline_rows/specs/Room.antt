-- Law: the names and texts of a guideline's rows are together no longer than its text. So as many bytes are room enough.
-- Each name and each text stands in a token of its own, by induction on the tree and on the turns; and tokens don't overlap.
use Rattle.std.specs.Prelude.{ℕ, ◌+◌, ◌≤◌, ◌≡◌, refl, Bool, true, false, ◌||◌, ◌&&◌, List, [], ◌∷◌, ◌++◌, eqb, length}
use Rattle.std.proofs.Common.{sym, ap, ◌∙◌, ⊎_elim, append_assoc, arith, length-append, eqb-true}
use Rattle.paper_expressions.proofs.Laws.Tests.{two, and_l, and_r}
use Rattle.paper_expressions.specs.View.{At, at_first, at_later}
use Rattle.paper_expressions.specs.Operators.{Op, arithmetic, divide, compare, and, or, includes, oneof, if, negate, isknown, not, count, sum, extreme, nth, is-in, no_such}
use Rattle.paper_expressions.specs.Operators.{Name, ◌means◌, Functor, of_section_11, of_no_section}
use Rattle.paper_expressions.specs.Expressions.{Expr}
use Rattle.paper_expressions.proofs.Laws.Parentheses.{bare, bares}
use Rattle.paper_guideline.specs.Limits.{guideline_limit}
use Rattle.paper_tokens.specs.Lexical.{Token, inner, Tokens, at_end, skip, take_token}
use Rattle.paper_tokens.specs.Terminals as Terminals
use Rattle.paper_guideline.specs.Tree
use Tree.{Where, Tree, infix_operator, looser, unary_minus, an_atom, an_integer, a_float, a_string, parentheses, a_list, a_call, empty, nonempty, last, then_more}
use Rattle.parts.specs.Codes.{code}
use Rattle.parts.specs.Encode.{name, spelling, spellings}
use Rattle.leaves.specs.Cells.{part_cells, length_cells}
use Rattle.expression_steps.specs.Levels.{infix_is}
use Rattle.pool.specs.Pooled.{Fits}
use Rattle.guideline_rows.specs.Rows.{Row}
use Rattle.guideline_rows.specs.Flat
use Flat.{Mode, outside, Shape, Turn, Flat, a_task_line, some_data_lines, an_expression_line, a_name_line, an_answer_line, a_constraint_line, a_postcondition_word, an_end_line, opens, assigns, closes, goes_on, finishes, turn}
use Rattle.guideline_rows.specs.Encoded.{row_text, text_of}

-- the bytes of tokens
abbrev pub total : List Token → ℕ
total [] = 0
total (t ∷ ts) = length t.bytes + total ts

pub tokens_fit : {text : List ℕ} {at : ℕ} {ts : List Token} → Tokens text at ts → at + total ts ≤ length text
tokens_fit (at_end e) = omega arith
tokens_fit (skip l s h) = let i = tokens_fit h in omega arith
tokens_fit {text} {at} (take_token {n = n} l s h) =
    let i = tokens_fit h in
    let f = l.fits.inside in
    let k = ap length (part_cells text at n f) ∙ length_cells text at n in
    omega arith

-- ---- names

abbrev but_last : List ℕ → List ℕ
but_last [] = []
but_last (b ∷ []) = []
but_last (b ∷ c ∷ w) = b ∷ but_last (c ∷ w)

but_last_short : (w : List ℕ) → length (but_last w) ≤ length w
but_last_short [] = omega arith
but_last_short (b ∷ []) = omega arith
but_last_short (b ∷ c ∷ w) = omega (arith, but_last_short (c ∷ w))

inner_short : (w : List ℕ) → length (inner w) ≤ length w
inner_short [] = omega arith
inner_short (b ∷ w) = ⊎_elim
    (λ (p : (eqb b 39 || eqb b 34) ≡ true). rw p (omega (arith, but_last_short w)))
    (λ (p : (eqb b 39 || eqb b 34) ≡ false). rw p (omega arith))
    (two (eqb b 39 || eqb b 34))

pub name_within : (t : Token) → length (Terminals.name t) ≤ length t.bytes
name_within t = inner_short t.bytes

-- an operator with a number of its own has no name
nameless : (o : Op) → ¬ (code o ≡ 250) → length (name o) ≡ 0
nameless (arithmetic k) h = refl
nameless divide h = refl
nameless (compare k) h = refl
nameless and h = refl
nameless or h = refl
nameless includes h = refl
nameless oneof h = refl
nameless if h = refl
nameless negate h = refl
nameless isknown h = refl
nameless not h = refl
nameless count h = refl
nameless sum h = refl
nameless (extreme e) h = refl
nameless nth h = refl
nameless (is-in s) h = refl
nameless (no_such n) h = absurd (h refl)

abbrev all_nameless : List Name → Bool
all_nameless [] = true
all_nameless ((m means o) ∷ l) = eqb (length (name o)) 0 && all_nameless l

listed_nameless : {l : List Name} {i : ℕ} {n : List ℕ} {o : Op} → At l i (n means o) → all_nameless l ≡ true → length (name o) ≡ 0
listed_nameless {o = o} (at_first {l = l}) h = eqb-true (length (name o)) 0 (and_l (eqb (length (name o)) 0) (all_nameless l) h)
listed_nameless (at_later {y = m means p} {l = l} a) h = listed_nameless a (and_r (eqb (length (name p)) 0) (all_nameless l) h)

functor_short : {n : List ℕ} {o : Op} → Functor n o → length (name o) ≤ length n
functor_short (of_section_11 a) = let z = listed_nameless a refl in omega arith
functor_short (of_no_section f) = omega arith

-- ---- trees

pub tree_short : {a : Where} {l : ℕ} {w r : List Token} {e : Expr} → Tree a l w r e → total r + length (spelling (bare e)) ≤ total w
tree_short x = elim x as (λ a l w r e x. total r + length (spelling (bare e)) ≤ total w) (λ w r es x. total r + length (spellings (bares es)) ≤ total w) (λ w r es x. total r + length (spellings (bares es)) ≤ total w) [
  | infix_operator {o = o} {e = e} {f = f} i h p (x → b) (y → g) ↦ let q = (infix_is i).plain in let n = nameless o (λ z. omega arith) in simp length-append (omega arith)
  | looser (x → f) ↦ f
  | unary_minus h (x → f) ↦ simp length-append (omega arith)
  | an_atom {t = t} h ↦ omega (arith, name_within t)
  | an_integer h ↦ omega arith
  | a_float h ↦ omega arith
  | a_string {t = t} h ↦ omega (arith, name_within t)
  | parentheses h (x → f) k ↦ omega arith
  | a_list h (x → f) k ↦ omega arith
  | a_call {f = t} e o h (x → f) k ↦ let n = functor_short o in let m = name_within t in simp length-append (omega arith)
  | empty ↦ omega arith
  | nonempty (x → f) ↦ f
  | last (x → f) ↦ simp length-append (omega arith)
  | then_more (x → f) h (y → g) ↦ simp length-append (omega arith)
]

-- ---- turns

turn_short : {s : Shape} {w r : List Token} {m : Mode} {rows : List Row} → Turn s w r m rows → total r + length (text_of rows) ≤ total w
turn_short (a_task_line {n = n} h k) = let x = name_within n in simp length-append (omega arith)
turn_short (some_data_lines {n = n} h k) = let x = name_within n in simp length-append (omega arith)
turn_short (an_expression_line h q k e) = let x = tree_short k in simp length-append (omega arith)
turn_short (a_name_line {n = n} h k) = let x = name_within n in simp length-append (omega arith)
turn_short (an_answer_line h k) = omega arith
turn_short (a_constraint_line {n = n} h) = let x = name_within n in simp length-append (omega arith)
turn_short a_postcondition_word = omega arith
turn_short an_end_line = omega arith
turn_short opens = omega arith
turn_short (assigns {t = t} h k e) = let x = name_within t in let y = tree_short k in simp length-append (omega arith)
turn_short closes = omega arith
turn_short goes_on = omega arith
turn_short finishes = omega arith

pub text_both : (xs ys : List Row) → text_of (xs ++ ys) ≡ text_of xs ++ text_of ys
text_both [] ys = refl
text_both (x ∷ xs) ys = ap (λ (l : List ℕ). row_text x ++ l) (text_both xs ys) ∙ sym (append_assoc (row_text x) (text_of xs) (text_of ys))

pub rows_short : {m : Mode} {w : List Token} {rows : List Row} → Flat m w rows → length (text_of rows) ≤ total w
rows_short Flat.at_end = omega arith
rows_short (turn {rs = rs} {rows = rows} e h k) =
    let x = turn_short h in
    let y = rows_short k in
    let z = ap length (text_both rs rows) ∙ length-append (text_of rs) (text_of rows) in
    omega arith

-- ---- the whole

pub room_enough : {text b : List ℕ} {ts : List Token} {rows : List Row} → Tokens text 0 ts → Flat outside ts rows → length text ≤ guideline_limit → guideline_limit ≤ length b → Fits b (length (text_of rows))
room_enough t f h k = let x = tokens_fit t in let y = rows_short f in record { bytes = omega arith; places = omega arith }
