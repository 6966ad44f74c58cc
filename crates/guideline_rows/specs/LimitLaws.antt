-- Law: the rows of a text that breaks no limit are within the limits. By the tokens that each turn passes, and by induction on the tree.
use Rattle.std.specs.Prelude.{ℕ, ◌≤◌, ◌<◌, ◌≡◌, refl, length}
use Rattle.std.proofs.Common.{arith, subst, inl}
use Rattle.std.proofs.Math.Option.{Option, none, some}
use mathlib.Core.List.{List, [], ◌∷◌, ◌++◌, Memᴰ}
use Rattle.paper_expressions.specs.Limits.{text_limit}
use Rattle.paper_expressions.specs.View.{At, at_first, at_later}
use Rattle.paper_expressions.specs.Operators.{Op, ◌means◌, Functor, of_section_11, of_no_section}
use Rattle.paper_expressions.specs.Operators as Operators
use Rattle.paper_expressions.specs.Expressions.{Expr}
use Rattle.paper_expressions.proofs.Laws.Parentheses.{bare, bares}
use Rattle.paper_tokens.specs.Lexical.{Token, atom}
use Rattle.paper_guideline.specs.Tree
use Tree.{infixes, Where, Tree, infix_operator, looser, unary_minus, an_atom, an_integer, a_float, a_string, parentheses, a_list, a_call, empty, nonempty, last, then_more}
use Rattle.paper_guideline.specs.Structure.{Name, Outermost, TopLevel}
use Rattle.paper_guideline.proofs.Laws.TreeLaws.{Each, all, ◌&◌, each_at}
use Rattle.paper_guideline.specs.Refusals.{TokenBreach, long_name, long_text, large_integer, large_real, limit_stage, Breach, token_breach, Read}
use Rattle.parts.specs.Encode.{name, Fits, AllFit}
use Rattle.guideline_rows.specs.Rows.{named, Row, name_of, expression_of, flatten}
use Rattle.guideline_rows.specs.Flat
use Flat.{Mode, Shape, Turn, Flat, at_end, turn}
use Flat.{a_task_line, some_data_lines, an_expression_line, a_name_line, an_answer_line, a_constraint_line, a_postcondition_word, an_end_line, opens, assigns, closes, goes_on, finishes}
use Rattle.guideline_rows.specs.FlatLaws.{structure_flat}
use Rattle.guideline_rows.specs.Tally.{with, row_expressions, Large, LargeAt, here, later}
use Rattle.guideline_rows.specs.TallyLaws.{large_law, breaks_large}
use Rattle.guideline_rows.specs.InLimits.{InLimits}

within : {n m : ℕ} → ¬ (m < n) → n ≤ m
within h = omega arith

-- ---- operators: only a functor that section 11 doesn't have has a name in the table

all_infix : Each (λ (x : ℕ × ℕ × Op). name x.2 ≡ []) infixes
unfolding infixes
all_infix = refl & refl & refl & refl & refl & refl & refl & refl & refl & refl & refl & refl & refl & refl & refl & refl & refl & refl & refl & all

no_name : (o : Op) → name o ≡ [] → length (name o) ≤ text_limit
no_name o e = rw e (omega arith)

infix_short : {l k : ℕ} {o : Op} → Memᴰ (l, k, o) infixes → length (name o) ≤ text_limit
infix_short {o = o} m = no_name o (each_at all_infix m)

abbrev meaning : Operators.Name → Op
meaning (n means o) = o

functor_name : {i : ℕ} {x : Operators.Name} {l : List Operators.Name} → Each (λ (y : Operators.Name). name (meaning y) ≡ []) l → At l i x → name (meaning x) ≡ []
functor_name (p & ps) at_first = p
functor_name (p & ps) (at_later h) = functor_name ps h
functor_name {i = i} all x4 = elim x4 [ ]

functor_short : {n : List ℕ} {o : Op} → length n ≤ text_limit → Functor n o → length (name o) ≤ text_limit
functor_short h (of_section_11 {o = o} a) = no_name o (functor_name (refl & refl & refl & refl & refl & refl & refl & refl & refl & refl & refl & refl & refl & all) a)
functor_short h (of_no_section f) = h

-- ---- a tree of tokens within their limits, and what is behind it

abbrev Fine : Token → Type 0
Fine t = ¬ TokenBreach t

first_of : {t : Token} {ts : List Token} → Each Fine (t ∷ ts) → Fine t
first_of (h & hs) = h

rest_of : {t : Token} {ts : List Token} → Each Fine (t ∷ ts) → Each Fine ts
rest_of (h & hs) = hs

tree_fits : {a : Where} {l : ℕ} {w r : List Token} {e : Expr} → Tree a l w r e → Each Fine w → Each Fine r × Fits (bare e)
tree_fits x = elim x as (λ a l w r e x. Each Fine w → Each Fine r × Fits (bare e)) (λ w r es x. Each Fine w → Each Fine r × AllFit (bares es)) (λ w r es x. Each Fine w → Each Fine r × AllFit (bares es)) [
  | infix_operator m t p (x → i) (y → j) ↦ λ f. let a = i f in let b = j (rest_of a.0) in (b.0, (infix_short m, (a.1, (b.1, tt))))
  | looser (x → i) ↦ i
  | unary_minus t (x → i) ↦ λ f. let a = i (rest_of f) in (a.0, (omega arith, (a.1, tt)))
  | an_atom q ↦ λ f. (rest_of f, within (λ l. first_of f (long_name q l)))
  | an_integer q ↦ λ f. (rest_of f, within (λ l. first_of f (large_integer q l)))
  | a_float q ↦ λ f. (rest_of f, within (λ l. first_of f (large_real q l)))
  | a_string q ↦ λ f. (rest_of f, within (λ l. first_of f (long_text q l)))
  | parentheses t (x → i) c ↦ λ f. let a = i (rest_of f) in (rest_of a.0, a.1)
  | a_list t (x → i) c ↦ λ f. let a = i (rest_of f) in (rest_of a.0, a.1)
  | a_call q o t (x → i) c ↦ λ f. let a = i (rest_of (rest_of f)) in (rest_of a.0, (functor_short (within (λ l. first_of f (long_name q l))) o, a.1))
  | empty ↦ λ f. (f, tt)
  | nonempty (x → i) ↦ i
  | last (x → i) ↦ λ f. let a = i f in (a.0, (a.1, tt))
  | then_more (x → i) t (y → j) ↦ λ f. let a = i f in let b = j (rest_of a.0) in (b.0, (a.1, b.1))
]

-- ---- the rows of each turn

record Good (r : Row) : Type 0 where
  pub names : (n : Name) → name_of r ≡ some n → length n.spelt ≤ text_limit
  pub texts : (e : Outermost) → expression_of r ≡ some e → Fits (bare e.tree)

nothing : {A B : Type 0} {x : A} → none ≡ some x → B
nothing e = absurd (let z : ◌≡◌ {A = ℕ} 0 1 = cc in omega arith)

is_some : {A : Type 0} (P : A → Type 0) {x y : A} → some x ≡ some y → P x → P y
is_some P {x} {y} e h = subst P (let z : x ≡ y = cc in z) h

short : {t : Token} → t.rule ≡ atom → Fine t → (n : Name) → some (named t) ≡ some n → length n.spelt ≤ text_limit
short q f n e = is_some (λ (m : Name). length m.spelt ≤ text_limit) e (within (λ l. f (long_name q l)))

fitting : {x : Outermost} → Fits (bare x.tree) → (e : Outermost) → some x ≡ some e → Fits (bare e.tree)
fitting h e q = is_some (λ (x : Outermost). Fits (bare x.tree)) q h

turn_good : {s : Shape} {w r : List Token} {m : Mode} {rs : List Row} → Turn s w r m rs → Each Fine w → Each Fine r × Each Good rs
turn_good (a_task_line h q) (a & b & c & d & f) = (f, record { names = short q c; texts = λ e z. nothing z } & all)
turn_good (some_data_lines q x) (a & b & c & d & a' & b' & c' & d' & f) = (f, record { names = short q c; texts = λ e z. nothing z } & all)
turn_good (an_expression_line h q x s) (a & b & f) = let y = tree_fits x f in (rest_of y.0, record { names = λ n z. nothing z; texts = fitting y.1 } & all)
turn_good (a_name_line h q) (a & b & c & d & f) = (f, record { names = short q c; texts = λ e z. nothing z } & all)
turn_good (an_answer_line h y) (a & b & c & d & f) = (f, record { names = λ n z. nothing z; texts = λ e z. nothing z } & all)
turn_good (a_constraint_line q) (a & b & c & d & n & e & s & f) = (f, record { names = short q n; texts = λ e z. nothing z } & all)
turn_good a_postcondition_word (a & b & f) = (f, record { names = λ n z. nothing z; texts = λ e z. nothing z } & all)
turn_good an_end_line (a & b & c & f) = (f, all)
turn_good opens (a & f) = (f, all)
turn_good (assigns q x e) (a & b & f) = let y = tree_fits x f in (y.0, record { names = short q a; texts = fitting y.1 } & all)
turn_good closes (a & f) = (f, all)
turn_good goes_on (a & f) = (f, all)
turn_good finishes (a & f) = (f, all)

both : {P : Row → Type 0} {rs ss : List Row} → Each P rs → Each P ss → Each P (rs ++ ss)
both all k = k
both (h & hs) k = h & both hs k

flat_good : {m : Mode} {w : List Token} {rows : List Row} → Flat m w rows → Each Fine w → Each Good rows
flat_good at_end f = all
flat_good (turn e x k) f = let y = turn_good x f in both y.1 (flat_good k y.0)

good_at : {rows : List Row} {i : ℕ} {r : Row} → Each Good rows → At rows i r → Good r
good_at (h & hs) at_first = h
good_at (h & hs) (at_later k) = good_at hs k
good_at {i = i} {r = r} all x3 = elim x3 [ ]

each_fine : (ts : List Token) → ((i : ℕ) (t : Token) → At ts i t → Fine t) → Each Fine ts
each_fine [] f = all
each_fine (t ∷ ts) f = f 0 t at_first & each_fine ts (λ i u a. f _ u (at_later a))

-- ---- a row whose expression is too deep

large_later : (o : Option Outermost) {l : List Outermost} {p : ℕ} → LargeAt l p → LargeAt (with o l) p
large_later none h = h
large_later (some x) h = later h

large_row : {rows : List Row} {i : ℕ} {r : Row} {e : Outermost} → At rows i r → expression_of r ≡ some e → Large e.tree → LargeAt (row_expressions rows) e.start
large_row at_first q h = rw q (here h)
large_row (at_later {y = y} k) q h = large_later (expression_of y) (large_row k q h)

pub in_limits : {Short : Type 0} {text : List ℕ} {g : List TopLevel} → Read text g → ((p : ℕ) → ¬ Breach Short text limit_stage p) → InLimits (flatten g)
in_limits {Short} {text} {g} read none-broken = record {
  names = λ {i} {r} {n} h e. (good_at good h).names n e;
  texts = λ {i} {r} {e} h q. (good_at good h).texts e q;
  depths = λ {i} {r} {e} h q. within (λ l. none-broken e.start (breaks_large read (large_law g (large_row h q (inl l)))));
}
  where
    good : Each Good (flatten g)
    good = flat_good (structure_flat read.structure) (each_fine read.tokens (λ i t h b. none-broken t.place (token_breach read.its h b)))
