-- Where no bracket is one too many, none of the tokens behind is. By the terminals of the columns, and by induction on the derivation of a tree.
use Rattle.std.specs.Prelude.{ℕ, ◌+◌, ◌-◌, ◌≡◌, true, false, List, ◌∷◌, eqb}
use Rattle.std.proofs.Common.{sym, subst, ◌∙◌, ⊎_elim, eqb-true, eq-eqb}
use Rattle.paper_expressions.proofs.Laws.Tests.{two, contra}
use Rattle.paper_expressions.specs.Expressions.{Expr}
use Rattle.paper_tokens.specs.Tokens.{“open”, “close”, “[”, “]”}
use Rattle.paper_tokens.specs.Lexical.{Token}
use Rattle.paper_tokens.specs.Terminals.{Terminal}
use Rattle.paper_guideline.specs.Tree
use Tree.{Where, Tree, infix_operator, looser, unary_minus, an_atom, an_integer, a_float, a_string, parentheses, a_list, a_call, empty, nonempty, last, then_more}
use Rattle.paper_guideline.specs.Refusals.{TooManyOpen, one_more_open, one_fewer_open, as_many_open, Opening, opens_round, opens_square, Closing, closes_round, closes_square}
use Rattle.paper_tokens.proofs.Laws.TerminalLaws.{one_terminal}
use Rattle.leaves.specs.Source.{Source, Stand, at_token}
use Rattle.guideline_rows.specs.Rows.{Row}
use Rattle.guideline_rows.specs.Flat
use Flat.{Mode, Shape, Turn}
use Flat.{a_task_line, some_data_lines, an_expression_line, a_name_line, an_answer_line, a_constraint_line, a_postcondition_word, an_end_line, opens, assigns, closes, goes_on, finishes}

-- with some number of brackets open before them, none of the tokens opens one too many
pub record Fine (w : List Token) : Type 0 where
  pub count : ℕ
  pub all : (q : ℕ) → ¬ TooManyOpen count w q

-- ---- one token

module _ {t : Token} {w : List Token} (f : Fine (t ∷ w)) where
  one_more : Opening t → Fine w
  one_more o = record { count = f.count + 1; all = λ q x. f.all q (one_more_open o x) }

  one_fewer : Closing t → Fine w
  one_fewer o = record { count = f.count - 1; all = λ q x. f.all q (one_fewer_open o x) }

  as_many : ¬ Opening t → ¬ Closing t → Fine w
  as_many o c = record { count = f.count; all = λ q x. f.all q (as_many_open o c x) }

module _ {t : Token} {k : ℕ} (h : Terminal t k) where
  is_kind : (j : ℕ) → eqb k j ≡ true → Terminal t j
  is_kind j e = subst (Terminal t) (eqb-true k j e) h

  no_kind : (j : ℕ) → eqb k j ≡ false → Terminal t j → ⊥
  no_kind j e g = contra (sym e ∙ eq-eqb k j (one_terminal h g))

  no_opening : eqb k “open” ≡ false → eqb k “[” ≡ false → Opening t → ⊥
  no_opening a b (opens_round g) = no_kind “open” a g
  no_opening a b (opens_square g) = no_kind “[” b g

  no_closing : eqb k “close” ≡ false → eqb k “]” ≡ false → Closing t → ⊥
  no_closing a b (closes_round g) = no_kind “close” a g
  no_closing a b (closes_square g) = no_kind “]” b g

  fine_next : {w : List Token} → Fine (t ∷ w) → Fine w
  fine_next {w} f = ⊎_elim
      (λ (a : eqb k “open” ≡ true). one_more f (opens_round (is_kind “open” a)))
      (λ (a : eqb k “open” ≡ false). ⊎_elim
      (λ (b : eqb k “[” ≡ true). one_more f (opens_square (is_kind “[” b)))
      (λ (b : eqb k “[” ≡ false). ⊎_elim
      (λ (d : eqb k “close” ≡ true). one_fewer f (closes_round (is_kind “close” d)))
      (λ (d : eqb k “close” ≡ false). ⊎_elim
      (λ (e : eqb k “]” ≡ true). one_fewer f (closes_square (is_kind “]” e)))
      (λ (e : eqb k “]” ≡ false). as_many f (no_opening a b) (no_closing d e))
      (two (eqb k “]”)))
      (two (eqb k “close”)))
      (two (eqb k “[”)))
      (two (eqb k “open”))

-- ---- several tokens

-- r is the end of w
pub data Behind : List Token → List Token → Type 0 where
  same : {r : List Token} → Behind r r
  later : {t : Token} {w r : List Token} → Behind w r → Behind (t ∷ w) r

further : {w m r : List Token} → Behind w m → Behind m r → Behind w r
further same b = b
further (later a) b = later (further a b)

pub fine_behind : {c : Source} {p : ℕ} {w r : List Token} → Stand c p w → Behind w r → Fine w → Fine r
fine_behind s same f = f
fine_behind (at_token h s) (later b) f = fine_behind s b (fine_next h.terminal f)

tree_behind : {a : Where} {l : ℕ} {w r : List Token} {e : Expr} → Tree a l w r e → Behind w r
tree_behind x = elim x as (λ a l w r e x. Behind w r) (λ w r es x. Behind w r) (λ w r es x. Behind w r) [
  | infix_operator i h p (x → f) (y → g) ↦ further f (later g)
  | looser (x → f) ↦ f
  | unary_minus h (x → f) ↦ later f
  | an_atom h ↦ later same
  | an_integer h ↦ later same
  | a_float h ↦ later same
  | a_string h ↦ later same
  | parentheses h (x → f) k ↦ later (further f (later same))
  | a_list h (x → f) k ↦ later (further f (later same))
  | a_call e o h (x → g) k ↦ later (later (further g (later same)))
  | empty ↦ same
  | nonempty (x → f) ↦ f
  | last (x → f) ↦ f
  | then_more (x → f) h (y → g) ↦ further f (later g)
]

turn_behind : {s : Shape} {w r : List Token} {m : Mode} {rs : List Row} → Turn s w r m rs → Behind w r
turn_behind (a_task_line h n) = later (later (later (later same)))
turn_behind (some_data_lines n d) = later (later (later (later (later (later (later (later same)))))))
turn_behind (an_expression_line h q x s) = later (later (further (tree_behind x) (later same)))
turn_behind (a_name_line h n) = later (later (later (later same)))
turn_behind (an_answer_line h y) = later (later (later (later same)))
turn_behind (a_constraint_line n) = later (later (later (later (later (later (later same))))))
turn_behind a_postcondition_word = later (later same)
turn_behind an_end_line = later (later (later same))
turn_behind opens = later same
turn_behind (assigns h x e) = later (later (tree_behind x))
turn_behind closes = later same
turn_behind goes_on = later same
turn_behind finishes = later same

pub turn_fine : {c : Source} {p : ℕ} {s : Shape} {w r : List Token} {m : Mode} {rs : List Row} → Stand c p w → Fine w → Turn s w r m rs → Fine r
turn_fine s f x = fine_behind s (turn_behind x) f

pub two_fine : {c : Source} {p : ℕ} {a b : Token} {w : List Token} → Stand c p (a ∷ b ∷ w) → Fine (a ∷ b ∷ w) → Fine w
two_fine s f = fine_behind s (later (later same)) f
