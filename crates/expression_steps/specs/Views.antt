-- What a tree's first token tells of the tree. By cases on the derivation.
use Rattle.std.specs.Prelude.{ℕ, suc, ◌≤◌, ◌<◌, ◌≡◌, refl, ◌⊎◌, List, [], ◌∷◌, length}
use Rattle.std.proofs.Common.{subst, inl, inr, arith}
use Rattle.paper_expressions.specs.Operators.{Op, negate}
use Rattle.paper_expressions.proofs.Laws.Functors.{functor_f, functor_only}
use Rattle.paper_expressions.specs.Expressions.{Expr, Exprs, Paren, Listing, Apply, ε, ◌▸◌}
use Rattle.paper_tokens.specs.Tokens.{“-”, “open”, “close”, “[”, “]”, “comma”}
use Rattle.paper_tokens.specs.Lexical.{Token, atom}
use Rattle.paper_tokens.specs.Terminals.{Terminal, name}
use Rattle.paper_tokens.specs.Terminals
use Rattle.paper_guideline.specs.Tree
use Tree.{Where, anywhere, Tree, infix_operator, looser, unary_minus, an_atom, an_integer, a_float, a_string, parentheses, a_list, a_call, Trees, SomeTrees, last, then_more}
use Rattle.paper_tokens.proofs.Laws.TerminalLaws.{terminal_f, terminal_is, atom-kind}
use Rattle.paper_guideline.proofs.Laws.TreeLaws.{shorter, Ends, ends_at, infix_f}
use Rattle.leaves.specs.Leaf.{Leaf}
use Rattle.leaves.specs.Leaf as L
use Rattle.expression_steps.specs.Levels.{infix_is, kind_of}

-- no tree holds tighter than at level 8
too_tight : {a : Where} {l : ℕ} {w r : List Token} {e : Expr} → Tree a l w r e → 8 < l → ⊥
too_tight (infix_operator i h p x y) g = let f = (infix_is i).few in omega arith
too_tight (looser x) g = too_tight x (omega arith)
too_tight (unary_minus h x) g = omega arith
too_tight (an_atom h) g = omega arith
too_tight (an_integer h) g = omega arith
too_tight (a_float h) g = omega arith
too_tight (a_string h) g = omega arith
too_tight (parentheses h x k) g = omega arith
too_tight (a_list h x k) g = omega arith
too_tight (a_call e o h x k) g = omega arith

-- what holds tightest, by its first token
pub data First (t : Token) (r : List Token) : List Token → Expr → Type 0 where
  one_token : {e : Expr} → Leaf t e → First t r r e
  round : {c : Token} {w : List Token} {e : Expr} → Terminal t “open” → Tree anywhere 1 w (c ∷ r) e → Terminal c “close” → First t r w (Paren e)
  square : {c : Token} {w : List Token} {es : Exprs} → Terminal t “[” → Trees w (c ∷ r) es → Terminal c “]” → First t r w (Listing es)
  call : {p c : Token} {w : List Token} {es : Exprs}
      → t.rule ≡ atom → Terminal p “open” → Trees w (c ∷ r) es → Terminal c “close” → First t r (p ∷ w) (Apply (functor_f (name t)) es)

first-at : {a : Where} {l : ℕ} {t : Token} {w r : List Token} {e : Expr} → Tree a l (t ∷ w) r e → 7 < l → First t r w e
first-at (infix_operator i h p x y) g = let f = (infix_is i).few in absurd (omega arith)
first-at (looser x) g = absurd (too_tight x (omega arith))
first-at (unary_minus h x) g = absurd (omega arith)
first-at (an_atom h) g = one_token (L.an_atom h)
first-at (an_integer h) g = one_token (L.an_integer h)
first-at (a_float h) g = one_token (L.a_float h)
first-at (a_string h) g = one_token (L.a_string h)
first-at (parentheses h x k) g = round h x k
first-at (a_list h x k) g = square h x k
first-at {t = t} {w} {r} (a_call {w = v} {es = es} q o h x k) g = subst (λ (f : Op). First t r w (Apply f es)) (functor_only o) (call q h x k)

pub first_token : {a : Where} {t : Token} {w r : List Token} {e : Expr} → Tree a 8 (t ∷ w) r e → First t r w e
first_token x = first-at x (omega arith)

-- ---- the first token of a tree

pub leaf_kind : {t : Token} {e : Expr} → Leaf t e → 95 ≤ terminal_f t
leaf_kind {t} (L.an_atom h) = atom-kind t h (λ (k : ℕ). 95 ≤ k) (omega arith) (omega arith) (omega arith)
leaf_kind {t} (L.an_integer h) = let e : terminal_f t ≡ 98 = terminal_is (Terminals.an_integer h) in omega arith
leaf_kind {t} (L.a_float h) = let e : terminal_f t ≡ 99 = terminal_is (Terminals.a_float h) in omega arith
leaf_kind {t} (L.a_string h) = let e : terminal_f t ≡ 100 = terminal_is (Terminals.a_string h) in omega arith

-- it is none that closes a bracket
pub data Opens (k : ℕ) : Type 0 where
  a_minus : k ≡ 92 → Opens k
  a_round : k ≡ 76 → Opens k
  a_square : k ≡ 78 → Opens k
  a_leaf : 95 ≤ k → Opens k

tree_opens : {a : Where} {l : ℕ} {t : Token} {w r : List Token} {e : Expr} → Tree a l (t ∷ w) r e → Opens (terminal_f t)
tree_opens (infix_operator i h p x y) = tree_opens x
tree_opens (looser x) = tree_opens x
tree_opens (unary_minus h x) = a_minus (terminal_is h)
tree_opens (an_atom h) = a_leaf (leaf_kind (L.an_atom h))
tree_opens (an_integer h) = a_leaf (leaf_kind (L.an_integer h))
tree_opens (a_float h) = a_leaf (leaf_kind (L.a_float h))
tree_opens (a_string h) = a_leaf (leaf_kind (L.a_string h))
tree_opens (parentheses h x k) = a_round (terminal_is h)
tree_opens (a_list h x k) = a_square (terminal_is h)
tree_opens (a_call q o h x k) = a_leaf (leaf_kind (L.an_atom q))

no_opening : {k : ℕ} → Opens k → (k ≡ 77) ⊎ (k ≡ 79) → ⊥
no_opening (a_minus h) (inl g) = omega arith
no_opening (a_minus h) (inr g) = omega arith
no_opening (a_round h) (inl g) = omega arith
no_opening (a_round h) (inr g) = omega arith
no_opening (a_square h) (inl g) = omega arith
no_opening (a_square h) (inr g) = omega arith
no_opening (a_leaf h) (inl g) = omega arith
no_opening (a_leaf h) (inr g) = omega arith

-- no tree has no token
pub no_tree : {a : Where} {l : ℕ} {r : List Token} {e : Expr} → Tree a l [] r e → ⊥
no_tree x = let s = shorter x in omega arith

pub tree_first : {a : Where} {l : ℕ} {w r : List Token} {e : Expr} → Tree a l w r e → (kind_of w ≡ 77) ⊎ (kind_of w ≡ 79) → ⊥
tree_first {w = []} x h = no_tree x
tree_first {w = t ∷ w} x h = no_opening (tree_opens x) h

-- ---- unary minus

pub data Minus (a : Where) (r : List Token) : List Token → Expr → Type 0 where
  minus : {t : Token} {w : List Token} {e : Expr} → Terminal t “-” → Tree a 7 w r e → Minus a r (t ∷ w) (Apply negate (e ▸ ε))
  no_minus : {w : List Token} {e : Expr} → Tree a 8 w r e → Minus a r w e

minus_at : {a : Where} {l : ℕ} {w r : List Token} {e : Expr} → Tree a l w r e → l ≡ 7 → Minus a r w e
minus_at (infix_operator i h p x y) g = let f = infix_is i in let b = f.few in absurd (omega arith)
minus_at {a} {w = w} {r} {e} (looser {l = l} x) g = no_minus (subst (λ (j : ℕ). Tree a (suc j) w r e) g x)
minus_at (unary_minus h x) g = minus h x
minus_at (an_atom h) g = absurd (omega arith)
minus_at (an_integer h) g = absurd (omega arith)
minus_at (a_float h) g = absurd (omega arith)
minus_at (a_string h) g = absurd (omega arith)
minus_at (parentheses h x k) g = absurd (omega arith)
minus_at (a_list h x k) g = absurd (omega arith)
minus_at (a_call q o h x k) g = absurd (omega arith)

pub minus_of : {a : Where} {w r : List Token} {e : Expr} → Tree a 7 w r e → Minus a r w e
minus_of x = minus_at x refl

first_kind : {t : Token} {r w : List Token} {e : Expr} → First t r w e → terminal_f t ≡ 92 → ⊥
first_kind (one_token l) h = let e = leaf_kind l in omega arith
first_kind (round g x k) h = let e = terminal_is g in omega arith
first_kind (square g x k) h = let e = terminal_is g in omega arith
first_kind {t} (call q g x k) h = let e = leaf_kind {t = t} (L.an_atom q) in omega arith

pub no_minus_first : {a : Where} {w r : List Token} {e : Expr} → Tree a 8 w r e → kind_of w ≡ 92 → ⊥
no_minus_first {w = []} x h = no_tree x
no_minus_first {w = t ∷ w} x h = first_kind (first_token x) h

-- ---- lists

-- the first element of a list, and what follows: the end, or a comma and the others
pub data After (x : List Token) : List Token → Exprs → Type 0 where
  at_close : After x x ε
  at_comma : {t : Token} {m : List Token} {es : Exprs} → Terminal t “comma” → SomeTrees m x es → After x (t ∷ m) es

pub record Element (w x : List Token) (es : Exprs) : Type 0 where
  pub rest : List Token
  pub first : Expr
  pub others : Exprs
  pub are : es ≡ first ▸ others
  pub tree : Tree anywhere 1 w rest first
  pub after : After x rest others

pub element : {w x : List Token} {es : Exprs} → SomeTrees w x es → Element w x es
element {x = x} (last {e = e} t) = record { rest = x; first = e; others = ε; are = refl; tree = t; after = at_close }
element (then_more {m = m} {t = t} {e = e} {es = es} y h z) = record { rest = t ∷ m; first = e; others = es; are = refl; tree = y; after = at_comma h z }

pub some_shorter : {w x : List Token} {es : Exprs} → SomeTrees w x es → length x < length w
some_shorter (last t) = shorter t
some_shorter (then_more y h z) = let a = shorter y in let b = some_shorter z in omega arith

pub comma_ends : {t : Token} (m : List Token) → Terminal t “comma” → Ends anywhere (t ∷ m)
unfolding infix_f
comma_ends m h = ends_at m h refl refl

pub round_ends : {t : Token} (m : List Token) → Terminal t “close” → Ends anywhere (t ∷ m)
unfolding infix_f
round_ends m h = ends_at m h refl refl

pub square_ends : {t : Token} (m : List Token) → Terminal t “]” → Ends anywhere (t ∷ m)
unfolding infix_f
square_ends m h = ends_at m h refl refl
