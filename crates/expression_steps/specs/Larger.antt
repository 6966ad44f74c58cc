-- The larger of two numbers, and how deep an expression can be: no deeper than it has tokens. By cases, and by induction on the derivation.
use Rattle.std.specs.Prelude.{ℕ, zero, suc, ◌+◌, ◌-◌, ◌≤◌, ◌<◌, ◌≡◌, refl, true, false, ◌⊎◌, List, leb, length, max}
use Rattle.std.proofs.Common.{◌∙◌, inl, inr, ⊎_elim, arith, leb-true, leb-false, le-leb}
use Rattle.std.proofs.lemmas.Bool.{lt-leb}
use Rattle.paper_expressions.proofs.Laws.Tests.{two}
use Rattle.paper_expressions.specs.Expressions.{Expr, Exprs}
use Rattle.paper_guideline.specs.Limits.{larger, depth, deepest, parts, longest_list}
use Rattle.paper_tokens.specs.Lexical.{Token}
use Rattle.paper_guideline.specs.Tree
use Tree.{Where, Tree, infix_operator, looser, unary_minus, an_atom, an_integer, a_float, a_string, parentheses, a_list, a_call, Trees, empty, nonempty, SomeTrees, last, then_more}
use Rattle.expression_steps.specs.Made.{minuses}

pub larger_right : (a b : ℕ) → a ≤ b → larger a b ≡ b
larger_right a b h = rw (le-leb a b h)

larger_strict : (a b : ℕ) → b < a → larger a b ≡ a
larger_strict a b h = rw (lt-leb a b h)

-- which of them it is
pub larger_is : (a b : ℕ) → ((a ≤ b) × (larger a b ≡ b)) ⊎ ((b < a) × (larger a b ≡ a))
larger_is a b = ⊎_elim
    (λ (q : leb a b ≡ true). let h = leb-true a b q in inl (h, larger_right a b h))
    (λ (q : leb a b ≡ false). let h = leb-false a b q in inr (h, larger_strict a b h))
    (two (leb a b))

pub larger_left : (a b : ℕ) → b ≤ a → larger a b ≡ a
larger_left a b h = ⊎_elim
    (λ (q : (a ≤ b) × (larger a b ≡ b)). let l = q.0 in let e = q.1 in omega arith)
    (λ (q : (b < a) × (larger a b ≡ a)). q.1)
    (larger_is a b)

pub larger_none : (a : ℕ) → larger a 0 ≡ a
larger_none a = larger_left a 0 (omega arith)

pub larger_zero : (a : ℕ) → larger 0 a ≡ a
larger_zero a = larger_right 0 a (omega arith)

pub first_larger : (a b : ℕ) → a ≤ larger a b
first_larger a b = ⊎_elim
    (λ (q : (a ≤ b) × (larger a b ≡ b)). let l = q.0 in let e = q.1 in omega arith)
    (λ (q : (b < a) × (larger a b ≡ a)). let e = q.1 in omega arith)
    (larger_is a b)

pub second_larger : (a b : ℕ) → b ≤ larger a b
second_larger a b = ⊎_elim
    (λ (q : (a ≤ b) × (larger a b ≡ b)). let e = q.1 in omega arith)
    (λ (q : (b < a) × (larger a b ≡ a)). let l = q.0 in let e = q.1 in omega arith)
    (larger_is a b)

-- neither is more than c
pub larger_below : (a b c : ℕ) → a ≤ c → b ≤ c → larger a b ≤ c
larger_below a b c h g = ⊎_elim
    (λ (q : (a ≤ b) × (larger a b ≡ b)). let e = q.1 in omega arith)
    (λ (q : (b < a) × (larger a b ≡ a)). let e = q.1 in omega arith)
    (larger_is a b)

assoc_below : (a b c : ℕ) → a ≤ b → larger a b ≡ b → ((b ≤ c) × (larger b c ≡ c)) ⊎ ((c < b) × (larger b c ≡ b)) → larger (larger a b) c ≡ larger a (larger b c)
assoc_below a b c h e (inl q) = let l = q.0 in let f = q.1 in let g = larger_right a c (omega arith) in cc
assoc_below a b c h e (inr q) = let f = q.1 in cc

assoc_above : (a b c : ℕ) → b < a → larger a b ≡ a → ((b ≤ c) × (larger b c ≡ c)) ⊎ ((c < b) × (larger b c ≡ b)) → larger (larger a b) c ≡ larger a (larger b c)
assoc_above a b c h e (inl q) = let f = q.1 in cc
assoc_above a b c h e (inr q) = let l = q.0 in let f = q.1 in let g = larger_left a c (omega arith) in cc

pub larger_assoc : (a b c : ℕ) → larger (larger a b) c ≡ larger a (larger b c)
larger_assoc a b c = ⊎_elim
    (λ (q : (a ≤ b) × (larger a b ≡ b)). assoc_below a b c q.0 q.1 (larger_is b c))
    (λ (q : (b < a) × (larger a b ≡ a)). assoc_above a b c q.0 q.1 (larger_is b c))
    (larger_is a b)

-- ---- each step into an expression is a token

-- the larger of two operands, with an operator or a comma between them
both_deep : (a b w m r n : ℕ) → a + suc m ≤ w → b + r ≤ m → n ≡ b → larger a n + 1 + r ≤ w
both_deep a b w m r n h g e = let k = larger_below a n (w - r - 1) (omega arith) (omega arith) in omega arith

pub tree_deep : {a : Where} {l : ℕ} {w r : List Token} {e : Expr} → Tree a l w r e → depth e + length r ≤ length w
tree_deep x = elim x as (λ a l w r e x. depth e + length r ≤ length w) (λ w r es x. deepest es + length r ≤ length w) (λ w r es x. deepest es + length r ≤ length w) [
  | infix_operator {w = w} {m = m} {r = r} {e = e} {f = f} i h p (x → b) (y → g) ↦
      let k = both_deep (depth e) (depth f) (length w) (length m) (length r) (larger (depth f) 0) b g (larger_none (depth f)) in omega arith
  | looser (x → f) ↦ f
  | unary_minus {e = e} h (x → f) ↦ let z = larger_none (depth e) in omega arith
  | an_atom h ↦ omega arith
  | an_integer h ↦ omega arith
  | a_float h ↦ omega arith
  | a_string h ↦ omega arith
  | parentheses h (x → f) k ↦ omega arith
  | a_list h (x → f) k ↦ omega arith
  | a_call e o h (x → f) k ↦ omega arith
  | empty ↦ omega arith
  | nonempty (x → f) ↦ f
  | last {e = e} (x → f) ↦ let z = larger_none (depth e) in omega arith
  | then_more {w = w} {m = m} {r = r} {e = e} {es = es} (x → f) h (y → g) ↦
      let k = both_deep (depth e) (deepest es) (length w) (length m) (length r) (deepest es) f g refl in omega arith
]

some_deep : {w r : List Token} {es : Exprs} → SomeTrees w r es → deepest es + length r ≤ length w
some_deep (last {e = e} x) = let f = tree_deep x in let z = larger_none (depth e) in omega arith
some_deep (then_more {w = w} {m = m} {r = r} {e = e} {es = es} x h y) =
    let k = both_deep (depth e) (deepest es) (length w) (length m) (length r) (deepest es) (tree_deep x) (some_deep y) refl in omega arith

pub trees_deep : {w r : List Token} {es : Exprs} → Trees w r es → deepest es + length r ≤ length w
trees_deep empty = omega arith
trees_deep (nonempty x) = some_deep x

-- ---- minuses

pub minuses_parts : (m : ℕ) (e : Expr) → parts (minuses m e) ≡ parts e + m
minuses_parts zero e = omega arith
minuses_parts (suc m) e = let i = minuses_parts m e in omega arith

pub minuses_depth : (m : ℕ) (e : Expr) → depth (minuses m e) ≡ depth e + m
minuses_depth zero e = omega arith
minuses_depth (suc m) e = let i = minuses_depth m e in let z = larger_none (depth (minuses m e)) in omega arith

pub minuses_longest : (m : ℕ) (e : Expr) → longest_list (minuses m e) ≡ longest_list e
minuses_longest zero e = refl
minuses_longest (suc m) e = larger_none (longest_list (minuses m e)) ∙ minuses_longest m e

pub larger_max : (a b : ℕ) → max a b ≡ larger a b
larger_max a b = ⊎_elim
    (λ (q : (a ≤ b) × (larger a b ≡ b)). let l = q.0 in let e = q.1 in omega arith)
    (λ (q : (b < a) × (larger a b ≡ a)). let l = q.0 in let e = q.1 in omega arith)
    (larger_is a b)
