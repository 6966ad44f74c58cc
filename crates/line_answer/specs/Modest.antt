-- Law: where no token passes its limit and no list is too long, the tree is one whose values lie within the limits. By induction on the tree.
use Rattle.std.specs.Prelude.{ℕ, suc, ◌≤◌, ◌<◌, ◌≡◌, refl, List, [], ◌∷◌}
use Rattle.std.proofs.Common.{arith, ap, ⊎_elim}
use Rattle.paper_expressions.specs.Limits.{list_limit}
use Rattle.paper_expressions.specs.View.{At, at_first, at_later}
use Rattle.paper_expressions.specs.Expressions.{Expr, Exprs, ε, ◌▸◌}
use Rattle.paper_expressions.proofs.Laws.WithinLimits as Within
use Within.{Modest, AllModest, atom_modest, integer_modest, float_modest, string_modest, paren_modest, listing_modest, apply_modest, none_modest, more_modest}
use Rattle.paper_tokens.specs.Lexical.{Token}
use Rattle.paper_guideline.specs.Tree
use Tree.{Where, Tree, infix_operator, looser, unary_minus, an_atom, an_integer, a_float, a_string, parentheses, a_list, a_call, empty, nonempty, last, then_more}
use Rattle.paper_guideline.proofs.Laws.TreeLaws.{Each, all, ◌&◌}
use Rattle.paper_guideline.specs.Limits.{larger, count, longest_list, longest_lists}
use Rattle.paper_guideline.specs.Refusals.{TokenBreach, long_name, long_text, large_integer, large_real}
use Rattle.expression_steps.specs.Larger.{first_larger, second_larger}
use Rattle.paper_guideline.proofs.Laws.RefusalLaws.{le_or_gt}

-- ---- the larger of two numbers

first_within : (n m : ℕ) {l : ℕ} → larger n m ≤ l → n ≤ l
first_within n m h = let k = first_larger n m in omega arith

second_within : (n m : ℕ) {l : ℕ} → larger n m ≤ l → m ≤ l
second_within n m h = let k = second_larger n m in omega arith

as_many : (es : Exprs) → Within.size es ≡ count es
as_many ε = refl
as_many (e ▸ es) = ap suc (as_many es)

-- ---- one token

abbrev Fine : Token → Type 0
Fine t = ¬ TokenBreach t

within : {n m : ℕ} → ¬ (m < n) → n ≤ m
within {n} {m} h = ⊎_elim (λ l. l) (λ l. absurd (h l)) (le_or_gt n m)

first_of : {t : Token} {ts : List Token} → Each Fine (t ∷ ts) → Fine t
first_of (h & hs) = h

rest_of : {t : Token} {ts : List Token} → Each Fine (t ∷ ts) → Each Fine ts
rest_of (h & hs) = hs

each_fine : (ts : List Token) → ((i : ℕ) (t : Token) → At ts i t → ¬ TokenBreach t) → Each Fine ts
each_fine [] f = all
each_fine (t ∷ ts) f = f 0 t at_first & each_fine ts (λ i u a. f (suc i) u (at_later a))

-- ---- the tree

-- of fine tokens w, those behind it, r, are fine, and it is modest where its lists are short
record Is (w r : List Token) (longest : ℕ) (M : Type 0) : Type 0 where
  pub rest : Each Fine w → Each Fine r
  pub modest : Each Fine w → longest ≤ list_limit → M

tree_is : {a : Where} {l : ℕ} {w r : List Token} {e : Expr} → Tree a l w r e → Is w r (longest_list e) (Modest e)
tree_is x = elim x as (λ a l w r e x. Is w r (longest_list e) (Modest e)) (λ w r es x. Is w r (longest_lists es) (AllModest es)) (λ w r es x. Is w r (longest_lists es) (AllModest es)) [
  | infix_operator {e} {f = g} m t p (x → i) (y → j) ↦ record {
    rest = λ f. j.rest (rest_of (i.rest f));
    modest = λ f s. apply_modest (more_modest
        (i.modest f (first_within (longest_list e) (longest_lists (g ▸ ε)) s))
        (more_modest (j.modest (rest_of (i.rest f)) (first_within (longest_list g) 0 (second_within (longest_list e) (longest_lists (g ▸ ε)) s))) none_modest));
  }
  | looser (x → i) ↦ i
  | unary_minus {e} t (x → i) ↦ record {
    rest = λ f. i.rest (rest_of f);
    modest = λ f s. apply_modest (more_modest (i.modest (rest_of f) (first_within (longest_list e) 0 s)) none_modest);
  }
  | an_atom q ↦ record { rest = rest_of; modest = λ f s. atom_modest (within (λ l. first_of f (long_name q l))) }
  | an_integer q ↦ record { rest = rest_of; modest = λ f s. integer_modest (within (λ l. first_of f (large_integer q l))) }
  | a_float q ↦ record { rest = rest_of; modest = λ f s. float_modest (within (λ l. first_of f (large_real q l))) }
  | a_string q ↦ record { rest = rest_of; modest = λ f s. string_modest (within (λ l. first_of f (long_text q l))) }
  | parentheses t (x → i) c ↦ record { rest = λ f. rest_of (i.rest (rest_of f)); modest = λ f s. paren_modest (i.modest (rest_of f) s) }
  | a_list {es} t (x → i) c ↦ record {
    rest = λ f. rest_of (i.rest (rest_of f));
    modest = λ f s.
        let n = first_within (count es) (longest_lists es) s in
        let m = as_many es in
        listing_modest {es = es} (omega arith) (i.modest (rest_of f) (second_within (count es) (longest_lists es) s));
  }
  | a_call q o t (x → i) c ↦ record { rest = λ f. rest_of (i.rest (rest_of (rest_of f))); modest = λ f s. apply_modest (i.modest (rest_of (rest_of f)) s) }
  | empty ↦ record { rest = λ f. f; modest = λ f s. none_modest }
  | nonempty (x → i) ↦ i
  | last {e} (x → i) ↦ record { rest = i.rest; modest = λ f s. more_modest (i.modest f (first_within (longest_list e) 0 s)) none_modest }
  | then_more {e} {es} (x → i) t (y → j) ↦ record {
    rest = λ f. j.rest (rest_of (i.rest f));
    modest = λ f s. more_modest (i.modest f (first_within (longest_list e) (longest_lists es) s)) (j.modest (rest_of (i.rest f)) (second_within (longest_list e) (longest_lists es) s));
  }
]

pub modest : {a : Where} {l : ℕ} {w r : List Token} {e : Expr} → Tree a l w r e → ((i : ℕ) (t : Token) → At w i t → ¬ TokenBreach t) → longest_list e ≤ list_limit → Modest e
modest {w} x f s = (tree_is x).modest (each_fine w f) s
