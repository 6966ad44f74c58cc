-- Law: a guideline that loads is sized: where no token passes its limit, no byte is over 127 and no list is too long, so it is with every expression. By induction on the tree and the structure.
use Rattle.std.specs.Prelude.{ℕ, zero, suc, ◌+◌, ◌≤◌, ◌<◌, ◌≡◌, refl, Bool, true, false, cond, ◌||◌, ◌⊎◌, List, [], ◌∷◌, ◌++◌, map, eqb, leb, length, take, drop}
use Rattle.std.proofs.Common.{arith, sym, ap, subst, ◌∙◌, inl, inr, leb-true, leb-false}
use Rattle.paper_expressions.specs.Limits.{list_limit}
use Rattle.paper_expressions.specs.View.{At, at_first, at_later}
use Rattle.paper_expressions.specs.Expressions.{Expr, Exprs, ε, ◌▸◌}
use Rattle.paper_expressions.proofs.Laws.Tests.{two}
use Rattle.paper_expressions.proofs.Laws.WithinLimits as Within
use Within.{Modest, AllModest, atom_modest, integer_modest, float_modest, string_modest, paren_modest, listing_modest, apply_modest, none_modest, more_modest}
use Rattle.paper_tokens.specs.Lexical
use Lexical.{Token, Tokens, at_end, skip, take_token, inner, part}
use Rattle.paper_tokens.specs.Terminals.{Terminal, name}
use Rattle.paper_guideline.specs.Tree
use Tree.{Where, Tree, infix_operator, looser, unary_minus, an_atom, an_integer, a_float, a_string, parentheses, a_list, a_call, empty, nonempty, last, then_more}
use Rattle.paper_guideline.specs.Structure
use Structure.{Name, Outermost, Placed, Assignment, ComponentAttribute, Generic, caption, description, SourceAttribute, source_generic, mandatory}
use Structure.{Attribute, generic, precondition, wait_condition, terminate, postcondition, trigger, component, source, Class, Task, DataItem, TopLevel, task, data_item, tasks, data_items}
use Structure.{Says, says, SaysYesOrNo, says_yes_or_no, SaysName, says_name, Series, none, and_more, Assertion, assignment, both, in_parentheses, ComponentAttributeAt, constraint, is_terminal, GenericAt, a_caption, a_description}
use Structure.{SourceAttributeAt, a_source_generic, is_mandatory, AttributeAt, a_precondition, a_wait_condition, a_postcondition, a_trigger, a_component, a_terminate_condition, a_source, TaskAt, a_task, DataItemAt, a_data_item, TopLevelAt, a_top_task, a_top_data_item, guideline}
use Rattle.paper_guideline.specs.Parts.{Role, assigned_to, Typed, expressions, assignments, sources}
use Rattle.paper_guideline.proofs.Laws.TreeLaws.{Each, all, ◌&◌}
use Rattle.paper_guideline.specs.Limits.{task_limit, data_item_limit, assignment_limit, source_limit, larger, count, longest_list, longest_lists}
use Rattle.paper_guideline.specs.Refusals
use Refusals.{TokenBreach, long_name, long_text, large_integer, large_real, text_stage, limit_stage, high_byte, token_breach, long_list, many_tasks, many_data_items, many_assignments, many_sources, Read, Answers, loads, is_loaded}
use Rattle.paper_rows.proofs.Laws.Lists.{no_element, each, at_each, map_at, parted}
use Rattle.paper_guideline.specs.Parts.{typed, of_generic, of_source, of_attribute, expressions_from}
use Rattle.paper_rows.proofs.Laws.Sized.{Ascii, Plain, AllPlain, Sized}

-- ---- the larger of two numbers

first_within : (n m : ℕ) {l : ℕ} → larger n m ≤ l → n ≤ l
first_within n m {l} h = go (leb n m) refl h
  where
    go : (b : Bool) → leb n m ≡ b → cond b m n ≤ l → n ≤ l
    go true e q = let z = leb-true n m e in omega arith
    go false e q = q

second_within : (n m : ℕ) {l : ℕ} → larger n m ≤ l → m ≤ l
second_within n m {l} h = go (leb n m) refl h
  where
    go : (b : Bool) → leb n m ≡ b → cond b m n ≤ l → m ≤ l
    go true e q = q
    go false e q = let z = leb-false n m e in omega arith

within : {n m : ℕ} → ¬ (m < n) → n ≤ m
within h = omega arith

as_many : (es : Exprs) → Within.size es ≡ count es
as_many ε = refl
as_many (e ▸ es) = ap suc (as_many es)

-- ---- one token

pub record Fine (t : Token) : Type 0 where
  pub within : ¬ TokenBreach t
  pub ascii : Ascii t.bytes

-- a text without its quotes, as Lexical takes them off
abbrev but_last : List ℕ → List ℕ
but_last [] = []
but_last (b ∷ []) = []
but_last (b ∷ c ∷ w) = b ∷ but_last (c ∷ w)

but_last_ascii : (w : List ℕ) → Ascii w → Ascii (but_last w)
but_last_ascii [] f i b h = absurd (no_element h)
but_last_ascii (a ∷ []) f i b h = absurd (no_element h)
but_last_ascii (a ∷ c ∷ w) f i b h = go h (λ j q. but_last_ascii (c ∷ w) (λ k d z. f (suc k) d (at_later z)) j b q)
  where
    go : {i : ℕ} → At (a ∷ but_last (c ∷ w)) i b → ((j : ℕ) → At (but_last (c ∷ w)) j b → b ≤ 127) → b ≤ 127
    go q r = by (first_or_later q)
      where
        first_or_later : {A : Type 0} {l : List A} {x y : A} {i : ℕ} → At (x ∷ l) i y → (x ≡ y) ⊎ ((j : ℕ) × At l j y)
        first_or_later at_first = inl refl
        first_or_later (at_later {i} h) = inr (i, h)

        by : (a ≡ b) ⊎ ((j : ℕ) × At (but_last (c ∷ w)) j b) → b ≤ 127
        by (inl e) = subst (λ (x : ℕ). x ≤ 127) e (f 0 a at_first)
        by (inr z) = r z.0 z.1

inner_ascii : (w : List ℕ) → Ascii w → Ascii (inner w)
inner_ascii [] f = f
inner_ascii (b ∷ w) f = go (eqb b 39 || eqb b 34)
  where
    go : (c : Bool) → Ascii (cond c (but_last w) (b ∷ w))
    go true = but_last_ascii w (λ k d z. f (suc k) d (at_later z))
    go false = f

name_ascii : {t : Token} → Fine t → Ascii (name t)
name_ascii {t} h = inner_ascii t.bytes h.ascii

first_of : {t : Token} {ts : List Token} → Each Fine (t ∷ ts) → Fine t
first_of (h & hs) = h

rest_of : {t : Token} {ts : List Token} → Each Fine (t ∷ ts) → Each Fine ts
rest_of (h & hs) = hs

-- ---- the tree

-- of fine tokens w, those behind it, r, are fine, and it is modest and plain where its lists are short
record Is (w r : List Token) (longest : ℕ) (M P : Type 0) : Type 0 where
  pub rest : Each Fine w → Each Fine r
  pub modest : Each Fine w → longest ≤ list_limit → M
  pub plain : Each Fine w → P

tree_is : {a : Where} {l : ℕ} {w r : List Token} {e : Expr} → Tree a l w r e → Is w r (longest_list e) (Modest e) (Plain e)
tree_is x = elim x as (λ a l w r e x. Is w r (longest_list e) (Modest e) (Plain e)) (λ w r es x. Is w r (longest_lists es) (AllModest es) (AllPlain es)) (λ w r es x. Is w r (longest_lists es) (AllModest es) (AllPlain es)) [
  | infix_operator {e} {f = g} m t p (x → i) (y → j) ↦ record {
    rest = λ f. j.rest (rest_of (i.rest f));
    modest = λ f s. apply_modest (more_modest
        (i.modest f (first_within (longest_list e) (longest_lists (g ▸ ε)) s))
        (more_modest (j.modest (rest_of (i.rest f)) (first_within (longest_list g) 0 (second_within (longest_list e) (longest_lists (g ▸ ε)) s))) none_modest));
    plain = λ f. (i.plain f, (j.plain (rest_of (i.rest f)), tt));
  }
  | looser (x → i) ↦ i
  | unary_minus {e} t (x → i) ↦ record {
    rest = λ f. i.rest (rest_of f);
    modest = λ f s. apply_modest (more_modest (i.modest (rest_of f) (first_within (longest_list e) 0 s)) none_modest);
    plain = λ f. (i.plain (rest_of f), tt);
  }
  | an_atom q ↦ record { rest = rest_of; modest = λ f s. atom_modest (within (λ l. (first_of f).within (long_name q l))); plain = λ f. name_ascii (first_of f) }
  | an_integer q ↦ record { rest = rest_of; modest = λ f s. integer_modest (within (λ l. (first_of f).within (large_integer q l))); plain = λ f. tt }
  | a_float q ↦ record { rest = rest_of; modest = λ f s. float_modest (within (λ l. (first_of f).within (large_real q l))); plain = λ f. tt }
  | a_string q ↦ record { rest = rest_of; modest = λ f s. string_modest (within (λ l. (first_of f).within (long_text q l))); plain = λ f. name_ascii (first_of f) }
  | parentheses t (x → i) c ↦ record { rest = λ f. rest_of (i.rest (rest_of f)); modest = λ f s. paren_modest (i.modest (rest_of f) s); plain = λ f. i.plain (rest_of f) }
  | a_list {es} t (x → i) c ↦ record {
    rest = λ f. rest_of (i.rest (rest_of f));
    modest = λ f s.
        let n = first_within (count es) (longest_lists es) s in
        let m = as_many es in
        listing_modest {es = es} (omega arith) (i.modest (rest_of f) (second_within (count es) (longest_lists es) s));
    plain = λ f. i.plain (rest_of f);
  }
  | a_call q o t (x → i) c ↦ record { rest = λ f. rest_of (i.rest (rest_of (rest_of f))); modest = λ f s. apply_modest (i.modest (rest_of (rest_of f)) s); plain = λ f. i.plain (rest_of (rest_of f)) }
  | empty ↦ record { rest = λ f. f; modest = λ f s. none_modest; plain = λ f. tt }
  | nonempty (x → i) ↦ i
  | last {e} (x → i) ↦ record { rest = i.rest; modest = λ f s. more_modest (i.modest f (first_within (longest_list e) 0 s)) none_modest; plain = λ f. (i.plain f, tt) }
  | then_more {e} {es} (x → i) t (y → j) ↦ record {
    rest = λ f. j.rest (rest_of (i.rest f));
    modest = λ f s. more_modest (i.modest f (first_within (longest_list e) (longest_lists es) s)) (j.modest (rest_of (i.rest f)) (second_within (longest_list e) (longest_lists es) s));
    plain = λ f. (i.plain f, j.plain (rest_of (i.rest f)));
  }
]

-- ---- what a production says of fine tokens: those behind it are fine, and its expressions are within the limits

pub record Good (e : Expr) : Type 0 where
  pub modest : longest_list e ≤ list_limit → Modest e
  pub plain : Plain e

abbrev GoodAll : List Typed → Type 0
GoodAll l = (i : ℕ) (x : Typed) → At l i x → Good x.expression.tree

abbrev Leaves : List Token → List Token → Type 0 → Type 0
Leaves w r P = Each Fine w → Each Fine r × P

tree_leaves : {a : Where} {l : ℕ} {w r : List Token} {e : Expr} → Tree a l w r e → Leaves w r (Good e)
tree_leaves x f = let i = tree_is x in (i.rest f, record { modest = λ s. i.modest f s; plain = i.plain f })

says_leaves : {k : ℕ} {w r : List Token} {x : Placed Outermost} → Says k w r x → Leaves w r (Good x.what.tree)
says_leaves (says t c x s) f = let i = tree_leaves x (rest_of (rest_of f)) in (rest_of i.0, i.1)

yes_or_no_leaves : {k : ℕ} {w r : List Token} {b : Placed Bool} → SaysYesOrNo k w r b → Leaves w r (Unit {0})
yes_or_no_leaves (says_yes_or_no t c y s) f = (rest_of (rest_of (rest_of (rest_of f))), tt)

name_leaves : {k : ℕ} {w r : List Token} {n : Placed Name} → SaysName k w r n → Leaves w r (Unit {0})
name_leaves (says_name t c n s) f = (rest_of (rest_of (rest_of (rest_of f))), tt)

series_leaves : {A : Type 0} {One : List Token → List Token → A → Type 0} {w r : List Token} {xs : List A} (P : A → Type 0) → ((w r : List Token) (a : A) → One w r a → Leaves w r (P a))
    → Series One w r xs → Leaves w r ((i : ℕ) (a : A) → At xs i a → P a)
series_leaves P k none f = (f, λ i a h. absurd (no_element h))
series_leaves {A} P k (and_more {w} {m} {a} {xs} h s) f =
    let x = k w m a h f in
    let y = series_leaves P k s x.0 in
    (y.0, λ i b q. more x.1 y.1 q)
  where
    more : {a : A} {xs : List A} {i : ℕ} {b : A} → P a → ((i : ℕ) (a : A) → At xs i a → P a) → At (a ∷ xs) i b → P b
    more p g at_first = p
    more p g (at_later {i = j} q) = g j _ q

typed_good : {t i : ℕ} {r : Role} {o : Outermost} {x : Typed} → Good o.tree → At (typed t r o) i x → Good x.expression.tree
typed_good g at_first = g
typed_good g (at_later h) = absurd (no_element h)

generic_leaves : {w r : List Token} {x : Placed Generic} → GenericAt w r x → Leaves w r ((t : ℕ) → GoodAll (of_generic t x.what))
generic_leaves (a_caption h) f = let x = says_leaves h f in (x.0, λ t i y q. typed_good x.1 q)
generic_leaves (a_description h) f = let x = says_leaves h f in (x.0, λ t i y q. typed_good x.1 q)

source_attribute_leaves : {w r : List Token} {x : Placed SourceAttribute} → SourceAttributeAt w r x → Leaves w r ((t : ℕ) → GoodAll (of_source t x.what))
source_attribute_leaves (a_source_generic h) f = generic_leaves h f
source_attribute_leaves (is_mandatory h) f = ((yes_or_no_leaves h f).0, λ t i y q. absurd (no_element q))

component_leaves : {w r : List Token} {x : Placed ComponentAttribute} → ComponentAttributeAt w r x → Leaves w r (Unit {0})
component_leaves (constraint a b c d e g h) f = (rest_of (rest_of (rest_of (rest_of (rest_of (rest_of (rest_of f)))))), tt)
component_leaves (is_terminal h) f = yes_or_no_leaves h f

assertion_leaves : {w r : List Token} {xs : List Assignment} → Assertion w r xs → Leaves w r ((i : ℕ) (a : Assignment) → At xs i a → Good a.value.tree)
assertion_leaves (assignment h k x) f = let i = tree_leaves x (rest_of (rest_of f)) in (i.0, λ j a q. only i.1 q)
  where
    only : {b a : Assignment} {j : ℕ} → Good b.value.tree → At (b ∷ []) j a → Good a.value.tree
    only g at_first = g
    only g (at_later q) = absurd (no_element q)
assertion_leaves (both {xs} h t k) f =
    let x = assertion_leaves h f in
    let y = assertion_leaves k (rest_of x.0) in
    (y.0, λ j a q. go x.1 y.1 (parted xs q))
  where
    go : {ys zs : List Assignment} {a : Assignment} → ((i : ℕ) (a : Assignment) → At ys i a → Good a.value.tree) → ((i : ℕ) (a : Assignment) → At zs i a → Good a.value.tree)
        → ((j : ℕ) × At ys j a) ⊎ ((j : ℕ) × At zs j a) → Good a.value.tree
    go p q (inl z) = p z.0 _ z.1
    go p q (inr z) = q z.0 _ z.1
assertion_leaves (in_parentheses t h c) f = let x = assertion_leaves h (rest_of f) in (rest_of x.0, x.1)

-- what each of a list gives
each_good : {A : Type 0} (f : A → List Typed) (l : List A) → ((i : ℕ) (a : A) → At l i a → GoodAll (f a)) → GoodAll (each f l)
each_good f l k i x h = let q = at_each f l h in k q.0 q.2 q.3 q.1 x q.4

attribute_leaves : {c : Class} {w r : List Token} {x : Placed Attribute} → AttributeAt c w r x → Leaves w r ((t : ℕ) → GoodAll (of_attribute t x.what))
attribute_leaves (a_precondition h) f = let x = says_leaves h f in (x.0, λ t i y q. typed_good x.1 q)
attribute_leaves (a_wait_condition h) f = let x = says_leaves h f in (x.0, λ t i y q. typed_good x.1 q)
attribute_leaves (a_postcondition {xs} t c h s) f =
    let x = assertion_leaves h (rest_of (rest_of f)) in
    (rest_of x.0, λ t. each_good (λ (a : Assignment). typed t (assigned_to a.target) a.value) xs (λ i a q j y z. typed_good (x.1 i a q) z))
attribute_leaves (a_trigger h) f = ((name_leaves h f).0, λ t i y q. absurd (no_element q))
attribute_leaves (a_component h s) f = ((series_leaves (λ (a : Placed ComponentAttribute). Unit {0}) (λ w r a k. component_leaves k) s (name_leaves h f).0).0, λ t i y q. absurd (no_element q))
attribute_leaves (a_terminate_condition h) f = let x = says_leaves h f in (x.0, λ t i y q. typed_good x.1 q)
attribute_leaves (a_source {xs} h s) f =
    let x = series_leaves (λ (a : Placed SourceAttribute). (t : ℕ) → GoodAll (of_source t a.what)) (λ w r a k. source_attribute_leaves k) s (name_leaves h f).0 in
    (x.0, λ t. each_good (λ (a : Placed SourceAttribute). of_source t a.what) xs (λ i a q. x.1 i a q t))

task_leaves : {w r : List Token} {k : Task} → TaskAt w r k → Leaves w r ((t : ℕ) → GoodAll (each (λ (a : Placed Attribute). of_attribute t a.what) k.attributes))
task_leaves (a_task {gs} {xs} h g s a b c) f =
    let x = series_leaves (λ (p : Placed Generic). (t : ℕ) → GoodAll (of_generic t p.what)) (λ w r p k. generic_leaves k) g (name_leaves h f).0 in
    let y = series_leaves (λ (p : Placed Attribute). (t : ℕ) → GoodAll (of_attribute t p.what)) (λ w r p k. attribute_leaves k) s x.0 in (
      rest_of (rest_of (rest_of y.0)),
      λ t. each_good (λ (p : Placed Attribute). of_attribute t p.what) (map (λ (p : Placed Generic). record { word = p.word; what = generic p.what }) gs ++ xs)
          (λ i p q. by x.1 y.1 t (parted (map (λ (p : Placed Generic). record { word = p.word; what = generic p.what }) gs) q)),
    )
  where
    by : {gs : List (Placed Generic)} {xs : List (Placed Attribute)} {p : Placed Attribute} → ((i : ℕ) (a : Placed Generic) → At gs i a → (t : ℕ) → GoodAll (of_generic t a.what))
        → ((i : ℕ) (a : Placed Attribute) → At xs i a → (t : ℕ) → GoodAll (of_attribute t a.what)) → (t : ℕ)
        → ((j : ℕ) × At (map (λ (p : Placed Generic). record { word = p.word; what = generic p.what }) gs) j p) ⊎ ((j : ℕ) × At xs j p) → GoodAll (of_attribute t p.what)
    by {gs} u v t (inl z) =
        let q = map_at (λ (p : Placed Generic). record { word = p.word; what = generic p.what }) gs z.1 in
        subst (λ (p : Placed Attribute). GoodAll (of_attribute t p.what)) q.2 (u z.0 q.0 q.1 t)
    by u v t (inr z) = v z.0 _ z.1 t

item_leaves : {w r : List Token} {d : DataItem} → DataItemAt w r d → Leaves w r (GoodAll (each (λ (a : Placed Generic). of_generic 0 a.what) d.attributes))
item_leaves (a_data_item {gs} h t c y s g a b d) f =
    let x = series_leaves (λ (p : Placed Generic). (t : ℕ) → GoodAll (of_generic t p.what)) (λ w r p k. generic_leaves k) g (rest_of (rest_of (rest_of (rest_of (name_leaves h f).0)))) in
    (rest_of (rest_of (rest_of x.0)), each_good (λ (p : Placed Generic). of_generic 0 p.what) gs (λ i p q. x.1 i p q 0))

joined_good : {l m : List Typed} → GoodAll l → GoodAll m → GoodAll (l ++ m)
joined_good {l} {m} p q i x h = go (parted l h)
  where
    go : ((j : ℕ) × At l j x) ⊎ ((j : ℕ) × At m j x) → Good x.expression.tree
    go (inl z) = p z.0 x z.1
    go (inr z) = q z.0 x z.1

tops_leaves : {w r : List Token} {g : List TopLevel} → Series TopLevelAt w r g → Leaves w r ((t : ℕ) → GoodAll (expressions_from t g))
tops_leaves none f = (f, λ t i x h. absurd (no_element h))
tops_leaves (and_more (a_top_task h) s) f = let x = task_leaves h f in let y = tops_leaves s x.0 in (y.0, λ t. joined_good (x.1 t) (y.1 (suc t)))
tops_leaves (and_more (a_top_data_item h) s) f = let x = item_leaves h f in let y = tops_leaves s x.0 in (y.0, λ t. joined_good x.1 (y.1 t))

structure_good : {ts : List Token} {g : List TopLevel} → Structure.Structure ts g → Each Fine ts → GoodAll (expressions g)
structure_good (guideline h k s) f = let x = task_leaves h f in let y = tops_leaves s x.0 in joined_good (x.1 0) (y.1 1)

-- ---- the tokens of a text with no byte over 127

take_ascii : (n : ℕ) (w : List ℕ) → Ascii w → Ascii (take n w)
take_ascii zero w f i b h = absurd (no_element h)
take_ascii (suc n) [] f i b h = absurd (no_element h)
take_ascii (suc n) (a ∷ w) f i b h = go h (λ j q. take_ascii n w (λ k d z. f (suc k) d (at_later z)) j b q)
  where
    go : {i : ℕ} → At (a ∷ take n w) i b → ((j : ℕ) → At (take n w) j b → b ≤ 127) → b ≤ 127
    go q r = by (first_or_later q)
      where
        first_or_later : {A : Type 0} {l : List A} {x y : A} {i : ℕ} → At (x ∷ l) i y → (x ≡ y) ⊎ ((j : ℕ) × At l j y)
        first_or_later at_first = inl refl
        first_or_later (at_later {i} h) = inr (i, h)

        by : (a ≡ b) ⊎ ((j : ℕ) × At (take n w) j b) → b ≤ 127
        by (inl e) = subst (λ (x : ℕ). x ≤ 127) e (f 0 a at_first)
        by (inr z) = r z.0 z.1

drop_ascii : (n : ℕ) (w : List ℕ) → Ascii w → Ascii (drop n w)
drop_ascii zero w f = f
drop_ascii (suc n) [] f = f
drop_ascii (suc n) (a ∷ w) f = drop_ascii n w (λ k d z. f (suc k) d (at_later z))

token_ascii : {text : List ℕ} {p i : ℕ} {ts : List Token} {t : Token} → Ascii text → Tokens text p ts → At ts i t → Ascii t.bytes
token_ascii f (at_end e) h = absurd (no_element h)
token_ascii f (skip l s k) h = token_ascii f k h
token_ascii {text} f (take_token {at} {n} l s k) at_first = take_ascii n (drop at text) (drop_ascii at text f)
token_ascii f (take_token l s k) (at_later h) = token_ascii f k h

each_fine : (ts : List Token) → ((i : ℕ) (t : Token) → At ts i t → Fine t) → Each Fine ts
each_fine [] f = all
each_fine (t ∷ ts) f = f 0 t at_first & each_fine ts (λ i u a. f (suc i) u (at_later a))

-- ---- what loads is sized

pub sized : {Short : Type 0} {text : List ℕ} {g : List TopLevel} → Answers Short text loads → Read text g → Sized g
sized {Short} {text} {g} (is_loaded r n) q =
    record {
      few_tasks = within (λ l. n limit_stage _ (many_tasks q l));
      few_items = within (λ l. n limit_stage _ (many_data_items q l));
      few_assignments = within (λ l. n limit_stage _ (many_assignments q l));
      few_sources = within (λ l. n limit_stage _ (many_sources q l));
      modest = λ {i} {x} h. (good i x h).modest (within (λ l. n limit_stage _ (long_list q h l)));
      plain = λ {i} {x} h. (good i x h).plain;
    }
  where
    ascii : Ascii text
    ascii i b h = within (λ l. n text_stage i (high_byte h l))

    good : GoodAll (expressions g)
    good = structure_good q.structure (each_fine q.tokens (λ i t h. record { within = λ b. n limit_stage _ (token_breach q.its h b); ascii = token_ascii ascii q.its h }))
