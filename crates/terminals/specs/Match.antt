-- A match on a number: what a test that antt computes says of the number at hand, by the keys of the arms or at every byte.
use Rattle.std.specs.Prelude.{◌≡◌, Bool, true, false, not, ◌||◌, ◌⊎◌, List, [], ◌∷◌, ℕ, ◌≤◌, ◌<◌, T, leb, ltb, eqb}
use Rattle.std.proofs.Common.{sym, ap, subst, ◌∙◌, inl, inr, ⊎_elim, arith, eqb→eq, leb→le, ltb→lt, eqb-true}
use types.Run.{OneOf, hit, miss}
use mir.Val.{has_key}
use Rattle.paper_expressions.proofs.Laws.Tests.{contra, two, and_l, and_r, every}
use Rattle.paper_grammar.proofs.Laws.Ll.{is_in}
use Rattle.terminals.specs.Every.{below, at_below, or_right, holds}

abbrev pub any_key : List (List ℕ) → ℕ → Bool
any_key [] x = false
any_key (k ∷ ks) x = has_key k x || any_key ks x

-- x is no key of any arm, the last arm first: the type of `c.match.rest`
abbrev pub None : List (List ℕ) → ℕ → Type 0
None [] x = Unit {0}
None (k ∷ ks) x = None ks x × (OneOf k x → ⊥)

no_key : (ks : List (List ℕ)) (x : ℕ) → None ks x → T (any_key ks x) → ⊥
no_key [] x n t = t
no_key (k ∷ ks) x n t = no_key ks x n.0 (or_right (has_key k x) (any_key ks x) (λ h. n.1 (hit k x h)) t)

abbrev pub test : (ℕ → ℕ) → ℕ → ℕ → ℕ → List (List ℕ) → ℕ → Bool
test f K lo hi ks x = any_key ks x || (ltb x lo || (leb hi x || eqb (f x) K))

pub law : (f : ℕ → ℕ) (K lo hi : ℕ) (ks : List (List ℕ)) → T (below (test f K lo hi ks) 256)
    → (x : ℕ) → x < 256 → lo ≤ x → x < hi → None ks x → f x ≡ K
law f K lo hi ks t x b l h n =
    eqb→eq (f x) K
    (or_right (leb hi x) (eqb (f x) K) (λ p. let q : hi ≤ x = leb→le hi x p in omega arith)
    (or_right (ltb x lo) (leb hi x || eqb (f x) K) (λ p. let q : x < lo = ltb→lt x lo p in omega arith)
    (or_right (any_key ks x) (ltb x lo || (leb hi x || eqb (f x) K)) (no_key ks x n)
    (at_below (test f K lo hi ks) 256 t x b))))

-- ---- arms that tell the members of a list from the others

key_in : (ks l : List ℕ) → every (λ j. is_in j l) ks ≡ true → (x : ℕ) → has_key ks x ≡ true → is_in x l ≡ true
key_in [] l t x h = contra h
key_in (k ∷ ks) l t x h = ⊎_elim
    (λ (e : eqb k x ≡ true). subst (λ (j : ℕ). is_in j l ≡ true) (eqb-true k x e) (and_l (is_in k l) (every (λ j. is_in j l) ks) t))
    (λ (e : eqb k x ≡ false). key_in ks l (and_r (is_in k l) (every (λ j. is_in j l) ks) t) x (sym (ap (λ (b : Bool). b || has_key ks x) e) ∙ h))
    (two (eqb k x))

-- x is a key of an arm whose keys are all in the list
pub of_key : (ks l : List ℕ) → every (λ j. is_in j l) ks ≡ true → (x : ℕ) → OneOf ks x → true ≡ is_in x l
of_key ks l t x o = sym (key_in ks l t x (⊎_elim
    (λ (e : has_key ks x ≡ true). e)
    (λ (e : has_key ks x ≡ false). absurd (miss ks x (subst (λ (b : Bool). T (not b)) (sym e) tt) o))
    (two (has_key ks x))))

in_some : (kss : List (List ℕ)) (l : List ℕ) → every (any_key kss) l ≡ true → (x : ℕ) → is_in x l ≡ true → T (any_key kss x)
in_some kss [] t x h = contra h
in_some kss (j ∷ l) t x h = ⊎_elim
    (λ (e : eqb x j ≡ true). subst (λ (i : ℕ). T (any_key kss i)) (sym (eqb-true x j e)) (holds (and_l (any_key kss j) (every (any_key kss) l) t)))
    (λ (e : eqb x j ≡ false). in_some kss l (and_r (any_key kss j) (every (any_key kss) l) t) x (sym (ap (λ (b : Bool). b || is_in x l) e) ∙ h))
    (two (eqb x j))

-- x is no key, and every member of the list is one
pub of_rest : (kss : List (List ℕ)) (l : List ℕ) → every (any_key kss) l ≡ true → (x : ℕ) → None kss x → false ≡ is_in x l
of_rest kss l t x n = ⊎_elim
    (λ (e : is_in x l ≡ true). absurd (no_key kss x n (in_some kss l t x e)))
    (λ (e : is_in x l ≡ false). sym e)
    (two (is_in x l))
