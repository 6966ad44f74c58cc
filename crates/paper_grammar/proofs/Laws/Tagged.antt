-- A grammar with its terminals and nonterminals told apart by constructors derives the same: the tests of Forward and Backward read it so.
use Rattle.std.specs.Prelude.{ℕ, ◌≡◌, refl, Bool, true, false, cond, not, ltb}
use Rattle.std.proofs.Common.{sym, ap, subst, ◌∙◌, ⊎_elim, arith, lt-ltb, ltb-true}
use mathlib.Core.List.{List, [], ◌∷◌, ◌++◌, map, Memᴰ}
use Rattle.paper_expressions.proofs.Laws.Tests.{contra, two, every, every_at}
use Rattle.paper_grammar.specs.Cfg.{Prod, ◌::=◌, Derives, done, token, rule}
use Rattle.paper_grammar.proofs.Laws.Ll.{Sym, T, N}

infix 10 ◌⟶◌
pub data Rule : Type 0 where
  ◌⟶◌ : ℕ → List (Sym ℕ) → Rule

module _ (Q : List Rule) where
  pub data Yields : List (Sym ℕ) → List ℕ → Type 0 where
    y_done : Yields [] []
    y_token : {k : ℕ} {α : List (Sym ℕ)} {w : List ℕ} → Yields α w → Yields (T k ∷ α) (k ∷ w)
    y_rule : {A : ℕ} {α β : List (Sym ℕ)} {w : List ℕ} → Memᴰ (A ⟶ β) Q → Yields (β ++ α) w → Yields (N A ∷ α) w

module _ (terminals : ℕ) where
  abbrev pub tag : ℕ → Sym ℕ
  tag k = cond (ltb k terminals) (T k) (N k)

  abbrev pub tags : List ℕ → List (Sym ℕ)
  tags α = map tag α

  abbrev pub tag_rule : Prod → Rule
  tag_rule (A ::= α) = A ⟶ tags α

  abbrev pub tag_rules : List Prod → List Rule
  tag_rules P = map tag_rule P

  -- no terminal has a production
  abbrev pub left_is : Prod → Bool
  left_is (A ::= α) = not (ltb A terminals)

  tags_append : (α β : List ℕ) → tags (α ++ β) ≡ tags α ++ tags β
  tags_append [] β = refl
  tags_append (a ∷ α) β = ap (λ (l : List (Sym ℕ)). tag a ∷ l) (tags_append α β)

  mem_tag : (A : ℕ) (β : List ℕ) (P : List Prod) → Memᴰ (A ::= β) P → Memᴰ (A ⟶ tags β) (tag_rules P)
  mem_tag A β [] m = absurd (mathlib.Core.List.Memᴰ.not-nil m)
  mem_tag A β (p ∷ P) m = ⊎_elim
      (λ (e : (A ::= β) ≡ p). mathlib.Core.List.Memᴰ.head (ap tag_rule e))
      (λ (n : Memᴰ (A ::= β) P). mathlib.Core.List.Memᴰ.tail (mem_tag A β P n))
      (mathlib.Core.List.Memᴰ.cases_cons m)

  abbrev Untagged : ℕ → List (Sym ℕ) → List Prod → Type 0
  Untagged A γ P = (β : List ℕ) × Memᴰ (A ::= β) P × (γ ≡ tags β)

  mem_untag : (A : ℕ) (γ : List (Sym ℕ)) (P : List Prod) → Memᴰ (A ⟶ γ) (tag_rules P) → Untagged A γ P
  mem_untag A γ [] m = absurd (mathlib.Core.List.Memᴰ.not-nil m)
  mem_untag A γ ((B ::= β) ∷ P) m = ⊎_elim
      (λ (e : (A ⟶ γ) ≡ (B ⟶ tags β)). let a : A ≡ B = cc in let b : γ ≡ tags β = cc in (β, mathlib.Core.List.Memᴰ.head (ap (λ (x : ℕ). x ::= β) a), b))
      (λ (n : Memᴰ (A ⟶ γ) (tag_rules P)). let r = mem_untag A γ P n in (r.0, mathlib.Core.List.Memᴰ.tail r.1, r.2))
      (mathlib.Core.List.Memᴰ.cases_cons m)

  module _ (P : List Prod) (lefts : every left_is P ≡ true) where
    left_tag : (A : ℕ) (β : List ℕ) → Memᴰ (A ::= β) P → tag A ≡ N A
    left_tag A β m = ⊎_elim
        (λ (t : ltb A terminals ≡ true). contra (sym (ap not t) ∙ every_at left_is P lefts (A ::= β) m))
        (λ (t : ltb A terminals ≡ false). ap (λ (b : Bool). cond b (T A) (N A)) t)
        (two (ltb A terminals))

    pub derives_yields : {α w : List ℕ} → Derives terminals P α w → Yields (tag_rules P) (tags α) w
    derives_yields done = y_done
    derives_yields (token {k} {α} {w} l d) =
        subst (λ (s : Sym ℕ). Yields (tag_rules P) (s ∷ tags α) (k ∷ w)) (sym (ap (λ (b : Bool). cond b (T k) (N k)) (lt-ltb k terminals l))) (y_token (derives_yields d))
    derives_yields (rule {A} {α} {β} {w} m d) =
        let y : Yields (tag_rules P) (tags β ++ tags α) w = subst (λ (l : List (Sym ℕ)). Yields (tag_rules P) l w) (tags_append β α) (derives_yields d) in
        subst (λ (s : Sym ℕ). Yields (tag_rules P) (s ∷ tags α) w) (sym (left_tag A β m)) (y_rule (mem_tag A β P m) y)

    pub yields_derives : {γ : List (Sym ℕ)} {w : List ℕ} → Yields (tag_rules P) γ w → (α : List ℕ) → γ ≡ tags α → Derives terminals P α w
    yields_derives y_done [] e = done
    yields_derives y_done (a ∷ α) e = absurd (let z : ◌≡◌ {A = ℕ} 0 1 = cc in omega arith)
    yields_derives (y_token y) [] e = absurd (let z : ◌≡◌ {A = ℕ} 0 1 = cc in omega arith)
    yields_derives (y_token {k} {α = γ} {w} y) (a ∷ α) e =
        let h : T k ≡ tag a = cc in
        let r : γ ≡ tags α = cc in
        ⊎_elim
        (λ (t : ltb a terminals ≡ true).
        let f : T k ≡ T a = h ∙ ap (λ (b : Bool). cond b (T a) (N a)) t in
        let g : a ≡ k = cc in
        subst (λ (x : ℕ). Derives terminals P (a ∷ α) (x ∷ w)) g (token (ltb-true a terminals t) (yields_derives y α r)))
        (λ (t : ltb a terminals ≡ false).
        let f : T k ≡ N a = h ∙ ap (λ (b : Bool). cond b (T a) (N a)) t in
        absurd (let z : ◌≡◌ {A = ℕ} 0 1 = cc in omega arith))
        (two (ltb a terminals))
    yields_derives (y_rule m y) [] e = absurd (let z : ◌≡◌ {A = ℕ} 0 1 = cc in omega arith)
    yields_derives (y_rule {A} {α = γ} {β} {w} m y) (a ∷ α) e =
        let h : N A ≡ tag a = cc in
        let r : γ ≡ tags α = cc in
        ⊎_elim
        (λ (t : ltb a terminals ≡ true).
        let f : N A ≡ T a = h ∙ ap (λ (b : Bool). cond b (T a) (N a)) t in
        absurd (let z : ◌≡◌ {A = ℕ} 0 1 = cc in omega arith))
        (λ (t : ltb a terminals ≡ false).
        let f : N A ≡ N a = h ∙ ap (λ (b : Bool). cond b (T a) (N a)) t in
        let g : A ≡ a = cc in
        let u = mem_untag A β P m in
        let s : β ++ γ ≡ tags (u.0 ++ α) = cc (tags_append u.0 α) in
        subst (λ (x : ℕ). Derives terminals P (x ∷ α) w) g (rule u.1 (yields_derives y (u.0 ++ α) s)))
        (two (ltb a terminals))
