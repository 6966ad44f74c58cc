-- Parts as rows of four cells: what writing a row does, and what it keeps.
-- Law: what a table holds, a table with the same rows before it holds too. By induction on the expression.
use Rattle.std.specs.Prelude.{ℕ, suc, ◌+◌, ◌*◌, ◌≤◌, ◌<◌, ◌≡◌, refl, List, get_or, length, set}
use Rattle.std.proofs.Common.{sym, subst, ◌∙◌, arith, length-set, get_or-set_same, get_or-set_other}
use Rattle.paper_expressions.specs.Expressions.{Expr, Exprs, Atom, IntegerLit, FloatLit, StringLit, Paren, Listing, Apply, ε, ◌▸◌}
use Rattle.parts.specs.Codes.{kind}
use Rattle.parts.specs.Part.{table, size, sizes, number_of, operands, Load, Root, Holds, HoldsAll}

-- the rows of y before n are those of x
pub record Kept (n : ℕ) (x y : List ℕ) : Type 0 where
  pub same : (i : ℕ) → i < n * 4 → get_or y i 0 ≡ get_or x i 0

-- the cells of y outside the rows from u up to v are those of x
pub record Beside (u v : ℕ) (x y : List ℕ) : Type 0 where
  pub long : length y ≡ length x
  pub before : Kept u x y
  pub behind : (i : ℕ) → v * 4 ≤ i → get_or y i 0 ≡ get_or x i 0

-- the row v of y is written
pub record Put (x y : List ℕ) (v k n s l : ℕ) : Type 0 where
  pub kinds : get_or y (v * 4) 0 ≡ k
  pub counts : get_or y (v * 4 + 1) 0 ≡ n
  pub sizes : get_or y (v * 4 + 2) 0 ≡ s
  pub loads : get_or y (v * 4 + 3) 0 ≡ l

-- ---- laws

-- the rows before n stay
module _ {n : ℕ} {x y : List ℕ} (b : List ℕ) (k : Kept n x y) where
  root_kept : (e : Expr) (p : ℕ) → p < n → Root (table x b) p e → Root (table y b) p e
  root_kept e p h r = record {
    kinds = k.same (p * 4) (omega arith) ∙ r.kinds;
    counts = k.same (p * 4 + 1) (omega arith) ∙ r.counts;
    sizes = k.same (p * 4 + 2) (omega arith) ∙ r.sizes;
    loads = subst (Load b e) (sym (k.same (p * 4 + 3) (omega arith))) r.loads;
  }

  mutual
    pub holds_kept : (e : Expr) (a : ℕ) → a + size e ≤ n → Holds (table x b) a e → Holds (table y b) a e
    holds_kept (Atom m) a h r = root_kept (Atom m) a (omega arith) r
    holds_kept (IntegerLit m) a h r = root_kept (IntegerLit m) a (omega arith) r
    holds_kept (FloatLit m) a h r = root_kept (FloatLit m) a (omega arith) r
    holds_kept (StringLit m) a h r = root_kept (StringLit m) a (omega arith) r
    holds_kept (Paren e) a h r = r
    holds_kept (Listing es) a h r = (all_kept es a (omega arith) r.0, root_kept (Listing es) (a + sizes es) (omega arith) r.1)
    holds_kept (Apply o es) a h r = (all_kept es a (omega arith) r.0, root_kept (Apply o es) (a + sizes es) (omega arith) r.1)

    pub all_kept : (es : Exprs) (a : ℕ) → a + sizes es ≤ n → HoldsAll (table x b) a es → HoldsAll (table y b) a es
    all_kept ε a h r = tt
    all_kept (e ▸ es) a h r = (holds_kept e a (omega arith) r.0, all_kept es (a + size e) (omega arith) r.1)

-- ---- what is beside

pub beside_none : (u v : ℕ) (x : List ℕ) → Beside u v x x
beside_none u v x = record { long = refl; before = record { same = λ i h. refl }; behind = λ i h. refl }

-- one change behind the other
pub beside_on : {x y z : List ℕ} (u v s t w : ℕ) → u ≤ s → v ≤ w → t ≤ w → Beside u v x y → Beside s t y z → Beside u w x z
beside_on u v s t w a b c f g = record {
  long = g.long ∙ f.long;
  before = record { same = λ i h. g.before.same i (omega arith) ∙ f.before.same i h };
  behind = λ i h. g.behind i (omega arith) ∙ f.behind i (omega arith);
}

pub beside_thrice : {x y z a : List ℕ} {u v s t p q : ℕ} (w : ℕ) → u ≤ s → u ≤ p → v ≤ w → t ≤ w → q ≤ w → Beside u v x y → Beside s t y z → Beside p q z a → Beside u w x a
beside_thrice {u = u} {v} {s} {t} {p} {q} w h1 h2 h3 h4 h5 f g h = beside_on u w p q w h2 (omega arith) h5 (beside_on u v s t w h1 h3 h4 f g) h

pub beside_more : {x y : List ℕ} (u v w : ℕ) → v ≤ w → Beside u v x y → Beside u w x y
beside_more u v w h f = record { long = f.long; before = f.before; behind = λ i g. f.behind i (omega arith) }

-- ---- writing a row

-- a row that is written is the last part of e
pub put_root : {x y : List ℕ} (b : List ℕ) (e : Expr) (v k n s l : ℕ) → Put x y v k n s l
    → k ≡ kind e → n ≡ number_of (operands e) → s ≡ suc (sizes (operands e)) → Load b e l → Root (table y b) v e
put_root b e v k n s l p ke ne se le = record { kinds = p.kinds ∙ ke; counts = p.counts ∙ ne; sizes = p.sizes ∙ se; loads = subst (Load b e) (sym p.loads) le }

-- four stores write a row
module _ (x : List ℕ) (v k n s l : ℕ) (h : v * 4 + 3 < length x) where
  abbrev pub stored : List ℕ
  stored = set (set (set (set x (v * 4) k) (v * 4 + 1) n) (v * 4 + 2) s) (v * 4 + 3) l

  long₁ : length (set x (v * 4) k) ≡ length x
  long₁ = length-set x (v * 4) k

  long₂ : length (set (set x (v * 4) k) (v * 4 + 1) n) ≡ length x
  long₂ = length-set (set x (v * 4) k) (v * 4 + 1) n ∙ long₁

  long₃ : length (set (set (set x (v * 4) k) (v * 4 + 1) n) (v * 4 + 2) s) ≡ length x
  long₃ = length-set (set (set x (v * 4) k) (v * 4 + 1) n) (v * 4 + 2) s ∙ long₂

  others : (i : ℕ) → ¬ (i ≡ v * 4) → ¬ (i ≡ v * 4 + 1) → ¬ (i ≡ v * 4 + 2) → ¬ (i ≡ v * 4 + 3) → get_or stored i 0 ≡ get_or x i 0
  others i a b c d =
      get_or-set_other (set (set (set x (v * 4) k) (v * 4 + 1) n) (v * 4 + 2) s) (v * 4 + 3) i l 0 d ∙ get_or-set_other (set (set x (v * 4) k) (v * 4 + 1) n) (v * 4 + 2) i s 0 c
      ∙ get_or-set_other (set x (v * 4) k) (v * 4 + 1) i n 0 b ∙ get_or-set_other x (v * 4) i k 0 a

  pub row_beside : Beside v (v + 1) x stored
  row_beside = record {
    long = length-set (set (set (set x (v * 4) k) (v * 4 + 1) n) (v * 4 + 2) s) (v * 4 + 3) l ∙ long₃;
    before = record { same = λ i g. others i (λ e. omega arith) (λ e. omega arith) (λ e. omega arith) (λ e. omega arith) };
    behind = λ i g. others i (λ e. omega arith) (λ e. omega arith) (λ e. omega arith) (λ e. omega arith);
  }

  pub row_put : Put x stored v k n s l
  row_put =
      let x₁ = set x (v * 4) k in
      let x₂ = set x₁ (v * 4 + 1) n in
      let x₃ = set x₂ (v * 4 + 2) s in
      let h₁ : v * 4 < length x = omega arith in
      let h₂ : v * 4 + 1 < length x₁ = let z = long₁ in omega arith in
      let h₃ : v * 4 + 2 < length x₂ = let z = long₂ in omega arith in
      let h₄ : v * 4 + 3 < length x₃ = let z = long₃ in omega arith in
      record {
        kinds = get_or-set_other x₃ (v * 4 + 3) (v * 4) l 0 (λ e. omega arith) ∙ get_or-set_other x₂ (v * 4 + 2) (v * 4) s 0 (λ e. omega arith)
            ∙ get_or-set_other x₁ (v * 4 + 1) (v * 4) n 0 (λ e. omega arith) ∙ get_or-set_same x (v * 4) k 0 h₁;
        counts = get_or-set_other x₃ (v * 4 + 3) (v * 4 + 1) l 0 (λ e. omega arith) ∙ get_or-set_other x₂ (v * 4 + 2) (v * 4 + 1) s 0 (λ e. omega arith)
            ∙ get_or-set_same x₁ (v * 4 + 1) n 0 h₂;
        sizes = get_or-set_other x₃ (v * 4 + 3) (v * 4 + 2) l 0 (λ e. omega arith) ∙ get_or-set_same x₂ (v * 4 + 2) s 0 h₃;
        loads = get_or-set_same x₃ (v * 4 + 3) l 0 h₄;
      }
