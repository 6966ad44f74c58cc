-- Law: what a table holds, another holds that has the same cells there, and the same texts. By induction on the expression.
use Rattle.std.specs.Prelude.{◌≡◌, refl, ◌⊎◌, List, ℕ, ◌+◌, ◌*◌, ◌≤◌, ◌<◌, get_or}
use Rattle.std.proofs.Common.{sym, subst, ◌∙◌, inl, inr, arith}
use Rattle.paper_expressions.specs.Operators.{Op, arithmetic, divide, compare, and, or, includes, oneof, if, negate, isknown, not, count, sum, extreme, nth, is-in, no_such}
use Rattle.paper_expressions.specs.Expressions.{Expr, Exprs, Atom, IntegerLit, FloatLit, StringLit, Paren, Listing, Apply, ε, ◌▸◌}
use Rattle.parts.specs.Codes.{kind}
use Rattle.parts.specs.Texts.{text_at_fn}
use Rattle.parts.specs.Part.{Table, code_at, load_at, size, sizes, OpLoad, Load, Root, Holds, HoldsAll}

-- an atom, a string, an operator that section 11 doesn't have
abbrev pub HasText : ℕ → Type 0
HasText k = (k ≡ 1) ⊎ ((k ≡ 4) ⊎ (k ≡ 250))

-- u has the parts of t from a up to z, and not z itself
pub record Kept (t u : Table) (a z : ℕ) : Type 0 where
  pub cells : (i : ℕ) → a * 4 ≤ i → i < z * 4 → get_or u.cells i 0 ≡ get_or t.cells i 0
  pub texts : (p : ℕ) → a ≤ p → p < z → HasText (code_at t p) → text_at_fn u.bytes (load_at t p) ≡ text_at_fn t.bytes (load_at t p)

op_kept : (b c : List ℕ) (o : Op) (x : ℕ) → (HasText (kind (Apply o ε)) → text_at_fn c x ≡ text_at_fn b x) → OpLoad b o x → OpLoad c o x
op_kept b c (arithmetic k) x f h = h
op_kept b c divide x f h = h
op_kept b c (compare k) x f h = h
op_kept b c and x f h = h
op_kept b c or x f h = h
op_kept b c includes x f h = h
op_kept b c oneof x f h = h
op_kept b c if x f h = h
op_kept b c negate x f h = h
op_kept b c isknown x f h = h
op_kept b c not x f h = h
op_kept b c count x f h = h
op_kept b c sum x f h = h
op_kept b c (extreme e) x f h = h
op_kept b c nth x f h = h
op_kept b c (is-in s) x f h = h
op_kept b c (no_such n) x f h = f (inr (inr refl)) ∙ h

load_kept : (b c : List ℕ) (e : Expr) (x : ℕ) → (HasText (kind e) → text_at_fn c x ≡ text_at_fn b x) → Load b e x → Load c e x
load_kept b c (Atom n) x f h = f (inl refl) ∙ h
load_kept b c (IntegerLit n) x f h = h
load_kept b c (FloatLit n) x f h = h
load_kept b c (StringLit n) x f h = f (inr (inl refl)) ∙ h
load_kept b c (Paren e) x f h = h
load_kept b c (Listing es) x f h = h
load_kept b c (Apply o es) x f h = op_kept b c o x f h

module _ (t u : Table) where
  root_kept : {a z : ℕ} (p : ℕ) (e : Expr) → Kept t u a z → a ≤ p → p < z → Root t p e → Root u p e
  root_kept p e k l m h = record {
    kinds = k.cells (p * 4) (omega arith) (omega arith) ∙ h.kinds;
    counts = k.cells (p * 4 + 1) (omega arith) (omega arith) ∙ h.counts;
    sizes = k.cells (p * 4 + 2) (omega arith) (omega arith) ∙ h.sizes;
    loads = subst (Load u.bytes e) (sym (k.cells (p * 4 + 3) (omega arith) (omega arith))) (load_kept t.bytes u.bytes e (load_at t p) (λ x. k.texts p l m (subst HasText (sym h.kinds) x)) h.loads);
  }

  mutual
    pub holds_kept : {b z : ℕ} (e : Expr) (a : ℕ) → Kept t u b z → b ≤ a → a + size e ≤ z → Holds t a e → Holds u a e
    holds_kept (Atom n) a k l m h = root_kept a (Atom n) k l (omega arith) h
    holds_kept (IntegerLit n) a k l m h = root_kept a (IntegerLit n) k l (omega arith) h
    holds_kept (FloatLit n) a k l m h = root_kept a (FloatLit n) k l (omega arith) h
    holds_kept (StringLit n) a k l m h = root_kept a (StringLit n) k l (omega arith) h
    holds_kept (Paren e) a k l m h = h
    holds_kept (Listing es) a k l m h = (all_kept es a k l (omega arith) h.0, root_kept (a + sizes es) (Listing es) k (omega arith) (omega arith) h.1)
    holds_kept (Apply o es) a k l m h = (all_kept es a k l (omega arith) h.0, root_kept (a + sizes es) (Apply o es) k (omega arith) (omega arith) h.1)

    pub all_kept : {b z : ℕ} (es : Exprs) (a : ℕ) → Kept t u b z → b ≤ a → a + sizes es ≤ z → HoldsAll t a es → HoldsAll u a es
    all_kept ε a k l m h = h
    all_kept (e ▸ es) a k l m h = (holds_kept e a k l (omega arith) h.0, all_kept es (a + size e) k (omega arith) (omega arith) h.1)
