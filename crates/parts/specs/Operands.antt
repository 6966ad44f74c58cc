-- Laws: an expression's last part and its operands, found by sizes from the last to the first. By induction on the operands.
use Rattle.std.specs.Prelude.{◌≡◌, refl, ℕ, zero, suc, ◌+◌, ◌-◌, ◌≤◌, ◌<◌}
use Rattle.std.proofs.Common.{subst, not-suc-le-zero, arith}
use Rattle.paper_expressions.specs.Expressions.{Expr, Exprs, Atom, IntegerLit, FloatLit, StringLit, Paren, Listing, Apply, ε, ◌▸◌}
use Rattle.parts.specs.Part.{Table, size_at, size, sizes, number_of, operands, Root, Holds, HoldsAll, Ends, Within, Withins}

-- ---- the last part

pub size_pos : (e : Expr) → 0 < size e
size_pos (Atom a) = omega arith
size_pos (IntegerLit n) = omega arith
size_pos (FloatLit n) = omega arith
size_pos (StringLit s) = omega arith
size_pos (Paren e) = size_pos e
size_pos (Listing es) = omega arith
size_pos (Apply o es) = omega arith

-- what is held, in pieces: the operands, and the last part behind them
pub record Pieces (t : Table) (a : ℕ) (e : Expr) : Type 0 where
  pub span : size e ≡ suc (sizes (operands e))
  pub kids : HoldsAll t a (operands e)
  pub root : Root t (a + sizes (operands e)) e

none_before : {t : Table} {a : ℕ} {e : Expr} → Root t a e → Root t (a + 0) e
none_before {t} {a} {e} h = subst (λ (p : ℕ). Root t p e) (omega arith) h

pub pieces : {t : Table} {a : ℕ} (e : Expr) → Holds t a e → Pieces t a e
pieces (Atom n) h = record { span = refl; kids = tt; root = none_before h }
pieces (IntegerLit n) h = record { span = refl; kids = tt; root = none_before h }
pieces (FloatLit n) h = record { span = refl; kids = tt; root = none_before h }
pieces (StringLit s) h = record { span = refl; kids = tt; root = none_before h }
pieces (Paren e) h = absurd h
pieces (Listing es) h = record { span = refl; kids = h.0; root = h.1 }
pieces (Apply o es) h = record { span = refl; kids = h.0; root = h.1 }

-- what ends at q: its operands end at q - 1, where its last part stands
pub record Ended (t : Table) (q : ℕ) (e : Expr) : Type 0 where
  pub start : ℕ
  pub some : 0 < q
  pub spans : start + sizes (operands e) ≡ q - 1
  pub kids : HoldsAll t start (operands e)
  pub root : Root t (q - 1) e

pub ended : {t : Table} {q : ℕ} {e : Expr} → Ends t q e → Ended t q e
ended {t} {q} {e} h =
    let s = h.spans in
    let x = pieces e h.held in
    let y = x.span in
    record {
      start = h.start;
      some = omega arith;
      spans = omega arith;
      kids = x.kids;
      root = subst (λ (p : ℕ). Root t p e) (omega arith) x.root;
    }

pub within_kids : {d : ℕ} (e : Expr) → Within d e → (0 < d) × Withins (d - 1) (operands e)
within_kids (Atom n) h = (h, tt)
within_kids (IntegerLit n) h = (h, tt)
within_kids (FloatLit n) h = (h, tt)
within_kids (StringLit s) h = (h, tt)
within_kids (Paren e) h = (h.0, tt)
within_kids (Listing es) h = h
within_kids (Apply o es) h = h

-- ---- operands by their number, from 0

abbrev pub nth_of : Exprs → ℕ → Expr
nth_of ε i = Listing ε
nth_of (e ▸ es) zero = e
nth_of (e ▸ es) (suc i) = nth_of es i

-- the operands but the first k
abbrev pub from : ℕ → Exprs → Exprs
from zero es = es
from (suc k) ε = ε
from (suc k) (e ▸ es) = from k es

pub from_all : (es : Exprs) → from (number_of es) es ≡ ε
from_all ε = refl
from_all (e ▸ es) = from_all es

pub from_step : (k : ℕ) (es : Exprs) → k < number_of es → from k es ≡ nth_of es k ▸ from (suc k) es
from_step k ε h = absurd (not-suc-le-zero h)
from_step zero (e ▸ es) h = refl
from_step (suc k) (e ▸ es) h = from_step k es (omega arith)

-- the parts of the first k operands together
abbrev pub before : Exprs → ℕ → ℕ
before ε k = 0
before (e ▸ es) zero = 0
before (e ▸ es) (suc k) = size e + before es k

pub before_none : (es : Exprs) → before es 0 ≡ 0
before_none ε = refl
before_none (e ▸ es) = refl

pub before_suc : (es : Exprs) (k : ℕ) → k < number_of es → before es (suc k) ≡ before es k + size (nth_of es k)
before_suc ε k h = absurd (not-suc-le-zero h)
before_suc (e ▸ es) zero h = omega (arith, before_none es)
before_suc (e ▸ es) (suc k) h = omega (arith, before_suc es k (omega arith))

pub before_all : (es : Exprs) → before es (number_of es) ≡ sizes es
before_all ε = refl
before_all (e ▸ es) = omega (arith, before_all es)

pub before_le : (es : Exprs) (k : ℕ) → before es k ≤ sizes es
before_le ε k = omega arith
before_le (e ▸ es) zero = omega arith
before_le (e ▸ es) (suc k) = omega (arith, before_le es k)

pub held_nth : (t : Table) (es : Exprs) (a k : ℕ) → HoldsAll t a es → k < number_of es → Holds t (a + before es k) (nth_of es k)
held_nth t ε a k h l = absurd (not-suc-le-zero l)
held_nth t (e ▸ es) a zero h l = subst (λ (b : ℕ). Holds t b e) (omega arith) h.0
held_nth t (e ▸ es) a (suc k) h l =
    subst (λ (b : ℕ). Holds t b (nth_of es k)) (omega arith) (held_nth t es (a + size e) k h.1 (omega arith))

pub within_nth : (d : ℕ) (es : Exprs) (k : ℕ) → Withins d es → k < number_of es → Within d (nth_of es k)
within_nth d ε k h l = absurd (not-suc-le-zero l)
within_nth d (e ▸ es) zero h l = h.0
within_nth d (e ▸ es) (suc k) h l = within_nth d es k h.1 (omega arith)

-- ---- from the last to the first: where k operands are left they end at q, and the last of them ends there

pub record Left (t : Table) (es : Exprs) (a k q : ℕ) : Type 0 where
  pub few : k ≤ number_of es
  pub at : a + before es k ≡ q

pub left_all : (t : Table) (es : Exprs) (a q : ℕ) → a + sizes es ≡ q → Left t es a (number_of es) q
left_all t es a q e = record { few = omega arith; at = omega (arith, before_all es) }

pub left_ends : (t : Table) (es : Exprs) (a k q : ℕ) → HoldsAll t a es → Left t es a (suc k) q → Ends t q (nth_of es k)
left_ends t es a k q h l =
    let f = l.few in
    let g = l.at in
    record { start = a + before es k; spans = omega (arith, before_suc es k (omega arith)); held = held_nth t es a k h (omega arith) }

-- the size at q - 1 leads to the operand before
pub left_step : (t : Table) (es : Exprs) (a k q : ℕ) → HoldsAll t a es → Left t es a (suc k) q → Left t es a k (q - size_at t (q - 1))
left_step t es a k q h l =
    let f = l.few in
    let g = l.at in
    let b = before_suc es k (omega arith) in
    let e = left_ends t es a k q h l in
    let r = (ended e).root.sizes in
    let s = (pieces (nth_of es k) e.held).span in
    record { few = omega arith; at = omega arith }
