-- Law: the cells of an expression within the limits fit 32 bits.
-- By induction on the expression.
use Rattle.std.specs.Prelude.{List, [], ◌∷◌, ◌++◌, ℕ, suc, ◌+◌, ◌^◌, ◌≤◌, ◌<◌, ℤ, pos, negsuc, nat_abs, length}
use Rattle.std.proofs.Common.{arith, length-append, le-ltb}
use Rattle.paper_expressions.specs.Limits.{real_limit, text_limit}
use Rattle.paper_expressions.specs.Operators.{Op, arithmetic, divide, compare, and, or, includes, oneof, if, negate, isknown, not, count, sum, extreme, nth, is-in, no_such}
use Rattle.paper_expressions.specs.Expressions.{Expr, Exprs, Atom, IntegerLit, FloatLit, StringLit, Paren, Listing, Apply, ε, ◌▸◌}
use Rattle.parts.specs.Codes.{code}
use Rattle.parts.specs.CodeRange.{operator_code}
use Rattle.parts.specs.Texts.{moved}
use Rattle.parts.specs.Part.{size, sizes, number_of}
use Rattle.parts.specs.Operands.{size_pos}
use Rattle.parts.specs.Encode.{Part, part, name, name_load, spelling, spellings, encode, encodes, Fits, AllFit, Stands}
use Rattle.parts.specs.EncodeLaws.{join}

pub record Narrow (r : Part) : Type 0 where
  pub kind : r.kind < 2 ^ 32
  pub count : r.count < 2 ^ 32
  pub size : r.size < 2 ^ 32
  pub load : r.load < 2 ^ 32

-- each part of the list
abbrev pub AllNarrow : List Part → Type 0
AllNarrow rs = Stands (λ i r. Narrow r) 0 rs

one_narrow : {r : Part} → Narrow r → Stands (λ i r. Narrow r) 0 (r ∷ [])
one_narrow h = (h, tt)

-- where the parts stand says nothing here
moved_place : (rs : List Part) (a b : ℕ) → Stands (λ i r. Narrow r) a rs → Stands (λ i r. Narrow r) b rs
moved_place [] a b h = tt
moved_place (r ∷ rs) a b h = (h.0, moved_place rs (suc a) (suc b) h.1)

both : (xs ys : List Part) → AllNarrow xs → AllNarrow ys → AllNarrow (xs ++ ys)
both xs ys h k = join (λ i r. Narrow r) xs ys 0 h (moved_place ys 0 (0 + length xs) k)

moved_narrow : (z : ℤ) → nat_abs z ≤ real_limit → moved z < 2 ^ 32
moved_narrow (pos n) h = omega arith
moved_narrow (negsuc n) h = rw (le-ltb real_limit (suc n) h) (omega arith)

name_narrow : (o : ℕ) (p : Op) → o ≤ 65536 → length (name p) ≤ text_limit → name_load o p < 2 ^ 32
name_narrow o (arithmetic k) h l = omega arith
name_narrow o divide h l = omega arith
name_narrow o (compare k) h l = omega arith
name_narrow o and h l = omega arith
name_narrow o or h l = omega arith
name_narrow o includes h l = omega arith
name_narrow o oneof h l = omega arith
name_narrow o if h l = omega arith
name_narrow o negate h l = omega arith
name_narrow o isknown h l = omega arith
name_narrow o not h l = omega arith
name_narrow o count h l = omega arith
name_narrow o sum h l = omega arith
name_narrow o (extreme k) h l = omega arith
name_narrow o nth h l = omega arith
name_narrow o (is-in s) h l = omega arith
name_narrow o (no_such n) h l = omega arith

few_operands : (es : Exprs) → number_of es ≤ sizes es
few_operands ε = omega arith
few_operands (e ▸ es) = omega (arith, few_operands es, size_pos e)

mutual
  -- an expression of at most 65,536 parts, whose texts end at most at the place 65,536
  pub narrow : (o : ℕ) (e : Expr) → Fits e → size e ≤ 65536 → o + length (spelling e) ≤ 65536 → AllNarrow (encode o e)
  narrow o (Atom a) f s l = one_narrow (record { kind = omega arith; count = omega arith; size = omega arith; load = omega arith })
  narrow o (IntegerLit n) f s l = one_narrow (record { kind = omega arith; count = omega arith; size = omega arith; load = moved_narrow n (omega arith) })
  narrow o (FloatLit n) f s l = one_narrow (record { kind = omega arith; count = omega arith; size = omega arith; load = moved_narrow n f })
  narrow o (StringLit a) f s l = one_narrow (record { kind = omega arith; count = omega arith; size = omega arith; load = omega arith })
  narrow o (Paren e) f s l = absurd f
  narrow o (Listing es) f s l =
      both (encodes o es) (part 5 (number_of es) (suc (sizes es)) 0 ∷ []) (all_narrow o es f (omega arith) l)
      (one_narrow (record { kind = omega arith; count = omega (arith, few_operands es); size = omega arith; load = omega arith }))
  narrow o (Apply p es) f s l =
      let k = simp length-append at l in
      let n = name_load (o + length (spellings es)) p in
      both (encodes o es) (part (code p) (number_of es) (suc (sizes es)) n ∷ []) (all_narrow o es f.1 (omega arith) (omega arith))
      (one_narrow (record {
        kind = let c = operator_code p in omega arith;
        count = omega (arith, few_operands es);
        size = omega arith;
        load = name_narrow (o + length (spellings es)) p (omega arith) f.0;
      }))

  pub all_narrow : (o : ℕ) (es : Exprs) → AllFit es → sizes es ≤ 65536 → o + length (spellings es) ≤ 65536 → AllNarrow (encodes o es)
  all_narrow o ε f s l = tt
  all_narrow o (e ▸ es) f s l =
      let k = simp length-append at l in
      let m = o + length (spelling e) in
      both (encode o e) (encodes m es) (narrow o e f.0 (omega arith) (omega arith)) (all_narrow m es f.1 (omega arith) (omega arith))
