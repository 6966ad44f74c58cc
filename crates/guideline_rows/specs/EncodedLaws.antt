-- Laws of the encoding: what one row more gives in each table, behind what the rows before give; and how long it is. By induction on the rows.
use Rattle.std.specs.Prelude.{ℕ, ◌+◌, ◌*◌, ◌≡◌, refl, List, [], ◌∷◌, ◌++◌, length}
use Rattle.std.proofs.Common.{sym, ap, ◌∙◌, append_assoc, append-nil, arith, length-append}
use Rattle.std.proofs.Math.Option.{Option, none, some}
use Rattle.paper_expressions.specs.Expressions.{Expr, Exprs, Atom, IntegerLit, FloatLit, StringLit, Paren, Listing, Apply, ε, ◌▸◌}
use Rattle.paper_expressions.proofs.Laws.Parentheses.{bare, bares}
use Rattle.paper_guideline.specs.Structure.{Outermost}
use Rattle.parts.specs.Part.{size, sizes}
use Rattle.parts.specs.Encode.{Part, flat, spelling, encode, encodes}
use Rattle.parts.specs.EncodeLaws.{flat_length}
use Rattle.guideline_rows.specs.Rows.{Row, expression_of}
use Rattle.guideline_rows.specs.Sizes.{size_in, parts_in}
use Rattle.guideline_rows.specs.Encoded.{row_text, text_of, behind_name, expression_parts, parts_of, row_cells, cells_of}

pub text_snoc : (rs : List Row) (row : Row) → text_of (rs ++ (row ∷ [])) ≡ text_of rs ++ row_text row
text_snoc [] row = append-nil (row_text row)
text_snoc (r ∷ rs) row = ap (λ (l : List ℕ). row_text r ++ l) (text_snoc rs row) ∙ sym (append_assoc (row_text r) (text_of rs) (row_text row))

pub parts_snoc : (o : ℕ) (rs : List Row) (row : Row) → parts_of o (rs ++ (row ∷ [])) ≡ parts_of o rs ++ expression_parts (behind_name (o + length (text_of rs)) row) (expression_of row)
parts_snoc o [] row = append-nil (expression_parts (behind_name o row) (expression_of row)) ∙ ap (λ (q : ℕ). expression_parts (behind_name q row) (expression_of row)) {x = o} {y = o + 0} (omega arith)
parts_snoc o (r ∷ rs) row =
    let h = expression_parts (behind_name o r) (expression_of r) in
    let q = o + length (row_text r) in
    let n = length-append (row_text r) (text_of rs) in
    ap (λ (l : List Part). h ++ l) (parts_snoc q rs row ∙ ap (λ (k : ℕ). parts_of q rs ++ expression_parts (behind_name k row) (expression_of row)) {x = q + length (text_of rs)} {y = o + length (text_of (r ∷ rs))} (omega arith))
    ∙ sym (append_assoc h (parts_of q rs) (expression_parts (behind_name (o + length (text_of (r ∷ rs))) row) (expression_of row)))

pub cells_snoc : (o u : ℕ) (rs : List Row) (row : Row) → cells_of o u (rs ++ (row ∷ [])) ≡ cells_of o u rs ++ row_cells (o + length (text_of rs)) (u + parts_in rs) row
cells_snoc o u [] row =
    ap (λ (q : ℕ). row_cells q u row) {x = o} {y = o + 0} (omega arith) ∙ ap (λ (v : ℕ). row_cells (o + 0) v row) {x = u} {y = u + 0} (omega arith)
cells_snoc o u (r ∷ rs) row =
    let h = row_cells o u r in
    let q = o + length (row_text r) in
    let v = u + size_in (expression_of r) in
    let n = length-append (row_text r) (text_of rs) in
    ap (λ (l : List ℕ). h ++ l) (cells_snoc q v rs row
    ∙ ap (λ (k : ℕ). cells_of q v rs ++ row_cells k (v + parts_in rs) row) {x = q + length (text_of rs)} {y = o + length (text_of (r ∷ rs))} (omega arith)
    ∙ ap (λ (k : ℕ). cells_of q v rs ++ row_cells (o + length (text_of (r ∷ rs))) k row) {x = v + parts_in rs} {y = u + parts_in (r ∷ rs)} (omega arith))

-- without its parentheses an expression has as many parts as with them
mutual
  bare_long : (o : ℕ) (e : Expr) → length (encode o (bare e)) ≡ size e
  bare_long o (Atom a) = refl
  bare_long o (IntegerLit n) = refl
  bare_long o (FloatLit n) = refl
  bare_long o (StringLit s) = refl
  bare_long o (Paren e) = bare_long o e
  bare_long o (Listing es) = let h = bares_long o es in simp length-append (omega arith)
  bare_long o (Apply p es) = let h = bares_long o es in simp length-append (omega arith)

  bares_long : (o : ℕ) (es : Exprs) → length (encodes o (bares es)) ≡ sizes es
  bares_long o ε = refl
  bares_long o (e ▸ es) = let h = bare_long o e in let g = bares_long (o + length (spelling (bare e))) es in simp length-append (omega arith)

pub parts_one : (o : ℕ) (e : Option Outermost) → length (expression_parts o e) ≡ size_in e
parts_one o none = refl
parts_one o (some x) = bare_long o x.tree

pub parts_long : (o : ℕ) (rs : List Row) → length (flat (parts_of o rs)) ≡ parts_in rs * 4
parts_long o rs = flat_length (parts_of o rs) ∙ ap (λ (n : ℕ). n * 4) (go o rs)
  where
    go : (o : ℕ) (rs : List Row) → length (parts_of o rs) ≡ parts_in rs
    go o [] = refl
    go o (r ∷ rs) =
        let h = parts_one (behind_name o r) (expression_of r) in
        let g = go (o + length (row_text r)) rs in
        let n = length-append (expression_parts (behind_name o r) (expression_of r)) (parts_of (o + length (row_text r)) rs) in
        omega arith

pub cells_long : (o u : ℕ) (rs : List Row) → length (cells_of o u rs) ≡ length rs * 8
cells_long o u [] = refl
cells_long o u (r ∷ rs) = omega (arith, cells_long (o + length (row_text r)) (u + size_in (expression_of r)) rs)

pub sizes_snoc : (rs : List Row) (row : Row) → parts_in (rs ++ (row ∷ [])) ≡ parts_in rs + size_in (expression_of row)
sizes_snoc [] row = omega arith
sizes_snoc (r ∷ rs) row = let h = sizes_snoc rs row in omega arith

pub sizes_both : (rs ss : List Row) → parts_in (rs ++ ss) ≡ parts_in rs + parts_in ss
sizes_both [] ss = omega arith
sizes_both (r ∷ rs) ss = let h = sizes_both rs ss in omega arith
