-- Laws: each row of an encoded guideline stands in its tables; so its cells, its name's text and its expression can be read there. By induction on the rows.
use Rattle.std.specs.Prelude.{ℕ, suc, ◌+◌, ◌*◌, ◌≤◌, ◌≡◌, List, [], ◌∷◌, length, get_or}
use Rattle.std.proofs.Common.{sym, ap, subst, ◌∙◌, arith}
use Rattle.std.proofs.Math.Option.{Option, some}
use Rattle.paper_expressions.specs.Limits.{text_limit}
use Rattle.paper_expressions.specs.View.{At, at_first, at_later}
use Rattle.paper_expressions.proofs.Laws.Parentheses.{bare}
use Rattle.paper_guideline.specs.Structure.{Name, Outermost}
use Rattle.parts.specs.Texts.{text_at_fn, text_of}
use Rattle.parts.specs.Part.{Table, Ends}
use Rattle.parts.specs.Encode.{flat, Fits, Spelt, Is, Laid}
use Rattle.parts.specs.EncodeLaws.{split, spelt_cells, spelt_laid, long, laid_held}
use Rattle.guideline_rows.specs.Rows.{Row, kind-of, word_of, name_of, expression_of, flag_of}
use Rattle.guideline_rows.specs.Sizes.{size_in, first_of, end_of, start_of}
use Rattle.guideline_rows.specs.Encoded
use Encoded.{name_text, expression_text, row_text, behind_name, expression_parts, parts_of, name_handle, name_place, row_cells, cells_of, Has, Encoded}
use Rattle.guideline_rows.specs.EncodedLaws.{parts_one}
use Rattle.guideline_rows.specs.InLimits.{Stood}

-- ---- a row stands in the tables

has_spelt : (x s : List ℕ) (a : ℕ) → ((i : ℕ) → get_or x (a + i) 0 ≡ get_or s i 0) → Spelt x a s
has_spelt x [] a h = tt
has_spelt x (c ∷ s) a h = (
  ap (λ (k : ℕ). get_or x k 0) {x = a} {y = a + 0} (omega arith) ∙ h 0,
  has_spelt x s (suc a) (λ i. ap (λ (k : ℕ). get_or x k 0) {x = suc a + i} {y = a + suc i} (omega arith) ∙ h (suc i)),
)

pub has_all : (x s : List ℕ) → Has x s → Spelt x 0 s
has_all x s h = has_spelt x s 0 (λ i. ap (λ (k : ℕ). get_or x k 0) {x = 0 + i} {y = i} (omega arith) ∙ h i)

module _ (x : List ℕ) (t : Table) where
  pub stood_from : {rows : List Row} {i : ℕ} {r : Row} → At rows i r → (k o u : ℕ)
      → Spelt x (k * 8) (cells_of o u rows) → Spelt t.bytes o (Encoded.text_of rows) → Laid t u (parts_of o rows) → Stood x t (k + i) r
  stood_from {r = r} (at_first {l = rs}) k o u c b p =
      let b' = split (λ i c. get_or t.bytes i 0 ≡ c) (row_text r) (Encoded.text_of rs) o b in
      let c' = split (λ i c. get_or x i 0 ≡ c) (row_cells o u r) (cells_of (o + length (row_text r)) (u + size_in (expression_of r)) rs) (k * 8) c in
      let p' = split (Is t) (expression_parts (behind_name o r) (expression_of r)) (parts_of (o + length (row_text r)) rs) u p in
      subst (λ (j : ℕ). Stood x t j r) {x = k} {y = k + 0} (omega arith) (record { o = o; u = u; cells = c'.0; texts = b'.0; parts = p'.0 })
  stood_from {r = r} (at_later {y = q} {l = rs} {i = i} h) k o u c b p =
      let o' = o + length (row_text q) in
      let b' = split (λ i c. get_or t.bytes i 0 ≡ c) (row_text q) (Encoded.text_of rs) o b in
      let c' = split (λ i c. get_or x i 0 ≡ c) (row_cells o u q) (cells_of o' (u + size_in (expression_of q)) rs) (k * 8) c in
      let p' = split (Is t) (expression_parts (behind_name o q) (expression_of q)) (parts_of o' rs) u p in
      subst (λ (j : ℕ). Stood x t j r) {x = suc k + i} {y = k + suc i} (omega arith)
      (stood_from h (suc k) o' (u + size_in (expression_of q))
      (subst (λ (a : ℕ). Spelt x a (cells_of o' (u + size_in (expression_of q)) rs)) {x = k * 8 + 8} {y = suc k * 8} (omega arith) c'.1)
      b'.1
      (subst (λ (a : ℕ). Laid t (u + a) (parts_of o' rs)) (parts_one (behind_name o q) (expression_of q)) p'.1))

pub stands : {rows : List Row} {x : List ℕ} {t : Table} → Encoded rows x t → {i : ℕ} {r : Row} → At rows i r → Stood x t i r
stands {rows} {x} {t} e {i} {r} h =
    subst (λ (j : ℕ). Stood x t j r) {x = 0 + i} {y = i} (omega arith)
    (stood_from x t h 0 0 0 (has_all x (cells_of 0 0 rows) e.cells) (has_all t.bytes (Encoded.text_of rows) e.bytes)
    (spelt_laid t.cells t.bytes (parts_of 0 rows) 0 (has_all t.cells (flat (parts_of 0 rows)) e.parts)))

-- ---- what can be read of it

module _ {x : List ℕ} {t : Table} {i : ℕ} {r : Row} (s : Stood x t i r) where
  cell-of : {j v : ℕ} (c : ℕ) → i * 8 + c ≡ j → get_or x j 0 ≡ v → get_or x (i * 8 + c) 0 ≡ v
  cell-of c e h = ap (λ (k : ℕ). get_or x k 0) e ∙ h

  pub kind_cell : get_or x (i * 8 + 0) 0 ≡ kind-of r
  kind_cell = cell-of 0 (omega arith) s.cells.0

  pub word_cell : get_or x (i * 8 + 1) 0 ≡ word_of r
  word_cell = cell-of 1 (omega arith) s.cells.1.0

  pub handle_cell : get_or x (i * 8 + 2) 0 ≡ name_handle s.o (name_of r)
  handle_cell = cell-of 2 (omega arith) s.cells.1.1.0

  pub place_cell : get_or x (i * 8 + 3) 0 ≡ name_place (name_of r)
  place_cell = cell-of 3 (omega arith) s.cells.1.1.1.0

  pub first_cell : get_or x (i * 8 + 4) 0 ≡ first_of s.u (expression_of r)
  first_cell = cell-of 4 (omega arith) s.cells.1.1.1.1.0

  pub start_cell : get_or x (i * 8 + 5) 0 ≡ start_of (expression_of r)
  start_cell = cell-of 5 (omega arith) s.cells.1.1.1.1.1.0

  pub end_cell : get_or x (i * 8 + 6) 0 ≡ end_of s.u (expression_of r)
  end_cell = cell-of 6 (omega arith) s.cells.1.1.1.1.1.1.0

  pub flag_cell : get_or x (i * 8 + 7) 0 ≡ flag_of r
  flag_cell = cell-of 7 (omega arith) s.cells.1.1.1.1.1.1.1.0

  -- its name is the text of its handle
  pub name_spelt : {n : Name} → name_of r ≡ some n → length n.spelt ≤ text_limit → text_at_fn t.bytes (get_or x (i * 8 + 2) 0) ≡ n.spelt
  name_spelt {n} e l =
      ap (text_at_fn t.bytes) (handle_cell ∙ ap (name_handle s.o) e)
      ∙ text_of t.bytes s.o (length n.spelt) (omega arith)
      ∙ spelt_cells t.bytes n.spelt s.o
      (subst (λ (o : Option Name). Spelt t.bytes s.o (name_text o)) e (split (λ i c. get_or t.bytes i 0 ≡ c) (name_text (name_of r)) (expression_text (expression_of r)) s.o s.texts).0)

  -- the parts up to its end are its expression without parentheses
  pub expression_held : {e : Outermost} → expression_of r ≡ some e → Fits (bare e.tree) → Ends t (get_or x (i * 8 + 6) 0) (bare e.tree)
  expression_held {e} q f =
      let b = (split (λ i c. get_or t.bytes i 0 ≡ c) (name_text (name_of r)) (expression_text (expression_of r)) s.o s.texts).1 in
      let n = sym (long (behind_name s.o r) (bare e.tree) f) ∙ parts_one (behind_name s.o r) (some e) in
      record {
        start = s.u;
        spans = ap (λ (k : ℕ). s.u + k) n ∙ sym (end_cell ∙ ap (end_of s.u) q);
        held = laid_held t (bare e.tree) s.u (behind_name s.o r) f
            (subst (λ (o : Option Outermost). Spelt t.bytes (behind_name s.o r) (expression_text o)) q b)
            (subst (λ (o : Option Outermost). Laid t s.u (expression_parts (behind_name s.o r) o)) q s.parts);
      }
