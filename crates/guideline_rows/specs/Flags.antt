-- Yes or no, and the names of types, told by their length and a byte. With the law that they are.
use Rattle.std.specs.Prelude.{ℕ, zero, suc, ◌+◌, ◌≤◌, ◌<◌, ◌≡◌, refl, Bool, cond, List, eqb, length, get_or}
use Rattle.std.proofs.Common.{sym, ap, ◌∙◌, not-suc-le-zero, arith}
use Rattle.paper_expressions.specs.Bytes.{bytes}
use Rattle.paper_expressions.specs.Types.{Declared, a_text, an_integer, a_boolean, a_datetime, a_date, a_time, a_real, a_setof_text, a_setof_integer, a_setof_real}
use Rattle.paper_tokens.specs.Lexical.{Token, part, inner}
use Rattle.paper_tokens.specs.Terminals.{name}
use Rattle.paper_guideline.specs.Structure.{written, YesOrNo, is_yes, is_no, DataType, data_type}
use Rattle.parts.specs.Codes.{declared_code}
use Rattle.parts.specs.Texts.{cells}
use Rattle.leaves.specs.declared.names.Span.{Span}
use Rattle.leaves.specs.Cells.{part_cells, length_cells}
use Rattle.guideline_rows.specs.Rows.{answer_code}

-- the columns have the token at j
pub record Spelt (text places lengths : List ℕ) (j : ℕ) (t : Token) : Type 0 where
  pub bytes : t.bytes ≡ part text (get_or places j 0) (get_or lengths j 0)
  pub within : get_or places j 0 + get_or lengths j 0 ≤ length text

-- its name stands there
pub record Spells (text places lengths : List ℕ) (j : ℕ) (r : Span) : Type 0 where
  pub inside : r.at + r.n ≤ length text
  pub done : (t : Token) → Spelt text places lengths j t → cells text r.at r.n ≡ name t

abbrev pub Answers : List ℕ → List ℕ → List ℕ → ℕ → ℕ → Type 0
Answers text places lengths j r = (t : Token) (b : Bool) → Spelt text places lengths j t → YesOrNo t b → r ≡ answer_code b

abbrev pub Declares : List ℕ → List ℕ → List ℕ → ℕ → ℕ → Type 0
Declares text places lengths j r = (t : Token) (d : Declared) → Spelt text places lengths j t → DataType t d → r ≡ declared_code d

-- the number of a type by the length of its name and its bytes
abbrev pub declared_of : ℕ → (ℕ → ℕ) → ℕ
declared_of n b =
    cond (eqb n 4) (cond (eqb (b 2) 120) 1 (cond (eqb (b 2) 116) 5 (cond (eqb (b 2) 109) 6 7)))
    (cond (eqb n 7) (cond (eqb (b 2) 116) 2 3)
    (cond (eqb n 8) 4
    (cond (eqb n 10) (cond (eqb (b 6) 116) 8 10) 9)))

-- ---- laws

cells_at : (b : List ℕ) (o n i : ℕ) → i < n → get_or (cells b o n) i 0 ≡ get_or b (o + i) 0
cells_at b o zero i h = absurd (not-suc-le-zero h)
cells_at b o (suc n) zero h = ap (λ (k : ℕ). get_or b k 0) (let e : o ≡ o + 0 = omega arith in e)
cells_at b o (suc n) (suc i) h = cells_at b (suc o) n i (omega arith) ∙ ap (λ (k : ℕ). get_or b k 0) (let e : suc o + i ≡ o + suc i = omega arith in e)

pub answer_three : {text places lengths : List ℕ} {j : ℕ} {r : Span} {t : Token} {b : Bool} → Spells text places lengths j r → Spelt text places lengths j t → r.n ≡ 3 → YesOrNo t b → 1 ≡ answer_code b
answer_three s h n (is_yes k e) = refl
answer_three {text} {r = r} {t = t} s h n (is_no k e) = let l = sym (length_cells text r.at r.n) ∙ ap length (s.done t h ∙ e) in absurd (omega arith)

pub answer_two : {text places lengths : List ℕ} {j : ℕ} {r : Span} {t : Token} {b : Bool} → Spells text places lengths j r → Spelt text places lengths j t → ¬ (r.n ≡ 3) → YesOrNo t b → 2 ≡ answer_code b
answer_two {text} {r = r} {t = t} s h n (is_yes k e) = absurd (n (sym (length_cells text r.at r.n) ∙ ap length (s.done t h ∙ e)))
answer_two s h n (is_no k e) = refl

module _ (b : List ℕ) (o n : ℕ) where
  byte_of : (d : Declared) → cells b o n ≡ bytes (written d) → (i : ℕ) → i < n → get_or b (o + i) 0 ≡ get_or (bytes (written d)) i 0
  byte_of d e i h = sym (cells_at b o n i h) ∙ ap (λ (l : List ℕ). get_or l i 0) e

  length_of : (d : Declared) → cells b o n ≡ bytes (written d) → n ≡ length (bytes (written d))
  length_of d e = sym (length_cells b o n) ∙ ap length e

  pub type_law : (d : Declared) → cells b o n ≡ bytes (written d) → declared_of n (λ i. get_or b (o + i) 0) ≡ declared_code d
  type_law a_text e = let l = length_of a_text e in rw (l, byte_of a_text e 2 (omega arith))
  type_law an_integer e = let l = length_of an_integer e in rw (l, byte_of an_integer e 2 (omega arith))
  type_law a_boolean e = let l = length_of a_boolean e in rw (l, byte_of a_boolean e 2 (omega arith))
  type_law a_datetime e = let l = length_of a_datetime e in rw l
  type_law a_date e = let l = length_of a_date e in rw (l, byte_of a_date e 2 (omega arith))
  type_law a_time e = let l = length_of a_time e in rw (l, byte_of a_time e 2 (omega arith))
  type_law a_real e = let l = length_of a_real e in rw (l, byte_of a_real e 2 (omega arith))
  type_law a_setof_text e = let l = length_of a_setof_text e in rw (l, byte_of a_setof_text e 6 (omega arith))
  type_law a_setof_integer e = let l = length_of a_setof_integer e in rw l
  type_law a_setof_real e = let l = length_of a_setof_real e in rw (l, byte_of a_setof_real e 6 (omega arith))

pub declared_law : {text places lengths : List ℕ} {j : ℕ} {r : Span} {t : Token} {d : Declared} → Spells text places lengths j r → Spelt text places lengths j t → DataType t d
    → declared_of r.n (λ i. get_or text (r.at + i) 0) ≡ declared_code d
declared_law {text} {r = r} {t = t} {d = d} s h (data_type k e) = type_law text r.at r.n d (s.done t h ∙ e)

pub spelt_there : {text places lengths : List ℕ} {j : ℕ} {t : Token} (at n : ℕ) (w : List ℕ) → at ≡ get_or places j 0 → n ≡ get_or lengths j 0
    → w ≡ inner (cells text at n) → Spelt text places lengths j t → w ≡ name t
spelt_there {text} {places} {lengths} {j} at n w a b e s =
    e ∙ ap inner (ap (λ (i : ℕ). cells text i n) a ∙ ap (λ (i : ℕ). cells text (get_or places j 0) i) b ∙ sym (part_cells text (get_or places j 0) (get_or lengths j 0) s.within) ∙ sym s.bytes)
