-- Laws of the values of data items as fields: what cells show has room in the buffer, and of every state that the tables hold it is the published value.
use Rattle.std.specs.Prelude.{◌≡◌, refl, Bool, true, false, cond, List, ◌++◌, ℕ, zero, suc, ◌+◌, ◌*◌, ◌-◌, ◌≤◌, ◌<◌, eqb, ltb, leb, ℤ, nat_abs, get_or, length}
use Rattle.std.proofs.Common.{sym, ap, ap₂, ◌∙◌, arith, length-append, ltb-true, ltb-false}
use Rattle.std.proofs.Math.Option.{none, some}
use Rattle.paper_expressions.specs.Limits.{integer_limit, real_limit}
use Rattle.paper_expressions.specs.Values as paper
use Rattle.paper_guideline.specs.Structure.{TopLevel}
use Rattle.paper_guideline.specs.Line.{scalar_written, more_written, value_written}
use Rattle.paper_rows.specs.Table as Rows
use Rows.{data_item, ◌№◌, Table}
use Rattle.paper_rows.proofs.Laws.Seen.{value_f}
use Rattle.parts.specs.Texts.{literal}
use Rattle.values.specs.declared.scalar.Scalar.{Scalar}
use Rattle.values.specs.declared.scalar.Scalar.TheVariants.{Unknown, Truth, Int, Real, Text}
use Rattle.values.specs.declared.value.Value.{Value}
use Rattle.values.specs.Meaning.{num, meaning, meaning_l, valued, handle_of, integer_of, real_of_fn}
use Rattle.evaluator.specs.Columns.{scalar_at, cell_at, cells_at_fn, shaped_at, shown_at}
use Rattle.truths.specs.Part.{part_of}
use Rattle.written.specs.Longest.{longest_integer, longest_real}
use Rattle.blocks.specs.Blocks.{cells_long}
use Rattle.holding.specs.Holding.{Holds}
use Rattle.item_rows.specs.ItemValue.{cells_show}
use Rattle.item_rows.specs.ItemRow.{value_held}
use Rattle.season_answer.specs.Columns.{item_count}
use Rattle.digits.specs.Appends.{Appends}
use Rattle.digits.specs.AppendsLaws.{appends_as}
use Rattle.season_answer.specs.Fields.{each, empty_scalar, empty_text, no_bytes, EmptyText, empty_written, field_written, nothing_written, value_field, if_value, item_written, values_written}
use Rattle.season_answer.specs.FieldsLaws.{text_long}

-- ---- a cell, and the cells of a value

module _ (b : List ℕ) where
  truth_long : (t : Bool) → length (scalar_written (paper.truth t)) ≤ 63
  truth_long true = omega arith
  truth_long false = omega arith

  integer_long : (z : ℤ) (t : Bool) → length (scalar_written (meaning b (cond t (Int (num z)) Unknown))) ≤ 63
  integer_long z true = omega (arith, longest_integer z)
  integer_long z false = omega arith

  real_long : (z : ℤ) (t : Bool) → length (scalar_written (meaning b (cond t (Real (num z)) Unknown))) ≤ 63
  real_long z true = omega (arith, longest_real z)
  real_long z false = omega arith

  scalar_long : (k x : ℕ) → length (scalar_written (meaning b (scalar_at k x))) ≤ 63
  scalar_long k x = by (eqb k 1) (eqb k 2) (eqb k 3) (eqb k 4)
    where
      by : (t u v w : Bool) → length (scalar_written (meaning b (cond t (Truth (eqb x 1)) (cond u (integer_of (literal x)) (cond v (real_of_fn (literal x)) (cond w (Text (handle_of x)) Unknown)))))) ≤ 63
      by true u v w = truth_long (eqb x 1)
      by false true v w = integer_long (literal x) (leb (nat_abs (literal x)) integer_limit)
      by false false true w = real_long (literal x) (leb (nat_abs (literal x)) real_limit)
      by false false false true = text_long b x
      by false false false false = omega arith

  module _ (tags nums : List ℕ) where
    more_long : (p n : ℕ) → length (more_written (cells_at_fn b tags nums p n)) ≤ n * 65 + 1
    more_long p zero = omega arith
    more_long p (suc n) = simp length-append (omega (arith, scalar_long (get_or tags p 0) (get_or nums p 0), more_long (suc p) n))

    list_long : (p n : ℕ) → n ≤ 16 → length (value_written (paper.sequence (cells_at_fn b tags nums p n))) ≤ 1040
    list_long p zero h = omega arith
    list_long p (suc n) h = simp length-append (omega (arith, scalar_long (get_or tags p 0) (get_or nums p 0), more_long (suc p) n))

    shaped_long : (p k : ℕ) → length (value_written (shaped_at b tags nums p k)) ≤ 1040
    shaped_long p k = by (eqb k 0) (ltb 17 k) refl
      where
        by : (t u : Bool) → ltb 17 k ≡ u
            → length (value_written (cond t (paper.one (meaning b (cell_at tags nums (p + 1)))) (cond u (paper.one paper.unknown) (paper.sequence (cells_at_fn b tags nums (p + 1) (k - 1)))))) ≤ 1040
        by true u e = omega (arith, scalar_long (get_or tags (p + 1) 0) (get_or nums (p + 1) 0))
        by false true e = omega arith
        by false false e = let h = ltb-false 17 k e in list_long (p + 1) (k - 1) (omega arith)

    shown_long : (i : ℕ) → length (value_written (shown_at b tags nums i)) ≤ 1040
    shown_long i = by (ltb i 65536)
      where
        by : (t : Bool) → length (value_written (cond t (shaped_at b tags nums (17 * i) (get_or tags (17 * i) 0)) (paper.one paper.unknown))) ≤ 1040
        by true = shaped_long (17 * i) (get_or tags (17 * i) 0)
        by false = omega arith

pub value_long : (b s : List ℕ) (d : ℕ) → length (value_written (cells_show b s d)) ≤ 1040
value_long b s d = shown_long b (part_of s 776 1088) (part_of s 1864 1088) d

-- ---- the fields, as the code puts them

no_bytes_means : (texts : List ℕ) (s : Scalar) → no_bytes s ≡ empty_scalar (meaning texts s)
no_bytes_means texts Unknown = refl
no_bytes_means texts (Truth t) = refl
no_bytes_means texts (Int n) = refl
no_bytes_means texts (Real n) = refl
no_bytes_means texts (Text h) = ap (λ (n : ℕ). eqb n 0) (sym (cells_long texts h.at h.len))

pub no_list : (v : Value) → v.many ≡ true → EmptyText v false
no_list v e texts = sym (ap (λ (m : Bool). empty_text (valued m (meaning texts v.one) (meaning_l texts v.list))) e)

pub one_empty : (v : Value) {r : Bool} → v.many ≡ false → r ≡ no_bytes v.one → EmptyText v r
one_empty v e h texts = h ∙ no_bytes_means texts v.one ∙ sym (ap (λ (m : Bool). empty_text (valued m (meaning texts v.one) (meaning_l texts v.list))) e)

module _ (separator : ℕ) (b s : List ℕ) (d : ℕ) where
  as_item : {t u : Bool} → t ≡ eqb (get_or s (1864 + 17 * d) 0) 1 → t ≡ u → item_written b s separator d ≡ if_value separator (cond u (some (cells_show b s d)) none)
  as_item e f = ap (λ (x : Bool). if_value separator (cond x (some (cells_show b s d)) none)) (sym e ∙ f)

module _ {out out' : List ℕ} {o r : ℕ} (separator : ℕ) where
  pub field_empty : (v : paper.Value) → empty_text v ≡ true → Appends out out' o r (empty_written separator) → Appends out out' o r (value_field separator v)
  field_empty v e a = appends_as (ap (λ (t : Bool). cond t (empty_written separator) (field_written separator (value_written v))) e) a

  pub field_full : (v : paper.Value) → empty_text v ≡ false → Appends out out' o r (field_written separator (value_written v)) → Appends out out' o r (value_field separator v)
  field_full v e a = appends_as (ap (λ (t : Bool). cond t (empty_written separator) (field_written separator (value_written v))) e) a

  module _ (b s : List ℕ) (d : ℕ) {t : Bool} (e : t ≡ eqb (get_or s (1864 + 17 * d) 0) 1) where
    pub item_there : {v : paper.Value} → t ≡ true → v ≡ cells_show b s d → Appends out out' o r (value_field separator v) → Appends out out' o r (item_written b s separator d)
    item_there f g a = appends_as (as_item separator b s d e f ∙ ap (value_field separator) (sym g)) a

    pub item_none : t ≡ false → Appends out out' o r (nothing_written separator) → Appends out out' o r (item_written b s separator d)
    item_none f a = appends_as (as_item separator b s d e f) a

-- ---- of every state that the tables hold

each_as : (f g : ℕ → List ℕ) (i k : ℕ) → ((j : ℕ) → j < i + k → f j ≡ g j) → each f i k ≡ each g i k
unfolding each
each_as f g i zero h = refl
each_as f g i (suc k) h = ap₂ ◌++◌ (h i (omega arith)) (each_as f g (i + 1) k (λ j l. h j (omega arith)))

pub few_items : (plan : List ℕ) → item_count plan ≤ 64
few_items plan = by (ltb (get_or plan (1 + 0) 0) 64) refl
  where
    by : (t : Bool) → ltb (get_or plan (1 + 0) 0) 64 ≡ t → cond t (get_or plan (1 + 0) 0) 64 ≤ 64
    by true e = let h = ltb-true (get_or plan (1 + 0) 0) 64 e in omega arith
    by false e = omega arith

-- the fields are those of the published values
pub values_published : {g : List TopLevel} {x b f : List ℕ} {w : List (List Bool)} {s : List ℕ} {t : Table} {flag : Bool} {time : ℕ} → Holds g x b f w s t flag time → (separator : ℕ)
    → values_written f b s separator ≡ each (λ (d : ℕ). if_value separator (value_f (t (data_item № d) Rows.value))) 0 (item_count f)
values_published {b = b} {f = f} {s = s} {t = t} h separator =
    each_as (item_written b s separator) (λ (d : ℕ). if_value separator (value_f (t (data_item № d) Rows.value))) 0 (item_count f)
    (λ d l. (let m : d < 64 = (let n = few_items f in omega arith) in ap (if_value separator) (value_held s b d m (h.values d m))))
