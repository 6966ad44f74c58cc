-- What the columns of a sheet stand for, by the names in its first line. Definitions only.
use Rattle.std.specs.Prelude.{Bool, true, false, cond, ◌&&◌, List, [], ◌∷◌, ℕ, zero, suc, ◌+◌, eqb, ltb, get_or, set}
use Rattle.paper_expressions.proofs.Laws.Search.{alikeb}
use Rattle.parts.specs.Texts.{text_at_fn}
use Rattle.separated.specs.Records.{field_of}

-- how many data items the plan has, within their limit
abbrev pub item_count : List ℕ → ℕ
item_count plan = cond (ltb (get_or plan (1 + 0) 0) 64) (get_or plan (1 + 0) 0) 64

-- the first number from i on, of k, that passes the test; the number behind them if none does
unfoldable pub first_from : (ℕ → Bool) → ℕ → ℕ → ℕ
first_from p i zero = i
first_from p i (suc k) = cond (p i) i (first_from p (i + 1) k)

-- whether the data item d has the name, A to Z folded (9.5)
abbrev pub has_name : List ℕ → List ℕ → List ℕ → ℕ → Bool
has_name plan texts name d = alikeb (text_at_fn texts (get_or plan (1256 + d) 0)) name

abbrev pub named : List ℕ → List ℕ → List ℕ → ℕ
named plan texts name = first_from (has_name plan texts name) 0 (item_count plan)

-- the name of a label begins with #
abbrev pub is_label : List ℕ → Bool
is_label [] = false
is_label (b ∷ w) = eqb b 35

-- a column stands for a data item, by its number and one; for a label, 0; or for nothing, the greatest number
abbrev pub by_number : ℕ → ℕ → List ℕ → ℕ
by_number n d name = cond (ltb d n) (d + 1) (cond (is_label name) 0 4294967295)

abbrev pub stands_for : List ℕ → List ℕ → List ℕ → ℕ
stands_for plan texts name = by_number (item_count plan) (named plan texts name) name

-- the first of the columns before i that stands for c; i if none does
abbrev pub first_with : List ℕ → ℕ → ℕ → ℕ
first_with columns i c = first_from (λ (j : ℕ). eqb (get_or columns j 0) c) 0 i

-- whether the column i may stand for c: for a label, or for a data item for which none before it stands
abbrev pub may_stand : List ℕ → ℕ → ℕ → Bool
may_stand columns i c = cond (eqb c 0) true (cond (eqb c 4294967295) false (cond (ltb (first_with columns i c) i) false true))

-- the columns from i on, of k, where f tells what each stands for
unfoldable pub columns_from : (ℕ → ℕ) → List ℕ → ℕ → ℕ → List ℕ
columns_from f columns i zero = columns
columns_from f columns i (suc k) = columns_from f (set columns i (f i)) (i + 1) k

unfoldable pub all_may : (ℕ → ℕ) → List ℕ → ℕ → ℕ → Bool
all_may f columns i zero = true
all_may f columns i (suc k) = may_stand columns i (f i) && all_may f (set columns i (f i)) (i + 1) k

-- what the field i of the first line stands for
abbrev pub of_field : List ℕ → List ℕ → List ℕ → List ℕ → ℕ → ℕ
of_field plan texts kept ends i = stands_for plan texts (field_of kept ends i)
