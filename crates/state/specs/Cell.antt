-- A row of the Properties table that the engine changes, as two numbers: a tag (absent, unknown, which kind) and a number.
-- Law: the row gives the two numbers, and they give the row.
use Rattle.std.specs.Prelude.{ℕ, ◌≡◌, refl, Bool, true, false, cond, ◌&&◌, ◌↔◌, eqb, pos, nat_abs}
use Rattle.std.proofs.Common.{sym, ap, ap₂, ◌∙◌, eq-eqb, eqb-true}
use Rattle.std.proofs.Math.Option.{Option, none, some}
use Rattle.paper_expressions.proofs.Laws.Search.{no_clash}
use Rattle.paper_expressions.specs.Values.{unknown, truth, integer, real, text, Value, one, sequence, TaskState, dormant, in_progress, discarded, completed}
use Rattle.paper_rows.specs.Table.{RowValue, value_is, state_is, class_is, type_is, time_is, expression_is, assertion_is, component_is, components_are, unknown_row, truth_row, integer_row}

-- ---- the two numbers of a row

abbrev pub state_code : TaskState → ℕ
state_code dormant = 1
state_code in_progress = 2
state_code discarded = 3
state_code completed = 4

abbrev pub bit : Bool → ℕ
bit true = 1
bit false = 0

-- the rows that the engine writes for a task, and `requested`
pub data Plain : Option RowValue → Type 0 where
  absent : Plain none
  plain_unknown : Plain (some unknown_row)
  plain_truth : (b : Bool) → Plain (some (truth_row b))
  plain_count : (n : ℕ) → Plain (some (integer_row (pos n)))
  plain_time : (n : ℕ) → Plain (some (time_is n))
  plain_state : (s : TaskState) → Plain (some (state_is s))

abbrev pub value_tag : Value → ℕ
value_tag (one unknown) = 1
value_tag (one (truth b)) = 2
value_tag (one (integer n)) = 3
value_tag (one (real n)) = 9
value_tag (one (text s)) = 9
value_tag (sequence l) = 9

abbrev pub value_number : Value → ℕ
value_number (one unknown) = 0
value_number (one (truth b)) = bit b
value_number (one (integer n)) = nat_abs n
value_number (one (real n)) = 0
value_number (one (text s)) = 0
value_number (sequence l) = 0

abbrev pub row_tag : RowValue → ℕ
row_tag (value_is w) = value_tag w
row_tag (state_is s) = 5
row_tag (class_is k) = 9
row_tag (type_is d) = 9
row_tag (time_is n) = 4
row_tag (expression_is e) = 9
row_tag (assertion_is a) = 9
row_tag (component_is c) = 9
row_tag (components_are l) = 9

abbrev pub row_number : RowValue → ℕ
row_number (value_is w) = value_number w
row_number (state_is s) = state_code s
row_number (class_is k) = 0
row_number (type_is d) = 0
row_number (time_is n) = n
row_number (expression_is e) = 0
row_number (assertion_is a) = 0
row_number (component_is c) = 0
row_number (components_are l) = 0

abbrev pub tag : Option RowValue → ℕ
tag none = 0
tag (some r) = row_tag r

abbrev pub number : Option RowValue → ℕ
number none = 0
number (some r) = row_number r

-- the tag k and the number x are those of the row, if there
pub record Cell (k x : ℕ) (o : Option RowValue) : Type 0 where
  pub plain : Plain o
  pub its_tag : k ≡ tag o
  pub its_number : x ≡ number o

-- ---- and back

abbrev pub state_of : ℕ → TaskState
state_of x = cond (eqb x 1) dormant (cond (eqb x 2) in_progress (cond (eqb x 3) discarded completed))

abbrev pub row_of : ℕ → ℕ → Option RowValue
row_of k x =
    cond (eqb k 0) none
    (cond (eqb k 1) (some unknown_row)
    (cond (eqb k 2) (some (truth_row (eqb x 1)))
    (cond (eqb k 3) (some (integer_row (pos x)))
    (cond (eqb k 4) (some (time_is x))
    (some (state_is (state_of x)))))))

pub row_back : {o : Option RowValue} → Plain o → row_of (tag o) (number o) ≡ o
row_back absent = refl
row_back plain_unknown = refl
row_back (plain_truth true) = refl
row_back (plain_truth false) = refl
row_back (plain_count n) = refl
row_back (plain_time n) = refl
row_back (plain_state dormant) = refl
row_back (plain_state in_progress) = refl
row_back (plain_state discarded) = refl
row_back (plain_state completed) = refl

-- two numbers are those of one row only
pub one_row : {k x : ℕ} {o q : Option RowValue} → Cell k x o → Cell k x q → o ≡ q
one_row h j = sym (row_back h.plain) ∙ ap₂ row_of (sym h.its_tag ∙ j.its_tag) (sym h.its_number ∙ j.its_number) ∙ row_back j.plain

-- ---- the test of a row

both_true : (a b : Bool) → (a && b) ≡ true → (a ≡ true) × (b ≡ true)
both_true true b e = (refl, e)
both_true false b e = absurd (no_clash (cc))

both_of : (a b : Bool) → a ≡ true → b ≡ true → (a && b) ≡ true
both_of true b e f = f
both_of false b e f = absurd (no_clash (cc))

module _ {k x : ℕ} {o : Option RowValue} (h : Cell k x o) where
  pub row_is : {r : RowValue} → Plain (some r) → (eqb k (row_tag r) && eqb x (row_number r)) ≡ true ↔ (o ≡ some r)
  row_is {r} p = (to, back)
    where
      to : (eqb k (row_tag r) && eqb x (row_number r)) ≡ true → o ≡ some r
      to e = let b = both_true (eqb k (row_tag r)) (eqb x (row_number r)) e in one_row h (record { plain = p; its_tag = eqb-true _ _ b.0; its_number = eqb-true _ _ b.1 })

      back : o ≡ some r → (eqb k (row_tag r) && eqb x (row_number r)) ≡ true
      back e = both_of (eqb k (row_tag r)) (eqb x (row_number r)) (eq-eqb _ _ (h.its_tag ∙ ap tag e)) (eq-eqb _ _ (h.its_number ∙ ap number e))

  -- a time
  pub time_there : (eqb k 4) ≡ true ↔ (o ≡ some (time_is x))
  time_there = (λ e. one_row h (record { plain = plain_time x; its_tag = eqb-true _ _ e; its_number = refl }), λ e. eq-eqb _ _ (h.its_tag ∙ ap tag e))

  pub time_number : {n : ℕ} → o ≡ some (time_is n) → x ≡ n
  time_number e = h.its_number ∙ ap number e
