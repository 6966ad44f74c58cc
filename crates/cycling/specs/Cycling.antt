-- 8.6.7 by the cells of cycle_count and nbr_cycles_value. By the one row that two cells are.
use Rattle.std.specs.Prelude.{ℕ, ◌+◌, ◌<◌, ◌≡◌, refl, Bool, true, false, List, ltb, ℤ, pos, get_or, ◌<ℤ◌}
use Rattle.std.proofs.Math.Dec as Decide
use Rattle.std.proofs.Common.{sym, ap, ap₂, subst, ◌∙◌}
use Rattle.std.proofs.Math.Option.{Option, some}
use Rattle.std.specs.Int.Signed.{lt_z}
use Rattle.paper_expressions.proofs.Laws.Search.{no_clash}
use Rattle.paper_expressions.specs.Expressions.{Expr}
use Rattle.paper_rows.specs.Table.{task, ◌№◌, cycle_count, nbr_cycles_value, cycle_until, RowValue, expression_is, integer_row, Table, Contains}
use Rattle.paper_engine.specs.Conditions.{CycleConditions}
use Rattle.state.specs.Cell.{Cell, plain_count, one_row, tag}
use Rattle.state.specs.Layout.{Rows, count_column, cycles_column}
use Rattle.waits.specs.Booleans.{Tests}

-- of every table that the state shows, in which the task has no cycle_until
abbrev pub Cycling : List ℕ → ℕ → Bool → Type 0
Cycling s T r = (t : Table) → Rows s t → T < 32 → ((e : Expr) → ¬ Contains t (task № T) cycle_until (expression_is e)) → Tests r (CycleConditions t T)

never : {P : Type 0} → ¬ P → Tests false P
never n = (λ e. absurd (no_clash (cc)), λ p. absurd (n p))

same_number : {o : Option RowValue} {a b : ℤ} → o ≡ some (integer_row a) → o ≡ some (integer_row b) → a ≡ b
same_number e f = cc

a_number : {k x : ℕ} {o : Option RowValue} → Cell k x o → k ≡ 3 → o ≡ some (integer_row (pos x))
a_number {x = x} h e = one_row h (record { plain = plain_count x; its_tag = e; its_number = refl })

pass : (b : Bool) → Decide.T b → b ≡ true
pass true h = refl
pass false h = absurd h

pub no_count : (s : List ℕ) (T : ℕ) {a : ℕ} → a ≡ get_or s (200 + T) 0 → ¬ (a ≡ 3) → Cycling s T false
no_count s T e n t rows l none = never (λ z. n (e ∙ (rows.tasks count_column l).its_tag ∙ ap tag z.clause_1a))

pub no_cycles : (s : List ℕ) (T : ℕ) {a : ℕ} → a ≡ get_or s (264 + T) 0 → ¬ (a ≡ 3) → Cycling s T false
no_cycles s T e n t rows l none = never (λ z. n (e ∙ (rows.tasks cycles_column l).its_tag ∙ ap tag z.clause_1b))

pub both : (s : List ℕ) (T : ℕ) {a b x y : ℕ} {r : Bool} → a ≡ get_or s (200 + T) 0 → a ≡ 3 → b ≡ get_or s (264 + T) 0 → b ≡ 3 → x ≡ get_or s (232 + T) 0 → y ≡ get_or s (296 + T) 0 → r ≡ ltb x y → Cycling s T r
both s T {x = x} {y} {r} ea ta eb tb ex ey er t rows l none = (
  λ e. record { count = pos x; cycles = pos y; clause_1a = count; clause_1b = most; clause_1c = record { lt = subst Decide.T (sym (sym er ∙ e)) tt }; clause_2 = λ {e = c} k. absurd (none c k) },
  λ z. er ∙ pass (ltb x y) (subst (λ (c : ℤ). Decide.T (lt_z c (pos y))) (same_number z.clause_1a count) (subst (λ (c : ℤ). Decide.T (lt_z z.count c)) (same_number z.clause_1b most) z.clause_1c.lt)),
)
  where
    count : Contains t (task № T) cycle_count (integer_row (pos x))
    count = subst (λ (c : ℕ). Contains t (task № T) cycle_count (integer_row (pos c))) (sym ex) (a_number (rows.tasks count_column l) (sym ea ∙ ta))

    most : Contains t (task № T) nbr_cycles_value (integer_row (pos y))
    most = subst (λ (c : ℕ). Contains t (task № T) nbr_cycles_value (integer_row (pos c))) (sym ey) (a_number (rows.tasks cycles_column l) (sym eb ∙ tb))
