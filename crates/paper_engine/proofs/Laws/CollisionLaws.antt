-- Law: two different rows asked for the same component and property are value rows of a data item. So no state row collides.
-- At most one clause of Review fits; within one operation no property is named twice, but value and requested; a task names its own properties alone.
use Rattle.std.specs.Prelude.{ℕ, ◌≡◌, refl, true, ◌⊎◌, List, ℤ, pos, ◌+ℤ◌}
use Rattle.std.proofs.Common.{sym, ap, subst, ◌∙◌, inl, inr}
use Rattle.std.proofs.Math.Option.{some}
use Rattle.paper_expressions.proofs.Laws.Search.{no_clash}
use Rattle.paper_expressions.specs.Values.{Value}
use Rattle.paper_rows.specs.Table.{Assigns, Component, ◌№◌, task, data_item, Property, state, value, requested, cycle_count, completed_time, RowValue, value_is, truth_row, integer_row, Table, Contains}
use Rattle.paper_engine.specs.Conditions.{CycleConditions}
use Rattle.paper_engine.specs.Operations
use Operations.{Clause, §8·5·1-1, §8·5·1-2, §8·5·1-3, §8·5·1-4, Review, review_1, review_2, review_3, review_4, review_5}
use Operations.{Initialise, initialise_1, initialise_2, initialise_3, initialise_4, initialise_5, initialise_9a, InitialiseSource, initialise_source}
use Operations.{Start, start_1, start_2, start_3, start_4, start_8, start_9, start_12, Discard, discard_1, discard_3, EnactAssignment, assertion_1, EnactAssertion, assertion_2}
use Operations.{SetStartAt, start_at_2, Complete, complete_1, complete_2, complete_3, complete_4, complete_5, Asks, asks_1, asks_2, asks_3, asks_4, Changes, asked_by}

-- ---- at most one clause of Review fits

pub one_clause : {t : Table} {now T : ℕ} {a b : Clause} → Review t now T a → Review t now T b → a ≡ b
one_clause (review_1 h) (review_1 k) = refl
one_clause (review_1 h) (review_2 n k) = absurd (n h)
one_clause (review_1 h) (review_3 n m k) = absurd (n h)
one_clause (review_1 h) (review_4 n m o k) = absurd (n h)
one_clause (review_1 h) (review_5 n m o k) = absurd (n h)
one_clause (review_2 n h) (review_1 k) = absurd (n k)
one_clause (review_2 n h) (review_2 m k) = refl
one_clause (review_2 n h) (review_3 n' m k) = absurd (m h)
one_clause (review_2 n h) (review_4 n' m o k) = absurd (m h)
one_clause (review_2 n h) (review_5 n' m o k) = absurd (m h)
one_clause (review_3 n m h) (review_1 k) = absurd (n k)
one_clause (review_3 n m h) (review_2 n' k) = absurd (m k)
one_clause (review_3 n m h) (review_3 n' m' k) = refl
one_clause (review_3 n m h) (review_4 n' m' o k) = absurd (o h)
one_clause (review_3 n m h) (review_5 n' m' o k) = absurd (o h)
one_clause (review_4 n m o h) (review_1 k) = absurd (n k)
one_clause (review_4 n m o h) (review_2 n' k) = absurd (m k)
one_clause (review_4 n m o h) (review_3 n' m' k) = absurd (o k)
one_clause (review_4 n m o h) (review_4 n' m' o' k) = refl
one_clause (review_4 n m o h) (review_5 n' m' o' k) = absurd (k h)
one_clause (review_5 n m o h) (review_1 k) = absurd (n k)
one_clause (review_5 n m o h) (review_2 n' k) = absurd (m k)
one_clause (review_5 n m o h) (review_3 n' m' k) = absurd (o k)
one_clause (review_5 n m o h) (review_4 n' m' o' k) = absurd (h k)
one_clause (review_5 n m o h) (review_5 n' m' o' k) = refl

-- ---- where the rows of a task's review stand: its own, or a data item's requested or value row

pub data Place (T : ℕ) : Component → Property → RowValue → Type 0 where
  own : {p : Property} {r : RowValue} → Place T (task № T) p r
  of_request : {d : ℕ} → Place T (data_item № d) requested (truth_row true)
  of_value : {d : ℕ} {w : Value} → Place T (data_item № d) value (value_is w)

assignment_place : {t : Table} {T : ℕ} {l : List Assigns} {c : Component} {p : Property} {r : RowValue} → EnactAssertion t T l c p r → Place T c p r
assignment_place (assertion_2 h (assertion_1 v d e s)) = of_value

source_place : {t : Table} {T : ℕ} {S c : Component} {p : Property} {r : RowValue} → InitialiseSource t S c p r → Place T c p r
source_place (initialise_source h n) = of_request

initialise_same : {t : Table} {now T U : ℕ} {c : Component} {p : Property} {r q : RowValue} → Initialise t now T c p r → Initialise t now U c p q → r ≡ q
initialise_same initialise_1 initialise_1 = refl
initialise_same initialise_2 initialise_2 = refl
initialise_same initialise_3 initialise_3 = refl
initialise_same initialise_4 initialise_4 = refl
initialise_same initialise_5 initialise_5 = refl
initialise_same (initialise_9a h) (initialise_9a k) = refl

-- no source's row is a task's
not_of_source : {t : Table} {T : ℕ} {S : Component} {p : Property} {r : RowValue} → ¬ InitialiseSource t S (task № T) p r
not_of_source h = elim h [ ]

request_same : {t : Table} {now T : ℕ} {S c : Component} {p : Property} {r q : RowValue} → InitialiseSource t S c p r → Start t now T c p q → r ≡ q
request_same (initialise_source h n) (start_9 a b i (initialise_source k m)) = refl

start_same : {t : Table} {now T U : ℕ} {c : Component} {p : Property} {r q : RowValue} → Start t now T c p r → Start t now U c p q → r ≡ q
start_same start_1 start_1 = refl
start_same start_1 (start_9 a b i h) = absurd (not_of_source h)
start_same start_2 start_2 = refl
start_same start_2 (start_9 a b i h) = absurd (not_of_source h)
start_same start_3 start_3 = refl
start_same start_3 (start_9 a b i h) = absurd (not_of_source h)
start_same (start_4 {n} h) (start_4 {n = m} k) = let e : n ≡ m = cc in ap (λ (x : ℤ). integer_row (x +ℤ pos 1)) e
start_same (start_4 h) (start_9 a b i k) = absurd (not_of_source k)
start_same start_8 start_8 = refl
start_same start_8 (start_9 a b i h) = absurd (not_of_source h)
start_same (start_9 a b i h) k = request_same h k
start_same (start_12 h n) (start_12 k m) = refl
start_same (start_12 h n) (start_9 a b i k) = absurd (not_of_source k)

discard_same : {t : Table} {now T U : ℕ} {c : Component} {p : Property} {r q : RowValue} → Discard t now T c p r → Discard t now U c p q → r ≡ q
discard_same discard_1 discard_1 = refl
discard_same discard_3 discard_3 = refl

start_at_same : {t : Table} {now T U : ℕ} {c : Component} {p : Property} {r q : RowValue} → SetStartAt t now T c p r → SetStartAt t now U c p q → r ≡ q
start_at_same (start_at_2 n) (start_at_2 m) = refl

-- a task's start_at row is its own
start_at_own : {t : Table} {now T U : ℕ} {p : Property} {r : RowValue} → SetStartAt t now T (task № U) p r → T ≡ U
start_at_own (start_at_2 n) = refl

start_at_no_state : {t : Table} {now T U : ℕ} {r : RowValue} → ¬ SetStartAt t now T (task № U) state r
start_at_no_state h = elim h [ ]

start_at_no_completed : {t : Table} {now T U : ℕ} {r : RowValue} → ¬ SetStartAt t now T (task № U) completed_time r
start_at_no_completed h = elim h [ ]

-- ---- a value row

pub data Valued : Component → Property → Type 0 where
  valued : {d : ℕ} → Valued (data_item № d) value

assertion_valued : {t : Table} {T : ℕ} {l : List Assigns} {c : Component} {p : Property} {r : RowValue} → EnactAssertion t T l c p r → Valued c p
assertion_valued (assertion_2 h (assertion_1 v d e s)) = valued

pub not_valued : {T : ℕ} {p : Property} → ¬ Valued (task № T) p
not_valued h = elim h [ ]

no_assertion : {t : Table} {T U : ℕ} {l : List Assigns} {p : Property} {r : RowValue} → ¬ EnactAssertion t T l (task № U) p r
no_assertion h = not_valued (assertion_valued h)

complete_same : {t : Table} {now T U : ℕ} {c : Component} {p : Property} {r q : RowValue} → Complete t now T c p r → Complete t now U c p q → (r ≡ q) ⊎ Valued c p
complete_same complete_1 complete_1 = inl refl
complete_same complete_1 (complete_3 a h) = absurd (no_assertion h)
complete_same complete_1 (complete_4 a h) = absurd (start_at_no_state h)
complete_same complete_2 complete_2 = inl refl
complete_same complete_2 (complete_3 a h) = absurd (no_assertion h)
complete_same complete_2 (complete_4 a h) = absurd (start_at_no_completed h)
complete_same (complete_3 a h) k = inr (assertion_valued h)
complete_same (complete_4 a h) (complete_3 b k) = inr (assertion_valued k)
complete_same (complete_4 a h) (complete_4 b k) = inl (start_at_same h k)
complete_same {t} (complete_4 a h) (complete_5 n) = absurd (n (subst (CycleConditions t) (start_at_own h) a))
complete_same (complete_4 a h) complete_1 = absurd (start_at_no_state h)
complete_same (complete_4 a h) complete_2 = absurd (start_at_no_completed h)
complete_same (complete_5 n) (complete_3 b k) = absurd (no_assertion k)
complete_same {t} (complete_5 n) (complete_4 a h) = absurd (n (subst (CycleConditions t) (start_at_own h) a))
complete_same (complete_5 n) (complete_5 m) = inl refl

-- ---- the rows of one review

initialise_place : {t : Table} {now T : ℕ} {c : Component} {p : Property} {r : RowValue} → Initialise t now T c p r → Place T c p r
initialise_place initialise_1 = own
initialise_place initialise_2 = own
initialise_place initialise_3 = own
initialise_place initialise_4 = own
initialise_place initialise_5 = own
initialise_place (initialise_9a h) = own

start_place : {t : Table} {now T : ℕ} {c : Component} {p : Property} {r : RowValue} → Start t now T c p r → Place T c p r
start_place start_1 = own
start_place start_2 = own
start_place start_3 = own
start_place (start_4 h) = own
start_place start_8 = own
start_place (start_9 a b i h) = source_place h
start_place (start_12 h n) = own

discard_place : {t : Table} {now T : ℕ} {c : Component} {p : Property} {r : RowValue} → Discard t now T c p r → Place T c p r
discard_place discard_1 = own
discard_place discard_3 = own

complete_place : {t : Table} {now T : ℕ} {c : Component} {p : Property} {r : RowValue} → Complete t now T c p r → Place T c p r
complete_place complete_1 = own
complete_place complete_2 = own
complete_place (complete_3 a h) = assignment_place h
complete_place (complete_4 a (start_at_2 n)) = own
complete_place (complete_5 n) = own

pub place : {t : Table} {now T : ℕ} {c : Component} {p : Property} {r : RowValue} → Asks t now T c p r → Place T c p r
place (asks_1 v h) = initialise_place h
place (asks_2 v h) = start_place h
place (asks_3 v h) = discard_place h
place (asks_4 v h) = complete_place h

different : {t : Table} {now T : ℕ} {a b : Clause} {A : Type 0} → Review t now T a → Review t now T b → ¬ (a ≡ b) → A
different h k n = absurd (n (one_clause h k))

asks_same : {t : Table} {now T : ℕ} {c : Component} {p : Property} {r q : RowValue} → Asks t now T c p r → Asks t now T c p q → (r ≡ q) ⊎ Valued c p
asks_same (asks_1 v h) (asks_1 w k) = inl (initialise_same h k)
asks_same (asks_1 v h) (asks_2 w k) = different v w (λ e. no_clash (cc))
asks_same (asks_1 v h) (asks_3 w k) = different v w (λ e. no_clash (cc))
asks_same (asks_1 v h) (asks_4 w k) = different v w (λ e. no_clash (cc))
asks_same (asks_2 v h) (asks_1 w k) = different v w (λ e. no_clash (cc))
asks_same (asks_2 v h) (asks_2 w k) = inl (start_same h k)
asks_same (asks_2 v h) (asks_3 w k) = different v w (λ e. no_clash (cc))
asks_same (asks_2 v h) (asks_4 w k) = different v w (λ e. no_clash (cc))
asks_same (asks_3 v h) (asks_1 w k) = different v w (λ e. no_clash (cc))
asks_same (asks_3 v h) (asks_2 w k) = different v w (λ e. no_clash (cc))
asks_same (asks_3 v h) (asks_3 w k) = inl (discard_same h k)
asks_same (asks_3 v h) (asks_4 w k) = different v w (λ e. no_clash (cc))
asks_same (asks_4 v h) (asks_1 w k) = different v w (λ e. no_clash (cc))
asks_same (asks_4 v h) (asks_2 w k) = different v w (λ e. no_clash (cc))
asks_same (asks_4 v h) (asks_3 w k) = different v w (λ e. no_clash (cc))
asks_same (asks_4 v h) (asks_4 w k) = complete_same h k

-- ---- and of all

placed_same : {t : Table} {now T U : ℕ} {c : Component} {p : Property} {r q : RowValue}
    → Place T c p r → Place U c p q → Asks t now T c p r → Asks t now U c p q → (r ≡ q) ⊎ Valued c p
placed_same own own h k = asks_same h k
placed_same of_request of_request h k = inl refl
placed_same of_value of_value h k = inr valued

pub changes_same : {t : Table} {now : ℕ} {c : Component} {p : Property} {r q : RowValue} → Changes t now c p r → Changes t now c p q → (r ≡ q) ⊎ Valued c p
changes_same (asked_by a h) (asked_by b k) = placed_same (place h) (place k) h k

pub no_state_collision : {t : Table} {now T : ℕ} {r q : RowValue} → Changes t now (task № T) state r → Changes t now (task № T) state q → r ≡ q
no_state_collision {T} {r} {q} h k = go (changes_same h k)
  where
    go : (r ≡ q) ⊎ Valued (task № T) state → r ≡ q
    go (inl e) = e
    go (inr v) = absurd (not_valued v)
