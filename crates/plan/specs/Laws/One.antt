-- What is filled is one plan: every cell is in a column or 0, for the columns follow one another without a gap.
use Rattle.std.specs.Prelude.{ℕ, zero, suc, ◌+◌, ◌-◌, ◌≤◌, ◌<◌, ◌≡◌, refl, Bool, true, false, ◌&&◌, List, [], ◌∷◌, eqb, length, get_or}
use Rattle.std.proofs.Common.{sym, ap, subst, ◌∙◌, arith, eqb-true}
use Rattle.std.proofs.Math.Decide.{dec_lt}
use Rattle.paper_expressions.proofs.Laws.Tests.{and_l, and_r}
use Rattle.plan.specs.Writes
use Writes.{Column, task_count, item_count, parent, triggered, terminal, order, confirms, class, first_source, source_count, source_item, mandatory, precondition, wait_condition, terminate, first_assignment, assignment_count, target, assigned-end, name, trigger, item_name, item_type, assigned_by}
use Writes.{Cells, first, room}
use Rattle.plan.specs.Filled.{plan_cells, Held, Marked, Filled}

-- lists of one length with the same entries are equal
same_lists : {A : Type 0} (d : A) (a b : List A) → length a ≡ length b → ((i : ℕ) → i < length a → get_or a i d ≡ get_or b i d) → a ≡ b
same_lists d [] [] e h = refl
same_lists d [] (y ∷ b) e h = absurd (omega arith)
same_lists d (x ∷ a) [] e h = absurd (omega arith)
same_lists d (x ∷ a) (y ∷ b) e h =
    ap (λ z. z ∷ a) (h 0 (omega arith)) ∙ ap (λ l. y ∷ l) (same_lists d a b (omega arith) (λ i u. h (suc i) (omega arith)))

-- ---- the columns one behind the other

abbrev follow : ℕ → List Column → Bool
follow a [] = eqb a plan_cells
follow a (p ∷ ps) = eqb a (first p) && follow (first p + room p) ps

abbrev columns : List Column
columns =
    parent
    ∷ triggered
    ∷ terminal
    ∷ order
    ∷ confirms
    ∷ class
    ∷ first_source
    ∷ source_count
    ∷ source_item
    ∷ mandatory
    ∷ precondition
    ∷ wait_condition
    ∷ terminate
    ∷ first_assignment
    ∷ assignment_count
    ∷ target
    ∷ assigned-end
    ∷ name
    ∷ trigger
    ∷ item_name
    ∷ item_type
    ∷ assigned_by
    ∷ []

-- the column of a cell, and its index there
pub record Spot (c : ℕ) : Type 0 where
  pub column : Column
  pub index : ℕ
  pub inside : index < room column
  pub is : first column + index ≡ c

spot_in : (ps : List Column) (a : ℕ) → follow a ps ≡ true → (c : ℕ) → a ≤ c → c < plan_cells → Spot c
spot_in [] a e c l u = absurd (let z = eqb-true a plan_cells e in omega arith)
spot_in (p ∷ ps) a e c l u = go (dec_lt c (first p + room p)) (λ v. spot_in ps (first p + room p) (and_r (eqb a (first p)) (follow (first p + room p) ps) e) c v u)
  where
    go : Dec (c < first p + room p) → (first p + room p ≤ c → Spot c) → Spot c
    go (yes v) f =
        let z = eqb-true a (first p) (and_l (eqb a (first p)) (follow (first p + room p) ps) e) in
        record { column = p; index = c - first p; inside = omega arith; is = omega arith }
    go (no v) f = f (omega arith)

-- ---- one plan

module _ {m : Cells} {f g : List ℕ} (h : Held m f) (k : Held m g) where
  in_column : {c : ℕ} → Spot c → get_or f c 0 ≡ get_or g c 0
  in_column {c} s = subst (λ (i : ℕ). get_or f i 0 ≡ get_or g i 0) s.is (h.cells s.column s.index s.inside ∙ sym (k.cells s.column s.index s.inside))

  each_cell : (c : ℕ) → Dec (c < 8) → Dec (c < 2) → Dec (c < 1) → Dec (c < plan_cells) → get_or f c 0 ≡ get_or g c 0
  each_cell c (yes u) (yes v) (yes w) x = in_column (record { column = task_count; index = 0; inside = omega arith; is = omega arith })
  each_cell c (yes u) (yes v) (no w) x = in_column (record { column = item_count; index = 0; inside = omega arith; is = omega arith })
  each_cell c (yes u) (no v) w x = h.spare c (omega arith) u ∙ sym (k.spare c (omega arith) u)
  each_cell c (no u) v w (yes x) = in_column (spot_in columns 8 refl c (omega arith) x)
  each_cell c (no u) v w (no x) = h.beyond c (omega arith) ∙ sym (k.beyond c (omega arith))

  pub one_plan : length f ≡ length g → f ≡ g
  one_plan e = same_lists 0 f g e (λ c u. each_cell c (dec_lt c 8) (dec_lt c 2) (dec_lt c 1) (dec_lt c plan_cells))

pub one_waiting : {m : ℕ → ℕ → Bool} {v w : List (List Bool)} → Marked m v → Marked m w → v ≡ w
one_waiting {m} {v} {w} h k =
    let a = h.long in
    let b = k.long in
    same_lists [] v w (a ∙ sym b)
    (λ T u. let l : T < 32 = omega arith in
    same_lists false (get_or v T []) (get_or w T []) (h.wide T l ∙ sym (k.wide T l))
    (λ A z. let y = h.wide T l in h.marks T A l (omega arith) ∙ sym (k.marks T A l (omega arith))))

pub one_filled : {x : List ℕ} {n : ℕ} {b f g : List ℕ} {v w : List (List Bool)} → length f ≡ length g → Filled x n b f v → Filled x n b g w → (f ≡ g) × (v ≡ w)
one_filled e h k = (one_plan h.held k.held e, one_waiting h.marked k.marked)
