-- The rules on names over the rows of a guideline: what breaks one at a row, said of the kinds, names and places of the rows alone. Definitions only.
-- Whose attribute a row is follows from the rows before it.
use Rattle.std.specs.Prelude.{ℕ, ◌≤◌, ◌<◌, ◌≡◌, Bool, true, false, cond, ◌&&◌, ◌||◌, List, [], ◌∷◌}
use Rattle.paper_expressions.specs.Bytes.{Alike}
use Rattle.paper_tokens.specs.Tokens
use Tokens.{“plan”, “action”, “enquiry”, “data”, “=”, “caption”, “description”, “precondition”, “wait-condition”, “postcondition”, “trigger”, “terminate”, “component”, “source”}
use Tokens.{“schedule-constraint”, “terminal”, “mandatory”}
use Rattle.paper_grammar.proofs.Laws.Ll.{is_in}

-- what is read of each row: its kind, the place of its word, its name and the place of its name
pub record Sheet : Type 0 where
  pub count : ℕ
  pub kind : ℕ → ℕ
  pub word : ℕ → ℕ
  pub spelt : ℕ → List ℕ
  pub place : ℕ → ℕ

-- ---- kinds

abbrev pub task_kind : ℕ → Bool
task_kind k = is_in k (“plan” ∷ “action” ∷ “enquiry” ∷ [])

-- a task or a data item begins
abbrev pub head_kind : ℕ → Bool
head_kind k = is_in k (“plan” ∷ “action” ∷ “enquiry” ∷ “data” ∷ [])

-- attributes that stand once: all but component, schedule_constraint and source
abbrev pub once : ℕ → Bool
once k =
    is_in k (“caption” ∷ “description” ∷ “precondition” ∷ “wait-condition” ∷ “postcondition” ∷ “terminate” ∷ “trigger” ∷ “terminal” ∷ “mandatory” ∷ [])

-- of these also a component or a source has one of its own
abbrev pub inner : ℕ → Bool
inner k = is_in k (“caption” ∷ “description” ∷ “terminal” ∷ “mandatory” ∷ [])

-- before a row of kind m another owner's attributes stand, as far as those of kind k go
abbrev pub parts_from : ℕ → ℕ → Bool
parts_from k m = head_kind m || (is_in m (“component” ∷ “source” ∷ []) && inner k)

-- ---- rows

module _ (s : Sheet) where
  abbrev pub Task : ℕ → Type 0
  Task i = (i < s.count) × (task_kind (s.kind i) ≡ true)

  abbrev pub Of : ℕ → ℕ → Type 0
  Of k i = (i < s.count) × (s.kind i ≡ k)

  abbrev pub Same : ℕ → ℕ → Type 0
  Same i j = s.spelt i ≡ s.spelt j

  -- no task and no data item begins between them
  abbrev pub Clear : ℕ → ℕ → Type 0
  Clear i j = (m : ℕ) → i < m → m < j → head_kind (s.kind m) ≡ false

  -- the row c is a component of the plan that begins at the row t
  abbrev pub Holds : ℕ → ℕ → Type 0
  Holds t c = (t < c) × Of “component” c × Clear t c

  -- the component whose attribute the row j is
  abbrev pub Own : ℕ → ℕ → Type 0
  Own j c = (c < j) × Of “component” c × ((m : ℕ) → c < m → m < j → ¬ (s.kind m ≡ “component”))

  -- the component c stands in the plan in which the row j does
  abbrev pub Beside : ℕ → ℕ → Type 0
  Beside j c = Of “component” c × (c < j → Clear c j) × (j < c → Clear j c)

  pub data Reached : ℕ → Type 0 where
    the_root : Reached 0
    by_component : {i j c : ℕ} → Reached i → Task i → Holds i c → Task j → Same c j → Reached j

  -- the row breaks a rule on its own name or word
  pub data Flaw (j : ℕ) : Type 0 where
    task_again : {i : ℕ} → i < j → Task i → Task j → Alike (s.spelt i) (s.spelt j) → Flaw j
    item_again : {i : ℕ} → i < j → Of “data” i → Of “data” j → Alike (s.spelt i) (s.spelt j) → Flaw j
    attribute_again : {i : ℕ} → i < j → j < s.count → once (s.kind j) ≡ true → s.kind i ≡ s.kind j
        → ((m : ℕ) → i < m → m < j → parts_from (s.kind j) (s.kind m) ≡ false) → Flaw j
    component_of_none : Of “component” j → ((t : ℕ) → Task t → ¬ Same j t) → Flaw j
    component_of_root : Of “component” j → Same j 0 → Flaw j
    component_again : {i : ℕ} → i < j → Of “component” i → Of “component” j → Same i j → Flaw j
    constraint_of_itself : {c : ℕ} → Of “schedule-constraint” j → Own j c → Same j c → Flaw j
    constraint_of_none : Of “schedule-constraint” j → ((c : ℕ) → Beside j c → ¬ Same j c) → Flaw j
    target_of_none : Of “=” j → ((d : ℕ) → Of “data” d → ¬ Alike (s.spelt j) (s.spelt d)) → Flaw j
    source_of_none : Of “source” j → ((d : ℕ) → Of “data” d → ¬ Same j d) → Flaw j

  -- or is a task that is not reached from the root
  pub data Bad (j : ℕ) : Type 0 where
    flawed : Flaw j → Bad j
    unreached : Task j → ¬ Reached j → Bad j

  -- the place of the breach: the repeated attribute's word, or the name
  abbrev pub spot : ℕ → ℕ
  spot j = cond (once (s.kind j)) (s.word j) (s.place j)
