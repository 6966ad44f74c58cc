-- Which rule on names a row breaks, as it is told to a person: with the row of the other definition. Definitions, and at the end what the code finds out of them.
use Rattle.std.specs.Prelude.{ℕ, ◌≤◌, ◌<◌, ◌≡◌, Bool, true, false, ◌&&◌, ◌||◌, List, [], ◌∷◌, ltb}
use Rattle.std.proofs.Common.{sym, ap, subst, ◌∙◌, lt-ltb, le-ltb, ne_eqb}
use Rattle.paper_expressions.proofs.Laws.Search.{sameb}
use Rattle.paper_tokens.specs.Tokens.{“data”, “=”, “component”, “source”, “schedule-constraint”}
use Rattle.paper_grammar.proofs.Laws.Ll.{is_in}
use Rattle.parts.specs.Texts.{text_at_fn}
use Rattle.row_names.specs.Sheet.{task_kind, once}
use Rattle.row_tests.specs.Table.{cell_of, kind_of, component_named}
use Rattle.row_tests.specs.Searched.{Some, Nearest, Start, Finish}
use Rattle.explain_rows.specs.declared.firsts.Sort.{Sort}
use Rattle.explain_rows.specs.declared.firsts.Sort.TheVariants.{Task, Item, Component}
use Rattle.explain_rows.specs.declared.rules.Rule.{Rule}
use Rattle.explain_rows.specs.declared.rules.Rule.TheVariants.{TaskTwice, ItemTwice, AttributeTwice, ComponentOfRoot, ComponentTwice, ComponentOfNone, ConstraintOnItself, ConstraintOnNone, SourceOfNone, TargetOfNone, NotReached, Kept}
use Rattle.explain_rows.specs.Firsts.{named-at, First, Before}

-- the kinds of rows that give a name, or name something
abbrev pub named_kind : ℕ → Bool
named_kind k = task_kind k || is_in k (“data” ∷ “component” ∷ “schedule-constraint” ∷ “source” ∷ “=” ∷ [])

-- the component c, before the row j, has its name
abbrev pub own_named : List ℕ → List ℕ → ℕ → ℕ → Bool
own_named x b j c = ltb c j && sameb (text_at_fn b (cell_of x c 2)) (text_at_fn b (cell_of x j 2))

-- r tells whether a component of the plan around the row j has its name
pub record BesideNamed (x : List ℕ) (n : ℕ) (b : List ℕ) (j : ℕ) (r : Bool) : Type 0 where
  pub from : ℕ
  pub to : ℕ
  pub starts : Start x j from
  pub ends : Finish x n j to
  pub told : Some (component_named x b (cell_of x j 2)) from to r

module _ (x : List ℕ) (n : ℕ) (b : List ℕ) (j : ℕ) where
  -- the first row before `to` that gives the name of the row j; that none does; that one does
  abbrev pub Gives : Sort → Bool → ℕ → ℕ → Type 0
  Gives s folded to i = (i < to) × First (named-at x b s folded (cell_of x j 2)) to i

  abbrev pub Lacks : Sort → Bool → ℕ → Type 0
  Lacks s folded to = First (named-at x b s folded (cell_of x j 2)) to to

  abbrev pub Has : Sort → Bool → ℕ → Type 0
  Has s folded to = (i : ℕ) × Gives s folded to i

  -- it has the name of the root
  abbrev pub root_named : Bool
  root_named = sameb (text_at_fn b (cell_of x 0 2)) (text_at_fn b (cell_of x j 2))

  -- the row breaks no rule, if it is no task
  pub data Unbroken : Type 0 where
    item_kept : kind_of x j ≡ “data” → Lacks Item true j → Unbroken
    component_kept : kind_of x j ≡ “component” → root_named ≡ false → Lacks Component false j → Has Task false n → Unbroken
    constraint_kept : {c : ℕ} → kind_of x j ≡ “schedule-constraint” → Nearest x j c → own_named x b j c ≡ false → BesideNamed x n b j true → Unbroken
    source_kept : kind_of x j ≡ “source” → Has Item false n → Unbroken
    target_kept : kind_of x j ≡ “=” → Has Item true n → Unbroken
    attribute_kept : once (kind_of x j) ≡ true → Before x j j → Unbroken
    nothing_asked : named_kind (kind_of x j) ≡ false → once (kind_of x j) ≡ false → Unbroken

  -- what each answer says of the row j
  abbrev pub Told : Rule → Type 0
  Told (TaskTwice i) = (task_kind (kind_of x j) ≡ true) × Gives Task true j i
  Told NotReached = (task_kind (kind_of x j) ≡ true) × Lacks Task true j
  Told (ItemTwice i) = (kind_of x j ≡ “data”) × Gives Item true j i
  Told ComponentOfRoot = (kind_of x j ≡ “component”) × (root_named ≡ true)
  Told (ComponentTwice i) = (kind_of x j ≡ “component”) × Gives Component false j i
  Told ComponentOfNone = (kind_of x j ≡ “component”) × Lacks Task false n
  Told (ConstraintOnItself c) = (kind_of x j ≡ “schedule-constraint”) × Nearest x j c × (own_named x b j c ≡ true)
  Told ConstraintOnNone = (kind_of x j ≡ “schedule-constraint”) × BesideNamed x n b j false
  Told SourceOfNone = (kind_of x j ≡ “source”) × Lacks Item false n
  Told TargetOfNone = (kind_of x j ≡ “=”) × Lacks Item true n
  Told (AttributeTwice i) = (once (kind_of x j) ≡ true) × (i < j) × Before x j i
  Told Kept = Unbroken

-- ---- for the rows of one kind

abbrev pub TellsTask : List ℕ → List ℕ → ℕ → Rule → Type 0
TellsTask x b j r = (n : ℕ) → task_kind (kind_of x j) ≡ true → Told x n b j r

abbrev pub TellsItem : List ℕ → List ℕ → ℕ → Rule → Type 0
TellsItem x b j r = (n : ℕ) → kind_of x j ≡ “data” → Told x n b j r

abbrev pub TellsComponent : List ℕ → ℕ → List ℕ → ℕ → Rule → Type 0
TellsComponent x n b j r = kind_of x j ≡ “component” → Told x n b j r

abbrev pub TellsConstraint : List ℕ → ℕ → List ℕ → ℕ → Rule → Type 0
TellsConstraint x n b j r = kind_of x j ≡ “schedule-constraint” → Told x n b j r

abbrev pub TellsSource : List ℕ → ℕ → List ℕ → ℕ → Rule → Type 0
TellsSource x n b j r = kind_of x j ≡ “source” → Told x n b j r

abbrev pub TellsTarget : List ℕ → ℕ → List ℕ → ℕ → Rule → Type 0
TellsTarget x n b j r = kind_of x j ≡ “=” → Told x n b j r

abbrev pub TellsAttribute : List ℕ → ℕ → Rule → Type 0
TellsAttribute x j r = (n : ℕ) (b : List ℕ) → named_kind (kind_of x j) ≡ false → Told x n b j r

-- ---- what the code finds out

module _ (x b : List ℕ) (j c : ℕ) where
  pub own_not : j ≤ c → false ≡ own_named x b j c
  own_not l = rw (le-ltb c j l)

  pub own_so : c < j → {g h : ℕ} {r : Bool} → g ≡ cell_of x c 2 → h ≡ cell_of x j 2 → r ≡ sameb (text_at_fn b g) (text_at_fn b h) → r ≡ own_named x b j c
  own_so l {g} {h} eg eh e = rw (lt-ltb c j l) (e ∙ ap (λ (z : ℕ). sameb (text_at_fn b z) (text_at_fn b h)) eg ∙ ap (λ (z : ℕ). sameb (text_at_fn b (cell_of x c 2)) (text_at_fn b z)) eh)

module _ (x : List ℕ) (n : ℕ) (b : List ℕ) (j : ℕ) where
  pub beside_is : {a z h : ℕ} {r : Bool} → Start x j a → Finish x n j z → h ≡ cell_of x j 2 → Some (component_named x b h) a z r → BesideNamed x n b j r
  beside_is {a} {z} {h} {r} s f e t = record { from = a; to = z; starts = s; ends = f; told = subst (λ (g : ℕ). Some (component_named x b g) a z r) e t }

  pub beside_as : {r t : Bool} → BesideNamed x n b j r → r ≡ t → BesideNamed x n b j t
  beside_as h e = subst (BesideNamed x n b j) e h

pub not_named : (k : ℕ) → task_kind k ≡ false → ¬ (k ≡ “data”) → ¬ (k ≡ “component”) → ¬ (k ≡ “schedule-constraint”) → ¬ (k ≡ “source”) → ¬ (k ≡ “=”) → named_kind k ≡ false
not_named k t a c d e f = rw (t, ne_eqb k “data” a, ne_eqb k “component” c, ne_eqb k “schedule-constraint” d, ne_eqb k “source” e, ne_eqb k “=” f)

-- the names of the root and of the row
pub root_is : (x : List ℕ) (n : ℕ) (b : List ℕ) (j : ℕ) {g h : ℕ} {r : Bool} → g ≡ cell_of x 0 2 → h ≡ cell_of x j 2 → r ≡ sameb (text_at_fn b g) (text_at_fn b h) → r ≡ root_named x n b j
root_is x n b j {g} {h} eg eh e = e ∙ ap (λ (z : ℕ). sameb (text_at_fn b z) (text_at_fn b h)) eg ∙ ap (λ (z : ℕ). sameb (text_at_fn b (cell_of x 0 2)) (text_at_fn b z)) eh

-- a test of the kind, made by the code
pub kind_is : (f : ℕ → Bool) {k m : ℕ} {r : Bool} → k ≡ m → r ≡ f k → {t : Bool} → r ≡ t → f m ≡ t
kind_is f e q h = sym (ap f e) ∙ sym q ∙ h
