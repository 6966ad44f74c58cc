-- Marks of 8.6.8, 8.6.3 and 8.6.4 for all tasks: what each pass promises of every table that the cells show, and the laws of its loop. By the tasks passed.
use Rattle.std.specs.Prelude.{ℕ, ◌+◌, ◌<◌, ◌≤◌, ◌≡◌, Bool, false, not, ◌||◌, List, set, length}
use Rattle.std.proofs.Common.{arith, sym, ap, subst, ◌∙◌, get_or-set_same, get_or-set_other, below_more}
use Rattle.std.proofs.Math.Decide.{ℕ_discrete}
use Rattle.paper_rows.specs.Table.{precondition, wait_condition, Table}
use Rattle.paper_engine.specs.Conditions.{StartConditions, InitialiseConditions, TerminationConditions, DiscardConditions, CompleteConditions}
use Rattle.state.specs.Layout.{Rows}
use Rattle.waits.specs.Booleans.{Tests}
use Rattle.waits.specs.Twins.{marked, waiting, parent_at, order_at}
use Rattle.waits.specs.Worked.{Worked, Allowed, Marks}
use Rattle.marks.specs.Raise.{Below}
use Rattle.discards.specs.Twins.{ends_f, discard_f}
use Rattle.discards.specs.DiscardLaws.{Ends, termination_test, discard_test}
use Rattle.completes.specs.Twins.{settled_f, complete_f}
use Rattle.completes.specs.CompleteLaws.{complete_test}

-- a mark more, of a function of the tasks
abbrev pub Upto : (ℕ → Bool) → ℕ → List Bool → Type 0
Upto h k m = (T : ℕ) → T < k → marked m T ≡ h T

pub upto_more : (h : ℕ → Bool) (k : ℕ) (m : List Bool) {v : Bool} → length m ≡ 32 → k < 32 → v ≡ h k → Upto h k m → Upto h (k + 1) (set m k v)
upto_more h k m {v} e l q i =
    below_more (λ (T : ℕ). marked (set m k v) T ≡ h T) k
    (λ T j. get_or-set_other m k T v false (λ z. omega arith) ∙ i T j) (get_or-set_same m k v false (omega arith) ∙ q)

-- ---- 8.6.8

abbrev pub Terminated : List ℕ → List ℕ → List Bool → List Bool → Type 0
Terminated s f ends m = (w : List (List Bool)) (n : ℕ) (t : Table) → Rows s t → Worked f w n t → Marks n (Ends t) ends → Marks n (TerminationConditions t) m

pub terminated_all : (s f : List ℕ) (ends below : List Bool) (k : ℕ) (m : List Bool) → 32 ≤ k → Below f (ends_f s f) 32 below → Upto (λ T. marked ends T || marked below T) k m → Terminated s f ends m
terminated_all s f ends below k m e b h w n t rows worked right T l =
    let z = worked.number in
    subst (λ (x : Bool). Tests x (TerminationConditions t T)) (sym (h T (omega arith))) (termination_test rows worked (marked ends T) below T l (right T l) b)

-- ---- 8.6.3

-- the tasks before the k-th of the order have their marks
abbrev pub DiscardedUpto : List ℕ → List ℕ → List (List Bool) → List Bool → List Bool → List Bool → ℕ → List Bool → Type 0
DiscardedUpto s f w pre wait ended k m =
    (n : ℕ) (t : Table) → Rows s t → Worked f w n t → Marks n (Allowed t precondition) pre → Marks n (Allowed t wait_condition) wait → Marks n (TerminationConditions t) ended
    → (j : ℕ) → j < k → Tests (marked m (order_at f j)) (DiscardConditions t (order_at f j))

abbrev pub Discarded : List ℕ → List ℕ → List (List Bool) → List Bool → List Bool → List Bool → List Bool → Type 0
Discarded s f w pre wait ended m =
    (n : ℕ) (t : Table) → Rows s t → Worked f w n t → Marks n (Allowed t precondition) pre → Marks n (Allowed t wait_condition) wait → Marks n (TerminationConditions t) ended
    → Marks n (DiscardConditions t) m

pub discarded_more : (s f : List ℕ) (w : List (List Bool)) (pre wait ended : List Bool) (k : ℕ) (m : List Bool) {T : ℕ} {v : Bool} → length m ≡ 32 → k < 32 → (order_at f k < 32 → T ≡ order_at f k)
    → v ≡ discard_f s f (waiting w T) (marked pre T) (marked wait T) ended m T → DiscardedUpto s f w pre wait ended k m → DiscardedUpto s f w pre wait ended (k + 1) (set m T v)
discarded_more s f w pre wait ended k m {T} {v} len l at q h n t rows worked a b c =
    below_more (λ (j : ℕ). Tests (marked (set m T v) (order_at f j)) (DiscardConditions t (order_at f j))) k earlier last
  where
    e : T ≡ order_at f k
    e = at (let z = worked.number in let y = worked.tasks l in omega arith)

    inside : T < n
    inside = rw e (worked.tasks l)

    known : (P : ℕ) → parent_at f T ≡ P + 1 → Tests (marked m P) (DiscardConditions t P) × Tests (marked ended P) (TerminationConditions t P)
    known P x =
        let y = worked.first l (ap (parent_at f) (sym e) ∙ x) in
        let z : y.0 < 32 = (let i = y.1 in omega arith) in
        let i : P < n = subst (λ (o : ℕ). o < n) y.2 (worked.tasks z) in
        (subst (λ (o : ℕ). Tests (marked m o) (DiscardConditions t o)) y.2 (h n t rows worked a b c y.0 y.1), c P i)

    value : Tests v (DiscardConditions t T)
    value = subst (λ (x : Bool). Tests x (DiscardConditions t T)) (sym q) (discard_test rows worked T inside ended m (a T inside) (b T inside) known)

    own : Tests (marked (set m T v) T) (DiscardConditions t T)
    own = let z = worked.number in let i = inside in subst (λ (x : Bool). Tests x (DiscardConditions t T)) (sym (get_or-set_same m T v false (omega arith))) value

    last : Tests (marked (set m T v) (order_at f k)) (DiscardConditions t (order_at f k))
    last = subst (λ (y : ℕ). Tests (marked (set m T v) y) (DiscardConditions t y)) e own

    earlier : (j : ℕ) → j < k → Tests (marked (set m T v) (order_at f j)) (DiscardConditions t (order_at f j))
    earlier j i = go (ℕ_discrete (order_at f j) T)
      where
        go : Dec (order_at f j ≡ T) → Tests (marked (set m T v) (order_at f j)) (DiscardConditions t (order_at f j))
        go (yes x) = subst (λ (y : ℕ). Tests (marked (set m T v) y) (DiscardConditions t y)) (sym x) own
        go (no x) = subst (λ (y : Bool). Tests y (DiscardConditions t (order_at f j))) (sym (get_or-set_other m T (order_at f j) v false x)) (h n t rows worked a b c j i)

pub discarded_all : (s f : List ℕ) (w : List (List Bool)) (pre wait ended : List Bool) (k : ℕ) (m : List Bool) → 32 ≤ k → DiscardedUpto s f w pre wait ended k m → Discarded s f w pre wait ended m
discarded_all s f w pre wait ended k m e h n t rows worked a b c T l =
    let x = worked.ordered l in
    subst (λ (y : ℕ). Tests (marked m y) (DiscardConditions t y)) x.2 (h n t rows worked a b c x.0 (let z = x.1 in omega arith))

-- ---- 8.6.4

abbrev pub Completed : List ℕ → List ℕ → List Bool → List Bool → List Bool → List Bool → Type 0
Completed s f starts discards initialises m =
    (w : List (List Bool)) (n now : ℕ) (t : Table) → Rows s t → Worked f w n t → Marks n (StartConditions t now) starts → Marks n (DiscardConditions t) discards → Marks n (InitialiseConditions t now) initialises
    → Marks n (CompleteConditions t now) m

pub completed_all : (s f : List ℕ) (starts discards initialises pending : List Bool) (k : ℕ) (m : List Bool) → 32 ≤ k → Below f (λ C. not (settled_f s starts discards initialises C)) 32 pending
    → Upto (λ T. complete_f s f pending T) k m → Completed s f starts discards initialises m
completed_all s f starts discards initialises pending k m e b h w n now t rows worked x y z T l =
    let i = worked.number in
    subst (λ (o : Bool). Tests o (CompleteConditions t now T)) (sym (h T (omega arith))) (complete_test rows worked now starts discards initialises x y z pending T l b)
