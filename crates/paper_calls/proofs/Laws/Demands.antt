-- Laws: what the mission demands of every series of calls: what a refused call leaves, that every expression and every part of it finds one clause and comes to unknown or a value of its type,
-- that every row is allowed and of a component that is there, and that the lent Changes table is long enough.
use Rattle.std.specs.Prelude.{ℕ, ◌+◌, ◌*◌, ◌≤◌, Bool, ◌≡◌, refl, List, length}
use Rattle.std.proofs.Common.{arith, sym, ap, subst, ◌∙◌}
use Rattle.paper_expressions.specs.Types.{Ty}
use Rattle.paper_expressions.specs.View.{View, At}
use Rattle.paper_expressions.specs.Expressions.{Expr, HasType}
use Rattle.paper_expressions.proofs.Laws.Typing.{type_kept}
use Rattle.paper_expressions.proofs.Laws.Promise.{Part, Promised, promised, each_part}
use Rattle.paper_guideline.specs.Structure.{TopLevel}
use Rattle.paper_guideline.specs.Parts.{Role, condition, wording, assigned_to, Typed, expressions}
use Rattle.paper_guideline.specs.Limits.{task_limit, assignment_limit, source_limit}
use Rattle.paper_guideline.specs.Refusals.{Fitting, fits_condition, fits_wording, fits_assigned, declared_items}
use Rattle.paper_rows.specs.Table.{Component, Property, RowValue, Table, Contains, TaskId, Allowed, ViewOf}
use Rattle.paper_rows.proofs.Laws.Lawful.{Lawful}
use Rattle.paper_rows.proofs.Laws.RowLists.{Row, Listed}
use Rattle.paper_engine.specs.Operations.{Clause, Review, Changes}
use Rattle.paper_engine.specs.Cycle.{Rows}
use Rattle.paper_engine.proofs.Laws.Kept.{There, Kept, view_f, view_of, view_sound, same_items, one_view}
use Rattle.paper_engine.proofs.Laws.Twins.{review_f}
use Rattle.paper_engine.proofs.Laws.ReviewLaws.{review_one}
use Rattle.paper_engine.proofs.Laws.RowsLaws.{changes_f, changes_listed, few_rows}
use Rattle.paper_engine.proofs.Laws.RowFacts.{every_allowed, every_there}
use Rattle.paper_calls.specs.Calls
use Calls.{Guideline, State, empty, loaded, Reply, refuses, changes_least, Call, load, Calls, Series}
use Calls.{load_refused, run_7, run_6_bound, run_6_lent, time_7, time_6, confirm_7, confirm_8, add_7, add_8, add_9, add_9_none, add_6, trigger_7, trigger_6, read_7}
use Rattle.paper_calls.proofs.Laws.CallLaws.{Good, good_loaded, series_good}
use Rattle.paper_calls.proofs.Laws.TotalLaws.{NotLoad}

-- ---- refusals

pub data CallNumber : ℕ → Type 0 where
  not_ready : CallNumber 7
  no_component : CallNumber 8
  no_such_value : CallNumber 9
  too_large : CallNumber 6

pub record Unchanged (n p k : ℕ) (s s' : State) : Type 0 where
  pub state : s' ≡ s
  pub place : p ≡ 0
  pub count : k ≡ 0
  pub number : CallNumber n

unchanged : {n : ℕ} {s : State} → CallNumber n → Unchanged n 0 0 s s
unchanged h = record { state = refl; place = refl; count = refl; number = h }

-- "Other calls .. return place 0 and count 0, and change no byte."
pub refused_call : {c : Call} {s s' : State} {n p k : ℕ} → NotLoad c → Calls c s (refuses n p k) s' → Unchanged n p k s s'
refused_call x (load_refused a) = absurd (elim x [ ])
refused_call x (run_7 u) = unchanged not_ready
refused_call x (run_6_bound u b) = unchanged too_large
refused_call x (run_6_lent u b) = unchanged too_large
refused_call x (time_7 u) = unchanged not_ready
refused_call x (time_6 u b) = unchanged too_large
refused_call x (confirm_7 u) = unchanged not_ready
refused_call x (confirm_8 u b) = unchanged no_component
refused_call x (add_7 u) = unchanged not_ready
refused_call x (add_8 u b) = unchanged no_component
refused_call x (add_9 u b t o) = unchanged no_such_value
refused_call x (add_9_none u b) = unchanged no_such_value
refused_call x (add_6 u b t o m) = unchanged too_large
refused_call x (trigger_7 u) = unchanged not_ready
refused_call x (trigger_6 u b) = unchanged too_large
refused_call x read_7 = unchanged not_ready

-- "A refused load .. leaves an empty guideline"
pub refused_load : {short : Bool} {text : List ℕ} {s s' : State} {n p k : ℕ} → Calls (load text short) s (refuses n p k) s' → (s' ≡ empty) × (k ≡ 0)
refused_load (load_refused a) = (refl, refl)

-- ---- every expression, in every view of a state that calls reach

pub record Keeps (v : View) (x : Typed) : Type 0 where
  pub type : Ty
  pub has : HasType v x.attached x.expression.tree type
  pub whole : Promised v x.attached x.expression.tree type
  pub parts : (p : Expr) → Part p x.expression.tree → (u : Ty) × HasType v x.attached p u × Promised v x.attached p u

fitting_type : {v : View} {x : Typed} {r : Role} → Fitting v x r → (u : Ty) × HasType v x.attached x.expression.tree u
fitting_type (fits_condition h) = (_, h)
fitting_type (fits_wording h) = (_, h)
fitting_type (fits_assigned r h k f) = (_, k)

keeps : {g : List TopLevel} {t : Table} {i : ℕ} {x : Typed} → Lawful g → Kept g t → At (expressions g) i x → Keeps (view_f g t) x
keeps {g} {t} {x} lawful kept h =
    let k = fitting_type (lawful.types h) in
    let q = type_kept (declared_items g) (view_f g t) x.attached (same_items lawful kept) k.1 in
    let s = view_sound lawful kept in
    record { type = k.0; has = q; whole = promised (view_f g t) x.attached s q; parts = λ p z. each_part (view_f g t) x.attached s q z }

pub every_expression : {g : Guideline} {v : View} {i : ℕ} {x : Typed} → Series (loaded g) → ViewOf g.table v → At (expressions g.structure) i x → Keeps v x
every_expression {g} {v} {i} {x} h o q = go (series_good h) o q
  where
    go : {g : Guideline} → Good (loaded g) → ViewOf g.table v → At (expressions g.structure) i x → Keeps v x
    go (good_loaded l z t m) o q = subst (λ (w : View). Keeps w x) (one_view (view_of l t.kept) o) (keeps l t.kept q)

pub a_view : {g : Guideline} → Series (loaded g) → (v : View) × ViewOf g.table v
a_view h = go (series_good h)
  where
    go : {g : Guideline} → Good (loaded g) → (v : View) × ViewOf g.table v
    go (good_loaded {g} l z t m) = (view_f g.structure g.table, view_of l t.kept)

-- ---- every task: exactly one clause of Review fits

pub one_review : {g : Guideline} {T : ℕ} → Series (loaded g) → (now : ℕ) → TaskId g.table T → (c : Clause) × Review g.table now T c × ((d : Clause) → Review g.table now T d → d ≡ c)
one_review {T = T} h now i = go (series_good h) i
  where
    go : {g : Guideline} → Good (loaded g) → TaskId g.table T → (c : Clause) × Review g.table now T c × ((d : Clause) → Review g.table now T d → d ≡ c)
    go (good_loaded {g} l z t m) i = let k = review_one l t.kept now i in (review_f g.structure g.table now T, k.fits, λ d r. k.only r)

-- ---- every row

pub row_allowed : {g : Guideline} {c : Component} {p : Property} {r : RowValue} → Series (loaded g) → Contains g.table c p r → Allowed p r × There g.structure c
row_allowed {c} {p} {r} h e = go (series_good h) e
  where
    go : {g : Guideline} → Good (loaded g) → Contains g.table c p r → Allowed p r × There g.structure c
    go (good_loaded l z t m) e = (every_allowed t.kept e, every_there l t.kept e)

-- ---- the Changes table: "The team shows that no cycle needs more."

pub record Few (N : Rows) (n : ℕ) : Type 0 where
  pub list : List Row
  pub rows : Listed N list
  pub most : length list ≤ n

-- six rows for each task, one for each assignment and each source
pub few_changes : {g : Guideline} → Series (loaded g) → (now : ℕ) → Few (Changes g.table now) (6 * task_limit + (assignment_limit + source_limit))
few_changes h now = go (series_good h)
  where
    go : {g : Guideline} → Good (loaded g) → Few (Changes g.table now) (6 * task_limit + (assignment_limit + source_limit))
    go (good_loaded {g} l z t m) =
        record { list = changes_f g.structure g.table now; rows = changes_listed l t.kept now; most = few_rows l t.kept now z.few_tasks z.few_assignments z.few_sources }

pub lent_enough : 6 * task_limit + (assignment_limit + source_limit) ≤ changes_least
lent_enough = omega arith
