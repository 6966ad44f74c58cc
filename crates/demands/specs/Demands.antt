-- The three demands, of every table that a series of public calls leaves. By the state that the tables hold, which a published series of calls reaches.
use Rattle.std.specs.Prelude.{ℕ, ◌<◌, ◌≡◌, refl, Bool, true, List, get_or}
use Rattle.std.proofs.Common.{arith, sym, ap, subst, ◌∙◌}
use Rattle.paper_expressions.specs.Values.{Value}
use Rattle.paper_expressions.specs.Types.{Ty}
use Rattle.paper_expressions.specs.Operators.{extreme, min}
use Rattle.paper_expressions.specs.Expressions.{Expr, ε, ◌▸◌, Apply, HasType}
use Rattle.paper_expressions.specs.Clauses.{Clause}
use Rattle.paper_expressions.specs.Evaluation.{Evaluates}
use Rattle.paper_expressions.specs.Promises.{MinimumOf}
use Rattle.paper_expressions.proofs.Laws.MinimumOf.{minimum_of}
use Rattle.paper_expressions.specs.View.{View, At, Sound}
use Rattle.paper_guideline.specs.Parts.{Typed, expressions}
use Rattle.paper_guideline.specs.Structure.{TopLevel}
use Rattle.paper_guideline.specs.Refusals as Refusals
use Refusals.{Stage, text_stage, lexical_stage, count_stage, grammar_stage, left_out_stage, limit_stage, name_stage, type_stage, turn, number, declared_items, Fitting, Breach, no_type}
use Rattle.paper_rows.specs.Table.{data_item, ◌№◌, RowValue, value, Table, Contains, ViewOf}
use Rattle.paper_engine.specs.Cycle as Cycle
use Rattle.paper_engine.proofs.Laws.Kept.{TypedRow, view_of, view_sound, one_view}
use Rattle.paper_calls.specs.Calls as Calls
use Calls.{Guideline, State, empty, loaded, ran, refuses, Call, load, run, Calls, run_done, Series, no_call, then_call}
use Rattle.paper_calls.proofs.Laws.CallLaws.{Good, good_loaded, series_good, one_reading}
use Rattle.paper_calls.proofs.Laws.TotalLaws.{NotLoad, is_run}
use Rattle.paper_calls.proofs.Laws.Demands.{CallNumber, refused_call, Keeps, every_expression}
use Rattle.load.specs.declared.Reply.{Reply}
use Rattle.load.specs.declared.Reply.TheVariants as Load
use Rattle.load.specs.Loads.{Lent, short_f, Empty, Outcome, Replied}
use Rattle.load.specs.LoadsLaws.{one_reply as load-once}
use Rattle.replying.specs.Replying.{Holding, holds_none, Called}
use Rattle.replying.specs.OneReply.{SameOutcome, one_reply}
use Rattle.loaded.specs.Loaded.{Leaves, load_leaves}
use Rattle.demands.specs.Reached.{On, Reached, from_empty, by_load, by_call, after}

-- ---- the tables hold a state that a published series of calls reaches

pub record Known (a : Lent) : Type 0 where
  pub state : State
  pub series : Series state
  pub holds : Holding a.parts.cells a.parts.bytes a.plan a.waits a.state state

pub known : {a : Lent} → Reached a → Known a
known (from_empty e) = record { state = empty; series = no_call; holds = holds_none e }
known (by_load {text} {a} {a'} {r} h l) =
    let k = known h in
    let m = load_leaves l k.state in
    record { state = m.after; series = then_call k.series m.calls; holds = m.holds }
known (by_call h n l) =
    let k = known h in
    let m = l.called k.state k.holds in
    record { state = m.after; series = then_call k.series m.calls; holds = m.holds }

-- ---- 1: "Every call ends": two replies that meet its contract are one, and so are the tables that they leave

pub one_load : {text : List ℕ} {a b c : Lent} {r s : Reply} → Replied text a b r → Replied text a c s → (r ≡ s) × (b ≡ c)
one_load h k = load-once h k

pub one_call : {c : Call} {a : Lent} {b s v u : List ℕ} {r q : Calls.Reply} → Reached a → NotLoad c → On c a b s r → On c a v u q → SameOutcome r b s q v u
one_call h n l m = one_reply n l m (known h).holds

-- ---- "a refused load leaves an empty guideline, any other refused call changes nothing"

pub refused_load : {text : List ℕ} {a a' : Lent} {n p : ℕ} → Replied text a a' (Load.Refused n p) → Refusals.Answers (short_f a ≡ true) text (Refusals.refused n p) × Empty a a'
refused_load h = h.outcome

-- every byte and cell is as it was; place 0, count 0, and one of the numbers 7, 8, 9 and 6
pub record Nothing (b s b' s' : List ℕ) (n p k : ℕ) : Type 0 where
  pub bytes : b' ≡ b
  pub cells : s' ≡ s
  pub place : p ≡ 0
  pub count : k ≡ 0
  pub number : CallNumber n

pub refused_other : {c : Call} {a : Lent} {b' s' : List ℕ} {n p k : ℕ} → Reached a → NotLoad c
    → On c a b' s' (refuses n p k) → Nothing a.parts.bytes a.state b' s' n p k
refused_other h x l =
    let k = known h in
    let m = l.called k.state k.holds in
    let u = refused_call x m.calls in
    let z = l.refused refl in
    record { bytes = z.0; cells = z.1; place = u.place; count = u.count; number = u.number }

-- ---- 2: "A run enacts the published cycles until quiet, an exception, or the bound; the number enacted is reported"

pub record Ran (st st' : State) (n : ℕ) (r : Cycle.Report) : Type 0 where
  pub before : Guideline
  pub was : st ≡ loaded before
  pub table : Table
  pub flag : Bool
  pub is : st' ≡ loaded (record { structure = before.structure; table = table; flag = flag; time = before.time })
  pub runs : Cycle.Runs before.time n 0 (record { table = before.table; flag = before.flag }) (record { table = table; flag = flag }) r

ran_of : {n lent : ℕ} {st st' : State} {r : Cycle.Report} → Calls (run n lent) st (ran r) st' → Ran st st' n r
ran_of (run_done u l m r) = record { before = _; was = refl; table = _; flag = _; is = refl; runs = r }

-- the state that the tables hold afterwards is the one that the published run comes to, with its report
pub a_run : {a : Lent} {n lent : ℕ} {b' s' : List ℕ} {r : Cycle.Report} (h : Reached a)
    (l : On (run n lent) a b' s' (ran r)) → Ran (known h).state (known (by_call h is_run l)).state n r
unfolding known
a_run h l = let k = known h in ran_of (l.called k.state k.holds).calls

-- "A minimum that is known is one of the readings, no known reading lies below it, and it is unknown only if no reading is known"
pub shallowest : {g : Guideline} {v : View} {T : ℕ} {e : Expr} {t : Ty} {cs : List Clause} {r : Value} → Series (loaded g) → ViewOf g.table v
    → HasType v T (Apply (extreme min) (e ▸ ε)) t → Evaluates v T (Apply (extreme min) (e ▸ ε)) cs r → MinimumOf v T e r
shallowest {v = v} {T} h o = minimum_of v T (go (series_good h) o)
  where
    go : {g : Guideline} → Good (loaded g) → ViewOf g.table v → Sound v
    go (good_loaded l z t m) o = subst Sound (one_view (view_of l t.kept) o) (view_sound l t.kept)

-- ---- 3: "A guideline that loads cannot get stuck"

-- every data item holds unknown or a value of its declared type
pub typed_values : {g : Guideline} {d : ℕ} {r : RowValue} → Series (loaded g) → Contains g.table (data_item № d) value r → TypedRow g.table d r
typed_values {d = d} {r} h e = go (series_good h) e
  where
    go : {g : Guideline} → Good (loaded g) → Contains g.table (data_item № d) value r → TypedRow g.table d r
    go (good_loaded l z t m) e = t.kept.values e

-- every expression of the guideline finds exactly one clause for each part, and comes to unknown or a value of its inferred type
pub never_stuck : {a : Lent} {g : Guideline} {v : View} {i : ℕ} {x : Typed} (h : Reached a) → (known h).state ≡ loaded g → ViewOf g.table v → At (expressions g.structure) i x → Keeps v x
never_stuck h e o q = every_expression (subst Series e (known h).series) o q

-- "a text that passes the earlier checks is refused for type exactly when some expression has no fitting type"
pub record Passes (Short : Type 0) (text : List ℕ) (g : List TopLevel) : Type 0 where
  pub read : Refusals.Read text g
  pub unbroken : {s : Stage} {q : ℕ} → turn s < turn type_stage → ¬ Breach Short text s q

pub record Misfit (g : List TopLevel) : Type 0 where
  pub number : ℕ
  pub its : Typed
  pub at : At (expressions g) number its
  pub unfit : ¬ Fitting (declared_items g) its its.role

typed_stage : (s : Stage) → number s ≡ 5 → s ≡ type_stage
typed_stage type_stage e = refl
typed_stage text_stage e = absurd (let z : ⊥ = omega arith in z)
typed_stage lexical_stage e = absurd (let z : ⊥ = omega arith in z)
typed_stage count_stage e = absurd (let z : ⊥ = omega arith in z)
typed_stage grammar_stage e = absurd (let z : ⊥ = omega arith in z)
typed_stage left_out_stage e = absurd (let z : ⊥ = omega arith in z)
typed_stage limit_stage e = absurd (let z : ⊥ = omega arith in z)
typed_stage name_stage e = absurd (let z : ⊥ = omega arith in z)

-- the types are tested last
by_type : (s : Stage) → ¬ (turn s < turn type_stage) → s ≡ type_stage
by_type type_stage n = refl
by_type text_stage n = absurd (n (omega arith))
by_type lexical_stage n = absurd (n (omega arith))
by_type count_stage n = absurd (n (omega arith))
by_type grammar_stage n = absurd (n (omega arith))
by_type left_out_stage n = absurd (n (omega arith))
by_type limit_stage n = absurd (n (omega arith))
by_type name_stage n = absurd (n (omega arith))

module _ {Short : Type 0} {text : List ℕ} {g : List TopLevel} (passes : Passes Short text g) where
  misfit : {p : ℕ} → Breach Short text type_stage p → Misfit g
  misfit (no_type r q n) = subst Misfit (one_reading r passes.read) (record { number = _; its = _; at = q; unfit = n })

  pub answered_type : {p : ℕ} → Refusals.Answers Short text (Refusals.refused 5 p) → Misfit g
  answered_type {p} (Refusals.is_refused k) = misfit (subst (λ (s : Stage). Breach Short text s p) (typed_stage k.stage k.numbered) k.broken)

  broken : (m : Misfit g) → Breach Short text type_stage m.its.expression.start
  broken m = no_type passes.read m.at m.unfit

  pub type_answered : {n p : ℕ} → Misfit g → Refusals.Answers Short text (Refusals.refused n p) → n ≡ 5
  type_answered m (Refusals.is_refused k) = sym k.numbered ∙ ap number (by_type k.stage (λ l. passes.unbroken l k.broken))

  pub not_answered : Misfit g → ¬ Refusals.Answers Short text Refusals.loads
  not_answered m (Refusals.is_loaded q n) = n type_stage _ (broken m)

pub refused_type : {text : List ℕ} {a a' : Lent} {g : List TopLevel} {p : ℕ} → Passes (short_f a ≡ true) text g → Replied text a a' (Load.Refused 5 p) → Misfit g
refused_type k h = answered_type k h.outcome.0

pub type_refused : {text : List ℕ} {a a' : Lent} {g : List TopLevel} {r : Reply} → Passes (short_f a ≡ true) text g → Misfit g → Replied text a a' r → (p : ℕ) × (r ≡ Load.Refused 5 p)
type_refused {text} {a} {a'} {r = r} k m h = go r h.outcome
  where
    go : (r : Reply) → Outcome text a a' r → (p : ℕ) × (r ≡ Load.Refused 5 p)
    go Load.Done o = absurd (not_answered k m o.answers)
    go (Load.Refused n p) o = (p, ap (λ (x : ℕ). Load.Refused x p) (type_answered k m o.0))
