-- Law: what is read of the states is what the four functors give. By the one answer of 9.6.
use Rattle.std.specs.Prelude.{◌≡◌, refl, Bool, true, false, cond, List, ℕ, ◌<◌, eqb, ltb, get_or, length}
use Rattle.std.proofs.Common.{sym, ap, subst, ◌∙◌, arith, eq-eqb, ne_eqb, lt-ltb, le-ltb}
use Rattle.std.proofs.Math.Option.{Option, none, some}
use Rattle.std.proofs.Math.Decide.{dec_lt}
use Rattle.paper_expressions.specs.Values as paper
use Rattle.paper_expressions.specs.Values.{TaskState, dormant, in_progress, discarded, completed, one, truth, text}
use Rattle.paper_expressions.specs.Clauses.{Clause}
use Rattle.paper_expressions.specs.View.{View, Task, At, ResolveTask, Apart}
use Rattle.paper_expressions.specs.Operators.{by_text, IsIn, is_in_1, is_in_2, is_in_3}
use Rattle.paper_expressions.proofs.Laws.Search.{no_clash, at_one}
use Rattle.paper_expressions.proofs.Laws.Resolve.{task_same}
use Rattle.values.specs.declared.text.Handle.{Handle}
use Rattle.values.specs.declared.value.Value.{Value}
use Rattle.values.specs.declared.scalar.Scalar.{Scalar}
use Rattle.values.specs.declared.scalar.Scalar.TheVariants.{Unknown, Truth, Text}
use Rattle.values.specs.Meaning.{bytes_of, meaning, meaning_l, meaning_v, valued, scalar_of}
use Rattle.operators.specs.Comes.{single_is, lowered, lowered_is}
use Rattle.apply.specs.Tasks.{Tasks, StateOf, state_code, state_number}
use Rattle.apply.specs.TaskLaws.{task_resolved, task_unresolved}

-- r is what the functor of the state with the number k gives for the operand a
abbrev pub Asked : List ℕ → List ℕ → List ℕ → ℕ → Value → Value → Type 0
Asked b names states k a r =
    (τ : View) (T : ℕ) (s : TaskState) (c : Clause) (w : paper.Value) → Apart τ → Tasks b names states τ → state_code s ≡ k
    → IsIn τ T s (meaning_v b a) c w → meaning_v b r ≡ w

state_is : (s : TaskState) (o : Option TaskState) → state_number o ≡ state_code s → o ≡ some s
state_is dormant none e = absurd (no_clash e)
state_is dormant (some dormant) e = refl
state_is dormant (some in_progress) e = absurd (omega arith)
state_is dormant (some discarded) e = absurd (omega arith)
state_is dormant (some completed) e = absurd (omega arith)
state_is in_progress none e = absurd (omega arith)
state_is in_progress (some dormant) e = absurd (omega arith)
state_is in_progress (some in_progress) e = refl
state_is in_progress (some discarded) e = absurd (omega arith)
state_is in_progress (some completed) e = absurd (omega arith)
state_is discarded none e = absurd (omega arith)
state_is discarded (some dormant) e = absurd (omega arith)
state_is discarded (some in_progress) e = absurd (omega arith)
state_is discarded (some discarded) e = refl
state_is discarded (some completed) e = absurd (omega arith)
state_is completed none e = absurd (omega arith)
state_is completed (some dormant) e = absurd (omega arith)
state_is completed (some in_progress) e = absurd (omega arith)
state_is completed (some discarded) e = absurd (omega arith)
state_is completed (some completed) e = refl

module _ {τ : View} {T : ℕ} {s : TaskState} {a : List ℕ} {d : Clause} where
  -- the text names the task i
  named_task : {i : ℕ} {x : Task} {c : Clause} {w : paper.Value} (n k : ℕ) → ResolveTask τ T a d (some i) → At τ.tasks i x → n ≡ state_number x.state → state_code s ≡ k
      → IsIn τ T s (one (text a)) c w → one (truth (eqb n k)) ≡ w
  named_task n k f t e g (is_in_1 (by_text h)) = let q = (task_same τ T a f h).value in absurd (no_clash (cc))
  named_task {i} {x} n k f t e g (is_in_2 {c} (by_text h) st) =
      let q = (task_same τ T a f h).value in
      let j : i ≡ c = cc in
      let y = at_one t (subst (λ (m : ℕ). At τ.tasks m st.task) (sym j) st.at) in
      let z : n ≡ k = e ∙ ap (λ (u : Task). state_number u.state) y ∙ ap state_number st.row ∙ g in
      ap (λ (b : Bool). one (truth b)) (eq-eqb n k z)
  named_task {i} {x} n k f t e g (is_in_3 {c} (by_text h) not_in) =
      let q = (task_same τ T a f h).value in
      let j : i ≡ c = cc in
      ap (λ (b : Bool). one (truth b)) (ne_eqb n k (λ z. not_in (record { task = x; at = subst (λ (m : ℕ). At τ.tasks m x) j t; row = state_is s x.state (sym e ∙ z ∙ sym g) })))

  -- it names none
  named_none : {c : Clause} {w : paper.Value} → ResolveTask τ T a d none → IsIn τ T s (one (text a)) c w → one paper.unknown ≡ w
  named_none f (is_in_1 (by_text h)) = refl
  named_none f (is_in_2 (by_text h) st) = let q = (task_same τ T a f h).value in absurd (no_clash (cc))
  named_none f (is_in_3 (by_text h) not_in) = let q = (task_same τ T a f h).value in absurd (no_clash (cc))

-- ---- by the operand

by_name : (b names states : List ℕ) (k : ℕ) (h : Handle) (x : Scalar) → StateOf b names states k h x → (τ : View) (T : ℕ) (s : TaskState) (c : Clause) (w : paper.Value) → Apart τ → Tasks b names states τ → state_code s ≡ k
    → IsIn τ T s (one (text (bytes_of b h))) c w → one (meaning b x) ≡ w
by_name b names states k h x (i, f, e) τ T s c w apart t g q = ap (λ (y : Scalar). one (meaning b y)) e ∙ go (dec_lt i (length names))
  where
    go : Dec (i < length names) → one (meaning b (cond (ltb i (length names)) (Truth (eqb (get_or states i 0) k)) Unknown)) ≡ w
    go (yes l) = let m = task_resolved T t f apart l in rw (lt-ltb i (length names) l) (named_task (get_or states i 0) k m.2 m.1 (t.stated m.1) g q)
    go (no l) = rw (le-ltb i (length names) (omega arith)) (named_none (task_unresolved T t f (omega arith)) q)

no_text : {τ : View} {T : ℕ} {s : TaskState} {v : paper.Value} {c : Clause} {w : paper.Value} → ((a : List ℕ) → ¬ (v ≡ one (text a))) → IsIn τ T s v c w → one paper.unknown ≡ w
no_text n (is_in_1 h) = refl
no_text n (is_in_2 (by_text h) st) = absurd (n _ refl)
no_text n (is_in_3 (by_text h) st) = absurd (n _ refl)

-- the operand is the text h
pub asked_text : (b names states : List ℕ) (k : ℕ) (a r : Value) {h : Handle} {x : Scalar} → scalar_of a ≡ Text h → StateOf b names states k h x → (r.many ≡ false) × (r.one ≡ x) → Asked b names states k a r
asked_text b names states k a r {h} {x} e f m τ T s c w apart t g q =
    single_is b r m ∙ by_name b names states k h x f τ T s c w apart t g (subst (λ (v : paper.Value). IsIn τ T s v c w) (as_text a.many a.one (meaning_l b a.list) e) q)
  where
    as_text : (y : Bool) (z : Scalar) (l : List paper.Scalar) → cond y Unknown z ≡ Text h → valued y (meaning b z) l ≡ one (text (bytes_of b h))
    as_text true z l e = absurd (no_clash (cc))
    as_text false z l e = ap (λ (u : Scalar). one (meaning b u)) e

-- the operand is not a text
pub asked_other : (b names states : List ℕ) (k : ℕ) (a r : Value) {x : Scalar} → scalar_of a ≡ x → ((s : List ℕ) → ¬ (meaning b x ≡ text s)) → (r.many ≡ false) × (r.one ≡ Unknown) → Asked b names states k a r
asked_other b names states k a r e n m τ T s c w apart t g q =
    single_is b r m ∙ no_text (λ y z. n y (sym (ap (meaning b) e) ∙ lowered_is b a ∙ ap lowered z)) q
