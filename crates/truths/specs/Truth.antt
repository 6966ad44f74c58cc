-- What the evaluator's answer says of a condition: Evaluate(E, T) = true. By the one view of a table that is kept.
use Rattle.std.specs.Prelude.{ℕ, ◌+◌, ◌<◌, ◌≤◌, ◌≡◌, refl, Bool, true, false, cond, List, get_or, set, length}
use Rattle.std.proofs.Common.{arith, sym, ap, subst, ◌∙◌, get_or-set_same, get_or-set_other, below_more}
use Rattle.std.proofs.Math.Option.{Option, some}
use Rattle.paper_expressions.proofs.Laws.Search.{no_clash}
use Rattle.paper_expressions.specs.Values as paper
use Rattle.paper_expressions.specs.Values.{one, truth}
use Rattle.paper_expressions.specs.Types.{TruthValue}
use Rattle.paper_expressions.specs.View.{View}
use Rattle.paper_expressions.specs.View as Views
use Rattle.paper_expressions.specs.Expressions.{Expr, HasType}
use Rattle.paper_expressions.specs.Evaluation.{Evaluates}
use Rattle.paper_expressions.proofs.Laws.Typing.{type_kept}
use Rattle.paper_expressions.proofs.Laws.WithinLimits.{Modest}
use Rattle.paper_expressions.proofs.Laws.Parentheses.{bare, type_to_bare}
use Rattle.paper_guideline.specs.Structure.{TopLevel}
use Rattle.paper_guideline.specs.Refusals.{declared_items}
use Rattle.paper_guideline.specs.Limits.{depth_limit}
use Rattle.paper_rows.specs.Table.{task, ◌№◌, Property, RowValue, expression_is, Contains}
use Rattle.paper_rows.specs.Table as Engine
use Rattle.paper_engine.specs.Conditions.{IsTrue}
use Rattle.paper_rows.proofs.Laws.Lawful.{Lawful}
use Rattle.paper_engine.proofs.Laws.Kept.{Kept, view_f, view_of, view_sound, same_items, one_view}
use Rattle.parts.specs.Part.{Table, Ends, Within}
use Rattle.values.specs.declared.scalar.Scalar.{Scalar}
use Rattle.values.specs.declared.scalar.Scalar.TheVariants.{Unknown, Truth, Int, Real, Text}
use Rattle.values.specs.declared.value.Value.{Value}
use Rattle.values.specs.Meaning.{meaning, meaning_l, valued, meaning_v, scalar_of}
use Rattle.operators.specs.Twins.{true_c}
use Rattle.evaluator.specs.Columns.{Columns, Setting}
use Rattle.evaluator.specs.Published.{IsValue, Published, written}
use Rattle.waits.specs.Booleans.{Tests, is_as}
use Rattle.waits.specs.Twins.{marked}
use Rattle.waits.specs.Worked.{Allowed, Marks}

-- ---- true, of a value of the code

true_scalar : (b : List ℕ) (s : Scalar) → Tests (true_c s) (meaning b s ≡ truth true)
true_scalar b Unknown = (λ e. absurd (no_clash (cc)), λ e. absurd (no_clash (cc)))
true_scalar b (Truth x) = (λ e. ap truth e, λ e. cc)
true_scalar b (Int n) = (λ e. absurd (no_clash (cc)), λ e. absurd (no_clash (cc)))
true_scalar b (Real n) = (λ e. absurd (no_clash (cc)), λ e. absurd (no_clash (cc)))
true_scalar b (Text h) = (λ e. absurd (no_clash (cc)), λ e. absurd (no_clash (cc)))

pub true_value : (b : List ℕ) (v : Value) → Tests (true_c (scalar_of v)) (meaning_v b v ≡ one (truth true))
true_value b v = go v.many v.one (meaning_l b v.list)
  where
    go : (m : Bool) (s : Scalar) (l : List paper.Scalar) → Tests (true_c (cond m Unknown s)) (valued m (meaning b s) l ≡ one (truth true))
    go true s l = (λ e. absurd (no_clash (cc)), λ e. absurd (no_clash (cc)))
    go false s l = is_as (ap one) (λ e. cc) (true_scalar b s)

-- ---- Evaluate(E, T) = true

-- r says whether the expression that ends at q is true for the task T: of every table that is kept, and whose view the columns show
abbrev pub TruthOf : Table → Columns → ℕ → ℕ → Bool → Type 0
TruthOf p c T q r =
    (g : List TopLevel) (t : Engine.Table) (e : Expr) → Lawful g → Kept g t → Setting p c (view_f g t) → Ends p q (bare e) → Within depth_limit (bare e) → Modest (bare e)
    → HasType (declared_items g) T e TruthValue → Tests r (IsTrue t e T)

pub truth_is : (p : Table) (c : Columns) (T q : ℕ) (v : Value) {s : Scalar} {r : Bool} → Published p c T q depth_limit v → s ≡ scalar_of v → r ≡ true_c s → TruthOf p c T q r
truth_is p c T q v {s} {r} h x y g t e lawful kept setting ends within modest typed =
    subst (λ (b : Bool). Tests b (IsTrue t e T)) (sym (y ∙ ap true_c x)) (is_as to back (true_value p.bytes v))
  where
    sound : Views.Sound (view_f g t)
    sound = view_sound lawful kept

    is : IsValue (view_f g t) T e TruthValue (meaning_v p.bytes v)
    is = written e sound (h (view_f g t) (bare e) TruthValue sound setting ends within modest (type_to_bare (view_f g t) T (type_kept (declared_items g) (view_f g t) T (same_items lawful kept) typed)))

    to : meaning_v p.bytes v ≡ one (truth true) → IsTrue t e T
    to z = record { view = view_f g t; its = view_of lawful kept; clauses = is.clauses; evaluates = subst (Evaluates (view_f g t) T e is.clauses) z is.fits }

    back : IsTrue t e T → meaning_v p.bytes v ≡ one (truth true)
    back z = sym (is.only (subst (λ (u : View). Evaluates u T e z.clauses (one (truth true))) (one_view z.its (view_of lawful kept)) z.evaluates)).value

-- ---- the condition of each task, by the column of f that begins at d

-- the row holds the expression that ends at q; 0 where it holds none
pub record Condition (p : Table) (q : ℕ) (o : Option RowValue) : Type 0 where
  pub none_there : q ≡ 0 → (e : Expr) → ¬ (o ≡ some (expression_is e))
  pub there : ¬ (q ≡ 0) → (e : Expr) × (o ≡ some (expression_is e)) × Ends p q (bare e) × Within depth_limit (bare e) × Modest (bare e)

-- there is an expression, and it is true
abbrev pub Ended : Engine.Table → Property → ℕ → Type 0
Ended t x T = (e : Expr) × Contains t (task № T) x (expression_is e) × IsTrue t e T

-- what the property asks for is true; where there is none, b
abbrev pub Held : Bool → Engine.Table → Property → ℕ → Type 0
Held true t x T = Allowed t x T
Held false t x T = Ended t x T

-- r says whether what ends at q is true
abbrev pub HeldOf : Bool → Table → Columns → ℕ → ℕ → Bool → Type 0
HeldOf b p c T q r =
    (g : List TopLevel) (t : Engine.Table) (x : Property) → Lawful g → Kept g t → Setting p c (view_f g t) → Condition p q (t (task № T) x)
    → ((e : Expr) → Contains t (task № T) x (expression_is e) → HasType (declared_items g) T e TruthValue) → Tests r (Held b t x T)

pub held_none : (b : Bool) (p : Table) (c : Columns) (T q : ℕ) → q ≡ 0 → HeldOf b p c T q b
held_none true p c T q e g t x lawful kept setting d typed = (λ z a h. absurd (d.none_there e a h), λ z. refl)
held_none false p c T q e g t x lawful kept setting d typed = (λ z. absurd (no_clash (cc)), λ z. absurd (d.none_there e z.0 z.1))

same_expression : {o : Option RowValue} {a b : Expr} → o ≡ some (expression_is a) → o ≡ some (expression_is b) → a ≡ b
same_expression e f = cc

pub held_there : (b : Bool) (p : Table) (c : Columns) (T q : ℕ) {r : Bool} → ¬ (q ≡ 0) → TruthOf p c T q r → HeldOf b p c T q r
held_there true p c T q n h g t x lawful kept setting d typed =
    let k = d.there n in
    is_as (λ z a i. subst (λ (y : Expr). IsTrue t y T) (same_expression k.1 i) z) (λ f. f k.0 k.1)
    (h g t k.0 lawful kept setting k.2 k.3 k.4 (typed k.0 k.1))
held_there false p c T q n h g t x lawful kept setting d typed =
    let k = d.there n in
    is_as (λ z. (k.0, k.1, z)) (λ z. subst (λ (y : Expr). IsTrue t y T) (same_expression z.1 k.1) z.2)
    (h g t k.0 lawful kept setting k.2 k.3 k.4 (typed k.0 k.1))

abbrev pub HeldUpto : Bool → Table → Columns → List ℕ → ℕ → ℕ → List Bool → Type 0
HeldUpto b p c f d k m = (T : ℕ) → T < k → HeldOf b p c T (get_or f (d + T) 0) (marked m T)

-- the marks say of which tasks what the property asks for is true
abbrev pub AllHeld : Bool → Table → Columns → List ℕ → ℕ → List Bool → Type 0
AllHeld b p c f d m =
    (g : List TopLevel) (t : Engine.Table) (x : Property) (n : ℕ) → n ≤ 32 → Lawful g → Kept g t → Setting p c (view_f g t)
    → ((T : ℕ) → T < n → Condition p (get_or f (d + T) 0) (t (task № T) x))
    → ((T : ℕ) (e : Expr) → Contains t (task № T) x (expression_is e) → HasType (declared_items g) T e TruthValue) → Marks n (Held b t x) m

abbrev pub AllAllowed : Table → Columns → List ℕ → ℕ → List Bool → Type 0
AllAllowed = AllHeld true

abbrev pub AllEnded : Table → Columns → List ℕ → ℕ → List Bool → Type 0
AllEnded = AllHeld false

pub held_more : (b : Bool) (p : Table) (c : Columns) (f : List ℕ) (d k : ℕ) (m : List Bool) {q : ℕ} {v : Bool} → length m ≡ 32 → k < 32 → q ≡ get_or f (d + k) 0
    → HeldOf b p c k q v → HeldUpto b p c f d k m → HeldUpto b p c f d (k + 1) (set m k v)
held_more b p c f d k m {q} {v} e l x h i =
    below_more (λ (T : ℕ). HeldOf b p c T (get_or f (d + T) 0) (marked (set m k v) T)) k
    (λ T j. subst (HeldOf b p c T (get_or f (d + T) 0)) (sym (get_or-set_other m k T v false (λ z. omega arith))) (i T j))
    (subst (HeldOf b p c k (get_or f (d + k) 0)) (sym (get_or-set_same m k v false (omega arith))) (subst (λ (y : ℕ). HeldOf b p c k y v) x h))

pub held_all : (b : Bool) (p : Table) (c : Columns) (f : List ℕ) (d k : ℕ) (m : List Bool) → 32 ≤ k → HeldUpto b p c f d k m → AllHeld b p c f d m
held_all b p c f d k m e h g t x n l lawful kept setting held typed T j = h T (omega arith) g t x lawful kept setting (held T j) (typed T)
