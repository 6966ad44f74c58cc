-- Law: of an expression that has a type, in a sound view, at every part exactly one clause fits and gives exactly one value, which is
-- unknown or of the part's type. By induction on the typing; uniqueness by a function, evalF, that the clauses agree with.
use Rattle.std.specs.Prelude.{◌≡◌, refl, List, [], ◌∷◌, ℕ}
use Rattle.std.proofs.Common.{ap, subst, subst₂}
use Rattle.std.proofs.Math.Option.{Option, none, some}
use Rattle.paper_expressions.specs.Values.{Scalar, unknown, truth, integer, real, text, Value, one, sequence, TaskState}
use Rattle.paper_expressions.specs.Types.{Ty, Text, Integer, Real, inferred, OfScalar, unknown_of_any, integer-of, integer_counts_as_real, real_of, text_of}
use Rattle.paper_expressions.specs.Types.{element_text, element_integer, element_real, EachOf, each_none, each_more, Of, of_scalar, of_list, of_empty}
use Rattle.paper_expressions.specs.Clauses.{Clause, §9·1-1a, §9·1-1b, §9·1-2a, §9·1-2b, §9·1-3, §9·1-4, §9·1-7, §9·1-8, §9·1-9, §9·2-2, §9·2-3, §9·5-2, §9·5-3}
use Rattle.paper_expressions.specs.View.{View, Item, At, ResolveData, resolve_data_2, resolve_data_3, Apart, Sound}
use Rattle.paper_expressions.specs.Operators.{Allowed, ◌⇒◌, Op, arithmetic, divide, compare, and, or, includes, oneof, if, negate, isknown, not, count, sum, extreme, nth, is-in, no_such}
use Rattle.paper_expressions.specs.Operators.{Infix, infix_arithmetic, infix_divide, infix_compare, infix_and, infix_or, infix_includes, infix_oneof}
use Rattle.paper_expressions.specs.Operators.{F, F-arithmetic, F-divide, F-compare, F-and, F-or, F-includes, F-oneof, F-if, F-negate, F-isknown, F-not, F-count, F-sum, F-extreme, F-nth, F-is-in}
use Rattle.paper_expressions.specs.Operators.{Resolved, by_text, by_unknown, is_in_1, is_in_2, is_in_3}
use Rattle.paper_expressions.specs.Called.{AsksTask, asks_task, Calls, calls_task, calls_nothing}
use Rattle.paper_expressions.specs.Expressions.{Expr, Exprs, Atom, IntegerLit, FloatLit, StringLit, Paren, Listing, Apply, ε, ◌▸◌, Each, all_none, all_more, TextType, text_type, IntegerType, integer_type, IntegerOrReal, integer_or, or_real}
use Rattle.paper_expressions.specs.Expressions.{Listed, rule_8, rule_9a, rule_9b, rule_9c, Among, here, there, Reaches, First, first, next, Applied, rule_10a, rule_10b}
use Rattle.paper_expressions.specs.Expressions.{HasType, rule_1b, rule_1c, rule_2, rule_3, rule_4, rule_5, rule_8_9, rule_10, HaveTypes, types_none, types_more}
use Rattle.paper_expressions.specs.Evaluation.{EvaluateData, data_2, data_3, Elements, elements_none, elements_more, Evaluates, atom_data, atom_text, number_integer, number_float, string, parentheses, infix_form, functor_form, listing, Values, values_none, values_more}
use Rattle.paper_expressions.proofs.Laws.Search.{no_clash, Same, at_f, at_only, at_one, at_has}
use Rattle.paper_expressions.proofs.Laws.Resolve.{resolve_data_f, data_fits, data_same, resolve_task_f, task_clause, task_fits, task_same}
use Rattle.paper_expressions.proofs.Laws.Finds.{Fit, none_fit, one_fits, fit_reaches, Finds, finds}
use Rattle.paper_expressions.proofs.Laws.Only.{Answer, gives, fails, same_answer, run, F-only}
pub use Rattle.paper_expressions.specs.Promises.{Part, itself, of_paren, of_listing, of_apply, PartOfSome, of_first, of_rest, Promised}

-- ---- an application

pub record Reached (ts : List Ty) (list : List Allowed) (t : Ty) : Type 0 where
  pub args : List Ty
  pub allows : Among (args ⇒ t) list
  pub reaches : Reaches ts args

pub reached : {ts : List Ty} {list : List Allowed} {t : Ty} → First ts list t → Reached ts list t
reached (first h) = record { args = _; allows = here; reaches = h }
reached (next h f) = let r = reached f in record { args = r.args; allows = there r.allows; reaches = r.reaches }

-- ---- a list

pub data IsOne (t : Ty) : Value → Type 0 where
  is_one : {s : Scalar} → OfScalar s t → IsOne t (one s)

pub record Holds (t : Ty) (ws : List Value) : Type 0 where
  pub content : List Scalar
  pub elements : Elements ws content
  pub typed : EachOf t content

hold : {t : Ty} {w : Value} {ws : List Value} → IsOne t w → Holds t ws → Holds t (w ∷ ws)
hold (is_one h) k = record { content = _; elements = elements_more k.elements; typed = each_more h k.typed }

holds : {P : Ty → Type 0} {t : Ty} {ts : List Ty} {ws : List Value} → ((u : Ty) (w : Value) → P u → Of w u → IsOne t w) → Each P ts → Fit ws ts → Holds t ws
holds f all_none none_fit = record { content = []; elements = elements_none; typed = each_none }
holds f (all_more p ps) (one_fits h hs) = hold (f _ _ p h) (holds f ps hs)

text_one : (u : Ty) (w : Value) → TextType u → Of w u → IsOne Text w
text_one u w text_type (of_scalar h) = is_one h
text_one _ _ text_type (of_list {l = l} {e = e} x8 _) = elim x8 [ ]

integer_one : (u : Ty) (w : Value) → IntegerType u → Of w u → IsOne Integer w
integer_one u w integer_type (of_scalar h) = is_one h
integer_one _ _ integer_type (of_list {l = l} {e = e} x8 _) = elim x8 [ ]

real_one : (u : Ty) (w : Value) → IntegerOrReal u → Of w u → IsOne Real w
real_one u w integer_or (of_scalar unknown_of_any) = is_one unknown_of_any
real_one u w integer_or (of_scalar integer-of) = is_one integer_counts_as_real
real_one u w or_real (of_scalar h) = is_one h
real_one _ _ integer_or (of_list {l = l} {e = e} x8 _) = elim x8 [ ]
real_one _ _ or_real (of_list {l = l} {e = e} x9 _) = elim x9 [ ]

pub record Makes (ws : List Value) (t : Ty) : Type 0 where
  pub content : List Scalar
  pub elements : Elements ws content
  pub typed : Of (sequence content) t

listed : {ts : List Ty} {t : Ty} {ws : List Value} → Listed ts t → Fit ws ts → Makes ws t
listed rule_8 none_fit = record { content = []; elements = elements_none; typed = of_empty }
listed (rule_9a e) h = let k = holds text_one e h in record { content = k.content; elements = k.elements; typed = of_list element_text k.typed }
listed (rule_9b n e) h = let k = holds integer_one e h in record { content = k.content; elements = k.elements; typed = of_list element_integer k.typed }
listed (rule_9c n m e) h = let k = holds real_one e h in record { content = k.content; elements = k.elements; typed = of_list element_real k.typed }

-- ---- 9.1, 7 or 8

abbrev pub form_f : Op → Clause
form_f (arithmetic o) = §9·1-7
form_f divide = §9·1-7
form_f (compare o) = §9·1-7
form_f and = §9·1-7
form_f or = §9·1-7
form_f includes = §9·1-7
form_f oneof = §9·1-7
form_f if = §9·1-8
form_f negate = §9·1-8
form_f isknown = §9·1-8
form_f not = §9·1-8
form_f count = §9·1-8
form_f sum = §9·1-8
form_f (extreme e) = §9·1-8
form_f nth = §9·1-8
form_f (is-in s) = §9·1-8
form_f (no_such n) = §9·1-8

infix_form_f : {o : Op} → Infix o → form_f o ≡ §9·1-7
infix_form_f infix_arithmetic = refl
infix_form_f infix_divide = refl
infix_form_f infix_compare = refl
infix_form_f infix_and = refl
infix_form_f infix_or = refl
infix_form_f infix_includes = refl
infix_form_f infix_oneof = refl

infix? : (o : Op) → Dec (Infix o)
infix? (arithmetic o) = yes infix_arithmetic
infix? divide = yes infix_divide
infix? (compare o) = yes infix_compare
infix? and = yes infix_and
infix? or = yes infix_or
infix? includes = yes infix_includes
infix? oneof = yes infix_oneof
infix? if = no (λ h. elim h [ ])
infix? negate = no (λ h. elim h [ ])
infix? isknown = no (λ h. elim h [ ])
infix? not = no (λ h. elim h [ ])
infix? count = no (λ h. elim h [ ])
infix? sum = no (λ h. elim h [ ])
infix? (extreme e) = no (λ h. elim h [ ])
infix? nth = no (λ h. elim h [ ])
infix? (is-in s) = no (λ h. elim h [ ])
infix? (no_such n) = no (λ h. elim h [ ])

functor_form_f : (o : Op) → ¬ Infix o → form_f o ≡ §9·1-8
functor_form_f (arithmetic o) n = absurd (n infix_arithmetic)
functor_form_f divide n = absurd (n infix_divide)
functor_form_f (compare o) n = absurd (n infix_compare)
functor_form_f and n = absurd (n infix_and)
functor_form_f or n = absurd (n infix_or)
functor_form_f includes n = absurd (n infix_includes)
functor_form_f oneof n = absurd (n infix_oneof)
functor_form_f if n = refl
functor_form_f negate n = refl
functor_form_f isknown n = refl
functor_form_f not n = refl
functor_form_f count n = refl
functor_form_f sum n = refl
functor_form_f (extreme e) n = refl
functor_form_f nth n = refl
functor_form_f (is-in s) n = refl
functor_form_f (no_such m) n = refl

pub data Two : List Value → Type 0 where
  two : {v w : Value} → Two (v ∷ w ∷ [])

-- ---- evaluation as a function

abbrev pub under : Clause → List Clause → Answer Clause → Answer (List Clause)
under b cs (gives c r) = gives (b ∷ c ∷ cs) r
under b cs fails = fails

abbrev pub data_f : Option Value → Answer (List Clause)
data_f (some w) = gives (§9·1-1a ∷ §9·5-2 ∷ §9·2-2 ∷ []) w
data_f none = gives (§9·1-1a ∷ §9·5-2 ∷ §9·2-3 ∷ []) (one unknown)

abbrev pub item_value : Option Item → Option Value
item_value none = none
item_value (some x) = x.value

abbrev pub scalar_f : Value → Option (List Scalar) → Option (List Scalar)
scalar_f (one s) (some l) = some (s ∷ l)
scalar_f (one s) none = none
scalar_f (sequence m) o = none

abbrev pub elements_f : List Value → Option (List Scalar)
elements_f [] = some []
elements_f (w ∷ ws) = scalar_f w (elements_f ws)

abbrev pub list_f : Option (List Scalar) → Answer (List Clause)
list_f (some l) = gives (§9·1-9 ∷ []) (sequence l)
list_f none = fails

abbrev pub gather_f : Option (List Value) → Answer (List Clause)
gather_f (some ws) = list_f (elements_f ws)
gather_f none = fails

abbrev pub paren_f : Answer (List Clause) → Answer (List Clause)
paren_f (gives cs w) = gives (§9·1-4 ∷ []) w
paren_f fails = fails

abbrev pub more_f : Answer (List Clause) → Option (List Value) → Option (List Value)
more_f (gives cs w) (some ws) = some (w ∷ ws)
more_f (gives cs w) none = none
more_f fails o = none

elements_only : {ws : List Value} {l : List Scalar} → Elements ws l → elements_f ws ≡ some l
elements_only elements_none = refl
elements_only (elements_more h) = rw (elements_only h)

module _ (τ : View) (T : ℕ) where
  abbrev pub atom_f : List ℕ → Option ℕ → Answer (List Clause)
  atom_f a none = gives (§9·1-1b ∷ §9·5-3 ∷ []) (one (text a))
  atom_f a (some d) = data_f (item_value (at_f τ.items d))

  -- the clause of 9.6 that the operator calls
  abbrev pub task_called_f : List Value → List Clause
  task_called_f [] = []
  task_called_f (one unknown ∷ ws) = []
  task_called_f (one (truth b) ∷ ws) = []
  task_called_f (one (integer n) ∷ ws) = []
  task_called_f (one (real n) ∷ ws) = []
  task_called_f (one (text a) ∷ []) = task_clause τ T a (resolve_task_f τ T a) ∷ []
  task_called_f (one (text a) ∷ w ∷ ws) = []
  task_called_f (sequence l ∷ ws) = []

  abbrev pub called_f : Op → List Value → List Clause
  called_f (arithmetic o) ws = []
  called_f divide ws = []
  called_f (compare o) ws = []
  called_f and ws = []
  called_f or ws = []
  called_f includes ws = []
  called_f oneof ws = []
  called_f if ws = []
  called_f negate ws = []
  called_f isknown ws = []
  called_f not ws = []
  called_f count ws = []
  called_f sum ws = []
  called_f (extreme e) ws = []
  called_f nth ws = []
  called_f (is-in s) ws = task_called_f ws
  called_f (no_such n) ws = []

  abbrev pub apply_f : Op → Option (List Value) → Answer (List Clause)
  apply_f o (some ws) = under (form_f o) (called_f o ws) (run τ T o ws)
  apply_f o none = fails

  abbrev mutual
    pub eval_f : Expr → Answer (List Clause)
    eval_f (Atom a) = atom_f a (resolve_data_f τ T a)
    eval_f (IntegerLit n) = gives (§9·1-2a ∷ []) (one (integer n))
    eval_f (FloatLit n) = gives (§9·1-2b ∷ []) (one (real n))
    eval_f (StringLit s) = gives (§9·1-3 ∷ []) (one (text s))
    eval_f (Paren e) = paren_f (eval_f e)
    eval_f (Listing es) = gather_f (evals_f es)
    eval_f (Apply o es) = apply_f o (evals_f es)

    pub evals_f : Exprs → Option (List Value)
    evals_f ε = some []
    evals_f (e ▸ es) = more_f (eval_f e) (evals_f es)

  -- ---- whatever clauses fit are the function's

  item_only : {d : ℕ} {c : Clause} {w : Value} → EvaluateData τ T d c w → data_f (item_value (at_f τ.items d)) ≡ gives (§9·1-1a ∷ §9·5-2 ∷ c ∷ []) w
  item_only (data_2 h k) = rw (at_only h, k)
  item_only {d} (data_3 n) = go (item_value (at_f τ.items d)) (λ w. none_held (at_f τ.items d) refl w)
    where
      none_held : (o : Option Item) → at_f τ.items d ≡ o → (w : Value) → ¬ (item_value o ≡ some w)
      none_held none e w k = no_clash (cc)
      none_held (some x) e w k = n x w (at_has τ.items d e) k

      go : (o : Option Value) → ((w : Value) → ¬ (o ≡ some w)) → data_f o ≡ gives (§9·1-1a ∷ §9·5-2 ∷ §9·2-3 ∷ []) (one unknown)
      go none m = refl
      go (some w) m = absurd (m w refl)

  infix_called : {o : Op} → Infix o → (ws : List Value) → called_f o ws ≡ []
  infix_called infix_arithmetic ws = refl
  infix_called infix_divide ws = refl
  infix_called infix_compare ws = refl
  infix_called infix_and ws = refl
  infix_called infix_or ws = refl
  infix_called infix_includes ws = refl
  infix_called infix_oneof ws = refl

  no_task : (s : TaskState) (ws : List Value) → ((a : List ℕ) → ¬ AsksTask (is-in s) ws a) → task_called_f ws ≡ []
  no_task s [] n = refl
  no_task s (one unknown ∷ ws) n = refl
  no_task s (one (truth b) ∷ ws) n = refl
  no_task s (one (integer m) ∷ ws) n = refl
  no_task s (one (real m) ∷ ws) n = refl
  no_task s (one (text a) ∷ []) n = absurd (n a asks_task)
  no_task s (one (text a) ∷ w ∷ ws) n = refl
  no_task s (sequence l ∷ ws) n = refl

  none_called : (o : Op) (ws : List Value) → ((a : List ℕ) → ¬ AsksTask o ws a) → called_f o ws ≡ []
  none_called (arithmetic o) ws n = refl
  none_called divide ws n = refl
  none_called (compare o) ws n = refl
  none_called and ws n = refl
  none_called or ws n = refl
  none_called includes ws n = refl
  none_called oneof ws n = refl
  none_called if ws n = refl
  none_called negate ws n = refl
  none_called isknown ws n = refl
  none_called not ws n = refl
  none_called count ws n = refl
  none_called sum ws n = refl
  none_called (extreme e) ws n = refl
  none_called nth ws n = refl
  none_called (is-in s) ws n = no_task s ws n
  none_called (no_such m) ws n = refl

  calls_only : Apart τ → {o : Op} {ws : List Value} {cs : List Clause} → Calls τ T o ws cs → called_f o ws ≡ cs
  calls_only apart (calls_task (asks_task {a}) h) = ap (λ (c : Clause). c ∷ []) (task_same τ T a (task_fits τ T a apart) h).clause
  calls_only apart {o} {ws} (calls_nothing n) = none_called o ws n

  mutual
    pub eval_only : Apart τ → {e : Expr} {cs : List Clause} {w : Value} → Evaluates τ T e cs w → eval_f e ≡ gives cs w
    eval_only apart (atom_data {a} (resolve_data_2 h k) g) = rw (data_same τ T a apart (data_fits τ T a) (resolve_data_2 h k)).value (item_only g)
    eval_only apart (atom_text {a} (resolve_data_3 m)) = rw (data_same τ T a apart (data_fits τ T a) (resolve_data_3 m)).value
    eval_only apart number_integer = refl
    eval_only apart number_float = refl
    eval_only apart string = refl
    eval_only apart (parentheses h) = rw (eval_only apart h)
    eval_only apart (infix_form i g h k) = rw (eval_only apart g, eval_only apart h, F-only τ T apart k, infix_form_f i, infix_called i (_ ∷ _ ∷ []))
    eval_only apart (functor_form {o} n hs k d) = rw (evals_only apart hs, F-only τ T apart k, functor_form_f o n, calls_only apart d)
    eval_only apart (listing hs h) = rw (evals_only apart hs, elements_only h)

    pub evals_only : Apart τ → {es : Exprs} {ws : List Value} → Values τ T es ws → evals_f es ≡ some ws
    evals_only apart values_none = refl
    evals_only apart (values_more h hs) = rw (eval_only apart h, evals_only apart hs)

  pub one_value : Apart τ → {e : Expr} {cs ds : List Clause} {v w : Value} → Evaluates τ T e cs v → Evaluates τ T e ds w → Same cs v ds w
  one_value apart {e} h k = same_answer (eval_f e) (eval_only apart h) (eval_only apart k)

  -- ---- a clause fits, and gives a value of the type

  applied_finds : Apart τ → {o : Op} {ts : List Ty} {t : Ty} {ws : List Value} → Applied o ts t → Fit ws ts → Finds τ T o ws t
  applied_finds apart {o} (rule_10a u) h = finds τ T apart o u.allows h
  applied_finds apart {o} (rule_10b n f) h = let r = reached f in finds τ T apart o r.allows (fit_reaches r.reaches h)

  two_values : {o : Op} {ws : List Value} {c : Clause} {r : Value} → Infix o → F τ T o ws c r → Two ws
  two_values infix_arithmetic (F-arithmetic h) = two
  two_values infix_divide (F-divide h) = two
  two_values infix_compare (F-compare h) = two
  two_values infix_and (F-and h) = two
  two_values infix_or (F-or h) = two
  two_values infix_includes (F-includes h) = two
  two_values infix_oneof (F-oneof h) = two

  infix_fits : {o : Op} {es : Exprs} {ws : List Value} {c : Clause} {r : Value}
      → Two ws → Infix o → Values τ T es ws → F τ T o ws c r → (cs : List Clause) × Evaluates τ T (Apply o es) cs r
  infix_fits two i (values_more g (values_more h values_none)) k = (_, infix_form i g h k)

  resolved_calls : {s : TaskState} {w : Value} {c : Option ℕ} → Resolved τ T w c → (cs : List Clause) × Calls τ T (is-in s) (w ∷ []) cs
  resolved_calls (by_text h) = (_, calls_task asks_task h)
  resolved_calls by_unknown = (_, calls_nothing (λ a q. elim q [ ]))

  -- what the operator calls is resolved where it has a value
  calls_of : {o : Op} {ws : List Value} {c : Clause} {r : Value} → F τ T o ws c r → (cs : List Clause) × Calls τ T o ws cs
  calls_of (F-arithmetic h) = (_, calls_nothing (λ a q. elim q [ ]))
  calls_of (F-divide h) = (_, calls_nothing (λ a q. elim q [ ]))
  calls_of (F-compare h) = (_, calls_nothing (λ a q. elim q [ ]))
  calls_of (F-and h) = (_, calls_nothing (λ a q. elim q [ ]))
  calls_of (F-or h) = (_, calls_nothing (λ a q. elim q [ ]))
  calls_of (F-includes h) = (_, calls_nothing (λ a q. elim q [ ]))
  calls_of (F-oneof h) = (_, calls_nothing (λ a q. elim q [ ]))
  calls_of (F-if h) = (_, calls_nothing (λ a q. elim q [ ]))
  calls_of (F-negate h) = (_, calls_nothing (λ a q. elim q [ ]))
  calls_of (F-isknown h) = (_, calls_nothing (λ a q. elim q [ ]))
  calls_of (F-not h) = (_, calls_nothing (λ a q. elim q [ ]))
  calls_of (F-count h) = (_, calls_nothing (λ a q. elim q [ ]))
  calls_of (F-sum h) = (_, calls_nothing (λ a q. elim q [ ]))
  calls_of (F-extreme h) = (_, calls_nothing (λ a q. elim q [ ]))
  calls_of (F-nth h) = (_, calls_nothing (λ a q. elim q [ ]))
  calls_of (F-is-in (is_in_1 h)) = resolved_calls h
  calls_of (F-is-in (is_in_2 h e)) = resolved_calls h
  calls_of (F-is-in (is_in_3 h n)) = resolved_calls h

  -- an application by its operands' values, of either form
  pub apply_fits : {o : Op} {es : Exprs} {ws : List Value} {c : Clause} {r : Value} → Values τ T es ws → F τ T o ws c r → (cs : List Clause) × Evaluates τ T (Apply o es) cs r
  apply_fits {o} {es} {r} hs h = go (infix? o)
    where
      go : Dec (Infix o) → (cs : List Clause) × Evaluates τ T (Apply o es) cs r
      go (yes i) = infix_fits (two_values i h) i hs h
      go (no n) = (_, functor_form n hs h (calls_of h).1)

  pub operands : {o : Op} {es : Exprs} {cs : List Clause} {r : Value} → Evaluates τ T (Apply o es) cs r → (ws : List Value) × (c : Clause) × Values τ T es ws × F τ T o ws c r
  operands (infix_form i g h k) = (_, _, values_more g (values_more h values_none), k)
  operands (functor_form n hs k d) = (_, _, hs, k)

  pub record Comes (e : Expr) (t : Ty) : Type 0 where
    pub clauses : List Clause
    pub value : Value
    pub fits : Evaluates τ T e clauses value
    pub typed : Of value t

  pub record Come (es : Exprs) (ts : List Ty) : Type 0 where
    pub values : List Value
    pub fits : Values τ T es values
    pub typed : Fit values ts

  it_comes : {e : Expr} {t : Ty} {cs : List Clause} {w : Value} → Evaluates τ T e cs w → Of w t → Comes e t
  it_comes h k = record { clauses = _; value = _; fits = h; typed = k }

  apply_comes : {o : Op} {es : Exprs} {ws : List Value} {t : Ty} → Values τ T es ws → Finds τ T o ws t → Comes (Apply o es) t
  apply_comes hs m = it_comes (apply_fits hs m.fits).1 m.typed

  item_comes : Sound τ → {a : List ℕ} {d : ℕ} {x : Item} {t : Ty} → At τ.items d x → ResolveData τ T a §9·5-2 (some d) → inferred x.declared ≡ t → Comes (Atom a) t
  item_comes sound {a} {d} {x} {t} h k e = go x.value refl
    where
      go : (o : Option Value) → x.value ≡ o → Comes (Atom a) t
      go (some w) q = it_comes (atom_data k (data_2 h q)) (subst (Of w) e (sound.typed h q))
      go none q = it_comes (atom_data k (data_3 (λ y w i p. let s = at_one h i in no_clash (cc)))) (of_scalar unknown_of_any)

  mutual
    pub comes : Sound τ → {e : Expr} {t : Ty} → HasType τ T e t → Comes e t
    comes sound (rule_1b h k e) = item_comes sound h (resolve_data_2 h k) e
    comes sound (rule_1c m) = it_comes (atom_text (resolve_data_3 m)) (of_scalar text_of)
    comes sound rule_2 = it_comes number_integer (of_scalar integer-of)
    comes sound rule_3 = it_comes number_float (of_scalar real_of)
    comes sound rule_4 = it_comes string (of_scalar text_of)
    comes sound (rule_5 h) = let k = comes sound h in it_comes (parentheses k.fits) k.typed
    comes sound (rule_8_9 hs h) =
        let k = come sound hs in
        let m = listed h k.typed in
        it_comes (listing k.fits m.elements) m.typed
    comes sound (rule_10 hs h) =
        let k = come sound hs in
        apply_comes k.fits (applied_finds sound.apart h k.typed)

    pub come : Sound τ → {es : Exprs} {ts : List Ty} → HaveTypes τ T es ts → Come es ts
    come sound types_none = record { values = []; fits = values_none; typed = none_fit }
    come sound (types_more h hs) =
        let k = comes sound h in
        let ks = come sound hs in
        record { values = _; fits = values_more k.fits ks.fits; typed = one_fits k.typed ks.typed }

  -- ---- every part of a typed expression has a type

  mutual
    part_typed : {p e : Expr} {t : Ty} → Part p e → HasType τ T e t → (u : Ty) × HasType τ T p u
    part_typed {t} itself h = (t, h)
    part_typed (of_paren q) (rule_5 h) = part_typed q h
    part_typed (of_listing q) (rule_8_9 hs h) = some_typed q hs
    part_typed (of_apply q) (rule_10 hs h) = some_typed q hs

    some_typed : {p : Expr} {es : Exprs} {ts : List Ty} → PartOfSome p es → HaveTypes τ T es ts → (u : Ty) × HasType τ T p u
    some_typed (of_first q) (types_more h hs) = part_typed q h
    some_typed (of_rest q) (types_more h hs) = some_typed q hs

  -- ---- the promise is kept

  pub promised : Sound τ → {e : Expr} {t : Ty} → HasType τ T e t → Promised τ T e t
  promised sound h =
      let k = comes sound h in
      record { exactly_one = record { clause = k.clauses; value = k.value; fits = k.fits; only = λ x. one_value sound.apart x k.fits }; typed = k.typed }

  pub each_part : Sound τ → {p e : Expr} {t : Ty} → HasType τ T e t → Part p e → (u : Ty) × HasType τ T p u × Promised τ T p u
  each_part sound h q = let k = part_typed q h in (k.0, k.1, promised sound k.1)

  -- of a typed expression, clauses fit and give a value exactly when the function says so
  pub evaluates_if : Sound τ → {e : Expr} {t : Ty} {cs : List Clause} {w : Value} → HasType τ T e t → eval_f e ≡ gives cs w → Evaluates τ T e cs w
  evaluates_if sound {e} {t} {cs} {w} h k =
      let m = comes sound h in
      let q = eval_only sound.apart m.fits in
      let a : m.clauses ≡ cs = cc in
      let b : m.value ≡ w = cc in
      subst₂ (Evaluates τ T e) a b m.fits
