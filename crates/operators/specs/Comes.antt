-- Law: to be what an operator gives, it is enough to mean what the operator's function comes to. By the definitions' own law that the
-- clause that fits is the function's; of the operators here none but the four states reads the Properties table, so an empty one serves.
use Rattle.std.specs.Prelude.{◌≡◌, refl, Bool, true, false, cond, List, [], ℕ, T}
use Rattle.std.proofs.Common.{ap, ◌∙◌}
use Rattle.paper_expressions.specs.Values as paper
use Rattle.paper_expressions.specs.Values.{Value, one, sequence}
use Rattle.paper_expressions.specs.Clauses.{Clause}
use Rattle.paper_expressions.specs.View.{View, Apart}
use Rattle.paper_expressions.specs.Operators.{Op, arithmetic, divide, compare, and, or, includes, oneof, if, negate, isknown, not, count, sum, extreme, nth, is-in, no_such}
use Rattle.paper_expressions.specs.Operators.{F, F-arithmetic, F-divide, F-compare, F-and, F-or, F-includes, F-oneof, F-if, F-negate, F-isknown, F-not, F-count, F-sum, F-extreme, F-nth, F-is-in}
use Rattle.paper_expressions.proofs.Laws.Only.{Answer, gives, fails, run, F-only}
use Rattle.values.specs.declared.value.Value as Code
use Rattle.values.specs.declared.scalar.Scalar.{Scalar}
use Rattle.values.specs.declared.scalar.Scalar.TheVariants.{Unknown}
use Rattle.values.specs.Meaning.{meaning, meaning_l, meaning_v, valued, scalar_of}
use Rattle.operators.specs.Means.{Means, meanings}

-- the value, or unknown if no clause fits
abbrev pub given : Answer Clause → Value
given (gives c v) = v
given fails = one paper.unknown

abbrev pub nowhere : View
nowhere = record { items = []; tasks = [] }

-- what the operator comes to
abbrev pub comes : Op → List Value → Value
comes o vs = given (run nowhere 0 o vs)

-- all but the four states
abbrev pub plain : Op → Bool
plain (arithmetic o) = true
plain divide = true
plain (compare o) = true
plain and = true
plain or = true
plain includes = true
plain oneof = true
plain if = true
plain negate = true
plain isknown = true
plain not = true
plain count = true
plain sum = true
plain (extreme e) = true
plain nth = true
plain (is-in s) = false
plain (no_such n) = false

anywhere : {τ : View} {n : ℕ} {o : Op} {vs : List Value} {c : Clause} {v : Value} → T (plain o) → F τ n o vs c v → F nowhere 0 o vs c v
anywhere p (F-arithmetic h) = F-arithmetic h
anywhere p (F-divide h) = F-divide h
anywhere p (F-compare h) = F-compare h
anywhere p (F-and h) = F-and h
anywhere p (F-or h) = F-or h
anywhere p (F-includes h) = F-includes h
anywhere p (F-oneof h) = F-oneof h
anywhere p (F-if h) = F-if h
anywhere p (F-negate h) = F-negate h
anywhere p (F-isknown h) = F-isknown h
anywhere p (F-not h) = F-not h
anywhere p (F-count h) = F-count h
anywhere p (F-sum h) = F-sum h
anywhere p (F-extreme h) = F-extreme h
anywhere p (F-nth h) = F-nth h
anywhere p (F-is-in h) = absurd p

nowhere_apart : Apart nowhere
nowhere_apart = record { items = λ h k e. elim h [ ]; tasks = λ h k e f g. elim h [ ] }

pub means : (bs : List ℕ) (o : Op) (vs : List Code.Value) (r : Code.Value) → T (plain o) → meaning_v bs r ≡ comes o (meanings bs vs) → Means bs o vs r
unfolding Means
means bs o vs r p e τ n c v f = e ∙ ap given (F-only nowhere 0 nowhere_apart (anywhere p f))

-- ---- a value as a scalar: where a sequence and unknown come to the same

abbrev pub lowered : Value → paper.Scalar
lowered (one s) = s
lowered (sequence l) = paper.unknown

pub lowered_is : (bs : List ℕ) (v : Code.Value) → meaning bs (scalar_of v) ≡ lowered (meaning_v bs v)
lowered_is bs v = go v.many v.one (meaning_l bs v.list)
  where
    go : (b : Bool) (s : Scalar) (l : List paper.Scalar) → meaning bs (cond b Unknown s) ≡ lowered (valued b (meaning bs s) l)
    go true s l = refl
    go false s l = refl

-- a value made of a scalar
pub single_is : (bs : List ℕ) (r : Code.Value) {s : Scalar} → (r.many ≡ false) × (r.one ≡ s) → meaning_v bs r ≡ one (meaning bs s)
single_is bs r e = ap (λ (b : Bool). valued b (meaning bs r.one) (meaning_l bs r.list)) e.0 ∙ ap (λ (x : Scalar). one (meaning bs x)) e.1
