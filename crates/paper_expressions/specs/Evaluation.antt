-- Evaluate(E, T): 9.1 and 9.2, clause by clause. Definitions only.      (9.3, 9.4, 9.8: left out (10); requests 8/13 and 1/13)
use Rattle.std.specs.Prelude.{◌≡◌, List, [], ◌∷◌, ℕ, ℤ}
use Rattle.std.proofs.Math.Option.{Option, none, some}
use Rattle.paper_expressions.specs.Values.{Scalar, unknown, integer, real, text, Value, one, sequence}
use Rattle.paper_expressions.specs.Clauses.{Clause, §9·1-1a, §9·1-1b, §9·1-2a, §9·1-2b, §9·1-3, §9·1-4, §9·1-7, §9·1-8, §9·1-9, §9·2-2, §9·2-3}
use Rattle.paper_expressions.specs.View.{View, Item, At, ResolveData}
use Rattle.paper_expressions.specs.Operators.{Op, Infix, F}
use Rattle.paper_expressions.specs.Called.{Calls}
use Rattle.paper_expressions.specs.Expressions.{Expr, Exprs, Atom, IntegerLit, FloatLit, StringLit, Paren, Listing, Apply, ε, ◌▸◌}

-- ---- 9.2  EvaluateDataReference(D, T)

pub data EvaluateData (v : View) (T : ℕ) (d : ℕ) : Clause → Value → Type 0 where
  -- 1. If the Properties table contains the row (D, class, parameter) ..: left out (10); request 8/13
  -- 2. Else if there exists a value V such that the Properties table contains the rows (D, class, data_item) and (D, value, V) then V
  data_2 : {x : Item} {w : Value} → At v.items d x → x.value ≡ some w → EvaluateData v T d §9·2-2 w
  -- 3. Else unknown
  data_3 : ((x : Item) (w : Value) → At v.items d x → ¬ (x.value ≡ some w)) → EvaluateData v T d §9·2-3 (one unknown)

-- ---- 9.1  Evaluate(E, T)

-- the values as the sequence <V1, ..., Vn>
pub data Elements : List Value → List Scalar → Type 0 where
  elements_none : Elements [] []
  elements_more : {s : Scalar} {ws : List Value} {l : List Scalar} → Elements ws l → Elements (one s ∷ ws) (s ∷ l)

-- Evaluates v T E cs V: V = Evaluate(E, T), by the clauses cs, the first of 9.1 and the others of what it calls
mutual
  pub data Evaluates (v : View) (T : ℕ) : Expr → List Clause → Value → Type 0 where
    -- 1. If E is an <atom> then: If there is a component identifier D such that D=ResolveDataReference(E,T)
    --    then EvaluateDataReference(D,T)
    atom_data : {a : List ℕ} {d : ℕ} {b c : Clause} {w : Value}
        → ResolveData v T a b (some d) → EvaluateData v T d c w → Evaluates v T (Atom a) (§9·1-1a ∷ b ∷ c ∷ []) w
    --    Otherwise the text string E with any enclosing single quotes removed
    atom_text : {a : List ℕ} {b : Clause} → ResolveData v T a b none → Evaluates v T (Atom a) (§9·1-1b ∷ b ∷ []) (one (text a))
    -- 2. If E is a <number> then the numeric value of E      (an <integer> or a <float>; 01: a minus before it is the functor of 11.2.2)
    number_integer : {n : ℤ} → Evaluates v T (IntegerLit n) (§9·1-2a ∷ []) (one (integer n))
    number_float : {n : ℤ} → Evaluates v T (FloatLit n) (§9·1-2b ∷ []) (one (real n))
    -- 3. If E is a <double_quoted_string> then the text string E with the enclosing double quotes removed
    string : {s : List ℕ} → Evaluates v T (StringLit s) (§9·1-3 ∷ []) (one (text s))
    -- 4. If E is of the form "(" E1 ")" then Evaluate(E1,T)
    parentheses : {e : Expr} {cs : List Clause} {w : Value} → Evaluates v T e cs w → Evaluates v T (Paren e) (§9·1-4 ∷ []) w
    -- 5, 6. "result_of" and "netsupport": left out (10); request 1/13
    -- 7. If E is of the form E1 Op E2 where Op is an <infix_op> then Fop(V1, V2) where Vi = Evaluate(Ei,T)
    infix_form : {o : Op} {e1 e2 : Expr} {cs ds : List Clause} {v1 v2 r : Value} {c : Clause}
        → Infix o → Evaluates v T e1 cs v1 → Evaluates v T e2 ds v2 → F v T o (v1 ∷ v2 ∷ []) c r
        → Evaluates v T (Apply o (e1 ▸ e2 ▸ ε)) (§9·1-7 ∷ c ∷ []) r
    -- 8. If E is of the form Op "(" E1 "," ... "," En ")" where Op is a <functor_name> then Fop(T, V1, ..., Vn) where Vi = Evaluate(Ei,T)
    functor_form : {o : Op} {es : Exprs} {ws : List Value} {r : Value} {c : Clause} {cs : List Clause}
        → ¬ Infix o → Values v T es ws → F v T o ws c r → Calls v T o ws cs → Evaluates v T (Apply o es) (§9·1-8 ∷ c ∷ cs) r
    -- 9. If E is a <set_enumeration> of the form "[" E1 "," ... "," En "]" then the sequence <Evaluate(E1,T), ..., Evaluate(En,T)>
    listing : {es : Exprs} {ws : List Value} {l : List Scalar}
        → Values v T es ws → Elements ws l → Evaluates v T (Listing es) (§9·1-9 ∷ []) (sequence l)

  -- Vi = Evaluate(Ei,T)
  pub data Values (v : View) (T : ℕ) : Exprs → List Value → Type 0 where
    values_none : Values v T ε []
    values_more : {e : Expr} {es : Exprs} {cs : List Clause} {w : Value} {ws : List Value}
        → Evaluates v T e cs w → Values v T es ws → Values v T (e ▸ es) (w ∷ ws)
