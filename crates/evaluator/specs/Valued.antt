-- What the evaluator has to find in a table, and the laws by which its walk finds it: operands from the last to the first.
-- By the operands left, and the values of those passed.
use Rattle.std.specs.Prelude.{◌≡◌, refl, List, ◌∷◌, ℕ, zero, suc, ◌+◌, ◌-◌, ◌≤◌, ◌<◌, drop}
use Rattle.std.proofs.Common.{sym, subst, ◌∙◌, not-suc-le-zero, arith}
use Rattle.paper_expressions.specs.Values as paper
use Rattle.paper_expressions.specs.Clauses.{Clause}
use Rattle.paper_expressions.specs.View.{View}
use Rattle.paper_expressions.specs.Expressions.{Expr, Exprs}
use Rattle.paper_expressions.specs.Evaluation.{Evaluates, Values, values_none, values_more}
use Rattle.paper_expressions.proofs.Laws.WithinLimits.{Modest, AllModest, none_modest, more_modest}
use Rattle.parts.specs.Part.{Table, code_at, count_at, size_at, load_at, sizes, number_of, operands, Load, HoldsAll, Ends, Within, Withins}
use Rattle.parts.specs.Operands.{ended, within_kids, nth_of, within_nth, Left, left_all, left_ends, left_step}
use Rattle.values.specs.declared.value.Value.{Value}
use Rattle.values.specs.Meaning.{meaning_v}
use Rattle.evaluator.specs.declared.operands.Operands.{Operands}
use Rattle.evaluator.specs.Columns.{Columns, Setting}
use Rattle.evaluator.specs.Operands.{NoneOf, PutOf, Gathers, gathers_none, gathers_more}
use Rattle.evaluator.specs.Leaves.{LeafOf}
use Rattle.evaluator.specs.Compound.{CompoundOf, as_many, modest_operands, compound_value}

-- r is the value of the expression that ends at q, whatever clauses fit: of every view that the columns show, in every task
abbrev pub Valued : Table → Columns → ℕ → ℕ → Value → Type 0
Valued t c q d r =
    (τ : View) (T : ℕ) (e : Expr) (cs : List Clause) (w : paper.Value) → Setting t c τ → Ends t q e → Within d e → Modest e
    → Evaluates τ T e cs w → meaning_v t.bytes r ≡ w

-- o is what is gathered of the n operands that end at p
abbrev pub Gathered : Table → Columns → ℕ → ℕ → ℕ → Operands → Type 0
Gathered t c p n d o =
    (τ : View) (T : ℕ) (a : ℕ) (es : Exprs) (ws : List paper.Value) → Setting t c τ
    → a + sizes es ≡ p → HoldsAll t a es → number_of es ≡ n → Withins (d - 1) es → AllModest es → Values τ T es ws → Gathers t.bytes n 0 ws o

-- ---- the operands

modest_nth : (k : ℕ) {es : Exprs} → AllModest es → k < number_of es → Modest (nth_of es k)
modest_nth k none_modest l = absurd (not-suc-le-zero l)
modest_nth zero (more_modest m ms) l = m
modest_nth (suc k) (more_modest m ms) l = modest_nth k ms (omega arith)

-- the value of the k-th operand is the k-th value
record Nth (τ : View) (T : ℕ) (e : Expr) (k : ℕ) (ws : List paper.Value) : Type 0 where
  pub clauses : List Clause
  pub value : paper.Value
  pub fits : Evaluates τ T e clauses value
  pub at : drop k ws ≡ value ∷ drop (suc k) ws

value_nth : {τ : View} {T : ℕ} (k : ℕ) {es : Exprs} {ws : List paper.Value} → Values τ T es ws → k < number_of es → Nth τ T (nth_of es k) k ws
value_nth k values_none l = absurd (not-suc-le-zero l)
value_nth zero (values_more h hs) l = record { clauses = _; value = _; fits = h; at = refl }
value_nth (suc k) (values_more h hs) l =
    let x = value_nth k hs (omega arith) in
    record { clauses = x.clauses; value = x.value; fits = x.fits; at = x.at }

module _ (t : Table) (c : Columns) (p n d : ℕ) where
  -- k operands are left, and end at q; o holds the values of the others
  abbrev pub Going : ℕ → ℕ → Operands → Type 0
  Going k q o =
      (τ : View) (T : ℕ) (a : ℕ) (es : Exprs) (ws : List paper.Value) → Setting t c τ
      → a + sizes es ≡ p → HoldsAll t a es → number_of es ≡ n → Withins (d - 1) es → AllModest es → Values τ T es ws
      → Left t es a k q × Gathers t.bytes n k ws o

  pub going_first : (o : Operands) → NoneOf n o → Going n p o
  going_first o e τ T a es ws s z h m w u hs = (
    subst (λ (j : ℕ). Left t es a j p) m (left_all t es a p z),
    gathers_none t.bytes n ws o (as_many hs ∙ m) e,
  )

  -- the last that is left has the value v
  pub going_on : (k q q' : ℕ) (v : Value) (o o' : Operands) → 0 < k → Going k q o → Valued t c q (d - 1) v → PutOf (k - 1) v o o' → q' ≡ q - size_at t (q - 1)
      → Going (k - 1) q' o'
  going_on zero q q' v o o' z g f u y = absurd (not-suc-le-zero z)
  going_on (suc k) q q' v o o' z g f u y = λ τ T a es ws s b h m w ms hs.
      let less : suc k - 1 ≡ k = omega arith in
      let i = g τ T a es ws s b h m w ms hs in
      let l = i.0.few in
      let x = value_nth k hs (omega arith) in
      let e = f τ T (nth_of es k) x.clauses x.value s (left_ends t es a k q h i.0) (within_nth (d - 1) es k w (omega arith)) (modest_nth k ms (omega arith)) x.fits in
      subst (λ (j : ℕ). Left t es a j q' × Gathers t.bytes n j ws o') (sym less) (
        subst (Left t es a k) (sym y) (left_step t es a k q h i.0),
        gathers_more t.bytes n k ws x.value v o o' (omega arith) x.at e i.1 (subst (λ (j : ℕ). PutOf j v o o') less u),
      )

  pub going_done : (k q : ℕ) (o : Operands) → k ≤ 0 → Going k q o → Gathered t c p n d o
  going_done zero q o z g = λ τ T a es ws s b h m w ms hs. (g τ T a es ws s b h m w ms hs).1
  going_done (suc k) q o z g = absurd (not-suc-le-zero z)

-- ---- the expression

module _ (t : Table) (c : Columns) (d : ℕ) where
  pub nothing_ends : (q : ℕ) (r : Value) → q ≡ 0 → Valued t c q d r
  nothing_ends q r z τ T e cs w s h i m ev = absurd (let x = (ended h).some in omega arith)

  pub too_deep : (q : ℕ) (r : Value) → d ≡ 0 → Valued t c q d r
  too_deep q r z τ T e cs w s h i m ev = absurd (let x = (within_kids e i).0 in omega arith)

  pub by_leaf : (q k x : ℕ) (r : Value) → k ≡ code_at t (q - 1) → k < 5 → x ≡ load_at t (q - 1) → LeafOf t.bytes c.names c.tags c.nums k x r → Valued t c q d r
  by_leaf q k x r y l z f τ T e cs w s h i m ev =
      let o = (ended h).root in
      f τ T e cs w s.apart s.items (y ∙ o.kinds) l (subst (Load t.bytes e) (sym z) o.loads) m ev

  pub by_operands : (q k n : ℕ) (r : Value) (o : Operands) → k ≡ code_at t (q - 1) → ¬ (k < 5) → n ≡ count_at t (q - 1)
      → Gathered t c (q - 1) n d o → CompoundOf t.bytes c.tasks c.states k n o r → Valued t c q d r
  by_operands q k n r o y l z g f τ T e cs w s h i m ev =
      let x = ended h in
      let j : n ≡ number_of (operands e) = z ∙ x.root.counts in
      compound_value t.bytes c.tasks c.states k n o r f s.apart s.held s.tasks e (y ∙ x.root.kinds) l j m
      (λ ws hs. g τ T x.start (operands e) ws s x.spans x.kids (sym j) (within_kids e i).1 (modest_operands e m) hs) ev
