-- The laws by which the walk of the typer finds a type: operands from the last to the first. By what the operands left, and those already typed, are.
use Rattle.std.specs.Prelude.{◌≡◌, refl, List, Option, Some, [], ◌∷◌, ℕ, zero, suc, ◌+◌, ◌-◌, ◌≤◌, ◌<◌}
use Rattle.std.proofs.Common.{sym, ap, subst, ◌∙◌, not-suc-le-zero, arith, eq-eqb}
use Rattle.paper_expressions.specs.Types.{Ty}
use Rattle.paper_expressions.specs.View.{View, Apart}
use Rattle.paper_expressions.specs.Expressions.{Expr, Exprs, HasType, HaveTypes, types_none, types_more}
use Rattle.paper_expressions.proofs.Laws.Typing.{one_type}
use Rattle.paper_expressions.proofs.Laws.Parentheses.{bare, type_to_bare, type_of_bare}
use Rattle.paper_expressions.proofs.Laws.Search.{no_clash}
use Rattle.parts.specs.Part.{Table, code_at, count_at, size_at, load_at, Load, sizes, number_of, operands, HoldsAll, Ends, Within, Withins}
use Rattle.parts.specs.Operands.{ended, within_kids, nth_of, from, from_all, from_step, within_nth, Left, left_all, left_ends, left_step}
use Rattle.parts.specs.Items.{Items}
use Rattle.typer.specs.declared.lists.Summary.{Summary}
use Rattle.resolution.specs.Letters.{letter, letter_some, Outcome, is, none, outcome_iff, one_answer}
use Rattle.typer.specs.Leaves.{LeafTyped}
use Rattle.typer.specs.Summary.{summary, start_of, push_of, untyped_of, all_typed, not_all}
use Rattle.typer.specs.Typed.{Typed, Gathered}
use Rattle.typer.specs.Compound.{compound_of, compound_typed}

-- two answers that meet the contract are the same
pub typed_once : {t : Table} {names types : List ℕ} {T q d r s : ℕ} (v : View) (e : Expr) → Apart v → Items t.bytes names types v → Ends t q e → Within d e
    → Typed t names types T q d r → Typed t names types T q d s → r ≡ s
typed_once {T} v e apart i h w f g = one_answer (λ t u x y. one_type v T apart x y) (f v e apart i h w) (g v e apart i h w)

-- the table holds an expression without its parentheses; its type is that of the expression as written
pub typed_written : {v : View} {T r : ℕ} (e : Expr) → Outcome (HasType v T (bare e)) r → Outcome (HasType v T e) r
typed_written {v} {T} e h = outcome_iff (λ t k. type_of_bare v T e k) (λ t k. type_to_bare v T k) h

-- ---- the operands

some_letter : (t : Ty) → ¬ (letter t ≡ 0)
some_letter t e = no_clash (cc (letter_some t, eq-eqb (letter t) 0 e))

have_nth : {v : View} {T : ℕ} (k : ℕ) {es : Exprs} {ts : List Ty} → HaveTypes v T es ts → k < number_of es → (t : Ty) × HasType v T (nth_of es k) t
have_nth k types_none l = absurd (not-suc-le-zero l)
have_nth zero (types_more {t} h hs) l = (t, h)
have_nth (suc k) (types_more h hs) l = have_nth k hs (omega arith)

module _ (t : Table) (names types : List ℕ) (T p n d : ℕ) where
  -- k operands are left, and end at q; s is of the types of the others
  abbrev pub Going : ℕ → ℕ → Summary → Type 0
  Going k q s =
      (v : View) (a : ℕ) (es : Exprs) → Apart v → Items t.bytes names types v
      → a + sizes es ≡ p → HoldsAll t a es → number_of es ≡ n → Withins (d - 1) es
      → Left t es a k q × (ts : List Ty) × HaveTypes v T (from k es) ts × (s ≡ summary ts)

  pub going_first : (s : Summary) → s ≡ start_of → Going n p s
  going_first s e v a es apart i z h c w = (
    subst (λ (m : ℕ). Left t es a m p) c (left_all t es a p z),
    [],
    subst (λ (m : ℕ). HaveTypes v T (from m es) []) c (subst (λ (fs : Exprs). HaveTypes v T fs []) (sym (from_all es)) types_none),
    e,
  )

  -- the last that is left has the type x
  pub going_on : (k q x q' : ℕ) (s s' : Summary) → 0 < k → ¬ (x ≡ 0) → Going k q s → Typed t names types T q (d - 1) x → s' ≡ push_of x s → q' ≡ q - size_at t (q - 1)
      → Going (k - 1) q' s'
  going_on zero q x q' s s' z y g f e u = absurd (not-suc-le-zero z)
  going_on (suc k) q x q' s s' z y g f e u = λ v a es apart i b h c w.
      let o = g v a es apart i b h c w in
      let l = o.0.few in
      let x' = next v k es o.1 x s s' y (omega arith) o.2 o.3 e (f v (nth_of es k) apart i (left_ends t es a k q h o.0) (within_nth (d - 1) es k w (omega arith))) in
      subst (λ (m : ℕ). Left t es a m q' × (ts : List Ty) × HaveTypes v T (from m es) ts × (s' ≡ summary ts)) (sym (suc_less k))
      (subst (Left t es a k) (sym u) (left_step t es a k q h o.0), x'.0, x'.1, x'.2)
    where
      suc_less : (m : ℕ) → suc m - 1 ≡ m
      suc_less m = omega arith

      next : (v : View) (k : ℕ) (es : Exprs) (ts : List Ty) (x : ℕ) (s s' : Summary) → ¬ (x ≡ 0) → k < number_of es → HaveTypes v T (from (suc k) es) ts → s ≡ summary ts → s' ≡ push_of x s
          → Outcome (HasType v T (nth_of es k)) x → (us : List Ty) × HaveTypes v T (from k es) us × (s' ≡ summary us)
      next v k es ts x s s' y l hs e u (is {t = τ} h) =
          (τ ∷ ts, subst (λ (fs : Exprs). HaveTypes v T fs (τ ∷ ts)) (sym (from_step k es l)) (types_more h hs), u ∙ ap (push_of (letter τ)) e)
      next v k es ts x s s' y l hs e u (none m) = absurd (y refl)

  -- the last that is left has no type
  pub going_stop : (k q x : ℕ) (s : Summary) → 0 < k → x ≡ 0 → Going k q s → Typed t names types T q (d - 1) x → Gathered t names types T p n d untyped_of
  going_stop zero q x s z y g f = absurd (not-suc-le-zero z)
  going_stop (suc k) q x s z y g f = λ v a es apart i b h c w.
      let o = g v a es apart i b h c w in
      let l = o.0.few in
      not_all (λ ts hs. stop v (nth_of es k) x y (have_nth k hs (omega arith)) (f v (nth_of es k) apart i (left_ends t es a k q h o.0) (within_nth (d - 1) es k w (omega arith)))) refl
    where
      stop : (v : View) (e : Expr) (x : ℕ) → x ≡ 0 → (t : Ty) × HasType v T e t → Outcome (HasType v T e) x → ⊥
      stop v e x y h (is {t = τ} k) = some_letter τ y
      stop v e x y h (none m) = m h.0 h.1

  pub going_done : (k q : ℕ) (s : Summary) → k ≤ 0 → Going k q s → Gathered t names types T p n d (Some s)
  going_done zero q s z g = λ v a es apart i b h c w. let o = g v a es apart i b h c w in all_typed o.2 (ap Some o.3)
  going_done (suc k) q s z g = absurd (not-suc-le-zero z)

-- ---- the expression

module _ (t : Table) (names types : List ℕ) (T d : ℕ) where
  pub nothing_ends : (q r : ℕ) → q ≡ 0 → Typed t names types T q d r
  nothing_ends q r z v e apart i h w = absurd (let x = (ended h).some in omega arith)

  pub too_deep : (q r : ℕ) → d ≡ 0 → Typed t names types T q d r
  too_deep q r z v e apart i h w = absurd (let x = (within_kids e w).0 in omega arith)

  pub by_leaf : (q k x r : ℕ) → k ≡ code_at t (q - 1) → k < 5 → x ≡ load_at t (q - 1) → LeafTyped t.bytes names types T k x r → Typed t names types T q d r
  by_leaf q k x r e l y f v ex apart i h w =
      let o = (ended h).root in
      f v ex i (e ∙ o.kinds) l (subst (Load t.bytes ex) (sym y) o.loads)

  pub by_operands : (q k n r : ℕ) (s : Option Summary) → k ≡ code_at t (q - 1) → ¬ (k < 5) → n ≡ count_at t (q - 1)
      → Gathered t names types T (q - 1) n d s → r ≡ compound_of k n s → Typed t names types T q d r
  by_operands q k n r s e l c g y v ex apart i h w =
      let o = ended h in
      let m : n ≡ number_of (operands ex) = c ∙ o.root.counts in
      let z = g v o.start (operands ex) apart i o.spans o.kids (sym m) (within_kids ex w).1 in
      subst (Outcome (HasType v T ex)) (sym y) (compound_typed v T apart ex k n s (e ∙ o.root.kinds) l m z)
