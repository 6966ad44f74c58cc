-- Law: a table holds at most one expression at a place that is known by its end. By induction on the parts.
use Rattle.std.specs.Prelude.{◌≡◌, refl, List, cond, ℕ, zero, suc, ◌+◌, ◌≤◌, ◌<◌, eqb, ℤ}
use Rattle.std.proofs.Common.{sym, ap, subst, ◌∙◌, not-suc-le-zero, arith, below_more}
use Rattle.paper_expressions.specs.Values.{dormant, in_progress, discarded, completed}
use Rattle.paper_expressions.specs.Operators.{plus, minus, times, is>, is<, is>=, is<=, is=, is!=, max, min}
use Rattle.paper_expressions.specs.Operators.{Op, arithmetic, divide, compare, and, or, includes, oneof, if, negate, isknown, not, count, sum, extreme, nth, is-in, no_such}
use Rattle.paper_expressions.specs.Expressions.{Expr, Exprs, Atom, IntegerLit, FloatLit, StringLit, Paren, Listing, Apply, ε, ◌▸◌}
use Rattle.parts.specs.Codes.{code, kind}
use Rattle.parts.specs.Texts.{text_at_fn, literal}
use Rattle.parts.specs.Part.{Table, load_at, size, sizes, number_of, operands, OpLoad, Load, Root, Holds, HoldsAll, Ends}
use Rattle.parts.specs.Operands.{pieces, nth_of, before, before_none, before_suc, before_all, before_le, held_nth}

-- ---- an expression from its last part: kind, text, literal and operands

abbrev pub op_at : ℕ → List ℕ → Op
op_at k n =
    cond (eqb k 10) (arithmetic plus)
    (cond (eqb k 11) (arithmetic minus)
    (cond (eqb k 12) (arithmetic times)
    (cond (eqb k 20) divide
    (cond (eqb k 30) (compare is>)
    (cond (eqb k 31) (compare is<)
    (cond (eqb k 32) (compare is>=)
    (cond (eqb k 33) (compare is<=)
    (cond (eqb k 34) (compare is=)
    (cond (eqb k 35) (compare is!=)
    (cond (eqb k 40) and
    (cond (eqb k 41) or
    (cond (eqb k 50) includes
    (cond (eqb k 60) oneof
    (cond (eqb k 70) if
    (cond (eqb k 80) negate
    (cond (eqb k 90) isknown
    (cond (eqb k 100) not
    (cond (eqb k 110) count
    (cond (eqb k 120) sum
    (cond (eqb k 130) (extreme max)
    (cond (eqb k 131) (extreme min)
    (cond (eqb k 140) nth
    (cond (eqb k 150) (is-in dormant)
    (cond (eqb k 151) (is-in in_progress)
    (cond (eqb k 152) (is-in discarded)
    (cond (eqb k 153) (is-in completed)
    (no_such n)))))))))))))))))))))))))))

abbrev pub build : ℕ → List ℕ → ℤ → Exprs → Expr
build k s z es =
    cond (eqb k 1) (Atom s)
    (cond (eqb k 2) (IntegerLit z)
    (cond (eqb k 3) (FloatLit z)
    (cond (eqb k 4) (StringLit s)
    (cond (eqb k 5) (Listing es)
    (Apply (op_at k s) es)))))

built_op : (b : List ℕ) (o : Op) (es : Exprs) (x : ℕ) → OpLoad b o x → build (code o) (text_at_fn b x) (literal x) es ≡ Apply o es
built_op b (arithmetic plus) es x h = refl
built_op b (arithmetic minus) es x h = refl
built_op b (arithmetic times) es x h = refl
built_op b divide es x h = refl
built_op b (compare is>) es x h = refl
built_op b (compare is<) es x h = refl
built_op b (compare is>=) es x h = refl
built_op b (compare is<=) es x h = refl
built_op b (compare is=) es x h = refl
built_op b (compare is!=) es x h = refl
built_op b and es x h = refl
built_op b or es x h = refl
built_op b includes es x h = refl
built_op b oneof es x h = refl
built_op b if es x h = refl
built_op b negate es x h = refl
built_op b isknown es x h = refl
built_op b not es x h = refl
built_op b count es x h = refl
built_op b sum es x h = refl
built_op b (extreme max) es x h = refl
built_op b (extreme min) es x h = refl
built_op b nth es x h = refl
built_op b (is-in dormant) es x h = refl
built_op b (is-in in_progress) es x h = refl
built_op b (is-in discarded) es x h = refl
built_op b (is-in completed) es x h = refl
built_op b (no_such n) es x h = ap (λ (m : List ℕ). Apply (no_such m) es) h

pub built : (b : List ℕ) (e : Expr) (x : ℕ) → Load b e x → build (kind e) (text_at_fn b x) (literal x) (operands e) ≡ e
built b (Atom a) x h = ap Atom h
built b (IntegerLit n) x h = ap IntegerLit h
built b (FloatLit n) x h = ap FloatLit h
built b (StringLit s) x h = ap StringLit h
built b (Paren e) x h = absurd h
built b (Listing es) x h = refl
built b (Apply o es) x h = built_op b o es x h

-- what a part that loads x is, by its kind: at a given number `build` computes to one form
pub of_kind : (b : List ℕ) (e : Expr) (k x : ℕ) → k ≡ kind e → Load b e x → build k (text_at_fn b x) (literal x) (operands e) ≡ e
of_kind b e k x h l = ap (λ (m : ℕ). build m (text_at_fn b x) (literal x) (operands e)) h ∙ built b e x l

-- two roots of one part, with the same operands
same_root : (t : Table) (p : ℕ) (e f : Expr) → Root t p e → Root t p f → operands e ≡ operands f → e ≡ f
same_root t p e f x y h =
    let b = t.bytes in
    let n = load_at t p in
    let k : kind e ≡ kind f = sym x.kinds ∙ y.kinds in
    sym (built b e n x.loads) ∙ ap (build (kind e) (text_at_fn b n) (literal n)) h ∙ of_kind b f (kind e) n k y.loads

pub ext : (es fs : Exprs) → number_of es ≡ number_of fs → ((i : ℕ) → i < number_of es → nth_of es i ≡ nth_of fs i) → es ≡ fs
ext ε ε c h = refl
ext ε (f ▸ fs) c h = absurd (let z : ◌≡◌ {A = ℕ} 0 1 = omega arith in omega arith)
ext (e ▸ es) ε c h = absurd (let z : ◌≡◌ {A = ℕ} 0 1 = omega arith in omega arith)
ext (e ▸ es) (f ▸ fs) c h =
    let x = h 0 (omega arith) in
    let y = ext es fs (omega arith) (λ i l. h (suc i) (omega arith)) in
    cc

pub record Same (a b : ℕ) (e f : Expr) : Type 0 where
  pub starts : a ≡ b
  pub trees : e ≡ f

below_suc : (P : ℕ → Type 0) (k : ℕ) → ((j : ℕ) → j < k → P j) → P k → (i : ℕ) → i < suc k → P i
below_suc P k g w i lt = below_more P k g w i (omega arith)

module _ (t : Table) where
  abbrev Ones : ℕ → Type 0
  Ones m = (e f : Expr) (a b : ℕ) → size e < m → a + size e ≡ b + size f → Holds t a e → Holds t b f → Same a b e f

  -- from the last to the first
  all_trees : (m : ℕ) → Ones m → (es fs : Exprs) (a b k : ℕ) → sizes es < m → k ≤ number_of es → k ≤ number_of fs → a + before es k ≡ b + before fs k
      → HoldsAll t a es → HoldsAll t b fs → (a ≡ b) × ((i : ℕ) → i < k → nth_of es i ≡ nth_of fs i)
  all_trees m ih es fs a b zero z u v q h l = (omega (arith, before_none es, before_none fs), λ i y. absurd (not-suc-le-zero y))
  all_trees m ih es fs a b (suc k) z u v q h l =
      let x = before_suc es k (omega arith) in
      let y = before_suc fs k (omega arith) in
      let w = ih (nth_of es k) (nth_of fs k) (a + before es k) (b + before fs k) (omega (arith, before_le es (suc k))) (omega arith) (held_nth t es a k h (omega arith)) (held_nth t fs b k l (omega arith)) in
      let g = all_trees m ih es fs a b k z (omega arith) (omega arith) w.starts h l in
      (g.0, below_suc (λ (j : ℕ). nth_of es j ≡ nth_of fs j) k g.1 w.trees)

  one_tree : (m : ℕ) → Ones m
  one_tree zero e f a b l q h k = absurd (not-suc-le-zero l)
  one_tree (suc m) e f a b l q h k =
      let x = pieces e h in
      let y = pieces f k in
      let u = x.span in
      let v = y.span in
      let es = operands e in
      let fs = operands f in
      let r = subst (λ (p : ℕ). Root t p f) {x = b + sizes fs} {y = a + sizes es} (omega arith) y.root in
      let c : number_of es ≡ number_of fs = sym x.root.counts ∙ r.counts in
      let bf : before fs (number_of es) ≡ sizes fs = ap (before fs) c ∙ before_all fs in
      let g = all_trees m (one_tree m) es fs a b (number_of es) (omega arith) (omega arith) (omega arith) (omega (arith, before_all es, bf)) x.kids y.kids in
      record { starts = g.0; trees = same_root t (a + sizes es) e f x.root r (ext es fs c g.1) }

  pub only_tree : {q : ℕ} {e f : Expr} → Ends t q e → Ends t q f → e ≡ f
  only_tree {q} {e} {f} x y =
      let g = x.spans in
      let h = y.spans in
      (one_tree (suc (size e)) e f x.start y.start (omega arith) (omega arith) x.held y.held).trees
