-- What the evaluator promises of a typed expression in a sound view: the published value, the only one, of the type.
-- By the promise of the definitions, that some clauses fit.
use Rattle.std.proofs.Common.{sym, subst, ◌∙◌}
use Rattle.std.specs.Prelude.{List, ℕ}
use Rattle.paper_expressions.specs.Values as paper
use Rattle.paper_expressions.specs.Types.{Ty, Of}
use Rattle.paper_expressions.specs.Clauses.{Clause}
use Rattle.paper_expressions.specs.View.{View, Sound}
use Rattle.paper_expressions.specs.Expressions.{Expr, HasType}
use Rattle.paper_expressions.specs.Evaluation.{Evaluates}
use Rattle.paper_expressions.proofs.Laws.WithinLimits.{Modest}
use Rattle.paper_expressions.proofs.Laws.Search.{Same}
use Rattle.paper_expressions.proofs.Laws.Promise.{promised, one_value}
use Rattle.paper_expressions.proofs.Laws.Parentheses.{bare, value_of_bare}
use Rattle.parts.specs.Part.{Table, Ends, Within}
use Rattle.values.specs.declared.value.Value.{Value}
use Rattle.values.specs.Meaning.{meaning_v}
use Rattle.evaluator.specs.Columns.{Columns, Setting}
use Rattle.evaluator.specs.Valued.{Valued}

-- v is the value of the expression of the task T: by clauses that fit, the only value and the only clauses, and of the type
pub record IsValue (τ : View) (T : ℕ) (e : Expr) (ty : Ty) (v : paper.Value) : Type 0 where
  pub clauses : List Clause
  pub fits : Evaluates τ T e clauses v
  pub only : {cs : List Clause} {w : paper.Value} → Evaluates τ T e cs w → Same cs w clauses v
  pub typed : Of v ty

-- r is the value of the expression of the task T that ends at q: for every sound view that the columns show,
-- and every typed expression within the limits that the table holds there, at most d deep
abbrev pub Published : Table → Columns → ℕ → ℕ → ℕ → Value → Type 0
Published t c T q d r =
    (τ : View) (e : Expr) (ty : Ty) → Sound τ → Setting t c τ → Ends t q e → Within d e → Modest e → HasType τ T e ty
    → IsValue τ T e ty (meaning_v t.bytes r)

pub published : (t : Table) (c : Columns) (T q d : ℕ) (r : Value) → Valued t c q d r → Published t c T q d r
published t c T q d r f τ e ty sound s h i m k =
    let p = promised τ T sound k in
    let x = p.exactly_one in
    let y = f τ T e x.clause x.value s h i m x.fits in
    record {
      clauses = x.clause;
      fits = subst (Evaluates τ T e x.clause) (sym y) x.fits;
      only = λ {cs} {w} ev. let z = x.only ev in record { clause = z.clause; value = z.value ∙ sym y };
      typed = subst (λ (v : paper.Value). Of v ty) (sym y) p.typed;
    }

-- the table holds an expression without its parentheses; its value is that of the expression as written
pub written : {τ : View} {T : ℕ} {ty : Ty} {v : paper.Value} (e : Expr) → Sound τ → IsValue τ T (bare e) ty v → IsValue τ T e ty v
written {τ} {T} e sound h =
    let x = value_of_bare τ T e h.fits in
    record { clauses = x.0; fits = x.1; only = λ {cs} {w} ev. one_value τ T sound.apart ev x.1; typed = h.typed }
