-- What is read of the rows of a guideline, as the plan reads it: kinds, names, flags, and through a part table the texts of handles and the expressions.
-- Definitions only.
use Rattle.std.specs.Prelude.{ℕ, ◌≡◌, List, length}
use Rattle.std.proofs.Math.Option.{some}
use Rattle.paper_expressions.specs.View.{At}
use Rattle.paper_expressions.proofs.Laws.Parentheses.{bare}
use Rattle.paper_guideline.specs.Structure.{Name, Outermost, TopLevel}
use Rattle.parts.specs.Texts.{text_at_fn}
use Rattle.parts.specs.Part.{Table, Ends}
use Rattle.guideline_rows.specs.Rows.{Row, flatten, kind-of, name_of, expression_of, flag_of}
use Rattle.plan.specs.Writes.{Outline}

pub record Reads (s : Outline) (p : Table) (g : List TopLevel) : Type 0 where
  pub count : s.count ≡ length (flatten g)
  pub kind : {i : ℕ} {r : Row} → At (flatten g) i r → s.kind i ≡ kind-of r
  pub spelt : {i : ℕ} {r : Row} {n : Name} → At (flatten g) i r → name_of r ≡ some n → s.spelt i ≡ n.spelt
  pub flag : {i : ℕ} {r : Row} → At (flatten g) i r → s.flag i ≡ flag_of r
  pub named : {i : ℕ} {r : Row} {n : Name} → At (flatten g) i r → name_of r ≡ some n → text_at_fn p.bytes (s.handle i) ≡ n.spelt
  pub ends : {i : ℕ} {r : Row} {x : Outermost} → At (flatten g) i r → expression_of r ≡ some x → Ends p (s.ends i) (bare x.tree)
