-- The cycle of the reader: for every tree that the tokens have, each function comes to it. The depth falls at each bracket.
use Rattle.std.proofs.Common.{◌≡◌, ℕ, ◌+◌, ◌*◌, ◌-◌, ◌≤◌, List, ◌∷◌, length}
use Rattle.paper_expressions.specs.Expressions.{Expr, Exprs}
use Rattle.paper_tokens.specs.Lexical.{Token}
use Rattle.paper_tokens.specs.Terminals.{Terminal}
use Rattle.paper_guideline.specs.Tree.{Tree, Trees}
use Rattle.paper_guideline.proofs.Laws.TreeLaws.{Ends}
use Rattle.leaves.specs.Source.{source_of}
use Rattle.expression_steps.specs.Rows.{Beside}
use Rattle.expression_steps.specs.Levels.{where_of}
use Rattle.expression_steps.specs.Made.{Standing, Group}
use Rattle.expression_reader.specs.Loops.{Elements, Going}
use Rattle.expression_reader.proofs.+expression_list_operand_primary.Given as goal

abbrev pub decreases-expression : goal.decreases-expression
decreases-expression l = l.d * 4 + 2

abbrev pub decreases-list : goal.decreases-list
decreases-list l = l.d * 4 + 3

abbrev pub decreases-operand : goal.decreases-operand
decreases-operand l = l.d * 4 + 1

abbrev pub decreases-primary : goal.decreases-primary
decreases-primary l = l.d * 4

abbrev pub invariant-expression-loop-ks : goal.invariant-expression-loop-ks
invariant-expression-loop-ks l =
    (l.n ≤ 8) × (length l.ks ≡ 8) × (length l.fs ≡ 8) × (length l.ds ≡ 8) × (l.p ≤ l.q) × (l.w + l.n + l.p ≤ l.q + l.u) × Beside l.u l.w l.fn.cells l.cells × (l.u ≤ l.w)
    × ((b : ℕ) (s r : List Token) (e : Expr) → Standing (source_of l.tokens) b l.d l.p s → Ends (where_of l.assigned) r → Tree (where_of l.assigned) 1 s r e
    → Going (source_of l.tokens) l.fn.cells l.cells l.ks l.fs l.ds (where_of l.assigned) b l.d r e l.u l.n l.q l.w l.longest)

abbrev pub decreases-expression-loop-ks : goal.decreases-expression-loop-ks
decreases-expression-loop-ks l = length l.tokens.kinds.now - l.q

abbrev pub invariant-list-loop-h : goal.invariant-list-loop-h
invariant-list-loop-h l =
    (l.p ≤ l.q) × (l.n ≤ l.q) × (l.m.used + l.p ≤ l.q + l.u) × (l.u ≤ l.m.used) × Beside l.u l.m.used l.fn.cells l.cells
    × ((b : ℕ) (s r : List Token) (t : Token) (es : Exprs) (e : Expr) → Standing (source_of l.tokens) (b + 1) l.d l.p s → Terminal t l.close → Trees s (t ∷ r) es → Group es l.close e
    → Elements (source_of l.tokens) l.fn.cells l.cells b l.d l.u r t e es l.q l.n l.m)

abbrev pub decreases-list-loop-h : goal.decreases-list-loop-h
decreases-list-loop-h l = length l.tokens.kinds.now - l.q
