-- `component`: the root, an earlier component, and then the tasks.
use mathlib.Core.Path.{sym, ◌∙◌}
use borrow.Author.Rules.{rules}
use Rattle.name_tests.specs.Flaws.{component_root, component_earlier, component_rest}
use Rattle.name_tests.proofs.flaws.component.Statement.{statement}
use Rattle.name_tests.proofs.flaws.component.Tie as tie

returns : tie.Need-returns-then-same
returns c = let a = c.before.before.before.before.before.before.before.args in component_root a.rows.now a.n a.bytes.now a.j c.before.before.before.handle-h.ensures c.before.before.handle.ensures (sym c.before.same.ensures ∙ c.if-same.true)

returns-2 : tie.Need-returns-then-named
returns-2 c = let a = c.before.before.before.before.before.before.before.before.before.args in component_earlier a.rows.now a.n a.bytes.now a.j c.before.before.before.before.before.handle-h.ensures c.before.named.ensures c.if-named.true

returns-3 : tie.Need-returns
returns-3 c =
    let a = c.before.before.before.before.before.before.before.before.before.before.args in
    component_rest a.rows.now a.n a.bytes.now a.j c.before.before.before.before.before.before.handle-h.ensures c.before.before.before.before.before.handle.ensures (sym c.before.before.before.before.same.ensures ∙ c.before.before.before.if-same.false) c.before.before.named.ensures c.before.if-named.false c.listed.ensures

pub component_spec : {M : Type 1} → statement M
component_spec =
    tie.close
    (tie.spec
    (λ c κs. search rules) (λ c κs. search rules) (λ c κs. search rules)
    returns
    (λ c κs. search rules)
    returns-2
    (λ c κs. search rules)
    returns-3)
