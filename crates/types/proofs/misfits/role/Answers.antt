-- `role`: by the kind of the row.
use Rattle.types.specs.RoleLaws.{role_assigned, role_wording, role_condition}
use Rattle.types.proofs.misfits.role.Goals as goal

pub returns-then-k-eq-EQUALS : goal.returns-then-k-eq-EQUALS
returns-then-k-eq-EQUALS c = role_assigned c.args.rows.now c.args.j c.kind-k.ensures c.if-k-eq-EQUALS.true c.handle.ensures

pub returns-then-is_wording : goal.returns-then-is_wording
returns-then-is_wording c = role_wording c.args.rows.now c.args.j c.kind-k.ensures c.if-k-eq-EQUALS.false c.is_wording.ensures c.if-is_wording.true

pub returns-else-is_wording : goal.returns-else-is_wording
returns-else-is_wording c = role_condition c.args.rows.now c.args.j c.kind-k.ensures c.if-k-eq-EQUALS.false c.is_wording.ensures c.if-is_wording.false
