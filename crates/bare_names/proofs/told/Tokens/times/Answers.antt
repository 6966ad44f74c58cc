-- `times`: one more is counted if it has the name.
use mir.Val.{bool_byte}
use Rattle.std.proofs.Common.{◌≡◌, ℕ, ◌+◌, ◌≤◌, Bool, true, false, cond, length, sym, ap, ◌∙◌, arith}
use Rattle.bare_tokens.specs.Listed.{passing}
use Rattle.bare_tokens.specs.ListedLaws.{count_none, count_more}
use Rattle.bare_names.specs.Told.{met_at}
use Rattle.bare_names.specs.ToldLaws.{met_is}
use Rattle.bare_names.proofs.told.Tokens.times.Goals as goal

one : (b : Bool) (r : ℕ) → r ≡ bool_byte b → (r ≡ cond b 1 0) × (r ≤ 1)
one true r e = (e, omega arith)
one false r e = (e, omega arith)

pub loop-j-init : goal.loop-j-init
loop-j-init c = (omega arith, sym (count_none _))

pub loop-j-preserved : goal.loop-j-preserved
loop-j-preserved c =
    let s = c.args.self in
    let v = c.loop-j.invariant in
    let f = met_at s.text.now s.places.now s.lengths.now false c.args.w.now c.args.list.now in
    let e = met_is s.text.now s.places.now s.lengths.now false c.args.w.now c.args.list.now c.loop-j.j c.cell.ensures c.meets.ensures in
    let o = one c.meets.result c.from-c.result c.from-c.ensures in
    (omega arith, ap (λ (n : ℕ). n + c.from-c.result) v.1 ∙ ap (λ (n : ℕ). length (passing f c.loop-j.j) + n) o.0 ∙ sym (count_more f c.loop-j.j c.meets.result (sym e)))
