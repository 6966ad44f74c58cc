-- `line_at`: each arm is that of its letter.
use Prim.Native.Nat.{ℕ}
use mathlib.Core.Path.{sym, ap, ◌∙◌}
use native.Mathlib.Omega.{arith}
use Rattle.script.specs.Places.{line_by, add_line, confirm_line, load_line}
use Rattle.script.specs.PlacesLaws.{by_first, no_first}
use Rattle.script.specs.ValuesLaws.{line_adds, line_triggers, line_gives_none}
use Rattle.script.proofs.calls.line_at.Goals as goal

pub returns-in-97 : goal.returns-in-97
returns-in-97 c =
    let s = c.args.s.now in
    let d = c.add.ensures in
    line_adds c.byte.ensures c.after-p.ensures (by_first s c.args.at c.byte.ensures c.after-p.ensures (d.1 ∙ ap (λ (p : ℕ). add_line s p) c.behind.ensures ∙ sym (ap (λ (x : ℕ). line_by s c.after-p.result x) c.in-97.is))) c.in-97.is c.behind.ensures d.0

pub returns-in-99 : goal.returns-in-99
returns-in-99 c =
    let s = c.args.s.now in
    let x = c.in-99.is in
    line_gives_none c.byte.ensures c.after-p.ensures (by_first s c.args.at c.byte.ensures c.after-p.ensures (c.confirm.ensures ∙ ap (λ (p : ℕ). confirm_line s p) c.behind-in-99.ensures ∙ sym (ap (λ (x : ℕ). line_by s c.after-p.result x) x))) (λ z. omega arith) (λ z. omega arith)

pub returns-in-108 : goal.returns-in-108
returns-in-108 c =
    let s = c.args.s.now in
    let x = c.in-108.is in
    line_gives_none c.byte.ensures c.after-p.ensures (by_first s c.args.at c.byte.ensures c.after-p.ensures (c.load.ensures ∙ ap (λ (p : ℕ). load_line s p) c.behind-in-108.ensures ∙ sym (ap (λ (x : ℕ). line_by s c.after-p.result x) x))) (λ z. omega arith) (λ z. omega arith)

pub returns-in-114 : goal.returns-in-114
returns-in-114 c =
    let s = c.args.s.now in
    let x = c.in-114.is in
    line_gives_none c.byte.ensures c.after-p.ensures (by_first s c.args.at c.byte.ensures c.after-p.ensures (c.run_or_row.ensures ∙ sym (ap (λ (x : ℕ). line_by s c.after-p.result x) x))) (λ z. omega arith) (λ z. omega arith)

pub returns-in-116 : goal.returns-in-116
returns-in-116 c =
    let s = c.args.s.now in
    let d = c.time_or_trigger.ensures in
    line_triggers c.byte.ensures c.after-p.ensures (by_first s c.args.at c.byte.ensures c.after-p.ensures (d.1 ∙ sym (ap (λ (x : ℕ). line_by s c.after-p.result x) c.in-116.is))) c.in-116.is d.0

pub returns-in_default : goal.returns-in_default
returns-in_default c =
    let s = c.args.s.now in
    line_gives_none c.byte.ensures c.after-p.ensures (by_first s c.args.at c.byte.ensures c.after-p.ensures (c.nothing.ensures ∙ no_first s c.after-p.result c.byte.result (λ z. omega arith) (λ z. omega arith) (λ z. omega arith) (λ z. omega arith) (λ z. omega arith))) (λ z. omega arith) (λ z. omega arith)
