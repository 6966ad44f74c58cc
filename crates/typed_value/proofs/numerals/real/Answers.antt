-- `real`: no digits, too many, or so many thousandths.
use mir.Syntax.{w64}
use mathlib.Core.Path.{◌≡◌, refl, ap, ◌∙◌}
use Prim.Native.Nat.{ℕ, ◌+◌, ◌*◌, ◌-◌, ◌≤◌}
use native.Mathlib.Omega.{arith}
use lib.ListN.{drop}
use borrow.Author.Tests.{le-leb, lt-leb, lt-ltb, le-ltb}
use Rattle.paper_expressions.specs.Values as paper
use Rattle.typed_value.specs.Lexemes.{digitb, run}
use Rattle.typed_value.specs.Numerals.{decimal, thousandths_of, signed_of}
use mir.Facts.{to_z-of_z}
use borrow.Author.Rules.{sfits_of}
use Rattle.typed_value.specs.NumeralLaws.{few_kept, real_kept}
use Rattle.typed_value.specs.Elements.{real_at}
use Rattle.typed_value.specs.ReadingLaws.{as_found}
use Rattle.typed_value.specs.declared.elements.Element.{Element}
use borrow.Author.Rules.{rules}
use Rattle.typed_value.proofs.numerals.real.Goals as goal

pub returns-then-p-from : goal.returns-then-p-from
unfolding real_at
returns-then-p-from c =
    let e = ap (λ (x : Element). x.place) c.wrong.ensures in
    (search rules, λ n i k. rw (← c.after-from.ensures.1, ← c.digits-d.ensures.3, le-leb c.digits-d.result.place c.after-from.result c.if-p-from.true) c.wrong.ensures)

pub returns-then-count-gt-DECIMALS : goal.returns-then-count-gt-DECIMALS
unfolding real_at
returns-then-count-gt-DECIMALS c =
    let e = ap (λ (x : Element). x.place) c.wrong-then-count-gt-DECIMALS.ensures in (
      search rules,
      λ n i k. rw (← c.after-from.ensures.1, ← c.digits-d.ensures.3, lt-leb c.digits-d.result.place c.after-from.result c.if-p-from.false, lt-ltb 3 (c.digits-d.result.place - c.after-from.result) c.if-count-gt-DECIMALS.true) c.wrong-then-count-gt-DECIMALS.ensures,
    )

pub returns : goal.returns
unfolding real_at
returns c =
    let a = c.args in
    let e = ap (λ (x : Element). x.place) c.found.ensures in
    let from = c.after-from.result in
    let p = c.digits-d.result.place in
    let d = c.digits-d.ensures in
    let few : run digitb (drop c.after-from.result a.s.now) ≤ 3 = omega (arith, d.3, c.if-count-gt-DECIMALS.false) in
    let value : c.digits-d.result.value ≡ decimal 0 (drop c.after-from.result a.s.now) = d.2 ∙ few_kept (drop c.after-from.result a.s.now) few in (
      search rules,
      λ n i k.
          rw (← c.after-from.ensures.1, ← d.3, lt-leb p from c.if-p-from.false, le-ltb 3 (p - from) c.if-count-gt-DECIMALS.false)
          (as_found (paper.real (signed_of a.minus (n * 1000 + thousandths_of (decimal 0 (drop from a.s.now)) (p - from)))) i c.found.ensures
          (to_z-of_z {w = w64} (sfits_of c.signed.type_inv) ∙ c.signed.ensures ∙ ap (λ (m : ℕ). signed_of a.minus (a.whole * 1000 + m)) (c.thousandths.ensures.1 ∙ ap (λ (v : ℕ). thousandths_of v (p - from)) value)
          ∙ ap (λ (w : ℕ). signed_of a.minus (w * 1000 + thousandths_of (decimal 0 (drop from a.s.now)) (p - from))) k
          ∙ real_kept a.minus n (thousandths_of (decimal 0 (drop from a.s.now)) (p - from))) refl),
    )
