-- `signed`: the digits stand behind the minus, if there is one.
use Prim.Native.Nat.{ℕ}
use mathlib.Core.Path.{refl, ap, ◌∙◌}
use Rattle.paper_expressions.specs.Bytes.{bytes}
use mathlib.Core.Bool.{true, false}
use Rattle.script.specs.Lexemes.{behind_word, digits_at}
use Rattle.script.specs.Places.{up-to}
use Rattle.script.specs.PlacesLaws.{first_place, second_place}
use Rattle.script.specs.Values.{with_minus}
use Rattle.script.specs.ValuesLaws.{when_nowhere, when_stands}
use Rattle.script.proofs.values.signed.Goals as goal

pub returns-then-p : goal.returns-then-p
returns-then-p c =
    let a = c.args in
    let u = c.unsigned.ensures in
    record {
      tag_is = u.tag_is;
      number_is = u.number_is ∙ when_nowhere (with_minus false (digits_at a.s.now a.at).value) (with_minus true (digits_at a.s.now (behind_word a.s.now a.at (bytes "-"))).value) c.behind-p.ensures c.if-p.true;
      next_is = u.next_is ∙ ap (λ (x : ℕ). up-to a.limit (digits_at a.s.now x)) (second_place c.behind-p.ensures c.if-p.true refl);
    }

pub returns : goal.returns
returns c =
    let a = c.args in
    let u = c.unsigned-2.ensures in
    record {
      tag_is = u.tag_is;
      number_is = u.number_is ∙ ap (λ (x : ℕ). with_minus true (digits_at a.s.now x).value) c.behind-p.ensures ∙ when_stands (with_minus false (digits_at a.s.now a.at).value) (with_minus true (digits_at a.s.now (behind_word a.s.now a.at (bytes "-"))).value) c.behind-p.ensures c.if-p.false;
      next_is = u.next_is ∙ ap (λ (x : ℕ). up-to a.limit (digits_at a.s.now x)) (first_place a.at c.behind-p.ensures c.if-p.false refl);
    }
