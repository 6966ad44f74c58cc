-- `truth`: the first place that is one, and the number of that.
use mathlib.Core.Path.{refl}
use lib.IntN.{pos}
use Rattle.paper_expressions.specs.Bytes.{bytes}
use Rattle.script.specs.Lexemes.{behind_word}
use Rattle.script.specs.PlacesLaws.{first_place, second_place}
use Rattle.script.specs.ValuesLaws.{when_nowhere, when_stands}
use Rattle.script.proofs.values.truth.Goals as goal

pub returns-then-p : goal.returns-then-p
returns-then-p c =
    let a = c.args in
    record { tag_is = refl; number_is = when_stands (pos 1) (pos 0) c.behind-p.ensures c.if-p.true; next_is = first_place (behind_word a.s.now a.at (bytes "1")) c.behind-p.ensures c.if-p.true refl }

pub returns : goal.returns
returns c =
    record { tag_is = refl; number_is = when_nowhere (pos 1) (pos 0) c.behind-p.ensures c.if-p.false; next_is = second_place c.behind-p.ensures c.if-p.false c.behind.ensures }
