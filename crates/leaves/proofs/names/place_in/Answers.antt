-- `place_in`: a name that is the same ends the search, and one that is not is passed.
use Rattle.std.proofs.Common.{ℕ, Bool, List, ◌≡◌, ◌+◌, ◌*◌, ◌<◌, ◌≤◌, ◌-◌, length, get_or, take, arith, sym, ◌∙◌}
use Rattle.std.proofs.lemmas.List.{length-take, get_or-take}
use Rattle.paper_expressions.proofs.Laws.Search.{sameb}
use Rattle.paper_tokens.specs.Lexical.{part}
use Rattle.parts.specs.Texts.{cells}
use Rattle.words.specs.Entries.{Same}
use Rattle.leaves.specs.Cells.{same_parts}
use Rattle.leaves.specs.Places.{entry, Rows, found, passed}
use Rattle.leaves.proofs.names.place_in.Goals as goal

module _ (t names lengths : List ℕ) (at n count width i : ℕ) where
  -- what the name i says of the text
  told : (r : Bool) → at + n ≤ length t → Rows names lengths count width → i < count
      → Same (part t at n) (part names (i * width) (get_or (take count lengths) i 0)) r → sameb (entry names lengths width i) (cells t at n) ≡ r
  told r h g l s = sym (same_parts t names at n (i * width) (get_or lengths i 0) r h (g.inside i l) (rw (get_or-take count lengths i 0 l) at s))

pub returns-then-stands : goal.returns-then-stands
returns-then-stands c =
    let a = c.args in
    let i = c.loop-i.i in
    let l : i < a.count = omega (arith, length-take {A = ℕ}, c.loop-i-test.true) in
    let t = told a.text.now a.names.now a.lengths.now a.at a.n a.count a.width i c.stands.result c.requires.0 c.requires.1 l c.stands.ensures ∙ c.if-stands.true in
    sym (found (entry a.names.now a.lengths.now a.width) (cells a.text.now a.at a.n) i (a.count - i) (omega arith) t) ∙ c.loop-i.invariant

pub loop-i-preserved : goal.loop-i-preserved
loop-i-preserved c =
    let a = c.args in
    let i = c.loop-i.i in
    let l : i < a.count = omega (arith, length-take {A = ℕ}, c.loop-i-test.true) in
    let t = told a.text.now a.names.now a.lengths.now a.at a.n a.count a.width i c.stands.result c.requires.0 c.requires.1 l c.stands.ensures ∙ c.if-stands.false in
    sym (passed (entry a.names.now a.lengths.now a.width) (cells a.text.now a.at a.n) i (a.count - i) (a.count - (i + 1)) (omega arith) t) ∙ c.loop-i.invariant
