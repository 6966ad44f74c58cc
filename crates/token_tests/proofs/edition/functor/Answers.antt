-- `functor`: the name has a place among those left out.
use Rattle.std.proofs.Common.{ℕ, sym, ap, ◌∙◌, ltb}
use Rattle.parts.specs.Texts.{cells}
use Rattle.token_tests.specs.LeftOutTest.{rows_fit, named_placed}
use Rattle.token_tests.proofs.edition.functor.Goals as goal

pub place_in-requires : goal.place_in-requires
place_in-requires c = (c.requires, rw (c.names-names.ensures, c.lengths-lengths.ensures) rows_fit)

pub returns : goal.returns
returns c =
    let p = rw (c.names-names.ensures, c.lengths-lengths.ensures) at c.place_in.ensures in
    ap (λ (i : ℕ). ltb i 16) p ∙ sym (named_placed (cells c.args.text.now c.args.at c.args.n) 0 16)
