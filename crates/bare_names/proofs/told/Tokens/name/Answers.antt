-- `name`: the token's bytes without their quotes, folded.
use Rattle.bare_names.specs.ToldLaws.{named_some}
use Rattle.bare_names.proofs.told.Tokens.name.Goals as goal

pub returns : goal.returns
returns c =
    let s = c.args.self in
    named_some s.text.now s.places.now s.lengths.now c.args.i c.cell-at.ensures c.cell-n.ensures (c.fits.ensures.0 c.if-not-fits.false) c.inside-s.ensures.0 c.inside-s.ensures.1 c.folded.ensures
