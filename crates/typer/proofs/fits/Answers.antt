-- `fits`: what suits the type that is found.
use Rattle.typer.proofs.FittingLaws.{fits_found}
use Rattle.typer.proofs.fits.Goals as goal

pub returns : goal.returns
returns c = fits_found c.type_of-found.ensures c.suits.ensures
