use Rattle.matching.proofs.Ones.{clearing_fits}
use Rattle.matching.proofs.theory.clearing_fits.Goals as goal

pub returns : goal.returns
returns c = clearing_fits
