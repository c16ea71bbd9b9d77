use Rattle.matching.proofs.Ones.{at_most_one_goes}
use Rattle.matching.proofs.theory.at_most_one_goes.Goals as goal

pub returns : goal.returns
returns c = at_most_one_goes
