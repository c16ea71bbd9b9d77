use Rattle.matching.proofs.Orders.{entering_stands}
use Rattle.matching.proofs.theory.entering_stands.Goals as goal

pub returns : goal.returns
returns c = entering_stands
