use Rattle.matching.proofs.Orders.{settled_is_least}
use Rattle.matching.proofs.theory.settled_is_least.Goals as goal

pub returns : goal.returns
returns c = settled_is_least
