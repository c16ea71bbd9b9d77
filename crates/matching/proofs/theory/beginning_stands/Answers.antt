use Rattle.matching.proofs.Orders.{beginning_stands}
use Rattle.matching.proofs.theory.beginning_stands.Goals as goal

pub returns : goal.returns
returns c = beginning_stands
