use Rattle.matching.proofs.Orders.{orders_do_not_matter}
use Rattle.matching.proofs.theory.orders_do_not_matter.Goals as goal

pub returns : goal.returns
returns c = orders_do_not_matter
