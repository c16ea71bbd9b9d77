use Rattle.matching.proofs.Orders.{applying_stands}
use Rattle.matching.proofs.theory.applying_stands.Goals as goal

pub returns : goal.returns
returns c = applying_stands
