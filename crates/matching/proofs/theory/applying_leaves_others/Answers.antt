use Rattle.matching.proofs.Orders.{applying_leaves_others}
use Rattle.matching.proofs.theory.applying_leaves_others.Goals as goal

pub returns : goal.returns
returns c = applying_leaves_others
