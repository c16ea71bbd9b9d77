use Rattle.matching.proofs.Sheds.{lanes_choose}
use Rattle.matching.proofs.theory.lanes_choose.Goals as goal

pub returns : goal.returns
returns c = lanes_choose
