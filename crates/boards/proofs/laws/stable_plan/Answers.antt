use Rattle.boards.proofs.PlansStable.{stable_plan}
use Rattle.boards.proofs.laws.stable_plan.Goals as goal

pub returns : goal.returns
returns c = stable_plan
