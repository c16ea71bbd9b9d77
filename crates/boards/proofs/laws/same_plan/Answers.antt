use Rattle.boards.proofs.PlansSame.{same_plan}
use Rattle.boards.proofs.laws.same_plan.Goals as goal

pub returns : goal.returns
returns c = same_plan
