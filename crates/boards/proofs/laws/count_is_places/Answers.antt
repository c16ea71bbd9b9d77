use Rattle.boards.proofs.PlansSame.{count_is_places}
use Rattle.boards.proofs.laws.count_is_places.Goals as goal

pub returns : goal.returns
returns c = count_is_places
