use Rattle.std.proofs.Common.{refl}
use Rattle.worked_days.proofs.answers.worked_answers.Goals as goal

pub returns : goal.returns
returns c = (refl, refl, refl, refl, refl, refl, refl, refl)
