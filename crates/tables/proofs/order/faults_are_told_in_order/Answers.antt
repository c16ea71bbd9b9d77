use Rattle.std.proofs.Common.{refl}
use Rattle.tables.proofs.Faults.{first_in_table}
use Rattle.tables.proofs.order.faults_are_told_in_order.Goals as goal

pub returns : goal.returns
returns c = λ a w. (refl, first_in_table a w)
