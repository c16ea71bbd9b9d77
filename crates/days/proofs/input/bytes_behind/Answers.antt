use Rattle.std.proofs.Common.{rules}
use Rattle.days.specs.declared.input.TheConstants.{ENOUGH_BEHIND}
use Rattle.days.proofs.Days.{enough_behind}
use Rattle.days.proofs.input.bytes_behind.Goals as goal

pub returns-in-Some-clause-enough : goal.returns-in-Some-clause-enough
returns-in-Some-clause-enough c = enough_behind c.args.head.now ENOUGH_BEHIND (search rules)

pub returns-in_default-clause-enough : goal.returns-in_default-clause-enough
returns-in_default-clause-enough c = enough_behind c.args.head.now 0 (search rules)
