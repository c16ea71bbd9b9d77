use Rattle.std.proofs.Common.{◌≡◌, Ok, rules}
use Rattle.books.specs.Opening.{opening, answered}
use Rattle.books.proofs.Faults.{first_fault_answered}
use Rattle.books.proofs.book.Book.open.Goals as goal

pub returns-in_err-self-clause-faults : goal.returns-in_err-self-clause-faults
returns-in_err-self-clause-faults c =
    let answer : c.from_residual.result ≡ answered (opening c.args.sheet.now) = search rules in
    first_fault_answered c.args.sheet.now c.from_residual.result answer

pub returns-clause-faults : goal.returns-clause-faults
returns-clause-faults c =
    let answer : Ok tt ≡ answered (opening c.args.sheet.now) = search rules in
    first_fault_answered c.args.sheet.now (Ok tt) answer
