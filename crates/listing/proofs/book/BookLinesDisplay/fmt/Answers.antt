use Rattle.std.proofs.Common.{rules, length, ◌++◌, ap₂}
use Rattle.std.proofs.Output.{has_written_append, has_written_of_eq}
use Rattle.books.specs.Contents.{contents}
use Rattle.listing.specs.Lines.{joined, shed_lines, totals_line, ended}
use Rattle.listing.proofs.book.BookLinesDisplay.fmt.Goals as goal

-- the totals stand behind the sheds
pub returns-clause-writes : goal.returns-clause-writes
returns-clause-writes g c plain ok =
    let book = contents c.args.self.now.0.now in
    has_written_of_eq _ _ _ _ _
    (ap₂ (λ n t. joined (shed_lines book) n ++ ended (totals_line t)) {x = c.loop-shed.shed} {y = length book.sheds} (search rules) c.totals.ensures)
    (has_written_append _ _ _ _ _ _ (c.loop-shed.invariant plain) (c.writeln.ensures.writes (search rules) ok))
