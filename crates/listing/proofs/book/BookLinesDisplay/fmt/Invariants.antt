use Rattle.std.specs.Fmt.{HasWritten, IsPlainFormatter}
use Rattle.books.specs.Contents.{contents}
use Rattle.listing.specs.Lines.{joined, shed_lines}
use Rattle.listing.proofs.book.BookLinesDisplay.fmt.Given as goal

-- the sheds so far are written
abbrev pub invariant-loop-shed : goal.invariant-loop-shed
invariant-loop-shed g l =
    IsPlainFormatter l.initial.f → HasWritten g.W.Write.write_str_gives l.initial.f (joined (shed_lines (contents l.fn.self.0.now)) l.shed) l.f
