use Rattle.std.proofs.Common.{take}
use Rattle.books.specs.Contents.{contents}
use Rattle.boards.proofs.Seats.{Counts}
use Rattle.rounds.proofs.lines.Lines.filling.Given as goal

abbrev pub invariant-loop-line : goal.invariant-loop-line
invariant-loop-line l = Counts (contents l.book) (take l.line-index l.line-items) l.shed l.counts
