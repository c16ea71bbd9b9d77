use Rattle.std.specs.Fmt.{HasWritten, IsPlainFormatter}
use Rattle.books.specs.Contents.{contents}
use Rattle.listing.specs.Lines.{lane_lines}
use Rattle.listing.proofs.shed.ShedLinesDisplay.fmt.Given as goal

-- below the shed's line stand those of its lanes so far
abbrev pub invariant-loop-lane : goal.invariant-loop-lane
invariant-loop-lane g l =
    IsPlainFormatter l.initial.f → HasWritten g.W.Write.write_str_gives l.initial.f (lane_lines (contents l.fn.self.book.now) l.fn.self.shed l.lane) l.f
