use Rattle.std.specs.Fmt.{HasWritten, IsPlainFormatter}
use Rattle.slipview.specs.Slips.{list_lines}
use Rattle.slipview.proofs.slips.ListLinesDisplay.fmt.Given as goal

-- the lists of the lots so far are written
abbrev pub invariant-loop-lot : goal.invariant-loop-lot
invariant-loop-lot g l =
    IsPlainFormatter l.initial.f → HasWritten g.W.Write.write_str_gives l.initial.f (list_lines l.fn.self.round.now.board.lists l.lot) l.f
