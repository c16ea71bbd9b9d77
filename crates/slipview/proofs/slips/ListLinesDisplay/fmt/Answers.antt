use Rattle.std.proofs.Common.{rules, ap, le_antisymm}
use Rattle.std.proofs.Output.{has_written_append, has_written_of_eq, has_written_to_eq}
use Rattle.boards.specs.Slips.{list_of, list_at}
use Rattle.listing.proofs.Lines.{one_line, no_line}
use Rattle.slipview.specs.Slips.{list_line, list_lines}
use Rattle.slipview.proofs.slips.ListLinesDisplay.fmt.Goals as goal
use Rattle.slipview.proofs.slips.ListLinesDisplay.fmt.Goals.{in-Some+in_ok-writeln, in_default}

-- one lot more
pub loop-lot-preserved : goal.loop-lot-preserved
loop-lot-preserved g c plain =
    let lists = c.args.self.now.round.now.board.lists in
    elim c.match-list.branch [
      | in-Some+in_ok-writeln w ↦
          has_written_to_eq _ _ _ _ _ w.f-is (has_written_of_eq _ _ _ _ _
          (one_line list_line (list_at lists) c.loop-lot.lot (list_of w.in-Some.list) (search rules))
          (has_written_append _ _ _ _ _ _ (c.loop-lot.invariant plain) (w.writeln.ensures.writes (search rules) (search rules))))
      | in_default w ↦
          has_written_to_eq _ _ _ _ _ w.f-is (has_written_of_eq _ _ _ _ _
          (no_line list_line (list_at lists) c.loop-lot.lot (search rules))
          (c.loop-lot.invariant plain))
    ]

-- behind the last lot
pub returns-clause-writes : goal.returns-clause-writes
returns-clause-writes g c plain ok =
    has_written_of_eq _ _ _ _ _
    (ap (list_lines c.args.self.now.round.now.board.lists) (le_antisymm c.loop-lot.auto.lot-end c.loop-lot-test.false))
    (c.loop-lot.invariant plain)
