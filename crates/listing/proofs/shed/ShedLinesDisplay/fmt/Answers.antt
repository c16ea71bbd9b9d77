use Rattle.std.proofs.Common.{rules, sym, ◌∙◌}
use Rattle.std.proofs.Output.{has_written_append, has_written_of_eq, has_written_to_eq}
use Rattle.books.specs.Contents.{contents}
use Rattle.listing.specs.Lines.{lane_line, told_in}
use Rattle.listing.proofs.Lines.{one_line, no_line}
use Rattle.listing.proofs.shed.ShedLinesDisplay.fmt.Goals as goal
use Rattle.listing.proofs.shed.ShedLinesDisplay.fmt.Goals.{in-Some-of+in_ok-writeln-2, in_default-of}

-- one lane more
pub loop-lane-preserved : goal.loop-lane-preserved
loop-lane-preserved g c plain =
    let found = told_in (contents c.args.self.now.book.now) c.args.self.now.shed in
    elim c.match-of.branch [
      | in-Some-of+in_ok-writeln-2 w ↦
          has_written_to_eq _ _ _ _ _ w.f-is (has_written_of_eq _ _ _ _ _
          (one_line (λ l. lane_line) found c.loop-lane.lane w.in-Some-of.line (sym c.of.ensures ∙ w.in-Some-of.is))
          (has_written_append _ _ _ _ _ _ (c.loop-lane.invariant plain) (w.writeln-in-Some-of.ensures.writes (search rules) (search rules))))
      | in_default-of w ↦
          has_written_to_eq _ _ _ _ _ w.f-is (has_written_of_eq _ _ _ _ _
          (no_line (λ l. lane_line) found c.loop-lane.lane (sym c.of.ensures ∙ w.in_default-of.is))
          (c.loop-lane.invariant plain))
    ]
