use Rattle.std.proofs.Common.{rules, sym, ap, ◌∙◌, take_all, append_assoc}
use Rattle.std.proofs.Output.{has_written_append, has_written_of_eq}
use Rattle.slipview.specs.Slips.{list_line}
use Rattle.slipview.proofs.slips.ListLineDisplay.fmt.Goals as goal

-- behind the last lane
pub returns-clause-writes : goal.returns-clause-writes
returns-clause-writes g c plain ok =
    let rest = c.in-Some.rest.now in
    has_written_of_eq _ _ _ _ _
    (search (rules, append_assoc, take_all c.loop-lane.lane-index rest c.loop-lane-test.false)
    ∙ ap (list_line c.args.self.now.lot) (sym c.in-Some.ensures.cases.0 ∙ c.lanes.ensures))
    (has_written_append _ _ _ _ _ _ (c.write-2.ensures.writes plain (search rules)) (c.loop-lane.invariant (search rules)))
