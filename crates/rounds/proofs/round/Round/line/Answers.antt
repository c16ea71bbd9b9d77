use Rattle.std.proofs.Common.{ap, ◌∙◌}
use Rattle.std.specs.Prelude.{slice_index_or}
use Rattle.boards.specs.declared.line.Line.TheVariants.{Absent}
use Rattle.rounds.specs.declared.lots.Lots.{Lots}
use Rattle.rounds.proofs.round.Round.line.Goals as goal

pub returns : goal.returns
returns g c = rw (← c.self.view_is) (c.of.ensures ∙ ap (λ (s : Lots). slice_index_or s.lines c.args.lot Absent) c.lots.ensures)
