use Rattle.std.proofs.Common.{ap, ◌∙◌}
use Rattle.boards.specs.Slips.{list_at}
use Rattle.rounds.specs.declared.lots.Lots.{Lots}
use Rattle.rounds.proofs.round.Round.list.Goals as goal

pub returns : goal.returns
returns g c = rw (← c.self.view_is) (c.of.ensures ∙ ap (λ (s : Lots). list_at s.lists c.args.lot) c.lots.ensures)
