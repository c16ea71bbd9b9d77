use Rattle.std.proofs.Common.{Some, slice_set, ap, ◌∙◌}
use Rattle.std.specs.Option.{option_map}
use Rattle.std.proofs.lemmas.List.{map-set}
use Rattle.boards.specs.Slips.{list_of, Lists}
use Rattle.rounds.proofs.lists.Lists.set.Goals as goal

pub returns : goal.returns
returns c =
    map-set (option_map list_of) c.self.inside.lists c.args.lot (Some c.args.list)
    ∙ ap (λ (ls : Lists). slice_set ls c.args.lot (Some (list_of c.args.list))) c.self.view_is
