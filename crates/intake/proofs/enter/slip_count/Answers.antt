use Rattle.std.proofs.Common.{ℕ, Bool, is_some, refl, ◌∙◌, rules}
use Rattle.std.proofs.lemmas.Iterator.{YieldsList-from_range}
use Rattle.std.proofs.lemmas.Iterator.Consumers.{YieldsList-from_filter, count_from_yields_List}
use Rattle.std.proofs.lemmas.List.Sums.{length-filter}
use Rattle.std.specs.List.{range_with_len}
use Rattle.boards.specs.Slips.{list_at}
use Rattle.intake.proofs.Counts.{all_listed}
use Rattle.intake.proofs.enter.slip_count.Goals as goal

pub returns : goal.returns
returns g c =
    let r = c.args.round.now in
    let ls = r.board.lists in
    let listed : ℕ → Bool = λ lot. is_some (list_at ls lot) in
    count_from_yields_List c.filter.result c.count.result c.count.ensures.ran (YieldsList-from_filter _ listed (YieldsList-from_range 0 256 256 (cc) refl) c.filter.ensures.closure (λ x b q k. search rules))
    ∙ length-filter listed (range_with_len 0 256)
    ∙ all_listed ls r.facts.lists_lawful.0
