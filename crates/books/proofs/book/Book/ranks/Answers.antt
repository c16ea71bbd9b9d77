use Rattle.std.proofs.Common.{ap, ◌∙◌}
use Rattle.books.specs.Lanes.{has}
use Rattle.books.proofs.Distinct.{has_any}
use Rattle.books.proofs.book.Book.ranks.Goals as goal

pub returns : goal.returns
returns c = c.contains.ensures.value ∙ has_any c.ranking.result.now c.args.lot ∙ ap (λ xs. has xs c.args.lot) c.ranking.ensures
