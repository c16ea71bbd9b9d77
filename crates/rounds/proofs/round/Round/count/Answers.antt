use Rattle.std.proofs.Common.{ap}
use Rattle.books.proofs.Laid.{book_laid}
use Rattle.rounds.specs.declared.lots.Lots.{Lots}
use Rattle.rounds.proofs.round.Round.count.Goals as goal

pub returns-clause-count : goal.returns-clause-count
returns-clause-count g c = rw (← c.self.view_is) (ap (λ (s : Lots). s.count) c.lots.ensures)

pub returns-clause-laid : goal.returns-clause-laid
returns-clause-laid g c = rw (← c.self.view_is) (book_laid c.self.inside.table.book)
