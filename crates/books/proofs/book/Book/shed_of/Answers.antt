use Rattle.books.proofs.Laid.{book_laid}
use Rattle.books.proofs.book.Book.shed_of.Goals as goal

pub returns-clause-laid : goal.returns-clause-laid
returns-clause-laid c = book_laid c.args.self.now
