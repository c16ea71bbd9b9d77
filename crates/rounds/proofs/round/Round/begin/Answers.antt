use Rattle.books.specs.Contents.{contents}
use Rattle.books.proofs.Laid.{book_laid}
use Rattle.boards.proofs.CallsRun.{every_run}
use Rattle.rounds.proofs.round.Round.begin.Goals as goal

pub returns-clause-every_run : goal.returns-clause-every_run
returns-clause-every_run g c =
    every_run (contents c.args.book.now) (g.R.SharingRule.meaning c.args.rule) (book_laid c.args.book.now) (g.met.R.SharingRule.lawful c.args.rule)
