use Rattle.std.proofs.Common.{sym, subst}
use Rattle.books.proofs.Laid.{book_laid}
use Rattle.boards.specs.Calls.{applies, AtMostOneGoes}
use Rattle.rounds.specs.Tables.{board}
use Rattle.boards.proofs.CallsRun.{goes_on, one_goes}
use Rattle.rounds.proofs.FormedTables.{formed}
use Rattle.rounds.proofs.round.Round.apply.Goals as goal

pub returns-clause-answer : goal.returns-clause-answer
returns-clause-answer g c = rw (← c.self.view_is) c.apply.ensures.answer

pub returns-clause-board : goal.returns-clause-board
returns-clause-board g c = rw (← c.self.view_is) c.apply.ensures.board

pub returns-clause-at_most_one_goes : goal.returns-clause-at_most_one_goes
returns-clause-at_most_one_goes g c =
    let r = c.self.inside in
    rw (← c.self.view_is)
    (subst (AtMostOneGoes (board r.table) c.args.lot) (sym c.apply.ensures.board)
    (one_goes (g.R.SharingRule.meaning r.rule) (g.met.R.SharingRule.lawful r.rule) (board r.table) (formed r.table) c.args.lot))

pub returns-clause-goes_on : goal.returns-clause-goes_on
returns-clause-goes_on g c =
    let r = c.self.inside in
    rw (← c.self.view_is)
    (goes_on (g.R.SharingRule.meaning r.rule) (g.met.R.SharingRule.lawful r.rule) (board r.table) (book_laid r.table.book) (applies c.args.lot) (board c.apply.new.self) c.apply.ensures.board)
