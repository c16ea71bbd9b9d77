use Rattle.std.proofs.Common.{sym, subst}
use Rattle.books.proofs.Laid.{book_laid}
use Rattle.boards.specs.Calls.{settles, Quiet, SettlesLeast}
use Rattle.rounds.specs.Tables.{board}
use Rattle.boards.proofs.CallsRun.{goes_on, settled_quiet, settles_least, settle_few}
use Rattle.rounds.proofs.FormedTables.{formed}
use Rattle.rounds.proofs.round.Round.settle.Goals as goal

pub returns-clause-answer : goal.returns-clause-answer
returns-clause-answer g c = rw (← c.self.view_is) c.settle.ensures.answer

pub returns-clause-few : goal.returns-clause-few
returns-clause-few g c =
    let r = c.self.inside in
    rw (← c.self.view_is, c.settle.ensures.answer)
    (settle_few (g.R.SharingRule.meaning r.rule) (g.met.R.SharingRule.lawful r.rule) (board r.table) (formed r.table))

pub returns-clause-quiet : goal.returns-clause-quiet
returns-clause-quiet g c =
    let r = c.self.inside in
    subst Quiet (sym c.settle.ensures.board)
    (settled_quiet (g.R.SharingRule.meaning r.rule) (g.met.R.SharingRule.lawful r.rule) (board r.table) (formed r.table))

pub returns-clause-goes_on : goal.returns-clause-goes_on
returns-clause-goes_on g c =
    let r = c.self.inside in
    rw (← c.self.view_is)
    (goes_on (g.R.SharingRule.meaning r.rule) (g.met.R.SharingRule.lawful r.rule) (board r.table) (book_laid r.table.book) settles (board c.settle.new.self) c.settle.ensures.board)

pub returns-clause-least : goal.returns-clause-least
returns-clause-least g c =
    let r = c.self.inside in
    rw (← c.self.view_is)
    (subst (SettlesLeast (g.R.SharingRule.meaning r.rule) (board r.table)) (sym c.settle.ensures.board)
    (settles_least (g.R.SharingRule.meaning r.rule) (g.met.R.SharingRule.lawful r.rule) (board r.table) (formed r.table)))
