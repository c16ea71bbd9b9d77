use Rattle.std.proofs.Common.{ap, ◌∙◌}
use Rattle.books.proofs.Laid.{book_laid}
use Rattle.boards.specs.Boards.{slip_of, lot_of, enter}
use Rattle.boards.specs.Calls.{enters}
use Rattle.rounds.specs.OpenRounds.{OpenRound}
use Rattle.rounds.specs.Tables.{board}
use Rattle.boards.proofs.CallsRun.{goes_on}
use Rattle.rounds.proofs.round.Round.enter.Goals as goal

pub returns-clause-answer : goal.returns-clause-answer
returns-clause-answer g c = c.enter.ensures.answer ∙ ap (λ (r : OpenRound _). lot_of (slip_of r.board c.args.slip.now)) c.self.view_is

pub returns-clause-board : goal.returns-clause-board
returns-clause-board g c = c.enter.ensures.board ∙ ap (λ (r : OpenRound _). enter r.board c.args.slip.now) c.self.view_is

pub returns-clause-goes_on : goal.returns-clause-goes_on
returns-clause-goes_on g c =
    let r = c.self.inside in
    rw (← c.self.view_is)
    (goes_on (g.R.SharingRule.meaning r.rule) (g.met.R.SharingRule.lawful r.rule) (board r.table) (book_laid r.table.book) (enters c.args.slip.now) (board c.enter.new.self) c.enter.ensures.board)
