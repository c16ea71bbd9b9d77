use Rattle.std.proofs.Common.{sym, ap, subst}
use Rattle.books.specs.Contents.{contents}
use Rattle.books.proofs.Laid.{book_laid}
use Rattle.boards.specs.Boards.{begun}
use Rattle.boards.proofs.FormedEnters.{begun_formed}
use Rattle.rounds.specs.Lots.{board_from, RoundFacts}
use Rattle.rounds.proofs.FormedTables.{facts}
use Rattle.rounds.proofs.table.Table.new.Goals as goal

pub returns : goal.returns
returns c = ap (board_from c.args.book.now) c.new.ensures

pub invariant_of-result : goal.invariant_of-result
invariant_of-result c =
    let b = c.args.book.now in
    record { facts = subst RoundFacts (sym (ap (board_from b) c.new.ensures)) (facts (begun (contents b)) (begun_formed (contents b) (book_laid b))) }
