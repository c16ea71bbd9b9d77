-- What a clause sees of a round.
use Rattle.std.specs.Prelude.{◌≡◌}
use Rattle.books.specs.declared.book.Book.{Book}
use Rattle.books.specs.Contents.{contents}
use Rattle.boards.specs.Boards.{Board}
use Rattle.rounds.specs.Lots.{RoundFacts}

-- an open round: its book, what the book and its lots say, with what this has in every round, and the rule that it goes by
pub record OpenRound (R : Type 0) : Type 0 where
  pub book : Book
  pub board : Board
  pub its_book : board.book ≡ contents book
  pub facts : RoundFacts board
  pub rule : R
