-- What the lots of a round and its book say together.
use Rattle.books.specs.declared.book.Book.{Book}
use Rattle.books.specs.Contents.{contents}
use Rattle.boards.specs.Boards.{Board}
use Rattle.boards.specs.Formed.{Lists, Lines, Ranked, LanesWithin, ShedsWithin, Counted}
use Rattle.rounds.specs.declared.lots.Lots.{Lots}

-- the board of a book and its lots
abbrev pub board_from : Book → Lots → Board
board_from b s = record { book = contents b; lists = s.lists; lines = s.lines; count = s.count }

-- what every round has beside a book that is laid out, which the type of a book says
pub record RoundFacts (s : Board) : Type 0 where
  pub lists_lawful : Lists s
  pub lines_fit : Lines s
  pub held_ranked : Ranked s
  pub lanes_within : LanesWithin s
  pub sheds_within : ShedsWithin s
  pub counted : Counted s
