-- What a table says.
use Rattle.rounds.specs.declared.table.Table.{Table}
use Rattle.boards.specs.Boards.{Board}
use Rattle.rounds.specs.Lots.{board_from}

abbrev pub board : Table → Board
board t = board_from t.book t.lots
