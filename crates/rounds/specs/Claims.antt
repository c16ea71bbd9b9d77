-- Who claims a lane while a lot asks it.
use Rattle.rounds.specs.declared.table.Table.{Table}
use Rattle.rounds.specs.declared.table.leaver.Application.{Application}
use Rattle.matching.specs.Offers.{Offers, asking}
use Rattle.boards.specs.Boards.{holding}
use Rattle.rounds.specs.Tables.{board}

-- the lots that a lane holds, and the lot that asks there
unfoldable pub claiming : Table → Application → Offers
claiming t asked = asking (holding (board t)) asked.lane asked.lot
