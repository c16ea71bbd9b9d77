use Rattle.std.proofs.Common.{arith, rules}
use Rattle.std.proofs.lemmas.Iterator.{serves_from_Range}
use Rattle.books.specs.Contents.{contents}
use Rattle.boards.specs.Searches.{beyond_at}
use Rattle.rounds.specs.Claims.{claiming}
use Rattle.rounds.proofs.FirstFound.{first_from_find_map}
use Rattle.rounds.proofs.table.Table.beyond_any.Goals as goal

pub find_map-requires-clause-callable : goal.find_map-requires-clause-callable
find_map-requires-clause-callable c = serves_from_Range (λ x q k. search rules) (λ x a b _ _ _ _ _ _. omega (arith, b, c.args.shed.now.few_lanes))

pub returns : goal.returns
returns c =
    let shed = c.args.shed.now in
    first_from_find_map _ _ (beyond_at (contents c.args.self.now.book) (claiming c.args.self.now shed.asked) shed.first shed.supply shed.«keep») (λ x o q called. search rules) shed.lanes c.find_map.result c.find_map.ensures.runs
