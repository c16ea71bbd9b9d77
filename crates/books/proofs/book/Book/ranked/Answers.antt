use Rattle.std.proofs.Common.{◌≡◌, length, sym, ap, ◌∙◌, rules}
use Rattle.books.specs.Lanes.{Entry, has, lots_in}
use Rattle.books.proofs.Distinct.{distinct_all}
use Rattle.books.proofs.Edits.{lane_known}
use Rattle.books.proofs.book.Book.ranked.Goals as goal

pub returns-clause-everyone : goal.returns-clause-everyone
returns-clause-everyone c =
    let b = c.args.self.now in
    let lane = c.in_ok-lane.lane.now in
    let known = lane_known b.cards.items b.lanes.items c.args.lane lane (search rules) (search rules) in
    λ full lot below.
    let all : length c.lots.result.now ≡ 256 = cc in
    ap (λ (e : Entry). has e.ranking lot) known ∙ distinct_all 256 lot (lots_in lane.ranking) lane.below lane.once (ap length (sym c.lots.ensures.value) ∙ all) below
