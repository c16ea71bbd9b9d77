use Rattle.std.proofs.Common.{◌≡◌, true, Some, sym, subst, rules}
use Rattle.books.specs.Contents.{contents, lane_of}
use Rattle.books.proofs.Standing.{recorded_on}
use Rattle.books.proofs.book.opening.Opening.note_lot.Goals as goal

pub invariant_of-self : goal.invariant_of-self
invariant_of-self c = λ m is.
    let lane = c.in_ok-lane.lane in
    let current : c.self.inside.ranking ≡ Some lane = search rules in
    let stays = recorded_on (contents c.self.inside.book) lane m c.in_ok-lot.lot (c.self.invariant lane current) (c.self.invariant m is) in
    subst (λ b. (lane_of b m).recorded ≡ true) (sym c.rank.ensures) stays
