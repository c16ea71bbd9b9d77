use Rattle.std.proofs.Common.{refl, arith, length-set, rules}
use Rattle.books.specs.Entries.{recorded_entry}
use Rattle.books.proofs.Edits.{lane_changed, ordered_changed}
use Rattle.books.proofs.book.Book.begin_record.Goals as goal

pub invariant_of-self-clause-few_lanes : goal.invariant_of-self-clause-few_lanes
invariant_of-self-clause-few_lanes c = let b = c.args.self.now in omega (arith, length-set b.lanes.items c.args.lane c.begin_record.new.self, b.few_lanes)

pub invariant_of-self-clause-ordered : goal.invariant_of-self-clause-ordered
invariant_of-self-clause-ordered c =
    let b = c.args.self.now in
    ordered_changed b.cards.items b.lanes.items c.args.lane c.in-Some.lane.now c.begin_record.new.self recorded_entry (search rules) (search rules) c.begin_record.ensures (λ e. refl) (λ e. refl) b.ordered

pub returns-in-Some : goal.returns-in-Some
returns-in-Some c =
    let b = c.args.self.now in
    lane_changed b.cards.items b.lanes.items c.args.lane c.in-Some.lane.now c.begin_record.new.self recorded_entry (search rules) (search rules) c.begin_record.ensures
