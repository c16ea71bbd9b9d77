use Rattle.std.proofs.Common.{◌≡◌, ◌-◌, ◌<◌, [], ◌∷◌, ◌++◌, length, set, Some, sym, ap, ◌∙◌, subst, rules}
use Rattle.std.proofs.lemmas.List.{length-map}
use Rattle.std.specs.Option.{option_map}
use Rattle.sharing.specs.Cards.{terms}
use Rattle.sharing.specs.Within.{lanes_are}
use Rattle.sharing.proofs.Lanes.{lane_taken}
use Rattle.books.specs.Entries.{blank_entry, contents_of, with_lane}
use Rattle.books.specs.Contents.{contents}
use Rattle.books.specs.Laid.{LanesOrdered}
use Rattle.books.proofs.Edits.{pushed_on_ok, lane_pushed}
use Rattle.books.proofs.Standing.{ordered_lane}
use Rattle.books.proofs.book.Book.add_lane.Goals as goal
use Rattle.books.proofs.book.Book.add_lane.Goals.{After-push}

-- what is shown once the lane is pushed
wider_book : (c : After-push) → contents_of (set c.args.self.now.cards.items (length c.args.self.now.cards.items - 1) c.in_ok-card.field-0) c.push.new.self.items ≡ with_lane (contents c.args.self.now) c.args.target c.args.capacity
wider_book c =
    let b = c.args.self.now in
    let cards = b.cards.items in
    let card = c.unwrap-card.result.now in
    let wider = c.in_ok-card.field-0 in
    let t = c.args.target in
    let q = c.args.capacity in
    let some : c.with_lane.result ≡ Some wider = search rules in
    let taken = lane_taken (terms card) (terms wider) t q (sym c.with_lane.ensures ∙ ap (option_map terms) some) in
    let room : length b.lanes.items < 32 = simp length-map at c.requires.lanes in
    let pushed : c.push.new.self.items ≡ b.lanes.items ++ c.new.result ∷ [] = pushed_on_ok c.push.result (c.push.ensures.room.1 room) c.push.ensures.ok in
    let place = c.new.ensures ∙ (λ i. blank_entry (ap (λ n. n - 1) c.len-shed.ensures.value i) ((c.len-place.ensures.value ∙ sym (lanes_are card)) i)) in
    ap (contents_of (set cards (length cards - 1) wider)) pushed ∙ lane_pushed cards b.lanes.items card wider c.new.result t q (search rules) (search rules) taken.1 place

pub invariant_of-self-2-clause-ordered : goal.invariant_of-self-2-clause-ordered
invariant_of-self-2-clause-ordered c =
    let b = c.args.self.now in
    subst LanesOrdered (sym (wider_book (goal.at.invariant_of-self-2-clause-ordered c).After-push)) (ordered_lane (contents b) c.args.target c.args.capacity c.requires.shed b.ordered)

pub returns-clause-book : goal.returns-clause-book
returns-clause-book c = wider_book (goal.at.returns-clause-book c).After-push
