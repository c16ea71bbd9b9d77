use Rattle.std.proofs.Common.{rules}
use Rattle.books.specs.Contents.{contents}
use Rattle.sharing.specs.Cards.{terms}
use Rattle.listing.proofs.Told.{told_is}
use Rattle.listing.proofs.lane.LaneLine.of.Goals as goal

pub returns : goal.returns
returns c =
    told_is (contents c.args.book.now) c.args.shed c.args.lane (terms c.in_ok-card.card) c.in_ok-place.place c.in_ok-ranked.ranked _ _ c.target_of.ensures.value c.capacity_of.ensures.value (search rules) c.in_ok-card.ensures
    c.in_ok-place.ensures c.in_ok-ranked.ensures.answer
