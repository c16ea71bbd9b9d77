use Rattle.std.proofs.Common.{◌≡◌, ℕ, ◌+◌, ◌-◌, ◌<◌, true, List, length, set, Some, sym, ap, ◌∙◌, arith}
use Rattle.sharing.specs.Cards.{terms}
use Rattle.sharing.specs.Rules.{at}
use Rattle.sharing.specs.Within.{lanes_are}
use Rattle.books.specs.Lanes.{has}
use Rattle.books.specs.Contents.{contents, lane_of, ranking_of}
use Rattle.books.specs.Laid.{shed_of, first_lane}
use Rattle.books.proofs.Laid.{book_laid}
use Rattle.matching.proofs.Sheds.{few_on_card}
use Rattle.matching.specs.Offers.{asking}
use Rattle.rounds.specs.declared.table.Table.{Table}
use Rattle.boards.specs.Boards.{line_of, wishes, holding, filling}
use Rattle.boards.specs.Searches.{next_wish, supplied, first_of, beyond_at}
use Rattle.rounds.specs.Tables.{board}
use Rattle.rounds.specs.Claims.{claiming}
use Rattle.rounds.proofs.FormedTables.{formed}
use Rattle.boards.proofs.LeaversAsked.{wish_of, asked_known, lane_says, lane_there, card_says, card_there, filling_few, found}
use Rattle.rounds.proofs.table.Table.leaver.Given.{Over}
use Rattle.rounds.proofs.table.Table.leaver.Goals as goal
use Rattle.rounds.proofs.table.Table.leaver.Goals.{In_ok-shed, In_ok-place}

-- the lane that is asked is in the book
module _ (t : Table) (lot lane : ℕ) (asks : next_wish (line_of (board t) lot) (wishes (board t) lot) ≡ Some lane) where
  known : lane < length (contents t.book).lanes
  known = asked_known (board t) (formed t) lot lane asks

  home : (lane_of (contents t.book) lane).shed < length (contents t.book).sheds
  home = (book_laid t.book).in_shed lane known

  slot : (lane_of (contents t.book) lane).place < 8
  slot = omega (arith, (book_laid t.book).stands_on_card lane known, few_on_card (contents t.book) (book_laid t.book) (lane_of (contents t.book) lane).shed home)

-- what the code learns of the lane's shed is what the book says
module _ (g : Over) (c : In_ok-shed g) where
  shed : c.in_ok-shed.shed ≡ (lane_of (contents c.args.self.now.book) c.args.asked.lane).shed
  shed =
      let t = c.args.self.now in
      lane_says (contents t.book) c.args.asked.lane (known t c.args.asked.lot c.args.asked.lane c.requires) (λ e. e.shed) c.shed_of.result c.shed_of.ensures.answer c.in_ok-shed.shed c.in_ok-shed.was

  shed_known : c.in_ok-shed.shed < length (contents c.args.self.now.book).sheds
  shed_known = omega (arith, shed, home c.args.self.now c.args.asked.lot c.args.asked.lane c.requires)

-- and of its place on the card
module _ (g : Over) (c : In_ok-place g) where
  place : c.in_ok-place.place ≡ (lane_of (contents c.args.self.now.book) c.args.asked.lane).place
  place =
      let t = c.args.self.now in
      lane_says (contents t.book) c.args.asked.lane (known t c.args.asked.lot c.args.asked.lane c.requires) (λ e. e.place) c.place_of.result c.place_of.ensures c.in_ok-place.place c.in_ok-place.was

  on_card : c.in_ok-place.place < 8
  on_card = omega (arith, place, slot c.args.self.now c.args.asked.lot c.args.asked.lane c.requires)

pub returns-in_err-shed : goal.returns-in_err-shed
returns-in_err-shed g c =
    let t = c.args.self.now in
    absurd (lane_there (contents t.book) c.args.asked.lane (known t c.args.asked.lot c.args.asked.lane c.requires) (λ e. e.shed) c.shed_of.result c.shed_of.ensures.answer c.in_err-shed.was)

pub returns-in_err-place : goal.returns-in_err-place
returns-in_err-place g c =
    let t = c.args.self.now in
    absurd (lane_there (contents t.book) c.args.asked.lane (known t c.args.asked.lot c.args.asked.lane c.requires) (λ e. e.place) c.place_of.result c.place_of.ensures c.in_err-place.was)

pub returns-in_err-card : goal.returns-in_err-card
returns-in_err-card g c =
    let d = (goal.at.returns-in_err-card g c).In_ok-shed in
    absurd (card_there (contents c.args.self.now.book) c.in_ok-shed.shed (shed_known g d) c.card.result c.card.ensures c.in_err-card.was)

pub offset_bounds-supply-place : goal.offset_bounds-supply-place
offset_bounds-supply-place g c = omega (arith, on_card g (goal.at.offset_bounds-supply-place g c).In_ok-place)

pub bounds-supply-place : goal.bounds-supply-place
bounds-supply-place g c = on_card g (goal.at.bounds-supply-place g c).In_ok-place

pub bounds-supply-place-2 : goal.bounds-supply-place-2
bounds-supply-place-2 g c = on_card g (goal.at.bounds-supply-place-2 g c).In_ok-place

pub overflow_add-supply : goal.overflow_add-supply
overflow_add-supply g c =
    let t = c.args.self.now in
    let few = filling_few (contents t.book) t.lots.lines c.in_ok-shed.shed c.in_ok-place.place in
    let is : at c.filling-supply.result c.in_ok-place.place ≡ at (filling (contents t.book) t.lots.lines c.in_ok-shed.shed) c.in_ok-place.place = ap (λ (f : List ℕ). at f c.in_ok-place.place) c.filling-supply.ensures in
    omega (arith, t.facts.lines_fit.0)

pub overflow_sub-lane : goal.overflow_sub-lane
overflow_sub-lane g c =
    let t = c.args.self.now in
    let lane = c.args.asked.lane in
    omega (arith, place g (goal.at.overflow_sub-lane g c).In_ok-place, (book_laid t.book).in_order lane (known t c.args.asked.lot lane c.requires))

pub invariant_of-beyond_any : goal.invariant_of-beyond_any
invariant_of-beyond_any g c =
    let t = c.args.self.now in
    record {
      first_known = omega (arith, known t c.args.asked.lot c.args.asked.lane c.requires, (book_laid t.book).lanes_are_few);
      few_lanes = c.len.ensures.fits;
    }

pub returns : goal.returns
unfolding claiming
returns g c =
    let t = c.args.self.now in
    let s = board t in
    let b = contents t.book in
    let lot = c.args.asked.lot in
    let lane = c.args.asked.lane in
    let inside = known t lot lane c.requires in
    let asks = wish_of (line_of s lot) (wishes s lot) lane c.requires in
    let in_shed = (goal.at.returns g c).In_ok-shed in
    let at_shed = shed g in_shed in
    let at_place = place g (goal.at.returns g c).In_ok-place in
    let card : terms c.in_ok-card.card ≡ shed_of b (lane_of b lane).shed = card_says b c.in_ok-shed.shed (shed_known g in_shed) c.card.result c.card.ensures c.in_ok-card.card c.in_ok-card.was ∙ ap (shed_of b) at_shed in
    let ranks : has (ranking_of b lane) lot ≡ true = sym c.if-not-ranks.ensures in
    let filled : c.filling-supply.result ≡ filling b s.lines (lane_of b lane).shed = c.filling-supply.ensures ∙ ap (filling b s.lines) at_shed in
    let supply : List ℕ = set c.filling-supply.result c.in_ok-place.place (at c.filling-supply.result c.in_ok-place.place + 1) in
    let supplying : supply ≡ supplied b s.lines lane = λ i. set (filled i) (at_place i) (at (filled i) (at_place i) + 1) in
    let first : lane - c.in_ok-place.place ≡ first_lane b (lane_of b lane).shed = omega (arith, at_place, (book_laid t.book).in_order lane inside) in
    let law = g.met.R.SharingRule.lawful c.args.rule.now in
    let m = g.R.SharingRule.meaning c.args.rule.now in
    c.beyond_any.ensures ∙
    ap (first_of (beyond_at b (asking (holding s) lane lot) (lane - c.in_ok-place.place) supply c.choice-keep.result) 0) (c.len.ensures.value ∙ sym (lanes_are c.in_ok-card.card)) ∙
    found m law s (formed t) lot asks.0 asks.1 lane asks.2 ranks (lane - c.in_ok-place.place) first supply supplying (terms c.in_ok-card.card) card c.choice-keep.result c.choice-keep.ensures
