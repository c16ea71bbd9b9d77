use Rattle.std.proofs.Common.{◌≡◌, ap, ◌∙◌, arith, rules}
use Rattle.std.specs.Option.{option_map}
use Rattle.std.proofs.lemmas.Iterator.{YieldsList-from_range}
use Rattle.std.proofs.lemmas.Iterator.Consumers.{YieldsList-from_filter_map}
use Rattle.sharing.specs.Cards.{terms}
use Rattle.sharing.specs.Line.{place_after, open_place, earlier}
use Rattle.sharing.specs.LineUp.{pick}
use Rattle.sharing.specs.Rules.{lanes}
use Rattle.sharing.specs.Within.{lanes_are, lanes_are_few, capacity_is_small}
use Rattle.sharing.proofs.Picks.{reduced, reduce_picks, next_room}
use Rattle.sharing.proofs.line.Line.next_place.Goals as goal

pub returns : goal.returns
returns g c =
    let line = c.args.self.now in
    let card = line.card.now in
    let s = g.O.PlaceOrder.standing line.order.now in
    let t = terms card in
    let x = line.supply.now in
    let k = c.args.kept.now in
    let n = c.len.result in
    let chain = reduced _ (earlier s t) c.reduce.result c.reduce.ensures.ran
    (YieldsList-from_filter_map _ (open_place t x k) (YieldsList-from_range 0 n n c.filter_map.ensures.source (omega arith)) c.filter_map.ensures.closure (λ lane r q h. search rules))
    (λ one other r q h. search rules)
    in
    let place : c.reduce.result ≡ option_map (place_after k) (pick s t x k (lanes t)) =
    chain ∙ reduce_picks s t x k n ∙ ap (λ m. option_map (place_after k) (pick s t x k m)) (omega (arith, lanes_are card, c.len.ensures.value))
    in
    record { place = place; room = next_room s t x k (g.met.O.PlaceOrder.ordered line.order.now) (lanes_are_few card) (capacity_is_small card) c.reduce.result place }
