use Rattle.std.proofs.Common.{sym, ◌∙◌}
use Rattle.sharing.specs.Cards.{terms}
use Rattle.sharing.proofs.Picks.{deal_next}
use Rattle.sharing.proofs.line.Line.front.Goals as goal

pub loop-preserved : goal.loop-preserved
loop-preserved g c =
    let s = g.O.PlaceOrder.standing c.args.self.now.order.now in
    let t = terms c.args.self.now.card.now in
    sym (deal_next s t c.args.self.now.supply.now c.loop.kept t.limit c.loop.counter c.in-Some.place c.loop-test.true c.in-Some.ensures.place) ∙ c.loop.invariant
