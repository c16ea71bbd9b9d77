use Rattle.std.proofs.Common.{◌≡◌, ◌-◌, replicate}
use Rattle.sharing.specs.Cards.{terms}
use Rattle.sharing.specs.LineUp.{deal}
use Rattle.sharing.proofs.line.Line.front.Given as goal

abbrev pub invariant-loop : goal.invariant-loop
invariant-loop g l =
    let s = g.O.PlaceOrder.standing l.self.order.now in
    let c = terms l.self.card.now in
    let x = l.self.supply.now in
    deal s c x (c.limit - l.counter) l.kept ≡ deal s c x c.limit (replicate 8 0)
