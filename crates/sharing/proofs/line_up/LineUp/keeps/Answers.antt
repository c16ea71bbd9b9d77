use Rattle.std.proofs.Common.{◌≡◌, length, replicate, sym, ap, ◌∙◌, subst, arith, rules}
use Rattle.sharing.specs.Cards.{terms}
use Rattle.sharing.specs.LineUp.{Front, deal}
use Rattle.sharing.specs.Rules.{on_card}
use Rattle.sharing.specs.Fronts.{same_on_card, dealt_line_up, dealt_front}
use Rattle.sharing.specs.Within.{lanes_are_few}
use Rattle.sharing.proofs.line_up.LineUp.keeps.Goals as goal

pub returns : goal.returns
returns g c =
    let card = terms c.args.card.now in
    let x = c.args.supply.now in
    let s = g.O.PlaceOrder.standing c.args.self.now.order in
    let o = g.met.O.PlaceOrder.ordered c.args.self.now.order in
    let few = lanes_are_few c.args.card.now in
    let is = c.front.ensures in
    let eight : length (deal s card x card.limit (replicate 8 0)) ≡ 8 = sym (ap length is) ∙ (search rules) in
    record {
      line_up = ap (on_card card) is ∙ same_on_card s card x (deal s card x card.limit (replicate 8 0)) (omega (arith, eight, few)) (dealt_line_up s o card x few);
      front = subst (Front s card x) (sym is) (dealt_front s o card x few);
    }
