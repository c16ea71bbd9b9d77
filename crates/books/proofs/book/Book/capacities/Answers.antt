use Rattle.std.proofs.Common.{◌≡◌, ℕ, ◌^◌, ◌≤◌, length, sum, arith, rules}
use Rattle.std.proofs.lemmas.Iterator.Adapters.{fits_from_length, at_most_from_yields_List}
use Rattle.std.proofs.lemmas.Iterator.{YieldsList-from_slice}
use Rattle.sharing.specs.declared.card.Card.{Card}
use Rattle.sharing.specs.Cards.{terms}
use Rattle.sharing.specs.Within.{capacities_within}
use Rattle.books.proofs.book.Book.capacities.Goals as goal

few_capacities : (card : Card) (n : ℕ) → n ≡ sum (terms card).capacities → n ≤ 536870911
few_capacities card n e = omega (arith, capacities_within card)

pub sum-requires-clause-fits : goal.sum-requires-clause-fits
sum-requires-clause-fits c =
    let few : length c.deref.result.now ≤ 8 = search rules in
    fits_from_length _ _ 8 (2 ^ 32) (at_most_from_yields_List (YieldsList-from_slice c.deref.result.now cc) few) c.map.ensures.closure (omega arith) (λ x r q k. search (rules, few_capacities))
