-- How large the numbers on a card and their sums are.
use Rattle.std.specs.Prelude.{◌≡◌, ℕ, zero, suc, ◌*◌, ◌≤◌, List, [], ◌∷◌, length, map, slice_get, sum, refl}
use Rattle.std.specs.List.{sum_by}
use Rattle.std.specs.Option.{option_map_or}
use Rattle.std.proofs.Common.{arith}
use Rattle.std.proofs.lemmas.List.{length-map, get_or_past}
use Rattle.std.proofs.lemmas.List.Sums.{sum-map, sum_by-cons}
use Rattle.sharing.specs.declared.card.Card.{Card}
use Rattle.sharing.specs.declared.card.CardLane.{CardLane}
use Rattle.sharing.specs.Cards.{terms}
use Rattle.sharing.specs.Rules.{at, lanes}

pub targets_within : (card : Card) → sum (terms card).targets ≤ card.«cap»
targets_within card = omega (arith, sum-map (λ (lane : CardLane). lane.target) card.lanes.items, card.targets_fit)

sum_small : (cards : List CardLane) → sum_by (λ (lane : CardLane). lane.capacity) cards ≤ 4095 * length cards
sum_small [] = omega arith
sum_small (x ∷ xs) = omega (arith, sum_by-cons (λ (lane : CardLane). lane.capacity) x xs, x.small, sum_small xs)

pub capacities_within : (card : Card) → sum (terms card).capacities ≤ 8 * 4095
capacities_within card = omega (arith, sum-map (λ (lane : CardLane). lane.capacity) card.lanes.items, sum_small card.lanes.items, card.few_lanes)

-- what the terms on a card say of it
pub lanes_are : (card : Card) → lanes (terms card) ≡ length card.lanes.items
lanes_are card = length-map card.lanes.items (λ (lane : CardLane). lane.capacity)

pub lanes_are_few : (card : Card) → lanes (terms card) ≤ 8
lanes_are_few card = omega (arith, lanes_are card, card.few_lanes)

-- off the card there is no capacity
pub off_card : (card : Card) (l : ℕ) → length card.lanes.items ≤ l → at (terms card).capacities l ≡ 0
off_card card l off = get_or_past (terms card).capacities l 0 (omega (arith, lanes_are card, off))

at_lane : (number : CardLane → ℕ) (cards : List CardLane) (l : ℕ) → at (map number cards) l ≡ option_map_or number (slice_get cards l) 0
at_lane number [] l = refl
at_lane number (x ∷ xs) zero = refl
at_lane number (x ∷ xs) (suc l) = at_lane number xs l

-- a lane's capacity is that of the lane at its place of the row, and 0 where there is none
pub capacity_is : (card : Card) (l : ℕ) → at (terms card).capacities l ≡ option_map_or (λ (lane : CardLane). lane.capacity) (slice_get card.lanes.items l) 0
capacity_is card l = at_lane (λ (lane : CardLane). lane.capacity) card.lanes.items l

-- off the card there is no target
pub target_off : (card : Card) (l : ℕ) → length card.lanes.items ≤ l → at (terms card).targets l ≡ 0
target_off card l off = get_or_past (terms card).targets l 0 (omega (arith, length-map card.lanes.items (λ (lane : CardLane). lane.target), off))

-- a lane's target is that of the lane at its place of the row, and 0 where there is none
pub target_is : (card : Card) (l : ℕ) → at (terms card).targets l ≡ option_map_or (λ (lane : CardLane). lane.target) (slice_get card.lanes.items l) 0
target_is card l = at_lane (λ (lane : CardLane). lane.target) card.lanes.items l

at_small : (cards : List CardLane) (l : ℕ) → at (map (λ (lane : CardLane). lane.capacity) cards) l ≤ 4095
at_small [] l = omega arith
at_small (x ∷ xs) zero = x.small
at_small (x ∷ xs) (suc l) = at_small xs l

pub capacity_is_small : (card : Card) (l : ℕ) → at (terms card).capacities l ≤ 4095
capacity_is_small card l = at_small card.lanes.items l
