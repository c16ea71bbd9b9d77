-- What a card says.
use Rattle.std.specs.Prelude.{ℕ, ◌+◌, Bool, true, false, ◌||◌, List, [], ◌∷◌, ◌++◌, length, map, Some, None, sum, Option, nat_le, nat_lt}
use Rattle.sharing.specs.declared.card.Card.{Card}
use Rattle.sharing.specs.declared.card.CardLane.{CardLane}

-- the terms on which a shed's lanes share its store: the shed's number, its cap, and each lane's capacity and target
pub record Terms : Type 0 where
  pub shed : ℕ
  pub limit : ℕ
  pub capacities : List ℕ
  pub targets : List ℕ

-- the terms on a card
abbrev pub terms : Card → Terms
terms c = record {
  shed = c.shed;
  limit = c.«cap»;
  capacities = map (λ (lane : CardLane). lane.capacity) c.lanes.items;
  targets = map (λ (lane : CardLane). lane.target) c.lanes.items;
}

-- a shed without lanes
abbrev pub empty_terms : ℕ → ℕ → Option Terms
empty_terms shed limit = elim (nat_lt 7 shed || nat_lt 4095 limit) [ true ↦ None | false ↦ Some (record { shed = shed; limit = limit; capacities = []; targets = [] }) ]

-- is a target above its capacity, or are the targets with it above the cap?
abbrev pub overtargeted : Terms → ℕ → ℕ → Bool
overtargeted t target capacity = nat_lt capacity target || nat_lt t.limit (sum t.targets + target)

-- may a lane not stand on the card: has it eight, is the capacity above 4,095, or is the target too large?
abbrev pub unfit : Terms → ℕ → ℕ → Bool
unfit t target capacity = nat_le 8 (length t.capacities) || nat_lt 4095 capacity || overtargeted t target capacity

-- one lane more
abbrev pub more_terms : Terms → ℕ → ℕ → Terms
more_terms t target capacity = record { shed = t.shed; limit = t.limit; capacities = t.capacities ++ capacity ∷ []; targets = t.targets ++ target ∷ [] }

-- one lane more, where it may stand on the card
abbrev pub with_lane : Terms → ℕ → ℕ → Option Terms
with_lane t target capacity = elim (unfit t target capacity) [ true ↦ None | false ↦ Some (more_terms t target capacity) ]
