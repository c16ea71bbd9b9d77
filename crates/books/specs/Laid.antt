-- How the lanes of a book are laid out.
use Rattle.std.specs.Prelude.{◌≡◌, ℕ, ◌+◌, ◌<◌, ◌≤◌, true, length, slice_index_or}
use Rattle.sharing.specs.declared.card.Card.{Card}
use Rattle.sharing.specs.Cards.{Terms, terms}
use Rattle.sharing.specs.Rules.{lanes, sum_to}
use Rattle.books.specs.Lanes.{Entry, distinct, all_below}
use Rattle.books.specs.Entries.{Contents, lane_of, no_shed, ranking_of}

-- the terms of a shed
abbrev pub shed_of : Contents → ℕ → Terms
shed_of c g = slice_index_or c.sheds g no_shed

-- the number of a shed's first lane: the lanes of the sheds before it
abbrev pub first_lane : Contents → ℕ → ℕ
first_lane c g = sum_to (λ k. lanes (shed_of c k)) g

-- an entry stands at a lane's number: its shed is in the book, its place is on the shed's card, and the number counts the
-- lanes of the sheds before it and those before it on the card
abbrev pub Stands : Contents → Entry → ℕ → Type 0
Stands c e l = (e.shed < length c.sheds) × (e.place < lanes (shed_of c e.shed)) × (first_lane c e.shed + e.place ≡ l)

-- each lane stands at its number, and no place on a card is without its lane: what the type of a book carries of what is laid
-- out below
pub record LanesOrdered (c : Contents) : Type 0 where
  pub lanes_stand : (l : ℕ) → l < length c.lanes → Stands c (lane_of c l) l
  pub all_lanes : first_lane c (length c.sheds) ≡ length c.lanes

-- What every book says is laid out so: at most 8 sheds, each with the terms of a card, and at most 32 lanes. The lanes are
-- numbered shed by shed, and in a shed by their place on its card; no place on a card is without its lane. A ranking names
-- lots below 256, each once.
pub record Laid (c : Contents) : Type 0 where
  pub sheds_are_few : length c.sheds ≤ 8
  pub lanes_are_few : length c.lanes ≤ 32
  -- each shed's terms are those of a card
  pub carded : (g : ℕ) → g < length c.sheds → (d : Card) × (terms d ≡ shed_of c g)
  -- a lane's shed is in the book, and its place is on the shed's card
  pub in_shed : (l : ℕ) → l < length c.lanes → (lane_of c l).shed < length c.sheds
  pub stands_on_card : (l : ℕ) → l < length c.lanes → (lane_of c l).place < lanes (shed_of c (lane_of c l).shed)
  -- a lane's number counts the lanes of the sheds before it and those before it on the card
  pub in_order : (l : ℕ) → l < length c.lanes → first_lane c (lane_of c l).shed + (lane_of c l).place ≡ l
  -- every place on a card has its lane
  pub all_lanes : first_lane c (length c.sheds) ≡ length c.lanes
  pub once : (l : ℕ) → distinct (ranking_of c l) ≡ true
  pub lots : (l : ℕ) → all_below 256 (ranking_of c l) ≡ true
