-- What a sharing rule is: its answers to two questions, and the laws that they keep.
use Rattle.std.specs.Prelude.{◌≡◌, ℕ, zero, suc, ◌+◌, ◌<◌, ◌≤◌, min, Bool, false, not, ◌&&◌, ◌||◌, List, length, take, ◌==◌, nat_le, slice_index}
use Rattle.sharing.specs.declared.card.Card.{Card}
use Rattle.sharing.specs.Cards.{Terms, terms}

-- a lane's number in a supply, a filling or an answer
abbrev pub at : List ℕ → ℕ → ℕ
at xs l = slice_index xs l

-- how many lanes are on the card
abbrev pub lanes : Terms → ℕ
lanes t = length t.capacities

-- the numbers of the lanes on the card
abbrev pub on_card : Terms → List ℕ → List ℕ
on_card t xs = take (lanes t) xs

-- the answers of a rule, by the terms on the card: how many lots each lane keeps of a supply, and whether a shed with a
-- filling gains by moving one lot from a lane to another
pub record Meaning : Type 0 where
  pub choice : Terms → List ℕ → List ℕ
  pub gain : Terms → List ℕ → ℕ → ℕ → Bool

-- a move that no shed gains by: from a lane to itself, from or to a lane that is not on the card, from a lane that holds
-- none, to a lane that is not below its capacity
abbrev pub no_move : Terms → List ℕ → ℕ → ℕ → Bool
no_move t w a b = a == b || nat_le (lanes t) a || nat_le (lanes t) b || at w a == 0 || nat_le (at t.capacities b) (at w b)

abbrev pub gains : Meaning → Terms → List ℕ → ℕ → ℕ → Bool
gains m t w a b = not (no_move t w a b) && m.gain t w a b

-- a lane's places: the smaller of its supply and its capacity
abbrev pub places : Terms → List ℕ → ℕ → ℕ
places t x l = min (at x l) (at t.capacities l)

-- a sum over the first n lanes
abbrev pub sum_to : (ℕ → ℕ) → ℕ → ℕ
sum_to f zero = 0
sum_to f (suc n) = f n + sum_to f n

-- how many lots the shed keeps, over the lanes of the card
abbrev pub kept : Terms → List ℕ → ℕ
kept t k = sum_to (at k) (lanes t)

-- a supply or a filling as it is asked about: eight numbers of 16 bits
abbrev pub Row : List ℕ → Type 0
Row x = (length x ≡ 8) × ((l : ℕ) → at x l < 65536)

-- a supply of at most 256 a lane
abbrev pub Small : Terms → List ℕ → Type 0
Small t x = Row x × ((l : ℕ) → l < lanes t → at x l ≤ 256)

-- the laws of a rule, for each card; that an answer depends on the rule and the question alone stands in the contracts
-- of the two questions
pub record Lawful (m : Meaning) : Type 0 where
  -- no lane keeps more than its supply or its capacity, and the shed keeps at most its cap
  pub within : (c : Card) (x : List ℕ) → Small (terms c) x → ((l : ℕ) → l < lanes (terms c) → at (m.choice (terms c) x) l ≤ places (terms c) x l) × (kept (terms c) (m.choice (terms c) x) ≤ (terms c).limit)
  -- if a lane keeps fewer than it has places, the shed keeps exactly its cap
  pub unwasted : (c : Card) (x : List ℕ) → Small (terms c) x → (l : ℕ) → l < lanes (terms c) → at (m.choice (terms c) x) l < places (terms c) x l → kept (terms c) (m.choice (terms c) x) ≡ (terms c).limit
  -- if no lane's supply is larger in the first supply than in the second, each lane keeps, at the first, at least the
  -- smaller of its first supply and what it keeps at the second
  pub substitutes : (c : Card) (x y : List ℕ) → Small (terms c) x → Small (terms c) y → ((l : ℕ) → l < lanes (terms c) → at x l ≤ at y l) → (l : ℕ) → l < lanes (terms c) → min (at x l) (at (m.choice (terms c) y) l) ≤ at (m.choice (terms c) x) l
  -- if lane b keeps fewer than it has places, the shed does not gain at that choice by moving one lot to it
  pub no_gain : (c : Card) (x : List ℕ) → Small (terms c) x → (a b : ℕ) → b < lanes (terms c) → at (m.choice (terms c) x) b < places (terms c) x b → gains m (terms c) (m.choice (terms c) x) a b ≡ false

-- no gain, at every filling that has the numbers of the choice on the card: if lane b keeps fewer than it has places, which are
-- the smaller of its supply and its capacity, the shed does not gain by moving one lot to it
abbrev pub NoGainAtFillings : Meaning → Type 0
NoGainAtFillings m = (c : Card) (x w : List ℕ) → Small (terms c) x → Row w → ((l : ℕ) → l < lanes (terms c) → at w l ≡ at (m.choice (terms c) x) l) → (a b : ℕ) → b < lanes (terms c) → at (m.choice (terms c) x) b < places (terms c) x b → gains m (terms c) w a b ≡ false

-- two meanings that answer every question alike
pub record Alike (m n : Meaning) : Type 0 where
  pub choice : (c : Card) (x : List ℕ) → Row x → on_card (terms c) (m.choice (terms c) x) ≡ on_card (terms c) (n.choice (terms c) x)
  pub gain : (c : Card) (w : List ℕ) → Row w → (a b : ℕ) → gains m (terms c) w a b ≡ gains n (terms c) w a b
