-- Offers, and what the lanes choose of them.
use Rattle.std.specs.Prelude.{ℕ, zero, suc, ◌+◌, Bool, true, false, ◌&&◌, ◌||◌, List, [], ◌∷◌, map, ◌==◌, nat_lt}
use Rattle.std.specs.List.{range_with_len}
use Rattle.sharing.specs.Rules.{at, lanes, Meaning}
use Rattle.books.specs.Contents.{Contents, lane_of, ranking_of}
use Rattle.books.specs.Laid.{shed_of, first_lane}

-- is a lot on offer at a lane? The lane comes first
abbrev pub Offers : Type 0
Offers = ℕ → ℕ → Bool

-- the offers with one more: lot i at lane h
abbrev pub asking : Offers → ℕ → ℕ → Offers
asking O h i l x = (l == h && x == i) || O l x

-- is lot i among the best n lots on offer, along a ranking?
abbrev pub best : ℕ → (ℕ → Bool) → List ℕ → ℕ → Bool
best zero O R i = false
best (suc n) O [] i = false
best (suc n) O (r ∷ R) i = elim (O r) [ true ↦ elim (r == i) [ true ↦ true | false ↦ best n O R i ] | false ↦ best (suc n) O R i ]

-- how many lots of a ranking are on offer
abbrev pub offered : (ℕ → Bool) → List ℕ → ℕ
offered O [] = 0
offered O (r ∷ R) = elim (O r) [ true ↦ suc (offered O R) | false ↦ offered O R ]

-- the supply of each lane of a shed by its place on the card, and 0 off the card
abbrev pub supply_of : Contents → Offers → ℕ → List ℕ
supply_of c O g =
    map (λ m. elim (nat_lt m (lanes (shed_of c g))) [ true ↦ offered (O (first_lane c g + m)) (ranking_of c (first_lane c g + m)) | false ↦ 0 ]) (range_with_len 0 8)

-- is lot i chosen at lane l? The rule is asked about the lane's shed, and the lane keeps the best lots on offer, as many
-- as the rule says
abbrev pub chosen : Contents → Meaning → Offers → Offers
chosen c m O l i = best (at (m.choice (shed_of c (lane_of c l).shed) (supply_of c O (lane_of c l).shed)) (lane_of c l).place) (O l) (ranking_of c l) i

-- what the lanes hold after lot i has asked at lane h, which ranks it: in that lane's shed those who are chosen of the held
-- lots and the applicant, in other sheds those who were held
abbrev pub cleared : Contents → Meaning → Offers → ℕ → ℕ → Offers
cleared c m H h i l x = elim ((lane_of c l).shed == (lane_of c h).shed) [ true ↦ chosen c m (asking H h i) l x | false ↦ H l x ]
