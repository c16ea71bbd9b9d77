-- What it means that a plan is stable.
use Rattle.std.specs.Prelude.{◌≡◌, ℕ, zero, suc, ◌+◌, ◌<◌, ◌≤◌, Bool, true, false, cond, ◌⊎◌, List, map, length, Some, None, Option, ◌==◌, nat_lt}
use Rattle.std.specs.List.{range_with_len}
use Rattle.sharing.specs.Rules.{at, lanes, kept, gains, Meaning}
use Rattle.books.specs.Lanes.{has}
use Rattle.books.specs.Contents.{Contents, lane_of, ranking_of}
use Rattle.books.specs.Laid.{shed_of, first_lane}
use Rattle.boards.specs.Lines.{place, wishes_of}
use Rattle.boards.specs.Slips.{Lists, list_at}

-- the lane of each lot, or none
abbrev pub Placing : Type 0
Placing = ℕ → Option ℕ

-- is the lot on that lane?
abbrev pub on : Option ℕ → ℕ → Bool
on None l = false
on (Some k) l = k == l

-- how many of the lots below n are on a lane
abbrev pub lots_on : Placing → ℕ → ℕ → ℕ
lots_on p l zero = 0
lots_on p l (suc n) = cond (on (p n) l) 1 0 + lots_on p l n

-- how many lots a lane holds
abbrev pub holds_on : Placing → ℕ → ℕ
holds_on p l = lots_on p l 256

-- how many lots each lane of a shed holds, by its place on the card, and 0 off the card
abbrev pub filling_on : Contents → Placing → ℕ → List ℕ
filling_on c p g = map (λ k. elim (nat_lt k (lanes (shed_of c g))) [ true ↦ holds_on p (first_lane c g + k) | false ↦ 0 ]) (range_with_len 0 8)

-- how many wishes of a list stand above the lot's lane; all of them if it has none
abbrev pub above : List ℕ → Option ℕ → ℕ
above xs None = length xs
above xs (Some l) = place xs l

-- the lane ranks each lot that it holds higher than lot i; a lot that it does not rank is not ranked higher
abbrev pub RanksHigher : Contents → Placing → ℕ → ℕ → Type 0
RanksHigher c p i h = (x : ℕ) → on (p x) h ≡ true → place (ranking_of c h) x < place (ranking_of c h) i

-- the lane holds its capacity
abbrev pub LaneFull : Contents → Placing → ℕ → Type 0
LaneFull c p h = holds_on p h ≡ at (shed_of c (lane_of c h).shed).capacities (lane_of c h).place

-- the shed of lane h holds its cap
abbrev pub ShedFull : Contents → Placing → ℕ → Type 0
ShedFull c p h = kept (shed_of c (lane_of c h).shed) (filling_on c p (lane_of c h).shed) ≡ (shed_of c (lane_of c h).shed).limit

-- the shed of lane h does not gain by moving lot i there, if it has another lane of that shed
abbrev pub NoGain : Contents → Meaning → Placing → ℕ → ℕ → Type 0
NoGain c m p i h =
    (l : ℕ) → on (p i) l ≡ true → (lane_of c l).shed ≡ (lane_of c h).shed → gains m (shed_of c (lane_of c h).shed) (filling_on c p (lane_of c h).shed) (lane_of c l).place (lane_of c h).place ≡ false

-- why lot i is not on lane h: the lane does not rank it; or the lane ranks each lot that it holds higher, and it is full, or
-- its shed is full and does not gain by the move
pub record Excuse (c : Contents) (m : Meaning) (p : Placing) (i h : ℕ) : Type 0 where
  pub higher : RanksHigher c p i h
  pub no_room : LaneFull c p h ⊎ (ShedFull c p h × NoGain c m p i h)

abbrev pub Excused : Contents → Meaning → Placing → ℕ → ℕ → Type 0
Excused c m p i h = (has (ranking_of c h) i ≡ false) ⊎ Excuse c m p i h

-- a plan is stable: each placed lot's lane is on its list and ranks it, no lane holds more than its capacity and no shed more
-- than its cap, and every pair of a lot and a lane above its own on its list is excused
pub record Stable (c : Contents) (m : Meaning) (ls : Lists) (p : Placing) : Type 0 where
  pub listed : (i l : ℕ) → on (p i) l ≡ true → has (wishes_of (list_at ls i)) l ≡ true
  pub ranked : (i l : ℕ) → on (p i) l ≡ true → has (ranking_of c l) i ≡ true
  pub lanes_within : (l : ℕ) → l < length c.lanes → holds_on p l ≤ at (shed_of c (lane_of c l).shed).capacities (lane_of c l).place
  pub sheds_within : (g : ℕ) → g < length c.sheds → kept (shed_of c g) (filling_on c p g) ≤ (shed_of c g).limit
  pub excused : (i k : ℕ) → k < above (wishes_of (list_at ls i)) (p i) → Excused c m p i (at (wishes_of (list_at ls i)) k)
