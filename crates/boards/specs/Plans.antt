-- The plan of a settled round, and the laws of every plan.
use Rattle.std.specs.Prelude.{◌≡◌, ℕ, suc, ◌+◌, ◌*◌, ◌^◌, List, [], ◌∷◌, ◌++◌, length, Some, None, Option}
use Rattle.sharing.specs.Rules.{sum_to, Meaning, Lawful, Alike, NoGainAtFillings}
use Rattle.books.specs.Contents.{Contents}
use Rattle.books.specs.Laid.{Laid}
use Rattle.boards.specs.declared.line.Line.{Line}
use Rattle.boards.specs.declared.line.Line.TheVariants.{Absent, Looking, Held, Spent}
use Rattle.boards.specs.Lines.{place}
use Rattle.boards.specs.Slips.{Lists, list_at}
use Rattle.boards.specs.Boards.{Board, line_of, settle}
use Rattle.boards.specs.Calls.{Call, after, accepted}
use Rattle.boards.specs.Stable.{Placing, Stable}

-- the lane of a lot, or none
abbrev pub lane_in : Line → Option ℕ
lane_in Absent = None
lane_in (Looking n) = None
lane_in (Held l) = Some l
lane_in Spent = None

abbrev pub placing : Board → Placing
placing s i = lane_in (line_of s i)

-- a PLACED word has the lane and the lot, an UNPLACED word the lot, and a COUNT word the number of applications
abbrev pub lot_word : ℕ → Option ℕ → ℕ
lot_word i (Some l) = 7 * 2 ^ 28 + l * 2 ^ 12 + i
lot_word i None = 8 * 2 ^ 28 + i

abbrev pub count_word : ℕ → ℕ
count_word n = 9 * 2 ^ 28 + n

-- the words of the entered lots by number, where the first list is that of lot k
abbrev pub lot_words : Placing → ℕ → Lists → List ℕ
lot_words p k [] = []
lot_words p k (None ∷ os) = lot_words p (suc k) os
lot_words p k (Some xs ∷ os) = lot_word k (p k) ∷ lot_words p (suc k) os

-- the plan of a round
abbrev pub plan_words : Board → List ℕ
plan_words s = lot_words (placing s) 0 s.lists ++ count_word s.count ∷ []

-- a new round after a list of calls, settled
abbrev pub settled : Contents → Meaning → List Call → Board
settled c m ks = settle m (after c m ks)

-- its plan
abbrev pub plan_of : Contents → Meaning → List Call → List ℕ
plan_of c m ks = plan_words (settled c m ks)

-- the place of a lot's lane on its list, from 1; the list's length where it has no lane, and 0 where it has no list
abbrev pub tried_places : Option (List ℕ) → Option ℕ → ℕ
tried_places None o = 0
tried_places (Some xs) None = length xs
tried_places (Some xs) (Some l) = suc (place xs l)

-- two lists of calls that accept the same lots with the same lists have the same plan word for word, also under two rules
-- that answer every question alike
abbrev pub SamePlan : Type 0
SamePlan =
    (c : Contents) (m n : Meaning) → Laid c → Lawful m → Lawful n → Alike m n → (ks js : List Call) → accepted c ks ≡ accepted c js → plan_of c m ks ≡ plan_of c n js

-- every plan is stable, under a rule by which no shed gains by moving a lot to a lane that keeps fewer than it has places, at any
-- filling with the numbers of the choice
abbrev pub StablePlan : Type 0
StablePlan = (c : Contents) (m : Meaning) → Laid c → Lawful m → NoGainAtFillings m → (ks : List Call) → Stable c m (accepted c ks) (placing (settled c m ks))

-- the count of applications is the sum over the entered lots of the place of the lot's lane on its list, or of the list's length
abbrev pub CountIsPlaces : Type 0
CountIsPlaces = (c : Contents) (m : Meaning) → Laid c → Lawful m → (ks : List Call) → (settled c m ks).count ≡ sum_to (λ i. tried_places (list_at (accepted c ks) i) (placing (settled c m ks) i)) 256
