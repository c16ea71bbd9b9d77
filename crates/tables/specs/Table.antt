-- The faults of a word behind the cap as a table, in the order of their numbers.
use Rattle.std.specs.Prelude.{◌≡◌, ℕ, ◌+◌, Bool, true, false, not, ◌&&◌, List, [], ◌∷◌, map, is_some, Some, None, Ok, Err, sum, Option, Result, nat_le, nat_lt}
use Rattle.sharing.specs.Rules.{lanes}
use Rattle.tables.specs.declared.complaint.Complaint.{Complaint}
use Rattle.tables.specs.declared.complaint.Complaint.TheVariants.{WordBehindMove, WrongMove, NinthLane, WrongLane, CapacityTooLarge, TargetAboveCapacity, TargetsAboveCap}
use Rattle.tables.specs.declared.question.LaneWord.{LaneWord}
use Rattle.tables.specs.Complaints.{standing}
use Rattle.tables.specs.Cuts.{slash, arrow, has, pieces}
use Rattle.tables.specs.Questions.{Asked, move_of, lane_of, with_word}

-- does the word name a lane whose numbers pass a test?
abbrev pub lane_with : List ℕ → (LaneWord → Bool) → Bool
lane_with w test = not (has arrow w) && elim (lane_of (pieces slash w)) [ None ↦ false | Some l ↦ test l ]

-- each fault, and whether the word has it
abbrev pub table : Asked → List ℕ → List (Complaint × Bool)
table a w =
    (WordBehindMove, is_some a.moved) ∷
    (WrongMove, has arrow w && not (is_some (move_of (pieces arrow w)))) ∷
    (NinthLane, not (has arrow w) && nat_le 8 (lanes a.terms)) ∷
    (WrongLane (lanes a.terms), not (has arrow w) && not (is_some (lane_of (pieces slash w)))) ∷
    (CapacityTooLarge (lanes a.terms), lane_with w (λ l. nat_lt 4095 l.capacity)) ∷
    (TargetAboveCapacity (lanes a.terms), lane_with w (λ l. nat_lt l.capacity l.target)) ∷
    (TargetsAboveCap (lanes a.terms), lane_with w (λ l. nat_lt a.terms.limit (sum a.terms.targets + l.target))) ∷ []

-- the first that the word has
abbrev pub first_of : List (Complaint × Bool) → Option Complaint
first_of [] = None
first_of (f ∷ fs) = elim f.1 [ true ↦ Some f.0 | false ↦ first_of fs ]

abbrev pub complaint_of : Result Asked Complaint → Option Complaint
complaint_of (Ok a) = None
complaint_of (Err e) = Some e

-- the table has the numbers 3 to 9 in order; of the faults of a word the first in it is told, and a word without any is
-- taken
abbrev pub FirstInTable : Type 0
FirstInTable = (a : Asked) (w : List ℕ) → (map (λ f. (standing f.0).0) (table a w) ≡ 3 ∷ 4 ∷ 5 ∷ 6 ∷ 7 ∷ 8 ∷ 9 ∷ []) × (complaint_of (with_word a w) ≡ first_of (table a w))
