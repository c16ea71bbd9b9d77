-- The faults of a word are told in the order of the table.
use Rattle.std.proofs.Common.{◌≡◌, ℕ, ◌+◌, Bool, true, false, not, ◌&&◌, ltb, leb, List, [], ◌∷◌, is_some, Some, None, Ok, Err, sum, Option, Result, refl}
use Rattle.sharing.specs.Rules.{lanes}
use Rattle.tables.specs.declared.complaint.Complaint.{Complaint}
use Rattle.tables.specs.declared.complaint.Complaint.TheVariants.{WordBehindMove, WrongMove, NinthLane, WrongLane, CapacityTooLarge, TargetAboveCapacity, TargetsAboveCap}
use Rattle.tables.specs.declared.question.LaneWord.{LaneWord}
use Rattle.tables.specs.declared.question.Move.{Move}
use Rattle.tables.specs.Cuts.{slash, arrow, has, pieces}
use Rattle.tables.specs.Questions.{Asked, move_of, lane_of, more_lanes, with_word}
use Rattle.tables.specs.Table.{table, first_of, complaint_of}

-- the three tests on a lane's numbers
abbrev fault_of : ℕ → Bool → Bool → Bool → Option Complaint
fault_of k large above over = elim large [ true ↦ Some (CapacityTooLarge k) | false ↦ elim above [ true ↦ Some (TargetAboveCapacity k) | false ↦ elim over [ true ↦ Some (TargetsAboveCap k) | false ↦ None ] ] ]

abbrev unless : Option Complaint → Asked → Result Asked Complaint
unless o b = elim o [ Some e ↦ Err e | None ↦ Ok b ]

lane_told : (k : ℕ) (b : Asked) (large above over : Bool) → complaint_of (unless (fault_of k large above over) b) ≡ first_of ((CapacityTooLarge k, large) ∷ (TargetAboveCapacity k, above) ∷ (TargetsAboveCap k, over) ∷ [])
lane_told k b true above over = refl
lane_told k b false true over = refl
lane_told k b false false true = refl
lane_told k b false false false = refl

-- by what the tests on the word answer: a move before it, a `>` in it, the move, a full card, the lane and its three
-- tests
module _ (a : Asked) (large above over : LaneWord → Bool) where
  abbrev taken : Option Move → Bool → Option Move → Bool → Option LaneWord → Result Asked Complaint
  taken before arrow m full l =
      elim before [
        | Some x ↦ Err WordBehindMove
        | None ↦ elim arrow [
          | true ↦ elim m [ None ↦ Err WrongMove | Some y ↦ Ok (record { terms = a.terms; numbers = a.numbers; moved = Some y }) ]
          | false ↦ elim full [
            | true ↦ Err NinthLane
            | false ↦ elim l [ None ↦ Err (WrongLane (lanes a.terms)) | Some z ↦ unless (fault_of (lanes a.terms) (large z) (above z) (over z)) (more_lanes a z) ]
          ]
        ]
      ]

  abbrev passes : Bool → Option LaneWord → (LaneWord → Bool) → Bool
  passes arrow l test = not arrow && elim l [ None ↦ false | Some z ↦ test z ]

  abbrev rows : Option Move → Bool → Option Move → Bool → Option LaneWord → List (Complaint × Bool)
  rows before arrow m full l =
      (WordBehindMove, is_some before) ∷
      (WrongMove, arrow && not (is_some m)) ∷
      (NinthLane, not arrow && full) ∷
      (WrongLane (lanes a.terms), not arrow && not (is_some l)) ∷
      (CapacityTooLarge (lanes a.terms), passes arrow l large) ∷
      (TargetAboveCapacity (lanes a.terms), passes arrow l above) ∷
      (TargetsAboveCap (lanes a.terms), passes arrow l over) ∷ []

  pub told_first : (before : Option Move) (arrow : Bool) (m : Option Move) (full : Bool) (l : Option LaneWord) → complaint_of (taken before arrow m full l) ≡ first_of (rows before arrow m full l)
  told_first (Some x) arrow m full l = refl
  told_first None true None full l = refl
  told_first None true (Some y) full l = refl
  told_first None false m true l = refl
  told_first None false m false None = refl
  told_first None false m false (Some z) = lane_told (lanes a.terms) (more_lanes a z) (large z) (above z) (over z)

pub first_in_table : (a : Asked) (w : List ℕ) → complaint_of (with_word a w) ≡ first_of (table a w)
first_in_table a w =
    told_first a (λ l. ltb 4095 l.capacity) (λ l. ltb l.capacity l.target) (λ l. ltb a.terms.limit (sum a.terms.targets + l.target)) a.moved (has arrow w) (move_of (pieces arrow w)) (leb 8 (lanes a.terms)) (lane_of (pieces slash w))
