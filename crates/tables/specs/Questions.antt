-- What a line asks, and the first fault of a line that is no question.
use Rattle.std.specs.Prelude.{ℕ, ◌+◌, true, false, List, [], ◌∷◌, replicate, Some, None, Ok, Err, sum, Option, Result, nat_le, nat_lt, slice_set}
use Rattle.sharing.specs.Cards.{Terms, terms, more_terms}
use Rattle.sharing.specs.Rules.{lanes}
use Rattle.tables.specs.declared.complaint.Complaint.{Complaint}
use Rattle.tables.specs.declared.complaint.Complaint.TheVariants.{NoCap, WrongCap, WordBehindMove, WrongMove, NinthLane, WrongLane, CapacityTooLarge, TargetAboveCapacity, TargetsAboveCap}
use Rattle.tables.specs.declared.question.LaneWord.{LaneWord}
use Rattle.tables.specs.declared.question.Move.{Move}
use Rattle.tables.specs.declared.question.Question.{Question}
use Rattle.tables.specs.Cuts.{slash, arrow, has, pieces, words}
use Rattle.tables.specs.Numbers.{number}

-- what is asked: the terms on the card, a number for each lane, and a move or none
pub record Asked : Type 0 where
  pub terms : Terms
  pub numbers : List ℕ
  pub moved : Option Move

-- what a question asks
abbrev pub asks : Question → Asked
asks q = record { terms = terms q.card; numbers = q.numbers; moved = q.moved }

abbrev pub asked : Result Question Complaint → Result Asked Complaint
asked (Ok q) = Ok (asks q)
asked (Err e) = Err e

-- the first word is the cap, a number up to 4,095
abbrev pub capped : Option ℕ → Result Asked Complaint
capped None = Err WrongCap
capped (Some n) = elim (nat_lt 4095 n) [ true ↦ Err WrongCap | false ↦ Ok (record { terms = record { shed = 0; limit = n; capacities = []; targets = [] }; numbers = replicate 8 0; moved = None }) ]

-- a move is two numbers with one `>` between them
abbrev pub move_of : List (List ℕ) → Option Move
move_of [] = None
move_of (a ∷ []) = None
move_of (a ∷ b ∷ []) = elim (number a) [ None ↦ None | Some from ↦ elim (number b) [ None ↦ None | Some to ↦ Some (record { from = from; to = to }) ] ]
move_of (a ∷ b ∷ p ∷ ps) = None

abbrev pub with_move : Asked → List ℕ → Result Asked Complaint
with_move a w = elim (move_of (pieces arrow w)) [ None ↦ Err WrongMove | Some m ↦ Ok (record { terms = a.terms; numbers = a.numbers; moved = Some m }) ]

-- a lane is three numbers with two `/` between them
abbrev pub lane_of : List (List ℕ) → Option LaneWord
lane_of [] = None
lane_of (q ∷ []) = None
lane_of (q ∷ t ∷ []) = None
lane_of (q ∷ t ∷ n ∷ []) = elim (number q) [ None ↦ None | Some capacity ↦ elim (number t) [ None ↦ None | Some target ↦ elim (number n) [ None ↦ None | Some load ↦ Some (record { capacity = capacity; target = target; number = load }) ] ] ]
lane_of (q ∷ t ∷ n ∷ p ∷ ps) = None

-- the first fault of a lane behind those on the card, or none: its capacity is above 4,095, its target is above its
-- capacity, or the targets so far sum to more than the cap
abbrev pub lane_fault : Terms → LaneWord → Option Complaint
lane_fault t l =
    elim (nat_lt 4095 l.capacity) [
      | true ↦ Some (CapacityTooLarge (lanes t))
      | false ↦ elim (nat_lt l.capacity l.target) [
        | true ↦ Some (TargetAboveCapacity (lanes t))
        | false ↦ elim (nat_lt t.limit (sum t.targets + l.target)) [ true ↦ Some (TargetsAboveCap (lanes t)) | false ↦ None ]
      ]
    ]

-- one lane more on the card
abbrev pub more_lanes : Asked → LaneWord → Asked
more_lanes a l = record { terms = more_terms a.terms l.target l.capacity; numbers = slice_set a.numbers (lanes a.terms) l.number; moved = a.moved }

abbrev pub fitted : Asked → LaneWord → Result Asked Complaint
fitted a l = elim (lane_fault a.terms l) [ Some e ↦ Err e | None ↦ Ok (more_lanes a l) ]

abbrev pub with_lane : Asked → List ℕ → Result Asked Complaint
with_lane a w =
    elim (nat_le 8 (lanes a.terms)) [
      | true ↦ Err NinthLane
      | false ↦ elim (lane_of (pieces slash w)) [ None ↦ Err (WrongLane (lanes a.terms)) | Some l ↦ fitted a l ]
    ]

-- one word more behind the cap: none may stand behind a move; one that has a `>` in it is a move, any other is a lane
abbrev pub with_word : Asked → List ℕ → Result Asked Complaint
with_word a w = elim a.moved [ Some m ↦ Err WordBehindMove | None ↦ elim (has arrow w) [ true ↦ with_move a w | false ↦ with_lane a w ] ]

-- the first word with a fault is told
abbrev pub with_words : Result Asked Complaint → List (List ℕ) → Result Asked Complaint
with_words (Err e) ws = Err e
with_words (Ok a) [] = Ok a
with_words (Ok a) (w ∷ ws) = with_words (with_word a w) ws

abbrev pub judged : List (List ℕ) → Result Asked Complaint
judged [] = Err NoCap
judged (w ∷ ws) = with_words (capped (number w)) ws

-- what a line asks
abbrev pub question : List ℕ → Result Asked Complaint
question line = judged (words line)
