-- The slips of a day, entered into a round.
use Rattle.std.specs.Prelude.{◌≡◌, ℕ, ◌+◌, Bool, true, false, List, [], ◌∷◌, map, length, Ok, Err, Result, ◌==◌}
use Rattle.sheets.specs.declared.fault.Fault.{Fault}
use Rattle.sheets.specs.Faults.{fault}
use Rattle.sheets.specs.Words.{kind}
use Rattle.sharing.specs.Rules.{Meaning}
use Rattle.books.specs.Opening.{opening, left}
use Rattle.rounds.specs.declared.round.Round.{Round}
use Rattle.boards.specs.Boards.{Board, begun, slip_of, entered}
use Rattle.boards.specs.Calls.{enters, Reached, entered_lots}
use Rattle.days.specs.Input.{Day, day_of, in_day}

-- does a new slip begin here: no word is left, or the next one is of kind 5?
abbrev pub begins : List ℕ → Bool
begins [] = true
begins (w ∷ ws) = kind w == 5

-- a word in front of the first slip
abbrev pub in_front : ℕ → List (List ℕ) → List (List ℕ)
in_front w [] = (w ∷ []) ∷ []
in_front w (slip ∷ slips) = (w ∷ slip) ∷ slips

-- a run of words cut into slips before each word of kind 5; words before the first such word are a slip too
abbrev pub cut : List ℕ → List (List ℕ)
cut [] = []
cut (w ∷ ws) = elim (begins ws) [ true ↦ (w ∷ []) ∷ cut ws | false ↦ in_front w (cut ws) ]

-- a fault at its place in the whole input, where the words that it is told of stand from a place on
abbrev pub in_day_at : ℕ → Fault → Fault
in_day_at place f = fault f.refusal (place + f.place)

-- an answer, its fault at its place in the whole input
abbrev pub answer_at : {A : Type 0} → ℕ → Result A Fault → Result A Fault
answer_at place (Ok a) = Ok a
answer_at place (Err f) = Err (in_day_at place f)

-- slips entered in order, the first of them at a place of the input; the first refusal is told at its place in the input
abbrev pub enter_all : ℕ → Board → List (List ℕ) → Result Board Fault
enter_all place s [] = Ok s
enter_all place s (slip ∷ slips) = elim (slip_of s slip) [ Err f ↦ Err (in_day_at place f) | Ok p ↦ enter_all (place + length slip) (entered s (Ok p)) slips ]

-- the day's book is opened, and its slips, behind the number of book words and the book, are entered into a new round
abbrev pub day_round : Day → Result Board Fault
day_round d = elim (opening d.book) [ Err f ↦ Err (in_day f) | Ok c ↦ enter_all (1 + length d.book) (begun c) (cut d.slips) ]

-- the round of the day in the bytes, or the first refusal
abbrev pub day_board : List ℕ → Result Board Fault
day_board bs = elim (day_of bs) [ Err f ↦ Err f | Ok d ↦ day_round d ]

-- what a round says
abbrev pub board_in : {R : Type 0} → Result (Round R) Fault → Result Board Fault
board_in (Ok r) = Ok r.board
board_in (Err f) = Err f

-- an accepted round has this rule
abbrev pub HasRule : {R : Type 0} → R → Result (Round R) Fault → Type 0
HasRule rule (Ok r) = r.rule ≡ rule
HasRule rule (Err f) = Unit {0}

-- a day's round, if it is accepted, is a new round of its book after the calls that enter its slips
abbrev pub EntersSlips : Meaning → List ℕ → Result Board Fault → Type 0
EntersSlips m bs (Ok s) = (d : Day) → day_of bs ≡ Ok d → Reached (left (opening d.book)) m (map enters (cut d.slips)) s
EntersSlips m bs (Err f) = Unit {0}

-- each slip of an accepted day has entered a lot of its own
abbrev pub LotForEachSlip : List ℕ → Result Board Fault → Type 0
LotForEachSlip bs (Ok s) = (d : Day) → day_of bs ≡ Ok d → entered_lots s.lists ≡ length (cut d.slips)
LotForEachSlip bs (Err f) = Unit {0}
