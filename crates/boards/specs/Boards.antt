-- What a round says, and what each call makes of it.
use Rattle.std.specs.Prelude.{ℕ, zero, suc, ◌+◌, Bool, true, false, not, List, [], ◌∷◌, map, length, replicate, Some, None, Ok, Err, count_by, Option, Result, ◌==◌, nat_lt, slice_index_or, slice_set}
use Rattle.std.specs.List.{range_with_len}
use Rattle.sheets.specs.declared.fault.Fault.{Fault}
use Rattle.sheets.specs.declared.fault.Refusal.TheVariants.{Idle}
use Rattle.sheets.specs.Faults.{fault}
use Rattle.sharing.specs.Rules.{at, lanes, Meaning}
use Rattle.books.specs.Lanes.{has}
use Rattle.books.specs.Contents.{Contents, lane_of, ranking_of}
use Rattle.books.specs.Laid.{shed_of, first_lane}
use Rattle.matching.specs.Offers.{Offers, best}
use Rattle.boards.specs.declared.line.Line.{Line}
use Rattle.boards.specs.declared.line.Line.TheVariants.{Absent, Looking, Held, Spent}
use Rattle.boards.specs.declared.line.Event.TheVariants.{Entered, Dropped, TurnedAway}
use Rattle.boards.specs.declared.outcome.Outcome.{Outcome}
use Rattle.boards.specs.declared.outcome.Outcome.TheVariants.{Taken, TakenFor, TurnedAway as Refused}
use Rattle.boards.specs.Lines.{noted, holds, tried_of, wishes_of, lowest}
use Rattle.boards.specs.Slips.{Lists, list_at, entering}

-- the book, the list and the line of each lot, and the count of applications
pub record Board : Type 0 where
  pub book : Contents
  pub lists : Lists
  pub lines : List Line
  pub count : ℕ

abbrev pub line_of : Board → ℕ → Line
line_of s i = slice_index_or s.lines i Absent

abbrev pub wishes : Board → ℕ → List ℕ
wishes s i = wishes_of (list_at s.lists i)

-- which lane holds which lot
abbrev pub holding : Board → Offers
holding s l i = holds (line_of s i) l

-- how many wishes each lot has applied to
abbrev pub tried : Board → ℕ → ℕ
tried s i = tried_of (line_of s i) (wishes s i)

-- a new round: every lot is absent
abbrev pub begun : Contents → Board
begun c = record { book = c; lists = replicate 256 None; lines = replicate 256 Absent; count = 0 }

-- an accepted slip gives its lot a list, and the lot looks at its first wish or is spent; a refused one moves nothing
abbrev pub entered : Board → Result (ℕ × List ℕ) Fault → Board
entered s (Err f) = s
entered s (Ok p) = record {
  book = s.book;
  lists = slice_set s.lists p.0 (Some p.1);
  lines = slice_set s.lines p.0 (noted p.1 (line_of s p.0) Entered);
  count = s.count;
}

-- what entering a slip answers: its lot
abbrev pub lot_of : Result (ℕ × List ℕ) Fault → Result ℕ Fault
lot_of (Err f) = Err f
lot_of (Ok p) = Ok p.0

abbrev pub slip_of : Board → List ℕ → Result (ℕ × List ℕ) Fault
slip_of s ws = entering (length s.book.lanes) s.lists ws

abbrev pub enter : Board → List ℕ → Board
enter s ws = entered s (slip_of s ws)

-- how many lines say that lane l holds the lot
abbrev pub held : ℕ → List Line → ℕ
held l ys = count_by (λ y. holds y l) ys

-- how many lots each lane of a shed holds, by its place on the card, and 0 off the card
abbrev pub filling : Contents → List Line → ℕ → List ℕ
filling c ys g = map (λ k. elim (nat_lt k (lanes (shed_of c g))) [ true ↦ held (first_lane c g + k) ys | false ↦ 0 ]) (range_with_len 0 8)

-- does lane l keep lot x, if the lanes of shed g keep their best ranked lots, as many as k says? Other sheds keep all
abbrev pub keeps : Contents → List Line → ℕ → List ℕ → ℕ → ℕ → Bool
keeps c ys g k x l =
    elim ((lane_of c l).shed == g) [
      | true ↦ best (at k (lane_of c l).place) (λ r. holds (slice_index_or ys r Absent) l) (ranking_of c l) x
      | false ↦ true
    ]

-- a lot that is held where it is not kept is dropped
abbrev pub stays : List ℕ → (ℕ → Bool) → Line → Line
stays xs p Absent = Absent
stays xs p (Looking n) = Looking n
stays xs p (Held l) = elim (p l) [ true ↦ Held l | false ↦ noted xs (Held l) Dropped ]
stays xs p Spent = Spent

-- each line changed by its lot's number, where the first line is that of lot k
abbrev pub turned : (ℕ → Line → Line) → ℕ → List Line → List Line
turned f k [] = []
turned f k (y ∷ ys) = f k y ∷ turned f (suc k) ys

-- who is held where it is not kept
abbrev pub leaves : (ℕ → Bool) → Line → Bool
leaves p Absent = false
leaves p (Looking n) = false
leaves p (Held l) = not (p l)
leaves p Spent = false

-- the lowest lot that leaves, where the first line is that of lot k
abbrev pub leaver : (ℕ → ℕ → Bool) → ℕ → List Line → Option ℕ
leaver p k [] = None
leaver p k (y ∷ ys) = elim (leaves (p k) y) [ true ↦ Some k | false ↦ leaver p (suc k) ys ]

-- what became of lot i, if that lot leaves
abbrev pub outcome : ℕ → Option ℕ → Outcome
outcome i None = Taken
outcome i (Some x) = elim (x == i) [ true ↦ Refused | false ↦ TakenFor x ]

-- the lots put down are kept as many as k says
abbrev pub clear : Board → ℕ → List Line → ℕ → List ℕ → Outcome × Board
clear s i ys g k = (
  outcome i (leaver (keeps s.book ys g k) 0 ys),
  record {
    book = s.book;
    lists = s.lists;
    lines = turned (λ x y. stays (wishes s x) (keeps s.book ys g k x) y) 0 ys;
    count = suc s.count;
  },
)

-- lot i is put down at lane h, and the rule is asked for the shed
abbrev pub ask : Meaning → Board → ℕ → ℕ → List Line → ℕ → Outcome × Board
ask m s i h ys g = clear s i ys g (m.choice (shed_of s.book g) (filling s.book ys g))

-- lot i is turned away by a lane that does not rank it
abbrev pub turn_away : Board → ℕ → Outcome × Board
turn_away s i = (
  Refused,
  record { book = s.book; lists = s.lists; lines = slice_set s.lines i (noted (wishes s i) (line_of s i) TurnedAway); count = suc s.count },
)

-- lot i applies to lane h
abbrev pub apply_to : Meaning → Board → ℕ → ℕ → Outcome × Board
apply_to m s i h =
    elim (has (ranking_of s.book h) i) [
      | true ↦ ask m s i h (slice_set s.lines i (Held h)) (lane_of s.book h).shed
      | false ↦ turn_away s i
    ]

-- a looking lot applies to its next wish
abbrev pub applied : Meaning → Board → ℕ → Line → Result (Outcome × Board) Fault
applied m s i Absent = Err (fault Idle 0)
applied m s i (Looking n) = Ok (apply_to m s i (at (wishes s i) n))
applied m s i (Held l) = Err (fault Idle 0)
applied m s i Spent = Err (fault Idle 0)

abbrev pub application : Meaning → Board → ℕ → Result (Outcome × Board) Fault
application m s i = applied m s i (line_of s i)

abbrev pub outcome_of : Result (Outcome × Board) Fault → Result Outcome Fault
outcome_of (Ok p) = Ok p.0
outcome_of (Err f) = Err f

abbrev pub board_of : Board → Result (Outcome × Board) Fault → Board
board_of s (Ok p) = p.1
board_of s (Err f) = s

abbrev pub apply : Meaning → Board → ℕ → Board
apply m s i = board_of s (application m s i)

-- the lowest looking lot applies, at most n times
abbrev pub settle_for : Meaning → ℕ → Board → Board
settle_for m zero s = s
settle_for m (suc n) s = elim (lowest 0 s.lines) [ None ↦ s | Some i ↦ settle_for m n (apply m s i) ]

-- the wishes of all lots
abbrev pub all_wishes : Lists → ℕ
all_wishes [] = 0
all_wishes (o ∷ os) = length (wishes_of o) + all_wishes os

abbrev pub settle : Meaning → Board → Board
settle m s = settle_for m (all_wishes s.lists) s
