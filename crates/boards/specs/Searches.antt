-- How the code finds who has to go.
use Rattle.std.specs.Prelude.{ℕ, zero, suc, ◌+◌, Bool, true, false, List, [], ◌∷◌, length, Some, None, Option, ◌==◌, nat_lt, slice_index_or, slice_set}
use Rattle.std.specs.List.{slice_get}
use Rattle.sharing.specs.Rules.{at, Meaning}
use Rattle.books.specs.Lanes.{has}
use Rattle.books.specs.Contents.{Contents, lane_of, ranking_of}
use Rattle.books.specs.Laid.{shed_of}
use Rattle.matching.specs.Offers.{Offers}
use Rattle.boards.specs.declared.line.Line.{Line}
use Rattle.boards.specs.declared.line.Line.TheVariants.{Absent, Looking, Held, Spent}
use Rattle.boards.specs.declared.line.Event.{Event}
use Rattle.boards.specs.declared.line.Event.TheVariants.{Taken, Dropped, TurnedAway}
use Rattle.boards.specs.Lines.{noted, wishes_of}
use Rattle.boards.specs.Slips.{Lists, list_at}
use Rattle.boards.specs.Boards.{Board, filling, keeps, leaver}

-- the place on the card of shed g of the lane that holds a lot; none where it is held elsewhere or not at all
abbrev pub seat : Contents → ℕ → Line → Option ℕ
seat c g Absent = None
seat c g (Looking n) = None
seat c g (Held l) = elim (nat_lt l (length c.lanes)) [ true ↦ elim ((lane_of c l).shed == g) [ true ↦ Some (lane_of c l).place | false ↦ None ] | false ↦ None ]
seat c g Spent = None

-- one lot's line rewritten by what happened to it
abbrev pub note_in : Lists → List Line → ℕ → Event → List Line
note_in ls ys i e = slice_set ys i (noted (wishes_of (list_at ls i)) (slice_index_or ys i Absent) e)

-- one more at a place
abbrev pub one_more_at : List ℕ → ℕ → List ℕ
one_more_at xs p = slice_set xs p (at xs p + 1)

-- the supply of a shed when one more asks at lane h
abbrev pub supplied : Contents → List Line → ℕ → List ℕ
supplied c ys h = one_more_at (filling c ys (lane_of c h).shed) (lane_of c h).place

-- along a ranking, the first lot on offer behind the best n
abbrev pub beyond : ℕ → (ℕ → Bool) → List ℕ → Option ℕ
beyond n O [] = None
beyond zero O (r ∷ R) = elim (O r) [ true ↦ Some r | false ↦ beyond zero O R ]
beyond (suc n) O (r ∷ R) = elim (O r) [ true ↦ beyond n O R | false ↦ beyond (suc n) O R ]

-- the first of n answers from place k on
abbrev pub first_of : (ℕ → Option ℕ) → ℕ → ℕ → Option ℕ
first_of f k zero = None
first_of f k (suc n) = elim (f k) [ Some x ↦ Some x | None ↦ first_of f (suc k) n ]

-- at a lane of the shed that keeps fewer than it is supplied with, the first lot behind the kept ones
abbrev pub beyond_at : Contents → Offers → ℕ → List ℕ → List ℕ → ℕ → Option ℕ
beyond_at c O first x k j = elim (nat_lt (at k j) (at x j)) [ true ↦ beyond (at k j) (O (first + j)) (ranking_of c (first + j)) | false ↦ None ]

-- the next wish of a looking lot; none of any other
abbrev pub next_wish : Line → List ℕ → Option ℕ
next_wish Absent xs = None
next_wish (Looking n) xs = slice_get xs n
next_wish (Held l) xs = None
next_wish Spent xs = None

-- the lines after an application of lot i, by the lot that has to go
abbrev pub moved : Lists → List Line → ℕ → Option ℕ → List Line
moved ls ys i None = note_in ls ys i Taken
moved ls ys i (Some x) = elim (x == i) [ true ↦ note_in ls ys i TurnedAway | false ↦ note_in ls (note_in ls ys x Dropped) i Taken ]

-- who has to go when lot i applies to lane h: the lot itself where the lane does not rank it
abbrev pub goes : Meaning → Board → ℕ → ℕ → Option ℕ
goes m s i h =
    elim (has (ranking_of s.book h) i) [
      | true ↦ leaver (keeps s.book (slice_set s.lines i (Held h)) (lane_of s.book h).shed (m.choice (shed_of s.book (lane_of s.book h).shed) (filling s.book (slice_set s.lines i (Held h)) (lane_of s.book h).shed))) 0 (slice_set s.lines i (Held h))
      | false ↦ Some i
    ]
