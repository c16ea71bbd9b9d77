-- A lot's line, and what becomes of it.
use Rattle.std.specs.Prelude.{ℕ, suc, Bool, true, false, not, List, [], ◌∷◌, length, is_some, Some, None, Option, ◌==◌, nat_lt}
use Rattle.sharing.specs.Rules.{at}
use Rattle.books.specs.Lanes.{has}
use Rattle.boards.specs.declared.line.Line.{Line}
use Rattle.boards.specs.declared.line.Line.TheVariants.{Absent, Looking, Held, Spent}
use Rattle.boards.specs.declared.line.Event.{Event}
use Rattle.boards.specs.declared.line.Event.TheVariants.{Entered, Taken, Dropped, TurnedAway}

-- the place of a lane on a list, from 0; the length where it is not there
abbrev pub place : List ℕ → ℕ → ℕ
place [] l = 0
place (x ∷ xs) l = elim (x == l) [ true ↦ 0 | false ↦ suc (place xs l) ]

-- a lot that has applied to n wishes of its list in vain looks at the next one, or is spent
abbrev pub next : List ℕ → ℕ → Line
next xs n = elim (nat_lt n (length xs)) [ true ↦ Looking n | false ↦ Spent ]

-- a line together with what happened to the lot; the list is the lot's
abbrev pub noted : List ℕ → Line → Event → Line
noted xs Absent Entered = next xs 0
noted xs Absent Taken = Absent
noted xs Absent Dropped = Absent
noted xs Absent TurnedAway = Absent
noted xs (Looking n) Entered = Looking n
noted xs (Looking n) Taken = Held (at xs n)
noted xs (Looking n) Dropped = Looking n
noted xs (Looking n) TurnedAway = next xs (suc n)
noted xs (Held l) Entered = Held l
noted xs (Held l) Taken = Held l
noted xs (Held l) Dropped = next xs (suc (place xs l))
noted xs (Held l) TurnedAway = Held l
noted xs Spent Entered = Spent
noted xs Spent Taken = Spent
noted xs Spent Dropped = Spent
noted xs Spent TurnedAway = Spent

-- does lane l hold the lot?
abbrev pub holds : Line → ℕ → Bool
holds Absent l = false
holds (Looking n) l = false
holds (Held k) l = k == l
holds Spent l = false

abbrev pub looks : Line → Bool
looks Absent = false
looks (Looking n) = true
looks (Held k) = false
looks Spent = false

-- the lowest lot whose line looks, where the first line is that of lot k
abbrev pub lowest : ℕ → List Line → Option ℕ
lowest k [] = None
lowest k (y ∷ ys) = elim (looks y) [ true ↦ Some k | false ↦ lowest (suc k) ys ]

-- how many wishes of its list the lot has applied to
abbrev pub tried_of : Line → List ℕ → ℕ
tried_of Absent xs = 0
tried_of (Looking n) xs = n
tried_of (Held l) xs = suc (place xs l)
tried_of Spent xs = length xs

-- the wishes of a lot that may have no list
abbrev pub wishes_of : Option (List ℕ) → List ℕ
wishes_of None = []
wishes_of (Some xs) = xs

-- a line fits the lot's list: a lot is absent exactly if it has none, the next wish of a looking lot and the lane of a held
-- lot are on it
abbrev pub fits_list : Line → Option (List ℕ) → Bool
fits_list Absent o = not (is_some o)
fits_list (Looking n) o = nat_lt n (length (wishes_of o))
fits_list (Held l) o = has (wishes_of o) l
fits_list Spent o = is_some o
