-- What every round has, whatever its rule: its lists are lists, its lines fit them, nothing is overfull, and the count is the
-- wishes that were tried.
use Rattle.std.specs.Prelude.{◌≡◌, ℕ, ◌<◌, ◌≤◌, true, length}
use Rattle.sharing.specs.Rules.{at, kept, sum_to}
use Rattle.books.specs.Lanes.{has, distinct, all_below}
use Rattle.books.specs.Contents.{lane_of, ranking_of}
use Rattle.books.specs.Laid.{Laid, shed_of}
use Rattle.matching.specs.Offers.{offered, supply_of}
use Rattle.matching.specs.Theorems.{Fits}
use Rattle.boards.specs.Lines.{fits_list}
use Rattle.boards.specs.Slips.{list_at}
use Rattle.boards.specs.Boards.{Board, line_of, wishes, holding, tried}

pub record Formed (s : Board) : Type 0 where
  pub laid : Laid s.book
  pub every_line : length s.lines ≡ 256
  pub every_list : length s.lists ≡ 256
  -- a list names lanes of the book, none twice, and at most 12
  pub known : (i : ℕ) → all_below (length s.book.lanes) (wishes s i) ≡ true
  pub once : (i : ℕ) → distinct (wishes s i) ≡ true
  pub few : (i : ℕ) → length (wishes s i) ≤ 12
  -- a lot is absent exactly if it has no list; the next wish of a looking lot and the lane of a held one are on its list
  pub fit_lists : (i : ℕ) → fits_list (line_of s i) (list_at s.lists i) ≡ true
  -- a lane ranks the lots that it holds; every lane is within its capacity and every shed within its cap
  pub fits : Fits s.book (holding s)
  pub counted : s.count ≡ sum_to (tried s) 256

-- the same as it stands in the type of a round's table: what the lists have, what the lines have, and what the lanes hold
abbrev pub Lists : Board → Type 0
Lists s = (length s.lists ≡ 256) × ((i : ℕ) → all_below (length s.book.lanes) (wishes s i) ≡ true) × ((i : ℕ) → distinct (wishes s i) ≡ true) × ((i : ℕ) → length (wishes s i) ≤ 12)

abbrev pub Lines : Board → Type 0
Lines s = (length s.lines ≡ 256) × ((i : ℕ) → fits_list (line_of s i) (list_at s.lists i) ≡ true)

abbrev pub Ranked : Board → Type 0
Ranked s = (l i : ℕ) → holding s l i ≡ true → has (ranking_of s.book l) i ≡ true

abbrev pub LanesWithin : Board → Type 0
LanesWithin s = (l : ℕ) → l < length s.book.lanes → offered (holding s l) (ranking_of s.book l) ≤ at (shed_of s.book (lane_of s.book l).shed).capacities (lane_of s.book l).place

abbrev pub ShedsWithin : Board → Type 0
ShedsWithin s = (g : ℕ) → g < length s.book.sheds → kept (shed_of s.book g) (supply_of s.book (holding s) g) ≤ (shed_of s.book g).limit

abbrev pub Counted : Board → Type 0
Counted s = s.count ≡ sum_to (tried s) 256
