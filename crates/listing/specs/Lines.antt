-- What a person is shown of a book.
use Rattle.std.specs.Prelude.{ℕ, zero, suc, true, false, List, [], ◌∷◌, ◌++◌, length, codes, decimal, Some, None, Option, ◌==◌}
use Rattle.std.specs.List.{slice_get}
use Rattle.std.specs.Option.{option_map}
use Rattle.sharing.specs.Cards.{Terms}
use Rattle.sharing.specs.Rules.{at, lanes}
use Rattle.books.specs.declared.totals.Totals.{Totals}
use Rattle.books.specs.Contents.{Contents}
use Rattle.books.specs.Lanes.{Entry}
use Rattle.books.specs.Laid.{shed_of}
use Rattle.books.specs.Totals.{totals_of}
use Rattle.listing.specs.declared.lane.LaneLine.{LaneLine}

-- as "shed 0: cap 2, lanes 2"
abbrev pub shed_line : Terms → List ℕ
shed_line t = codes "shed " ++ (decimal t.shed ++ (codes ": cap " ++ (decimal t.limit ++ (codes ", lanes " ++ decimal (lanes t)))))

-- what is told of a lane: its number, its target and its capacity on the card of its shed, and how many lots it ranks
abbrev pub told : Contents → ℕ → Entry → LaneLine
told c l e = record { lane = l; target = at (shed_of c e.shed).targets e.place; capacity = at (shed_of c e.shed).capacities e.place; ranked = length e.ranking }

-- the same of a lane of a shed; none if the lane stands in another shed, or is not in the book
abbrev pub told_in : Contents → ℕ → ℕ → Option LaneLine
told_in c g l = elim (slice_get c.lanes l) [
  | None ↦ None
  | Some e ↦ elim (e.shed == g) [ true ↦ Some (told c l e) | false ↦ None ]
]

-- as "  lane 0: target 1, capacity 2, lots ranked 3"
abbrev pub lane_line : LaneLine → List ℕ
lane_line l = codes "  lane " ++ (decimal l.lane ++ (codes ": target " ++ (decimal l.target ++ (codes ", capacity " ++ (decimal l.capacity ++ (codes ", lots ranked " ++ decimal l.ranked))))))

-- a line with its end
abbrev pub ended : List ℕ → List ℕ
ended line = line ++ (10 ∷ [])

-- the same of a line that there may be
abbrev pub shown : Option (List ℕ) → List ℕ
shown None = []
shown (Some line) = ended line

-- the texts of the numbers below n, one behind the other
abbrev pub joined : (ℕ → List ℕ) → ℕ → List ℕ
joined text zero = []
joined text (suc n) = joined text n ++ text n

-- the lines of the numbers below n; a number that has nothing to tell has none
abbrev pub lines : {A : Type 0} → (ℕ → A → List ℕ) → (ℕ → Option A) → ℕ → List ℕ
lines line found n = joined (λ k. shown (option_map (line k) (found k))) n

-- the lines of the first n lanes, where they stand in the shed
abbrev pub lane_lines : Contents → ℕ → ℕ → List ℕ
lane_lines c g n = lines (λ l. lane_line) (told_in c g) n

-- a shed and its lanes, in the order of their numbers; nothing if the shed is not in the book
abbrev pub shed_lines : Contents → ℕ → List ℕ
shed_lines c g = elim (slice_get c.sheds g) [ None ↦ [] | Some t ↦ ended (shed_line t) ++ lane_lines c g (length c.lanes) ]

-- as "totals: sheds 2, lanes 3, caps 3, targets 1, capacities 4, lots ranked 6"
abbrev pub totals_line : Totals → List ℕ
totals_line t = codes "totals: sheds " ++ (decimal t.sheds ++ (codes ", lanes " ++ (decimal t.lanes ++ (codes ", caps " ++ (decimal t.caps ++ (codes ", targets " ++ (decimal t.targets ++ (codes ", capacities " ++ (decimal t.capacities ++ (codes ", lots ranked " ++ decimal t.ranked))))))))))

-- each shed with its lanes, and the totals in the last line
abbrev pub book_lines : Contents → List ℕ
book_lines c = joined (shed_lines c) (length c.sheds) ++ ended (totals_line (totals_of c))
