-- What a person is shown of a day's slips.
use Rattle.std.specs.Prelude.{ℕ, List, [], ◌∷◌, ◌++◌, codes, decimal, Option}
use Rattle.std.specs.List.{join_by}
use Rattle.boards.specs.Slips.{list_at}
use Rattle.listing.specs.Lines.{lines}

-- as "  lot 1: wishes 2, 0", and "  lot 5: no wishes" for an empty list
abbrev pub list_line : ℕ → List ℕ → List ℕ
list_line lot [] = codes "  lot " ++ (decimal lot ++ codes ": no wishes")
list_line lot (lane ∷ lanes) = codes "  lot " ++ (decimal lot ++ (codes ": wishes " ++ join_by decimal (codes ", ") (lane ∷ lanes)))

-- the lines of the first n lots, where a slip has come for them
abbrev pub list_lines : List (Option (List ℕ)) → ℕ → List ℕ
list_lines lists n = lines list_line (list_at lists) n
