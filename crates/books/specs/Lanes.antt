-- A lane and its ranking.
use Rattle.std.specs.Prelude.{ℕ, Bool, true, false, not, ◌&&◌, ◌||◌, List, [], ◌∷◌, Some, None, Option, ◌==◌, nat_lt}
use Rattle.rows.specs.Listed.{Listed}

-- is i among the lots?
abbrev pub has : List ℕ → ℕ → Bool
has [] i = false
has (x ∷ xs) i = x == i || has xs i

-- is every lot named once?
abbrev pub distinct : List ℕ → Bool
distinct [] = true
distinct (x ∷ xs) = not (has xs x) && distinct xs

-- is every lot below n?
abbrev pub all_below : ℕ → List ℕ → Bool
all_below n [] = true
all_below n (x ∷ xs) = nat_lt x n && all_below n xs

-- what the book says of a lane: its shed, its place on the shed's card, whether the sheet has a ranking record for it,
-- and the lots that it ranks, the best first
pub record Entry : Type 0 where
  pub shed : ℕ
  pub place : ℕ
  pub recorded : Bool
  pub ranking : List ℕ

-- the lots of a ranking; none where the sheet has no ranking record
abbrev pub lots_in : Option (Listed ℕ) → List ℕ
lots_in None = []
lots_in (Some lots) = lots.items
