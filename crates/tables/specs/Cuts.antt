-- How bytes are cut at marks, and a line into words.
use Rattle.std.specs.Prelude.{ℕ, Bool, not, ◌||◌, List, [], ◌∷◌, length, filter, Some, None, Option, ◌==◌}
use Rattle.std.specs.Borrow.{Bor}
use Rattle.std.specs.List.{list_any, slice_split}

-- A byte that parts others is a mark. Blanks, which are spaces, tabs and carriage returns, part words; slashes part the
-- numbers of a lane, and arrows the lanes of a move.
abbrev pub blank : ℕ → Bool
blank b = b == 32 || b == 9 || b == 13

abbrev pub slash : ℕ → Bool
slash b = b == 47

abbrev pub arrow : ℕ → Bool
arrow b = b == 62

-- is one of the bytes a mark?
abbrev pub has : (ℕ → Bool) → List ℕ → Bool
has mark bs = list_any mark bs

-- what stands before, between and behind the marks; a piece may be empty
abbrev pub pieces : (ℕ → Bool) → List ℕ → List (List ℕ)
pieces mark bs = slice_split mark bs

-- those that are not empty
abbrev pub filled : List (List ℕ) → List (List ℕ)
filled ps = filter (λ p. not (length p == 0)) ps

-- a line is cut into words at blanks, one or more
abbrev pub words : List ℕ → List (List ℕ)
words line = filled (pieces blank line)

-- the pieces, by what stands before the first mark and what stands behind it
abbrev pub parted : (ℕ → Bool) → List ℕ → Option (Bor (List ℕ) × Bor (List ℕ)) → List (List ℕ)
parted mark bs None = bs ∷ []
parted mark bs (Some p) = p.0.now ∷ pieces mark p.1.now
