-- What is read of an input.
use Rattle.std.specs.Prelude.{◌≡◌, ℕ, List, ◌++◌, take}
use Rattle.days.specs.Input.{bytes_behind}

-- the first four bytes of the input, and then as many as are worth reading of some rest. That it is the rest of the input
-- is not said, since std does not say where a reader stands behind a part that was taken of it
abbrev pub ReadsAhead : List ℕ → List ℕ → Type 0
ReadsAhead input bytes = (rest : List ℕ) × (bytes ≡ take 4 input ++ take (bytes_behind (take 4 input)) rest)
