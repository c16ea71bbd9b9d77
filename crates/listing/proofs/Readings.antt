-- What two readings with a limit, one behind the other, have read.
use Rattle.std.proofs.Common.{◌≡◌, ℕ, List, ◌++◌, take, IfSome, Some, None, rules}
use Rattle.std.specs.Prelude.{Option}
use Rattle.std.specs.Option.{option_map}
use Rattle.std.specs.Io.KnownBytes.{Consumes}
use Rattle.days.specs.Input.{bytes_behind}
use Rattle.listing.specs.Input.{ReadsAhead}

-- the first reading has the first word of all, and may leave some of the rest; the second goes on in that
pub two_readings : (all rest : Option (List ℕ)) (limit more : ℕ) (first lost both : List ℕ) → IfSome (option_map (take 4) all) (λ xs. first ≡ xs) → Consumes (option_map (take 4) all) (option_map (take limit) rest) lost → more ≡ bytes_behind first → IfSome (option_map (take more) rest) (λ xs. both ≡ first ++ xs) → IfSome all (λ input. ReadsAhead input both)
two_readings None rest limit more first lost both f l m b = search rules
two_readings (Some all) None limit more first lost both f l m b = absurd l
two_readings (Some all) (Some rest) limit more first lost both f l m b = (rest, search rules)
