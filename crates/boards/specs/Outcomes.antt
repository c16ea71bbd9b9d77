-- What became of an application.
use Rattle.std.specs.Prelude.{ℕ, Some, None, Option}
use Rattle.boards.specs.declared.outcome.Outcome.{Outcome}
use Rattle.boards.specs.declared.outcome.Outcome.TheVariants.{Taken, TakenFor, TurnedAway}

-- each outcome's number, and the lot that it names
abbrev pub told : Outcome → ℕ × Option ℕ
told Taken = (1, None)
told (TakenFor lot) = (2, Some lot)
told TurnedAway = (3, None)
