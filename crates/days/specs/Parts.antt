-- What the words of a day that was read say.
use Rattle.std.specs.Prelude.{Ok, Err, Option, Result}
use Rattle.std.specs.Option.{option_map}
use Rattle.sheets.specs.declared.fault.Fault.{Fault}
use Rattle.days.specs.declared.day.DayWords.{DayWords}
use Rattle.days.specs.Input.{Day}

-- the day in words that were taken apart
abbrev pub day_with : DayWords → Day
day_with w = record { book = w.book.now; slips = w.slips.now }

-- the same, where there may be none
abbrev pub day_parts : Option DayWords → Option Day
day_parts o = option_map day_with o

-- the same, or the refusal
abbrev pub day_in : Result DayWords Fault → Result Day Fault
day_in (Ok w) = Ok (day_with w)
day_in (Err f) = Err f
