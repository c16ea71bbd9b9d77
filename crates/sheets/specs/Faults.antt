-- What a refusal is told as.
use Rattle.std.specs.Prelude.{ℕ, Ok, Err, Result}
use Rattle.sheets.specs.declared.fault.Refusal.{Refusal}
use Rattle.sheets.specs.declared.fault.Refusal.TheVariants.{Ragged, Strange, Misplaced, TooMany, Unknown, Twice, Overtargeted, Idle, Short, Misfit}
use Rattle.sheets.specs.declared.fault.Layer.{Layer}
use Rattle.sheets.specs.declared.fault.Layer.TheVariants.{Input, Word, Record, Book, Round, Plan}
use Rattle.sheets.specs.declared.fault.Fault.{Fault}

-- each refusal's number and layer
abbrev pub standing : Refusal → ℕ × Layer
standing Ragged = (1, Input)
standing Strange = (2, Word)
standing Misplaced = (3, Record)
standing TooMany = (4, Record)
standing Unknown = (5, Book)
standing Twice = (6, Book)
standing Overtargeted = (7, Book)
standing Idle = (8, Round)
standing Short = (9, Round)
standing Misfit = (10, Plan)

-- the fault that a refusal at a place is
abbrev pub fault : Refusal → ℕ → Fault
fault r p = record { refusal = r; place = p; layer = (standing r).1 }

-- an answer whose refusal is at a place
abbrev pub located : {A : Type 0} → ℕ → Result A Refusal → Result A Fault
located place (Ok a) = Ok a
located place (Err r) = Err (fault r place)
