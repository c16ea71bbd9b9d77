-- What the functions that read a slip answer and leave.
use Rattle.std.specs.Prelude.{◌≡◌, ℕ, List, Ok, Err, Result}
use Rattle.sheets.specs.declared.fault.Fault.{Fault}
use Rattle.boards.specs.declared.wishes.Wishes.{Wishes}
use Rattle.boards.specs.Slips.{list_of}

-- the list that was read, or the refusal
abbrev pub listed : Result Wishes Fault → Result (List ℕ) Fault
listed (Ok w) = Ok (list_of w)
listed (Err f) = Err f

-- a list with one wish more, or a refusal
abbrev pub Pushed : {E : Type 0} → Result (List ℕ) E → Result (Unit {0}) E → List ℕ → Type 0
Pushed (Ok xs) answer after = (answer ≡ Ok tt) × (after ≡ xs)
Pushed (Err f) answer after = answer ≡ Err f
