-- A slip is one LOT word and then its wishes.
use Rattle.std.specs.Prelude.{ℕ, List, [], ◌∷◌, Some, None, Ok, Err, Result}
use Rattle.std.specs.Borrow.{Bor}
use Rattle.sheets.specs.declared.fault.Fault.{Fault}
use Rattle.sheets.specs.declared.fault.Refusal.TheVariants.{Misplaced, Strange}
use Rattle.sheets.specs.declared.word.SlipWord.TheVariants.{Lot, Wish}
use Rattle.sheets.specs.Faults.{fault}
use Rattle.sheets.specs.Words.{slip_word}

-- the lot and the words behind the LOT word; misplaced where the slip has no word or another first word
abbrev pub taken_apart : List ℕ → Result (ℕ × List ℕ) Fault
taken_apart [] = Err (fault Misplaced 0)
taken_apart (w ∷ ws) =
    elim (slip_word w) [
      | None ↦ Err (fault Strange 0)
      | Some (Lot lot) ↦ Ok (lot, ws)
      | Some (Wish lane) ↦ Err (fault Misplaced 0)
    ]

-- what the parts of the caller's slip say
abbrev pub says : Result (ℕ × Bor (List ℕ)) Fault → Result (ℕ × List ℕ) Fault
says (Ok s) = Ok (s.0, s.1.now)
says (Err f) = Err f
