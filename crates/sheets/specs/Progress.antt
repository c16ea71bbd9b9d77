-- How a book sheet is made of records: what the record reader refuses.
use Rattle.std.specs.Prelude.{ℕ, suc, ◌+◌, Bool, true, false, ◌||◌, List, [], ◌∷◌, Some, None, Ok, Err, Option, Result, ◌==◌, nat_le}
use Rattle.std.specs.Result.{result_ok}
use Rattle.sheets.specs.declared.fault.Refusal.{Refusal}
use Rattle.sheets.specs.declared.fault.Refusal.TheVariants.{Strange, Misplaced, TooMany}
use Rattle.sheets.specs.declared.fault.Fault.{Fault}
use Rattle.sheets.specs.declared.progress.Progress.{Progress}
use Rattle.sheets.specs.declared.word.BookWord.{BookWord}
use Rattle.sheets.specs.declared.word.BookWord.TheVariants.{Shed, Lane, Rank, Next}
use Rattle.sheets.specs.Faults.{fault, located}
use Rattle.sheets.specs.Words.{book_word}

-- before the first word
abbrev pub start : Progress
start = record { sheds = 0; lanes = 0; lanes_here = 0; ranking = false }

-- a SHED word more: none behind a ranking, at most 8
abbrev pub admits_shed : Progress → Result Progress Refusal
admits_shed p =
    elim p.ranking [
      | true ↦ Err Misplaced
      | false ↦
          elim (nat_le 8 p.sheds) [
            | true ↦ Err TooMany
            | false ↦
                Ok (record { sheds = p.sheds + 1; lanes = p.lanes; lanes_here = 0; ranking = p.ranking })
          ]
    ]

-- a LANE word more: none behind a ranking or before a shed, at most 8 in the shed and 32 altogether
abbrev pub admits_lane : Progress → Result Progress Refusal
admits_lane p =
    elim (p.ranking || p.sheds == 0) [
      | true ↦ Err Misplaced
      | false ↦
          elim (nat_le 8 p.lanes_here || nat_le 32 p.lanes) [
            | true ↦ Err TooMany
            | false ↦
                Ok (record { sheds = p.sheds; lanes = p.lanes + 1; lanes_here = p.lanes_here + 1; ranking = p.ranking })
          ]
    ]

-- a NEXT word more: none before a ranking
abbrev pub admits_lot : Progress → Result Progress Refusal
admits_lot p = elim p.ranking [ true ↦ Ok p | false ↦ Err Misplaced ]

abbrev pub admits : Progress → BookWord → Result Progress Refusal
admits p (Shed c) = admits_shed p
admits p (Lane t q) = admits_lane p
admits p (Rank l) = Ok (record { sheds = p.sheds; lanes = p.lanes; lanes_here = p.lanes_here; ranking = true })
admits p (Next i) = admits_lot p

-- a word of the sheet, judged for all that needs no book
abbrev pub judged : Progress → ℕ → ℕ → Result Progress Fault
judged p w place =
    elim (book_word w) [
      | None ↦ Err (fault Strange place)
      | Some b ↦ located place (admits p b)
    ]

-- a word that goes on with the record before it and is not refused
abbrev pub onward : Progress → BookWord → Option Progress
onward p (Shed c) = None
onward p (Lane t q) = result_ok (admits_lane p)
onward p (Rank l) = None
onward p (Next i) = result_ok (admits_lot p)

abbrev pub goes_on : Progress → ℕ → Option Progress
goes_on p w = elim (book_word w) [ None ↦ None | Some b ↦ onward p b ]

-- how many of the words behind a record's first belong to it: those up to the next record or the first refused word
abbrev pub run_length : Progress → List ℕ → ℕ
run_length p [] = 0
run_length p (w ∷ ws) = elim (goes_on p w) [ None ↦ 0 | Some q ↦ suc (run_length q ws) ]

-- how far the sheet has come behind them
abbrev pub run_progress : Progress → List ℕ → Progress
run_progress p [] = p
run_progress p (w ∷ ws) = elim (goes_on p w) [ None ↦ p | Some q ↦ run_progress q ws ]

-- how far the sheet has come behind a word; none where the word is refused
abbrev pub accepts : Progress → ℕ → Option Progress
accepts p w = elim (book_word w) [ None ↦ None | Some b ↦ result_ok (admits p b) ]

-- is each of the words accepted in turn?
abbrev pub passes : Progress → List ℕ → Bool
passes p [] = true
passes p (w ∷ ws) = elim (accepts p w) [ None ↦ false | Some q ↦ passes q ws ]

-- how far the sheet has come behind words that pass
abbrev pub along : Progress → List ℕ → Progress
along p [] = p
along p (w ∷ ws) = elim (accepts p w) [ None ↦ p | Some q ↦ along q ws ]
