-- What the reader hands out.
use Rattle.std.specs.Prelude.{ℕ, suc, true, false, List, [], ◌∷◌, length, take, Some, None, Ok, Err, Option, Result, ◌==◌}
use Rattle.std.specs.Option.{option_map}
use Rattle.sheets.specs.declared.fault.Fault.{Fault}
use Rattle.sheets.specs.declared.progress.Progress.{Progress}
use Rattle.sheets.specs.declared.reader.Part.{Part}
use Rattle.sheets.specs.Progress.{judged, run_length, run_progress}
use Rattle.sheets.specs.Words.{kind}

-- a record: its words, and the place of the first
pub record Page : Type 0 where
  pub words : List ℕ
  pub place : ℕ

-- what a part of the caller's words says
abbrev pub page : Part → Page
page p = record { words = p.words.now; place = p.place }

abbrev pub pages : Result (Option Part) Fault → Result (Option Page) Fault
pages (Ok o) = Ok (option_map page o)
pages (Err f) = Err f

-- how many words were handed out
abbrev pub size : Result (Option Part) Fault → ℕ
size (Ok None) = 0
size (Ok (Some p)) = length p.words.now
size (Err f) = 0

-- the next record of a book sheet, from how far it has come, the place reached and the words that are left
abbrev pub next_record : Progress → ℕ → List ℕ → Result (Option Page) Fault
next_record p at [] = Ok None
next_record p at (w ∷ ws) =
    elim (judged p w at) [
      | Err f ↦ Err f
      | Ok q ↦ Ok (Some (record { words = w ∷ take (run_length q ws) ws; place = at }))
    ]

-- how far the sheet has come behind it; a refused word moves nothing
abbrev pub record_progress : Progress → ℕ → List ℕ → Progress
record_progress p at [] = p
record_progress p at (w ∷ ws) = elim (judged p w at) [ Err f ↦ p | Ok q ↦ run_progress q ws ]

-- how many words behind a slip's first belong to it: those before the next word of kind 5
abbrev pub slip_length : List ℕ → ℕ
slip_length [] = 0
slip_length (w ∷ ws) = elim (kind w == 5) [ true ↦ 0 | false ↦ suc (slip_length ws) ]

-- the next slip of a run of words, from the place reached and the words that are left
abbrev pub next_slip : ℕ → List ℕ → Option Page
next_slip at [] = None
next_slip at (w ∷ ws) = Some (record { words = w ∷ take (slip_length ws) ws; place = at })
