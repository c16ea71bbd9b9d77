-- The meaning of a book sheet: a walk over its words.
use Rattle.std.specs.Prelude.{◌≡◌, ℕ, suc, true, false, List, [], ◌∷◌, length, is_some, Some, None, Ok, Err, Option, Result, nat_le}
use Rattle.sheets.specs.declared.fault.Refusal.{Refusal}
use Rattle.sheets.specs.declared.fault.Refusal.TheVariants.{Strange, Misplaced, Unknown, Twice, Overtargeted}
use Rattle.sheets.specs.declared.fault.Fault.{Fault}
use Rattle.sheets.specs.declared.progress.Progress.{Progress}
use Rattle.sheets.specs.declared.word.BookWord.{BookWord}
use Rattle.sheets.specs.declared.word.BookWord.TheVariants.{Shed, Lane, Rank, Next}
use Rattle.sheets.specs.Faults.{fault}
use Rattle.sheets.specs.Progress.{admits}
use Rattle.sheets.specs.Words.{book_word}
use Rattle.sharing.specs.Cards.{overtargeted}
use Rattle.books.specs.declared.book.Book.{Book}
use Rattle.books.specs.Lanes.{has}
use Rattle.books.specs.Contents.{Contents, contents, nothing, last_terms, lane_of, with_shed, with_lane, with_record, with_lot}

-- a sheet that is being read: what the book says so far, and the lane whose ranking is being read
pub record Reading : Type 0 where
  pub book : Contents
  pub ranking : Option ℕ

abbrev pub reading : Book → Option ℕ → Reading
reading b l = record { book = contents b; ranking = l }

-- before the first word
abbrev pub unread : Reading
unread = record { book = nothing; ranking = None }

-- how far the sheet has come, for the record reader
abbrev pub progress_of : Reading → Progress
progress_of r = record {
  sheds = length r.book.sheds;
  lanes = length r.book.lanes;
  lanes_here = length (last_terms r.book).capacities;
  ranking = is_some r.ranking;
}

-- what the book makes of a word that the record reader admits
abbrev pub noted : Reading → BookWord → Result Reading Refusal
noted r (Shed limit) = Ok (record { book = with_shed r.book limit; ranking = r.ranking })
noted r (Lane target capacity) =
    elim (overtargeted (last_terms r.book) target capacity) [
      | true ↦ Err Overtargeted
      | false ↦
          Ok (record { book = with_lane r.book target capacity; ranking = r.ranking })
    ]
noted r (Rank l) =
    elim (nat_le (length r.book.lanes) l) [
      | true ↦ Err Unknown
      | false ↦
          elim (lane_of r.book l).recorded [
            | true ↦ Err Twice
            | false ↦
                Ok (record { book = with_record r.book l; ranking = Some l })
          ]
    ]
noted r (Next lot) =
    elim r.ranking [
      | None ↦ Err Misplaced
      | Some l ↦
          elim (nat_le 256 lot) [
            | true ↦ Err Unknown
            | false ↦
                elim (has (lane_of r.book l).ranking lot) [
                  | true ↦ Err Twice
                  | false ↦
                      Ok (record { book = with_lot r.book l lot; ranking = r.ranking })
                ]
          ]
    ]

-- one judge after the other: the first refusal stands
abbrev pub before : {A B E : Type 0} → Result A E → Result B E → Result B E
before (Ok a) t = t
before (Err e) t = Err e

-- a word that is not strange: the record reader judges it first, then the book
abbrev pub judge : Reading → Option BookWord → Result Reading Refusal
judge r None = Err Strange
judge r (Some b) = before (admits (progress_of r) b) (noted r b)

-- one word of the sheet
abbrev pub taken : Reading → ℕ → Result Reading Refusal
taken r w = judge r (book_word w)

-- the words of a sheet in order, from a place on; the first refused word is told
abbrev pub walk : Reading → ℕ → List ℕ → Result Reading Fault
walk r place [] = Ok r
walk r place (w ∷ ws) = elim (taken r w) [ Err x ↦ Err (fault x place) | Ok s ↦ walk s (suc place) ws ]

-- what a sheet says, or its refusal
abbrev pub opening : List ℕ → Result Contents Fault
opening ws = elim (walk unread 0 ws) [ Err f ↦ Err f | Ok r ↦ Ok r.book ]

-- what a book that was read says
abbrev pub said : Result Book Fault → Result Contents Fault
said (Ok b) = Ok (contents b)
said (Err f) = Err f

-- what opening a sheet answers
abbrev pub answered : Result Contents Fault → Result (Unit {0}) Fault
answered (Ok c) = Ok tt
answered (Err f) = Err f

-- what the book says afterwards: what the sheet says, and nothing if it is refused
abbrev pub left : Result Contents Fault → Contents
left (Ok c) = c
left (Err f) = nothing

-- what a call answers and leaves, where the definition gives a reading or a refusal
abbrev pub Outcome : {E : Type 0} → Result Reading E → Result (Unit {0}) E → Reading → Type 0
Outcome (Ok s) answer after = (answer ≡ Ok tt) × (after ≡ s)
Outcome (Err x) answer after = answer ≡ Err x
