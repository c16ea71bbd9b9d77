-- A slip as a round reads it.
use Rattle.std.specs.Prelude.{ℕ, suc, true, false, List, [], ◌∷◌, ◌++◌, map, length, is_some, Some, None, Ok, Err, Option, Result, nat_le, slice_index_or}
use Rattle.std.specs.Option.{option_map}
use Rattle.sheets.specs.declared.fault.Fault.{Fault}
use Rattle.sheets.specs.declared.fault.Refusal.{Refusal}
use Rattle.sheets.specs.declared.fault.Refusal.TheVariants.{Strange, Misplaced, TooMany, Unknown, Twice}
use Rattle.sheets.specs.declared.word.SlipWord.{SlipWord}
use Rattle.sheets.specs.declared.word.SlipWord.TheVariants.{Lot, Wish}
use Rattle.sheets.specs.Faults.{fault, located}
use Rattle.sheets.specs.Words.{slip_word}
use Rattle.sheets.specs.Slips.{taken_apart}
use Rattle.books.specs.Lanes.{has}
use Rattle.boards.specs.declared.wishes.Wishes.{Wishes}

-- the lanes on a list
abbrev pub list_of : Wishes → List ℕ
list_of w = w.lanes.items

-- a word behind the LOT word, in a book of n lanes, where the list so far is xs: the list with its lane, or the refusal
abbrev pub wish_more : ℕ → List ℕ → SlipWord → Result (List ℕ) Refusal
wish_more n xs (Lot lot) = Err Misplaced
wish_more n xs (Wish lane) =
    elim (nat_le 12 (length xs)) [
      | true ↦ Err TooMany
      | false ↦
          elim (nat_le n lane) [
            | true ↦ Err Unknown
            | false ↦
                elim (has xs lane) [ true ↦ Err Twice | false ↦ Ok (xs ++ lane ∷ []) ]
          ]
    ]

-- the same of a word at its place
abbrev pub wished : ℕ → List ℕ → ℕ → ℕ → Result (List ℕ) Fault
wished n xs place w =
    elim (slip_word w) [
      | None ↦ Err (fault Strange place)
      | Some s ↦ located place (wish_more n xs s)
    ]

-- the words behind the LOT word in order, from a place on
abbrev pub wishes_from : ℕ → List ℕ → ℕ → List ℕ → Result (List ℕ) Fault
wishes_from n xs place [] = Ok xs
wishes_from n xs place (w ∷ ws) = elim (wished n xs place w) [ Err f ↦ Err f | Ok ys ↦ wishes_from n ys (suc place) ws ]

-- the list of each lot, and none where no slip has come
abbrev pub Lists : Type 0
Lists = List (Option (List ℕ))

abbrev pub list_at : Lists → ℕ → Option (List ℕ)
list_at ls i = slice_index_or ls i None

-- the lists in a table
abbrev pub lists_of : List (Option Wishes) → Lists
lists_of os = map (option_map list_of) os

-- a slip in a book of n lanes, after those that were accepted before: its lot and its list, or the refusal
abbrev pub entering : ℕ → Lists → List ℕ → Result (ℕ × List ℕ) Fault
entering n ls ws =
    elim (taken_apart ws) [
      | Err f ↦ Err f
      | Ok p ↦
          elim (nat_le 256 p.0) [
            | true ↦ Err (fault Unknown 0)
            | false ↦
                elim (is_some (list_at ls p.0)) [
                  | true ↦ Err (fault Twice 0)
                  | false ↦
                      elim (wishes_from n [] 1 p.1) [ Err f ↦ Err f | Ok xs ↦ Ok (p.0, xs) ]
                ]
          ]
    ]
