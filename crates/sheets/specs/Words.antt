-- The layout of words. Bits 31 to 28 are the kind; a single field is in bits 11 to 0; of two, the first is in bits 23
-- to 12; the other bits are zero.
use Rattle.std.specs.Prelude.{ℕ, ◌/◌, ◌%◌, ◌^◌, ◌≤◌, Bool, true, false, ◌&&◌, Some, None, Option, Result, ◌==◌}
use Rattle.std.specs.Option.{ok_or}
use Rattle.sheets.specs.declared.fault.Fault.{Fault}
use Rattle.sheets.specs.declared.fault.Refusal.{Refusal}
use Rattle.sheets.specs.declared.fault.Refusal.TheVariants.{Strange}
use Rattle.sheets.specs.declared.word.BookWord.{BookWord}
use Rattle.sheets.specs.declared.word.BookWord.TheVariants.{Shed, Lane, Rank, Next}
use Rattle.sheets.specs.declared.word.SlipWord.{SlipWord}
use Rattle.sheets.specs.declared.word.SlipWord.TheVariants.{Lot, Wish}
use Rattle.sheets.specs.Faults.{fault}

abbrev pub kind : ℕ → ℕ
kind w = w / 2 ^ 28

-- a single field, or the second of two
abbrev pub low : ℕ → ℕ
low w = w % 2 ^ 12

-- the first of two fields
abbrev pub high : ℕ → ℕ
high w = w / 2 ^ 12 % 2 ^ 12

-- bits 27 to 12 are zero, as in a word with a single field
abbrev pub lone : ℕ → Bool
lone w = w / 2 ^ 12 % 2 ^ 16 == 0

-- bits 27 to 24 are zero, as in a word with two fields
abbrev pub paired : ℕ → Bool
paired w = w / 2 ^ 24 % 2 ^ 4 == 0

-- what a word says, by the meaning that one kind of input gives its words; refused as strange where it says nothing
abbrev pub converted : {W : Type 0} → (ℕ → Option W) → ℕ → Result W Refusal
converted meaning w = ok_or (meaning w) Strange

-- the same at a place of the input
abbrev pub read_word : {W : Type 0} → (ℕ → Option W) → ℕ → ℕ → Result W Fault
read_word meaning w place = ok_or (meaning w) (fault Strange place)

-- a word of a book sheet; none where it is strange there
abbrev pub book_word : ℕ → Option BookWord
book_word w =
    elim (kind w == 1 && lone w) [
      | true ↦ Some (Shed (low w))
      | false ↦
          elim (kind w == 2 && paired w) [
            | true ↦ Some (Lane (high w) (low w))
            | false ↦
                elim (kind w == 3 && lone w) [
                  | true ↦ Some (Rank (low w))
                  | false ↦
                      elim (kind w == 4 && lone w) [ true ↦ Some (Next (low w)) | false ↦ None ]
                ]
          ]
    ]

-- no field is above 4,095
abbrev pub small : BookWord → Type 0
small (Shed c) = c ≤ 4095
small (Lane t q) = (t ≤ 4095) × (q ≤ 4095)
small (Rank l) = l ≤ 4095
small (Next i) = i ≤ 4095

-- a word of a slip; none where it is strange there
abbrev pub slip_word : ℕ → Option SlipWord
slip_word w =
    elim (kind w == 5 && lone w) [
      | true ↦ Some (Lot (low w))
      | false ↦
          elim (kind w == 6 && lone w) [ true ↦ Some (Wish (low w)) | false ↦ None ]
    ]
