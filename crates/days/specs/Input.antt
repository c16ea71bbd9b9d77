-- The words in a day's bytes.
use Rattle.std.specs.Prelude.{ℕ, ◌+◌, ◌*◌, ◌/◌, ◌%◌, Bool, true, false, not, ◌||◌, List, [], ◌∷◌, map, length, take, drop, Some, None, Ok, Err, Option, Result, ◌==◌, nat_le, nat_lt, slice_index}
use Rattle.std.specs.List.{range_with_len}
use Rattle.std.specs.Option.{ok_or}
use Rattle.sheets.specs.declared.fault.Fault.{Fault}
use Rattle.sheets.specs.declared.fault.Refusal.TheVariants.{Ragged}
use Rattle.sheets.specs.Faults.{fault}
use Rattle.books.specs.Contents.{Contents, nothing}
use Rattle.books.specs.Opening.{opening, left}

-- four bytes to a word, the highest first
abbrev pub word_at : List ℕ → ℕ → ℕ
word_at bs p = slice_index bs (4 * p) * 16777216 + slice_index bs (4 * p + 1) * 65536 + slice_index bs (4 * p + 2) * 256 + slice_index bs (4 * p + 3)

abbrev pub words_of : List ℕ → List ℕ
words_of bs = map (word_at bs) (range_with_len 0 (length bs / 4))

-- no whole words, none, or more bytes than a day may have
abbrev pub broken : List ℕ → Bool
broken bs = not (length bs % 4 == 0) || nat_lt (length bs) 4 || nat_lt 46372 (length bs)

-- a day: the words of the book sheet, and the words of the slips behind it
pub record Day : Type 0 where
  pub book : List ℕ
  pub slips : List ℕ

-- the first word says how many book words follow; none where fewer follow
abbrev pub parts : List ℕ → Option Day
parts [] = None
parts (n ∷ ws) = elim (nat_lt (length ws) n) [ true ↦ None | false ↦ Some (record { book = take n ws; slips = drop n ws }) ]

-- the day in the bytes, or ragged
abbrev pub day_of : List ℕ → Result Day Fault
day_of bs = elim (broken bs) [ true ↦ Err (fault Ragged 0) | false ↦ ok_or (parts (words_of bs)) (fault Ragged 0) ]

-- a fault of the book sheet at its place in the whole input, one behind the number of book words
abbrev pub in_day : Fault → Fault
in_day f = fault f.refusal (f.place + 1)

-- what opening the book sheet of a day answers
abbrev pub book_in : Result Contents Fault → Result (Unit {0}) Fault
book_in (Ok c) = Ok tt
book_in (Err f) = Err (in_day f)

-- what opening a day's book answers: the number of slip words behind it, or the refusal
abbrev pub slip_words : Result Day Fault → Result ℕ Fault
slip_words (Err f) = Err f
slip_words (Ok d) = elim (opening d.book) [ Err f ↦ Err (in_day f) | Ok c ↦ Ok (length d.slips) ]

-- what the book says afterwards
abbrev pub day_book : Result Day Fault → Contents
day_book (Err f) = nothing
day_book (Ok d) = left (opening d.book)

-- how many bytes behind the first four are worth reading
abbrev pub bytes_behind : List ℕ → ℕ
bytes_behind head = elim (nat_lt (length head) 4 || nat_le 11593 (word_at head 0)) [ true ↦ 0 | false ↦ 46369 ]
