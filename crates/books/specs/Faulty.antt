-- What is wrong with a word of a book sheet, told by the words before it alone.
use Rattle.std.specs.Prelude.{◌≡◌, ℕ, ◌+◌, ◌<◌, ◌≤◌, Bool, true, false, cond, not, ◌||◌, List, [], ◌∷◌, map, reverse, length, take, Some, None, Ok, Err, Option, Result, ◌==◌, nat_le, nat_lt, slice_index}
use Rattle.sheets.specs.declared.fault.Refusal.{Refusal}
use Rattle.sheets.specs.declared.fault.Refusal.TheVariants.{Strange, Misplaced, TooMany, Unknown, Twice, Overtargeted}
use Rattle.sheets.specs.declared.fault.Fault.{Fault}
use Rattle.sheets.specs.declared.word.BookWord.{BookWord}
use Rattle.sheets.specs.declared.word.BookWord.TheVariants.{Shed, Lane, Rank, Next}
use Rattle.sheets.specs.Faults.{standing, fault}
use Rattle.sheets.specs.Words.{book_word}

-- the kinds of words; a strange word is of none
abbrev pub is_shed : Option BookWord → Bool
is_shed (Some (Shed c)) = true
is_shed _ = false

abbrev pub is_lane : Option BookWord → Bool
is_lane (Some (Lane t q)) = true
is_lane _ = false

abbrev pub is_rank : Option BookWord → Bool
is_rank (Some (Rank l)) = true
is_rank _ = false

-- a RANK word that names lane l
abbrev pub ranks_lane : ℕ → Option BookWord → Bool
ranks_lane l (Some (Rank m)) = m == l
ranks_lane l _ = false

-- a NEXT word that names lot i
abbrev pub names_lot : ℕ → Option BookWord → Bool
names_lot i (Some (Next j)) = j == i
names_lot i _ = false

-- the target of a LANE word
abbrev pub target_in : Option BookWord → ℕ
target_in (Some (Lane t q)) = t
target_in _ = 0

-- the words before a word are listed the nearest first
abbrev pub any_of : (Option BookWord → Bool) → List (Option BookWord) → Bool
any_of p [] = false
any_of p (o ∷ os) = p o || any_of p os

abbrev pub count_of : (Option BookWord → Bool) → List (Option BookWord) → ℕ
count_of p [] = 0
count_of p (o ∷ os) = cond (p o) 1 0 + count_of p os

abbrev pub targets_in : List (Option BookWord) → ℕ
targets_in [] = 0
targets_in (o ∷ os) = target_in o + targets_in os

-- those behind the nearest word of a kind
abbrev pub since : (Option BookWord → Bool) → List (Option BookWord) → List (Option BookWord)
since p [] = []
since p (o ∷ os) = cond (p o) [] (o ∷ since p os)

-- the cap of the nearest SHED word
abbrev pub nearest_cap : List (Option BookWord) → ℕ
nearest_cap [] = 0
nearest_cap (Some (Shed c) ∷ os) = c
nearest_cap (_ ∷ os) = nearest_cap os

-- a SHED or LANE word after a RANK word, a LANE word with no SHED word before it, a NEXT word before any RANK word
abbrev pub misplaced : List (Option BookWord) → BookWord → Bool
misplaced os (Shed c) = any_of is_rank os
misplaced os (Lane t q) = any_of is_rank os || not (any_of is_shed os)
misplaced os (Rank l) = false
misplaced os (Next i) = not (any_of is_rank os)

-- a ninth shed, a ninth lane of a shed, a 33rd lane
abbrev pub too_many : List (Option BookWord) → BookWord → Bool
too_many os (Shed c) = nat_le 8 (count_of is_shed os)
too_many os (Lane t q) = nat_le 8 (count_of is_lane (since is_shed os)) || nat_le 32 (count_of is_lane os)
too_many os _ = false

-- a lane that is not on the sheet, a lot above 255
abbrev pub unknown : List (Option BookWord) → BookWord → Bool
unknown os (Rank l) = nat_le (count_of is_lane os) l
unknown os (Next i) = nat_le 256 i
unknown os _ = false

-- a second ranking record for a lane, a lot twice in a ranking
abbrev pub twice : List (Option BookWord) → BookWord → Bool
twice os (Rank l) = any_of (ranks_lane l) os
twice os (Next i) = any_of (names_lot i) (since is_rank os)
twice os _ = false

-- a target above its capacity, or the targets of the shed so far above its cap
abbrev pub overtargeted : List (Option BookWord) → BookWord → Bool
overtargeted os (Lane t q) = nat_lt q t || nat_lt (nearest_cap os) (targets_in (since is_shed os) + t)
overtargeted os _ = false

-- has a word this fault, behind those words?
abbrev pub wrong : Refusal → List (Option BookWord) → BookWord → Bool
wrong Misplaced os b = misplaced os b
wrong TooMany os b = too_many os b
wrong Unknown os b = unknown os b
wrong Twice os b = twice os b
wrong Overtargeted os b = overtargeted os b
wrong _ os b = false

-- a strange word has no other fault
abbrev pub strange_only : Refusal → Bool
strange_only Strange = true
strange_only _ = false

abbrev pub faulty : Refusal → List (Option BookWord) → Option BookWord → Bool
faulty x os None = strange_only x
faulty x os (Some b) = wrong x os b

-- word p of a sheet has a fault
abbrev pub HasFault : List ℕ → ℕ → Refusal → Type 0
HasFault ws p x = faulty x (map book_word (reverse (take p ws))) (book_word (slice_index ws p)) ≡ true

-- a sheet is accepted exactly if no word of it has a fault; a refusal names the first faulty word and, of its faults,
-- the one with the smallest number
abbrev pub FirstFault : List ℕ → Result (Unit {0}) Fault → Type 0
FirstFault ws (Ok u) = (p : ℕ) (x : Refusal) → p < length ws → HasFault ws p x → ⊥
FirstFault ws (Err f) =
    (f ≡ fault f.refusal f.place) × (f.place < length ws) × HasFault ws f.place f.refusal ×
    ((x : Refusal) → HasFault ws f.place x → (standing f.refusal).0 ≤ (standing x).0) ×
    ((p : ℕ) (x : Refusal) → p < f.place → HasFault ws p x → ⊥)
