-- Lists of calls on a new round, and the laws of every such list.
use Rattle.std.specs.Prelude.{◌≡◌, ℕ, true, false, ◌⊎◌, List, [], ◌∷◌, ◌++◌, length, replicate, is_some, Some, None, Ok, Err, count_by, Result, slice_set}
use Rattle.sheets.specs.declared.fault.Fault.{Fault}
use Rattle.sharing.specs.Rules.{at, Meaning}
use Rattle.books.specs.Contents.{Contents}
use Rattle.matching.specs.Offers.{chosen}
use Rattle.matching.specs.Stands.{Stands}
use Rattle.matching.specs.Vectors.{Least}
use Rattle.boards.specs.Lines.{looks}
use Rattle.boards.specs.Slips.{Lists, entering}
use Rattle.boards.specs.Formed.{Formed}
use Rattle.boards.specs.Boards.{Board, line_of, wishes, holding, tried, begun, enter, apply, settle}

-- a slip of any words, an application of any lot, or settling
pub data Call : Type 0 where
  enters : List ℕ → Call
  applies : ℕ → Call
  settles : Call

abbrev pub call : Meaning → Board → Call → Board
call m s (enters ws) = enter s ws
call m s (applies i) = apply m s i
call m s settles = settle m s

abbrev pub calls : Meaning → Board → List Call → Board
calls m s [] = s
calls m s (k ∷ ks) = calls m (call m s k) ks

-- a new round after a list of calls
abbrev pub after : Contents → Meaning → List Call → Board
after c m ks = calls m (begun c) ks

-- the lists after a slip
abbrev pub listed : Lists → Result (ℕ × List ℕ) Fault → Lists
listed ls (Err f) = ls
listed ls (Ok p) = slice_set ls p.0 (Some p.1)

-- the lots and lists that calls accept in a book of n lanes, on top of those before; no rule and no line is asked
abbrev pub accepts : ℕ → Lists → List Call → Lists
accepts n ls [] = ls
accepts n ls (enters ws ∷ ks) = accepts n (listed ls (entering n ls ws)) ks
accepts n ls (applies i ∷ ks) = accepts n ls ks
accepts n ls (settles ∷ ks) = accepts n ls ks

-- which lots with which lists a list of calls on a new round accepts
abbrev pub accepted : Contents → List Call → Lists
accepted c ks = accepts (length c.lanes) (replicate 256 None) ks

-- a lot is held exactly where the rule chooses it from all that was ever offered, and nobody has tried a wish beyond the
-- least closed vector
abbrev pub Stand : Meaning → Board → Type 0
Stand m s = Stands (length s.book.lanes) (chosen s.book m) (wishes s) (tried s) (holding s)

-- a round that a list of calls leads to from a new one: it has the book, and the lists that were accepted, and it stands
pub record Reached (c : Contents) (m : Meaning) (ks : List Call) (s : Board) : Type 0 where
  pub runs : s ≡ after c m ks
  pub same_book : s.book ≡ c
  pub accepted_lists : s.lists ≡ accepted c ks
  pub formed : Formed s
  pub stand : Stand m s

-- every list of calls leads to such a round
abbrev pub EveryRun : Contents → Meaning → Type 0
EveryRun c m = (ks : List Call) → Reached c m ks (after c m ks)

-- one call more on a round that a list of calls has led to
abbrev pub GoesOn : Meaning → Board → Call → Board → Type 0
GoesOn m s k t = (ks : List Call) → s ≡ after s.book m ks → Reached s.book m (ks ++ k ∷ []) t

-- lot x claims lane l when lot i applies: it is held there, or it is lot i and l is its next wish
abbrev pub Claims : Board → ℕ → ℕ → ℕ → Type 0
Claims s i x l = (holding s l x ≡ true) ⊎ ((x ≡ i) × (looks (line_of s i) ≡ true) × (at (wishes s i) (tried s i) ≡ l))

-- of two lots that claim lanes and do not have them afterwards the one is the other
abbrev pub AtMostOneGoes : Board → ℕ → Board → Type 0
AtMostOneGoes s i t = (x y l k : ℕ) → Claims s i x l → holding t l x ≡ false → Claims s i y k → holding t k y ≡ false → x ≡ y

-- nobody looks
abbrev pub Quiet : Board → Type 0
Quiet s = (i : ℕ) → looks (line_of s i) ≡ false

-- a settled round that a list of calls has led to: each lot has tried as many wishes as the least closed vector says
abbrev pub SettlesLeast : Meaning → Board → Board → Type 0
SettlesLeast m s t = (ks : List Call) → s ≡ after s.book m ks → Least (chosen t.book m) (wishes t) (tried t)

-- how many lots have a list
abbrev pub entered_lots : Lists → ℕ
entered_lots ls = count_by is_some ls
