-- What the types of a table and of a round say, as what every round has.
use Rattle.std.proofs.Common.{◌≡◌, sym, subst}
use Rattle.books.specs.Laid.{Laid}
use Rattle.books.proofs.Laid.{book_laid}
use Rattle.rounds.specs.declared.table.Table.{Table}
use Rattle.boards.specs.Boards.{Board}
use Rattle.boards.specs.Formed.{Formed}
use Rattle.rounds.specs.Lots.{RoundFacts}
use Rattle.rounds.specs.OpenRounds.{OpenRound}
use Rattle.rounds.specs.Tables.{board}
use Rattle.boards.proofs.CallsRun.{held_known}

-- a board with these facts has, where its book is laid out, all that every round has
formed_with : (s : Board) → Laid s.book → RoundFacts s → Formed s
formed_with s laid f = record {
  laid = laid;
  every_line = f.lines_fit.0;
  every_list = f.lists_lawful.0;
  known = f.lists_lawful.1;
  once = f.lists_lawful.2;
  few = f.lists_lawful.3;
  fit_lists = f.lines_fit.1;
  fits = record { ranked = λ l i k. f.held_ranked l i; capacity = f.lanes_within; store = f.sheds_within };
  counted = f.counted;
}

pub formed : (t : Table) → Formed (board t)
formed t = formed_with (board t) (book_laid t.book) t.facts

-- the book of every round is laid out
pub open_laid : {R : Type 0} (r : OpenRound R) → Laid r.board.book
open_laid r = subst Laid (sym r.its_book) (book_laid r.book)

-- so its board has all that every round has
pub open_formed : {R : Type 0} (r : OpenRound R) → Formed r.board
open_formed r = formed_with r.board (open_laid r) r.facts

pub facts : (s : Board) → Formed s → RoundFacts s
facts s v = record {
  lists_lawful = (v.every_list, v.known, v.once, v.few);
  lines_fit = (v.every_line, v.fit_lists);
  held_ranked = λ l i o. v.fits.ranked l i (held_known s v l i o) o;
  lanes_within = v.fits.capacity;
  sheds_within = v.fits.store;
  counted = v.counted;
}

-- the same of a board that equals one
pub facts_of : (s t : Board) → s ≡ t → Formed t → RoundFacts s
facts_of s t e v = facts s (subst Formed (sym e) v)
