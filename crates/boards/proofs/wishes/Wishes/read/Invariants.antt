use Rattle.std.proofs.Common.{◌≡◌, ◌+◌, [], length, drop}
use Rattle.books.specs.Contents.{contents}
use Rattle.boards.specs.Slips.{list_of, wishes_from}
use Rattle.boards.proofs.wishes.Wishes.read.Given as goal

abbrev pub invariant-loop-index : goal.invariant-loop-index
invariant-loop-index l =
    wishes_from (length (contents l.book).lanes) (list_of l.wishes) (l.index + 1) (drop l.index l.words) ≡ wishes_from (length (contents l.book).lanes) [] 1 l.words
