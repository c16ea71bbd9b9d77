use Rattle.std.proofs.Common.{◌≡◌, ◌-◌, length, drop}
use Rattle.books.specs.Opening.{unread, progress_of, walk}
use Rattle.books.proofs.book.opening.Opening.read.Given as goal

abbrev pub invariant-loop-part : goal.invariant-loop-part
invariant-loop-part l = record {
  sheet : l.reader.words.now ≡ l.sheet;
  progress : l.reader.progress ≡ progress_of l.opening;
  same : walk l.opening l.reader.at (drop l.reader.at l.reader.words.now) ≡ walk unread 0 l.sheet;
}

abbrev pub decreases-loop-part : goal.decreases-loop-part
decreases-loop-part l = length l.sheet - l.reader.at
