use Rattle.std.proofs.Common.{◌≡◌, ◌+◌, true, drop}
use Rattle.sheets.specs.Progress.{passes}
use Rattle.books.specs.Opening.{progress_of, walk}
use Rattle.books.proofs.book.opening.Opening.read_record.Given as goal

abbrev pub invariant-loop-i : goal.invariant-loop-i
invariant-loop-i l = record {
  passing : passes (progress_of l.self) (drop l.i l.part.words.now) ≡ true;
  same : walk l.self (l.part.place + l.i) (drop l.i l.part.words.now) ≡ walk l.initial.self l.part.place l.part.words.now;
}
