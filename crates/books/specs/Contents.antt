-- What a book says.
use Rattle.books.specs.declared.book.Book.{Book}
use Rattle.books.specs.Entries.{contents_of}
pub use Rattle.books.specs.Entries.{Contents, nothing, no_shed, no_entry, lane_of, ranking_of, last_shed, last_terms, with_shed, blank_entry, with_lane, recorded_entry, with_record, ranked_entry, with_lot}

-- the terms and entries of a book: all that it says
abbrev pub contents : Book → Contents
contents b = contents_of b.cards.items b.lanes.items
