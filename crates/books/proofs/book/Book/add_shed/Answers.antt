use Rattle.std.proofs.Common.{◌≡◌, sym, subst, arith}
use Rattle.std.proofs.lemmas.Grind.{common_steps}
use Rattle.books.specs.Entries.{contents_of, with_shed}
use Rattle.books.specs.Contents.{contents}
use Rattle.books.specs.Laid.{LanesOrdered}
use Rattle.books.proofs.Standing.{ordered_shed}
use Rattle.books.proofs.book.Book.add_shed.Goals as goal

pub invariant_of-self-clause-ordered : goal.invariant_of-self-clause-ordered
invariant_of-self-clause-ordered c =
    let b = c.args.self.now in
    let is : contents_of c.push.new.self.items b.lanes.items ≡ with_shed (contents b) c.args.cap = grind (arith, common_steps) in
    subst LanesOrdered (sym is) (ordered_shed (contents b) c.args.cap b.ordered)
