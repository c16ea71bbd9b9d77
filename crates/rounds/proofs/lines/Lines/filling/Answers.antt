use Rattle.std.proofs.Common.{◌+◌, ◌<◌, List, length, take, sym, ap, ◌∙◌, subst, arith, length-take}
use Rattle.books.specs.Contents.{contents}
use Rattle.books.proofs.Laid.{book_laid}
use Rattle.boards.specs.declared.line.Line.{Line}
use Rattle.boards.specs.Boards.{filling}
use Rattle.boards.proofs.Seats.{Counts, seated_few, counts_none, counts_more, counts_same, counts_all}
use Rattle.rounds.proofs.lines.Lines.filling.Goals as goal
use Rattle.rounds.proofs.lines.Lines.filling.Goals.{in-Some, in_default}

pub overflow_add-counts : goal.overflow_add-counts
overflow_add-counts c =
    let b = contents c.args.book.now in
    let ys = c.self.inside.lines in
    let i = c.loop-line.line-index in
    let p = c.in-Some.place in
    omega (arith, c.loop-line.invariant.1 p c.in-Some.ensures.on_card, seated_few b (take i ys) c.args.shed p, length-take i ys, c.loop-line-test.true)

pub loop-line-init : goal.loop-line-init
loop-line-init c = counts_none (contents c.args.book.now) c.args.shed

pub loop-line-preserved : goal.loop-line-preserved
loop-line-preserved c =
    let b = contents c.args.book.now in
    let laid = book_laid c.args.book.now in
    let ys = c.self.inside.lines in
    let i = c.loop-line.line-index in
    let inside : i < length ys = omega (arith, c.self.invariant, c.loop-line-test.true) in
    let g = c.args.shed in
    let xs = c.loop-line.counts in
    elim c.match-seat.branch [
      | in-Some w ↦ subst (Counts b (take (i + 1) ys) g) (sym w.counts-is) (counts_more b laid g ys i inside xs c.loop-line.invariant w.in-Some.place w.in-Some.ensures.on_card (sym w.in-Some.ensures.place))
      | in_default w ↦ subst (Counts b (take (i + 1) ys) g) (sym w.counts-is) (counts_same b laid g ys i inside xs c.loop-line.invariant (sym w.in_default.ensures.place))
    ]

pub returns : goal.returns
returns c =
    let b = contents c.args.book.now in
    let ys = c.self.inside.lines in
    counts_all b c.args.shed ys c.loop-line.line-index (omega (arith, c.self.invariant, c.loop-line-test.false)) c.loop-line.counts c.loop-line.invariant
    ∙ ap (λ (zs : List Line). filling b zs c.args.shed) c.self.view_is
