use Rattle.std.proofs.Common.{◌≡◌, suc, ◌+◌, length, get_or, drop, sym, ap, ◌∙◌, arith}
use Rattle.std.proofs.lemmas.List.{at_drop_all}
use Rattle.std.proofs.lemmas.Result.{err_from_is_err_and}
use Rattle.books.specs.Contents.{contents}
use Rattle.boards.specs.Slips.{list_of, wished, wishes_from}
use Rattle.boards.proofs.Walks.{accepted_pushed, refused_pushed, wishes_more, wishes_refused}
use Rattle.boards.proofs.wishes.Wishes.read.Goals as goal

pub loop-index-preserved : goal.loop-index-preserved
loop-index-preserved c =
    let n = length (contents c.args.book.now).lanes in
    let ws = c.args.words.now in
    let i = c.loop-index.index in
    let xs = list_of c.loop-index.wishes in
    let ys = list_of c.read_wish.new.self in
    let here = accepted_pushed (wished n xs (i + 1) (get_or ws i 0)) ys c.in_ok-read_wish.ensures in
    let more : suc (i + 1) ≡ i + 1 + 1 = omega arith in
    sym (wishes_more n xs (i + 1) ws i ys c.loop-index-test.true here ∙ ap (λ p. wishes_from n ys p (drop (i + 1) ws)) more) ∙ c.loop-index.invariant

pub returns-in_err-read_wish : goal.returns-in_err-read_wish
returns-in_err-read_wish c =
    let n = length (contents c.args.book.now).lanes in
    let ws = c.args.words.now in
    let i = c.loop-index.index in
    let xs = list_of c.loop-index.wishes in
    let f = c.in_err-read_wish.field-0.0 in
    let here = refused_pushed (wished n xs (i + 1) (get_or ws i 0)) f (list_of c.read_wish.new.self) c.in_err-read_wish.ensures in
    let out = err_from_is_err_and c.from_residual.result c.from_residual.ensures.1 in
    rw (out.1, out.2) (sym (wishes_refused n xs (i + 1) ws i f c.loop-index-test.true here) ∙ c.loop-index.invariant)

pub returns : goal.returns
returns c =
    let i = c.loop-index.index in
    sym (at_drop_all (wishes_from (length (contents c.args.book.now).lanes) (list_of c.loop-index.wishes) (i + 1)) c.args.words.now i c.loop-index-test.false) ∙ c.loop-index.invariant
