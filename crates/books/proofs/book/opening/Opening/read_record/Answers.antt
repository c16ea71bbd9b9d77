use Rattle.std.proofs.Common.{sym, ◌∙◌}
use Rattle.std.proofs.lemmas.Result.{err_from_is_err_and}
use Rattle.books.proofs.Walks.{accepted_outcome, refused_outcome, outcome_refused, at_accepted, at_refused}
use Rattle.books.proofs.book.opening.Opening.read_record.Goals as goal

pub loop-i-preserved : goal.loop-i-preserved
loop-i-preserved c =
    let now = c.loop-i in
    let read = accepted_outcome _ c.read_word.new.self c.in_ok-read_word.ensures in
    let next = at_accepted c.args.part.words.now now.i c.loop-i-test.true now.self c.read_word.new.self c.args.part.place now.invariant.passing read in
    record { passing = next.0; same = next.1 ∙ now.invariant.same }

pub returns-in_err-read_word : goal.returns-in_err-read_word
returns-in_err-read_word c =
    let now = c.loop-i in
    let f = c.in_err-read_word.field-0.0 in
    let refused = refused_outcome _ f c.read_word.new.self c.in_err-read_word.ensures in
    let stopped = at_refused c.args.part.words.now now.i c.loop-i-test.true now.self c.args.part.place f refused in
    let out = err_from_is_err_and c.from_residual.result c.from_residual.ensures.1 in
    rw (out.1, out.2) (outcome_refused _ f c.read_word.new.self (sym now.invariant.same ∙ stopped))
