use Rattle.std.proofs.Common.{◌≡◌, ◌+◌, length, drop, Ok, sym, ap, ◌∙◌}
use Rattle.std.proofs.lemmas.List.{drop-drop}
use Rattle.std.proofs.lemmas.Result.{err_from_is_err_and}
use Rattle.sheets.specs.Records.{size, pages}
use Rattle.books.specs.Opening.{walk}
use Rattle.books.proofs.Walks.{accepted_outcome, refused_outcome, part_refused, part_handed, part_read, part_stopped, opening_refused}
use Rattle.books.proofs.book.opening.Opening.read.Goals as goal

pub returns-in_err-part : goal.returns-in_err-part
returns-in_err-part c =
    let reader = c.loop-part.reader in
    let now = c.loop-part.invariant in
    let f = c.in_err-part.field-0.0 in
    let stopped = part_refused c.loop-part.opening reader.progress reader.at (drop reader.at reader.words.now) now.progress f c.in_err-part.ensures.part in
    let out = err_from_is_err_and c.from_residual.result c.from_residual.ensures.1 in
    rw (out.1, out.2) (sym (opening_refused c.args.sheet.now f (sym now.same ∙ stopped)))

pub read_record-requires-clause-passing : goal.read_record-requires-clause-passing
read_record-requires-clause-passing c =
    let reader = c.loop-part.reader in
    let handed_out = ap (λ o. pages (Ok o)) (sym c.in-Some.is) ∙ c.in_ok-part.ensures.part in
    (part_handed c.loop-part.opening reader.progress reader.at (drop reader.at reader.words.now) c.loop-part.invariant.progress c.in-Some.part handed_out).passing

pub loop-part-preserved : goal.loop-part-preserved
loop-part-preserved c =
    let reader = c.loop-part.reader in
    let then = c.next_record.new.self in
    let now = c.loop-part.invariant in
    let part = c.in-Some.part in
    let s = c.read_record.new.self in
    let handed_out = ap (λ o. pages (Ok o)) (sym c.in-Some.is) ∙ c.in_ok-part.ensures.part in
    let read = part_read c.loop-part.opening reader.progress reader.at (drop reader.at reader.words.now) now.progress part handed_out s (accepted_outcome _ s c.in_ok-read_record.ensures) in
    let end : then.at ≡ reader.at + length part.words.now = c.in_ok-part.ensures.at ∙ ap (λ o. reader.at + size (Ok o)) c.in-Some.is in
    record {
      sheet = c.in_ok-part.ensures.words ∙ now.sheet;
      progress = c.in_ok-part.ensures.progress ∙ read.0;
      same =
          ap (λ ws. walk s then.at (drop then.at ws)) c.in_ok-part.ensures.words
          ∙ ap (λ n. walk s n (drop n reader.words.now)) end
          ∙ ap (walk s (reader.at + length part.words.now)) (sym (drop-drop (length part.words.now) reader.at reader.words.now))
          ∙ read.1
          ∙ now.same;
    }

pub returns-in_err-read_record : goal.returns-in_err-read_record
returns-in_err-read_record c =
    let reader = c.loop-part.reader in
    let now = c.loop-part.invariant in
    let f = c.in_err-read_record.field-0.0 in
    let handed_out = ap (λ o. pages (Ok o)) (sym c.in-Some.is) ∙ c.in_ok-part.ensures.part in
    let refused = refused_outcome _ f c.read_record.new.self c.in_err-read_record.ensures in
    let stopped = part_stopped c.loop-part.opening reader.progress reader.at (drop reader.at reader.words.now) now.progress c.in-Some.part handed_out f refused in
    let out = err_from_is_err_and c.from_residual-in_err-read_record.result c.from_residual-in_err-read_record.ensures.1 in
    rw (out.1, out.2) (sym (opening_refused c.args.sheet.now f (sym now.same ∙ stopped)))
