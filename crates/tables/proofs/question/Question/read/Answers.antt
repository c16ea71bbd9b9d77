use Rattle.std.proofs.Common.{◌≡◌, Ok, Err, Result, sym, ap, ◌∙◌, rules, tests}
use Rattle.std.specs.Iterator.Adapters.{filter_steps}
use Rattle.std.specs.Result.{IsErr, IsErrAnd, result_from_control_flow}
use Rattle.std.specs.Slice.Iter.{split_steps}
use Rattle.tables.specs.declared.complaint.Complaint.{Complaint}
use Rattle.tables.specs.declared.complaint.Complaint.TheVariants.{NoCap}
use Rattle.tables.specs.Cuts.{words}
use Rattle.tables.specs.Questions.{Asked, asks, asked, with_word, with_words}
use Rattle.tables.proofs.Readings.{YieldsList-words, judged_none, judged_first}
use Rattle.tables.proofs.TryFolds.{try_fold_from_yields_List}
use Rattle.tables.proofs.question.Question.read.Goals as goal

pub returns-in_err-cap : goal.returns-in_err-cap
returns-in_err-cap c =
    let line = c.args.line.now in
    let none = judged_none (filter_steps (split_steps _) _) _ _ (words line) _
    (YieldsList-words _ _ line c.split.ensures.rest c.split.ensures.done c.split.ensures.closure (λ x b q k. search rules) c.filter-words.ensures.source c.filter-words.ensures.closure (λ x b q k. search (rules, tests)))
    c.next.ensures.steps (search rules) in
    let out : c.from_residual.result ≡ Err NoCap = search rules in
    ap asked out ∙ sym none

pub returns-in_err-with_cap : goal.returns-in_err-with_cap
returns-in_err-with_cap c =
    let line = c.args.line.now in
    let first = judged_first (filter_steps (split_steps _) _) _ _ c.in_ok-cap.cap (words line) _
    (YieldsList-words _ _ line c.split.ensures.rest c.split.ensures.done c.split.ensures.closure (λ x b q k. search rules) c.filter-words.ensures.source c.filter-words.ensures.closure (λ x b q k. search (rules, tests)))
    c.next.ensures.steps (search rules) in
    let out : c.from_residual-in_err-with_cap.result ≡ Err c.in_err-with_cap.field-0.0 = search rules in
    ap asked out ∙ ap (λ r. with_words r first.0) c.in_err-with_cap.ensures ∙ sym first.1

pub returns : goal.returns
returns c =
    let line = c.args.line.now in
    let first = judged_first (filter_steps (split_steps _) _) _ _ c.in_ok-cap.cap (words line) _
    (YieldsList-words _ _ line c.split.ensures.rest c.split.ensures.done c.split.ensures.closure (λ x b q k. search rules) c.filter-words.ensures.source c.filter-words.ensures.closure (λ x b q k. search (rules, tests)))
    c.next.ensures.steps (search rules) in
    try_fold_from_yields_List {Z = Result Asked Complaint} _ (λ x. x.now) _ (λ o k. o ≡ result_from_control_flow k) (λ e o. IsErr o × IsErrAnd o (λ x. x ≡ e.0)) asked (λ q ws. with_words (Ok (asks q)) ws) _
    (λ q r is. ap asked is)
    (λ q n x o f ws call is. (search rules, let one : asked o ≡ with_word (asks q) x.now = search rules in ap (λ r. with_words r ws) (ap asked (sym is) ∙ one)))
    (λ q x o f e r ws call is out. let one : asked o ≡ with_word (asks q) x.now = search rules in let err : r ≡ Err e.0 = search rules in ap asked err ∙ ap (λ z. with_words z ws) (ap asked (sym is) ∙ one))
    _ _ first.0 c.in_ok-with_cap.field-0 c.try_fold.result c.try_fold.ensures.ran first.2
    ∙ ap (λ r. with_words r first.0) c.in_ok-with_cap.ensures ∙ sym first.1
