use Rattle.std.proofs.Common.{◌≡◌, length, sym, ◌∙◌, rules}
use Rattle.std.proofs.lemmas.Iterator.{YieldsList-from_slice, YieldsList-from_take, YieldsList-from_zip}
use Rattle.std.proofs.lemmas.Iterator.Consumers.{YieldsList-at, YieldsList-end}
use Rattle.std.proofs.lemmas.List.{length-map}
use Rattle.sharing.specs.Cards.{terms}
use Rattle.sharing.specs.Shares.{shares}
use Rattle.sharing.specs.Turns.{turns}
use Rattle.tables.proofs.Told.{turns_told, shares_told}
use Rattle.tables.proofs.question.Question.keeps.Goals as goal

pub returns : goal.returns
returns c =
    let q = c.args.self.now in
    let by-turns = c.keeps-turns.result in
    let by-shares = c.keeps-shares.result in
    let pairs = YieldsList-at c.take-turns-items.ensures.source (YieldsList-from_zip (YieldsList-from_slice by-turns (cc)) (YieldsList-from_slice by-shares (cc))) in
    let all = YieldsList-end (YieldsList-at c.into_iter-turns-iterator.ensures.into_iter_gives (YieldsList-from_take c.len.result pairs c.take-turns-items.ensures.count))
    c.loop-turns.yielded c.loop-turns.turns-iterator c.loop-turns.yielded_by c.next.result c.next.new.self c.in-None.is c.next.ensures.steps in
    let told = c.loop-turns.invariant.2 ∙ all.0 in
    let same : length by-shares ≡ length by-turns = search rules in
    let lanes = c.len.ensures.value ∙ sym (length-map q.card.lanes.items _) in
    record {
      turns = turns_told c.loop-turns.kept.items c.len.result by-turns by-shares same told (terms q.card) lanes turns q.numbers c.keeps-turns.ensures.line_up;
      shares = shares_told c.loop-turns.kept.items c.len.result by-turns by-shares same told (terms q.card) lanes shares q.numbers c.keeps-shares.ensures.line_up;
    }
