use Rattle.std.proofs.Common.{◌≡◌, ℕ, suc, ◌+◌, Some, None, Ok, Option, Result, sym, ap, ◌∙◌, subst, arith, rules}
use Rattle.std.proofs.lemmas.Result.{err_from_is_err_and}
use Rattle.sheets.specs.declared.fault.Fault.{Fault}
use Rattle.boards.specs.declared.outcome.Outcome.{Outcome}
use Rattle.boards.specs.Boards.{outcome, application, outcome_of, board_of, apply}
use Rattle.boards.specs.Searches.{moved}
use Rattle.rounds.specs.Lots.{board_from, RoundFacts}
use Rattle.rounds.specs.Tables.{board}
use Rattle.boards.proofs.AppliesTo.{gone, applies, idle, applies_below, count_few}
use Rattle.boards.proofs.CallsRun.{apply_keeps}
use Rattle.rounds.proofs.FormedTables.{formed, facts}
use Rattle.rounds.proofs.table.Table.apply.Given.{Over}
use Rattle.rounds.proofs.table.Table.apply.Goals as goal
use Rattle.rounds.proofs.table.Table.apply.Goals.{After-apply}

-- what the application answers and leaves, by the lot that has to go
module _ (g : Over) (c : After-apply g) where
  told : application (g.R.SharingRule.meaning c.args.rule.now) (board c.args.self.now) c.args.lot ≡ Ok (outcome c.args.lot c.leaver-leaver.result, gone (board c.args.self.now) c.args.lot c.leaver-leaver.result)
  told =
      let t = c.args.self.now in
      let some : c.next_wish.result ≡ Some c.in_ok-lane.lane = grind arith in
      applies (g.R.SharingRule.meaning c.args.rule.now) (g.met.R.SharingRule.lawful c.args.rule.now) (board t) (formed t) c.args.lot c.in_ok-lane.lane (sym c.next_wish.ensures ∙ some)
      ∙ ap (λ (o : Option ℕ). Ok (outcome c.args.lot o, gone (board t) c.args.lot o)) (sym c.leaver-leaver.ensures)

  left : board_from c.args.self.now.book c.apply.new.self ≡ apply (g.R.SharingRule.meaning c.args.rule.now) (board c.args.self.now) c.args.lot
  left =
      let t = c.args.self.now in
      let more : t.lots.count + 1 ≡ suc t.lots.count = omega arith in
      let lots : c.apply.new.self ≡ (record { lists = t.lots.lists; lines = moved t.lots.lists t.lots.lines c.args.lot c.leaver-leaver.result; count = suc t.lots.count }) = rw (← more) c.apply.ensures.lots in
      ap (board_from t.book) lots ∙ sym (ap (board_of (board t)) told)

pub returns-in_err-lane : goal.returns-in_err-lane
returns-in_err-lane g c =
    let t = c.args.self.now in
    let none : c.next_wish.result ≡ None = grind arith in
    let e = idle (g.R.SharingRule.meaning c.args.rule.now) (g.met.R.SharingRule.lawful c.args.rule.now) (board t) (formed t) c.args.lot (sym c.next_wish.ensures ∙ none) in
    let p = err_from_is_err_and c.from_residual.result c.from_residual.ensures.1 in
    record { answer = rw (p.1, p.2) (grind (arith, ap outcome_of e)); board = sym (ap (board_of (board t)) e) }

pub overflow_cast-lot : goal.overflow_cast-lot
overflow_cast-lot g c =
    let t = c.args.self.now in
    let some : c.next_wish.result ≡ Some c.in_ok-lane.lane = grind arith in
    let below = applies_below (g.R.SharingRule.meaning c.args.rule.now) (g.met.R.SharingRule.lawful c.args.rule.now) (board t) (formed t) c.args.lot c.in_ok-lane.lane (sym c.next_wish.ensures ∙ some) in
    search rules

pub apply-requires : goal.apply-requires
apply-requires g c = omega (arith, count_few (board c.args.self.now) (formed c.args.self.now))

pub invariant_of-self : goal.invariant_of-self
invariant_of-self g c =
    let t = c.args.self.now in
    let m = g.R.SharingRule.meaning c.args.rule.now in
    record { facts = subst RoundFacts (sym (left g c)) (facts (apply m (board t) c.args.lot) (apply_keeps m (g.met.R.SharingRule.lawful c.args.rule.now) (board t) (formed t) c.args.lot).0) }

pub returns : goal.returns
returns g c =
    let d = (goal.at.returns g c).After-apply in
    record { answer = ap {B = Result Outcome Fault} Ok c.apply.ensures.answer ∙ sym (ap outcome_of (told g d)); board = left g d }
