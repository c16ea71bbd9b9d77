use Rattle.std.proofs.Common.{◌≡◌, ℕ, ◌<◌, ◌≤◌, false, length, is_some, Ok, sym, ap, ◌∙◌, subst, arith}
use Rattle.std.proofs.lemmas.Result.{err_from_is_err_and}
use Rattle.boards.specs.Slips.{list_of, list_at}
use Rattle.boards.specs.Boards.{entered, lot_of, slip_of, enter}
use Rattle.rounds.specs.Lots.{board_from, RoundFacts}
use Rattle.rounds.specs.Tables.{board}
use Rattle.boards.proofs.BoardLists.{slip_unknown, slip_read}
use Rattle.boards.proofs.FormedEnters.{entered_formed}
use Rattle.rounds.proofs.FormedTables.{formed, facts}
use Rattle.rounds.proofs.table.Table.enter.Goals as goal
use Rattle.rounds.proofs.table.Table.enter.Goals.{After-enter}

pub returns-in_err-lot-2-clause-answer : goal.returns-in_err-lot-2-clause-answer
returns-in_err-lot-2-clause-answer c =
    let s = board c.args.self.now in
    let high : 256 ≤ c.in_ok-lot.lot = grind arith in
    let e = slip_unknown (length s.book.lanes) s.lists c.args.slip.now c.in_ok-lot.lot c.in_ok-lot.rest.now (sym c.in_ok-lot.ensures) high in
    let p = err_from_is_err_and c.from_residual-in_err-lot-2.result c.from_residual-in_err-lot-2.ensures.1 in
    rw (p.1, p.2) (grind (arith, ap lot_of e))

-- an accepted slip
accepted : (c : goal.After-enter) → slip_of (board c.args.self.now) c.args.slip.now ≡ Ok (c.in_ok-lot-2.lot, list_of c.in_ok-list.list)
accepted c =
    let s = board c.args.self.now in
    let small : c.in_ok-lot.lot < 256 = grind arith in
    let same : c.in_ok-lot-2.lot ≡ c.in_ok-lot.lot = grind arith in
    let fresh : is_some (list_at s.lists c.in_ok-lot.lot) ≡ false = grind arith in
    slip_read (length s.book.lanes) s.lists c.args.slip.now c.in_ok-lot.lot c.in_ok-lot.rest.now (sym c.in_ok-lot.ensures) small fresh (Ok (list_of c.in_ok-list.list)) (sym c.in_ok-list.ensures)
    ∙ ap (λ (n : ℕ). Ok (n, list_of c.in_ok-list.list)) (sym same)

left : (c : goal.After-enter) → board_from c.args.self.now.book c.enter.new.self ≡ enter (board c.args.self.now) c.args.slip.now
left c = ap (board_from c.args.self.now.book) c.enter.ensures ∙ sym (ap (entered (board c.args.self.now)) (accepted c))

pub invariant_of-self : goal.invariant_of-self
invariant_of-self c =
    let s = board c.args.self.now in
    let slip = c.args.slip.now in
    record { facts = subst RoundFacts (sym (left c)) (facts (enter s slip) (entered_formed s (formed c.args.self.now) slip)) }

pub returns : goal.returns
returns c =
    let d = (goal.at.returns c).After-enter in
    record { answer = sym (ap lot_of (accepted d)); board = left d }
