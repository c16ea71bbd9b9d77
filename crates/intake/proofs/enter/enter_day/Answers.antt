use Rattle.std.proofs.Common.{◌≡◌, ◌+◌, length, Ok, Err, Result, sym, ap, ◌∙◌, subst}
use Rattle.sheets.specs.declared.fault.Fault.{Fault}
use Rattle.books.specs.Contents.{Contents, contents}
use Rattle.books.specs.Opening.{opening, left}
use Rattle.boards.specs.Boards.{Board, begun}
use Rattle.boards.specs.Calls.{EveryRun}
use Rattle.days.specs.Input.{Day, day_of, in_day}
use Rattle.intake.specs.Slips.{cut, enter_all, day_round, day_board, board_in, HasRule}
use Rattle.intake.proofs.Counts.{slips_counted}
use Rattle.intake.proofs.Entries.{opened, day_reached}
use Rattle.intake.proofs.enter.enter_day.Goals as goal

pub returns : goal.returns
returns g c =
    let bs = c.args.bytes.now in
    let m = g.R.SharingRule.meaning c.args.rule in
    let d : Day = record { book = c.in_ok-day.day.book.now; slips = c.in_ok-day.day.slips.now } in
    let day : day_of bs ≡ Ok d = sym c.in_ok-day.ensures in
    let book : contents c.open_book.new.book ≡ left (opening d.book) = c.in_ok-open_book.ensures.book in
    let sheet : opening d.book ≡ Ok (left (opening d.book)) = opened (opening d.book) c.in_ok-open_book.ensures.answer in
    let place = 1 + length d.book in
    let entered : board_in c.enter_slips.result ≡ enter_all place (begun (left (opening d.book))) (cut d.slips) =
    c.enter_slips.ensures.board ∙ ap (λ (s : Board). enter_all place s (cut d.slips)) (c.begin.ensures.board ∙ ap begun book) in
    let whole : day_board bs ≡ enter_all place (begun (left (opening d.book))) (cut d.slips) =
    ap (λ (t : Result Day Fault). elim t [ Err f ↦ Err f | Ok d ↦ day_round d ]) day
    ∙ ap (λ (t : Result Contents Fault). elim t [ Err f ↦ Err (in_day f) | Ok c ↦ enter_all place (begun c) (cut d.slips) ]) sheet in
    record {
      board = entered ∙ sym whole;
      rule = subst (λ rule. HasRule rule c.enter_slips.result) c.begin.ensures.rule c.enter_slips.ensures.rule;
      slips_entered = day_reached m bs d place day (subst (λ (b : Contents). EveryRun b m) book c.begin.ensures.every_run) (board_in c.enter_slips.result) entered;
      each_slip_a_lot = slips_counted bs d place day (board_in c.enter_slips.result) entered;
    }
