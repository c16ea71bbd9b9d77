use Rattle.std.proofs.Common.{◌≡◌, ◌<◌, IfSome, Some, sym, ap, ◌∙◌, subst, arith}
use Rattle.books.specs.Contents.{contents}
use Rattle.books.proofs.Laid.{book_laid}
use Rattle.boards.specs.Searches.{seat}
use Rattle.boards.proofs.Seats.{seat_there, seat_not, seat_small}
use Rattle.rounds.proofs.lines.seat.Goals as goal

pub returns-in-Held : goal.returns-in-Held
returns-in-Held c =
    let b = contents c.args.book.now in
    let g = c.args.shed in
    let here : c.shed_of.result ≡ Some g = grind arith in
    let there = seat_there b g c.in-Held.lane (sym c.shed_of.ensures.answer ∙ here) in
    let place : c.place_of.result ≡ seat b g c.args.line = c.place_of.ensures ∙ sym there ∙ sym (ap (seat b g) c.in-Held.is) in
    record { place = place; on_card = subst (λ o. IfSome o (λ p. p < 8)) (sym place) (seat_small b (book_laid c.args.book.now) g c.args.line) }

pub returns-in_default-clause-place : goal.returns-in_default-clause-place
returns-in_default-clause-place c =
    let b = contents c.args.book.now in
    let g = c.args.shed in
    let never : c.shed_of.result ≡ Some g → ⊥ = λ e. grind (arith, e) in
    sym (ap (seat b g) c.in-Held.is ∙ seat_not b g c.in-Held.lane (λ e. never (c.shed_of.ensures.answer ∙ e)))
