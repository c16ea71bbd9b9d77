use Rattle.std.proofs.Common.{◌==◌, ap, sym, ◌∙◌, rules, tests}
use Rattle.std.proofs.lemmas.Iterator.{YieldsList-from_slice}
use Rattle.std.proofs.lemmas.Iterator.Search.{position_from_yields_List}
use Rattle.tables.specs.Cuts.{parted}
use Rattle.tables.proofs.Pieces.{pieces_at, pieces_unmarked}
use Rattle.tables.proofs.cut.cut.Goals as goal

pub returns-in_err-at : goal.returns-in_err-at
returns-in_err-at c =
    let bs = c.args.bytes.now in
    let place = position_from_yields_List (λ b. b == c.args.mark) _ _ c.position.result c.position.ensures.ran (YieldsList-from_slice bs cc) (λ x b q k. search (rules, tests)) in
    pieces_unmarked (λ b. b == c.args.mark) bs (sym c.in_err-at.was ∙ place) ∙ sym (ap (parted (λ b. b == c.args.mark) bs) c.from_residual.ensures)

pub returns : goal.returns
returns c =
    let bs = c.args.bytes.now in
    let place = position_from_yields_List (λ b. b == c.args.mark) _ _ c.position.result c.position.ensures.ran (YieldsList-from_slice bs cc) (λ x b q k. search (rules, tests)) in
    pieces_at (λ b. b == c.args.mark) bs c.in_ok-at.at (sym c.in_ok-at.was ∙ place)
