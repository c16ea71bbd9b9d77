use Rattle.std.proofs.Common.{◌≡◌, unwrap_or, sym, ap, ◌∙◌, arith}
use Rattle.std.proofs.lemmas.Option.{unwrap_or-slice_get}
use Rattle.sharing.specs.Rules.{at}
use Rattle.boards.specs.declared.line.Line.TheVariants.{Held}
use Rattle.boards.specs.Lines.{noted}
use Rattle.boards.specs.Slips.{list_of}
use Rattle.boards.proofs.BoardLines.{place_within}
use Rattle.boards.proofs.line.Line.after.Goals as goal

pub overflow_add-place_of : goal.overflow_add-place_of
overflow_add-place_of c =
    let w = c.args.list.now in
    omega (arith, c.place_of.ensures, place_within (list_of w) c.in-Held-Dropped.lane, w.few)

pub returns-in-Looking-Taken : goal.returns-in-Looking-Taken
returns-in-Looking-Taken c =
    let xs = list_of c.args.list.now in
    let n = c.in-Looking-Taken.next in
    let is : noted xs c.args.self c.args.event ≡ Held (at xs n) = λ i. noted xs (c.in-Looking-Taken.is-0 i) (c.in-Looking-Taken.is-1 i) in
    ap Held (c.unwrap_or.ensures ∙ ap (λ o. unwrap_or o 0) c.get.ensures ∙ unwrap_or-slice_get xs n 0) ∙ sym is
